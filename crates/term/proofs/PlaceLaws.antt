-- Laws of the functions of a module by their numbers: where each begins.
use Prim.Native.Nat.{ℕ, zero, suc, ◌+◌, ◌-◌, ◌≤◌}
use mathlib.Core.Path.{◌≡◌, refl, sym, ap, ◌∙◌}
use mathlib.Core.Option.{some}
use mathlib.Core.List.{List, ◌++◌}
use native.Mathlib.Omega.{arith}
use native.Mathlib.Nat.{add-zero}
use lib.ListN.{length, drop, length-append, drop_of_length-le}
use Rattle.lists.proofs.Tests.{none_not_some, some_injective}
use Rattle.term.specs.Tree.{Term, Terms, end, ◌then◌, words, words_of, first, rest, WholeAll}
use Rattle.term.specs.Module.{function_of}
use Rattle.term.specs.Rows.{passed}
use Rattle.term.specs.Places.{start_from}
use Rattle.term.proofs.TreeLaws.{words_split}
use Rattle.term.proofs.RowLaws.{drop_past, passed_term, passed_none}

-- past the end nothing begins
pub start_past : (l : List ℕ) (at number : ℕ) → length l ≤ at → start_from l at number ≡ at
unfolding start_from passed
start_past l at zero h = refl
start_past l at (suc number) h =
    let e : at + passed (drop at l) 1 ≡ at = rw (drop_of_length-le l h) (add-zero at) in
    ap (λ (j : ℕ). start_from l j number) e ∙ start_past l at number h

pub start_next : (l : List ℕ) (at number : ℕ) → ¬ (number ≡ 0) → start_from l at number ≡ start_from l (at + passed (drop at l) 1) (number - 1)
unfolding start_from
start_next l at zero ne = absurd (ne refl)
start_next l at (suc number) ne = let e : number ≡ suc number - 1 = omega arith in ap (start_from l (at + passed (drop at l) 1)) e

first_none : (number : ℕ) → first number end ≡ end
unfolding first
first_none zero = refl
first_none (suc number) = refl

-- the terms before that of a number
pub starts_at : (ts : Terms) (l : List ℕ) (at number : ℕ) → WholeAll ts → drop at l ≡ words_of ts → start_from l at number ≡ at + length (words_of (first number ts))
unfolding start_from words_of first WholeAll passed
starts_at ts l at zero h e = sym (add-zero at)
starts_at end l at (suc number) h e =
    let p : at + passed (drop at l) 1 ≡ at = rw e (add-zero at) in
    ap (λ (j : ℕ). start_from l j number) p ∙ starts_at end l at number h e ∙ ap (λ (ts : Terms). at + length (words_of ts)) (first_none number)
starts_at (t then ts) l at (suc number) h e =
    let p : passed (drop at l) 1 ≡ length (words t) =
    ap (λ (m : List ℕ). passed m 1) e ∙ passed_term t (words_of ts) 0 h.0 ∙ ap (λ (j : ℕ). length (words t) + j) (passed_none (words_of ts)) ∙ add-zero (length (words t)) in
    ap (λ (j : ℕ). start_from l (at + j) number) p
    ∙ starts_at ts l (at + length (words t)) number h.1 (drop_past l at (words t) (words_of ts) e)
    ∙ omega (arith, length-append (words t) (words_of (first number ts)))

-- the function of a number stands where it begins
function_split : (ts : Terms) (number : ℕ) (f : Term) → function_of ts number ≡ some f → rest number ts ≡ f then rest (suc number) ts
unfolding function_of rest
function_split end number f e = none_not_some e
function_split (t then ts) zero f e = ap (λ (u : Term). u then ts) (some_injective e)
function_split (t then ts) (suc number) f e = function_split ts number f e

pub function_stands : (ts : Terms) (l : List ℕ) (number : ℕ) (f : Term) → WholeAll ts → words_of ts ≡ l → function_of ts number ≡ some f
    → drop (start_from l 0 number) l ≡ words f ++ words_of (rest (suc number) ts)
unfolding words_of
function_stands ts l number f h e g =
    ap (λ (j : ℕ). drop j l) (starts_at ts l 0 number h (sym e))
    ∙ drop_past l 0 (words_of (first number ts)) (words_of (rest number ts)) (sym e ∙ words_split number ts)
    ∙ ap words_of (function_split ts number f g)
