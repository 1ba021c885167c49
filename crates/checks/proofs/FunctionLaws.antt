-- The functions of a module, read one after another for shape with their parameter counts noted, then gone through for the rules.
use Prim.Native.Nat.{ℕ, zero, suc, ◌+◌, ◌≤◌, ◌<◌}
use mathlib.Core.Path.{◌≡◌, refl, sym, ap, ◌∙◌}
use mathlib.Core.Bool.{false}
use mathlib.Core.Option.{none, some}
use mathlib.Core.List.{List, [], ◌∷◌, ◌++◌}
use native.Mathlib.Omega.{arith}
use native.Mathlib.Numerals.{add-one}
use Rattle.std.specs.Prelude.{Result, Ok, Err, IsErrAnd}
use lib.ListN.{length, get_or, set, take, drop, replicate, drop_of_length-le}
use lib.Seq.{take-suc-set, drop-append_seam}
use Rattle.lists.specs.Lists.{member}
use Rattle.lists.proofs.Tests.{true_not_false, some_injective}
use Rattle.term.specs.Words.{word, n_of}
use Rattle.term.specs.Table.{tags_at, fits, spot_function}
use Rattle.term.specs.Tree.{Term, Terms, int, node, end, ◌then◌, words, words_of, count}
use Rattle.term.specs.Shape.{shape, wanted, module_shape}
use Rattle.term.specs.Fit.{Fit, FitAll}
use Rattle.term.specs.Module.{parameters_of, arities_of}
use Rattle.term.specs.Control.{module_arities}
use Rattle.rows.specs.declared.terms.BadWord.{BadWord}
use Rattle.shape.specs.Reading.{onward, Reads}
use Rattle.checks.specs.Checking.{bad_of, ReadFunctions}
use Rattle.term.proofs.WordLaws.{n_word}
use Rattle.term.proofs.RowLaws.{drop_head, here, count_within}
use Rattle.term.proofs.TreeLaws.{length_all, ◌and_all◌, words_all, count_all, all_end}
use Rattle.term.proofs.ShapeLaws.{shape_terms, shape_misfit, Functions as ShapedFunctions, shaped_module}
use Rattle.shape.proofs.ReadingLaws.{further_ends, passed_on}

-- a spot that no word fits shows where reading has come to
abbrev no_spot : ℕ
no_spot = 6

no_fit : (places w : ℕ) → fits places no_spot w ≡ false
unfolding fits tags_at member
no_fit places w = refl

shape_stops : (places : ℕ) (l : List ℕ) (at : ℕ) → shape places [] l (no_spot ∷ []) at ≡ some at
unfolding shape
shape_stops places [] at = refl
shape_stops places (w ∷ l) at = shape_misfit places [] w no_spot l [] at (no_fit places w)

-- reading well-shaped terms ends where they do
pub reads_end : (places : ℕ) (l : List ℕ) (at spot times a : ℕ) (ts : Terms) (rest : List ℕ) → Reads places l at spot times (Ok a) → FitAll places ts (replicate times spot) → drop at l ≡ words_of ts ++ rest
    → a ≡ at + length (words_of ts)
unfolding onward
reads_end places l at spot times a ts rest h f row =
    some_injective (
    sym (shape_stops places (drop a l) a)
    ∙ sym (h.answer [] (no_spot ∷ []))
    ∙ ap (λ (m : List ℕ). shape places [] m (replicate times spot ++ (no_spot ∷ [])) at) row
    ∙ shape_terms places [] ts (replicate times spot) rest (no_spot ∷ []) at f
    ∙ shape_stops places rest (at + length (words_of ts)))

-- an integer is no function
pub no_integer_function : (x : ℕ) → ¬ Fit 0 spot_function (int x)
unfolding Fit fits tags_at member
no_integer_function x f = true_not_false f refl

-- the functions so far, and those still to come
pub record Counted (counts : List ℕ) (at number : ℕ) (ts : Terms) : Type 0 where
  pub done : Terms
  pub left : Terms
  pub many : ℕ
  pub is : ts ≡ done and_all left
  pub fit : FitAll 0 left (replicate many spot_function)
  pub at_is : at ≡ length (words_of done)
  pub number_is : number ≡ count done
  pub noted : take number counts ≡ arities_of done

pub record SoFar (l counts : List ℕ) (at number : ℕ) : Type 0 where
  pub few : number ≤ at
  pub same : module_shape l ≡ shape 0 (spot_function ∷ []) (drop at l) [] at
  pub counted : (ts : Terms) (m : ℕ) → FitAll 0 ts (replicate m spot_function) → words_of ts ≡ l → Counted counts at number ts

begins : (l : List ℕ) (at : ℕ) → at < length l → shape 0 (spot_function ∷ []) (drop at l) [] at ≡ shape 0 (spot_function ∷ []) (drop at l) (spot_function ∷ []) at
unfolding shape wanted
begins l at h = rw (drop_head l at h)

pub so_far_start : (l counts : List ℕ) → ¬ (length l ≡ 0) → SoFar l counts 0 0
unfolding module_shape ◌and_all◌ words_of count arities_of
so_far_start l counts ne =
    record {
      few = omega arith;
      same = sym (begins l 0 (omega arith));
      counted = λ ts m f e. record { done = end; left = ts; many = m; is = refl; fit = f; at_is = refl; number_is = refl; noted = refl };
    }

all_assoc : (ts us vs : Terms) → (ts and_all us) and_all vs ≡ ts and_all (us and_all vs)
unfolding ◌and_all◌
all_assoc end us vs = refl
all_assoc (t then ts) us vs = ap (λ (rest : Terms). t then rest) (all_assoc ts us vs)

arities_last : (ts : Terms) (t : Term) → arities_of (ts and_all (t then end)) ≡ arities_of ts ++ (parameters_of t ∷ [])
unfolding ◌and_all◌ arities_of
arities_last end t = refl
arities_last (u then ts) t = ap (λ (rest : List ℕ). parameters_of u ∷ rest) (arities_last ts t)

-- what stands at the position come to
left_row : (l counts : List ℕ) (at number : ℕ) (ts : Terms) → words_of ts ≡ l → (c : Counted counts at number ts) → drop at l ≡ words_of c.left
left_row l counts at number ts e c =
    let d : l ≡ words_of c.done ++ words_of c.left = sym e ∙ ap words_of c.is ∙ words_all c.done c.left in
    ap (λ (j : ℕ). drop j l) c.at_is ∙ ap (drop (length (words_of c.done))) d ∙ drop-append_seam (words_of c.done) (words_of c.left)

pub no_words : (ts : Terms) → length (words_of ts) ≡ 0 → ts ≡ end
unfolding count
no_words end e = refl
no_words (t then ts) e = absurd (omega (arith, count_within (t then ts)))

-- one function more
next_counted : (l counts : List ℕ) (at number : ℕ) (ts done left : Terms) (many : ℕ) → ts ≡ done and_all left → FitAll 0 left (replicate many spot_function) → at ≡ length (words_of done) → number ≡ count done
    → take number counts ≡ arities_of done → drop at l ≡ words_of left → at < length l → (a : ℕ) → Reads 0 l at spot_function 1 (Ok a) → number < length counts → (n : ℕ) → n ≡ n_of (get_or l at 0)
    → Counted (set counts number n) a (number + 1) ts
unfolding FitAll Fit words_of words count ◌and_all◌ parameters_of
next_counted l counts at number ts done end many is fit at_is number_is noted row lt a h room n en =
    let z : ◌≡◌ {A = ℕ} 0 1 = cc (row, drop_head l at lt) in absurd (omega arith)
next_counted l counts at number ts done (t then vs) zero is fit at_is number_is noted row lt a h room n en = absurd fit
next_counted l counts at number ts done (int x then vs) (suc many) is fit at_is number_is noted row lt a h room n en = absurd (no_integer_function x fit.0)
next_counted l counts at number ts done (node tag m k us then vs) (suc many) is fit at_is number_is noted row lt a h room n en =
    let t = node tag m k us in
    let w = (here l at (word tag m k) (words_of us ++ words_of vs) row).word_is in
    let nm : n ≡ m = en ∙ ap n_of w ∙ n_word tag m k fit.0.0.n_fits fit.0.0.k_fits in
    let stop : a ≡ at + length (words_of (t then end)) = reads_end 0 l at spot_function 1 a (t then end) (words_of vs) h (fit.0, tt) (row ∙ words_all (t then end) vs) in
    record {
      done = done and_all (t then end);
      left = vs;
      many = many;
      is = is ∙ sym (all_assoc done (t then end) vs);
      fit = fit.1;
      at_is = omega (arith, stop, at_is, length_all done (t then end));
      number_is = omega (arith, number_is, count_all done (t then end));
      noted =
          ap (λ (j : ℕ). take j (set counts number n)) (add-one number)
          ∙ take-suc-set counts number n room
          ∙ ap (λ (xs : List ℕ). xs ++ (n ∷ [])) noted
          ∙ ap (λ (j : ℕ). arities_of done ++ (j ∷ [])) nm
          ∙ sym (arities_last done t);
    }

-- no words are no functions
pub empty_module : (l counts : List ℕ) → length l ≡ 0 → ReadFunctions l counts (Err (record { 0 = 0 }))
unfolding bad_of module_shape shape
empty_module [] counts e = record { answer = refl; counted = λ m i. let z : ◌≡◌ {A = ℕ} 0 1 = cc in absurd (omega arith) }
empty_module (w ∷ l) counts e = absurd (omega arith)

module _ (l counts : List ℕ) (at number : ℕ) (s : SoFar l counts at number) where
  module _ (h : length l ≤ at) where
    passed : module_shape l ≡ none
    unfolding shape
    passed = s.same ∙ rw (drop_of_length-le l h)

    all_noted : (f : ShapedFunctions l) → take number counts ≡ module_arities l
    unfolding module_arities
    all_noted f =
        let c = s.counted f.terms (suc f.others) f.fit f.same_words in
        let e : c.left ≡ end = no_words c.left (ap length (sym (left_row l counts at number f.terms f.same_words c) ∙ drop_of_length-le l h)) in
        c.noted ∙ ap arities_of (sym (c.is ∙ ap (λ (us : Terms). c.done and_all us) e ∙ all_end c.done)) ∙ ap arities_of (sym f.read_as)

    pub so_far_done : number ≤ length counts → ReadFunctions l counts (Ok number)
    unfolding bad_of
    so_far_done few =
        record {
          answer = sym passed;
          counted = λ m e. let i : number ≡ m = cc in (rw i at (all_noted (shaped_module l passed)), omega arith);
        }

  module _ (lt : at < length l) where
    onward_is : (r : Result ℕ BadWord) → Reads 0 l at spot_function 1 r → module_shape l ≡ onward 0 (spot_function ∷ []) l [] r
    onward_is r h = s.same ∙ begins l at lt ∙ h.answer (spot_function ∷ []) []

    fails : (bad : BadWord) → Reads 0 l at spot_function 1 (Err bad) → ReadFunctions l counts (Err bad)
    unfolding bad_of onward
    fails bad h = record { answer = sym (onward_is (Err bad) h); counted = λ m i. let z : ◌≡◌ {A = ℕ} 0 1 = cc in absurd (omega arith) }

    pub so_far_fails : (bad : BadWord) → Reads 0 l at spot_function 1 (Err bad) → (r : Result ℕ BadWord) → IsErrAnd r (λ e. e ≡ bad) → ReadFunctions l counts r
    so_far_fails bad h r p = rw (passed_on r bad p) (fails bad h)

    pub so_far_next : (a : ℕ) → Reads 0 l at spot_function 1 (Ok a) → number < length counts → (n : ℕ) → n ≡ n_of (get_or l at 0) → SoFar l (set counts number n) a (number + 1)
    unfolding onward
    so_far_next a h room n en =
        record {
          few = omega (arith, s.few, further_ends 0 l at spot_function 1 a (omega arith) h);
          same = onward_is (Ok a) h;
          counted = λ ts m f q.
              let c = s.counted ts m f q in
              next_counted l counts at number ts c.done c.left c.many c.is c.fit c.at_is c.number_is c.noted (left_row l counts at number ts q c) lt a h room n en;
        }
