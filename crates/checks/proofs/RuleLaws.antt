-- The functions of a well-shaped module, gone through one after another for the rules.
use Prim.Native.Nat.{ℕ, zero, suc, ◌+◌, ◌≤◌, ◌<◌}
use mathlib.Core.Path.{◌≡◌, refl, sym, ap, ◌∙◌}
use mathlib.Core.Logic.{inl, inr}
use mathlib.Core.Bool.{Bool, true, false}
use mathlib.Core.List.{List, [], ◌++◌}
use native.Mathlib.Omega.{arith}
use native.Mathlib.Numerals.{add-one}
use Rattle.std.specs.Prelude.{Result, Ok, Err, IsErrAnd, ⊤}
use lib.Dec.{eqb}
use lib.ListN.{length, get_or, drop, replicate, drop_of_length-le}
use Rattle.lists.specs.Lists.{member, up_to}
use Rattle.lists.proofs.Tests.{eqb-true, or_true, true_not_false}
use Rattle.term.specs.Words.{word, tag_of, n_of, tag_function}
use Rattle.term.specs.Table.{table, row_of, child_count, arity, tags_at, fits, child_spots, spot_function}
use Rattle.term.specs.Tree.{Terms, int, node, end, ◌then◌, words, words_of}
use Rattle.term.specs.Fit.{Fit, FitAll}
use Rattle.term.specs.Binding.{Walk, and_then, keeps_all, function_keeps, functions_keep}
use Rattle.term.specs.Module.{breaker}
use Rattle.rows.specs.declared.terms.BadWord.{BadWord}
use Rattle.checks.specs.Walking.{Marks, Stands, Keeps, variables, check_numbers}
use Rattle.checks.specs.Checking.{bad_of, KeepsFunctions}
use Rattle.term.proofs.WordLaws.{tag_word, n_word}
use Rattle.term.proofs.RowLaws.{drop_head, here, drop_past}
use Rattle.term.proofs.ShapeLaws.{fits_parts}
use Rattle.shape.proofs.ReadingLaws.{passed_on}
use Rattle.checks.proofs.WalkLaws.{agrees_broke, agrees_past}
use Rattle.checks.proofs.ControlLaws.{no_marks}
use Rattle.checks.proofs.FunctionLaws.{no_integer_function, no_words}

-- a function stands here
record FunctionHere (l : List ℕ) (at : ℕ) (ts : Terms) : Type 0 where
  tag : ℕ
  n : ℕ
  k : ℕ
  children : Terms
  others : Terms
  many : ℕ
  is : ts ≡ node tag n k children then others
  fit : FitAll 0 others (replicate many spot_function)
  n_is : n_of (get_or l at 0) ≡ n
  stands : Stands l (at + 1) 1 children
  row : drop (at + 1 + length (words_of children)) l ≡ words_of others

only_function : (w : ℕ) → fits 0 spot_function w ≡ true → tag_of w ≡ tag_function
unfolding tags_at member
only_function w f = elim (or_true (eqb (tag_of w) tag_function) false (fits_parts 0 spot_function w f).tag_there) [ inl e ↦ eqb-true (tag_of w) tag_function e | inr e ↦ true_not_false e refl ]

one_child : (tag n : ℕ) → tag ≡ tag_function → arity tag n ≡ 1
unfolding arity row_of table child_count
one_child tag n e = rw e

function_here : (l : List ℕ) (at : ℕ) (ts : Terms) (many : ℕ) → FitAll 0 ts (replicate many spot_function) → drop at l ≡ words_of ts → at < length l → FunctionHere l at ts
unfolding FitAll Fit words_of words
function_here l at end many fit row lt = let z : ◌≡◌ {A = ℕ} 0 1 = cc (row, drop_head l at lt) in absurd (omega arith)
function_here l at (t then ts) zero fit row lt = absurd fit
function_here l at (int x then ts) (suc many) fit row lt = absurd (no_integer_function x fit.0)
function_here l at (node tag n k us then ts) (suc many) fit row lt =
    let h = here l at (word tag n k) (words_of us ++ words_of ts) row in
    let tg : tag ≡ tag_function = sym (tag_word tag n k fit.0.0.n_fits fit.0.0.k_fits) ∙ only_function (word tag n k) fit.0.1 in
    record {
      tag = tag;
      n = n;
      k = k;
      children = us;
      others = ts;
      many = many;
      is = refl;
      fit = fit.1;
      n_is = ap n_of h.word_is ∙ n_word tag n k fit.0.0.n_fits fit.0.0.k_fits;
      stands =
          record {
            places = 0;
            spots = child_spots spot_function (word tag n k);
            rest = words_of ts;
            fit = fit.0.2;
            many = fit.0.0.all_children ∙ one_child tag n tg;
            row = h.after_is;
          };
      row = drop_past l (at + 1) (words_of us) (words_of ts) h.after_is;
    }

-- the functions still to come
record Left (l arities : List ℕ) (at : ℕ) (checks : List Bool) (ts : Terms) : Type 0 where
  left : Terms
  many : ℕ
  numbers : List ℕ
  fit : FitAll 0 left (replicate many spot_function)
  row : drop at l ≡ words_of left
  marks : Marks check_numbers checks numbers
  same : functions_keep arities ts 0 [] ≡ functions_keep arities left at numbers

pub record Going (l arities : List ℕ) (at : ℕ) (checks : List Bool) : Type 0 where
  to_come : (ts : Terms) (m : ℕ) → FitAll 0 ts (replicate m spot_function) → words_of ts ≡ l → Left l arities at checks ts

pub going_start : (l arities : List ℕ) → Going l arities 0 (replicate check_numbers false)
going_start l arities =
    record { to_come = λ ts m f e. record { left = ts; many = m; numbers = []; fit = f; row = sym e; marks = no_marks check_numbers; same = refl } }

-- a function, then the others
functions_step : (arities : List ℕ) (tag n k : ℕ) (us ts : Terms) (at : ℕ) (checks : List ℕ)
    → functions_keep arities (node tag n k us then ts) at checks ≡ and_then (keeps_all arities true (up_to n) us (at + 1) checks) (λ at' scope checks'. functions_keep arities ts at' checks')
unfolding functions_keep function_keeps
functions_step arities tag n k us ts at checks =
    ap (λ (j : ℕ). and_then (keeps_all arities true (up_to n) us j checks) (λ at' scope checks'. functions_keep arities ts at' checks')) (sym (add-one at))

module _ (l arities : List ℕ) (at : ℕ) (checks : List Bool) (s : Going l arities at checks) where
  pub going_done : length l ≤ at → KeepsFunctions l arities (Ok tt)
  unfolding bad_of breaker functions_keep
  going_done h =
      record {
        answer = λ ts m f e.
            let c = s.to_come ts m f e in
            let z : c.left ≡ end = no_words c.left (ap length (sym c.row ∙ drop_of_length-le l h)) in
            sym (ap breaker (c.same ∙ ap (λ (us : Terms). functions_keep arities us at c.numbers) z));
      }

  module _ (lt : at < length l) (n : ℕ) (en : n ≡ n_of (get_or l at 0)) (scope : List Bool) (m : Marks variables scope (up_to n)) (after : List Bool) where
    walk : (ts : Terms) (c : Left l arities at checks ts) (f : FunctionHere l at c.left)
        → functions_keep arities ts 0 [] ≡ and_then (keeps_all arities true (up_to f.n) f.children (at + 1) c.numbers) (λ at' scope' checks'. functions_keep arities f.others at' checks')
    walk ts c f = c.same ∙ ap (λ (us : Terms). functions_keep arities us at c.numbers) f.is ∙ functions_step arities f.tag f.n f.k f.children f.others at c.numbers

    pub going_breaks : (bad : BadWord) → Keeps l (at + 1) 1 scope arities true checks after (Err bad) → (r : Result ⊤ BadWord) → IsErrAnd r (λ e. e ≡ bad) → KeepsFunctions l arities r
    unfolding bad_of breaker and_then
    going_breaks bad k r p =
        rw (passed_on r bad p)
        record {
          answer = λ ts j f q.
              let c = s.to_come ts j f q in
              let h = function_here l at c.left c.many c.fit c.row lt in
              let mm : Marks variables scope (up_to h.n) = rw (en ∙ h.n_is) at m in
              let w = agrees_broke _ _ _ bad (k.answer h.children (up_to h.n) c.numbers h.stands mm c.marks) in
              sym (ap breaker (walk ts c h ∙ ap (λ (x : Walk). and_then x (λ at' scope' checks'. functions_keep arities h.others at' checks')) w));
        }

    pub going_next : (a : ℕ) → Keeps l (at + 1) 1 scope arities true checks after (Ok a) → Going l arities a after
    unfolding and_then
    going_next a k =
        record {
          to_come = λ ts j f q.
              let c = s.to_come ts j f q in
              let h = function_here l at c.left c.many c.fit c.row lt in
              let mm : Marks variables scope (up_to h.n) = rw (en ∙ h.n_is) at m in
              let w = agrees_past _ _ _ a (k.answer h.children (up_to h.n) c.numbers h.stands mm c.marks) in
              record {
                left = h.others;
                many = h.many;
                numbers = w.checks;
                fit = h.fit;
                row = ap (λ (i : ℕ). drop i l) w.stops ∙ h.row;
                marks = w.what_left;
                same = walk ts c h ∙ ap (λ (x : Walk). and_then x (λ at' scope' checks'. functions_keep arities h.others at' checks')) w.is;
              };
        }
