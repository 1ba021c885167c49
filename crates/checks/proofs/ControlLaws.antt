-- What the code's control check returns, by the tests that it makes.
use Prim.Native.Nat.{ℕ, ◌≤◌, ◌<◌}
use mathlib.Core.Path.{◌≡◌, refl, sym, ap, ◌∙◌}
use mathlib.Core.Bool.{Bool, true, false}
use mathlib.Core.Option.{none, some}
use mathlib.Core.List.{List, [], ◌∷◌, append-nil}
use Rattle.std.specs.Prelude.{Result, Ok, Err, is_ok}
use lib.ListN.{length, replicate, length-replicate, get_or-replicate, drop_of_length-le}
use Rattle.lists.specs.Lists.{member}
use Rattle.term.specs.Table.{spot_expression}
use Rattle.term.specs.Tree.{Term, ◌then◌, end, words_of, count}
use Rattle.term.specs.Read.{term_of}
use Rattle.term.specs.Shape.{shape, wanted, control_shape}
use Rattle.term.specs.Fit.{FitAll}
use Rattle.term.specs.Binding.{Walk, breaks, passes, and_then, keeps, keeps_all}
use Rattle.term.specs.Module.{breaker}
use Rattle.term.specs.Control.{keeps_rules, good_control}
use Rattle.rows.specs.declared.terms.BadWord.{BadWord}
use Rattle.shape.specs.Reading.{onward, Reads}
use Rattle.checks.specs.Walking.{Marks, Stands, Keeps, variables, check_numbers}
use Rattle.term.proofs.RowLaws.{drop_head}
use Rattle.term.proofs.TreeLaws.{words_one}
use Rattle.term.proofs.ShapeLaws.{Shaped, shaped_control}
use Rattle.checks.proofs.WalkLaws.{agrees_broke, agrees_past}

-- no marks, for no numbers
pub no_marks : (size : ℕ) → Marks size (replicate size false) []
unfolding member
no_marks size = record { long = length-replicate size false; told = λ k h. get_or-replicate size k false false h }

one_breaker : (arities : List ℕ) (unique : Bool) (scope : List ℕ) (t : Term) (at : ℕ) (checks : List ℕ)
    → breaker (keeps arities unique scope t at checks) ≡ breaker (keeps_all arities unique scope (t then end) at checks)
unfolding keeps_all breaker and_then
one_breaker arities unique scope t at checks = go (keeps arities unique scope t at checks)
  where
    go : (w : Walk) → breaker w ≡ breaker (and_then w (λ at' scope' checks'. passes at' scope checks'))
    go (breaks p) = refl
    go (passes at' scope' checks') = refl

-- what the control check comes to
module _ (places : ℕ) (arities l : List ℕ) where
  bad_shape : (p : ℕ) → control_shape places l ≡ some p → false ≡ good_control places arities l
  unfolding good_control
  bad_shape p e = sym (rw (e, good_control))

  good_shape : control_shape places l ≡ none → good_control places arities l ≡ keeps_rules arities (term_of l)
  unfolding good_control
  good_shape e = rw (e, good_control)

  bad_rules : (t : Term) (p : ℕ) → breaker (keeps arities false [] t 0 []) ≡ some p → keeps_rules arities t ≡ false
  unfolding keeps_rules
  bad_rules t p e = rw (e, keeps_rules)

  good_rules : (t : Term) → breaker (keeps arities false [] t 0 []) ≡ none → keeps_rules arities t ≡ true
  unfolding keeps_rules
  good_rules t e = rw (e, keeps_rules)

  reading : (r : Result ℕ BadWord) → Reads places l 0 spot_expression 1 r → control_shape places l ≡ onward places [] l [] r
  unfolding control_shape
  reading r h = h.answer [] []

  pub control_fails : (bad : BadWord) → Reads places l 0 spot_expression 1 (Err bad) → false ≡ good_control places arities l
  unfolding onward
  control_fails bad h = bad_shape bad.0 (reading (Err bad) h)

  module _ (a : ℕ) (h : Reads places l 0 spot_expression 1 (Ok a)) where
    pub control_more : a < length l → false ≡ good_control places arities l
    unfolding onward shape wanted
    control_more more = bad_shape a (reading (Ok a) h ∙ rw (drop_head l a more))

    module _ (all : length l ≤ a) (after : List Bool) where
      shaped : control_shape places l ≡ none
      unfolding onward shape
      shaped = reading (Ok a) h ∙ rw (drop_of_length-le l all)

      control : Shaped places spot_expression l
      control = shaped_control places l shaped

      stands : Stands l 0 1 (control.term then end)
      unfolding FitAll count
      stands =
          record {
            places = places;
            spots = spot_expression ∷ [];
            rest = [];
            fit = (control.fit, tt);
            many = refl;
            row = sym (append-nil (words_of (control.term then end)) ∙ words_one control.term ∙ control.same_words);
          }

      same_rules : good_control places arities l ≡ keeps_rules arities control.term
      same_rules = good_shape shaped ∙ ap (keeps_rules arities) control.read_as

      -- the walk keeps the rules, or a word breaks one
      pub control_kept : (r : Result ℕ BadWord) → Keeps l 0 1 (replicate variables false) arities false (replicate check_numbers false) after r → is_ok r ≡ good_control places arities l
      unfolding breaker
      control_kept (Err bad) k =
          let agrees = k.answer (control.term then end) [] [] stands (no_marks variables) (no_marks check_numbers) in
          sym (same_rules ∙ bad_rules control.term bad.0 (one_breaker arities false [] control.term 0 [] ∙ ap breaker (agrees_broke _ _ _ bad agrees)))
      control_kept (Ok b) k =
          let agrees = k.answer (control.term then end) [] [] stands (no_marks variables) (no_marks check_numbers) in
          sym (same_rules ∙ good_rules control.term (one_breaker arities false [] control.term 0 [] ∙ ap breaker (agrees_past _ _ _ b agrees).is))
