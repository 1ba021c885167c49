-- What the code's module check returns, by the tests that it makes.
use Prim.Native.Nat.{ℕ, zero, suc, ◌≤◌, ◌<◌}
use mathlib.Core.Path.{◌≡◌, refl, sym, ap, ◌∙◌}
use mathlib.Core.Option.{none, some}
use mathlib.Core.List.{List, [], ◌∷◌}
use native.Mathlib.Omega.{arith}
use Rattle.std.specs.Prelude.{Result, Ok, Err, IsErrAnd, ⊤}
use lib.ListN.{length, get_or, take, replicate}
use Rattle.lists.proofs.Tests.{ltb_of, ltb_over, eqb_of, eqb_apart, none_not_some, some_injective}
use Rattle.term.specs.Table.{spot_function}
use Rattle.term.specs.Tree.{Terms, end, ◌then◌}
use Rattle.term.specs.Read.{terms_of}
use Rattle.term.specs.Shape.{module_shape}
use Rattle.term.specs.Fit.{FitAll}
use Rattle.term.specs.Binding.{breaks, functions_keep}
use Rattle.term.specs.Module.{longest_module, arities_of, rules_from, breaker, first_breaker, check_module}
use Rattle.term.specs.Control.{module_arities}
use Rattle.rows.specs.declared.terms.BadWord.{BadWord}
use Rattle.checks.specs.Checking.{bad_of, ReadFunctions, KeepsFunctions}
use Rattle.term.proofs.ShapeLaws.{Functions as ShapedFunctions, shaped_module}
use Rattle.shape.proofs.ReadingLaws.{passed_on}
use Rattle.term.proofs.GoodLaws.{answer, check_is}

-- an answer of the module check is the only one that its contract allows
pub one_answer : (r s : Result ⊤ BadWord) → bad_of r ≡ bad_of s → r ≡ s
unfolding bad_of
one_answer (Ok done) (Ok done') e = refl
one_answer (Ok done) (Err bad) e = none_not_some e
one_answer (Err bad) (Ok done) e = none_not_some (sym e)
one_answer (Err bad) (Err bad') e = let same : bad ≡ bad' = λ i. record { 0 = some_injective e i } in ap Err same

-- what the check returns, by the tests that it makes
pub module_long : (l : List ℕ) → longest_module < length l → bad_of {A = ⊤} (Err (record { 0 = longest_module })) ≡ check_module l
unfolding bad_of answer
module_long l h = sym (check_is l ∙ rw (ltb_of longest_module (length l) h))

first_rules : (counts : List ℕ) (fs : Terms) → ¬ (get_or counts 0 0 ≡ 0) → some 0 ≡ breaker (rules_from counts fs)
unfolding rules_from breaker
first_rules [] fs d = refl
first_rules (c ∷ counts) fs d = let e : rules_from (c ∷ counts) fs ≡ breaks 0 = rw (eqb_apart c 0 d, rules_from) in sym (ap breaker e)

later_rules : (counts : List ℕ) (fs : Terms) → ¬ (length counts ≡ 0) → get_or counts 0 0 ≡ 0 → functions_keep counts fs 0 [] ≡ rules_from counts fs
unfolding rules_from
later_rules [] fs ne e = absurd (ne refl)
later_rules (c ∷ counts) fs ne e = sym (rw (eqb_of c 0 e, rules_from))

some_function : (ts : Terms) (others : ℕ) → FitAll 0 ts (replicate (suc others) spot_function) → ¬ (length (arities_of ts) ≡ 0)
unfolding FitAll arities_of
some_function end others f e = f
some_function (t then ts) others f e = omega arith

take_first : (m : ℕ) (counts : List ℕ) → ¬ (length (take m counts) ≡ 0) → get_or (take m counts) 0 0 ≡ get_or counts 0 0
take_first zero counts ne = absurd (ne refl)
take_first (suc m) [] ne = absurd (ne refl)
take_first (suc m) (x ∷ counts) ne = refl

-- no more functions are counted than there is room for
pub counted_few : (l counts : List ℕ) (m : ℕ) → ReadFunctions l counts (Ok m) → m ≤ length counts
counted_few l counts m h = (h.counted m refl).1

module _ (l counts : List ℕ) (short : length l ≤ longest_module) where
  pub functions_fail : (bad : BadWord) → ReadFunctions l counts (Err bad) → some bad.0 ≡ check_module l
  unfolding bad_of answer
  functions_fail bad h = sym (check_is l ∙ rw (ltb_over longest_module (length l) short, sym h.answer))

  pub module_fails : (bad : BadWord) → ReadFunctions l counts (Err bad) → (r : Result ⊤ BadWord) → IsErrAnd r (λ e. e ≡ bad) → bad_of r ≡ check_module l
  unfolding bad_of
  module_fails bad h r p = rw (passed_on r bad p) (functions_fail bad h)

  module _ (m : ℕ) (h : ReadFunctions l counts (Ok m)) where
    passed : module_shape l ≡ none
    unfolding bad_of
    passed = sym h.answer

    functions : ShapedFunctions l
    functions = shaped_module l passed

    noted : take m counts ≡ arities_of (terms_of l)
    unfolding module_arities
    noted = (h.counted m refl).0

    check_rest : check_module l ≡ breaker (rules_from (take m counts) (terms_of l))
    unfolding answer first_breaker
    check_rest = check_is l ∙ rw (ltb_over longest_module (length l) short, passed, noted)

    counts_there : ¬ (length (take m counts) ≡ 0)
    counts_there z = some_function functions.terms functions.others functions.fit (ap length (sym (noted ∙ ap arities_of functions.read_as)) ∙ z)

    first_count : get_or (take m counts) 0 0 ≡ get_or counts 0 0
    first_count = take_first m counts counts_there

    pub module_first : ¬ (get_or counts 0 0 ≡ 0) → bad_of {A = ⊤} (Err (record { 0 = 0 })) ≡ check_module l
    unfolding bad_of
    module_first d = first_rules (take m counts) (terms_of l) (λ z. d (sym first_count ∙ z)) ∙ sym check_rest

    pub module_rules : get_or counts 0 0 ≡ 0 → (q : Result ⊤ BadWord) → KeepsFunctions l (take m counts) q → bad_of q ≡ check_module l
    module_rules z q k =
        k.answer functions.terms (suc functions.others) functions.fit functions.same_words
        ∙ ap (λ (ts : Terms). breaker (functions_keep (take m counts) ts 0 [])) (sym functions.read_as)
        ∙ ap breaker (later_rules (take m counts) (terms_of l) counts_there (first_count ∙ z))
        ∙ sym check_rest
