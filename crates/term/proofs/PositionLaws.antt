-- The position of a bad word is at most 512: a word that fails or breaks a rule stands in the module, or just behind it.
use Prim.Native.Nat.{ℕ, suc, ◌+◌, ◌≤◌}
use mathlib.Core.Path.{◌≡◌, refl, sym, ◌∙◌, ap, subst}
use mathlib.Core.Bool.{Bool, true, false}
use mathlib.Core.Option.{Option, none, some}
use mathlib.Core.List.{List, [], ◌∷◌, ◌++◌}
use native.Mathlib.Omega.{arith}
use lib.Dec.{eqb, ltb}
use lib.ListN.{length, length-append}
use Rattle.lists.specs.Lists.{member, up_to}
use Rattle.lists.proofs.Tests.{ltb_false}
use Rattle.term.specs.Words.{tag_of, tag_integer, tag_variable, tag_let, tag_clause}
use Rattle.term.specs.Table.{fits, child_spots, spot_function}
use Rattle.term.specs.Tree.{Term, Terms, int, node, end, ◌then◌, words, words_of}
use Rattle.term.specs.Read.{read, terms_of}
use Rattle.term.specs.Shape.{wanted, shape, shape_payload, module_shape}
use Rattle.term.specs.Binding.{Walk, breaks, passes, and_then, binds, binds_all, keeps_rule, checks_after, keeps, keeps_all, keeps_let, keeps_clause, function_keeps, functions_keep}
use Rattle.term.specs.Module.{longest_module, arities_of, rules_from, breaker, first_breaker, check_module}
use Rattle.term.proofs.ReadLaws.{read_sound}
use Rattle.term.proofs.GoodLaws.{answer, check_is}

-- ---- shape

-- where an answer is a position, it is at most m
unfoldable Most : ℕ → Option ℕ → Type 0
Most m none = Unit {0}
Most m (some at) = at ≤ m

most_more : (m n : ℕ) (o : Option ℕ) → m ≤ n → Most m o → Most n o
unfolding Most
most_more m n none h k = tt
most_more m n (some at) h k = omega arith

most_choose : (m : ℕ) (b : Bool) (x y : Option ℕ) → Most m x → Most m y → Most m (elim b as (λ _. Option ℕ) [ true ↦ x | false ↦ y ])
most_choose m true x y p q = p
most_choose m false x y p q = q

module _ (places : ℕ) (new : List ℕ) where
  -- one word, with what is known of those after it
  word_most : (w : ℕ) (l : List ℕ) (at : ℕ) → ((spots : List ℕ) → Most (suc at + length l) (shape_payload places new l spots (suc at)))
      → ((spots : List ℕ) → Most (suc at + length l) (shape places new l spots (suc at))) → (spots : List ℕ) → Most (at + suc (length l)) (elim spots as (λ _. Option ℕ) [
        | [] ↦ some at
        | s ∷ others ↦ elim (fits places s w) as (λ _. Option ℕ) [
          | false ↦ some at
          | true ↦ elim (eqb (tag_of w) tag_integer) as (λ _. Option ℕ) [
            | true ↦ shape_payload places new l others (suc at)
            | false ↦ shape places new l (child_spots s w ++ others) (suc at)
          ]
        ]
      ])
  unfolding Most
  word_most w l at payload later [] = omega arith
  word_most w l at payload later (s ∷ others) =
      most_choose _ (fits places s w) _ _
      (most_choose _ (eqb (tag_of w) tag_integer) _ _
      (most_more (suc at + length l) _ (shape_payload places new l others (suc at)) (omega arith) (payload others))
      (most_more (suc at + length l) _ (shape places new l (child_spots s w ++ others) (suc at)) (omega arith) (later (child_spots s w ++ others))))
      (omega arith)

  mutual
    unfolding Most shape shape_payload

    shape_most : (l spots : List ℕ) (at : ℕ) → Most (at + length l) (shape places new l spots at)
    shape_most [] [] at = tt
    shape_most [] (s ∷ spots) at = omega arith
    shape_most (w ∷ l) spots at = word_most w l at (λ others. payload_most l others (suc at)) (λ others. shape_most l others (suc at)) (wanted spots new)

    payload_most : (l spots : List ℕ) (at : ℕ) → Most (at + length l) (shape_payload places new l spots at)
    payload_most [] spots at = omega arith
    payload_most (x ∷ l) spots at = most_more (suc at + length l) _ (shape places new l spots (suc at)) (omega arith) (shape_most l spots (suc at))

-- ---- the rules past shape

-- the position that a walk has come to
unfoldable reached : Walk → ℕ
reached (breaks at) = at
reached (passes at scope checks) = at

then_reaches : (walk : Walk) (next : ℕ → List ℕ → List ℕ → Walk) (a m : ℕ) → a ≤ m → reached walk ≤ a
    → ((at : ℕ) (scope checks : List ℕ) → at ≤ a → reached (next at scope checks) ≤ m) → reached (and_then walk next) ≤ m
unfolding reached and_then
then_reaches (breaks at) next a m h k f = omega arith
then_reaches (passes at scope checks) next a m h k f = f at scope checks k

choose_reaches : (m : ℕ) (b : Bool) (x y : Walk) → reached x ≤ m → reached y ≤ m → reached (elim b as (λ _. Walk) [ true ↦ x | false ↦ y ]) ≤ m
choose_reaches m true x y p q = p
choose_reaches m false x y p q = q

mutual
  unfolding reached binds binds_all words words_of

  binds_reaches : (t : Term) (scope : List ℕ) (at : ℕ) (checks : List ℕ) → reached (binds scope t at checks) ≤ at + length (words t)
  binds_reaches (int x) scope at checks = omega arith
  binds_reaches (node tag n k ts) scope at checks =
      let below = binds_all_reaches ts scope (suc at) checks in
      choose_reaches (at + suc (length (words_of ts))) (eqb tag tag_variable) _ (binds_all scope ts (suc at) checks)
      (choose_reaches _ (member k scope) (breaks at) (passes (suc at) (k ∷ scope) checks) (omega arith) (omega arith))
      (omega arith)

  binds_all_reaches : (ts : Terms) (scope : List ℕ) (at : ℕ) (checks : List ℕ) → reached (binds_all scope ts at checks) ≤ at + length (words_of ts)
  binds_all_reaches end scope at checks = omega arith
  binds_all_reaches (t then ts) scope at checks =
      then_reaches (binds scope t at checks) _ (at + length (words t)) _ (omega (arith, length-append (words t) (words_of ts))) (binds_reaches t scope at checks)
      (λ at' scope' checks' h. let later = binds_all_reaches ts scope' at' checks' in omega (arith, length-append (words t) (words_of ts)))

module _ (arities : List ℕ) (unique : Bool) where
  mutual
    unfolding reached keeps keeps_all keeps_let keeps_clause words words_of

    keeps_reaches : (t : Term) (scope : List ℕ) (at : ℕ) (checks : List ℕ) → reached (keeps arities unique scope t at checks) ≤ at + length (words t)
    keeps_reaches (int x) scope at checks = omega arith
    keeps_reaches (node tag n k ts) scope at checks =
        let below = all_reaches ts scope (suc at) (checks_after tag k checks) in
        let in-let = let_reaches ts scope k (suc at) checks in
        let in-clause = clause_reaches ts scope (suc at) checks in
        choose_reaches (at + suc (length (words_of ts))) (keeps_rule arities unique scope checks tag n k) _ (breaks at)
        (choose_reaches _ (eqb tag tag_let) (keeps_let arities unique scope k ts (suc at) checks) _ (omega arith)
        (choose_reaches _ (eqb tag tag_clause) (keeps_clause arities unique scope ts (suc at) checks) (keeps_all arities unique scope ts (suc at) (checks_after tag k checks)) (omega arith) (omega arith)))
        (omega arith)

    all_reaches : (ts : Terms) (scope : List ℕ) (at : ℕ) (checks : List ℕ) → reached (keeps_all arities unique scope ts at checks) ≤ at + length (words_of ts)
    all_reaches end scope at checks = omega arith
    all_reaches (t then ts) scope at checks =
        then_reaches (keeps arities unique scope t at checks) _ (at + length (words t)) _ (omega (arith, length-append (words t) (words_of ts))) (keeps_reaches t scope at checks)
        (λ at' scope' checks' h. let later = all_reaches ts scope at' checks' in omega (arith, length-append (words t) (words_of ts)))

    let_reaches : (ts : Terms) (scope : List ℕ) (k at : ℕ) (checks : List ℕ) → reached (keeps_let arities unique scope k ts at checks) ≤ at + length (words_of ts)
    let_reaches end scope k at checks = omega arith
    let_reaches (t then ts) scope k at checks =
        then_reaches (keeps arities unique scope t at checks) _ (at + length (words t)) _ (omega (arith, length-append (words t) (words_of ts))) (keeps_reaches t scope at checks)
        (λ at' scope' checks' h. let later = all_reaches ts (k ∷ scope) at' checks' in omega (arith, length-append (words t) (words_of ts)))

    clause_reaches : (ts : Terms) (scope : List ℕ) (at : ℕ) (checks : List ℕ) → reached (keeps_clause arities unique scope ts at checks) ≤ at + length (words_of ts)
    clause_reaches end scope at checks = omega arith
    clause_reaches (t then ts) scope at checks =
        then_reaches (binds scope t at checks) _ (at + length (words t)) _ (omega (arith, length-append (words t) (words_of ts))) (binds_reaches t scope at checks)
        (λ at' scope' checks' h. let later = all_reaches ts scope' at' checks' in omega (arith, length-append (words t) (words_of ts)))

function_reaches : (arities : List ℕ) (f : Term) (at : ℕ) (checks : List ℕ) → reached (function_keeps arities f at checks) ≤ at + length (words f)
unfolding reached function_keeps words
function_reaches arities (int x) at checks = omega arith
function_reaches arities (node tag n k ts) at checks = let below = all_reaches arities true ts (up_to n) (suc at) checks in omega arith

functions_reach : (arities : List ℕ) (fs : Terms) (at : ℕ) (checks : List ℕ) → reached (functions_keep arities fs at checks) ≤ at + length (words_of fs)
unfolding reached functions_keep words_of
functions_reach arities end at checks = omega arith
functions_reach arities (f then fs) at checks =
    then_reaches (function_keeps arities f at checks) _ (at + length (words f)) _ (omega (arith, length-append (words f) (words_of fs))) (function_reaches arities f at checks)
    (λ at' scope' checks' h. let later = functions_reach arities fs at' checks' in omega (arith, length-append (words f) (words_of fs)))

rules_reach : (counts : List ℕ) (fs : Terms) → reached (rules_from counts fs) ≤ length (words_of fs)
unfolding rules_from reached
rules_reach [] fs = omega arith
rules_reach (count ∷ counts) fs =
    choose_reaches (length (words_of fs)) (eqb count 0) (functions_keep (count ∷ counts) fs 0 []) (breaks 0) (omega (arith, functions_reach (count ∷ counts) fs 0 [])) (omega arith)

-- the words of the terms that are read are among those of the row
terms_within : (l : List ℕ) → length (words_of (terms_of l)) ≤ length l
unfolding terms_of words_of
terms_within l = go (read l 0) refl
  where
    go : (o : Option Terms) → read l 0 ≡ o → length (words_of (elim o as (λ _. Terms) [ none ↦ end | some ts ↦ ts ])) ≤ length l
    go none e = omega arith
    go (some ts) e = omega (arith, ap length (read_sound l 0 ts e).same_words)

breaker_most : (m : ℕ) (walk : Walk) → reached walk ≤ m → Most m (breaker walk)
unfolding reached breaker Most
breaker_most m (breaks at) h = h
breaker_most m (passes at scope checks) h = tt

-- ---- the module check

answer_most : (m : ℕ) (long : Bool) (shaped rules : Option ℕ) → longest_module ≤ m → (long ≡ false → Most m shaped) → (long ≡ false → Most m rules) → Most m (answer long shaped rules)
unfolding answer Most
answer_most m true shaped rules h f g = h
answer_most m false (some at) rules h f g = f refl
answer_most m false none rules h f g = g refl

pub bad_position : (l : List ℕ) (at : ℕ) → check_module l ≡ some at → at ≤ longest_module
unfolding Most module_shape first_breaker
bad_position l at e = subst (Most longest_module) (sym (check_is l) ∙ e)
    (answer_most longest_module (ltb longest_module (length l)) (module_shape l) (first_breaker (terms_of l)) (omega arith)
    (λ short. most_more (0 + length l) longest_module (module_shape l) (omega (arith, ltb_false longest_module (length l) short)) (shape_most 0 (spot_function ∷ []) l (spot_function ∷ []) 0))
    (λ short. breaker_most longest_module (rules_from (arities_of (terms_of l)) (terms_of l))
    (omega (arith, rules_reach (arities_of (terms_of l)) (terms_of l), terms_within l, ltb_false longest_module (length l) short))))
