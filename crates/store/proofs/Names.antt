-- Names of messages as numbers: messages whose names are all different, by P senders of at most H sends each, are P-as-H at most.
use Prim.Native.Nat.{ℕ, ◌+◌, ◌*◌, ◌≤◌, ◌<◌}
use mathlib.Core.Path.{◌≡◌, refl, sym, ◌∙◌, ap, subst}
use mathlib.Core.Logic.{◌⊎◌, inl, inr}
use mathlib.Core.Bool.{true, false, not}
use mathlib.Core.List.{List, [], ◌∷◌, map}
use native.Mathlib.Decide.{ℕ_discrete}
use native.Mathlib.Omega.{arith}
use lib.Dec.{ltb}
use lib.ListN.{length, length-map}
use Rattle.lists.specs.Lists.{All, any}
use Rattle.lists.proofs.Tests.{true_or_false, true_not_false, eqb_of, ltb-true, ltb_false, and_left, and_right, and_of, or_false_left, or_false_right, not_true}
use Rattle.lists.proofs.Blocks.{block_in}
use Rattle.lists.proofs.Counts.{occurs, occurs_head, occurs_other, few_below}
use Rattle.rules.specs.State.{Message, is_named}
use Rattle.rules.specs.Sound.{distinct}

-- of P senders of at most H sends each
pub record Numbered (P H : ℕ) (m : Message) : Type 0 where
  pub sender_below : m.sender < P
  pub count_below : m.count < H

-- the number of a name
abbrev pub name_number : ℕ → Message → ℕ
name_number H m = m.sender * H + m.count

abbrev pub name_numbers : ℕ → List Message → List ℕ
name_numbers H ms = map (name_number H) ms

-- a greater sender has greater numbers
sender_greater : (H s c s' c' : ℕ) → c < H → s < s' → s * H + c < s' * H + c'
sender_greater H s c s' c' h l = omega (arith, block_in s s' H l)

pub number_of_one : (H s c s' c' : ℕ) → c < H → c' < H → s * H + c ≡ s' * H + c' → (s ≡ s') × (c ≡ c')
number_of_one H s c s' c' h h' e = go (true_or_false (ltb s s')) (true_or_false (ltb s' s))
  where
    go : (ltb s s' ≡ true) ⊎ (ltb s s' ≡ false) → (ltb s' s ≡ true) ⊎ (ltb s' s ≡ false) → (s ≡ s') × (c ≡ c')
    go (inl l) g = absurd (let x = sender_greater H s c s' c' h (ltb-true s s' l) in omega arith)
    go (inr l) (inl g) = absurd (let x = sender_greater H s' c' s c h' (ltb-true s' s g) in omega arith)
    go (inr l) (inr g) =
        let same : s ≡ s' = omega (arith, ltb_false s s' l, ltb_false s' s g) in
        (same, let n : s' * H + c ≡ s' * H + c' = ap (λ (x : ℕ). x * H + c) (sym same) ∙ e in omega arith)

module _ (P H : ℕ) where
  -- what is not named so has another number
  none_so : (m : Message) (ms : List Message) → Numbered P H m → All (Numbered P H) ms → any (is_named m.sender m.count) ms ≡ false → occurs (name_number H m) (name_numbers H ms) ≡ 0
  unfolding any All occurs is_named
  none_so m [] n a e = refl
  none_so m (x ∷ ms) n a e =
      let apart : ¬ (name_number H m ≡ name_number H x) = λ same.
      let r = number_of_one H m.sender m.count x.sender x.count n.count_below a.0.count_below same in
      true_not_false (and_of (eqb_of x.sender m.sender (sym r.0)) (eqb_of x.count m.count (sym r.1))) (or_false_left (is_named m.sender m.count x) (any (is_named m.sender m.count) ms) e) in
      occurs_other (name_number H m) (name_number H x) (name_numbers H ms) apart
      ∙ none_so m ms n a.1 (or_false_right (is_named m.sender m.count x) (any (is_named m.sender m.count) ms) e)

  pub names_once : (ms : List Message) → All (Numbered P H) ms → distinct ms ≡ true → (c : ℕ) → occurs c (name_numbers H ms) ≤ 1
  unfolding distinct All occurs
  names_once [] a d c = omega arith
  names_once (m ∷ ms) a d c = go (ℕ_discrete c (name_number H m)) (names_once ms a.1 (and_right (not (any (is_named m.sender m.count) ms)) (distinct ms) d) c)
    where
      go : Dec (c ≡ name_number H m) → occurs c (name_numbers H ms) ≤ 1 → occurs c (name_number H m ∷ name_numbers H ms) ≤ 1
      go (yes e) h =
          let zero-so = none_so m ms a.0 a.1 (not_true (any (is_named m.sender m.count) ms) (and_left (not (any (is_named m.sender m.count) ms)) (distinct ms) d)) in
          subst (λ x. occurs x (name_number H m ∷ name_numbers H ms) ≤ 1) (sym e) (omega (arith, occurs_head (name_number H m) (name_numbers H ms), zero-so))
      go (no n) h = omega (arith, occurs_other c (name_number H m) (name_numbers H ms) n)

  high_none : (ms : List Message) → All (Numbered P H) ms → (c : ℕ) → P * H ≤ c → occurs c (name_numbers H ms) ≡ 0
  unfolding All occurs
  high_none [] a c h = refl
  high_none (m ∷ ms) a c h =
      let low = a.0.count_below in
      occurs_other c (name_number H m) (name_numbers H ms) (λ e. omega (arith, low, block_in m.sender P H a.0.sender_below)) ∙ high_none ms a.1 c h

  pub few_names : (ms : List Message) → All (Numbered P H) ms → ((c : ℕ) → occurs c (name_numbers H ms) ≤ 1) → length ms ≤ P * H
  few_names ms a once = let few = few_below (P * H) (name_numbers H ms) once (high_none ms a) in omega (arith, length-map ms (name_number H))
