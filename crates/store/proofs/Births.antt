-- Spawns counted: each pool place but 0 is the child of exactly one spawn entry where the spawns of each place, counted over all places, are 1 for
-- a live place but 0 and none for the others.
use Prim.Native.Nat.{ℕ, zero, suc, ◌+◌, ◌≤◌, ◌<◌}
use mathlib.Core.Path.{◌≡◌, refl, ◌∙◌, ap, subst}
use mathlib.Core.Logic.{◌⊎◌, inl, inr}
use mathlib.Core.Bool.{Bool, true, false, ◌&&◌}
use mathlib.Core.Option.{some}
use mathlib.Core.List.{List, [], ◌∷◌, tail}
use native.Mathlib.Decide.{ℕ_discrete}
use native.Mathlib.Omega.{arith}
use lib.Dec.{eqb, ltb}
use lib.ListN.{get_elem?}
use Rattle.lists.proofs.Tests.{none_not_some, some_injective, true_or_false, true_not_false, eqb-true, eqb_of, ltb-true, ltb_false, and_left, and_right, and_of}
use Rattle.lists.proofs.Counts.{one_if, one_least}
use Rattle.store.specs.Layout.{kind_spawn, Slot}
use Rattle.store.proofs.SoundSlots.{is_live, SpawnSlot, BornClauses}

-- a slot is the spawn of q
unfoldable pub spawns_there : ℕ → Slot → Bool
spawns_there q x = eqb x.kind kind_spawn && eqb x.number q

-- how many of the slots are, and how many of the entries of the first n places
unfoldable pub births : ℕ → List Slot → ℕ
births q [] = 0
births q (x ∷ xs) = one_if (spawns_there q x) (births q xs)

unfoldable pub all_births : (ℕ → List Slot) → ℕ → ℕ → ℕ
all_births places q zero = 0
all_births places q (suc n) = all_births places q n + births q (tail (places n))

-- slot i of a list is a spawn of q
pub record SpawnAt (q : ℕ) (xs : List Slot) (i : ℕ) : Type 0 where
  pub slot : Slot
  pub stands : get_elem? xs i ≡ some slot
  pub spawns : spawns_there q slot ≡ true

module _ (q : ℕ) where
  some_birth : (xs : List Slot) → 1 ≤ births q xs → (i : ℕ) × SpawnAt q xs i
  unfolding births one_if
  some_birth [] h = absurd (omega arith)
  some_birth (x ∷ xs) h = go (spawns_there q x) refl h (some_birth xs)
    where
      go : (b : Bool) → spawns_there q x ≡ b → 1 ≤ one_if b (births q xs) → (1 ≤ births q xs → (i : ℕ) × SpawnAt q xs i) → (i : ℕ) × SpawnAt q (x ∷ xs) i
      go true e h r = (0, record { slot = x; stands = refl; spawns = e })
      go false e h r = let y = r h in (suc y.0, record { slot = y.1.slot; stands = y.1.stands; spawns = y.1.spawns })

  later : (x : Slot) (xs : List Slot) → births q xs ≤ births q (x ∷ xs)
  unfolding births
  later x xs = one_least (spawns_there q x) (births q xs)

  births_here : (x : Slot) (xs : List Slot) → spawns_there q x ≡ true → births q (x ∷ xs) ≡ suc (births q xs)
  unfolding births one_if
  births_here x xs e = ap (λ (b : Bool). one_if b (births q xs)) e

  births_not_here : (x : Slot) (xs : List Slot) → spawns_there q x ≡ false → births q (x ∷ xs) ≡ births q xs
  unfolding births one_if
  births_not_here x xs e = ap (λ (b : Bool). one_if b (births q xs)) e

  here_spawns : (x : Slot) (xs : List Slot) → SpawnAt q (x ∷ xs) 0 → spawns_there q x ≡ true
  here_spawns x xs y = ap (spawns_there q) (some_injective y.stands) ∙ y.spawns

  without_first : (x : Slot) (xs : List Slot) (i : ℕ) → SpawnAt q (x ∷ xs) (suc i) → SpawnAt q xs i
  without_first x xs i y = record { slot = y.slot; stands = y.stands; spawns = y.spawns }

  with_first : (x : Slot) (xs : List Slot) (i : ℕ) → SpawnAt q xs i → SpawnAt q (x ∷ xs) (suc i)
  with_first x xs i y = record { slot = y.slot; stands = y.stands; spawns = y.spawns }

  birth_counts : (xs : List Slot) (i : ℕ) → SpawnAt q xs i → 1 ≤ births q xs
  birth_counts [] i y = none_not_some y.stands
  birth_counts (x ∷ xs) zero y = omega (arith, births_here x xs (here_spawns x xs y))
  birth_counts (x ∷ xs) (suc i) y = let r = birth_counts xs i (without_first x xs i y) in omega (arith, later x xs)

  birth_one : (xs : List Slot) (i j : ℕ) → births q xs ≤ 1 → SpawnAt q xs i → SpawnAt q xs j → i ≡ j
  birth_one [] i j h y z = none_not_some y.stands
  birth_one (x ∷ xs) zero zero h y z = refl
  birth_one (x ∷ xs) zero (suc j) h y z = absurd (omega (arith, births_here x xs (here_spawns x xs y), birth_counts xs j (without_first x xs j z)))
  birth_one (x ∷ xs) (suc i) zero h y z = absurd (omega (arith, births_here x xs (here_spawns x xs z), birth_counts xs i (without_first x xs i y)))
  birth_one (x ∷ xs) (suc i) (suc j) h y z = ap suc (birth_one xs i j (omega (arith, later x xs)) (without_first x xs i y) (without_first x xs j z))

  one_birth : (xs : List Slot) → ((i j : ℕ) → SpawnAt q xs i → SpawnAt q xs j → i ≡ j) → births q xs ≤ 1
  unfolding births
  one_birth [] f = omega arith
  one_birth (x ∷ xs) f = go (true_or_false (spawns_there q x)) (births q xs) refl (one_birth xs (λ i j y z. let e = f (suc i) (suc j) (with_first x xs i y) (with_first x xs j z) in omega arith))
    where
      go : (spawns_there q x ≡ true) ⊎ (spawns_there q x ≡ false) → (n : ℕ) → births q xs ≡ n → births q xs ≤ 1 → births q (x ∷ xs) ≤ 1
      go (inr e) n s r = omega (arith, births_not_here x xs e)
      go (inl e) zero s r = omega (arith, births_here x xs e)
      go (inl e) (suc n) s r =
          let y = some_birth xs (omega arith) in
          absurd (let z = f 0 (suc y.0) (record { slot = x; stands = refl; spawns = e }) (with_first x xs y.0 y.1) in omega arith)

  -- ---- over places

  module _ (places : ℕ → List Slot) where
    at_place : (n p : ℕ) → p < n → births q (tail (places p)) ≤ all_births places q n
    unfolding all_births
    at_place zero p h = absurd (omega arith)
    at_place (suc n) p h = go (ℕ_discrete p n) (at_place n p)
      where
        go : Dec (p ≡ n) → (p < n → births q (tail (places p)) ≤ all_births places q n) → births q (tail (places p)) ≤ all_births places q n + births q (tail (places n))
        go (yes e) r = rw e (omega arith)
        go (no m) r = let z = r (omega arith) in omega arith

    at_two : (n p p' : ℕ) → p < p' → p' < n → births q (tail (places p)) + births q (tail (places p')) ≤ all_births places q n
    unfolding all_births
    at_two zero p p' h g = absurd (omega arith)
    at_two (suc n) p p' h g = go (ℕ_discrete p' n) (at_two n p p' h)
      where
        go : Dec (p' ≡ n) → (p' < n → births q (tail (places p)) + births q (tail (places p')) ≤ all_births places q n)
            → births q (tail (places p)) + births q (tail (places p')) ≤ all_births places q n + births q (tail (places n))
        go (yes e) r = rw e (omega (arith, at_place n p (omega arith)))
        go (no m) r = let z = r (omega arith) in omega arith

    some_place : (n : ℕ) → 1 ≤ all_births places q n → (p : ℕ) × (p < n) × (1 ≤ births q (tail (places p)))
    unfolding all_births
    some_place zero h = absurd (omega arith)
    some_place (suc n) h = go (births q (tail (places n))) refl (some_place n)
      where
        go : (b : ℕ) → births q (tail (places n)) ≡ b → (1 ≤ all_births places q n → (p : ℕ) × (p < n) × (1 ≤ births q (tail (places p)))) → (p : ℕ) × (p < suc n) × (1 ≤ births q (tail (places p)))
        go zero e r = let z = r (omega arith) in (z.0, (let below = z.1 in omega arith), z.2)
        go (suc b) e r = (n, omega arith, omega arith)

    pub all_some : (n : ℕ) → 1 ≤ all_births places q n → (p : ℕ) × (i : ℕ) × SpawnAt q (tail (places p)) i
    all_some n h = let x = some_place n h in let y = some_birth (tail (places x.0)) x.2 in (x.0, y.0, y.1)

    pub all_counts : (n p i : ℕ) → p < n → SpawnAt q (tail (places p)) i → 1 ≤ all_births places q n
    all_counts n p i h y = omega (arith, at_place n p h, birth_counts (tail (places p)) i y)

    pub all_one : (n p i p' i' : ℕ) → p < n → p' < n → all_births places q n ≤ 1 → SpawnAt q (tail (places p)) i → SpawnAt q (tail (places p')) i' → (p ≡ p') × (i ≡ i')
    all_one n p i p' i' h h' few y y' = go (true_or_false (ltb p p')) (true_or_false (ltb p' p))
      where
        go : (ltb p p' ≡ true) ⊎ (ltb p p' ≡ false) → (ltb p' p ≡ true) ⊎ (ltb p' p ≡ false) → (p ≡ p') × (i ≡ i')
        go (inl l) g = absurd (omega (arith, at_two n p p' (ltb-true p p' l) h', birth_counts (tail (places p)) i y, birth_counts (tail (places p')) i' y'))
        go (inr l) (inl g) = absurd (omega (arith, at_two n p' p (ltb-true p' p g) h, birth_counts (tail (places p)) i y, birth_counts (tail (places p')) i' y'))
        go (inr l) (inr g) =
            let same : p ≡ p' = omega (arith, ltb_false p p' l, ltb_false p' p g) in
            (same, birth_one (tail (places p')) i i' (omega (arith, at_place n p' h')) (subst (λ (r : ℕ). SpawnAt q (tail (places r)) i) same y) y')

    pub one_all : (n : ℕ) → ((p i p' i' : ℕ) → SpawnAt q (tail (places p)) i → SpawnAt q (tail (places p')) i' → (p ≡ p') × (i ≡ i')) → all_births places q n ≤ 1
    unfolding all_births
    one_all zero f = omega arith
    one_all (suc n) f = go (all_births places q n) (births q (tail (places n))) refl refl (one_all n f) (one_birth (tail (places n)) (λ i j y z. (f n i n j y z).1))
      where
        go : (a b : ℕ) → all_births places q n ≡ a → births q (tail (places n)) ≡ b → all_births places q n ≤ 1 → births q (tail (places n)) ≤ 1 → all_births places q n + births q (tail (places n)) ≤ 1
        go zero b ea eb ha hb = omega arith
        go (suc a) zero ea eb ha hb = omega arith
        go (suc a) (suc b) ea eb ha hb =
            let x = some_place n (omega arith) in
            let y = some_birth (tail (places x.0)) x.2 in
            let z = some_birth (tail (places n)) (omega arith) in
            absurd (let same = (f x.0 y.0 n z.0 y.1 z.1).0 in let below = x.1 in omega arith)

-- ---- the clauses

-- the clauses of soundness that speak of births, counted over so many places
pub record BornCounted (count : ℕ) (places : ℕ → List Slot) : Type 0 where
  pub once : (q : ℕ) → is_live (places q) ≡ true → ¬ (q ≡ 0) → all_births places q count ≡ 1
  pub never : (q : ℕ) → (is_live (places q) ≡ false) ⊎ (q ≡ 0) → all_births places q count ≡ 0

module _ (count : ℕ) (places : ℕ → List Slot) (places_end : (p : ℕ) → count ≤ p → is_live (places p) ≡ false) where
  to_slot : (q p i : ℕ) → SpawnAt q (tail (places p)) i → SpawnSlot places q p i
  unfolding spawns_there
  to_slot q p i y =
      let x = y.slot in
      record {
        slot = x;
        stands = y.stands;
        is_spawn = eqb-true x.kind kind_spawn (and_left (eqb x.kind kind_spawn) (eqb x.number q) y.spawns);
        child = eqb-true x.number q (and_right (eqb x.kind kind_spawn) (eqb x.number q) y.spawns);
      }

  of_slot : (q p i : ℕ) → SpawnSlot places q p i → SpawnAt q (tail (places p)) i
  unfolding spawns_there
  of_slot q p i y = record { slot = y.slot; stands = y.stands; spawns = and_of (eqb_of y.slot.kind kind_spawn y.is_spawn) (eqb_of y.slot.number q y.child) }

  -- who spawns stands at a place that there is
  in_places : (q p i : ℕ) → SpawnSlot places q p i → p < count
  unfolding is_live
  in_places q p i y = go (true_or_false (ltb p count))
    where
      empty : (xs : List Slot) → is_live xs ≡ false → get_elem? (tail xs) i ≡ some y.slot → p < count
      empty [] e s = none_not_some s
      empty (x ∷ xs) e s = true_not_false refl e

      go : (ltb p count ≡ true) ⊎ (ltb p count ≡ false) → p < count
      go (inl t) = ltb-true p count t
      go (inr f) = empty (places p) (places_end p (ltb_false p count f)) y.stands

  pub born_clauses : BornCounted count places → BornClauses places
  born_clauses c = record {
    born = λ q l n. let x = all_some q places count (let one = c.once q l n in omega arith) in (x.0, x.1, to_slot q x.0 x.1 x.2);
    born_once = λ q p i p' i' y y'. all_one q places count p i p' i' (in_places q p i y) (in_places q p' i' y') (at_most_one q) (of_slot q p i y) (of_slot q p' i' y');
    place_0_unborn = λ p i y. (let zero-births = c.never 0 (inr refl) in let one = all_counts 0 places count p i (in_places 0 p i y) (of_slot 0 p i y) in omega arith);
    children_live = λ q p i y. elim (true_or_false (is_live (places q))) [
      | inl t ↦ t
      | inr f ↦ absurd (let zero-births = c.never q (inl f) in let one = all_counts q places count p i (in_places q p i y) (of_slot q p i y) in omega arith)
    ];
  }
    where
      go : (q : ℕ) → (is_live (places q) ≡ true) ⊎ (is_live (places q) ≡ false) → Dec (q ≡ 0) → all_births places q count ≤ 1
      go q (inl t) (yes z) = let n = c.never q (inr z) in omega arith
      go q (inl t) (no m) = let n = c.once q t m in omega arith
      go q (inr f) d = let n = c.never q (inl f) in omega arith

      at_most_one : (q : ℕ) → all_births places q count ≤ 1
      at_most_one q = go q (true_or_false (is_live (places q))) (ℕ_discrete q 0)

  pub born_counted : BornClauses places → BornCounted count places
  born_counted c = record { once = once; never = λ q w. unborn q w (all_births places q count) refl }
    where
      once : (q : ℕ) → is_live (places q) ≡ true → ¬ (q ≡ 0) → all_births places q count ≡ 1
      once q l n =
          let x = c.born q l n in
          let most = one_all q places count (λ p i p' i' y y'. c.born_once q p i p' i' (to_slot q p i y) (to_slot q p' i' y')) in
          let least = all_counts q places count x.0 x.1 (in_places q x.0 x.1 x.2) (of_slot q x.0 x.1 x.2) in
          omega arith

      spawned : (q p i : ℕ) → (is_live (places q) ≡ false) ⊎ (q ≡ 0) → SpawnSlot places q p i → ⊥
      spawned q p i (inl f) y = true_not_false (c.children_live q p i y) f
      spawned q p i (inr z) y = c.place_0_unborn p i (subst (λ (r : ℕ). SpawnSlot places r p i) z y)

      unborn : (q : ℕ) → (is_live (places q) ≡ false) ⊎ (q ≡ 0) → (n : ℕ) → all_births places q count ≡ n → all_births places q count ≡ 0
      unborn q w zero e = e
      unborn q w (suc n) e = let x = all_some q places count (omega arith) in absurd (spawned q x.0 x.1 w (to_slot q x.0 x.1 x.2))
