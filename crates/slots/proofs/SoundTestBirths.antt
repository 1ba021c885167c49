-- The marks of births: what the code answers for a child and for a slot.
use Prim.Native.Nat.{ℕ, ◌+◌, ◌≤◌, ◌<◌}
use mathlib.Core.Path.{◌≡◌, sym, ◌∙◌, ap, subst}
use mathlib.Core.Bool.{Bool, true, false, cond, not}
use mathlib.Core.Option.{none, some}
use mathlib.Core.List.{List, [], ◌∷◌}
use native.Mathlib.Decide.{ℕ_discrete}
use native.Mathlib.Omega.{arith}
use lib.Dec.{eqb}
use lib.ListN.{length, get_or, set, replicate}
use Rattle.lists.proofs.Tests.{eqb_of, eqb_apart, ltb_of, ltb_over, cond_true, cond_false, true_not_false, not_true, not_false, none_not_some, some_injective}
use Rattle.lists.specs.Decides.{Decides}
use Rattle.lists.proofs.Decides.{no_to, by}
use Rattle.store.specs.Layout.{kind_free, kind_spawn}
use Rattle.slots.specs.SoundTests.{AllBorn, Births, live_from, answered, run_all, bear_one, bear_slot, bear_place}

module _ (child : ℕ) (live born : List Bool) where
  pub bear_zero : (x : List Bool) → child ≡ 0 → answered false x ≡ bear_one child live born
  unfolding answered bear_one
  bear_zero x e = sym (cond_true _ _ (eqb_of child 0 e))

  pub bear_outside : (x : List Bool) → ¬ (child ≡ 0) → length live ≤ child → answered false x ≡ bear_one child live born
  unfolding answered bear_one
  bear_outside x n h = sym (cond_false _ _ (eqb_apart child 0 n) ∙ cond_false _ _ (ltb_over child (length live) h))

  inside : ¬ (child ≡ 0) → child < length live → bear_one child live born ≡ cond (get_or live child false) (cond (get_or born child false) none (some (set born child true))) none
  unfolding bear_one
  inside n h = cond_false _ _ (eqb_apart child 0 n) ∙ cond_true _ _ (ltb_of child (length live) h)

  pub bear_dead : (x : List Bool) → ¬ (child ≡ 0) → child < length live → not (get_or live child false) ≡ true → answered false x ≡ bear_one child live born
  unfolding answered
  bear_dead x n h d = sym (inside n h ∙ cond_false _ _ (not_true (get_or live child false) d))

  pub bear_twice : (x : List Bool) → ¬ (child ≡ 0) → child < length live → not (get_or live child false) ≡ false → get_or born child false ≡ true → answered false x ≡ bear_one child live born
  unfolding answered
  bear_twice x n h l b = sym (inside n h ∙ cond_true _ _ (not_false (get_or live child false) l) ∙ cond_true _ _ b)

  pub bear_first : ¬ (child ≡ 0) → child < length live → not (get_or live child false) ≡ false → get_or born child false ≡ false → answered true (set born child true) ≡ bear_one child live born
  unfolding answered
  bear_first n h l b = sym (inside n h ∙ cond_true _ _ (not_false (get_or live child false) l) ∙ cond_false _ _ b)

module _ (live : List Bool) (w : List ℕ) (born : List Bool) where
  pub slot_bears : (r : Bool) (x : List Bool) → get_or w 0 0 ≡ kind_spawn → answered r x ≡ bear_one (get_or w 2 0) live born → answered r x ≡ bear_slot live w born
  unfolding bear_slot
  slot_bears r x k e = e ∙ sym (cond_true _ _ (eqb_of (get_or w 0 0) kind_spawn k))

  pub slot_bears_not : ¬ (get_or w 0 0 ≡ kind_spawn) → answered true born ≡ bear_slot live w born
  unfolding bear_slot answered
  slot_bears_not n = sym (cond_false _ _ (eqb_apart (get_or w 0 0) kind_spawn n))

-- ---- each live place but 0 was born

module _ (live born : List Bool) (q : ℕ) (low : 1 ≤ q) where
  pub born_breaks : q < length live → get_or live q false ≡ true → get_or born q false ≡ false → Decides (AllBorn live born) false
  born_breaks h l b = no_to (λ x. true_not_false (x.each q (omega arith) h l) b)

  pub born_next : ((k : ℕ) → 0 < k → k < q → get_or live k false ≡ true → get_or born k false ≡ true) → (get_or live q false ≡ true → get_or born q false ≡ true)
      → (k : ℕ) → 0 < k → k < q + 1 → get_or live k false ≡ true → get_or born k false ≡ true
  born_next before here k a b l = go (ℕ_discrete k q)
    where
      go : Dec (k ≡ q) → get_or born k false ≡ true
      go (yes e) = ap (λ (n : ℕ). get_or born n false) e ∙ here (ap (λ (n : ℕ). get_or live n false) (sym e) ∙ l)
      go (no n) = before k a (omega arith) l

-- ---- the clause about births

module _ (size count : ℕ) (live : List Bool) (blocks : List (List ℕ)) (x : List Bool) where
  marked : (r : Bool) → answered r x ≡ run_all (bear_place size count live) blocks (replicate 16 false) → r ≡ true → run_all (bear_place size count live) blocks (replicate 16 false) ≡ some x
  unfolding answered
  marked r e t = sym e ∙ ap (λ (b : Bool). answered b x) t

  pub births_marked : (r a : Bool) → answered r x ≡ run_all (bear_place size count live) blocks (replicate 16 false) → not r ≡ false → Decides (AllBorn live x) a → Decides (Births size count live blocks) a
  births_marked r a e t d =
      by (λ all. record { born = x; marks = marked r e (not_false r t); all = all })
      (λ y. subst (AllBorn live) (some_injective (sym y.marks ∙ marked r e (not_false r t))) y.all) d

  pub births_refused : (r : Bool) → answered r x ≡ run_all (bear_place size count live) blocks (replicate 16 false) → not r ≡ true → Decides (Births size count live blocks) false
  unfolding answered
  births_refused r e f = no_to (λ y. none_not_some (ap (λ (b : Bool). answered b x) (sym (not_true r f)) ∙ e ∙ y.marks))

-- ---- which places have a process

module _ (s : ℕ) (live whole : List Bool) where
  -- a block more, at place p
  pub live_next : (t p : ℕ) (b : List ℕ) (others : List (List ℕ)) → p ≡ s → t ≡ s + 1 → whole ≡ live_from s (b ∷ others) live → whole ≡ live_from t others (set live p (not (eqb (get_or b 0 0) kind_free)))
  unfolding live_from
  live_next t p b others ep et e = e ∙ (λ i. live_from (sym et i) others (set live (sym ep i) (not (eqb (get_or b 0 0) kind_free))))

  pub live_done : whole ≡ live_from s [] live → live ≡ whole
  unfolding live_from
  live_done e = sym e
