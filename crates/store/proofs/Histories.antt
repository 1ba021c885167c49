-- Histories: their entries, the count of their sends, and what their recs took.
use Prim.Native.Nat.{ℕ, suc, ◌≤◌, ◌<◌}
use mathlib.Core.Path.{◌≡◌, sym, ◌∙◌, subst}
use mathlib.Core.Logic.{◌⊎◌, inl, inr}
use mathlib.Core.Bool.{true, false}
use mathlib.Core.Option.{Option, none, some}
use mathlib.Core.List.{List, [], ◌∷◌}
use native.Mathlib.Omega.{arith}
use lib.Dec.{eqb}
use lib.ListN.{length}
use Rattle.lists.specs.Lists.{All}
use Rattle.lists.proofs.Tests.{none_not_some, some_injective, true_or_false, eqb-true, eqb_same, eqb_apart, cond_true, cond_false}
use Rattle.rules.specs.State.{Letter, as_send, Entry, entry_at}
use Rattle.rules.specs.Flight.{count_letter, sends, letter_or, sent}

-- ---- entries by number

entry_below : (h : List Entry) (i : ℕ) {e : Entry} → entry_at h i ≡ some e → i < length h
unfolding entry_at
entry_below [] i e = none_not_some e
entry_below (x ∷ h) i {e} stands = go (true_or_false (eqb (length h) i)) (entry_below h i)
  where
    go : (eqb (length h) i ≡ true) ⊎ (eqb (length h) i ≡ false) → (entry_at h i ≡ some e → i < length h) → i < suc (length h)
    go (inl t) f = omega (arith, eqb-true (length h) i t)
    go (inr t) f = let g = f (sym (cond_false (some x) (entry_at h i) t) ∙ stands) in omega arith

-- what holds of each entry by its number holds of all
pub all_entries : {P : Entry → Type 0} (h : List Entry) → ((i : ℕ) (e : Entry) → entry_at h i ≡ some e → P e) → All P h
unfolding entry_at All
all_entries [] f = tt
all_entries (x ∷ h) f = (
  f (length h) x (cond_true (some x) (entry_at h (length h)) (eqb_same (length h))),
  all_entries h (λ i e s. f i e (cond_false (some x) (entry_at h i) (eqb_apart (length h) i (λ z. let b = entry_below h i s in omega arith)) ∙ s)),
)

-- and the other way round
pub all_entry : (P : Entry → Type 0) (h : List Entry) (i : ℕ) {e : Entry} → All P h → entry_at h i ≡ some e → P e
unfolding entry_at All
all_entry P [] i a stands = none_not_some stands
all_entry P (x ∷ h) i {e} a stands = go (true_or_false (eqb (length h) i)) (all_entry P h i a.1)
  where
    go : (eqb (length h) i ≡ true) ⊎ (eqb (length h) i ≡ false) → (entry_at h i ≡ some e → P e) → P e
    go (inl t) f = subst P (some_injective (sym (cond_true (some x) (entry_at h i) t) ∙ stands)) a.0
    go (inr t) f = f (sym (cond_false (some x) (entry_at h i) t) ∙ stands)

-- ---- sends

count_most : (o : Option Letter) (n : ℕ) → count_letter o n ≤ suc n
unfolding count_letter
count_most none n = omega arith
count_most (some l) n = omega arith

pub sends_few : (h : List Entry) → sends h ≤ length h
unfolding sends
sends_few [] = omega arith
sends_few (e ∷ h) = omega (arith, count_most (as_send e.kind) (sends h), sends_few h)

pub sent_below : (h : List Entry) (k : ℕ) {l : Letter} → sent h k ≡ some l → k < sends h
unfolding sent sends letter_or count_letter
sent_below [] k e = none_not_some e
sent_below (x ∷ h) k {l} e = go (as_send x.kind) (sent_below h k) e
  where
    go : (o : Option Letter) → (sent h k ≡ some l → k < sends h) → letter_or o (sends h) k (sent h k) ≡ some l → k < count_letter o (sends h)
    go none f e = f e
    go (some m) f e = elim (true_or_false (eqb (sends h) k)) [
      | inl t ↦ omega (arith, eqb-true (sends h) k t)
      | inr t ↦ let g = f (sym (cond_false (some m) (sent h k) t) ∙ e) in omega arith
    ]
