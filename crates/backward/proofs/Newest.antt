-- The newest entry of a history, or none, and the kind that an entry's number says.
use Prim.Native.Nat.{ℕ, suc}
use mathlib.Core.Path.{◌≡◌, refl, sym, ◌∙◌, ap}
use mathlib.Core.Option.{some}
use mathlib.Core.List.{List, [], ◌∷◌}
use native.Mathlib.Numerals.{add-one}
use native.Mathlib.Omega.{arith}
use lib.ListN.{length}
use Rattle.rules.specs.State.{Kind, seq, send, rec, spawn, self, check, Entry, entry_at}
use Rattle.store.specs.Layout.{kind_send, kind_spawn, kind_number}
use Rattle.reading.specs.Reads.{oldest}
use Rattle.reading.proofs.Oldest.{oldest_all, parted}

pub empty : {A : Type 0} (xs : List A) → length xs ≡ 0 → xs ≡ []
empty [] e = refl
empty (x ∷ xs) e = absurd (omega arith)

-- the newest entry, and the older ones
pub newest_first : (h : List Entry) (i : ℕ) {e : Entry} → length h ≡ suc i → entry_at h i ≡ some e → h ≡ e ∷ oldest i h
newest_first h i n s = sym (oldest_all h) ∙ ap (λ (m : ℕ). oldest m h) (n ∙ sym (add-one i)) ∙ (parted h i s).before

pub is_send : (kind : Kind) → kind_number kind ≡ kind_send → (target : ℕ) × (value : List ℕ) × (kind ≡ send target value)
unfolding kind_number
is_send seq e = absurd (omega (arith, e))
is_send (send target value) e = (target, value, refl)
is_send (rec older m newer) e = absurd (omega (arith, e))
is_send (spawn child) e = absurd (omega (arith, e))
is_send self e = absurd (omega (arith, e))
is_send (check number) e = absurd (omega (arith, e))

pub is_spawn : (kind : Kind) → kind_number kind ≡ kind_spawn → (child : ℕ) × (kind ≡ spawn child)
unfolding kind_number
is_spawn seq e = absurd (omega (arith, e))
is_spawn (send target value) e = absurd (omega (arith, e))
is_spawn (rec older m newer) e = absurd (omega (arith, e))
is_spawn (spawn child) e = (child, refl)
is_spawn self e = absurd (omega (arith, e))
is_spawn (check number) e = absurd (omega (arith, e))
