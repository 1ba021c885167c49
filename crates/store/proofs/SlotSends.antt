-- What holds of each send by its slot holds of each by its count, and the other way round.
use Prim.Native.Nat.{ℕ}
use mathlib.Core.Path.{◌≡◌, sym, ◌∙◌, ap}
use mathlib.Core.Logic.{inl, inr}
use mathlib.Core.Option.{Option, none, some}
use mathlib.Core.List.{List, [], ◌∷◌, map}
use native.Mathlib.Omega.{arith}
use lib.Dec.{eqb}
use Rattle.lists.specs.Lists.{All}
use Rattle.lists.proofs.Tests.{none_not_some, true_or_false, eqb_apart, eqb_same, cond_true, cond_false}
use Rattle.rules.specs.State.{Letter, as_send, Entry}
use Rattle.rules.specs.Flight.{sends, letter_or, sent}
use Rattle.store.proofs.Histories.{sent_below}

module _ {A : Type 0} (f : A → Entry) (P : Letter → Type 0) where
  -- what an element sends has the property
  abbrev pub Sends : A → Type 0
  Sends x = (l : Letter) → as_send (f x).kind ≡ some l → P l

  pub by_count : (xs : List A) → All Sends xs → (k : ℕ) (l : Letter) → sent (map f xs) k ≡ some l → P l
  unfolding sent letter_or All
  by_count [] a k l e = none_not_some e
  by_count (x ∷ xs) a k l e = go (as_send (f x).kind) (a.0 l) (by_count xs a.1 k l) e
    where
      go : (o : Option Letter) → (o ≡ some l → P l) → (sent (map f xs) k ≡ some l → P l) → letter_or o (sends (map f xs)) k (sent (map f xs) k) ≡ some l → P l
      go none own older e = older e
      go (some m) own older e = elim (true_or_false (eqb (sends (map f xs)) k)) [
        | inl t ↦ own (sym (cond_true (some m) (sent (map f xs) k) t) ∙ e)
        | inr n ↦ older (sym (cond_false (some m) (sent (map f xs) k) n) ∙ e)
      ]

  pub by_slot : (xs : List A) → ((k : ℕ) (l : Letter) → sent (map f xs) k ≡ some l → P l) → All Sends xs
  unfolding sent letter_or All
  by_slot [] g = tt
  by_slot (x ∷ xs) g = (
    (λ l e. g (sends (map f xs)) l (ap (λ (o : Option Letter). letter_or o (sends (map f xs)) (sends (map f xs)) (sent (map f xs) (sends (map f xs)))) e ∙ cond_true (some l) (sent (map f xs) (sends (map f xs))) (eqb_same (sends (map f xs))))),
    by_slot xs (λ k l e. g k l (still (as_send (f x).kind) k l e)),
  )
    where
      -- an older send keeps its count
      still : (o : Option Letter) (k : ℕ) (l : Letter) → sent (map f xs) k ≡ some l → letter_or o (sends (map f xs)) k (sent (map f xs) k) ≡ some l
      still none k l e = e
      still (some m) k l e = cond_false (some m) (sent (map f xs) k) (eqb_apart (sends (map f xs)) k (λ z. let b = sent_below (map f xs) k e in omega arith)) ∙ e
