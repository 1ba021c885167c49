-- The walk from the newest entry to the newest rec: how many messages it left.
use Prim.Native.Nat.{ℕ, suc, ◌+◌, ◌-◌, ◌<◌, ◌≤◌}
use mathlib.Core.Path.{◌≡◌, sym, ◌∙◌, ap}
use mathlib.Core.Option.{some}
use mathlib.Core.List.{List, ◌∷◌, ◌++◌, map}
use native.Mathlib.Omega.{arith}
use lib.ListN.{length, length-append, length-map}
use Rattle.rules.specs.State.{as_rec, Entry, State, history_at, entry_at}
use Rattle.rules.specs.Flight.{left_or, left}
use Rattle.rules.specs.Depends.{queue_before}
use Rattle.demands.proofs.Histories.{left_older}
use Rattle.store.specs.Layout.{kind_rec, name_word, kind_number}
use Rattle.store.specs.Image.{IsImage}
use Rattle.reading.specs.Reads.{Holds, OfState, IsEntry, OfEntry, oldest}
use Rattle.reading.proofs.Holding.{of_image}
use Rattle.reading.proofs.Oldest.{rec_by_kind, none_by_kind, entry_exists, oldest_none, oldest_all, parted}

-- no rec stands at i or above
pub record NoRecFrom (p i : ℕ) (s : State) : Type 0 where
  pub within : i ≤ length (history_at s p)
  pub same : left (history_at s p) ≡ left (oldest i (history_at s p))

module _ (l : List ℕ) (p : ℕ) where
  pub left_start : (n : ℕ) → OfState l (λ s. n ≡ length (history_at s p)) → OfState l (NoRecFrom p n)
  unfolding OfState
  left_start n count s rest h =
      let e = count s rest h in
      record { within = omega (arith, e); same = sym (ap (λ m. left (oldest m (history_at s p))) e ∙ ap left (oldest_all (history_at s p))) }

  pub left_ends : (i : ℕ) → i ≤ 0 → OfState l (NoRecFrom p i) → OfState l (λ s. 0 ≡ length (left (history_at s p)))
  unfolding OfState left
  left_ends i none_left so_far s rest h =
      let e : i ≡ 0 = omega arith in
      sym (ap length ((so_far s rest h).same ∙ ap (λ m. left (oldest m (history_at s p))) e ∙ ap left (oldest_none (history_at s p))))

  module _ (i : ℕ) (some_left : 0 < i) (so_far : OfState l (NoRecFrom p i)) where
    pub left_entry : OfState l (IsEntry p (i - 1))
    unfolding OfState
    left_entry s rest h = let z = (so_far s rest h).within in omega arith

    more : (s : State) (e : Entry) → entry_at (history_at s p) (i - 1) ≡ some e → left (oldest i (history_at s p)) ≡ left_or (as_rec e.kind) (left (oldest (i - 1) (history_at s p)))
    unfolding left
    more s e stands = let z : i ≡ i - 1 + 1 = omega arith in ap left (ap (λ (m : ℕ). oldest m (history_at s p)) z ∙ (parted (history_at s p) (i - 1) stands).before)

    pub left_again : (kind : ℕ) → OfState l (OfEntry p (i - 1) (λ e. kind ≡ kind_number e.kind)) → ¬ (kind ≡ kind_rec) → OfState l (NoRecFrom p (i - 1))
    unfolding OfState OfEntry
    left_again kind read n s rest h =
        let now = so_far s rest h in
        let (e, stands) = entry_exists (history_at s p) (i - 1) (left_entry s rest h) in
        let other = none_by_kind e.kind (λ is. n (read s rest h e stands ∙ is)) in
        record { within = omega (arith, now.within); same = now.same ∙ more s e stands ∙ left_older (as_rec e.kind) _ other }

    module _ (kind : ℕ) (read : OfState l (OfEntry p (i - 1) (λ e. kind ≡ kind_number e.kind))) (is : kind ≡ kind_rec)
        (names : List ℕ) (before : OfState l (OfEntry p (i - 1) (λ e. names ≡ map name_word (queue_before (as_rec e.kind))))) where
      counted : (s : State) (rest : List ℕ) → Holds l s rest → length names ≡ suc (length (left (history_at s p)))
      unfolding OfState OfEntry as_rec queue_before left_or
      counted s rest h =
          let (e, stands) = entry_exists (history_at s p) (i - 1) (left_entry s rest h) in
          let (older, m, newer, k) = rec_by_kind e.kind (sym (read s rest h e stands) ∙ is) in
          let there : left (history_at s p) ≡ older ++ newer = (so_far s rest h).same ∙ more s e stands ∙ ap (λ x. left_or (as_rec x) (left (oldest (i - 1) (history_at s p)))) k in
          let queue : names ≡ map name_word (older ++ (m ∷ newer)) = before s rest h e stands ∙ ap (λ x. map name_word (queue_before (as_rec x))) k in
          ap length queue ∙ length-map (older ++ (m ∷ newer)) name_word ∙ omega (arith, length-append older (m ∷ newer), length-append older newer, ap length there)

      pub left_some : IsImage l → 1 ≤ length names
      left_some image = let z = counted image.state image.rest (of_image l image) in omega arith

      pub left_found : OfState l (λ s. length names - 1 ≡ length (left (history_at s p)))
      unfolding OfState
      left_found s rest h = let z = counted s rest h in omega arith
