-- What a loop over numbers needs to find the cut of an event with all that depend on it: where it starts, each lowering, and that it has
-- arrived where 01's list in numbers holds.
use Prim.Native.Nat.{ℕ, ◌<◌, ◌≤◌}
use mathlib.Core.Path.{◌≡◌, fun_ext}
use mathlib.Core.Option.{some}
use mathlib.Core.List.{List}
use native.Mathlib.Decide.{dec_lt}
use native.Mathlib.Omega.{arith}
use Rattle.rules.specs.State.{Message, letter, taking, as_send, as_rec, as_spawn, Entry, State}
use Rattle.rules.specs.Flight.{sends}
use Rattle.rules.specs.Sound.{Sound}
use Rattle.rules.specs.Depends.{Series, entries_of, deliveries_to, level, WithDependents, event, Event}
use Rattle.rules.specs.Standing.{Stands, Arrives, seen}
use Rattle.rules.specs.Rollback.{Cut, cut_to, cut_before}
use Rattle.demands.proofs.Removal.{total}
use Rattle.demands.proofs.Cut.{Within, IsCut, dependents_up, closed_cut, cut_at, cut_low, lowered_within, start_low, start_within, cut_is, cut_below, place_below, total_less}
use Rattle.demands.proofs.CutNumbers.{Good, good_closed, pull_send, pull_child, pull_since, pull_rec}

-- two cuts of one set are the same
cut_one : {s : State} {set : Event → Type 0} {k k' : Cut} → IsCut s set k → IsCut s set k' → ((x : Series) → k' x ≤ level s x) → (x : Series) → k' x ≤ k x
cut_one {k = k} {k'} c c' low x = elim (dec_lt (k x) (k' x)) [ no h ↦ omega arith | yes h ↦ c'.stays_out x (k x) (c.goes x (k x) (omega (arith, h, low x)) (omega arith)) ]

module _ {s : State} (sound : Sound s) (x : Series) (i : ℕ) (happens : i < level s x) where
  -- what holds of the numbers all along: they take the event, and nothing but what depends on it
  pub record Loop (k : Cut) : Type 0 where
    pub within : Within s (WithDependents s (event x i)) k
    pub low : (y : Series) → k y ≤ level s y
    pub takes : k x ≤ i

  pub loop_start : Loop (cut_to x i (level s))
  loop_start = record { within = start_within sound x i happens; low = start_low sound x i happens; takes = omega (arith, cut_at x i (level s)) }

  -- each lowering lowers the sum of the numbers
  loop_lower : {k : Cut} (y : Series) (j : ℕ) → Loop k → j < k y → (j < level s y → WithDependents s (event x i) (event y j)) → Loop (cut_to y j k) × (total s.sizes.places (cut_to y j k) < total s.sizes.places k)
  loop_lower {k} y j l h inside =
      let below : (z : Series) → cut_to y j k z ≤ k z = cut_low y {i = j} k (omega arith) in (
        record { within = lowered_within (dependents_up s x i) y j l.within inside; low = λ z. omega (arith, below z, l.low z); takes = omega (arith, below x, l.takes) },
        total_less s.sizes.places y (cut_to y j k) k (place_below sound y {i = j} (omega (arith, h, l.low y))) (omega (arith, h, cut_at y j k)) below,
      )

  abbrev Lower : Cut → Series → ℕ → Type 0
  Lower k y j = Loop (cut_to y j k) × (total s.sizes.places (cut_to y j k) < total s.sizes.places k)

  module _ {k : Cut} (l : Loop k) where
    -- a rec that stays has seen an arrival that goes: the rec goes
    pub lower_rec : {p j : ℕ} {e : Entry} {g : List Entry} {a d : List Message} {m : Message} → Stands s p j e g → as_rec e.kind ≡ some (taking a m d) → j < k (entries_of p)
        → k (deliveries_to p) < seen a m d g → Lower k (entries_of p) j
    lower_rec {p} {j} st is h g = loop_lower (entries_of p) j l h (λ _. pull_rec sound (dependents_up s x i) l.within st is g)

    -- a rec goes, and an arrival after it stays: the arrivals since go
    pub lower_since : {p j : ℕ} {e : Entry} {g : List Entry} {a d : List Message} {m : Message} → Stands s p j e g → as_rec e.kind ≡ some (taking a m d) → k (entries_of p) ≤ j
        → seen a m d g < k (deliveries_to p) → Lower k (deliveries_to p) (seen a m d g)
    lower_since {p} {g = g} {a} {d} {m} st is h z = loop_lower (deliveries_to p) (seen a m d g) l z (λ low. pull_since sound (dependents_up s x i) l.within st is h low)

    -- a send goes, and its arrival stays: the arrival goes
    pub lower_send : {q j b : ℕ} {v : List ℕ} {e : Entry} {g : List Entry} {n : Message} → Arrives s q j n → Stands s n.sender b e g → as_send e.kind ≡ some (letter q v) → sends g ≡ n.count
        → k (entries_of n.sender) ≤ b → j < k (deliveries_to q) → Lower k (deliveries_to q) j
    lower_send {q} {j} r st is c h z = loop_lower (deliveries_to q) j l z (λ _. pull_send sound (dependents_up s x i) l.within r st is c h)

    -- a spawn goes, and something of its child stays: all of the child goes
    pub lower_child : {p q b : ℕ} {e : Entry} {g : List Entry} → Stands s p b e g → as_spawn e.kind ≡ some q → k (entries_of p) ≤ b → 0 < k (entries_of q) → Lower k (entries_of q) 0
    lower_child {q = q} st is h z = loop_lower (entries_of q) 0 l z (λ low. (pull_child sound (dependents_up s x i) l.within st is h).0 low)

    pub lower_child_mail : {p q b : ℕ} {e : Entry} {g : List Entry} → Stands s p b e g → as_spawn e.kind ≡ some q → k (entries_of p) ≤ b → 0 < k (deliveries_to q) → Lower k (deliveries_to q) 0
    lower_child_mail {q = q} st is h z = loop_lower (deliveries_to q) 0 l z (λ low. (pull_child sound (dependents_up s x i) l.within st is h).1 low)

    -- where none of these is to be done, the numbers are the cut
    pub loop_cut : Good s k → IsCut s (WithDependents s (event x i)) k
    loop_cut good = closed_cut x i (good_closed sound good) l.within l.takes

    pub loop_done : Good s k → k ≡ cut_before s (event x i)
    loop_done good = fun_ext λ y.
        let c = cut_is sound x i happens in
        omega (arith, cut_one (loop_cut good) c (cut_below sound x i happens) y, cut_one c (loop_cut good) l.low y)
