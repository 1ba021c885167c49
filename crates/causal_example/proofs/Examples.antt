-- What causal consistency says of some sequences at the shelf.
use mathlib.Core.Path.{◌≡◌, refl}
use mathlib.Core.Option.{none, some}
use mathlib.Core.List.{List, [], ◌∷◌}
use Prim.Native.Nat.{ℕ}
use native.Mathlib.Decide.{dec_le}
use native.Mathlib.Omega.{arith}
use Rattle.causal.specs.Paths.{Turns}
use Rattle.causal.specs.Exec.{Step, run_all}
use Rattle.causal.proofs.Exec.{consistency_of_runs}
use Rattle.causal_example.specs.Shelf.{shelf, alone, act, back, Command, maker, taker, Shop, shop, items, exec, reverse, root, Independent}
use Rattle.causal_example.proofs.Laws.{laws}

abbrev pub put : Command
put = maker (act shelf)

abbrev pub take : Command
take = taker (act shelf)

abbrev pub pause : Command
pause = taker (act alone)

-- One item lies on the shelf.
abbrev pub stocked : Shop
stocked = shop (shelf ∷ []) []

pub stocked_reached : run_all exec (put ∷ []) root ≡ some stocked
unfolding run_all exec items dec_le
stocked_reached = refl

-- Two sequences end alike, the one after a detour: so it turns into the other.
abbrev pub straight : List Command
straight = put ∷ take ∷ pause ∷ []

abbrev pub detour : List Command
detour = take ∷ taker back ∷ take ∷ pause ∷ put ∷ []

abbrev pub sold : Shop
sold = shop (shelf ∷ shelf ∷ []) (alone ∷ shelf ∷ [])

pub straight_end : run_all exec straight stocked ≡ some sold
unfolding run_all exec items dec_le
straight_end = refl

pub detour_end : run_all exec detour stocked ≡ some sold
unfolding run_all exec items dec_le
detour_end = refl

pub detour_turns : Turns (Step exec) reverse Independent stocked detour straight
detour_turns = ((consistency_of_runs laws).causal (put ∷ []) detour straight stocked sold sold stocked_reached detour_end straight_end).0 refl

-- The same two acts of one worker in two orders end differently: so neither order turns into the other.
abbrev pub early : List Command
early = take ∷ pause ∷ []

abbrev pub late : List Command
late = pause ∷ take ∷ []

pub early_end : run_all exec early stocked ≡ some (shop (shelf ∷ []) (alone ∷ shelf ∷ []))
unfolding run_all exec items dec_le
early_end = refl

pub late_end : run_all exec late stocked ≡ some (shop (shelf ∷ []) (shelf ∷ alone ∷ []))
unfolding run_all exec items dec_le
late_end = refl

pub early_is_not_late : ¬ Turns (Step exec) reverse Independent stocked early late
early_is_not_late x =
    let same = ((consistency_of_runs laws).causal (put ∷ []) early late stocked _ _ stocked_reached early_end late_end).1 x in
    let clash : ◌≡◌ {A = ℕ} 0 1 = cc in
    omega arith

-- To take the last item, and to undo that it was put there, are both accepted, but not independent: after the one the other is refused.
pub one_is_not_enough : ¬ Independent stocked take (maker back)
unfolding items
one_is_not_enough i = omega (arith, i.enough)

pub undo_accepted : run_all exec (maker back ∷ []) stocked ≡ some root
unfolding run_all exec items dec_le
undo_accepted = refl

pub undo_refused : run_all exec (take ∷ maker back ∷ []) stocked ≡ none
unfolding run_all exec items dec_le
undo_refused = refl
