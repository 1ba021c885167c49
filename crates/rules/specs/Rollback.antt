-- Rollback. 01: "rollback p t takes p's newest check entry t and undoes it with all events that depend on it."
use Rattle.std.specs.Prelude.{ℕ, zero, suc, ◌≡◌, ◌↔◌, Bool, true, false, cond, not, ◌&&◌, List, [], ◌∷◌, ◌++◌, map, eqb, ltb, length}
use Rattle.std.proofs.Math.Option.{Option, none, some}
use Rattle.lists.specs.Lists.{any, keep, joined, up_to}
use Rattle.rules.specs.Answers.{done, no_process, held, no_checkpoint}
use Rattle.rules.specs.State.{as_check, Entry, State, history_at, in_pool}
use Rattle.rules.specs.Commands.{Command, back, undeliver, run_state}
use Rattle.rules.specs.Reverse.{is_forward}
use Rattle.rules.specs.Depends.{Series, entries_of, deliveries_to, Event, event, level, happened, depends_at_once, WithDependents}

-- p's newest check entry t, counted from the oldest entry
unfoldable pub is_check : ℕ → Option ℕ → Bool
is_check t none = false
is_check t (some number) = eqb number t

unfoldable pub newest_check : ℕ → List Entry → Option ℕ
newest_check t [] = none
newest_check t (e ∷ older) = elim (is_check t (as_check e.kind)) [ true ↦ some (length older) | false ↦ newest_check t older ]

-- the command undoes
unfoldable pub is_undo : Command → Bool
is_undo c = not (is_forward c)

-- so many accepted undos lead from one state to another
pub data Undos : State → State → ℕ → Type 0 where
  stop : {s : State} → Undos s s 0
  undo : {s m t : State} {n : ℕ} (c : Command) → is_undo c ≡ true → run_state c s ≡ some m → Undos m t n → Undos s t (suc n)

-- accepted undos remove exactly a set of events
pub record Removes (s t : State) (set : Event → Type 0) (n : ℕ) : Type 0 where
  pub undos : Undos s t n
  pub exactly : (e : Event) → happened s e ≡ true → (happened t e ≡ false) ↔ set e

-- the answer of rollback p t, the count that it adds, and the state after
pub data Rollback (s : State) (p t : ℕ) : ℕ → ℕ → State → Type 0 where
  is_done : {end : State} {i n : ℕ} → in_pool s p ≡ true → newest_check t (history_at s p) ≡ some i → Removes s end (WithDependents s (event (entries_of p) i)) n → Rollback s p t done n end
  -- "accepted undos in no order remove exactly that set"
  is_held : {i : ℕ} → in_pool s p ≡ true → newest_check t (history_at s p) ≡ some i → ((end : State) (n : ℕ) → ¬ Removes s end (WithDependents s (event (entries_of p) i)) n) → Rollback s p t held 0 s
  no_check : in_pool s p ≡ true → newest_check t (history_at s p) ≡ none → Rollback s p t no_checkpoint 0 s
  no_process_lem : in_pool s p ≡ false → Rollback s p t no_process 0 s

-- The same, computed. Later events of a series depend on the earlier ones, so the set takes the newest events of each series: it is a cut,
-- which says how many events of each series stay. That this gives the answer which `Rollback` allows, and the only one, is the statement
-- `RollbackIsExact` of RollbackDemands.

abbrev pub Cut : Type 0
Cut = Series → ℕ

unfoldable pub same_series : Series → Series → Bool
same_series (entries_of p) (entries_of q) = eqb p q
same_series (entries_of p) (deliveries_to q) = false
same_series (deliveries_to p) (entries_of q) = false
same_series (deliveries_to p) (deliveries_to q) = eqb p q

-- the cut with so many events of one series
unfoldable pub cut_to : Series → ℕ → Cut → Cut
cut_to x n cut y = cond (same_series x y) n (cut y)

unfoldable pub events_on : State → Series → List Event
events_on s x = map (event x) (up_to (level s x))

unfoldable pub events_at : State → ℕ → List Event
events_at s p = events_on s (entries_of p) ++ events_on s (deliveries_to p)

unfoldable pub events : State → List Event
events s = joined (map (events_at s) (up_to s.sizes.places))

unfoldable pub stays : Cut → Event → Bool
stays cut (event x i) = ltb i (cut x)

-- the events that a cut takes off
unfoldable pub taken_off : State → Cut → List Event
taken_off s cut = keep (λ e. not (stays cut e)) (events s)

-- the events that it keeps, though they depend at once on one that it takes off
unfoldable pub torn : State → Cut → List Event
torn s cut = keep (λ e. stays cut e && any (depends_at_once s e) (taken_off s cut)) (events s)

-- the cut lowered to the first such event until there is none; there are no more rounds than events
unfoldable pub settled : State → ℕ → Cut → Cut
settled s zero cut = cut
settled s (suc rounds) cut = elim (torn s cut) [ [] ↦ cut | e ∷ es ↦ elim e [ event x i ↦ settled s rounds (cut_to x i cut) ] ]

-- the cut that takes off an event with all events that depend on it
unfoldable pub cut_before : State → Event → Cut
cut_before s (event x i) = settled s (length (events s)) (cut_to x i (level s))

-- the command that takes off the newest event of a series
unfoldable pub undo_of : Series → Command
undo_of (entries_of p) = back p
undo_of (deliveries_to q) = undeliver q

-- the state after that, where the event is to go and the command is accepted
unfoldable pub undo_above : State → Cut → Series → Option State
undo_above s cut x = elim (ltb (cut x) (level s x)) [ true ↦ run_state (undo_of x) s | false ↦ none ]

-- the first such undo along some series
unfoldable pub undo_along : State → Cut → List Series → Option State
undo_along s cut [] = none
undo_along s cut (x ∷ rest) = elim (undo_above s cut x) [ some after ↦ some after | none ↦ undo_along s cut rest ]

unfoldable pub series_in : State → List Series
series_in s = map entries_of (up_to s.sizes.places) ++ map deliveries_to (up_to s.sizes.places)

-- so many such undos
unfoldable pub undo_all : ℕ → State → Cut → Option State
undo_all zero s cut = some s
undo_all (suc n) s cut = elim (undo_along s cut (series_in s)) [ none ↦ none | some after ↦ undo_all n after cut ]

pub data RolledBack : Type 0 where
  refused : (number : ℕ) → RolledBack
  rolled : (count : ℕ) → State → RolledBack

-- an answer's number, the count that it adds and the state after
unfoldable pub rolled_number : RolledBack → ℕ
rolled_number (refused number) = number
rolled_number (rolled count end) = done

unfoldable pub rolled_count : RolledBack → ℕ
rolled_count (refused number) = 0
rolled_count (rolled count end) = count

unfoldable pub rolled_state : State → RolledBack → State
rolled_state s (refused number) = s
rolled_state s (rolled count end) = end

-- what a cut takes off is undone, or nothing
unfoldable pub undo_to : State → Cut → RolledBack
undo_to s cut = elim (undo_all (length (taken_off s cut)) s cut) [ none ↦ refused held | some end ↦ rolled (length (taken_off s cut)) end ]

unfoldable pub rollback : (p t : ℕ) → State → RolledBack
rollback p t s = elim (in_pool s p) [
  | false ↦ refused no_process
  | true ↦ elim (newest_check t (history_at s p)) [ none ↦ refused no_checkpoint | some i ↦ undo_to s (cut_before s (event (entries_of p) i)) ]
]
