-- The oldest message that a receive takes: the walk over the queue finds what `pick` does.
use Prim.Native.Nat.{ℕ, suc, ◌+◌, ◌≤◌, ◌<◌}
use mathlib.Core.Path.{◌≡◌, refl, sym, ◌∙◌, ap, subst}
use mathlib.Core.Option.{Option, none, some}
use mathlib.Core.List.{List, [], ◌∷◌, ◌++◌, map}
use native.Mathlib.Omega.{arith}
use native.Mathlib.Numerals.{add-one}
use lib.ListN.{length, take, drop, get_or, length-map}
use lib.Seq.{take-suc, take_all, split_at, length-take-le}
use Rattle.std.specs.Prelude.{Err}
use Rattle.lists.specs.Lists.{All}
use Rattle.lists.proofs.All.{all_left, all_append, all_get_d, map_at}
use Rattle.machine.specs.Work.{to_receive}
use Rattle.step.specs.Steps.{Next, WroteNext}
use Rattle.step.specs.Becomes.{RowIs}
use Rattle.step.specs.declared.step.NoNext.TheVariants.{Nothing}
use Rattle.rules.specs.State.{Message, State, history_at}
use Rattle.rules.specs.Flight.{taken}
use Rattle.rules.specs.Sound.{SentTo}
use Rattle.rules.specs.Commands.{Picked, picked, pick}
use Rattle.rules.specs.Receives.{NoneTaken}
use Rattle.rules.proofs.Oldest.{none_picked, ahead_picked}
use Rattle.store.specs.Layout.{name_word}
use Rattle.reading.specs.Reads.{Holds, OfState}
use Rattle.making.specs.Making.{about, IsSent, TakenRow, PickIs, PickedRow}
use Rattle.making.proofs.Made.{fitted_nothing}

abbrev Takes : Type 0
Takes = List ℕ → Option (List ℕ)

-- a receive passes over these messages
abbrev Passed : Takes → Message → Type 0
Passed takes m = takes m.value ≡ none

-- any message, for a place outside of a queue
abbrev nobody : Message
nobody = record { sender = 0; count = 0; value = [] }

-- ---- the walk

-- the messages before i are passed over, and nothing was written
unfoldable pub Walked : (p i : ℕ) (old new : List ℕ) → State → Type 0
Walked p i old new s = (takes : Takes) → about s p ≡ to_receive takes → (new ≡ old) × All (Passed takes) (take i (s.queues p))

abbrev pub NamesAre : ℕ → List ℕ → State → Type 0
NamesAre p names s = names ≡ map name_word (s.queues p)

pub walk_starts : (l old : List ℕ) (p : ℕ) → OfState l (Walked p 0 old old)
unfolding OfState Walked All
walk_starts l old p s rest h takes a = (refl, tt)

row_nothing : (o : Option (List ℕ)) (old new : List ℕ) (r : Next) → RowIs o old new r → r ≡ Err Nothing → (o ≡ none) × (new ≡ old)
unfolding RowIs
row_nothing none old new r x e = (refl, x.1)
row_nothing (some row) old new r x e = absurd (fitted_nothing (length row) (length old) (sym e ∙ x.answer))

row_some : (o : Option (List ℕ)) (old new : List ℕ) (r : Next) → RowIs o old new r → ¬ (r ≡ Err Nothing) → (row : List ℕ) × (o ≡ some row) × WroteNext row old new r
unfolding RowIs
row_some none old new r x d = absurd (d x.0)
row_some (some row) old new r x d = (row, refl, x)

module _ (l names : List ℕ) (p i : ℕ) (named : OfState l (NamesAre p names)) (inside : i < length names) where
  module _ (s : State) (rest : List ℕ) (h : Holds l s rest) where
    abbrev here : Message
    here = get_or (s.queues p) i nobody

    in_queue : i < length (s.queues p)
    unfolding OfState
    in_queue = omega (arith, ap length (named s rest h), length-map (s.queues p) name_word)

    here_named : name_word here ≡ get_or names i 0
    unfolding OfState
    here_named = sym (map_at name_word i (s.queues p) nobody 0 in_queue) ∙ ap (λ (x : List ℕ). get_or x i 0) (sym (named s rest h))

    here_sent : SentTo s p here
    here_sent = all_get_d (SentTo s p) (s.queues p) i nobody (all_left (SentTo s p) (s.queues p) (taken (history_at s p)) (h.sound.nothing_else p)) in_queue

    here_splits : s.queues p ≡ take i (s.queues p) ++ (here ∷ drop (suc i) (s.queues p))
    here_splits = split_at (s.queues p) i nobody in_queue

  pub name_sent : OfState l (IsSent p (get_or names i 0))
  unfolding OfState
  name_sent s rest h = record { message = here s rest h; said = here_sent s rest h; named = here_named s rest h }

  module _ (old between new : List ℕ) (next : Next) (walked : OfState l (Walked p i old between)) (row : OfState l (TakenRow p (get_or names i 0) between new next)) where
    pub walk_on : next ≡ Err Nothing → OfState l (Walked p (i + 1) old new)
    unfolding OfState Walked TakenRow All
    walk_on e s rest h takes a =
        let w = walked s rest h takes a in
        let x = row_nothing _ between new next (row s rest h takes (here s rest h) a (here_sent s rest h) (here_named s rest h)) e in
        let longer : take (i + 1) (s.queues p) ≡ take i (s.queues p) ++ (here s rest h ∷ []) = ap (λ (n : ℕ). take n (s.queues p)) (add-one i) ∙ take-suc (s.queues p) i nobody (in_queue s rest h) in
        (x.1 ∙ w.0, subst (All (Passed takes)) (sym longer) (all_append (Passed takes) (take i (s.queues p)) (here s rest h ∷ []) w.1 (x.0, tt)))

    -- an answer that is not Nothing is told
    pub walk_stops : (told : Next) → next ≡ told → ¬ (next ≡ Err Nothing) → OfState l (PickedRow p old new (record { place = i; next = told }))
    unfolding OfState Walked TakenRow PickedRow PickIs NoneTaken
    walk_stops told e d s rest h takes a =
        let w = walked s rest h takes a in
        let x = row_some _ between new next (row s rest h takes (here s rest h) a (here_sent s rest h) (here_named s rest h)) d in
        let found : pick takes (s.queues p) ≡ some (picked (take i (s.queues p)) (here s rest h) (drop (suc i) (s.queues p)) x.0) =
        ap (pick takes) (here_splits s rest h) ∙ ahead_picked takes (take i (s.queues p)) (here s rest h) (drop (suc i) (s.queues p)) w.1 x.1 in
        let within = in_queue s rest h in
        subst (λ (o : Option Picked). PickIs o old new (record { place = i; next = told })) (sym found)
        (length-take-le i (s.queues p) (omega arith), subst (WroteNext x.0 old new) e (subst (λ (b : List ℕ). WroteNext x.0 b new next) w.0 x.2))

pub walk_ends : (l names old new : List ℕ) (p i : ℕ) → OfState l (NamesAre p names) → OfState l (Walked p i old new) → length names ≤ i → (place : ℕ)
    → OfState l (PickedRow p old new (record { place = place; next = Err Nothing }))
unfolding OfState Walked PickedRow PickIs NoneTaken
walk_ends l names old new p i named walked past place s rest h takes a =
    let w = walked s rest h takes a in
    let whole : take i (s.queues p) ≡ s.queues p = take_all i (s.queues p) (omega (arith, ap length (named s rest h), length-map (s.queues p) name_word)) in
    subst (λ (o : Option Picked). PickIs o old new (record { place = place; next = Err Nothing })) (sym (none_picked takes (s.queues p) (subst (All (Passed takes)) whole w.1))) refl
