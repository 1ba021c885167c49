-- A spawn: 8 where the place is none or taken, else the child comes with its first control, which always fits.
use Prim.Native.Nat.{ℕ, ◌≤◌, ◌<◌}
use mathlib.Core.Path.{◌≡◌, refl, sym, ◌∙◌, ap}
use mathlib.Core.Bool.{Bool, true, false, not}
use mathlib.Core.Option.{some}
use mathlib.Core.List.{List}
use native.Mathlib.Omega.{arith}
use lib.Dec.{ltb}
use lib.ListN.{length, take}
use lib.Seq.{length-take-le}
use Rattle.std.specs.Prelude.{Ok, Err}
use Rattle.lists.proofs.Tests.{true_not_false, leb_of, ltb_of, ltb_over}
use Rattle.term.specs.Words.{word, tag_pid}
use Rattle.machine.specs.Work.{to_spawn}
use Rattle.step.specs.Steps.{Next, fitted_of, WroteNext}
use Rattle.step.specs.declared.work.Doing.TheVariants.{Spawn}
use Rattle.rules.specs.Answers.{place_taken}
use Rattle.rules.specs.State.{spawn, State, in_pool}
use Rattle.rules.specs.Load.{new_process}
use Rattle.rules.specs.Commands.{spawn_into, other, Plan, refuse, need, making, spawning, run}
use Rattle.rules.specs.Replies.{perform}
use Rattle.store.specs.Image.{IsImage}
use Rattle.calls.specs.Numbers.{Answer, number_of, value_of}
use Rattle.calls.specs.declared.answers.Refusal.TheVariants.{PlaceTaken, TooLarge as LargeAnswer}
use Rattle.reading.specs.Reads.{Holds, OfState, Lives}
use Rattle.entering.specs.Entering.{CanSpawn}
use Rattle.calls.specs.Answering.{Answers, Does}
use Rattle.calls.proofs.Answering.{obeys_same, does_refused}
use Rattle.reading.proofs.Holding.{at_image}
use Rattle.making.specs.Making.{about, Sized, WordRow, ChildRow, Within, process_at, MakesSpawn, Made}
use Rattle.stepping.specs.Stepping.{About, Free}
use Rattle.making.proofs.Living.{control_is, control_good, laws_of, sizes_of}
use Rattle.making.proofs.Made.{NoLength, fitted_else, fitted_row, wrote_drawn, wrote_length, wrote_within}
use Rattle.stepping.proofs.Steps.{WorkFor, for_doing, spawn_runs, about_lives}

-- a place that is refused by either test
twice_refused : (b : Bool) → need b place_taken (refuse place_taken) ≡ refuse place_taken
unfolding need
twice_refused true = refl
twice_refused false = refl

pub free_place : (entry : List ℕ) (f n : ℕ) (b : Bool) → OfState entry (λ s. n ≡ s.sizes.places) → f < n → OfState entry (λ s. b ≡ in_pool s f) → b ≡ false → OfState entry (Free f)
unfolding OfState
free_place entry f n b places below pool e s rest h = record { is_place = (let z = places s rest h in omega arith); is_free = sym (pool s rest h) ∙ e }

module _ (entry : List ℕ) (p f : ℕ) (about-spawn : OfState entry (About p Spawn)) where
  module _ (s : State) (rest : List ℕ) (h : Holds entry s rest) where
    spawning_at : (first : List ℕ) × (rows : (ℕ → List ℕ)) × (about s p ≡ to_spawn first rows)
    unfolding WorkFor OfState
    spawning_at = for_doing _ Spawn (about-spawn s rest h).is

    abbrev wanted : Plan
    wanted = making s p (process_at s p) (spawn f) (spawning_at.1 f) (other f (some (new_process spawning_at.0)))

    at_spawn_runs : run (spawn_into p f) s ≡ need (ltb f s.sizes.places) place_taken (need (not (in_pool s f)) place_taken wanted)
    unfolding spawning OfState
    at_spawn_runs = spawn_runs s h.sound p (about-spawn s rest h).lives spawning_at.2 f

    child_fits : length spawning_at.0 ≤ s.sizes.words
    unfolding OfState about
    child_fits =
        let lives = (about-spawn s rest h).lives in
        let born = (laws_of s h.sound).spawn (control_good s h.sound p lives) spawning_at.2 in
        let parent = (control_is s h.sound p lives).fits in
        omega (arith, born.fits)

  pub spawn_beyond : (n : ℕ) → OfState entry (λ s. n ≡ s.sizes.places) → n ≤ f → Does (spawn_into p f) entry entry (Err PlaceTaken)
  unfolding OfState need number_of value_of
  spawn_beyond n places beyond = does_refused (spawn_into p f) entry (Err PlaceTaken) refl (λ s rest h.
      at_spawn_runs s rest h ∙ ap (λ (b : Bool). need b place_taken (need (not (in_pool s f)) place_taken (wanted s rest h))) (ltb_over f s.sizes.places (omega (arith, places s rest h))))

  pub spawn_taken : (b : Bool) → OfState entry (λ s. b ≡ in_pool s f) → b ≡ true → Does (spawn_into p f) entry entry (Err PlaceTaken)
  unfolding OfState need number_of value_of
  spawn_taken b pool e = does_refused (spawn_into p f) entry (Err PlaceTaken) refl (λ s rest h.
      at_spawn_runs s rest h
      ∙ ap (λ (x : Bool). need (ltb f s.sizes.places) place_taken (need (not x) place_taken (wanted s rest h))) (sym (pool s rest h) ∙ e)
      ∙ twice_refused (ltb f s.sizes.places))

  module _ (old first : List ℕ) (own : Next) (sized : OfState entry (Sized old)) (wrote : OfState entry (ChildRow p old first own)) where
    child_wrote : (s : State) (rest : List ℕ) (h : Holds entry s rest) → WroteNext (spawning_at s rest h).0 old first own
    unfolding ChildRow OfState
    child_wrote s rest h = wrote s rest h (spawning_at s rest h).0 (spawning_at s rest h).1 (spawning_at s rest h).2

    child_told : (s : State) (rest : List ℕ) (h : Holds entry s rest) → own ≡ fitted_of (length (spawning_at s rest h).0) s.sizes.words
    unfolding OfState
    child_told s rest h = (child_wrote s rest h).answer ∙ ap (fitted_of (length (spawning_at s rest h).0)) (sized s rest h)

    pub child_else : NoLength own → Does (spawn_into p f) entry entry (Err LargeAnswer)
    unfolding Answers perform
    child_else k s rest h = true_not_false (leb_of (length (spawning_at s rest h).0) s.sizes.words (child_fits s rest h)) (fitted_else own _ _ k (child_told s rest h))

    pub child_within : (m : ℕ) → IsImage entry → own ≡ Ok m → m ≤ length first
    child_within m i e =
        let h : Holds entry i.state i.rest = record { sound = i.sound; words = i.words } in
        let w = child_wrote i.state i.rest h in
        let t = fitted_row m _ _ (sym e ∙ w.answer) in
        omega (arith, t.0, t.1, wrote_length _ _ _ _ w)

    pub child_part : (m : ℕ) → IsImage entry → own ≡ Ok m → m ≡ length (take m first)
    child_part m i e = sym (length-take-le m first (child_within m i e))

    child_is : (s : State) (rest : List ℕ) (h : Holds entry s rest) (m : ℕ) → own ≡ Ok m → take m first ≡ (spawning_at s rest h).0
    unfolding OfState
    child_is s rest h m e =
        let d = wrote_drawn s.sizes.words _ old first own (child_wrote s rest h) (sized s rest h) in
        let t = fitted_row m _ _ (sym e ∙ d.told) in
        ap (λ (x : ℕ). take x first) (sym t.0) ∙ d.stands t.1

    module _ (m w : ℕ) (old' row : List ℕ) (next : Next) (row_told : own ≡ Ok m) (sized' : OfState entry (Sized old')) (wrote' : OfState entry (WordRow p w old' row next)) (is-pid : w ≡ word tag_pid 0 f) where
      next_wrote : (s : State) (rest : List ℕ) (h : Holds entry s rest) → WroteNext ((spawning_at s rest h).1 f) old' row next
      unfolding OfState
      next_wrote s rest h = (wrote' s rest h).of_spawn (spawning_at s rest h).0 (spawning_at s rest h).1 f (spawning_at s rest h).2 is-pid

      -- what `make_spawn` asks for
      pub spawn_ready : IsImage entry → OfState entry (Free f)
          → IsImage entry × OfState entry (Lives p) × OfState entry (Sized row) × Within next (length row) × OfState entry (CanSpawn f (take m first))
      unfolding OfState
      spawn_ready i free = (
        i,
        about_lives entry p Spawn about-spawn,
        λ s rest h. wrote_length _ _ _ _ (next_wrote s rest h) ∙ sized' s rest h,
        wrote_within _ _ _ _ (next_wrote i.state i.rest (record { sound = i.sound; words = i.words })),
        λ s rest h. record {
          is_place = (free s rest h).is_place;
          is_free = (free s rest h).is_free;
          first_fits = (let c = child_fits s rest h in omega (arith, ap length (child_is s rest h m row_told)));
        },
      )

      pub spawn_does : (exit : List ℕ) (r : Answer) → OfState entry (Free f) → MakesSpawn p f next row (take m first) entry exit r → Does (spawn_into p f) entry exit r
      unfolding Answers perform OfState MakesSpawn Made need
      spawn_does exit r free made s rest h =
          let g = free s rest h in
          let drawn = wrote_drawn s.sizes.words _ old' row next (next_wrote s rest h) (sized' s rest h) in
          obeys_same _ _ s rest exit r
          (at_spawn_runs s rest h
          ∙ ap (λ (b : Bool). need b place_taken (need (not (in_pool s f)) place_taken (wanted s rest h))) (ltb_of f s.sizes.places g.is_place)
          ∙ ap (λ (b : Bool). need (not b) place_taken (wanted s rest h)) g.is_free
          ∙ ap (λ (c : List ℕ). making s p (process_at s p) (spawn f) ((spawning_at s rest h).1 f) (other f (some (new_process c)))) (sym (child_is s rest h m row_told)))
          (made s rest h ((spawning_at s rest h).1 f) drawn)

-- a place's number fits a word
pub place_small : (l : List ℕ) (f : ℕ) → IsImage l → OfState l (Free f) → f < 65536
place_small l f i free =
    let below = (at_image (Free f) i free).is_place in
    let few = (sizes_of i.state i.sound).places_high in
    omega arith
