-- What is known of a process that lives in the sound state that a store holds.
use Prim.Native.Nat.{ℕ, ◌<◌}
use mathlib.Core.Path.{◌≡◌, refl, ◌∙◌, ap}
use mathlib.Core.Bool.{true}
use mathlib.Core.Option.{Option, none, some}
use mathlib.Core.List.{List}
use native.Mathlib.Omega.{arith}
use lib.Dec.{ltb}
use lib.ListN.{length}
use Rattle.lists.proofs.Tests.{true_not_false}
use Rattle.term.specs.Read.{term_of, terms_of}
use Rattle.machine.specs.Laws.{Good, WorkLaws}
use Rattle.machine.proofs.WorkLaws.{work_laws}
use Rattle.step.specs.Controls.{ControlIs}
use Rattle.rules.specs.State.{Process, State, history_of, history_at, is_process, in_pool}
use Rattle.rules.specs.Sound.{SoundControl, Sound}
use Rattle.store.specs.Image.{IsImage}
use Rattle.store.proofs.SoundStates.{SizesIn, sizes_in_lem, module_short, in_places}
use Rattle.reading.specs.Reads.{OfState, control_of, control_at, Lives}
use Rattle.reading.proofs.Holding.{at_image}
use Rattle.making.specs.Making.{process_at}
use Rattle.step.proofs.Ready.{control_ready}

live_process : (o : Option Process) → is_process o ≡ true → o ≡ some (record { control = control_of o; history = history_of o })
unfolding is_process control_of history_of
live_process none e = true_not_false e refl
live_process (some a) e = refl

module _ (s : State) (sound : Sound s) where
  pub sizes_of : SizesIn s.sizes
  sizes_of = sizes_in_lem s.sizes sound.sizes_pass

  pub laws_of : WorkLaws s.module' s.sizes.places
  laws_of = let few = sizes_of.places_high in work_laws s.module' s.sizes.places sound.module_passes sizes_of.places_low (omega arith)

module _ (s : State) (sound : Sound s) (p : ℕ) (lives : in_pool s p ≡ true) where
  pub process_is : s.processes p ≡ some (process_at s p)
  unfolding in_pool control_at history_at
  process_is = live_process (s.processes p) lives

  pub place_is : p < s.sizes.places
  place_is = in_places s sound p lives

  pub control_is : SoundControl s (control_at s p)
  control_is = sound.controls p (process_at s p) process_is

  pub control_good : Good s.module' s.sizes.places (control_at s p)
  unfolding Good
  control_good = control_is.good

  pub ready : ControlIs (terms_of s.module') (control_at s p) (term_of (control_at s p))
  ready = let few = (sizes_of s sound).places_high in control_ready s.module' (control_at s p) s.sizes.places sound.module_passes (omega arith) control_is.good

-- ---- of the state that words hold

pub control_short : (l c : List ℕ) (p : ℕ) → IsImage l → OfState l (Lives p) → OfState l (λ s. c ≡ control_at s p) → length c < 4294967295
control_short l c p i lives e =
    let fits = (control_is i.state i.sound p (at_image (Lives p) i lives)).fits in
    let few = (sizes_of i.state i.sound).words_high in
    omega (arith, ap length (at_image (λ s. c ≡ control_at s p) i e))

pub program_short : (l m : List ℕ) → IsImage l → OfState l (λ s. m ≡ s.module') → length m < 4294967295
program_short l m i e =
    let short = module_short i.state.module' i.sound.module_passes in
    omega (arith, ap length (at_image (λ s. m ≡ s.module') i e))

-- whether p may have one entry more
pub room_is : (l : List ℕ) (p n most : ℕ) → OfState l (λ s. n ≡ length (history_at s p)) → OfState l (λ s. most ≡ s.sizes.entries) → OfState l (λ s. ltb n most ≡ ltb (length (history_at s p)) s.sizes.entries)
unfolding OfState
room_is l p n most a b s rest h = ap (λ (x : ℕ). ltb x most) (a s rest h) ∙ ap (ltb (length (history_at s p))) (b s rest h)
