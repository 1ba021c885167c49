-- Step and spawn on a store that holds a state: 3 where no process is at the place, else a buffer with room for its next control.
use Prim.Native.Nat.{ℕ, ◌≤◌}
use mathlib.Core.Path.{◌≡◌, refl, sym, ◌∙◌}
use mathlib.Core.Bool.{Bool, true, false}
use mathlib.Core.List.{List}
use native.Mathlib.Omega.{arith}
use lib.ListN.{length, take}
use lib.Seq.{length-take-le}
use Rattle.std.specs.Prelude.{Err}
use Rattle.rules.specs.State.{in_pool}
use Rattle.rules.specs.Commands.{step, spawn_into, at_process, run}
use Rattle.demands.proofs.Frame.{no_process_lem}
use Rattle.store.specs.Image.{IsImage}
use Rattle.calls.specs.Numbers.{number_of, value_of}
use Rattle.calls.specs.declared.answers.Refusal.TheVariants.{NoProcess}
use Rattle.reading.specs.Reads.{OfState, Lives}
use Rattle.calls.specs.Answering.{Does}
use Rattle.making.specs.Making.{Sized}
use Rattle.calls.proofs.Answering.{does_refused}
use Rattle.reading.proofs.Holding.{at_image}
use Rattle.making.proofs.Living.{sizes_of}

module _ (entry : List ℕ) (p : ℕ) (b : Bool) (pool : OfState entry (λ s. b ≡ in_pool s p)) where
  pub step_nobody : b ≡ false → Does (step p) entry entry (Err NoProcess)
  unfolding OfState run at_process number_of value_of
  step_nobody e = does_refused (step p) entry (Err NoProcess) refl (λ s rest h. rw (no_process_lem s p (sym (pool s rest h) ∙ e)) refl)

  pub spawn_nobody : (f : ℕ) → b ≡ false → Does (spawn_into p f) entry entry (Err NoProcess)
  unfolding OfState run at_process number_of value_of
  spawn_nobody f e = does_refused (spawn_into p f) entry (Err NoProcess) refl (λ s rest h. rw (no_process_lem s p (sym (pool s rest h) ∙ e)) refl)

  pub somebody : b ≡ true → OfState entry (Lives p)
  unfolding OfState
  somebody e s rest h = sym (pool s rest h) ∙ e

-- the buffers have room for a control
pub words_few : (l : List ℕ) (w : ℕ) → IsImage l → OfState l (λ s. w ≡ s.sizes.words) → w ≤ 255
words_few l w i e = let few = (sizes_of i.state i.sound).words_high in omega (arith, at_image (λ s. w ≡ s.sizes.words) i e)

pub buffer_sized : (l row : List ℕ) (w : ℕ) → IsImage l → OfState l (λ s. w ≡ s.sizes.words) → 255 ≤ length row → OfState l (Sized (take w row))
unfolding OfState
buffer_sized l row w i e long s rest h = let few = words_few l w i e in length-take-le w row (omega arith) ∙ e s rest h

pub buffer_length : (l row : List ℕ) (w : ℕ) → IsImage l → OfState l (λ s. w ≡ s.sizes.words) → 255 ≤ length row → w ≡ length (take w row)
buffer_length l row w i e long = let few = words_few l w i e in sym (length-take-le w row (omega arith))
