-- A step and its reverse give back the same words.
use Prim.Native.Nat.{ℕ}
use mathlib.Core.Path.{◌≡◌, refl, sym, ◌∙◌, ap}
use mathlib.Core.Option.{some}
use mathlib.Core.List.{List, ◌++◌}
use Rattle.rules.specs.Answers.{done}
use Rattle.rules.specs.State.{State}
use Rattle.rules.specs.Commands.{Command, run_state}
use Rattle.rules.specs.Sound.{Sound}
use Rattle.rules.specs.Line.{single}
use Rattle.rules.specs.Reverse.{reverse}
use Rattle.demands.proofs.Consequences.{consequences, reverses}
use Rattle.store.specs.Layout.{image}
use Rattle.store.specs.Loading.{Outcome}
use Rattle.calls.specs.Calls.{outcome, RequestCall}
use Rattle.calls.specs.Promises.{WordsReturn}
use Rattle.calls.proofs.Accepted.{accepted_stored, done_accepted}

-- an accepted command on the image of a state
pub accepted_call : (s a : State) (rest entry : List ℕ) (c : Command) (o : Outcome) → Sound s → entry ≡ image s ++ rest → run_state c s ≡ some a → RequestCall (single c) entry o
    → o ≡ outcome done 0 (image a ++ rest)
unfolding RequestCall
accepted_call s a rest entry c o sound at e call = call.on_image s rest sound at ∙ accepted_stored c s a rest e

done_call : (s : State) (rest : List ℕ) (c : Command) (o : Outcome) → Sound s → RequestCall (single c) (image s ++ rest) o → o.number ≡ done → (a : State) × (run_state c s ≡ some a)
unfolding RequestCall
done_call s rest c o sound call h = done_accepted s c rest sound (sym (ap (λ (y : Outcome). y.number) (call.on_image s rest sound refl)) ∙ h)

returns : (s a : State) (rest : List ℕ) (c : Command) (o o' : Outcome) → Sound s → RequestCall (single c) (image s ++ rest) o → run_state c s ≡ some a
    → run_state (reverse s c) a ≡ some s → RequestCall (single (reverse s c)) o.left o' → (o'.number ≡ done) × (o'.left ≡ image s ++ rest)
returns s a rest c o o' sound call e back call' =
    let left = ap (λ (y : Outcome). y.left) (accepted_call s a rest (image s ++ rest) c o sound refl e call) in
    let same = accepted_call a s rest o.left (reverse s c) o' (consequences.sound.stepped s a c sound e) left back call' in
    (ap (λ (y : Outcome). y.number) same, ap (λ (y : Outcome). y.left) same)

pub words_return : WordsReturn
words_return = record {
  undone = λ s rest c o o' sound forward call h call'.
      let (a, e) = done_call s rest c o sound call h in
      returns s a rest c o o' sound call e (consequences.reverse.undone s a c sound forward e) call';
  retaken = λ s rest c o o' reached call h call'.
      let sound = consequences.sound.reached s reached in
      let (a, e) = done_call s rest c o sound call h in
      returns s a rest c o o' sound call e (reverses s a c reached e) call';
}
