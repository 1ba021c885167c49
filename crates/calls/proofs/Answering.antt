-- A call splits at the soundness test: 15 where the words hold no state, else what is answered of the state that they hold.
use Prim.Native.Nat.{ℕ}
use mathlib.Core.Path.{◌≡◌, refl, sym, ◌∙◌, ap}
use mathlib.Core.Bool.{Bool, true, false}
use mathlib.Core.List.{List, ◌++◌}
use Rattle.std.specs.Prelude.{Ok, Err}
use Rattle.lists.specs.Decides.{Decides}
use Rattle.lists.proofs.Decides.{refuted}
use Rattle.rules.specs.Answers.{done}
use Rattle.rules.specs.State.{State}
use Rattle.rules.specs.Commands.{Command, Deed, Move, Plan, refuse, accept, apply, run}
use Rattle.rules.specs.Line.{Request, single}
use Rattle.rules.specs.Replies.{of_plan, perform}
use Rattle.store.specs.Layout.{image}
use Rattle.store.specs.Image.{IsImage}
use Rattle.store.specs.Loading.{Outcome}
use Rattle.reading.specs.Reads.{Holds}
use Rattle.calls.specs.Calls.{OfStore, outcome, count_in, stored, RequestCall}
use Rattle.calls.specs.Numbers.{Answer, number_of, value_of, Performs, CommandCall}
use Rattle.calls.specs.Answering.{Answers, Does, Obeys}
use Rattle.calls.specs.declared.answers.Refusal.TheVariants.{NotAState}

-- ---- any call on a store

pub without_state : {entry : List ℕ} {of : State → List ℕ → Outcome} {otherwise : Outcome} → ¬ IsImage entry → OfStore entry of otherwise otherwise
without_state no_image = record {
  on_image = λ s rest sound words. absurd (no_image (record { state = s; rest = rest; sound = sound; words = words }));
  elsewhere = λ _. refl;
}

pub with_state : {entry : List ℕ} {of : State → List ℕ → Outcome} {otherwise o : Outcome} → IsImage entry → ((s : State) (rest : List ℕ) → Holds entry s rest → o ≡ of s rest)
    → OfStore entry of otherwise o
with_state is_image told = record {
  on_image = λ s rest sound words. told s rest (record { sound = sound; words = words });
  elsewhere = λ no_image. absurd (no_image is_image);
}

-- ---- requests

pub request_refused : (request : Request) (entry : List ℕ) → ¬ IsImage entry → Performs request entry entry (Err NotAState)
unfolding Performs RequestCall number_of value_of
request_refused request entry no_image = without_state no_image

pub request_answered : (request : Request) (entry exit : List ℕ) (r : Answer) → IsImage entry → Answers request entry exit r → Performs request entry exit r
unfolding Performs RequestCall Answers
request_answered request entry exit r is_image answers = with_state is_image answers

-- commands, by what the code of the test answers

module _ (entry : List ℕ) (b : Bool) (test : Decides (IsImage entry) b) where
  pub call_ready : b ≡ true → IsImage entry
  call_ready e = test.sound e

  pub call_refuses : (c : Command) → b ≡ false → CommandCall c entry entry (Err NotAState)
  unfolding CommandCall
  call_refuses c e = request_refused (single c) entry (refuted test e)

  pub call_does : (c : Command) (exit : List ℕ) (r : Answer) → b ≡ true → Does c entry exit r → CommandCall c entry exit r
  unfolding CommandCall
  call_does c exit r e does = request_answered (single c) entry exit r (test.sound e) does

-- ---- plans that are obeyed

pub obeys_refused : (plan : Plan) (s : State) (rest exit : List ℕ) (r : Answer) → exit ≡ image s ++ rest → value_of r ≡ 0 → plan ≡ refuse (number_of r) → Obeys plan s rest exit r
unfolding stored of_plan count_in
obeys_refused plan s rest exit r e v f = rw f (λ i. outcome (number_of r) (v i) (e i))

pub obeys_done : (plan : Plan) (d : Deed) (w : Move) (s : State) (rest exit : List ℕ) → exit ≡ image (apply w s) ++ rest → plan ≡ accept d w → Obeys plan s rest exit (Ok 0)
unfolding stored of_plan count_in number_of value_of
obeys_done plan d w s rest exit e f = rw f (λ i. outcome done 0 (e i))

pub obeys_same : (plan plan' : Plan) (s : State) (rest exit : List ℕ) (r : Answer) → plan ≡ plan' → Obeys plan' s rest exit r → Obeys plan s rest exit r
obeys_same plan plan' s rest exit r e h = h ∙ ap (λ (x : Plan). stored (of_plan s x) rest) (sym e)

-- a command that is refused in the state that the words hold leaves them as they are
pub does_refused : (c : Command) (entry : List ℕ) (r : Answer) → value_of r ≡ 0 → ((s : State) (rest : List ℕ) → Holds entry s rest → run c s ≡ refuse (number_of r)) → Does c entry entry r
unfolding Answers perform
does_refused c entry r v refuses s rest h = obeys_refused (run c s) s rest entry r h.words v (refuses s rest h)
