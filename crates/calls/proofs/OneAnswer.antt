-- Two answers of the code with one number and one value are equal; so its answers, and what it leaves, are determined.
use Prim.Native.Nat.{ℕ}
use mathlib.Core.Path.{◌≡◌, refl, sym, ◌∙◌, ap}
use mathlib.Core.Bool.{cond}
use mathlib.Core.List.{List}
use Rattle.std.specs.Prelude.{Ok, Err}
use lib.Dec.{eqb}
use Rattle.rules.specs.Answers.{done, no_process, finished, waiting, stuck, wrong_command, place_taken, too_large, history_full, no_message, nothing_to_undo, held, no_checkpoint, not_a_state, no_room}
use Rattle.store.specs.Loading.{Outcome}
use Rattle.calls.specs.Calls.{outcome}
use Rattle.calls.specs.Numbers.{Answer, refusal_number, number_of, value_of, Performs, TextCall, Lists}
use Rattle.calls.specs.Promises.{AnswersDetermined}
use Rattle.calls.specs.declared.answers.Refusal.{Refusal}
use Rattle.calls.specs.declared.answers.Refusal.TheVariants.{NoProcess, Finished, Waiting, Stuck, WrongCommand, PlaceTaken, TooLarge, HistoryFull, NoMessage, NothingToUndo, Held, NoCheckpoint, NotAState, NoRoom, BadLine}
use Rattle.calls.proofs.Determined.{request_determined, line_determined, listing_determined}

-- the refusal with a number, and the answer with a number and a value
unfoldable refusal_of : ℕ → Refusal
refusal_of number =
    cond (eqb number no_process) NoProcess
    (cond (eqb number finished) Finished
    (cond (eqb number waiting) Waiting
    (cond (eqb number stuck) Stuck
    (cond (eqb number wrong_command) WrongCommand
    (cond (eqb number place_taken) PlaceTaken
    (cond (eqb number too_large) TooLarge
    (cond (eqb number history_full) HistoryFull
    (cond (eqb number no_message) NoMessage
    (cond (eqb number nothing_to_undo) NothingToUndo
    (cond (eqb number held) Held
    (cond (eqb number no_checkpoint) NoCheckpoint
    (cond (eqb number not_a_state) NotAState
    (cond (eqb number no_room) NoRoom BadLine)))))))))))))

unfoldable answer_of : ℕ → ℕ → Answer
answer_of number value = cond (eqb number done) (Ok value) (Err (refusal_of number))

told_refusal : (refusal : Refusal) → answer_of (refusal_number refusal) 0 ≡ Err refusal
unfolding answer_of refusal_of
told_refusal NoProcess = refl
told_refusal _ = refl

told : (r : Answer) → answer_of (number_of r) (value_of r) ≡ r
unfolding answer_of number_of value_of
told (Ok count) = refl
told (Err refusal) = told_refusal refusal

pub same_answer : (r r' : Answer) → number_of r ≡ number_of r' → value_of r ≡ value_of r' → r ≡ r'
same_answer r r' n v = sym (told r) ∙ ap (λ (x : ℕ). answer_of x (value_of r)) n ∙ ap (λ (x : ℕ). answer_of (number_of r') x) v ∙ told r'

-- one outcome, one answer
of_outcomes : (exit exit' : List ℕ) (r r' : Answer) → ◌≡◌ {A = Outcome} (outcome (number_of r) (value_of r) exit) (outcome (number_of r') (value_of r') exit') → (r ≡ r') × (exit ≡ exit')
of_outcomes exit exit' r r' e =
    (same_answer r r' (ap (λ (x : Outcome). x.number) e) (ap (λ (x : Outcome). x.value) e), ap (λ (x : Outcome). x.left) e)

pub answers_determined : AnswersDetermined
unfolding Performs TextCall Lists
answers_determined = record {
  request = λ request entry exit exit' r r' a b. of_outcomes exit exit' r r' (request_determined request entry _ _ a b);
  line = λ line entry exit exit' r r' a b. of_outcomes exit exit' r r' (line_determined line entry _ _ a b);
  listing = λ store out exit exit' r r' a b. of_outcomes exit exit' r r' (listing_determined store out _ _ a b);
}
