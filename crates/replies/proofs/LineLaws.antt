-- Laws of text commands and of what is printed for them.
use Prim.Native.Nat.{ℕ, ◌<◌, ◌≤◌}
use mathlib.Core.Path.{◌≡◌, refl, sym, ◌∙◌, ap}
use mathlib.Core.Bool.{Bool, true, false, ◌&&◌}
use mathlib.Core.Option.{Option as Maybe, none, some}
use mathlib.Core.List.{List, append-nil}
use native.Mathlib.Omega.{arith}
use lib.ListN.{length}
use Rattle.lists.proofs.Tests.{eqb_of, eqb_apart}
use Rattle.rules.specs.Answers.{done}
use Rattle.rules.specs.Commands.{step, spawn_into, deliver, back, undeliver}
use Rattle.rules.specs.Line.{Request, parse_line}
use Rattle.rules.specs.Replies.{answer_line, undone_line}
use Rattle.parsing.specs.Requests.{request_of}
use Rattle.text.specs.Written.{Wrote}
use Rattle.std.specs.Prelude.{Option, Some, None, Ok, Err}
use Rattle.parsing.specs.declared.parsing.Command.{Command}
use Rattle.parsing.specs.declared.parsing.Command.TheVariants.{Step, Spawn, Deliver, Back, Undeliver, Rollback}
use Rattle.text.proofs.WritingLaws.{wrote_then}
use Rattle.calls.specs.Calls.{outcome, AskedCall, LineCall}
use Rattle.calls.specs.Numbers.{Answer, refusal_number, number_of, value_of, Performs, CommandCall, RollbackCall, TextCall, value_place}
use Rattle.calls.specs.declared.answers.Refusal.{Refusal}
use Rattle.calls.specs.declared.answers.Refusal.TheVariants.{NoProcess, BadLine}
use Rattle.replies.specs.Replied.{rolls_back, undone_by, reply_text, reply_room, Replied}
use Rattle.replies.proofs.ReplyRoom.{reply_short}

-- ---- what each line asks for

module _ (asked : Option Command) (command : Command) (entry exit : List ℕ) (r : Answer) where
  abbrev Asked : Type 0
  Asked = AskedCall (request_of asked) entry (outcome (number_of r) (value_of r) exit)

  module _ (some_asked : asked ≡ Some command) where
    pub asked_step : (p : ℕ) → command ≡ Step p → CommandCall (step p) entry exit r → Asked
    unfolding request_of AskedCall CommandCall Performs
    asked_step p e c = rw (some_asked, e) c

    pub asked_spawn : (p f : ℕ) → command ≡ Spawn p f → CommandCall (spawn_into p f) entry exit r → Asked
    unfolding request_of AskedCall CommandCall Performs
    asked_spawn p f e c = rw (some_asked, e) c

    pub asked_deliver : (s k : ℕ) → command ≡ Deliver s k → CommandCall (deliver s k) entry exit r → Asked
    unfolding request_of AskedCall CommandCall Performs
    asked_deliver s k e c = rw (some_asked, e) c

    pub asked_back : (p : ℕ) → command ≡ Back p → CommandCall (back p) entry exit r → Asked
    unfolding request_of AskedCall CommandCall Performs
    asked_back p e c = rw (some_asked, e) c

    pub asked_undeliver : (p : ℕ) → command ≡ Undeliver p → CommandCall (undeliver p) entry exit r → Asked
    unfolding request_of AskedCall CommandCall Performs
    asked_undeliver p e c = rw (some_asked, e) c

    pub asked_rollback : (p t : ℕ) → command ≡ Rollback p t → RollbackCall p t entry exit r → Asked
    unfolding request_of AskedCall RollbackCall Performs
    asked_rollback p t e c = rw (some_asked, e) c

pub asked_line : (asked : Option Command) (entry exit : List ℕ) (r : Answer) (text : List ℕ) → request_of asked ≡ parse_line text
    → AskedCall (request_of asked) entry (outcome (number_of r) (value_of r) exit) → TextCall text entry exit r
unfolding TextCall LineCall
asked_line asked entry exit r text e c = rw e at c

pub asked_nothing : (asked : Option Command) (entry : List ℕ) → asked ≡ None → AskedCall (request_of asked) entry (outcome (number_of (Err BadLine)) (value_of (Err BadLine)) entry)
unfolding request_of AskedCall number_of value_of
asked_nothing asked entry e = rw e refl

-- ---- whether a line asks for a rollback

pub a_rollback : (asked : Option Command) (command : Command) (p t : ℕ) → asked ≡ Some command → command ≡ Rollback p t → true ≡ rolls_back (request_of asked)
unfolding request_of rolls_back
a_rollback asked command p t e r = rw (e, r) refl

pub no_rollback : (asked : Option Command) (command : Command) → asked ≡ Some command → ((p t : ℕ) → ¬ (command ≡ Rollback p t)) → false ≡ rolls_back (request_of asked)
unfolding request_of rolls_back
no_rollback asked command e n = rw e (other command n)
  where
    other : (command : Command) → ((p t : ℕ) → ¬ (command ≡ Rollback p t)) → false ≡ rolls_back (request_of (Some command))
    other (Step p) n = refl
    other (Spawn p f) n = refl
    other (Deliver s k) n = refl
    other (Back p) n = refl
    other (Undeliver p) n = refl
    other (Rollback p t) n = absurd (n p t refl)

pub nothing_rolls : (asked : Option Command) → asked ≡ None → false ≡ rolls_back (request_of asked)
unfolding request_of rolls_back
nothing_rolls asked e = rw e refl

-- ---- what is printed

refusal_not_done : (refusal : Refusal) → ¬ (refusal_number refusal ≡ done)
refusal_not_done NoProcess e = absurd (omega (arith, e))
refusal_not_done _ e = absurd (omega (arith, e))

module _ (request : Maybe Request) (a : Answer) where
  pub single_undone : rolls_back request ≡ false → undone_by request a ≡ none
  unfolding undone_by
  single_undone e = rw (e, undone_by) refl

  pub refused_undone : ¬ (number_of a ≡ done) → undone_by request a ≡ none
  unfolding undone_by
  refused_undone e = rw (eqb_apart (number_of a) done e, either (rolls_back request), undone_by) refl
    where
      either : (b : Bool) → (b && false) ≡ false
      either true = refl
      either false = refl

  pub rolled_undone : rolls_back request ≡ true → number_of a ≡ done → undone_by request a ≡ some (value_of a)
  unfolding undone_by
  rolled_undone e z = rw (e, eqb_of (number_of a) done z, undone_by) refl

module _ (request : Maybe Request) (a : Answer) (n : ℕ) (number : n ≡ number_of a) (at : ℕ) (old : List ℕ) where
  -- a reply, and that it is no longer than the room for one
  abbrev Said : List ℕ → ℕ → Type 0
  Said new end = Wrote (reply_text request a) at old new end × (length (reply_text request a) ≤ reply_room)

  plain : (new : List ℕ) (to : ℕ) → undone_by request a ≡ none → Wrote (answer_line n) at old new to → Said new to
  unfolding reply_text undone_line
  plain new to u w = (rw (u, undone_line, append-nil (answer_line (number_of a))) (rw number at w), reply_short request a none u tt)

  pub wrote_refused : (new : List ℕ) (to : ℕ) (refusal : Refusal) → a ≡ Err refusal → Wrote (answer_line n) at old new to → Said new to
  unfolding number_of
  wrote_refused new to refusal is w = plain new to (refused_undone request a (λ e. refusal_not_done refusal (sym (ap number_of is) ∙ e))) w

  module _ (b : Bool) (rolls : b ≡ rolls_back request) where
    pub wrote_number : (new : List ℕ) (to : ℕ) → b ≡ false → Wrote (answer_line n) at old new to → Said new to
    wrote_number new to e w = plain new to (single_undone request a (sym rolls ∙ e)) w

    pub wrote_count : (mid new : List ℕ) (to end count : ℕ) → b ≡ true → a ≡ Ok count → count < value_place → Wrote (answer_line n) at old mid to → Wrote (undone_line (some count)) to mid new end → Said new end
    unfolding reply_text number_of value_of
    wrote_count mid new to end count e is small w v =
        let u : undone_by request a ≡ some count = rolled_undone request a (sym rolls ∙ e) (ap number_of is) ∙ ap some (ap value_of is) in
        (rw (u, ← number) (wrote_then w v), reply_short request a (some count) u small)

pub replied : (text entry exit old new : List ℕ) (at end : ℕ) (asked : Option Command) (a : Answer) → request_of asked ≡ parse_line text → AskedCall (request_of asked) entry (outcome (number_of a) (value_of a) exit)
    → Wrote (reply_text (request_of asked) a) at old new end → length (reply_text (request_of asked) a) ≤ reply_room → Replied text entry exit at old new end
replied text entry exit old new at end asked a e c w f = record { answer = a; call = asked_line asked entry exit a text e c; text = rw e at w; fits = rw e at f }
