-- Rollbacks computed: what crosses processes goes, what does not depend stays, the newest passing is taken, and sound states that no load
-- reaches can be held. The expected text was computed by another program.
use Rattle.std.specs.Prelude.{ℕ, ◌≡◌, refl, List, [], ◌∷◌, ◌++◌}
use Rattle.std.proofs.Math.Option.{Option, none, some}
use Rattle.lists.specs.Tables.{put}
use Rattle.rules.specs.Answers.{held}
use Rattle.rules.specs.State.{Message, send, rec, spawn, check, Entry, Process, State}
use Rattle.rules.specs.Commands.{entry_with}
use Rattle.rules.specs.Text.{bytes}
use Rattle.rules.specs.Rollback.{refused, rollback}
use Rattle.rules.specs.Bench.{bench, bench_module}
use Rattle.rules.specs.Opened.{opened}

-- 0 is `let Y = spawn 1() in {Y ! 6, check 7, Y ! 5}`, 1 is `let W = check 8 in receive X -> X end`
abbrev pub mail : List ℕ
mail = 0x12000000 ∷ 0x0B020000 ∷ 0x0D000001 ∷ 0x07030000 ∷ 0x0E020000 ∷ 0x01000000 ∷ 0x02000006 ∷ 0x10000007 ∷ 0x0E020000 ∷ 0x01000000 ∷ 0x02000005 ∷ 0x12000000 ∷ 0x0B020001 ∷ 0x10000008 ∷ 0x0C010000 ∷ 0x11030000 ∷ 0x01000002 ∷ 0x02000000 ∷ 0x01000002 ∷ []

-- both messages are sent, and 1 stands at its check
abbrev pub sent_both : List ℕ
sent_both = bytes "step=0\nspawn=0,1\nstep=0\nstep=0\nstep=0\nstep=0\nstep=1\n"

-- 0 is `let X = check 7 in let Y = spawn 1() in Y ! 5`, 1 is `receive X -> X end`
abbrev pub kin : List ℕ
kin = 0x12000000 ∷ 0x0B020000 ∷ 0x10000007 ∷ 0x0B020001 ∷ 0x0D000001 ∷ 0x0E020000 ∷ 0x01000001 ∷ 0x02000005 ∷ 0x12000000 ∷ 0x0C010000 ∷ 0x11030000 ∷ 0x01000000 ∷ 0x02000000 ∷ 0x01000000 ∷ []

-- 0 is `apply 1()`, and 1 is `let X = check 9 in apply 1()`
abbrev pub loop : List ℕ
loop = 0x12000000 ∷ 0x09000001 ∷ 0x12000000 ∷ 0x0B020000 ∷ 0x10000009 ∷ 0x09000001 ∷ []

pub record RollbackCases : Type 0 where
  -- across processes through a message: what 0 sent after its check goes with its delivery, an earlier delivery stays
  pub across_message : bench mail 4 16 64 (sent_both ++ bytes "deliver=0,0\ndeliver=0,1\nrollback=0,7\n")
      ≡ bytes "answer=0\nanswer=0\nanswer=0\nanswer=0\nanswer=0\nanswer=0\nanswer=0\nanswer=0\nanswer=0\nanswer=0\nundone=3\nprocesses=2\npid=0\nhistory=4\nnewest=send\nqueue=\nwords=07030000 02000006 10000007 0E020000 04000001 02000005\npid=1\nhistory=1\nnewest=seq\nqueue=0.0\nwords=0B020001 10000008 0C010000 11030000 01000002 02000000 01000002\nflight=\n"
  -- the receive of that message goes too, and a later arrival
  pub with_receive : bench mail 4 16 64 (sent_both ++ bytes "deliver=0,1\ndeliver=0,0\nstep=1\nstep=1\nstep=1\nrollback=0,7\n")
      ≡ bytes "answer=0\nanswer=0\nanswer=0\nanswer=0\nanswer=0\nanswer=0\nanswer=0\nanswer=0\nanswer=0\nanswer=0\nanswer=0\nanswer=0\nanswer=0\nundone=5\nprocesses=2\npid=0\nhistory=4\nnewest=send\nqueue=\nwords=07030000 02000006 10000007 0E020000 04000001 02000005\npid=1\nhistory=3\nnewest=seq\nqueue=\nwords=0C010000 11030000 01000002 02000000 01000002\nflight=0.0\n"
  -- "Undoing all deliveries at a process because it rolls back: those that don't depend stay."
  pub delivery_stays : bench mail 4 16 64 (sent_both ++ bytes "step=1\ndeliver=0,0\nrollback=1,8\n")
      ≡ bytes "answer=0\nanswer=0\nanswer=0\nanswer=0\nanswer=0\nanswer=0\nanswer=0\nanswer=0\nanswer=0\nanswer=0\nundone=1\nprocesses=2\npid=0\nhistory=6\nnewest=send\nqueue=\nwords=07030000 02000006 02000007 02000005\npid=1\nhistory=1\nnewest=seq\nqueue=0.0\nwords=0B020001 10000008 0C010000 11030000 01000002 02000000 01000002\nflight=0.1\n"
  -- a delivery after a receive that goes depends on it, the one before stays
  pub after_receive : bench mail 4 16 64 (sent_both ++ bytes "deliver=0,0\nstep=1\nstep=1\nstep=1\ndeliver=0,1\nrollback=1,8\n")
      ≡ bytes "answer=0\nanswer=0\nanswer=0\nanswer=0\nanswer=0\nanswer=0\nanswer=0\nanswer=0\nanswer=0\nanswer=0\nanswer=0\nanswer=0\nanswer=0\nundone=4\nprocesses=2\npid=0\nhistory=6\nnewest=send\nqueue=\nwords=07030000 02000006 02000007 02000005\npid=1\nhistory=1\nnewest=seq\nqueue=0.0\nwords=0B020001 10000008 0C010000 11030000 01000002 02000000 01000002\nflight=0.1\n"
  -- across processes through a spawn and a message: the child goes with all that it did
  pub across_spawn : bench kin 4 16 64 (bytes "step=0\nstep=0\nstep=0\nspawn=0,1\nstep=0\nstep=0\nstep=1\ndeliver=0,0\nstep=1\nrollback=0,7\n")
      ≡ bytes "answer=0\nanswer=0\nanswer=0\nanswer=0\nanswer=0\nanswer=0\nanswer=0\nanswer=0\nanswer=0\nanswer=0\nundone=8\nprocesses=1\npid=0\nhistory=1\nnewest=seq\nqueue=\nwords=0B020000 10000007 0B020001 0D000001 0E020000 01000001 02000005\nflight=\n"
  -- "p's newest check entry t": of three passings the last
  pub newest_passing : bench loop 4 16 64 (bytes "step=0\nstep=0\nstep=0\nstep=0\nstep=0\nstep=0\nstep=0\nstep=0\nrollback=0,9\n")
      ≡ bytes "answer=0\nanswer=0\nanswer=0\nanswer=0\nanswer=0\nanswer=0\nanswer=0\nanswer=0\nanswer=0\nundone=3\nprocesses=1\npid=0\nhistory=5\nnewest=seq\nqueue=\nwords=0B020000 10000009 09000001\nflight=\n"

pub rollback_cases : RollbackCases
unfolding bench
rollback_cases = record { across_message = refl; with_receive = refl; delivery_stays = refl; after_receive = refl; across_spawn = refl; newest_passing = refl }

-- ---- states that no load reaches, and that are held
abbrev pub some_atom : List ℕ
some_atom = 0x02000005 ∷ []

abbrev pub send_to : ℕ → List ℕ
send_to pid = 0x0E020000 ∷ pid ∷ 0x02000005 ∷ []

abbrev pub at0 : List Entry → ℕ → Option Process
at0 history = put 0 (some (record { control = 0x02000001 ∷ []; history = history })) (λ p. none)

abbrev pub message0 : Message
message0 = record { sender = 0; count = 0; value = some_atom }

-- a receive older than its own send
abbrev pub received_first : State
received_first = record {
  module' = bench_module;
  sizes = record { places = 1; entries = 16; words = 64 };
  processes = at0 (entry_with (send 0 some_atom) (send_to 0x04000000) ∷ entry_with (rec [] message0 []) some_atom ∷ entry_with (check 7) some_atom ∷ []);
  queues = λ p. [];
}

-- a message sent before its target was born
abbrev pub sent_first : State
sent_first = record {
  module' = bench_module;
  sizes = record { places = 2; entries = 16; words = 64 };
  processes = put 1 (some (record { control = some_atom; history = [] })) (at0 (entry_with (spawn 1) some_atom ∷ entry_with (check 7) some_atom ∷ entry_with (send 1 some_atom) (send_to 0x04000001) ∷ []));
  queues = λ p. [];
}

pub held_received : rollback 0 7 received_first ≡ refused held
unfolding opened
held_received = refl

pub held_sent : rollback 0 7 sent_first ≡ refused held
unfolding opened
held_sent = refl
