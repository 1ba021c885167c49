-- The cases that 01 marks P, as one list under a single theorem; and 01's 'Readings that look right'.
use Rattle.std.specs.Prelude.{ℕ, ◌≡◌, refl, List, [], ◌∷◌, ◌++◌}
use Prim.Native.String.{String}
use Rattle.std.proofs.Math.Option.{none, some}
use Rattle.term.specs.Cases.{ModuleCases, module_cases}
use Rattle.machine.specs.Cases.{OperatorCases, operator_cases}
use Rattle.rules.specs.State.{State}
use Rattle.rules.specs.Load.{loaded}
use Rattle.rules.specs.Text.{bytes}
use Rattle.rules.specs.Line.{lines_of, parse_line}
use Rattle.rules.specs.Replies.{perform}
use Rattle.rules.specs.Bench.{bench, bench_sizes}
use Rattle.rules.specs.Opened.{opened}

-- the numbers of the answers to text commands, one a line, after a load with P 4, H 16, W 64
unfoldable pub numbers : State → List (List ℕ) → List ℕ
numbers s [] = []
numbers s (text ∷ texts) = elim (parse_line text) [
  | none ↦ []
  | some request ↦
      let a = perform request s in
      a.number ∷ numbers a.after texts
]

unfoldable pub answers : (module' : List ℕ) → String → List ℕ
unfolding opened numbers
answers module' text = numbers (loaded module' bench_sizes) (lines_of (bytes text))

-- "Process 0 spawns 1 and sends it atom 5 ..; 1 .. takes any message": 0 is `spawn 1() ! 5`, 1 is `receive X -> X end`
abbrev pub pair : List ℕ
pair =
    0x12000000 ∷ 0x0E020000 ∷ 0x0D000001 ∷ 0x02000005
    ∷ 0x12000000 ∷ 0x0C010000 ∷ 0x11030000 ∷ 0x01000000 ∷ 0x02000000 ∷ 0x01000000 ∷ []

-- 0 is `let X = spawn 1() in {X ! 5, X ! 6}`, 1 as before
abbrev pub two : List ℕ
two =
    0x12000000 ∷ 0x0B020000 ∷ 0x0D000001 ∷ 0x07020000 ∷ 0x0E020000 ∷ 0x01000000 ∷ 0x02000005 ∷ 0x0E020000 ∷ 0x01000000 ∷ 0x02000006
    ∷ 0x12000000 ∷ 0x0C010000 ∷ 0x11030000 ∷ 0x01000000 ∷ 0x02000000 ∷ 0x01000000 ∷ []

pub record Cases : Type 0 where
  -- "P: -7 div 2 is -3; -7 rem 2 is -1. P: 46340 × 46340 is 2147395600; 46341 × 46341 is stuck; -2147483648 div -1 is stuck."
  pub operators : OperatorCases
  -- "P: module 12000000 alone: 1 at 1. 12010000 01000000: 1 at 0. 12000000 01000000: 1 at 1."
  pub modules : ModuleCases
  -- "P: before delivery, 1 waits (5)." The four steps before: apply, spawn, send, and 1's apply.
  pub before_delivery : answers pair "step=0\nspawn=0,1\nstep=0\nstep=1\nstep=1" ≡ 0 ∷ 0 ∷ 0 ∷ 0 ∷ 5 ∷ []
  -- "P: delivered, `back=0` gives 13."
  pub delivered : answers pair "step=0\nspawn=0,1\nstep=0\nstep=1\ndeliver=0,0\nback=0" ≡ 0 ∷ 0 ∷ 0 ∷ 0 ∷ 0 ∷ 13 ∷ []
  -- "P: received, `undeliver=1` gives 12."
  pub received : answers pair "step=0\nspawn=0,1\nstep=0\nstep=1\ndeliver=0,0\nstep=1\nundeliver=1" ≡ 0 ∷ 0 ∷ 0 ∷ 0 ∷ 0 ∷ 0 ∷ 12 ∷ []
  -- "P: `back=1`, `undeliver=1`, `back=0` all give 0."
  pub undone : answers pair "step=0\nspawn=0,1\nstep=0\nstep=1\ndeliver=0,0\nstep=1\nback=1\nundeliver=1\nback=0" ≡ 0 ∷ 0 ∷ 0 ∷ 0 ∷ 0 ∷ 0 ∷ 0 ∷ 0 ∷ 0 ∷ []
  -- "P: two messages queued, one received: undeliver gives 13."
  pub two_queued : answers two "step=0\nspawn=0,1\nstep=0\nstep=0\nstep=0\nstep=1\ndeliver=0,0\ndeliver=0,1\nstep=1\nundeliver=1" ≡ 0 ∷ 0 ∷ 0 ∷ 0 ∷ 0 ∷ 0 ∷ 0 ∷ 0 ∷ 0 ∷ 13 ∷ []

pub cases : Cases
unfolding answers
cases = record {
  operators = operator_cases;
  modules = module_cases;
  before_delivery = refl;
  delivered = refl;
  received = refl;
  undone = refl;
  two_queued = refl;
}

-- what the bench prints after the two messages of `two` were sent and 1 came to its receive
unfoldable pub two_sent : String → List ℕ
unfolding bench
two_sent text = bench two 4 16 64 (bytes "step=0\nspawn=0,1\nstep=0\nstep=0\nstep=0\nstep=1\n" ++ bytes text)

unfoldable pub two_prints : String → List ℕ
unfolding bench
two_prints text = bytes "answer=0\nanswer=0\nanswer=0\nanswer=0\nanswer=0\nanswer=0\n" ++ bytes text

pub record Readings : Type 0 where
  -- the program's example
  pub example : bench (0x12000000 ∷ 0x0B020000 ∷ 0x10000007 ∷ 0x01000000 ∷ []) 4 16 64 (bytes "step=0\nstep=0\nstep=0\nstep=0\nrollback=0,7\n") ≡ bytes "answer=0\nanswer=0\nanswer=0\nanswer=4\nanswer=0\nundone=2\nprocesses=1\npid=0\nhistory=1\nnewest=seq\nqueue=\nwords=0B020000 10000007 01000000\nflight=\n"
  -- "Two sends 0.0, 0.1 to one process: `deliver=0,1` first gives 0", and "Receive tries messages oldest first": the oldest in the queue
  pub oldest_first : two_sent "deliver=0,1\ndeliver=0,0\nstep=1\n" ≡ two_prints "answer=0\nanswer=0\nanswer=0\nprocesses=2\npid=0\nhistory=5\nnewest=send\nqueue=\nwords=07020000 02000005 02000006\npid=1\nhistory=2\nnewest=rec\nqueue=0.0\nwords=02000006\nflight=\n"
  -- "Undoing a receive by putting its message at the queue's end, or front: it goes where it was."
  pub goes_where_it_was : two_sent "deliver=0,1\ndeliver=0,0\nstep=1\nback=1\n" ≡ two_prints "answer=0\nanswer=0\nanswer=0\nanswer=0\nprocesses=2\npid=0\nhistory=5\nnewest=send\nqueue=\nwords=07020000 02000005 02000006\npid=1\nhistory=1\nnewest=seq\nqueue=0.1 0.0\nwords=0C010000 11030000 01000000 02000000 01000000\nflight=\n"
  -- "Undoing a receive while a later delivery stands: 13."
  pub later_delivery : two_sent "deliver=0,1\nstep=1\ndeliver=0,0\nback=1\n" ≡ two_prints "answer=0\nanswer=0\nanswer=0\nanswer=13\nprocesses=2\npid=0\nhistory=5\nnewest=send\nqueue=\nwords=07020000 02000005 02000006\npid=1\nhistory=2\nnewest=rec\nqueue=0.0\nwords=02000006\nflight=\n"

pub readings : Readings
unfolding bench two_sent two_prints
readings = record { example = refl; oldest_first = refl; goes_where_it_was = refl; later_delivery = refl }
