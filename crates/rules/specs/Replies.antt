-- What the program bench replies to command lines.
use Rattle.std.specs.Prelude.{ℕ, List, [], ◌∷◌, ◌++◌}
use Rattle.std.proofs.Math.Option.{Option, none, some}
use Rattle.rules.specs.Answers.{done, not_a_state, bad_line}
use Rattle.rules.specs.State.{State}
use Rattle.rules.specs.Load.{Load, loads}
use Rattle.rules.specs.Commands.{Plan, refuse, accept, apply, run}
use Rattle.rules.specs.Rollback.{RolledBack, rolled, rollback}
use Rattle.rules.specs.Rollback
use Rattle.rules.specs.Text.{decimal, line}
use Rattle.rules.specs.Line.{Request, single, rollback_to, parse_line}
use Rattle.rules.specs.Listing.{listing}

-- a reply's number, what an accepted rollback adds, and the state after
pub record Reply : Type 0 where
  pub number : ℕ
  pub undone : Option ℕ
  pub after : State

abbrev pub reply : ℕ → Option ℕ → State → Reply
reply number undone after = record { number = number; undone = undone; after = after }

unfoldable pub of_plan : State → Plan → Reply
of_plan s (refuse number) = reply number none s
of_plan s (accept deed move) = reply done none (apply move s)

unfoldable pub of_rollback : State → RolledBack → Reply
of_rollback s (Rollback.refused number) = reply number none s
of_rollback s (rolled count end) = reply done (some count) end

unfoldable pub perform : Request → State → Reply
perform (single c) s = of_plan s (run c s)
perform (rollback_to p t) s = of_rollback s (rollback p t s)

-- "prints an answer for each"; "`undone` follows an accepted rollback only"
unfoldable pub undone_line : Option ℕ → List ℕ
undone_line none = []
undone_line (some count) = line "undone=" (decimal count)

unfoldable pub answer_line : ℕ → List ℕ
answer_line number = line "answer=" (decimal number)

-- an answer for each line, then the listing
unfoldable pub replies : State → List (List ℕ) → List ℕ
replies s [] = listing s
replies s (text ∷ texts) = elim (parse_line text) [
  | none ↦ answer_line bad_line ++ replies s texts
  | some request ↦
      let a = perform request s in
      answer_line a.number ++ undone_line a.undone ++ replies a.after texts
]

-- with no state in the store: 17, else 15, and no listing
unfoldable pub without_state : List (List ℕ) → List ℕ
without_state [] = []
without_state (text ∷ texts) = elim (parse_line text) [
  | none ↦ answer_line bad_line ++ without_state texts
  | some request ↦ answer_line not_a_state ++ without_state texts
]

unfoldable pub after_load : Load → List (List ℕ) → List ℕ
after_load (Load.refused number position) texts = without_state texts
after_load (loads s) texts = replies s texts
