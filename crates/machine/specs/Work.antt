-- What a control is about to do, and what it becomes, on rows of words.
use Rattle.std.specs.Prelude.{ℕ, true, false, cond, List, eqb}
use Rattle.std.proofs.Math.Option.{Option, none, some}
use Rattle.term.specs.Words.{tag_pid, tag_call, tag_apply, tag_case, tag_let, tag_receive, tag_spawn, tag_send, tag_self, tag_check}
use Rattle.term.specs.Tree.{Term, Terms, int, node, end, ◌then◌, words}
use Rattle.term.specs.Read.{term_of, terms_of}
use Rattle.term.specs.Module.{body_of, function_of}
use Rattle.machine.specs.Value.{is_value, atom, pid}
use Rattle.machine.specs.Operator.{operate_on}
use Rattle.machine.specs.Match.{unbound, with}
use Rattle.machine.specs.Bind.{bind, parameters}
use Rattle.machine.specs.Clauses.{first_clause}
use Rattle.machine.specs.Place.{working, replaced}

-- `next` is the next control. A receive says what it makes of a message's value; a spawn and a self what they become with a place's pid; a
-- spawn the first control of its child too.
pub data Work : Type 0 where
  finished stuck : Work
  to_seq : (next : List ℕ) → Work
  to_send : (target : ℕ) (value next : List ℕ) → Work
  to_receive : (List ℕ → Option (List ℕ)) → Work
  to_spawn : (child : List ℕ) (next : ℕ → List ℕ) → Work
  to_self : (next : ℕ → List ℕ) → Work
  to_check : (number : ℕ) (next : List ℕ) → Work

-- the row of the whole with a term in the working place
unfoldable pub next : Term → Term → List ℕ
next whole new = words (replaced whole new)

unfoldable pub next_some : Term → Option Term → Option (List ℕ)
next_some whole none = none
next_some whole (some new) = some (next whole new)

-- a step that gives a term, or is stuck
unfoldable pub seq_or : Term → Option Term → Work
seq_or whole none = stuck
seq_or whole (some new) = to_seq (next whole new)

-- apply: the function's body with the values in place of its parameters
unfoldable pub body_with : Terms → Option Term → Option Term
body_with vs none = none
body_with vs (some f) = elim (body_of f) [ end ↦ none | body then ts ↦ some (bind (parameters 0 vs unbound) body) ]

-- case: the first clause that takes the subject
unfoldable pub case_gives : Terms → Option Term
case_gives end = none
case_gives (subject then clauses) = first_clause subject clauses

-- let: the body with the value in place of the variable
unfoldable pub let_gives : ℕ → Terms → Option Term
let_gives k end = none
let_gives k (bound then end) = none
let_gives k (bound then (body then ts)) = some (bind (with k bound unbound) body)

-- send: its value, to a pid; a non-pid is stuck
unfoldable pub send_to : Term → Term → Term → Work
send_to whole (int x) v = stuck
send_to whole (node tag n k ts) v = elim (eqb tag tag_pid) [ true ↦ to_send k (words v) (next whole v) | false ↦ stuck ]

unfoldable pub send_work : Term → Terms → Work
send_work whole end = stuck
send_work whole (target then end) = stuck
send_work whole (target then (v then ts)) = send_to whole target v

-- what is done at the working place of a whole
unfoldable pub work_at : (functions : Terms) (whole : Term) → Term → Work
work_at functions whole (int x) = stuck
work_at functions whole (node tag n k ts) =
    cond (eqb tag tag_call) (seq_or whole (operate_on k ts))
    (cond (eqb tag tag_apply) (seq_or whole (body_with ts (function_of functions k)))
    (cond (eqb tag tag_case) (seq_or whole (case_gives ts))
    (cond (eqb tag tag_let) (seq_or whole (let_gives k ts))
    (cond (eqb tag tag_receive) (to_receive (λ v. next_some whole (first_clause (term_of v) ts)))
    (cond (eqb tag tag_spawn) (to_spawn (words (node tag_apply n k ts)) (λ p. next whole (pid p)))
    (cond (eqb tag tag_send) (send_work whole ts)
    (cond (eqb tag tag_self) (to_self (λ p. next whole (pid p)))
    (cond (eqb tag tag_check) (to_check k (next whole (atom k)))
    stuck))))))))

unfoldable pub work_of : (functions : Terms) → Term → Work
work_of functions t = elim (is_value t) [ true ↦ finished | false ↦ work_at functions t (working t) ]

-- what a control is about to do, in a module
unfoldable pub work : (module' control : List ℕ) → Work
work module' control = work_of (terms_of module') (term_of control)
