-- `shape::shape::stands` meets its contract.
use native.Mathlib.Omega.{arith}
use Rattle.shape.proofs.SpotLaws.{stands_expression, stands_value, stands_no_pid, stands_pattern, stands_clause, stands_function, stands_nowhere}
use Rattle.shape.proofs.shape.stands.Goals as goal

pub returns-in-1 : goal.returns-in-1
returns-in-1 c = search stands_expression

pub returns-in-5 : goal.returns-in-5
returns-in-5 c = search stands_value

pub returns-then-tag-ne-PID : goal.returns-then-tag-ne-PID
returns-then-tag-ne-PID c = search stands_pattern

pub returns-else-tag-ne-PID : goal.returns-else-tag-ne-PID
returns-else-tag-ne-PID c = search stands_no_pid

pub returns-in-4 : goal.returns-in-4
returns-in-4 c = search stands_clause

pub returns-in-0 : goal.returns-in-0
returns-in-0 c = search stands_function

pub returns-in_default : goal.returns-in_default
returns-in_default c = stands_nowhere c.args.places c.args.spot c.args.tag (omega arith) (omega arith) (omega arith) (omega arith) (omega arith) (omega arith)
