-- `parse_line` meets its contract.
use Rattle.rules.specs.Text.{bytes}
use Rattle.parsing.proofs.CommandLaws.{one_malformed, two_malformed, step_read, spawn_read, deliver_read, back_read, undeliver_read, rollback_read, is_step, is_spawn, is_deliver, is_back, is_undeliver, is_rollback, is_malformed}
use Rattle.parsing.proofs.parsing.parse_line.Goals as goal

pub returns-in_err-read_number : goal.returns-in_err-read_number
unfolding bytes
returns-in_err-read_number c = rw c.from_residual.ensures (search (is_step, one_malformed, c.in-Some.ensures, c.in_err-read_number.ensures))

pub returns-in-Some : goal.returns-in-Some
unfolding bytes
returns-in-Some c = search (is_step, step_read, c.in-Some.ensures, c.in_ok-read_number.ensures)

pub returns-in_err-p : goal.returns-in_err-p
unfolding bytes
returns-in_err-p c = rw c.from_residual-in_err-p.ensures (search (is_spawn, two_malformed, c.in_default.ensures, c.in-Some-after.ensures, c.in_err-p.ensures))

pub returns-in-Some-after : goal.returns-in-Some-after
unfolding bytes
returns-in-Some-after c = search (is_spawn, spawn_read, c.in_default.ensures, c.in-Some-after.ensures, c.in_ok-p.ensures)

pub returns-in_err-s : goal.returns-in_err-s
unfolding bytes
returns-in_err-s c = rw c.from_residual-in_err-s.ensures (search (is_deliver, two_malformed, c.in_default.ensures, c.in_default-after.ensures, c.in-Some-after-2.ensures, c.in_err-s.ensures))

pub returns-in-Some-after-2 : goal.returns-in-Some-after-2
unfolding bytes
returns-in-Some-after-2 c = search (is_deliver, deliver_read, c.in_default.ensures, c.in_default-after.ensures, c.in-Some-after-2.ensures, c.in_ok-s.ensures)

pub returns-in_err-read_number-2 : goal.returns-in_err-read_number-2
unfolding bytes
returns-in_err-read_number-2 c = rw c.from_residual-in_err-read_number-2.ensures (search (is_back, one_malformed, c.in_default.ensures, c.in_default-after.ensures, c.in_default-after-2.ensures, c.in-Some-after-3.ensures, c.in_err-read_number-2.ensures))

pub returns-in-Some-after-3 : goal.returns-in-Some-after-3
unfolding bytes
returns-in-Some-after-3 c = search (is_back, back_read, c.in_default.ensures, c.in_default-after.ensures, c.in_default-after-2.ensures, c.in-Some-after-3.ensures, c.in_ok-read_number-2.ensures)

pub returns-in_err-read_number-3 : goal.returns-in_err-read_number-3
unfolding bytes
returns-in_err-read_number-3 c = rw c.from_residual-in_err-read_number-3.ensures (search (is_undeliver, one_malformed, c.in_default.ensures, c.in_default-after.ensures, c.in_default-after-2.ensures, c.in_default-after-3.ensures, c.in-Some-after-4.ensures, c.in_err-read_number-3.ensures))

pub returns-in-Some-after-4 : goal.returns-in-Some-after-4
unfolding bytes
returns-in-Some-after-4 c = search (is_undeliver, undeliver_read, c.in_default.ensures, c.in_default-after.ensures, c.in_default-after-2.ensures, c.in_default-after-3.ensures, c.in-Some-after-4.ensures, c.in_ok-read_number-3.ensures)

pub returns-in_err-after : goal.returns-in_err-after
unfolding bytes
returns-in_err-after c = rw c.from_residual-in_err-after.ensures (search (is_malformed, c.in_default.ensures, c.in_default-after.ensures, c.in_default-after-2.ensures, c.in_default-after-3.ensures, c.in_default-after-4.ensures, c.in_err-after.ensures))

pub returns-in_err-p-2 : goal.returns-in_err-p-2
unfolding bytes
returns-in_err-p-2 c = rw c.from_residual-in_err-p-2.ensures (search (is_rollback, two_malformed, c.in_default.ensures, c.in_default-after.ensures, c.in_default-after-2.ensures, c.in_default-after-3.ensures, c.in_default-after-4.ensures, c.in_ok-after.ensures, c.in_err-p-2.ensures))

pub returns : goal.returns
unfolding bytes
returns c = search (is_rollback, rollback_read, c.in_default.ensures, c.in_default-after.ensures, c.in_default-after-2.ensures, c.in_default-after-3.ensures, c.in_default-after-4.ensures, c.in_ok-after.ensures, c.in_ok-p-2.ensures)
