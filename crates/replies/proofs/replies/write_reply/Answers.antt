-- `write_reply` meets its contract.
use Rattle.replies.proofs.LineLaws.{wrote_number, wrote_refused, wrote_count}
use borrow.Author.Rules.{rules}
use Rattle.replies.proofs.replies.write_reply.Goals as goal

pub returns-in_default : goal.returns-in_default
returns-in_default c = let r = wrote_refused _ _ _ c.number.ensures _ _ _ _ _ c.in_default.is c.write_answer-to.ensures in record { wrote = r.0; short = r.1 }

pub returns-else-is_rollback : goal.returns-else-is_rollback
returns-else-is_rollback c = let r = wrote_number _ _ _ c.number.ensures _ _ _ c.is_rollback.ensures _ _ c.if-is_rollback.false c.write_answer-to.ensures in record { wrote = r.0; short = r.1 }

pub returns-then-is_rollback : goal.returns-then-is_rollback
returns-then-is_rollback c =
    let r = wrote_count _ _ _ c.number.ensures _ _ _ c.is_rollback.ensures _ _ _ _ _ c.if-is_rollback.true c.in-Ok.is (search rules) c.write_answer-to.ensures c.write_undone.ensures in
    record { wrote = r.0; short = r.1 }
