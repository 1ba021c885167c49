-- `step_send` meets its contract.
use Rattle.lists.proofs.Tests.{not_false, not_true}
use Rattle.stepping.proofs.Steps.{send_does, send_ready, about_lives, send_stuck}
use Rattle.stepping.proofs.stepping.step_send.Goals as goal

pub returns-then-not-in_pool : goal.returns-then-not-in_pool
returns-then-not-in_pool c = search (send_stuck, not_true)

pub send_row-next-requires : goal.send_row-next-requires
send_row-next-requires c = search about_lives

pub make-requires : goal.make-requires
make-requires c =
    let start = c in
    send_ready _ _ _ _ _ start.requires.2 _ _ start.requires.1 c.in_pool.ensures start.requires.0 c.send_row-next.ensures

pub returns : goal.returns
returns c = search (send_does, not_false)
