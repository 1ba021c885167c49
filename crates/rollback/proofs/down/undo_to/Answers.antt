-- `rollback::down::undo_to` meets its contract.
use mathlib.Core.Path.{◌≡◌}
use native.Mathlib.Omega.{arith}
use Rattle.std.specs.Prelude.{Err}
use Rattle.calls.specs.declared.answers.Refusal.TheVariants.{Held}
use Rattle.cuts.proofs.ChainLaws.{waiting_start}
use Rattle.rollback.proofs.LinkDown.{ready_long, seek_reaches, seek_holds, seek_leaves}
use Rattle.rollback.proofs.down.undo_to.Goals as goal

pub seek-requires : goal.seek-requires
seek-requires c = let p = c.requires in (p.1, ready_long _ _ _ _ p.0 p.3, p.2)

pub returns-in_err-undone : goal.returns-in_err-undone
returns-in_err-undone c =
    let is : c.from_residual.result ≡ Err Held = grind arith in
    rw is (seek_holds _ _ _ _ c.requires.3 (rw c.in_err-undone.ensures.ok_part at c.seek.ensures))

pub undo_down-requires : goal.undo_down-requires
undo_down-requires c =
    let p = c.requires in
    let seeks = rw c.in_ok-undone.ensures.ok_part at c.seek.ensures in
    (p.0, p.1, waiting_start _ _ _ c.index_links.ensures, p.3, seek_reaches _ _ _ _ p.3 _ seeks)

pub returns : goal.returns
returns c = seek_leaves _ _ _ _ c.requires.3 _ _ (rw c.in_ok-undone.ensures.ok_part at c.seek.ensures) c.undo_down.ensures
