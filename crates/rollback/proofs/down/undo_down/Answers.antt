-- `rollback::down::undo_down` meets its contract.
use Rattle.std.proofs.Common.{ℕ, ◌≤◌, ◌-◌, List, get_or, set, length-set, ◌∙◌, refl, rules, arith}
use Rattle.cuts.proofs.ChainLaws.{waiting_less}
use Rattle.cuts.proofs.Lines.{sum_less}
use Rattle.cuts.proofs.LowerLaws.{set_under}
use Rattle.rollback.proofs.LinkDown.{ready_long, undoing_start, undoing_can, undoing_next, undoing_done}
use Rattle.rollback.proofs.down.undo_down.Goals as goal

-- a level less
less : (l : List ℕ) (x : ℕ) → (y : ℕ) → get_or (set l x (get_or l x 0 - 1)) y 0 ≤ get_or l y 0
less l x = set_under l x (get_or l x 0 - 1) (omega arith)

pub loop-x-init : goal.loop-x-init
loop-x-init c = (ready_long _ _ _ _ c.requires.0 c.requires.3, refl, undoing_start _ _ _ _, c.requires.2)

pub undo_line-requires : goal.undo_line-requires
undo_line-requires c =
    let p = c.requires in
    undoing_can _ _ _ _ _ _ c.loop-x.invariant.2 p.0 p.3 _ c.in-Some.ensures.0

pub loop-x-smaller : goal.loop-x-smaller
loop-x-smaller c =
    let f = c.in-Some.ensures.0 in
    let l = c.loop-x in
    sum_less l.level c.in-Some.x _ (omega (arith, f.line, l.invariant.0)) (omega (arith, f.above))

pub loop-x-preserved : goal.loop-x-preserved
loop-x-preserved c =
    let p = c.requires in
    let l = c.loop-x in (
      length-set l.level _ _ ∙ l.invariant.0,
      search rules,
      undoing_next _ _ _ _ _ _ l.invariant.2 p.0 p.3 _ _ c.in-Some.ensures.0 l.invariant.0 c.undo_line.ensures,
      waiting_less _ _ _ _ (less l.level c.in-Some.x) c.next_line.ensures.1,
    )

pub returns : goal.returns
returns c =
    let p = c.requires in
    let l = c.loop-x in
    undoing_done _ _ _ _ _ _ l.invariant.2 p.0 p.3 l.invariant.0 c.in_default.ensures.0 p.4
