-- `cuts::search::descend` meets its contract.
use Rattle.std.proofs.Common.{ℕ, ◌≤◌, ◌-◌, List, get_or, set, length-set, ◌∙◌, zero-add, arith}
use Rattle.cuts.proofs.ChainLaws.{waiting_less}
use Rattle.cuts.proofs.LowerLaws.{set_under}
use Rattle.cuts.proofs.LinkSearch.{sought_start, sought_on, sought_less, sought_done, sought_held}
use Rattle.cuts.proofs.search.descend.Goals as goal

-- a level less
less : (l : List ℕ) (x : ℕ) → (y : ℕ) → get_or (set l x (get_or l x 0 - 1)) y 0 ≤ get_or l y 0
less l x = set_under l x (get_or l x 0 - 1) (omega arith)

pub loop-x-init : goal.loop-x-init
loop-x-init c = (c.requires.2, zero-add _, sought_start _ _ _, c.requires.1)

pub loop-x-smaller : goal.loop-x-smaller
loop-x-smaller c =
    let l = c.loop-x in
    omega (arith, sought_less _ _ _ _ _ l.invariant.0 l.invariant.2 _ c.in-Some.ensures.0)

pub loop-x-preserved : goal.loop-x-preserved
loop-x-preserved c =
    let l = c.loop-x in
    let free = c.in-Some.ensures.0 in (
      length-set l.level _ _ ∙ l.invariant.0,
      omega (arith, sought_less _ _ _ _ _ l.invariant.0 l.invariant.2 _ free, l.invariant.1),
      sought_on _ _ _ _ _ l.invariant.0 l.invariant.2 _ free,
      waiting_less _ _ _ _ (less l.level c.in-Some.x) c.next_line.ensures.1,
    )

pub returns-in-Some-above : goal.returns-in-Some-above
returns-in-Some-above c =
    let l = c.loop-x in
    sought_held _ _ _ _ _ l.invariant.0 l.invariant.2 _ c.in_default.ensures.0 c.in-Some-above.ensures

pub returns-in-None : goal.returns-in-None
returns-in-None c =
    let l = c.loop-x in
    sought_done _ _ _ _ _ l.invariant.0 l.invariant.2 c.in-None.ensures
