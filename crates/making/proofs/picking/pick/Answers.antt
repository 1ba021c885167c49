-- `pick` meets its contract.
use Prim.Native.Nat.{ℕ}
use mathlib.Core.Path.{◌≡◌}
use native.Mathlib.Omega.{arith}
use Rattle.making.proofs.Picks.{walk_ends, walk_on, walk_stops, name_sent, walk_starts}
use Rattle.reading.proofs.StateReads.{lives_place}
use Rattle.making.proofs.picking.pick.Goals as goal

pub queue-names-requires : goal.queue-names-requires
queue-names-requires c = search lives_place

pub loop-i-init : goal.loop-i-init
loop-i-init c = walk_starts _ _ _

pub taken_row-requires : goal.taken_row-requires
taken_row-requires c = (c.requires.0, c.requires.1, name_sent _ _ _ _ c.queue-names.ensures c.loop-i-test.true)

pub loop-i-preserved : goal.loop-i-preserved
loop-i-preserved c = walk_on _ _ _ _ c.queue-names.ensures c.loop-i-test.true _ _ _ _ c.loop-i.invariant c.taken_row.ensures (cc)

pub returns-in_default : goal.returns-in_default
returns-in_default c =
    walk_stops _ _ _ _ c.queue-names.ensures c.loop-i-test.true _ _ _ _ c.loop-i.invariant c.taken_row.ensures _ (cc) (λ z. (let y : ◌≡◌ {A = ℕ} 0 1 = cc in absurd (omega arith)))

pub returns-in_default-2 : goal.returns-in_default-2
returns-in_default-2 c =
    walk_stops _ _ _ _ c.queue-names.ensures c.loop-i-test.true _ _ _ _ c.loop-i.invariant c.taken_row.ensures _ (cc) (λ z. (let y : ◌≡◌ {A = ℕ} 0 1 = cc in absurd (omega arith)))

pub returns : goal.returns
returns c = walk_ends _ _ _ _ _ _ c.queue-names.ensures c.loop-i.invariant c.loop-i-test.false _
