-- `arrive` meets its contract.
use native.Mathlib.Omega.{arith}
use Prim.Native.Nat.{◌+◌, ◌*◌, ◌/◌, ◌%◌, ◌<◌}
use lib.ListN.{length}
use Rattle.store.specs.Layout.{name_base}
use Rattle.soundness.proofs.MessageTest.{name_in_lem, arrive_sender, arrive_count, arrive_elsewhere, arrive_here}
use Rattle.soundness.proofs.messages.arrive.Goals as goal
use Rattle.soundness.proofs.messages.arrive.Goals.{Else-entries-count}

-- where the send is noted, if its sender is a place and its count that of an entry
noted_in : (c : Else-entries-count) → c.args.name / name_base * c.args.sizes.entries + c.args.name % name_base < length c.args.targets.now
noted_in c = name_in_lem _ _ _ _ _ c.requires.0 c.if-places-sender.false c.if-entries-count.false

pub returns-then-places-sender : goal.returns-then-places-sender
returns-then-places-sender c = search arrive_sender

pub returns-then-entries-count : goal.returns-then-entries-count
returns-then-entries-count c = search arrive_count

pub overflow_mul-at : goal.overflow_mul-at
overflow_mul-at c = omega (arith, noted_in (goal.at.overflow_mul-at c).Else-entries-count)

pub overflow_add-at : goal.overflow_add-at
overflow_add-at c = omega (arith, noted_in (goal.at.overflow_add-at c).Else-entries-count)

pub offset_bounds-targets-at : goal.offset_bounds-targets-at
offset_bounds-targets-at c = omega (arith, noted_in (goal.at.offset_bounds-targets-at c).Else-entries-count)

pub bounds-targets-at : goal.bounds-targets-at
bounds-targets-at c = noted_in (goal.at.bounds-targets-at c).Else-entries-count

pub returns-then-targets-at : goal.returns-then-targets-at
returns-then-targets-at c = search arrive_elsewhere

pub offset_bounds-targets-at-2 : goal.offset_bounds-targets-at-2
offset_bounds-targets-at-2 c = omega (arith, noted_in (goal.at.offset_bounds-targets-at-2 c).Else-entries-count)

pub bounds-targets-at-2 : goal.bounds-targets-at-2
bounds-targets-at-2 c = noted_in (goal.at.bounds-targets-at-2 c).Else-entries-count

pub returns : goal.returns
returns c = search arrive_here
