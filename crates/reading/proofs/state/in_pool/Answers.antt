-- `in_pool` meets its contract.
use Rattle.reading.proofs.Holding.{head_in}
use Rattle.reading.proofs.StateReads.{first_slot, no_place, is_place, head_of, live_out}
use native.Mathlib.Omega.{arith}
use Rattle.reading.proofs.state.in_pool.Goals as goal

pub bounds-store-0 : goal.bounds-store-0
bounds-store-0 c = omega (arith, head_in _ c.requires)

pub slot-requires : goal.slot-requires
slot-requires c = (c.requires, is_place _ _ c.if-p-store.true, first_slot _)

pub bounds-slot-0 : goal.bounds-slot-0
bounds-slot-0 c = omega (arith, head_of _ c.requires _ _ _ c.slot.ensures)

pub returns-then-p-store : goal.returns-then-p-store
returns-then-p-store c = live_out _ _ _ c.slot.ensures

pub returns-else-p-store : goal.returns-else-p-store
returns-else-p-store c = no_place _ _ c.if-p-store.false
