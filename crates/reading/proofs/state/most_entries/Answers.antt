-- `most_entries` meets its contract.
use Rattle.reading.proofs.Holding.{head_in}
use Rattle.reading.proofs.StateReads.{entries_out}
use native.Mathlib.Omega.{arith}
use Rattle.reading.proofs.state.most_entries.Goals as goal

pub bounds-store-1 : goal.bounds-store-1
bounds-store-1 c = omega (arith, head_in _ c.requires)

pub overflow_cast-result : goal.overflow_cast-result
overflow_cast-result c = omega (arith, c.type_inv.store 1)

pub returns : goal.returns
returns c = entries_out _
