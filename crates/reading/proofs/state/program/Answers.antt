-- `program` meets its contract.
use Rattle.reading.proofs.Holding.{head_in}
use Rattle.reading.proofs.StateReads.{module_in, module_out}
use native.Mathlib.Omega.{arith}
use Rattle.reading.proofs.state.program.Goals as goal

pub bounds-store-3 : goal.bounds-store-3
bounds-store-3 c = omega (arith, head_in _ c.requires)

pub overflow_cast-result : goal.overflow_cast-result
overflow_cast-result c = omega (arith, c.type_inv.store 3)

pub overflow_add-result : goal.overflow_add-result
overflow_add-result c = omega (arith, module_in _ c.requires)

pub slice_bounds-result-end : goal.slice_bounds-result-end
slice_bounds-result-end c = omega (arith, module_in _ c.requires)

pub returns : goal.returns
returns c = module_out _
