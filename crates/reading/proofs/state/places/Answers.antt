-- `places` meets its contract.
use Rattle.reading.proofs.Holding.{head_in}
use Rattle.reading.proofs.StateReads.{places_out}
use native.Mathlib.Omega.{arith}
use Rattle.reading.proofs.state.places.Goals as goal

pub bounds-store-0 : goal.bounds-store-0
bounds-store-0 c = omega (arith, head_in _ c.requires)

pub overflow_cast-result : goal.overflow_cast-result
overflow_cast-result c = omega (arith, c.type_inv.store 0)

pub returns : goal.returns
returns c = places_out _
