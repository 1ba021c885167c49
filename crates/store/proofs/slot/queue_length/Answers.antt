-- `queue_length` meets its contract.
use native.Mathlib.Omega.{arith}
use Rattle.store.proofs.slot.queue_length.Goals as goal

pub overflow_cast-result : goal.overflow_cast-result
overflow_cast-result c = omega (arith, c.type_inv.slot 4)
