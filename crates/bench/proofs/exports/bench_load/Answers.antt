-- `bench_load` meets its contract.
use native.Mathlib.Omega.{arith}
use Rattle.bench.proofs.LoadLaws.{position_small, number_at_most, load_returned}
use Rattle.bench.proofs.exports.bench_load.Goals as goal

pub overflow_mul-result : goal.overflow_mul-result
overflow_mul-result c = omega (arith, position_small _ _ _ _ _ c.load-loaded.ensures _ c.load_position-at.ensures)

pub overflow_add-result : goal.overflow_add-result
overflow_add-result c = omega (arith, position_small _ _ _ _ _ c.load-loaded.ensures _ c.load_position-at.ensures, number_at_most _ _ _ _ _ c.load-loaded.ensures _ c.load_number-number.ensures)

pub returns : goal.returns
returns c = load_returned _ _ _ _ _ c.load-loaded.ensures _ _ c.load_position-at.ensures c.load_number-number.ensures
