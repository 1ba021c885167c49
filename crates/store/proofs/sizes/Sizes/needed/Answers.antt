-- `Sizes::needed` meets its contract.
use mathlib.Core.Path.{ap}
use Prim.Native.Nat.{ℕ, ◌*◌}
use native.Mathlib.Omega.{arith}
use Rattle.store.proofs.LayoutLaws.{blocks_most}
use Rattle.store.proofs.sizes.Sizes.needed.Goals as goal

pub overflow_mul-result : goal.overflow_mul-result
overflow_mul-result c = omega (arith, ap (λ (n : ℕ). c.args.self.places * n) c.args.self.block_is, blocks_most _ c.args.self.good)

pub overflow_add-result : goal.overflow_add-result
overflow_add-result c = omega (arith, ap (λ (n : ℕ). c.args.self.places * n) c.args.self.block_is, blocks_most _ c.args.self.good)

pub returns : goal.returns
returns c = omega (arith, ap (λ (n : ℕ). c.args.self.places * n) c.args.self.block_is)
