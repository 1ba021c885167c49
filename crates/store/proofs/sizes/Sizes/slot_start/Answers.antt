-- `Sizes::slot_start` meets its contract.
use mathlib.Core.Path.{ap}
use Prim.Native.Nat.{ℕ, ◌*◌}
use native.Mathlib.Omega.{arith}
use Rattle.store.proofs.LayoutLaws.{start_most}
use Rattle.store.proofs.sizes.Sizes.slot_start.Goals as goal

pub overflow_mul-result : goal.overflow_mul-result
overflow_mul-result c = let h = start_most _ c.args.self.good _ _ _ _ c.args.self.block_is c.args.self.slot_is c.requires.0 c.requires.1 in omega (arith, h)

pub overflow_add-result : goal.overflow_add-result
overflow_add-result c = let h = start_most _ c.args.self.good _ _ _ _ c.args.self.block_is c.args.self.slot_is c.requires.0 c.requires.1 in omega (arith, h)

pub overflow_mul-result-2 : goal.overflow_mul-result-2
overflow_mul-result-2 c = let h = start_most _ c.args.self.good _ _ _ _ c.args.self.block_is c.args.self.slot_is c.requires.0 c.requires.1 in omega (arith, h)

pub overflow_add-result-2 : goal.overflow_add-result-2
overflow_add-result-2 c = let h = start_most _ c.args.self.good _ _ _ _ c.args.self.block_is c.args.self.slot_is c.requires.0 c.requires.1 in omega (arith, h)

pub returns : goal.returns
returns c = omega (arith, ap (λ (n : ℕ). c.args.p * n) c.args.self.block_is, ap (λ (n : ℕ). c.args.i * n) c.args.self.slot_is)
