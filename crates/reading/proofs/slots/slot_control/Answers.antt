-- `slot_control` meets its contract.
use Prim.Native.Nat.{ℕ, ◌+◌, ◌-◌}
use mathlib.Core.Path.{◌≡◌, ap}
use native.Mathlib.Omega.{arith}
use lib.ListN.{take, drop, get_or}
use Rattle.reading.proofs.slots.slot_control.Goals as goal

pub returns : goal.returns
returns c = let same : 8 + get_or c.args.slot.now 1 0 - 8 ≡ get_or c.args.slot.now 1 0 = omega arith in ap (λ (n : ℕ). take n (drop 8 c.args.slot.now)) same
