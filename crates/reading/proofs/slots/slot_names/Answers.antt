-- `slot_names` meets its contract.
use Prim.Native.Nat.{ℕ, ◌+◌, ◌-◌}
use mathlib.Core.Path.{◌≡◌, ap}
use native.Mathlib.Omega.{arith}
use lib.ListN.{take, drop, get_or}
use Rattle.reading.proofs.slots.slot_names.Goals as goal

pub returns : goal.returns
returns c = let w = c.args.words in let x = c.args.slot.now in let same : 8 + w + get_or x 4 0 - (8 + w) ≡ get_or x 4 0 = omega arith in ap (λ (n : ℕ). take n (drop (8 + w) x)) same
