-- `take_lines` meets its contract.
use Prim.Native.Nat.{◌≤◌}
use mathlib.Core.Path.{◌≡◌}
use lib.ListN.{length, take}
use Rattle.lines.specs.Input.{Took}
use Rattle.lines.proofs.input.take_lines.Given as goal

abbrev pub invariant-loop-b : goal.invariant-loop-b
invariant-loop-b l =
    (length l.store ≡ length l.initial.store) × (length l.line ≡ length l.initial.line) × (length l.out ≡ length l.initial.out) × (l.heard.count ≤ length l.initial.line)
    × Took l.initial.store l.initial.line l.count (take l.b-index l.block) 0 l.initial.out l.store l.line l.heard.count l.out l.heard.end
