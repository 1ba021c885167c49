-- `let_next` meets its contract.
use Rattle.step.proofs.RowStep.{let_past, let_high, let_written}
use native.Mathlib.Omega.{arith}
use Rattle.row_laws.proofs.RowTerms.{skip_within}
use Prim.Native.Nat.{◌+◌}
use Rattle.step.proofs.step.let_next.Goals as goal

pub returns-then-c-at : goal.returns-then-c-at
returns-then-c-at c = search let_past

pub returns-then-x-ge-VARIABLES : goal.returns-then-x-ge-VARIABLES
returns-then-x-ge-VARIABLES c = search let_high

pub with_copy-requires : goal.with_copy-requires
with_copy-requires c = let h = skip_within c.args.c.now (c.args.at + 1) 1 _ c.skip-body.ensures (omega arith) in (omega arith, omega arith, omega arith, omega arith)

pub returns : goal.returns
returns c = search let_written
