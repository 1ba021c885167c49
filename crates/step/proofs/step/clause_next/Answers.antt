-- `clause_next` meets its contract.
use Rattle.step.proofs.RowStep.{clause_past, clause_written}
use native.Mathlib.Omega.{arith}
use Rattle.row_laws.proofs.RowTerms.{skip_within}
use Prim.Native.Nat.{◌+◌}
use Rattle.step.proofs.step.clause_next.Goals as goal

pub returns-then-c-clause : goal.returns-then-c-clause
returns-then-c-clause c = search clause_past

pub with_copy-requires : goal.with_copy-requires
with_copy-requires c = let h = skip_within c.args.c.now (c.args.clause + 1) 2 _ c.skip-body.ensures (omega arith) in (omega arith, omega arith, omega arith, omega arith)

pub returns : goal.returns
returns c = search clause_written
