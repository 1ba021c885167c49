-- What is said for a block ends within its output, and what is kept of a line within the line.
use Rattle.std.proofs.Common.{ℕ, List, arith, Ok, Err, OnErr}
use Rattle.std.specs.declared.result.Result.{Result}
use Rattle.blocks.specs.Left.{TakesBlock}
use Rattle.blocks.proofs.Ends.{block_ends, block_keeps, block_takes}
use Rattle.blocks.proofs.blocks.answer_block.Goals as goal

pub print-requires : goal.print-requires
print-requires g c = block_ends c.take_block.ensures c.in-Some.is (omega (arith, c.requires))

on_err_takes : {A E : Type 0} {entry line input exit after said : List ℕ} {count kept : ℕ} (r : Result A E) → TakesBlock entry line count input exit after kept said
    → OnErr r ((k : ℕ) × (s : List ℕ) × TakesBlock entry line count input exit after k s)
on_err_takes (Ok x) t = tt
on_err_takes (Err y) t = (_, _, t)

pub returns-in_err-print-clause-err : goal.returns-in_err-print-clause-err
returns-in_err-print-clause-err g c = on_err_takes c.from_residual.result (block_takes c.take_block.ensures c.in-Some.is (omega (arith, c.requires)))

pub returns-clause-ok : goal.returns-clause-ok
returns-clause-ok g c = block_keeps c.take_block.ensures c.in-Some.is

pub returns-clause-ok_answered : goal.returns-clause-ok_answered
returns-clause-ok_answered g c = (_, block_takes c.take_block.ensures c.in-Some.is (omega (arith, c.requires)), c.in_ok-print.ensures)
