-- `after` meets its contract.
use Rattle.copying.proofs.RowNext.{after_written}
use native.Mathlib.Omega.{arith}
use Rattle.row_laws.proofs.RowTerms.{skip_within}
use Rattle.copying.proofs.next.after.Goals as goal

pub overflow_sub-c : goal.overflow_sub-c
overflow_sub-c c = skip_within c.args.c.now c.args.at 1 _ c.skip-end.ensures (omega arith)

pub copy_words-requires : goal.copy_words-requires
copy_words-requires c = let h = skip_within c.args.c.now c.args.at 1 _ c.skip-end.ensures (omega arith) in (omega arith, omega arith)

pub returns : goal.returns
returns c = search after_written
