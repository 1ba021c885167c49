-- `copy_term` meets its contract.
use native.Mathlib.Omega.{arith}
use Rattle.copying.proofs.RowWrite.{term_past, term_written}
use Rattle.row_laws.proofs.RowTerms.{skip_within}
use Rattle.copying.proofs.copy.copy_term.Goals as goal

pub returns-then-src-at : goal.returns-then-src-at
returns-then-src-at c = search term_past

pub copy_words-requires : goal.copy_words-requires
copy_words-requires c = let h = skip_within c.args.src.now c.args.at 1 _ c.skip-end.ensures (omega arith) in let g = c.skip-end.ensures in (omega arith, omega arith)

pub returns : goal.returns
returns c = search term_written
