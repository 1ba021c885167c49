-- `copy_words` meets its contract.
use Rattle.copying.proofs.RowWrite.{wrote_none, words_more, words_all_written}
use Rattle.copying.proofs.copy.copy_words.Goals as goal

pub loop-w-init : goal.loop-w-init
loop-w-init c = search wrote_none

pub loop-w-preserved : goal.loop-w-preserved
loop-w-preserved c = search words_more

pub returns : goal.returns
returns c = words_all_written c.args.src.now c.args.from _ _ c.args.n _ _ _ c.loop-w.invariant c.loop-w-test.false
