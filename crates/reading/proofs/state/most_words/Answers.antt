-- `most_words` meets its contract.
use Rattle.reading.proofs.Holding.{head_in}
use Rattle.reading.proofs.StateReads.{words_out}
use native.Mathlib.Omega.{arith}
use Rattle.reading.proofs.state.most_words.Goals as goal

pub bounds-store-2 : goal.bounds-store-2
bounds-store-2 c = omega (arith, head_in _ c.requires)

pub overflow_cast-result : goal.overflow_cast-result
overflow_cast-result c = omega (arith, c.type_inv.store 2)

pub returns : goal.returns
returns c = words_out _
