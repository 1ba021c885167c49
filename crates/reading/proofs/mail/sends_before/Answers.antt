-- `sends_before` meets its contract.
use Rattle.std.proofs.Common.{arith}
use Rattle.reading.proofs.MailReads.{index_low}
use Rattle.reading.proofs.KindReads.{sends_counted}
use Rattle.reading.proofs.mail.sends_before.Goals as goal

pub overflow_cast-result : goal.overflow_cast-result
overflow_cast-result c = omega (arith, index_low _ _ _ c.requires.0 c.requires.2, c.count_of.ensures.1)

pub returns : goal.returns
returns c = sends_counted _ _ _ _ c.count_of.ensures.0
