-- `after` meets its contract.
use Rattle.std.proofs.lemmas.Slice.Eq.{strip_prefix_is}
use Rattle.std.proofs.lemmas.Bool.Decides.{Decides-eqb}
use Rattle.parsing.proofs.CommandLaws.{stripped}
use Rattle.parsing.proofs.parsing.after.Goals as goal

pub returns : goal.returns
returns c = stripped _ _ _ (strip_prefix_is Decides-eqb _ _ _ c.strip_prefix.ensures.cases)
