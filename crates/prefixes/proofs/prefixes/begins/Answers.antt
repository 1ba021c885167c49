-- `begins` meets its contract.
use mathlib.Core.Path.{◌∙◌, sym}
use Rattle.prefixes.proofs.PrefixLaws.{begins_is}
use Rattle.prefixes.proofs.prefixes.begins.Goals as goal

pub returns : goal.returns
returns c = c.starts_with.ensures.value ∙ sym (begins_is _ _)
