-- `load_position` meets its contract.
use mathlib.Core.Path.{sym, ap, ◌∙◌}
use Rattle.std.specs.Prelude.{Err}
use Rattle.store.specs.Loading.{load_value}
use Rattle.calls.proofs.load_answers.load_position.Goals as goal

pub returns-in-Ok : goal.returns-in-Ok
unfolding load_value
returns-in-Ok c = sym (ap load_value c.in-Ok.is)

pub returns-in-Err-BadSizes : goal.returns-in-Err-BadSizes
unfolding load_value
returns-in-Err-BadSizes c = let k = c.in-Err-BadSizes in sym (ap load_value (k.is ∙ ap Err (rw k.is at k.field-0-is)))

pub returns-in-Err-BadModule : goal.returns-in-Err-BadModule
unfolding load_value
returns-in-Err-BadModule c = let k = c.in-Err-BadModule in sym (ap load_value (k.is ∙ ap Err (rw k.is at k.field-0-is)))
