-- `load_number` meets its contract.
use mathlib.Core.Path.{sym, ap, ◌∙◌}
use Rattle.std.specs.Prelude.{Err}
use Rattle.store.specs.Loading.{load_number}
use Rattle.calls.proofs.load_answers.load_number.Goals as goal

pub returns-in-Ok : goal.returns-in-Ok
unfolding load_number
returns-in-Ok c = sym (ap load_number c.in-Ok.is)

pub returns-in-Err-BadSizes : goal.returns-in-Err-BadSizes
unfolding load_number
returns-in-Err-BadSizes c = let k = c.in-Err-BadSizes in sym (ap load_number (k.is ∙ ap Err (rw k.is at k.field-0-is)))

pub returns-in-Err-BadModule : goal.returns-in-Err-BadModule
unfolding load_number
returns-in-Err-BadModule c = let k = c.in-Err-BadModule in sym (ap load_number (k.is ∙ ap Err (rw k.is at k.field-0-is)))
