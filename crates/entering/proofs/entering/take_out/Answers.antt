-- `take_out` meets its contract.
use mathlib.Core.Path.{◌∙◌, ap}
use Rattle.writing.specs.Slots.{controlled}
use Rattle.entering.proofs.entering.take_out.Goals as goal

pub returns : goal.returns
returns c = let S = c in c.set_control.ensures ∙ ap (controlled S.args.words S.args.next.now) c.drop_name.ensures
