-- `checks::module::parameters` meets its contract.
use Rattle.checks.proofs.ModuleLaws.{marks_filled}
use Rattle.checks.proofs.module.parameters.Goals as goal

pub returns : goal.returns
returns c = marks_filled c.args.count c.min.result c.min.ensures c.fill.new.self (c.fill.ensures.after (λ y h. h))
