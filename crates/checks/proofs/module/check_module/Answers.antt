-- `checks::module::check_module` meets its contract.
use Rattle.checks.proofs.CheckLaws.{module_long, module_fails, module_first, module_rules, counted_few}
use Rattle.checks.proofs.module.check_module.Goals as goal

pub returns-then-row-gt-LONGEST : goal.returns-then-row-gt-LONGEST
returns-then-row-gt-LONGEST c = search module_long

pub returns-in_err-m : goal.returns-in_err-m
returns-in_err-m c = search (module_fails, c.in_err-m.ensures)

pub returns-then-counts-ne0 : goal.returns-then-counts-ne0
returns-then-counts-ne0 c = search (module_first, c.in_ok-m.ensures)

pub slice_bounds-counts-end : goal.slice_bounds-counts-end
slice_bounds-counts-end c = counted_few _ _ _ c.in_ok-m.ensures

pub returns : goal.returns
returns c = search (module_rules, c.in_ok-m.ensures)
