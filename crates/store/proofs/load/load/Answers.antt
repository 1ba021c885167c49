-- `load` meets its contract.
use mathlib.Core.Path.{◌≡◌, sym, ◌∙◌, ap}
use mathlib.Core.Bool.{true}
use native.Mathlib.Omega.{arith}
use Rattle.std.proofs.lemmas.Result.{err_from_is_err_and}
use Rattle.rules.specs.Load.{good_sizes}
use Rattle.store.specs.Layout.{needed}
use Rattle.store.specs.Sizing.{sizes_of}
use Rattle.store.proofs.LoadCodeWords.{load_writes}
use Rattle.store.proofs.LoadCodeAnswers.{load_bad_sizes, load_short, load_bad_module, good_short, load_done}
use Rattle.store.proofs.load.load.Goals as goal
use Rattle.store.proofs.load.load.Goals.{In-Some, After-needed-end}

-- the sizes that passed are those that were given
good : (c : In-Some) → good_sizes (sizes_of c.args.places c.args.entries c.args.words) ≡ true
good c = sym (ap good_sizes c.in-Some.ensures) ∙ c.in-Some.sizes.good

needs : (c : After-needed-end) → c.needed-end.result ≡ needed (sizes_of c.args.places c.args.entries c.args.words)
needs c = c.needed-end.ensures ∙ ap needed c.in-Some.ensures

pub returns-in_default : goal.returns-in_default
returns-in_default c = load_bad_sizes _ _ _ c.in_default.ensures

pub returns-then-store-end : goal.returns-then-store-end
returns-then-store-end c = load_short _ _ _ _ (needs (goal.at.returns-then-store-end c).After-needed-end) c.if-store-end.true

pub overflow_cast-head : goal.overflow_cast-head
overflow_cast-head c = omega (arith, good_short _ _ c.check_module.ensures c.in_ok-check_module.was)

pub returns-in_err-check_module : goal.returns-in_err-check_module
returns-in_err-check_module c =
    let at = goal.at.returns-in_err-check_module c in
    let p = err_from_is_err_and c.from_residual.result c.from_residual.ensures.1 in
    rw (p.1, p.2) (load_bad_module _ _ _ _ (needs at.After-needed-end) (good at.In-Some) c.if-store-end.false _ c.check_module.ensures _ c.in_err-check_module.was)

pub returns : goal.returns
returns c =
    let at = goal.at.returns c in
    let row = c.args.«module».now in
    let l = c.args.store.now in
    let sizes = sizes_of c.args.places c.args.entries c.args.words in
    let n = needs at.After-needed-end in
    let long = c.if-store-end.false in
    load_done row l sizes _ n (good at.In-Some) long _ c.check_module.ensures _ c.in_ok-check_module.was
    (load_writes sizes (good at.In-Some) row l c.fill.new.room c.fill-2.new.room c.fill-3.new.room _ _ c.word_of.ensures n long c.fill.ensures c.fill-2.ensures c.fill-3.ensures)
