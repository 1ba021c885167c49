-- `arrive_all` meets its contract.
use mathlib.Core.Bool.{not}
use mathlib.Core.Path.{ap, refl}
use native.Mathlib.Omega.{arith}
use borrow.Author.Rules.{rules}
use Rattle.soundness.specs.MessageTests.{arrive_one, arrive_all}
use Rattle.slots.proofs.SoundTestRun.{words_yes, words_no, words_done}
use Rattle.soundness.proofs.messages.arrive_all.Goals as goal

pub loop-name-init : goal.loop-name-init
unfolding arrive_all
loop-name-init c = (refl, refl)

pub returns-then-not-arrive : goal.returns-then-not-arrive
returns-then-not-arrive c =
    let a = c.args in
    let l = c.loop-name in
    words_no (arrive_one a.sizes.places a.sizes.entries a.place) _ a.names.now l.name-index l.targets l.invariant.1 _ _ _ (omega arith) c.arrive.ensures (ap not c.if-not-arrive.true)

pub loop-name-preserved : goal.loop-name-preserved
loop-name-preserved c =
    let a = c.args in
    let l = c.loop-name in
    (search rules, words_yes (arrive_one a.sizes.places a.sizes.entries a.place) _ a.names.now l.name-index l.targets l.invariant.1 _ _ (omega arith) c.arrive.ensures (ap not c.if-not-arrive.false))

pub returns : goal.returns
returns c =
    let a = c.args in
    let l = c.loop-name in
    words_done (arrive_one a.sizes.places a.sizes.entries a.place) _ a.names.now l.name-index l.targets l.invariant.1 (omega arith)
