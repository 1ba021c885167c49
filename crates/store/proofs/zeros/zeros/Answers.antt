-- `zeros` meets its contract.
use native.Mathlib.Omega.{arith}
use Rattle.lists.proofs.Decides.{yes_to, by}
use Rattle.store.proofs.ZerosLaws.{zeros_all, zeros_each, met_other, met_zero}
use Rattle.store.proofs.zeros.zeros.Goals as goal
use Rattle.store.proofs.zeros.zeros.Goals.{then-word-ne0, else-word-ne0}

pub loop-word-init : goal.loop-word-init
loop-word-init c = yes_to (λ k h. absurd (omega arith))

pub loop-word-preserved : goal.loop-word-preserved
loop-word-preserved c =
    let part = c.args.part.now in
    let i = c.loop-word.word-index in
    elim c.if-word-ne0.branch [
      | then-word-ne0 w ↦ met_other part i _ w.all-is w.if-word-ne0.true
      | else-word-ne0 w ↦ met_zero part i _ _ w.all-is w.if-word-ne0.false c.loop-word.invariant
    ]

pub returns : goal.returns
returns c =
    let part = c.args.part.now in
    by (λ f. zeros_all part (λ i h. f i (omega arith))) (λ z k h. zeros_each part k z (omega arith)) c.loop-word.invariant
