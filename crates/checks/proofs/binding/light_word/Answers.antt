-- `checks::binding::light_word` meets its contract.
use native.Mathlib.Omega.{arith}
use Rattle.checks.proofs.LightLaws.{light_integer, light_plain}
use Rattle.checks.proofs.binding.light_word.Goals as goal
use Rattle.checks.proofs.binding.light_word.Goals.{in-2-1, in_default+else-this-lt2+then-this-lt9}

pub returns-in-3 : goal.returns-in-3
returns-in-3 c = search light_integer

pub returns-in-2-to-8 : goal.returns-in-2-to-8
returns-in-2-to-8 c =
    elim c.in-2-to-8-1.branch [
      | in-2-1 w ↦ light_plain _ _ c.tag.ensures (λ i. omega (arith, i)) (omega arith) (omega arith) _ c.n.ensures
      | in_default+else-this-lt2+then-this-lt9 w ↦ light_plain _ _ c.tag.ensures (λ i. omega (arith, i)) (omega arith) (omega arith) _ c.n.ensures
    ]
