-- `flying` meets its contract.
use native.Mathlib.Omega.{arith}
use Rattle.backward.proofs.FlyingLaws.{send_small, send_place, send_count, send_within, target_place, flying_is}
use Rattle.backward.proofs.held.flying.Goals as goal

pub overflow_mul-name : goal.overflow_mul-name
overflow_mul-name c = let pre = c.requires in let z = send_small _ _ _ pre.1 pre.0 in omega arith

pub sends_before-requires : goal.sends_before-requires
sends_before-requires c = let pre = c.requires in (pre.0, send_place _ _ _ pre.1, send_within _ _ _ pre.1)

pub overflow_add-name : goal.overflow_add-name
overflow_add-name c = let pre = c.requires in let z = send_small _ _ _ pre.1 pre.0 in omega (arith, send_count _ _ _ pre.1 _ c.sends_before.ensures pre.0)

pub has_come-requires : goal.has_come-requires
has_come-requires c = let pre = c.requires in (pre.0, target_place _ _ _ pre.1 _ c.target-t.ensures)

pub returns : goal.returns
returns c = flying_is _ _ _ c.requires.1 _ c.target-t.ensures _ c.sends_before.ensures _ c.has_come.ensures
