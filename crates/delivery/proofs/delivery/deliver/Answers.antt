-- `deliver` meets its contract.
use mathlib.Core.Path.{◌≡◌, refl}
use native.Mathlib.Omega.{arith}
use Rattle.std.specs.Prelude.{Err}
use Rattle.calls.specs.declared.answers.Refusal.TheVariants.{NoMessage}
use Rattle.calls.proofs.Answering.{call_does, call_ready, call_refuses}
use Rattle.delivery.proofs.Delivering.{deliver_found, deliver_nowhere, sender_lives, deliver_outside, name_small, deliver_does, post_ready, deliver_come, target_place, at_send}
use Rattle.reading.specs.Reads.{OfState, SendAt}
use Rattle.store.specs.Image.{IsImage}
use Rattle.delivery.proofs.delivery.deliver.Goals as goal
use Rattle.delivery.proofs.delivery.deliver.Goals.{Else-not-sound, In_ok-i}

ready : (c : Else-not-sound) → IsImage c.args.store.now
ready c = call_ready _ _ c.sound.ensures c.if-not-sound.false

-- the send that was found
sent : (c : In_ok-i) → OfState c.args.store.now (SendAt c.args.s c.args.k c.in_ok-i.i)
sent c = deliver_found _ _ _ _ c.find_send.ensures _ c.in_ok-i.ensures.ok_part

pub returns-then-not-sound : goal.returns-then-not-sound
returns-then-not-sound c = call_refuses _ _ c.sound.ensures _ c.if-not-sound.true

pub returns-then-not-in_pool : goal.returns-then-not-in_pool
returns-then-not-in_pool c = call_does _ _ c.sound.ensures _ _ _ c.if-not-sound.false (deliver_outside _ _ _ _ c.in_pool.ensures c.if-not-in_pool.true)

pub find_send-requires : goal.find_send-requires
find_send-requires c = (call_ready _ _ c.sound.ensures c.if-not-sound.false, sender_lives _ _ c.args.k _ c.in_pool.ensures c.if-not-in_pool.false)

pub returns-in_err-i : goal.returns-in_err-i
returns-in_err-i c =
    let is : c.from_residual.result ≡ Err NoMessage = grind arith in
    rw is (call_does _ _ c.sound.ensures _ _ _ c.if-not-sound.false (deliver_nowhere _ _ _ _ c.find_send.ensures c.in_err-i.ensures.ok_part))

pub target-t-requires : goal.target-t-requires
target-t-requires c = (ready (goal.at.target-t-requires c).Else-not-sound, at_send _ _ _ _ (sent (goal.at.target-t-requires c).In_ok-i))

pub overflow_mul-name : goal.overflow_mul-name
overflow_mul-name c =
    let z = name_small _ _ _ _ (sent (goal.at.overflow_mul-name c).In_ok-i) (ready (goal.at.overflow_mul-name c).Else-not-sound) in
    omega (arith, z.0)

pub overflow_add-name : goal.overflow_add-name
overflow_add-name c =
    let z = name_small _ _ _ _ (sent (goal.at.overflow_add-name c).In_ok-i) (ready (goal.at.overflow_add-name c).Else-not-sound) in
    omega (arith, z.0, z.1)

pub has_come-requires : goal.has_come-requires
has_come-requires c =
    (ready (goal.at.has_come-requires c).Else-not-sound, target_place _ _ _ _ (sent (goal.at.has_come-requires c).In_ok-i) _ c.target-t.ensures)

pub returns-then-has_come : goal.returns-then-has_come
returns-then-has_come c =
    call_does _ _ c.sound.ensures _ _ _ c.if-not-sound.false
    (deliver_come _ _ _ _ (sent (goal.at.returns-then-has_come c).In_ok-i) _ c.target-t.ensures _ refl _ c.has_come.ensures c.if-has_come.true)

pub post-requires : goal.post-requires
post-requires c = (
  ready (goal.at.post-requires c).Else-not-sound,
  post_ready _ _ _ _ (sent (goal.at.post-requires c).In_ok-i) _ c.target-t.ensures _ refl _ c.has_come.ensures c.if-has_come.false,
)

pub returns : goal.returns
returns c =
    call_does _ _ c.sound.ensures _ _ _ c.if-not-sound.false
    (deliver_does _ _ _ _ (sent (goal.at.returns c).In_ok-i) _ c.target-t.ensures _ refl _ c.has_come.ensures _ c.if-has_come.false c.post.ensures)
