-- `rollback::rollback::rollback` meets its contract.
use Rattle.std.proofs.Common.{Some, Err}
use Rattle.calls.specs.declared.answers.Refusal.TheVariants.{NoCheckpoint}
use mathlib.Core.Path.{◌≡◌}
use native.Mathlib.Omega.{arith}
use Rattle.lists.proofs.Decides.{refuted}
use Rattle.store.specs.Image.{IsImage}
use Rattle.reading.specs.Reads.{OfState}
use Rattle.rollback.specs.Undone.{FindsCheck}
use Rattle.rollback.proofs.RollbackCalls.{call_elsewhere, call_away, call_without, call_back, call_place, call_happens}
use Rattle.links.proofs.LinkWhole.{place_low}
use Rattle.rollback.proofs.rollback.rollback.Goals as goal
use Rattle.rollback.proofs.rollback.rollback.Goals.{Else-not-sound, In_ok-index}

-- the store is an image
is_image : (c : Else-not-sound) → IsImage c.args.store.now
is_image c = c.sound.ensures.sound c.if-not-sound.false

-- the checkpoint that was found
found : (c : In_ok-index) → OfState c.args.store.now (FindsCheck c.args.p c.args.t (Some c.in_ok-index.index))
found c = rw c.in_ok-index.ensures.ok_part at c.newest_check.ensures

pub returns-then-not-sound : goal.returns-then-not-sound
returns-then-not-sound c = call_elsewhere _ _ _ (refuted c.sound.ensures c.if-not-sound.true)

pub in_pool-requires : goal.in_pool-requires
in_pool-requires c = is_image (goal.at.in_pool-requires c).Else-not-sound

pub returns-then-not-in_pool : goal.returns-then-not-in_pool
returns-then-not-in_pool c = call_away _ _ _ (is_image (goal.at.returns-then-not-in_pool c).Else-not-sound) c.in_pool.ensures c.if-not-in_pool.true

pub newest_check-requires : goal.newest_check-requires
newest_check-requires c = (is_image (goal.at.newest_check-requires c).Else-not-sound, call_place _ c.args.t _ c.in_pool.ensures c.if-not-in_pool.false)

pub returns-in_err-index : goal.returns-in_err-index
returns-in_err-index c =
    let a = c.args in
    let is : c.from_residual.result ≡ Err NoCheckpoint = grind arith in
    rw is (call_without a.p a.t a.store.now (is_image (goal.at.returns-in_err-index c).Else-not-sound) c.in_pool.ensures c.if-not-in_pool.false
    (rw c.in_err-index.ensures.ok_part at c.newest_check.ensures))

pub entry-requires : goal.entry-requires
entry-requires c = let a = c.args in place_low _ (is_image (goal.at.entry-requires c).Else-not-sound) _ (call_place _ a.t _ c.in_pool.ensures c.if-not-in_pool.false)

pub take_back-requires : goal.take_back-requires
take_back-requires c =
    let a = c.args in
    (is_image (goal.at.take_back-requires c).Else-not-sound, call_happens a.p a.t a.store.now _ _ c.entry.ensures (found (goal.at.take_back-requires c).In_ok-index))

pub returns : goal.returns
returns c =
    let a = c.args in
    call_back a.p a.t a.store.now _ _ _ _ c.entry.ensures (is_image (goal.at.returns c).Else-not-sound) c.in_pool.ensures c.if-not-in_pool.false (found (goal.at.returns c).In_ok-index) c.take_back.ensures
