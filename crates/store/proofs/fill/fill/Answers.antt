-- `fill` meets its contract.
use Prim.Native.Nat.{ℕ, ◌-◌, ◌<◌, min}
use mathlib.Core.Path.{◌≡◌, refl, sym, ap, subst, ◌∙◌}
use mathlib.Core.List.{List, ◌++◌, append-nil}
use native.Mathlib.Omega.{arith}
use borrow.Rule.Slice.PartMut.{mid_of, put_mid}
use borrow.Author.Tests.{ltb-true, ltb-false}
use lib.ListN.{length, take, drop, set, replicate}
use lib.Seq.{drop-length}
use Rattle.std.proofs.lemmas.List.{get_or_default}
use Rattle.lists.specs.Fill.{fill_to}
use Rattle.store.proofs.ZerosLaws.{filled, filled_full, written_next}
use Rattle.store.proofs.fill.fill.Goals as goal

pub loop-i-init : goal.loop-i-init
loop-i-init c = (omega arith, omega arith, refl)

pub returns-in_default : goal.returns-in_default
returns-in_default c =
    let old = c.args.room.now in
    let row = c.args.row.now in
    let i = c.loop-i.i in
    let past = ltb-false i (length row) (sym c.in_default.ensures.lookup.0) in
    let end : i ≡ min (length old) (length row) = omega (arith, c.loop-i.invariant.0, past) in
    subst (λ (room : List ℕ). c.fill.new.self ≡ replicate (length (mid_of i (length room - i) room)) 0 → put_mid i (length room - i) room c.fill.new.self ≡ fill_to (length old) 0 row)
    (sym c.loop-i.invariant.2) (filled i old row (take i row) c.fill.new.self end refl) (c.fill.ensures.after (λ y e. e))

pub loop-i-preserved : goal.loop-i-preserved
loop-i-preserved c =
    let i = c.loop-i.i in
    let inside : i < length c.args.row.now = ltb-true i (length c.args.row.now) (sym c.in-Some.ensures.lookup.0) in
    (omega (arith, inside), omega arith, ap (λ (room : List ℕ). set room i c.in-Some.word.now) c.loop-i.invariant.2 ∙ written_next c.args.room.now c.args.row.now i _ inside (omega arith) (c.in-Some.ensures.lookup.1 ∙ get_or_default c.args.row.now i c.in-Some.word.now 0 inside))

pub returns : goal.returns
returns c =
    let old = c.args.room.now in
    let all : c.loop-i.i ≡ length old = omega arith in
    c.loop-i.invariant.2 ∙ rw (all, drop-length, append-nil) (filled_full (length old) c.args.row.now (omega (arith, c.loop-i.invariant.0, all)))
