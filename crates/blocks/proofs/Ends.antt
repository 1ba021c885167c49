-- What is said for a block ends within its output, what is kept of a line within the line, and so the block is taken as its contract says.
use Prim.Native.Nat.{ℕ, ◌*◌, ◌≤◌}
use mathlib.Core.Path.{◌≡◌, refl, subst}
use mathlib.Core.List.{List}
use native.Mathlib.Omega.{arith}
use lib.ListN.{length, take}
use Rattle.text.proofs.WritingLaws.{wrote_length}
use Rattle.replies.specs.Replied.{reply_room}
use Rattle.lines.specs.Input.{Hears}
use Rattle.lines.specs.declared.input.Heard.{Heard}
use Rattle.std.specs.Prelude.{Option, Some}
use Rattle.replies.proofs.ReplyRoom.{text_taken}
use Rattle.lines.proofs.GatherLaws.{gather_within, hears_taken}
use Rattle.blocks.specs.Left.{TakesBlock}

-- a block that is taken: what is said for it ends within an output that has room, and what is kept of a line within the line
module _ {entry line input old exit after new : List ℕ} {count : ℕ} {r : Option Heard} {heard : Heard} (hears : Hears entry line count input old exit after new r) (taken : r ≡ Some heard) where
  pub block_ends : reply_room * length input ≤ length old → heard.end ≤ length new
  block_ends room =
      let (has, t) = hears_taken hears taken in
      let few = (gather_within input line count has.1).few in
      let f = t.says.fits in
      let e = (text_taken t.says.text (omega arith)).0 in
      let l = wrote_length t.says.text in
      omega arith

  pub block_keeps : heard.count ≤ length line
  block_keeps =
      let (has, t) = hears_taken hears taken in
      let w = (gather_within input line count has.1).within in
      let k = t.count_is in
      omega arith

  pub block_takes : reply_room * length input ≤ length old → TakesBlock entry line count input exit after heard.count (take heard.end new)
  block_takes room = record { old = old; room = room; new = new; end = heard.end; hears = subst (Hears entry line count input old exit after new) taken hears; said_is = refl }
