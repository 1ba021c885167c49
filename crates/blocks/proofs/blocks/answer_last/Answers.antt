-- What is said for a last line ends within the room for a reply.
use Rattle.std.proofs.Common.{ℕ, ◌≤◌, List, length, arith}
use Rattle.text.proofs.WritingLaws.{wrote_length}
use Rattle.replies.specs.Replied.{reply_room}
use Rattle.lines.specs.Input.{Ends}
use Rattle.replies.proofs.ReplyRoom.{text_taken}
use Rattle.lines.proofs.GatherLaws.{last_few}
use Rattle.blocks.proofs.blocks.answer_last.Goals as goal

last_ends : (entry begun old exit new : List ℕ) (end : ℕ) → Ends entry begun old exit new end → reply_room ≤ length old → end ≤ length new
unfolding Ends
last_ends entry begun old exit new end s room =
    let few = last_few begun in
    let f = s.fits in
    let e = (text_taken s.text (omega arith)).0 in
    let l = wrote_length s.text in
    omega arith

pub print-requires : goal.print-requires
print-requires g c = last_ends _ _ _ _ _ _ c.last_line-end.ensures (omega arith)
