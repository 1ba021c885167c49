-- The calls of the library, put one after another as the program bench puts them, print what 01's program prints.
use Prim.Native.Nat.{ℕ}
use mathlib.Core.Path.{refl, sym, ◌∙◌, ap, subst}
use mathlib.Core.List.{List, [], ◌∷◌, ◌++◌, append_assoc}
use native.Mathlib.Omega.{arith}
use Rattle.rules.specs.Bench.{bench}
use Rattle.calls.proofs.ListingRoom.{listing_room_lem}
use Rattle.lines.specs.Listed.{Listed}
use Rattle.lines.specs.Conversation.{Conversation, silent, answered, Dialogue, ProgramOfCalls}
use Rattle.replies.proofs.ReplyRoom.{text_taken}
use Rattle.lines.proofs.PrintsLaws.{Prints, line_prints, listing_prints, load_prints}

conversation_prints : (entry : List ℕ) (lines : List (List ℕ)) (exit printed text : List ℕ) → Conversation entry lines exit printed → Prints exit [] text → Prints entry lines (printed ++ text)
conversation_prints entry [] exit printed text silent p = p
conversation_prints entry (line ∷ lines) exit printed text (answered {mid = mid} {said = said} {printed = rest} a c) p =
    let later = line_prints line entry mid a.replied.answer a.replied.call lines (rest ++ text) (conversation_prints mid lines exit rest text c p) in
    let f = a.replied.fits in
    let r = a.room in
    let is = a.said_is ∙ (text_taken a.replied.text (omega arith)).1 in
    subst (Prints entry (line ∷ lines)) (ap (λ (x : List ℕ). x ++ (rest ++ text)) (sym is) ∙ sym (append_assoc said rest text)) later

pub listed_prints : (store text : List ℕ) → Listed store text → Prints store [] text
listed_prints store text l = subst (Prints store []) (sym l.printed_is) (listing_prints store l.old l.new l.answer l.call (listing_room_lem.answer store l.old l.new l.answer l.room l.call))

dialogue_prints : (entry : List ℕ) (lines : List (List ℕ)) (printed : List ℕ) → Dialogue entry lines printed → Prints entry lines printed
dialogue_prints entry lines printed z =
    subst (Prints entry lines) (sym z.printed_is) (conversation_prints entry lines z.exit z.replies_said z.listing_said z.conversation (listed_prints z.exit z.listing_said z.listed))

pub program_of_calls : ProgramOfCalls
unfolding bench
program_of_calls = record {
  on_state = λ s rest lines printed sound z. (dialogue_prints _ lines printed z).on_image s rest sound refl;
  elsewhere = λ entry lines printed empty z. (dialogue_prints entry lines printed z).elsewhere empty;
  after_load_lem = λ module' sizes entry o lines printed room empty call z. load_prints module' sizes entry o lines printed room empty call (dialogue_prints o.left lines printed z);
  program = λ module' sizes entry input o printed room empty call z. load_prints module' sizes entry o _ printed room empty call (dialogue_prints o.left _ printed z);
}
