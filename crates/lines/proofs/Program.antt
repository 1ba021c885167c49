-- Blocks of input, the end of the input and the listing, as the program bench puts them, print what 01's program prints.
use Prim.Native.Nat.{ℕ, ◌<◌, ◌≤◌}
use mathlib.Core.Path.{◌≡◌, sym, ◌∙◌, ap, subst}
use mathlib.Core.List.{List, [], ◌++◌, append_assoc}
use native.Mathlib.Omega.{arith}
use lib.ListN.{length, take, get_or, replicate, length-replicate, get_or-replicate}
use Rattle.lists.proofs.Tests.{leb-true, and_left}
use Rattle.rules.specs.State.{Sizes}
use Rattle.rules.specs.Load.{good_sizes}
use Rattle.rules.specs.Bench.{bench, bench_module, bench_sizes, bench_store}
use Rattle.rules.specs.Line.{lines_of}
use Rattle.store.specs.Layout.{needed, head, laid, image}
use Rattle.store.specs.Image.{IsImage}
use Rattle.store.specs.Loading.{Outcome}
use Rattle.store.proofs.Laws.{image_laws}
use Rattle.calls.specs.Calls.{LoadCall}
use Rattle.lines.specs.Input.{takes, Ends, Blocks, no_more, block, Program, ProgramOfBlocks}
use Rattle.replies.proofs.ReplyRoom.{text_taken}
use Rattle.lines.proofs.PrintsLaws.{Prints, load_prints}
use Rattle.lines.proofs.Conversation.{listed_prints}
use Rattle.lines.proofs.GatherLaws.{gather_within, last_few}
use Rattle.lines.proofs.InputLaws.{lines_from, from_start, from_end, since, gathered_prints, performed_prints}

blocks_prints : {entry line input exit after printed : List ℕ} {count kept : ℕ} (text : List ℕ) → Blocks entry line count input exit after kept printed → Prints exit (lines_from (take kept after) []) text
    → Prints entry (lines_from (take count line) input) (printed ++ text)
unfolding since
blocks_prints text no_more p = p
blocks_prints {entry} {line} {count = count} text (block {input = input} {mid = mid} {new = new} {more = more} {printed = printed} {end = end} (takes room t) fits rest) p =
    let few = (gather_within input line count room.1).few in
    let short = t.says.fits in
    let is : take end new ≡ t.says.said = (text_taken t.says.text (omega arith)).1 in
    let later = subst (λ (x : List ℕ). Prints mid (lines_from x more) (printed ++ text)) (λ i. take (t.count_is i) (t.line_is i)) (blocks_prints text rest p) in
    subst (Prints entry (lines_from (take count line) (input ++ more))) (ap (λ (x : List ℕ). x ++ (printed ++ text)) (sym is) ∙ sym (append_assoc (take end new) printed text))
    (gathered_prints input line count room.0 entry mid t.says.said more (printed ++ text) t.says.performed later)

program_prints : (entry input printed : List ℕ) → Program entry input printed → Prints entry (lines_of input) printed
unfolding Ends
program_prints entry input printed g =
    let begun = take g.kept g.after in
    let f = g.last.fits in
    let r = g.room in
    let few = last_few begun in
    let is : take g.end g.new ≡ g.last.said = (text_taken g.last.text (omega arith)).1 in
    let last = performed_prints g.listing_said g.last.performed (listed_prints g.exit g.listing_said g.listed) in
    let all = blocks_prints (g.last.said ++ g.listing_said) g.blocks (subst (λ (ls : List (List ℕ)). Prints g.mid ls (g.last.said ++ g.listing_said)) (sym (from_end begun)) last) in
    let same : g.blocks_said ++ (g.last.said ++ g.listing_said) ≡ printed =
    ap (λ (x : List ℕ). g.blocks_said ++ (x ++ g.listing_said)) (sym is) ∙ sym g.printed_is in
    subst (λ (ls : List (List ℕ)). Prints entry ls printed) (from_start input) (subst (Prints entry (lines_from [] input)) same all)

-- no image begins with 0
zeros_no_image : (n : ℕ) → 0 < n → ¬ IsImage (replicate n 0)
unfolding image laid head good_sizes
zeros_no_image n h x =
    let s = x.state in
    let first : get_or (replicate n 0) 0 1 ≡ s.sizes.places = ap (λ (l : List ℕ). get_or l 0 1) x.words in
    let one : 1 ≤ s.sizes.places = leb-true 1 s.sizes.places (search (and_left, x.sound.sizes_pass)) in
    let zero' : ◌≡◌ {A = ℕ} (get_or (replicate n 0) 0 1) 0 = get_or-replicate {A = ℕ} n 0 0 1 h in
    absurd (omega (arith, first, one, zero'))

after_load_lem : (module' : List ℕ) (sizes : Sizes) (entry input : List ℕ) (o : Outcome) (printed : List ℕ) → needed sizes ≤ length entry → ¬ IsImage entry → LoadCall module' sizes entry o
    → Program o.left input printed → printed ≡ bench module' sizes.places sizes.entries sizes.words input
unfolding bench
after_load_lem module' sizes entry input o printed room empty call g =
    load_prints module' sizes entry o (lines_of input) printed room empty call (program_prints o.left input printed g)

pub program_of_blocks : ProgramOfBlocks
program_of_blocks = record {
  program = after_load_lem;
  own = λ input o printed call g.
      let fits = image_laws.bench_fits in
      let long = length-replicate {A = ℕ} bench_store 0 in
      after_load_lem bench_module bench_sizes (replicate bench_store 0) input o printed (subst (λ (n : ℕ). needed bench_sizes ≤ n) (sym long) fits) (zeros_no_image bench_store (omega arith)) call g;
}
