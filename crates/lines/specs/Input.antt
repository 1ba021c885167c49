-- What the input's bytes do, block by block, and what the program bench prints for all of them. `program_of_blocks` of proofs/ shows what is
-- claimed.
use Rattle.std.specs.Prelude.{ℕ, ◌+◌, ◌*◌, ◌≤◌, ◌<◌, min, ◌≡◌, true, false, List, [], ◌∷◌, ◌++◌, eqb, length, take, set, replicate, Option, Some, None}
use Rattle.rules.specs.Text.{line_feed}
use Rattle.rules.specs.State.{Sizes}
use Rattle.rules.specs.Line.{without_empty_last}
use Rattle.rules.specs.Bench.{bench, bench_module, bench_sizes, bench_store}
use Rattle.store.specs.Layout.{needed}
use Rattle.store.specs.Image.{IsImage}
use Rattle.store.specs.Loading.{Outcome}
use Rattle.calls.specs.Calls.{LoadCall}
use Rattle.replies.specs.Replied.{reply_room}
use Rattle.lines.specs.Performed.{Says}
use Rattle.lines.specs.Listed.{Listed}
use Rattle.lines.specs.declared.input.Heard.{Heard}

-- one byte more of a line, where there is room for it; all else stands as it stood (`set` past the end changes nothing)
pub record Kept (line : List ℕ) (count b : ℕ) (after : List ℕ) (kept : ℕ) : Type 0 where
  pub line_is : after ≡ set line count b
  pub count_is : kept ≡ min (count + 1) (length line)

-- What is gathered of some input: the lines that end in it, of each as much as there is room for; what then stands in the bytes that are lent for
-- a line; and how many of them belong to the line that has begun.
pub record Gathered : Type 0 where
  pub lines : List (List ℕ)
  pub line : List ℕ
  pub count : ℕ

unfoldable pub ended : List ℕ → Gathered → Gathered
ended line g = record { lines = line ∷ g.lines; line = g.line; count = g.count }

-- LF ends the line that has begun; any other byte is kept
unfoldable pub gather : (line : List ℕ) (count : ℕ) (input : List ℕ) → Gathered
gather line count [] = record { lines = []; line = line; count = count }
gather line count (b ∷ input) = elim (eqb b line_feed) [
  | true ↦ ended (take count line) (gather line 0 input)
  | false ↦ gather (set line count b) (min (count + 1) (length line)) input
]

-- input that is taken: the lines that end in it are performed, and what is said for them stands in the output
pub record Took (entry line : List ℕ) (count : ℕ) (input : List ℕ) (at : ℕ) (old exit after : List ℕ) (kept : ℕ) (new : List ℕ) (end : ℕ) : Type 0 where
  pub says : Says entry (gather line count input).lines at old exit new end
  pub line_is : after ≡ (gather line count input).line
  pub count_is : kept ≡ (gather line count input).count

-- the longest good line, a rollback with two numbers of three digits
abbrev pub longest_good : ℕ
longest_good = 16

-- a line with room for more than every good one, and no more kept of it than it has
abbrev pub HasRoom : (line : List ℕ) (count : ℕ) → Type 0
HasRoom line count = (longest_good < length line) × (count ≤ length line)

-- a block of the input, for all that is lent: it is taken, or it is refused and nothing changes
pub data Hears (entry line : List ℕ) (count : ℕ) (input old : List ℕ) : (exit after new : List ℕ) → Option Heard → Type 0 where
  takes : {exit after new : List ℕ} {heard : Heard} → HasRoom line count → Took entry line count input 0 old exit after heard.count new heard.end
      → Hears entry line count input old exit after new (Some heard)
  refuses : ¬ HasRoom line count → Hears entry line count input old entry line old None

-- the end of the input, where a line has begun: it is a line though it has no LF, if it is not empty
unfoldable pub Ends : (entry begun old exit new : List ℕ) (end : ℕ) → Type 0
Ends entry begun old exit new end = Says entry (without_empty_last (begun ∷ [])) 0 old exit new end

-- blocks of input, each taken, with an output that has room: what stands before the output's end is printed
pub data Blocks : (entry line : List ℕ) (count : ℕ) (input exit after : List ℕ) (kept : ℕ) (printed : List ℕ) → Type 0 where
  no_more : {store line : List ℕ} {count : ℕ} → Blocks store line count [] store line count []
  block : {entry line input old mid then new more exit after printed : List ℕ} {count begun end kept : ℕ} → Hears entry line count input old mid then new (Some (record { count = begun; end = end }))
      → reply_room * length input ≤ length old → Blocks mid then begun more exit after kept printed → Blocks entry line count (input ++ more) exit after kept (take end new ++ printed)

-- all of the input, its end, and the listing
pub record Program (entry input printed : List ℕ) : Type 0 where
  pub line : List ℕ
  pub mid : List ℕ
  pub after : List ℕ
  pub kept : ℕ
  pub blocks_said : List ℕ
  pub blocks : Blocks entry line 0 input mid after kept blocks_said
  pub exit : List ℕ
  pub old : List ℕ
  pub new : List ℕ
  pub end : ℕ
  pub last : Ends mid (take kept after) old exit new end
  pub room : reply_room ≤ length old
  pub listing_said : List ℕ
  pub listed : Listed exit listing_said
  pub printed_is : printed ≡ blocks_said ++ (take end new ++ listing_said)

pub record ProgramOfBlocks : Type 0 where
  -- after a load, in a store that is long enough and held no state, that is 01's program
  pub program : (module' : List ℕ) (sizes : Sizes) (entry input : List ℕ) (o : Outcome) (printed : List ℕ)
      → needed sizes ≤ length entry → ¬ IsImage entry → LoadCall module' sizes entry o → Program o.left input printed
      → printed ≡ bench module' sizes.places sizes.entries sizes.words input
  -- and with its own module and sizes and "a store of 10,816 words, zero at start"
  pub own : (input : List ℕ) (o : Outcome) (printed : List ℕ) → LoadCall bench_module bench_sizes (replicate bench_store 0) o → Program o.left input printed
      → printed ≡ bench bench_module 4 16 64 input
