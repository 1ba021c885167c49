-- What the calls of the library print, put one after another as the program bench puts them. `program_of_calls` of proofs/ shows what is
-- claimed.
use Rattle.std.specs.Prelude.{ℕ, ◌≤◌, ◌≡◌, List, [], ◌∷◌, ◌++◌, length, take}
use Rattle.rules.specs.State.{Sizes, State}
use Rattle.rules.specs.Sound.{Sound}
use Rattle.rules.specs.Line.{lines_of}
use Rattle.rules.specs.Load.{load}
use Rattle.rules.specs.Replies.{replies, without_state, after_load}
use Rattle.rules.specs.Bench.{bench}
use Rattle.store.specs.Layout.{needed, image}
use Rattle.store.specs.Image.{IsImage}
use Rattle.store.specs.Loading.{Outcome}
use Rattle.calls.specs.Calls.{LoadCall}
use Rattle.replies.specs.Replied.{reply_room, Replied}
use Rattle.lines.specs.Listed.{Listed}

-- a line answered in an output that has room for any reply: what stands before the reply's end is printed
pub record Answered (line entry exit said : List ℕ) : Type 0 where
  pub old : List ℕ
  pub new : List ℕ
  pub end : ℕ
  pub replied : Replied line entry exit 0 old new end
  pub room : reply_room ≤ length old
  pub said_is : said ≡ take end new

-- lines answered one after the other
pub data Conversation : (entry : List ℕ) (lines : List (List ℕ)) (exit printed : List ℕ) → Type 0 where
  silent : {store : List ℕ} → Conversation store [] store []
  answered : {line entry mid exit said printed : List ℕ} {lines : List (List ℕ)} → Answered line entry mid said → Conversation mid lines exit printed
      → Conversation entry (line ∷ lines) exit (said ++ printed)

-- a conversation, and then the listing
pub record Dialogue (entry : List ℕ) (lines : List (List ℕ)) (printed : List ℕ) : Type 0 where
  pub exit : List ℕ
  pub replies_said : List ℕ
  pub listing_said : List ℕ
  pub conversation : Conversation entry lines exit replies_said
  pub listed : Listed exit listing_said
  pub printed_is : printed ≡ replies_said ++ listing_said

pub record ProgramOfCalls : Type 0 where
  -- in a store that begins with the image of a sound state
  pub on_state : (s : State) (rest : List ℕ) (lines : List (List ℕ)) (printed : List ℕ) → Sound s → Dialogue (image s ++ rest) lines printed → printed ≡ replies s lines
  -- in any other
  pub elsewhere : (entry : List ℕ) (lines : List (List ℕ)) (printed : List ℕ) → ¬ IsImage entry → Dialogue entry lines printed → printed ≡ without_state lines
  -- after a load of a store that is long enough and held no state
  pub after_load_lem : (module' : List ℕ) (sizes : Sizes) (entry : List ℕ) (o : Outcome) (lines : List (List ℕ)) (printed : List ℕ)
      → needed sizes ≤ length entry → ¬ IsImage entry → LoadCall module' sizes entry o → Dialogue o.left lines printed → printed ≡ after_load (load module' sizes) lines
  -- with the lines of an input: 01's program
  pub program : (module' : List ℕ) (sizes : Sizes) (entry input : List ℕ) (o : Outcome) (printed : List ℕ)
      → needed sizes ≤ length entry → ¬ IsImage entry → LoadCall module' sizes entry o → Dialogue o.left (lines_of input) printed
      → printed ≡ bench module' sizes.places sizes.entries sizes.words input
