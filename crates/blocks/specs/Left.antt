-- What a block of the input leaves of the store and the line.
use Rattle.std.specs.Prelude.{ℕ, ◌*◌, ◌≤◌, ◌<◌, ◌≡◌, List, length, get_or, take, Some}
use Rattle.std.specs.declared.ops.ControlFlow.{ControlFlow}
use Rattle.std.specs.declared.ops.ControlFlow.TheVariants.{Continue, Break}
use Rattle.text.specs.declared.keys.TheConstants.{LINE_FEED}
use Rattle.replies.specs.Replied.{reply_room}
use Rattle.lines.specs.Input.{gather, HasRoom, Hears}

-- How much is kept of a line that has not ended, whether there may be more input or not.
abbrev pub kept_of : ControlFlow ℕ ℕ → ℕ
kept_of (Continue count) = count
kept_of (Break count) = count

-- A block of commands is taken, with an output that has room for all that it says: so much is kept of a line that has not ended, and these bytes
-- are to be printed.
pub record TakesBlock (entry line : List ℕ) (count : ℕ) (input exit after : List ℕ) (kept : ℕ) (said : List ℕ) : Type 0 where
  pub old : List ℕ
  pub room : reply_room * length input ≤ length old
  pub new : List ℕ
  pub end : ℕ
  pub hears : Hears entry line count input old exit after new (Some (record { count = kept; end = end }))
  pub said_is : said ≡ take end new

-- A block of commands is refused, for want of room in the line, and nothing changes.
pub record RefusesBlock (entry line : List ℕ) (count : ℕ) (exit after : List ℕ) : Type 0 where
  pub no_room : ¬ HasRoom line count
  pub store_is : exit ≡ entry
  pub line_is : after ≡ line

-- What the bytes of a script make of the line: so much is kept of one that has not ended.
pub record Gathers (line : List ℕ) (count : ℕ) (input after : List ℕ) (kept : ℕ) : Type 0 where
  pub line_is : after ≡ (gather line count input).line
  pub count_is : kept ≡ (gather line count input).count

-- A block of a script is left at an LF, the end of the line whose print failed: the bytes before it are gathered, and none after it.
pub record StopsAtLine (line : List ℕ) (count : ℕ) (input after : List ℕ) : Type 0 where
  pub at : ℕ
  pub within : at < length input
  pub feed : get_or input at 0 ≡ LINE_FEED
  pub kept : ℕ
  pub gathers : Gathers line count (take at input) after kept
