-- The lines of the listing, on numbers and words.
use Rattle.std.specs.Prelude.{ℕ, ◌/◌, ◌%◌, List, ◌++◌, map, Option, None, Some}
use Prim.Native.String.{String}
use Rattle.rules.specs.State.{name_base}
use Rattle.rules.specs.Text.{bytes, decimal, hex, spaced, line}
use Rattle.rules.specs.Listing.{name_text}
use Rattle.kinds.specs.declared.Kind.{Kind}
use Rattle.kinds.specs.declared.Kind.TheVariants.{Seq, Send, Rec, Spawn, Own, Check}

-- the name of a message that a word is
unfoldable pub name_in : ℕ → List ℕ
name_in w = name_text (w / name_base) (w % name_base)

-- "newest is a kind or `none`"
unfoldable pub newest_text : Option Kind → String
newest_text (Some Seq) = "seq"
newest_text (Some Send) = "send"
newest_text (Some Rec) = "rec"
newest_text (Some Spawn) = "spawn"
newest_text (Some Own) = "self"
newest_text (Some Check) = "check"
newest_text None = "none"

unfoldable pub newest_bytes : Option Kind → List ℕ
newest_bytes newest = bytes (newest_text newest)

unfoldable pub processes_line : ℕ → List ℕ
processes_line n = line "processes=" (decimal n)

unfoldable pub pid_line : ℕ → List ℕ
pid_line p = line "pid=" (decimal p)

unfoldable pub history_line : ℕ → List ℕ
history_line n = line "history=" (decimal n)

unfoldable pub newest_line : Option Kind → List ℕ
newest_line newest = line "newest=" (newest_bytes newest)

unfoldable pub queue_line : List ℕ → List ℕ
queue_line names = line "queue=" (spaced (map name_in names))

unfoldable pub words_line : List ℕ → List ℕ
words_line words = line "words=" (spaced (map hex words))

-- "The five lines from `pid`, the place"
unfoldable pub process_text : (p entries : ℕ) → Option Kind → (names words : List ℕ) → List ℕ
process_text p entries newest names words = pid_line p ++ history_line entries ++ newest_line newest ++ queue_line names ++ words_line words
