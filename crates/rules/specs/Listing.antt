-- The listing of a state, as bytes.
use Rattle.std.specs.Prelude.{ℕ, List, [], ◌∷◌, ◌++◌, map, length}
use Prim.Native.String.{String}
use Rattle.std.proofs.Math.Option.{Option, none, some}
use Rattle.lists.specs.Lists.{keep, joined, up_to}
use Rattle.rules.specs.State.{Message, Kind, seq, send, rec, spawn, self, check, Entry, Process, State, in_pool}
use Rattle.rules.specs.Flight.{Name, name, flight}
use Rattle.rules.specs.Text.{bytes, point, decimal, hex, spaced, line}

-- "newest is a kind or `none`"
unfoldable pub kind_name : Kind → String
kind_name seq = "seq"
kind_name (send target value) = "send"
kind_name (rec older m newer) = "rec"
kind_name (spawn child) = "spawn"
kind_name self = "self"
kind_name (check number) = "check"

unfoldable pub newest_name : List Entry → String
newest_name [] = "none"
newest_name (e ∷ older) = kind_name e.kind

-- "names as `0.1`"
unfoldable pub name_text : ℕ → ℕ → List ℕ
name_text s k = decimal s ++ (point ∷ decimal k)

unfoldable pub message_text : Message → List ℕ
message_text m = name_text m.sender m.count

unfoldable pub flight_text : Name → List ℕ
flight_text (name s k) = name_text s k

-- "The five lines from `pid`, the place, repeat by place"
unfoldable pub process_lines : ℕ → List Message → Option Process → List ℕ
process_lines p queue none = []
process_lines p queue (some process) =
    line "pid=" (decimal p)
    ++ line "history=" (decimal (length process.history))
    ++ line "newest=" (bytes (newest_name process.history))
    ++ line "queue=" (spaced (map message_text queue))
    ++ line "words=" (spaced (map hex process.control))

unfoldable pub listing : State → List ℕ
listing s =
    line "processes=" (decimal (length (keep (in_pool s) (up_to s.sizes.places))))
    ++ joined (map (λ p. process_lines p (s.queues p) (s.processes p)) (up_to s.sizes.places))
    ++ line "flight=" (spaced (map flight_text (flight s)))

-- a length that no listing exceeds, whatever the sizes
abbrev pub listing_room : ℕ
listing_room = 65536
