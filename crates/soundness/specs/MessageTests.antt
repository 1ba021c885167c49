-- What the tests of messages that came and of flows answer, said of the words of slots.
use Rattle.std.specs.Prelude.{ℕ, ◌+◌, ◌*◌, ◌<◌, ◌/◌, ◌%◌, ◌≡◌, Bool, cond, ◌&&◌, List, [], ◌∷◌, eqb, ltb, drop, get_or, set}
use Rattle.std.proofs.Math.Option.{Option, none, some}
use Rattle.lists.specs.Lists.{All, chop}
use Rattle.prefixes.specs.Prefixes.{left_begins}
use Rattle.store.specs.Layout.{slot_head, name_base, kind_rec}
use Rattle.slots.specs.SoundTests.{kind_word, number_word, queue_word, names_in, NamesFit, Block, and_then, run_all}

-- the names of a slot stand in it, and so does the name that a rec took
pub record TakenFits (words : ℕ) (w : List ℕ) : Type 0 where
  pub names_fit : NamesFit words w
  pub taken_fits : kind_word w ≡ kind_rec → number_word w < queue_word w

-- a block with the names that recs took
pub record TakenBlock (words size count : ℕ) (b : List ℕ) : Type 0 where
  pub block : Block words size count b
  pub taken : All (TakenFits words) (chop count size (drop size b))

-- ---- messages

-- a message that came to a place: it was sent there, and did not come before
unfoldable pub arrive_at : ℕ → ℕ → List ℕ → Option (List ℕ)
arrive_at at place targets = cond (eqb (get_or targets at 0) (place + 1)) (some (set targets at 0)) none

unfoldable pub arrive_one : ℕ → ℕ → ℕ → ℕ → List ℕ → Option (List ℕ)
arrive_one places entries place name targets =
    cond (ltb (name / name_base) places) (cond (ltb (name % name_base) entries) (arrive_at (name / name_base * entries + name % name_base) place targets) none) none

-- the messages of a queue
unfoldable pub arrive_all : ℕ → ℕ → ℕ → List ℕ → List ℕ → Option (List ℕ)
arrive_all places entries place names targets = run_all (arrive_one places entries place) names targets

-- the message that a slot's rec took
unfoldable pub arrive_slot : ℕ → ℕ → ℕ → ℕ → List ℕ → List ℕ → Option (List ℕ)
arrive_slot words places entries place w targets = cond (eqb (kind_word w) kind_rec) (arrive_one places entries place (get_or w (slot_head + words + number_word w) 0) targets) (some targets)

-- the messages that came to a place: its queue, and what its recs took
unfoldable pub arrive_taken : ℕ → ℕ → ℕ → ℕ → ℕ → ℕ → List ℕ → List ℕ → Option (List ℕ)
arrive_taken words size count places entries place block targets = run_all (arrive_slot words places entries place) (chop count size (drop size block)) targets

unfoldable pub arrive_place : ℕ → ℕ → ℕ → ℕ → ℕ → ℕ → List ℕ → List ℕ → Option (List ℕ)
arrive_place words size count places entries place block targets = and_then (arrive_all places entries place (names_in words block) targets) (arrive_taken words size count places entries place block)

-- the messages that came to all places, from one on
unfoldable pub arrive_from : ℕ → ℕ → ℕ → ℕ → ℕ → ℕ → List (List ℕ) → List ℕ → Option (List ℕ)
arrive_from words size count places entries place [] targets = some targets
arrive_from words size count places entries place (b ∷ bs) targets = and_then (arrive_place words size count places entries place b targets) (arrive_from words size count places entries (place + 1) bs)

-- ---- flows

-- what the last rec left, the slots of entries after it, and the present queue
unfoldable pub flows_on : ℕ → ℕ → List ℕ → List (List ℕ) → List ℕ → Bool
flows_on words taken before [] present = left_begins taken before present
flows_on words taken before (w ∷ ws) present =
    cond (eqb (kind_word w) kind_rec) (left_begins taken before (names_in words w) && flows_on words (number_word w) (names_in words w) ws present) (flows_on words taken before ws present)

-- the flows of a place
unfoldable pub place_flows : ℕ → ℕ → ℕ → List ℕ → Bool
place_flows words size count block = flows_on words 0 [] (chop count size (drop size block)) (names_in words block)
