-- What the code's reading for shape promises.
use Rattle.std.specs.Prelude.{ℕ, ◌≤◌, ◌<◌, ◌≡◌, true, List, ◌++◌, length, get_or, drop, replicate, Result, Ok, Err}
use Rattle.std.proofs.Math.Option.{Option, some}
use Rattle.rows.specs.declared.terms.BadWord.{BadWord}
use Rattle.rows.specs.declared.terms.Run.{Run}
use Rattle.rows.specs.declared.terms.Run.TheVariants.{Ends, Turns}
use Rattle.shape.specs.declared.shape.Spots.{Spots}
use Rattle.term.specs.Words.{tag_of, n_of, k_of, tag_atom, tag_integer, tag_nil, tag_cons}
use Rattle.term.specs.Table.{fits, child_spots, spot_expression}
use Rattle.term.specs.Shape.{shape}

-- what shape comes to after a reading: that of the other spots from its end on, or the word that failed
unfoldable pub onward : (places : ℕ) (new l others : List ℕ) → Result ℕ BadWord → Option ℕ
onward places new l others (Ok a) = shape places new (drop a l) others a
onward places new l others (Err bad) = some bad.0

unfoldable pub NoLess : ℕ → Result ℕ BadWord → Type 0
NoLess at (Ok a) = at ≤ a
NoLess at (Err bad) = at ≤ bad.0

unfoldable pub Further : ℕ → Result ℕ BadWord → Type 0
Further at (Ok a) = at < a
Further at (Err bad) = Unit {0}

-- r answers for so many terms at a spot from `at` on, whatever waits after them
pub record Reads (places : ℕ) (l : List ℕ) (at spot times : ℕ) (r : Result ℕ BadWord) : Type 0 where
  pub answer : (new others : List ℕ) → shape places new (drop at l) (replicate times spot ++ others) at ≡ onward places new l others r
  pub no_less : NoLess at r
  pub further : ¬ (times ≡ 0) → Further at r

-- so many terms at one spot
abbrev pub one_run : (spot times : ℕ) → Spots
one_run spot times = record { first = spot; firsts = times; second = spot_expression; seconds = 0; third = spot_expression; thirds = 0 }

-- three runs of spots that are together those of the children of w
abbrev pub RunsOf : (spot w : ℕ) → Spots → Type 0
RunsOf spot w g = replicate g.firsts g.first ++ (replicate g.seconds g.second ++ replicate g.thirds g.third) ≡ child_spots spot w

-- the word of an atom, of nil or of cons
pub data ValueWord (w : ℕ) : Type 0 where
  is_atom : tag_of w ≡ tag_atom → n_of w ≡ 0 → k_of w < 256 → ValueWord w
  is_nil : tag_of w ≡ tag_nil → n_of w ≡ 0 → k_of w < 1 → ValueWord w
  is_cons : tag_of w ≡ tag_cons → n_of w ≡ 2 → k_of w < 1 → ValueWord w

-- the word w fits at a spot, whatever the places are, and is no integer; its children, n of them, stand there too
pub record Common (spot w : ℕ) : Type 0 where
  pub fit : (places : ℕ) → fits places spot w ≡ true
  pub node : ¬ (tag_of w ≡ tag_integer)
  pub below : child_spots spot w ≡ replicate (n_of w) spot

-- reading has come to a, and so many terms at the same spot are still to come
pub record Comes (places : ℕ) (l : List ℕ) (at spot times a left : ℕ) : Type 0 where
  pub answer : (new others : List ℕ) → shape places new (drop at l) (replicate times spot ++ others) at ≡ shape places new (drop a l) (replicate left spot ++ others) a
  pub no_less : at ≤ a
  pub moved : a ≡ at → left ≡ times

-- it has come to a word that fits and is no integer
pub record Turned (places : ℕ) (l : List ℕ) (at spot times a left : ℕ) : Type 0 where
  pub comes : Comes places l at spot times a left
  pub more : ¬ (left ≡ 0)
  pub inside : a < length l
  pub fit : fits places spot (get_or l a 0) ≡ true
  pub node : ¬ (tag_of (get_or l a 0) ≡ tag_integer)

-- r answers for so many terms at a spot from `at` on, or says where one of them is to be read otherwise
unfoldable pub ReadsAlike : (places : ℕ) (l : List ℕ) (at spot times : ℕ) → Result Run BadWord → Type 0
ReadsAlike places l at spot times (Ok (Ends a)) = Reads places l at spot times (Ok a)
ReadsAlike places l at spot times (Ok (Turns ahead)) = Turned places l at spot times ahead.at ahead.owed
ReadsAlike places l at spot times (Err bad) = Reads places l at spot times (Err bad)
