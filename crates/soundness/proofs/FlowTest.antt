-- The test of flows: what the code compares is what the clause about flows says.
use Prim.Native.Nat.{ℕ, ◌+◌, ◌-◌}
use mathlib.Core.Path.{◌≡◌, sym, ◌∙◌, ap}
use mathlib.Core.Bool.{Bool, true, false, not, ◌&&◌}
use mathlib.Core.List.{List, [], ◌∷◌}
use native.Mathlib.Omega.{arith}
use lib.ListN.{take, drop, get_or}
use Rattle.lists.proofs.Tests.{eqb_of, eqb_apart, cond_true, cond_false, not_true, not_false}
use Rattle.store.specs.Layout.{slot_head, kind_rec}
use Rattle.slots.specs.SoundTests.{number_word, names_in}
use Rattle.prefixes.specs.Prefixes.{left_begins}
use Rattle.soundness.specs.MessageTests.{flows_on}

-- the names of a slot, as they are lent
pub present_names : (words : ℕ) (block : List ℕ) → take (slot_head + words + get_or block 4 0 - (slot_head + words)) (drop (slot_head + words) block) ≡ names_in words block
present_names words block = let one : slot_head + words + get_or block 4 0 - (slot_head + words) ≡ get_or block 4 0 = omega arith in ap (λ (n : ℕ). take n (drop (slot_head + words) block)) one

-- ---- the walk over the entries of a place: what is said of the whole, wherever it stands

module _ (whole : Bool) (words taken : ℕ) (before : List ℕ) (w : List ℕ) (ws : List (List ℕ)) (present : List ℕ) (so_far : whole ≡ flows_on words taken before (w ∷ ws) present) where
  module _ (k : get_or w 0 0 ≡ kind_rec) (r : Bool) (e : r ≡ left_begins taken before (take (slot_head + words + get_or w 4 0 - (slot_head + words)) (drop (slot_head + words) w))) where
    first : whole ≡ (r && flows_on words (get_or w 2 0) (names_in words w) ws present)
    unfolding flows_on
    first =
        so_far
        ∙ cond_true (left_begins taken before (names_in words w) && flows_on words (number_word w) (names_in words w) ws present) (flows_on words taken before ws present) (eqb_of (get_or w 0 0) kind_rec k)
        ∙ ap (λ (b : Bool). b && flows_on words (get_or w 2 0) (names_in words w) ws present) (sym (e ∙ ap (left_begins taken before) (present_names words w)))

    pub going_rec : not r ≡ false → whole ≡ flows_on words (get_or w 2 0) (take (slot_head + words + get_or w 4 0 - (slot_head + words)) (drop (slot_head + words) w)) ws present
    going_rec yes' =
        first
        ∙ ap (λ (b : Bool). b && flows_on words (get_or w 2 0) (names_in words w) ws present) (not_false r yes')
        ∙ ap (λ (names : List ℕ). flows_on words (get_or w 2 0) names ws present) (sym (present_names words w))

    pub going_breaks : not r ≡ true → false ≡ whole
    going_breaks no' = sym (first ∙ ap (λ (b : Bool). b && flows_on words (get_or w 2 0) (names_in words w) ws present) (not_true r no'))

  pub going_other : ¬ (get_or w 0 0 ≡ kind_rec) → whole ≡ flows_on words taken before ws present
  unfolding flows_on
  going_other n = so_far ∙ cond_false (left_begins taken before (names_in words w) && flows_on words (number_word w) (names_in words w) ws present) (flows_on words taken before ws present) (eqb_apart (get_or w 0 0) kind_rec n)

pub going_ends : (whole r : Bool) (words taken : ℕ) (before present : List ℕ) → whole ≡ flows_on words taken before [] present → r ≡ left_begins taken before present → r ≡ whole
unfolding flows_on
going_ends whole r words taken before present so_far e = e ∙ sym so_far
