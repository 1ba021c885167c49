-- Lowering a cut on numbers: each lowering is to the event of a torn link, and once every event that goes was looked at no link is torn.
use Prim.Native.Nat.{ℕ, zero, suc, ◌+◌, ◌≤◌, ◌<◌}
use mathlib.Core.Path.{◌≡◌, refl, sym, ◌∙◌, ap, subst}
use mathlib.Core.List.{List, [], ◌∷◌}
use native.Mathlib.Decide.{ℕ_discrete, dec_lt}
use native.Mathlib.Omega.{arith}
use lib.ListN.{length, get_or, set, length-set}
use lib.Seq.{get_or-set_same, get_or-set_other}
use Rattle.cuts.specs.Bounds.{line_count}
use Rattle.std.specs.Prelude.{None}
use Rattle.cuts.specs.declared.link.Link.{Link}
use Rattle.cuts.specs.Links.{from_line, from_index, on_line, on_index, LinkFits, Room, OnEvents}
use Rattle.cuts.specs.Chains.{slot_count, slot_of, Chained, Indexed}
use Rattle.cuts.specs.Going.{Tears, Passed, lower_to, LowersAt, kept, lowers, Lowers, stay, down, LowersOn, Settled, FindsAbove}
use Rattle.cuts.proofs.ChainLaws.{chained_low, chained_next, chain_from}

-- ---- a number lowered
pub set_under : (l : List ℕ) (i v : ℕ) → v ≤ get_or l i 0 → (x : ℕ) → get_or (set l i v) x 0 ≤ get_or l x 0
set_under [] i v h x = omega arith
set_under (n ∷ l) zero v h zero = h
set_under (n ∷ l) zero v h (suc x) = omega arith
set_under (n ∷ l) (suc i) v h zero = omega arith
set_under (n ∷ l) (suc i) v h (suc x) = set_under l i v h x

module _ (links : List Link) (k : ℕ) where
  to_long : (cut : List ℕ) → length (lower_to links k cut) ≡ length cut
  unfolding lower_to
  to_long cut = length-set cut (from_line links k) (from_index links k)

  to_under : (cut : List ℕ) → Tears links cut k → (x : ℕ) → get_or (lower_to links k cut) x 0 ≤ get_or cut x 0
  unfolding lower_to
  to_under cut t x = set_under cut (from_line links k) (from_index links k) (omega (arith, t.stays)) x

  to_passed : (cut : List ℕ) → from_line links k < length cut → Passed links (lower_to links k cut) k
  unfolding lower_to
  to_passed cut h = omega (arith, get_or-set_same cut (from_line links k) (from_index links k) 0 h)

  -- what the code writes
  pub lower_torn : (cut : List ℕ) → Tears links cut k → LowersAt links k cut (set cut (from_line links k) (from_index links k))
  unfolding lower_to
  lower_torn cut t = lowers t

-- ---- one link
module _ {links : List Link} {k : ℕ} {before after : List ℕ} (at : LowersAt links k before after) where
  at_long : length after ≡ length before
  at_long = go at
    where
      go : {after : List ℕ} → LowersAt links k before after → length after ≡ length before
      go (kept n) = refl
      go (lowers t) = to_long links k before

  at_under : (x : ℕ) → get_or after x 0 ≤ get_or before x 0
  at_under x = go at
    where
      go : {after : List ℕ} → LowersAt links k before after → get_or after x 0 ≤ get_or before x 0
      go (kept n) = omega arith
      go (lowers t) = to_under links k before t x

  at_passed : LinkFits links k → length before ≡ line_count → get_or before (on_line links k) 0 ≤ on_index links k → Passed links after k
  at_passed fits long gone = go at
    where
      go : {after : List ℕ} → LowersAt links k before after → Passed links after k
      go (kept n) = elim (dec_lt (from_index links k) (get_or before (from_line links k) 0)) [ yes h ↦ absurd (n (record { stays = h; goes = gone })) | no h ↦ omega (arith, h) ]
      go (lowers t) = to_passed links k before (omega (arith, fits.from_line_lem, long))

  at_more : {from : List ℕ} → k < length links → Lowers links from before → Lowers links from after
  at_more {from} h l = go at
    where
      go : {after : List ℕ} → LowersAt links k before after → Lowers links from after
      go (kept n) = l
      go (lowers t) = down l h t

-- ---- many
module _ {links : List Link} where
  pub lowers_long : {from to : List ℕ} → Lowers links from to → length to ≡ length from
  lowers_long stay = refl
  lowers_long (down {cut} {k} l h t) = to_long links k cut ∙ lowers_long l

  lowers_under : {from to : List ℕ} → Lowers links from to → (x : ℕ) → get_or to x 0 ≤ get_or from x 0
  lowers_under stay x = omega arith
  lowers_under (down {cut} {k} l h t) x = omega (arith, to_under links k cut t x, lowers_under l x)

  lowers_on : {from mid to : List ℕ} → Lowers links from mid → Lowers links mid to → Lowers links from to
  lowers_on l stay = l
  lowers_on l (down r h t) = down (lowers_on l r) h t

-- ---- the links on one event
pub record LoweringOn (links : List Link) (index : List ℕ) (y i : ℕ) (before cut : List ℕ) (j : ℕ) : Type 0 where
  pub long : length cut ≡ line_count
  pub so_far : Lowers links before cut
  pub gone : get_or cut y 0 ≤ i
  pub left : (k : ℕ) → k < length links → on_line links k ≡ y → on_index links k ≡ i → from_index links k < get_or cut (from_line links k) 0 → Chained index j k

module _ (links : List Link) (index : List ℕ) (y i : ℕ) (before : List ℕ) where
  pub on_start : (s : ℕ) → length before ≡ line_count → Indexed links 0 index → s ≡ slot_of y i → get_or before y 0 ≤ i → LoweringOn links index y i before before (get_or index s 0)
  on_start s long indexed at gone = record { long = long; so_far = stay; gone = gone; left = λ k h e f stays. chain_from links index y i s indexed at k h e f }

  module _ (cut : List ℕ) (j : ℕ) (room : Room links) (below : j < length links) (lowering : LoweringOn links index y i before cut j) where
    pub on_next : (after : List ℕ) → LowersAt links j cut after → LoweringOn links index y i before after (get_or index (slot_count + j) 0)
    on_next after at = record {
      long = at_long at ∙ lowering.long;
      so_far = at_more at below lowering.so_far;
      gone = omega (arith, at_under at y, lowering.gone);
      left = λ k h e f stays. chained_next (lowering.left k h e f (omega (arith, stays, at_under at (from_line links k)))) (λ same. passed k e f same stays);
    }
      where
        passed : (k : ℕ) → on_line links k ≡ y → on_index links k ≡ i → j ≡ k → from_index links k < get_or after (from_line links k) 0 → ⊥
        passed k e f same stays =
            let here_gone : get_or cut (on_line links k) 0 ≤ on_index links k = omega (arith, ap (λ z. get_or cut z 0) e, f, lowering.gone) in
            let p : Passed links after k = subst (λ z. Passed links after z) same (at_passed at (room.each j below) lowering.long (subst (λ z. get_or cut (on_line links z) 0 ≤ on_index links z) (sym same) here_gone)) in
            omega (arith, p, stays)

  pub on_done : (cut : List ℕ) (j : ℕ) → length links ≤ j → LoweringOn links index y i before cut j → LowersOn links y i before cut
  on_done cut j past lowering = record {
    lowers = lowering.so_far;
    passed = λ k h e f. elim (dec_lt (from_index links k) (get_or cut (from_line links k) 0)) [ yes stays ↦ absurd (let l = chained_low (lowering.left k h e f stays) in omega (arith, l, h, past)) | no n ↦ omega (arith, n) ];
  }

-- ---- all of them: `left` says down to which event of each line they were looked at
pub record Settling (links : List Link) (from cut left : List ℕ) : Type 0 where
  pub long : length cut ≡ line_count
  pub left_long : length left ≡ line_count
  pub so_far : Lowers links from cut
  pub passed : (k : ℕ) → k < length links → get_or left (on_line links k) 0 ≤ on_index links k → Passed links cut k

module _ (links : List Link) (from : List ℕ) where
  pub settling_start : (levels : List ℕ) → length from ≡ line_count → length levels ≡ line_count → OnEvents links levels → Settling links from from levels
  settling_start levels long levels-long on = record { long = long; left_long = levels-long; so_far = stay; passed = λ k h g. absurd (omega (arith, g, on.each k h)) }

  module _ (cut left : List ℕ) (settling : Settling links from cut left) (y : ℕ) (line : y < line_count) where
    pub settling_next : (i : ℕ) (after : List ℕ) → get_or left y 0 ≡ i + 1 → LowersOn links y i cut after → Settling links from after (set left y i)
    settling_next i after top on = record {
      long = lowers_long on.lowers ∙ settling.long;
      left_long = length-set left y i ∙ settling.left_long;
      so_far = lowers_on settling.so_far on.lowers;
      passed = λ k h g. step k h g (ℕ_discrete (on_line links k) y);
    }
      where
        before : (k : ℕ) → k < length links → get_or left (on_line links k) 0 ≤ on_index links k → Passed links after k
        before k h g = omega (arith, settling.passed k h g, lowers_under on.lowers (from_line links k))

        step : (k : ℕ) → k < length links → get_or (set left y i) (on_line links k) 0 ≤ on_index links k → Dec (on_line links k ≡ y) → Passed links after k
        step k h g (no n) = before k h (omega (arith, g, get_or-set_other left y (on_line links k) i 0 n))
        step k h g (yes e) =
            let over : i ≤ on_index links k = omega (arith, g, ap (λ z. get_or (set left y i) z 0) e, get_or-set_same left y i 0 (omega (arith, line, settling.left_long))) in
            elim (ℕ_discrete (on_index links k) i) [ yes f ↦ on.passed k h e f | no n ↦ before k h (omega (arith, over, n, ap (λ z. get_or left z 0) e, top)) ]
