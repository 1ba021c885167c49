-- The test of messages that came: what the code answers for a name, a queue and the slots of a place.
use Prim.Native.Nat.{ℕ, ◌+◌, ◌-◌, ◌*◌, ◌/◌, ◌%◌, ◌≤◌, ◌<◌}
use mathlib.Core.Path.{◌≡◌, sym, ◌∙◌, ap}
use mathlib.Core.Bool.{Bool, true, false, not}
use mathlib.Core.Option.{Option}
use mathlib.Core.List.{List, [], ◌∷◌}
use native.Mathlib.Omega.{arith}
use lib.ListN.{take, drop, get_or, set}
use Rattle.lists.proofs.Tests.{eqb_of, eqb_apart, ltb_of, ltb_over, cond_true, cond_false, not_true, not_false}
use Rattle.lists.proofs.Blocks.{block_in}
use Rattle.store.specs.Layout.{slot_head, name_base, kind_rec}
use Rattle.slots.specs.SoundTests.{names_in, answered, and_then}
use Rattle.soundness.specs.MessageTests.{arrive_at, arrive_one, arrive_all, arrive_slot, arrive_taken, arrive_place, arrive_from}

-- where a sender's send of a count is noted
pub name_in_lem : (places entries sender count n : ℕ) → places * entries ≤ n → sender < places → count < entries → sender * entries + count < n
name_in_lem places entries sender count n h s c = omega (arith, block_in sender places entries s)

module _ (places entries place name : ℕ) (targets : List ℕ) where
  pub arrive_sender : (x : List ℕ) → places ≤ name / name_base → answered false x ≡ arrive_one places entries place name targets
  unfolding answered arrive_one
  arrive_sender x h = sym (cond_false _ _ (ltb_over (name / name_base) places h))

  pub arrive_count : (x : List ℕ) → name / name_base < places → entries ≤ name % name_base → answered false x ≡ arrive_one places entries place name targets
  unfolding answered arrive_one
  arrive_count x s h = sym (cond_true _ _ (ltb_of (name / name_base) places s) ∙ cond_false _ _ (ltb_over (name % name_base) entries h))

  within : name / name_base < places → name % name_base < entries → arrive_one places entries place name targets ≡ arrive_at (name / name_base * entries + name % name_base) place targets
  unfolding arrive_one
  within s c = cond_true _ _ (ltb_of (name / name_base) places s) ∙ cond_true _ _ (ltb_of (name % name_base) entries c)

  pub arrive_elsewhere : (x : List ℕ) → name / name_base < places → name % name_base < entries → ¬ (get_or targets (name / name_base * entries + name % name_base) 0 ≡ place + 1) → answered false x ≡ arrive_one places entries place name targets
  unfolding answered arrive_at
  arrive_elsewhere x s c n = sym (within s c ∙ cond_false _ _ (eqb_apart (get_or targets (name / name_base * entries + name % name_base) 0) (place + 1) n))

  pub arrive_here : name / name_base < places → name % name_base < entries → get_or targets (name / name_base * entries + name % name_base) 0 ≡ place + 1
      → answered true (set targets (name / name_base * entries + name % name_base) 0) ≡ arrive_one places entries place name targets
  unfolding answered arrive_at
  arrive_here s c e = sym (within s c ∙ cond_true _ _ (eqb_of (get_or targets (name / name_base * entries + name % name_base) 0) (place + 1) e))

module _ (words places entries place : ℕ) (w targets : List ℕ) where
  pub slot_arrives : (r : Bool) (x : List ℕ) → get_or w 0 0 ≡ kind_rec → answered r x ≡ arrive_one places entries place (get_or w (slot_head + words + get_or w 2 0) 0) targets → answered r x ≡ arrive_slot words places entries place w targets
  unfolding arrive_slot
  slot_arrives r x k e = e ∙ sym (cond_true _ _ (eqb_of (get_or w 0 0) kind_rec k))

  pub slot_arrives_not : ¬ (get_or w 0 0 ≡ kind_rec) → answered true targets ≡ arrive_slot words places entries place w targets
  unfolding arrive_slot answered
  slot_arrives_not n = sym (cond_false _ _ (eqb_apart (get_or w 0 0) kind_rec n))

module _ (words size count places entries place : ℕ) (block targets : List ℕ) where
  queue_same : take (slot_head + words + get_or block 4 0 - (slot_head + words)) (drop (slot_head + words) block) ≡ names_in words block
  queue_same = let one : slot_head + words + get_or block 4 0 - (slot_head + words) ≡ get_or block 4 0 = omega arith in ap (λ (n : ℕ). take n (drop (slot_head + words) block)) one

  pub place_arrives : (a r : Bool) (x y : List ℕ) → answered a x ≡ arrive_all places entries place (take (slot_head + words + get_or block 4 0 - (slot_head + words)) (drop (slot_head + words) block)) targets → not a ≡ false
      → answered r y ≡ arrive_taken words size count places entries place block x → answered r y ≡ arrive_place words size count places entries place block targets
  unfolding arrive_place answered and_then
  place_arrives a r x y e t q =
      q ∙ ap (λ (o : Option (List ℕ)). and_then o (arrive_taken words size count places entries place block)) (ap (λ (b : Bool). answered b x) (sym (not_false a t)) ∙ e ∙ ap (λ (l : List ℕ). arrive_all places entries place l targets) queue_same)

  pub place_arrives_not : (a : Bool) (x z : List ℕ) → answered a x ≡ arrive_all places entries place (take (slot_head + words + get_or block 4 0 - (slot_head + words)) (drop (slot_head + words) block)) targets → not a ≡ true
      → answered false z ≡ arrive_place words size count places entries place block targets
  unfolding arrive_place answered and_then
  place_arrives_not a x z e f =
      ap (λ (o : Option (List ℕ)). and_then o (arrive_taken words size count places entries place block)) (ap (λ (b : Bool). answered b x) (sym (not_true a f)) ∙ e ∙ ap (λ (l : List ℕ). arrive_all places entries place l targets) queue_same)

-- ---- over places, of which the next stands at a count

module _ (words size count places entries at : ℕ) (b : List ℕ) (bs : List (List ℕ)) (x : List ℕ) (whole : Option (List ℕ)) (so_far : whole ≡ arrive_from words size count places entries at (b ∷ bs) x)
    (place : ℕ) (ep : place ≡ at) (y : List ℕ) (r : Bool) (e : answered r y ≡ arrive_place words size count places entries place b x) where
  here : whole ≡ and_then (answered r y) (arrive_from words size count places entries (at + 1) bs)
  unfolding arrive_from
  here = so_far ∙ ap (λ (o : Option (List ℕ)). and_then o (arrive_from words size count places entries (at + 1) bs)) (sym (e ∙ ap (λ (p : ℕ). arrive_place words size count places entries p b x) ep))

  pub from_yes : (next : ℕ) → next ≡ at + 1 → r ≡ true → whole ≡ arrive_from words size count places entries next bs y
  unfolding answered and_then
  from_yes next en t = here ∙ ap (λ (q : Bool). and_then (answered q y) (arrive_from words size count places entries (at + 1) bs)) t ∙ ap (λ (p : ℕ). arrive_from words size count places entries p bs y) (sym en)

  pub from_no : (z : List ℕ) → r ≡ false → answered false z ≡ whole
  unfolding answered and_then
  from_no z f = sym (here ∙ ap (λ (q : Bool). and_then (answered q y) (arrive_from words size count places entries (at + 1) bs)) f)

pub from_done : (words size count places entries at : ℕ) (x : List ℕ) (whole : Option (List ℕ)) → whole ≡ arrive_from words size count places entries at [] x → answered true x ≡ whole
unfolding answered arrive_from
from_done words size count places entries at x whole so_far = sym so_far
