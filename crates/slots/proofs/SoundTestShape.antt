-- The tests of shapes: what the code answers for the slot of a process and the slot of an entry.
use Prim.Native.Nat.{ℕ, ◌+◌, ◌-◌, ◌≤◌, ◌<◌}
use mathlib.Core.Path.{◌≡◌, sym, ◌∙◌, ap}
use mathlib.Core.Bool.{Bool, true, false, cond, not, ◌&&◌}
use mathlib.Core.List.{List}
use lib.Dec.{eqb, leb, ltb}
use native.Mathlib.Omega.{arith}
use lib.ListN.{take, drop, get_or}
use Rattle.lists.proofs.Tests.{eqb_of, eqb_apart, leb_of, leb_over, cond_true, cond_false, not_true, not_false}
use Rattle.term.specs.Control.{good_control}
use Rattle.store.specs.Layout.{slot_head, kind_free, kind_seq, kind_send, kind_rec, kind_spawn, kind_self, kind_check, kind_live}
use Rattle.slots.specs.SoundTests.{plain_slot, present_slot, entry_slot, control_passes, entry_passes, entries_pass, place_passes}

module _ (w : List ℕ) where
  pub plain_number : ¬ (get_or w 2 0 ≡ 0) → eqb (get_or w 2 0) 0 ≡ plain_slot w
  unfolding plain_slot
  plain_number n = let no = eqb_apart (get_or w 2 0) 0 n in no ∙ sym (ap (λ (b : Bool). b && eqb (get_or w 4 0) 0) no)

  pub plain_names : get_or w 2 0 ≡ 0 → eqb (get_or w 4 0) 0 ≡ plain_slot w
  unfolding plain_slot
  plain_names e = sym (ap (λ (b : Bool). b && eqb (get_or w 4 0) 0) (eqb_of (get_or w 2 0) 0 e))

  pub present_kind : ¬ (get_or w 0 0 ≡ kind_live) → eqb (get_or w 0 0) kind_live ≡ present_slot w
  unfolding present_slot
  present_kind n = let no = eqb_apart (get_or w 0 0) kind_live n in no ∙ sym (ap (λ (b : Bool). b && eqb (get_or w 2 0) 0) no)

  pub present_number : get_or w 0 0 ≡ kind_live → eqb (get_or w 2 0) 0 ≡ present_slot w
  unfolding present_slot
  present_number e = sym (ap (λ (b : Bool). b && eqb (get_or w 2 0) 0) (eqb_of (get_or w 0 0) kind_live e))

  -- what the slot of an entry of a kind may be
  by_kind : ℕ → Bool
  by_kind k =
      cond (eqb k kind_seq) (plain_slot w)
      (cond (eqb k kind_send) (plain_slot w)
      (cond (eqb k kind_rec) (ltb (get_or w 2 0) (get_or w 4 0))
      (cond (eqb k kind_spawn) (eqb (get_or w 4 0) 0)
      (cond (eqb k kind_self) (plain_slot w)
      (cond (eqb k kind_check) (leb (get_or w 2 0) 255 && eqb (get_or w 4 0) 0) false)))))

  of_kind : (k : ℕ) → get_or w 0 0 ≡ k → entry_slot w ≡ by_kind k
  unfolding entry_slot by_kind
  of_kind k e = ap by_kind e

  pub entry_seq : (r : Bool) → get_or w 0 0 ≡ kind_seq → r ≡ plain_slot w → r ≡ entry_slot w
  unfolding by_kind
  entry_seq r k e = e ∙ sym (of_kind kind_seq k)

  pub entry_send : (r : Bool) → get_or w 0 0 ≡ kind_send → r ≡ plain_slot w → r ≡ entry_slot w
  unfolding by_kind
  entry_send r k e = e ∙ sym (of_kind kind_send k)

  pub entry_rec : get_or w 0 0 ≡ kind_rec → ltb (get_or w 2 0) (get_or w 4 0) ≡ entry_slot w
  unfolding by_kind
  entry_rec k = sym (of_kind kind_rec k)

  pub entry_spawn : get_or w 0 0 ≡ kind_spawn → eqb (get_or w 4 0) 0 ≡ entry_slot w
  unfolding by_kind
  entry_spawn k = sym (of_kind kind_spawn k)

  pub entry_self : (r : Bool) → get_or w 0 0 ≡ kind_self → r ≡ plain_slot w → r ≡ entry_slot w
  unfolding by_kind
  entry_self r k e = e ∙ sym (of_kind kind_self k)

  pub entry_check_over : get_or w 0 0 ≡ kind_check → 255 < get_or w 2 0 → leb (get_or w 2 0) 255 ≡ entry_slot w
  unfolding by_kind
  entry_check_over k h = let no = leb_over (get_or w 2 0) 255 h in no ∙ sym (of_kind kind_check k ∙ ap (λ (b : Bool). b && eqb (get_or w 4 0) 0) no)

  pub entry_check : get_or w 0 0 ≡ kind_check → get_or w 2 0 ≤ 255 → eqb (get_or w 4 0) 0 ≡ entry_slot w
  unfolding by_kind
  entry_check k h = sym (of_kind kind_check k ∙ ap (λ (b : Bool). b && eqb (get_or w 4 0) 0) (leb_of (get_or w 2 0) 255 h))

  pub entry_none : ¬ (get_or w 0 0 ≡ kind_seq) → ¬ (get_or w 0 0 ≡ kind_send) → ¬ (get_or w 0 0 ≡ kind_rec) → ¬ (get_or w 0 0 ≡ kind_spawn) → ¬ (get_or w 0 0 ≡ kind_self) → ¬ (get_or w 0 0 ≡ kind_check) → false ≡ entry_slot w
  unfolding entry_slot
  entry_none a b c d e f =
      let k = get_or w 0 0 in
      sym (cond_false _ _ (eqb_apart k kind_seq a) ∙ cond_false _ _ (eqb_apart k kind_send b) ∙ cond_false _ _ (eqb_apart k kind_rec c) ∙ cond_false _ _ (eqb_apart k kind_spawn d) ∙ cond_false _ _ (eqb_apart k kind_self e) ∙ cond_false _ _ (eqb_apart k kind_check f))

-- ---- controls

pub control_passes_lem : (r : Bool) (places : ℕ) (arities w : List ℕ) → r ≡ good_control places arities (take (slot_head + get_or w 1 0 - slot_head) (drop slot_head w)) → r ≡ control_passes places arities w
unfolding control_passes
control_passes_lem r places arities w e =
    let one : slot_head + get_or w 1 0 - slot_head ≡ get_or w 1 0 = omega arith in
    e ∙ ap (λ (n : ℕ). good_control places arities (take n (drop slot_head w))) one

module _ (places : ℕ) (arities w : List ℕ) where
  pub passes_free : get_or w 0 0 ≡ kind_free → eqb (get_or w 0 0) kind_free ≡ entry_passes places arities w
  unfolding entry_passes
  passes_free e = let yes' = eqb_of (get_or w 0 0) kind_free e in yes' ∙ sym (cond_true _ _ yes')

  pub passes_control : (b r : Bool) → ¬ (get_or w 0 0 ≡ kind_free) → b ≡ entry_slot w → b ≡ true → r ≡ control_passes places arities w → r ≡ entry_passes places arities w
  unfolding entry_passes
  passes_control b r n e t q = q ∙ sym (cond_false _ _ (eqb_apart (get_or w 0 0) kind_free n) ∙ ap (λ (x : Bool). x && control_passes places arities w) (sym e ∙ t))

  pub passes_not : (b : Bool) → ¬ (get_or w 0 0 ≡ kind_free) → b ≡ entry_slot w → b ≡ false → b ≡ entry_passes places arities w
  unfolding entry_passes
  passes_not b n e f = f ∙ sym (cond_false _ _ (eqb_apart (get_or w 0 0) kind_free n) ∙ ap (λ (x : Bool). x && control_passes places arities w) (sym e ∙ f))

-- ---- a place

module _ (size count places : ℕ) (arities block : List ℕ) where
  pub place_free : get_or block 0 0 ≡ kind_free → true ≡ place_passes size count places arities block
  unfolding place_passes
  place_free e = sym (cond_true _ _ (eqb_of (get_or block 0 0) kind_free e))

  used : ¬ (get_or block 0 0 ≡ kind_free) → place_passes size count places arities block ≡ (present_slot (take size block) && (control_passes places arities (take size block) && entries_pass size count places arities block))
  unfolding place_passes
  used n = cond_false _ _ (eqb_apart (get_or block 0 0) kind_free n)

  pub place_shapeless : (a : Bool) → ¬ (get_or block 0 0 ≡ kind_free) → a ≡ present_slot (take size block) → not a ≡ true → false ≡ place_passes size count places arities block
  place_shapeless a n e f = sym (used n ∙ ap (λ (x : Bool). x && (control_passes places arities (take size block) && entries_pass size count places arities block)) (sym e ∙ not_true a f))

  pub place_control : (a b : Bool) → ¬ (get_or block 0 0 ≡ kind_free) → a ≡ present_slot (take size block) → not a ≡ false → b ≡ control_passes places arities (take size block) → not b ≡ true → false ≡ place_passes size count places arities block
  place_control a b n e t q f = sym (used n ∙ (λ i. (sym e ∙ not_false a t) i && ((sym q ∙ not_true b f) i && entries_pass size count places arities block)))

  pub place_entries : (a b r : Bool) → ¬ (get_or block 0 0 ≡ kind_free) → a ≡ present_slot (take size block) → not a ≡ false → b ≡ control_passes places arities (take size block) → not b ≡ false
      → r ≡ entries_pass size count places arities block → r ≡ place_passes size count places arities block
  place_entries a b r n e t q u x = x ∙ sym (used n ∙ (λ i. (sym e ∙ not_false a t) i && ((sym q ∙ not_false b u) i && entries_pass size count places arities block)))
