-- The clause about shapes: the test of an entry's words decides what its slot may be, but for what a send's control is about to do.
use Prim.Native.Nat.{ℕ, ◌≤◌, ◌<◌}
use mathlib.Core.Path.{◌≡◌, refl, sym, ◌∙◌, ap}
use mathlib.Core.Logic.{inl, inr}
use mathlib.Core.Bool.{true}
use mathlib.Core.List.{List, []}
use native.Mathlib.Omega.{arith}
use lib.Dec.{eqb, leb}
use lib.ListN.{length, take, drop, get_or}
use Rattle.lists.specs.Decides.{Decides}
use Rattle.lists.proofs.Tests.{eqb-true, eqb_of, leb-true, ltb-true, ltb_of, true_or_false, true_not_false, and_left, and_right, and_of, cond_true, cond_false}
use Rattle.rules.specs.State.{Sizes}
use Rattle.store.specs.Layout.{slot_head, kind_seq, kind_send, kind_rec, kind_spawn, kind_self, kind_check, kind_live, Slot}
use Rattle.slots.specs.SoundTests.{plain_slot, present_slot, entry_slot}
use Rattle.store.proofs.Reading.{read_slot}
use Rattle.store.proofs.SlotViews.{PresentShape}
use Rattle.slots.proofs.SoundTestShape.{entry_seq, entry_send, entry_rec, entry_spawn, entry_self, entry_check}

-- what the slot of an entry may be, whatever its control
pub data EntryForm (x : Slot) : Type 0 where
  seq_form : x.kind ≡ kind_seq → x.number ≡ 0 → x.names ≡ [] → EntryForm x
  send_form : x.kind ≡ kind_send → x.number ≡ 0 → x.names ≡ [] → EntryForm x
  rec_form : x.kind ≡ kind_rec → x.number < length x.names → EntryForm x
  spawn_form : x.kind ≡ kind_spawn → x.names ≡ [] → EntryForm x
  self_form : x.kind ≡ kind_self → x.number ≡ 0 → x.names ≡ [] → EntryForm x
  check_form : x.kind ≡ kind_check → x.number ≤ 255 → x.names ≡ [] → EntryForm x

module _ (sizes : Sizes) (w : List ℕ) where
  module _ (fits : length (read_slot sizes w).names ≡ get_or w 4 0) where
    no_names : get_or w 4 0 ≡ 0 → (read_slot sizes w).names ≡ []
    unfolding read_slot
    no_names e = ap (λ (n : ℕ). take n (drop sizes.words (drop slot_head w))) e

    none_counted : (read_slot sizes w).names ≡ [] → get_or w 4 0 ≡ 0
    none_counted e = sym fits ∙ ap length e

    plain_of : (read_slot sizes w).number ≡ 0 → (read_slot sizes w).names ≡ [] → true ≡ plain_slot w
    unfolding plain_slot read_slot
    plain_of n e = sym (and_of (eqb_of (get_or w 2 0) 0 n) (eqb_of (get_or w 4 0) 0 (none_counted e)))

    form_of : EntryForm (read_slot sizes w) → entry_slot w ≡ true
    unfolding read_slot
    form_of (seq_form k n e) = sym (entry_seq w true k (plain_of n e))
    form_of (send_form k n e) = sym (entry_send w true k (plain_of n e))
    form_of (rec_form k h) = sym (entry_rec w k) ∙ ltb_of (get_or w 2 0) (get_or w 4 0) (omega (arith, fits))
    form_of (spawn_form k e) = sym (entry_spawn w k) ∙ eqb_of (get_or w 4 0) 0 (none_counted e)
    form_of (self_form k n e) = sym (entry_self w true k (plain_of n e))
    form_of (check_form k h e) = sym (entry_check w k h) ∙ eqb_of (get_or w 4 0) 0 (none_counted e)

    plain_number : plain_slot w ≡ true → get_or w 2 0 ≡ 0
    unfolding plain_slot
    plain_number e = eqb-true (get_or w 2 0) 0 (and_left (eqb (get_or w 2 0) 0) (eqb (get_or w 4 0) 0) e)

    plain_names : plain_slot w ≡ true → (read_slot sizes w).names ≡ []
    unfolding plain_slot
    plain_names e = no_names (eqb-true (get_or w 4 0) 0 (and_right (eqb (get_or w 2 0) 0) (eqb (get_or w 4 0) 0) e))

    to_form : entry_slot w ≡ true → EntryForm (read_slot sizes w)
    unfolding entry_slot read_slot
    to_form e = elim (true_or_false (eqb (get_or w 0 0) kind_seq)) [
      | inl t ↦ (let p = sym (cond_true _ _ t) ∙ e in seq_form (eqb-true (get_or w 0 0) kind_seq t) (plain_number p) (plain_names p))
      | inr a ↦ (let ea = sym (cond_false _ _ a) ∙ e in elim (true_or_false (eqb (get_or w 0 0) kind_send)) [
        | inl t ↦ (let p = sym (cond_true _ _ t) ∙ ea in send_form (eqb-true (get_or w 0 0) kind_send t) (plain_number p) (plain_names p))
        | inr b ↦ (let eb = sym (cond_false _ _ b) ∙ ea in elim (true_or_false (eqb (get_or w 0 0) kind_rec)) [
          | inl t ↦ (let p = ltb-true (get_or w 2 0) (get_or w 4 0) (sym (cond_true _ _ t) ∙ eb) in rec_form (eqb-true (get_or w 0 0) kind_rec t) (omega (arith, fits)))
          | inr c ↦ (let ec = sym (cond_false _ _ c) ∙ eb in elim (true_or_false (eqb (get_or w 0 0) kind_spawn)) [
            | inl t ↦ spawn_form (eqb-true (get_or w 0 0) kind_spawn t) (no_names (eqb-true (get_or w 4 0) 0 (sym (cond_true _ _ t) ∙ ec)))
            | inr d ↦ (let ed = sym (cond_false _ _ d) ∙ ec in elim (true_or_false (eqb (get_or w 0 0) kind_self)) [
              | inl t ↦ (let p = sym (cond_true _ _ t) ∙ ed in self_form (eqb-true (get_or w 0 0) kind_self t) (plain_number p) (plain_names p))
              | inr f ↦ (let ef = sym (cond_false _ _ f) ∙ ed in elim (true_or_false (eqb (get_or w 0 0) kind_check)) [
                | inl t ↦ (let p = sym (cond_true _ _ t) ∙ ef in check_form (eqb-true (get_or w 0 0) kind_check t) (leb-true (get_or w 2 0) 255 (and_left (leb (get_or w 2 0) 255) (eqb (get_or w 4 0) 0) p)) (no_names (eqb-true (get_or w 4 0) 0 (and_right (leb (get_or w 2 0) 255) (eqb (get_or w 4 0) 0) p))))
                | inr g ↦ true_not_false (sym (cond_false _ _ g) ∙ ef) refl
              ])
            ])
          ])
        ])
      ])
    ]

    pub form_decided : Decides (EntryForm (read_slot sizes w)) (entry_slot w)
    form_decided = record { sound = to_form; complete = form_of }

  pub present_decided : Decides (PresentShape (read_slot sizes w)) (present_slot w)
  unfolding present_slot read_slot
  present_decided = record {
    sound = λ e. record {
      is_live = eqb-true (get_or w 0 0) kind_live (and_left (eqb (get_or w 0 0) kind_live) (eqb (get_or w 2 0) 0) e);
      no_number = eqb-true (get_or w 2 0) 0 (and_right (eqb (get_or w 0 0) kind_live) (eqb (get_or w 2 0) 0) e);
    };
    complete = λ p. and_of (eqb_of (get_or w 0 0) kind_live p.is_live) (eqb_of (get_or w 2 0) 0 p.no_number);
  }
