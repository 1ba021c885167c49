-- A send's target and value, read of its control before.
use Prim.Native.Nat.{ℕ, ◌-◌, ◌≤◌, ◌<◌}
use mathlib.Core.Path.{◌≡◌, sym, ◌∙◌, ap, subst}
use mathlib.Core.Option.{some}
use mathlib.Core.List.{List, []}
use native.Mathlib.Omega.{arith}
use lib.ListN.{length, take, drop, length-drop}
use lib.Seq.{take_all}
use Rattle.term.specs.Read.{term_of, terms_of}
use Rattle.machine.specs.Work.{work}
use Rattle.rules.specs.State.{Entry, State, history_at, entry_at}
use Rattle.rules.specs.Sound.{Sound}
use Rattle.step.specs.Controls.{ControlIs, doing_of, DoingOf}
use Rattle.step.specs.Becomes.{Sent}
use Rattle.step.specs.declared.control.Extent.{Extent}
use Rattle.step.specs.declared.work.Doing.{Doing}
use Rattle.step.specs.declared.work.Doing.TheVariants.{Send}
use Rattle.store.specs.Image.{IsImage}
use Rattle.store.proofs.SoundStates.{sizes_in_lem}
use Rattle.reading.specs.Reads.{OfState, IsEntry, OfEntry, IsSend, OfSend}
use Rattle.step.proofs.Ready.{control_ready}
use Rattle.reading.proofs.Holding.{at_image, holding, of_state}
use Rattle.reading.proofs.Slotted.{entry_below}

-- the control before of an entry is one that a step may be made of
before_is : (s : State) (sound : Sound s) (p i : ℕ) {e : Entry} → entry_at (history_at s p) i ≡ some e → ControlIs (terms_of s.module') e.before (term_of e.before)
before_is s sound p i {e} stands =
    control_ready s.module' e.before s.sizes.places sound.module_passes (omega (arith, (sizes_in_lem s.sizes sound.sizes_pass).places_high)) (sound.controls_before p i e stands).good

module _ (l : List ℕ) (p i : ℕ) where
  pub send_entry : OfState l (IsSend p i) → OfState l (IsEntry p i)
  send_entry f = of_state _ λ s rest h. let x = holding _ f s rest h in entry_below (history_at s p) i x.stands

  module _ (c : List ℕ) (b : OfState l (OfEntry p i (λ e. c ≡ e.before))) where
    pub before_short : IsImage l → OfState l (IsSend p i) → length c < 4294967295
    unfolding OfEntry
    before_short im f =
        let s = im.state in
        let x = at_image _ im f in
        let e = at_image _ im b x.entry x.stands in
        omega (arith, ap length e, (im.sound.controls_before p i x.entry x.stands).fits, (sizes_in_lem s.sizes im.sound.sizes_pass).words_high)

    pub doing_send : (r : Doing) → DoingOf c r → OfState l (OfSend p i (λ target value. r ≡ Send target))
    unfolding OfEntry OfSend DoingOf doing_of
    doing_send r f = of_state _ λ s rest h. λ e target value stands says.
        let same : e.before ≡ c = sym (holding _ b s rest h e stands) in
        let said = h.sound.sends_said p i target value e stands says in
        f s.module' (term_of e.before) (subst (λ (x : List ℕ). ControlIs (terms_of s.module') x (term_of e.before)) same (before_is s h.sound p i stands))
        ∙ ap (λ (x : List ℕ). doing_of (work s.module' x)) (sym same)
        ∙ ap doing_of said.sends

    pub sent_value : (r : Extent) → Sent c r → OfState l (OfSend p i (λ target value. take (r.to - r.from) (drop r.from c) ≡ value))
    unfolding OfEntry OfSend Sent
    sent_value r f = of_state _ λ s rest h. λ e target value stands says.
        let same : e.before ≡ c = sym (holding _ b s rest h e stands) in
        let said = h.sound.sends_said p i target value e stands says in
        f s.module' (term_of e.before) target value said.next (subst (λ (x : List ℕ). ControlIs (terms_of s.module') x (term_of e.before)) same (before_is s h.sound p i stands))
        (ap (work s.module') (sym same) ∙ said.sends)

    pub value_out : (r : Extent) → Sent c r → (x : List ℕ) → x ≡ take (r.to - r.from) (drop r.from c) → OfState l (OfSend p i (λ target value. x ≡ value))
    unfolding OfSend
    value_out r f x q = of_state _ λ s rest h. λ e target value stands says. q ∙ holding _ (sent_value r f) s rest h e target value stands says

  pub target_out : (r : Doing) (t : ℕ) → OfState l (OfSend p i (λ target value. r ≡ Send target)) → r ≡ Send t → OfState l (OfSend p i (λ target value. t ≡ target))
  unfolding OfSend
  target_out r t f q = of_state _ λ s rest h. λ e target value stands says. let z = holding _ f s rest h e target value stands says in cc

-- a control that is about to send is not about to do anything else
pub target_else : (l : List ℕ) (p i : ℕ) (r : Doing) → OfState l (OfSend p i (λ target value. r ≡ Send target)) → ((target : ℕ) → ¬ (r ≡ Send target)) → OfState l (OfSend p i (λ target value. 0 ≡ target))
unfolding OfSend
target_else l p i r f n = of_state _ λ s rest h. λ e target value stands says. absurd (n target (holding _ f s rest h e target value stands says))

-- ---- a part of a row, as much of it as there is

pub part_none : (row : List ℕ) (from to : ℕ) → to ≤ from → [] ≡ take (to - from) (drop from row)
part_none row from to h = let z : to - from ≡ 0 = omega arith in ap (λ (n : ℕ). take n (drop from row)) (sym z)

pub part_past : (row : List ℕ) (from to : ℕ) → length row ≤ from → [] ≡ take (to - from) (drop from row)
part_past row from to h =
    take_all 0 (drop from row) (omega (arith, length-drop from row)) ∙ sym (take_all (to - from) (drop from row) (omega (arith, length-drop from row)))

pub part_rest : (row : List ℕ) (from to : ℕ) → length row < to → take (length row - from) (drop from row) ≡ take (to - from) (drop from row)
part_rest row from to h =
    take_all (length row - from) (drop from row) (omega (arith, length-drop from row)) ∙ sym (take_all (to - from) (drop from row) (omega (arith, length-drop from row)))
