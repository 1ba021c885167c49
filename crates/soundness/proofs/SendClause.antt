-- The clause about sends: the table of targets is made exactly where every send's control is about to send to a live place, and holds their targets.
use Prim.Native.Nat.{ℕ, zero, suc, ◌+◌, ◌*◌, ◌≤◌, ◌<◌}
use mathlib.Core.Path.{◌≡◌, refl, sym, ◌∙◌, ap, subst}
use mathlib.Core.Logic.{◌⊎◌, inl, inr}
use mathlib.Core.Bool.{Bool, true, false, cond}
use mathlib.Core.Option.{Option, none, some}
use mathlib.Core.List.{List, [], ◌∷◌, map, reverse, reverse_aux}
use native.Mathlib.Decide.{ℕ_discrete}
use native.Mathlib.Nat.{suc-mul, zero-mul}
use native.Mathlib.Omega.{arith}
use lib.Dec.{eqb}
use lib.ListN.{length, drop, get_or, set, length-set, length-map}
use lib.Seq.{get_or-set_same, get_or-set_other}
use Rattle.lists.specs.Lists.{All}
use Rattle.lists.proofs.Tests.{true_or_false, none_not_some, some_injective, eqb-true, eqb-false, eqb_of, eqb_apart, cond_true, cond_false}
use Rattle.lists.proofs.Blocks.{length_chop}
use Rattle.machine.specs.Work.{Work, finished, stuck, to_seq, to_send, to_receive, to_spawn, to_self, to_check, work}
use Rattle.rules.specs.State.{Sizes, seq, Letter, letter, as_send, Entry}
use Rattle.rules.specs.Flight.{count_letter, sends, letter_or, sent}
use Rattle.store.specs.Layout.{kind_send, Slot}
use Rattle.store.proofs.Reading.{read_slot}
use Rattle.store.proofs.Restoring.{send_kind, read_send}
use Rattle.store.proofs.Histories.{sends_few}
use Rattle.store.proofs.SlotSends.{Sends}
use Rattle.slots.specs.SoundTests.{kind_word, control_in, and_then}
use Rattle.slots.specs.SendTests.{target_of, sent_to, sent_of, note_next, note_slots, entry_slots, note_from}
use Rattle.slots.specs.declared.sound_sends.Sent.{Sent}
use Rattle.slots.specs.declared.sound_sends.Sent.TheVariants.{No, To, Bad}
use Rattle.soundness.proofs.ArrivalClause.{target_word}
use Rattle.soundness.proofs.SlotsInUse.{IsFree}

module _ (sizes : Sizes) (module' : List ℕ) (live : List Bool) where
  -- a control that is about to send to a live place
  pub record SendFits (x : Slot) : Type 0 where
    pub target : ℕ
    pub value : List ℕ
    pub next : List ℕ
    pub works : work module' x.control ≡ to_send target value next
    pub lives : get_or live target false ≡ true

  -- if it is a send's
  abbrev pub FitsIf : Slot → Type 0
  FitsIf x = x.kind ≡ kind_send → SendFits x

  -- ---- one slot

  data Said (x : Slot) (s : Sent) : Type 0 where
    said_to : (f : SendFits x) → s ≡ To f.target → Said x s
    said_bad : s ≡ Bad → Said x s

  said : (x : Slot) (w : Work) → work module' x.control ≡ w → Said x (sent_to live (target_of w))
  unfolding target_of sent_to
  said x finished e = said_bad refl
  said x stuck e = said_bad refl
  said x (to_seq next) e = said_bad refl
  said x (to_send target value next) e = elim (true_or_false (get_or live target false)) [
    | inl t ↦ said_to (record { target = target; value = value; next = next; works = e; lives = t }) (cond_true _ _ t)
    | inr f ↦ said_bad (cond_false _ _ f)
  ]
  said x (to_receive takes) e = said_bad refl
  said x (to_spawn child next) e = said_bad refl
  said x (to_self next) e = said_bad refl
  said x (to_check number next) e = said_bad refl

  is_send : (w : List ℕ) → kind_word w ≡ kind_send → sent_of module' live w ≡ sent_to live (target_of (work module' (control_in w)))
  unfolding sent_of
  is_send w k = cond_true _ _ (eqb_of (kind_word w) kind_send k)

  is_none_lem : (w : List ℕ) → ¬ (kind_word w ≡ kind_send) → sent_of module' live w ≡ No
  unfolding sent_of
  is_none_lem w k = cond_false _ _ (eqb_apart (kind_word w) kind_send k)

  slot_said : (w : List ℕ) → kind_word w ≡ kind_send → Said (read_slot sizes w) (sent_of module' live w)
  unfolding read_slot
  slot_said w k = subst (Said (read_slot sizes w)) (sym (is_send w k)) (said (read_slot sizes w) (work module' (control_in w)) refl)

  slot_to : (w : List ℕ) → kind_word w ≡ kind_send → (f : SendFits (read_slot sizes w)) → sent_of module' live w ≡ To f.target
  unfolding read_slot target_of sent_to
  slot_to w k f = is_send w k ∙ ap (λ (x : Work). sent_to live (target_of x)) f.works ∙ cond_true _ _ f.lives

  -- ---- what entries are read of slots

  abbrev pub history : List Slot → List Entry
  history xs = map (read_send module') xs

  kind_none : (x : Slot) → ¬ (x.kind ≡ kind_send) → as_send (read_send module' x).kind ≡ none
  unfolding read_send as_send
  kind_none x k = ap as_send (cond_false (send_kind (work module' x.control)) seq (eqb_apart x.kind kind_send k))

  pub kind_send_lem : (x : Slot) → x.kind ≡ kind_send → (target : ℕ) (value next : List ℕ) → work module' x.control ≡ to_send target value next → as_send (read_send module' x).kind ≡ some (letter target value)
  unfolding read_send as_send send_kind
  kind_send_lem x k target value next e = ap as_send (cond_true (send_kind (work module' x.control)) seq (eqb_of x.kind kind_send k)) ∙ ap (λ (w : Work). as_send (send_kind w)) e

  fits_send : (x : Slot) → x.kind ≡ kind_send → (f : SendFits x) → as_send (read_send module' x).kind ≡ some (letter f.target f.value)
  fits_send x k f = kind_send_lem x k f.target f.value f.next f.works

  sends_none : (x : Slot) (acc : List Slot) → ¬ (x.kind ≡ kind_send) → sends (history (x ∷ acc)) ≡ sends (history acc)
  unfolding sends count_letter
  sends_none x acc k = ap (λ (o : Option Letter). count_letter o (sends (history acc))) (kind_none x k)

  sent_none : (x : Slot) (acc : List Slot) → ¬ (x.kind ≡ kind_send) → (j : ℕ) → sent (history (x ∷ acc)) j ≡ sent (history acc) j
  unfolding sent letter_or
  sent_none x acc k j = ap (λ (o : Option Letter). letter_or o (sends (history acc)) j (sent (history acc) j)) (kind_none x k)

  sends_one : (x : Slot) (acc : List Slot) → x.kind ≡ kind_send → SendFits x → sends (history (x ∷ acc)) ≡ suc (sends (history acc))
  unfolding sends count_letter
  sends_one x acc k f = ap (λ (o : Option Letter). count_letter o (sends (history acc))) (fits_send x k f)

  sent_one : (x : Slot) (acc : List Slot) → x.kind ≡ kind_send → (f : SendFits x) → (j : ℕ) → sent (history (x ∷ acc)) j ≡ cond (eqb (sends (history acc)) j) (some (letter f.target f.value)) (sent (history acc) j)
  unfolding sent letter_or
  sent_one x acc k f j = ap (λ (o : Option Letter). letter_or o (sends (history acc)) j (sent (history acc) j)) (fits_send x k f)

  pub free_sent : (free acc : List Slot) (j : ℕ) → All IsFree free → sent (history (reverse_aux free acc)) j ≡ sent (history acc) j
  unfolding All
  free_sent [] acc j a = refl
  free_sent (x ∷ free) acc j a = free_sent free (x ∷ acc) j a.1 ∙ sent_none x acc (λ k. let z = a.0 in omega arith) j

  -- ---- the row of a place

  module _ (base room : ℕ) where
    -- the row says what the entries so far sent; other words are as they were
    pub record Row (acc : List Slot) (before targets : List ℕ) : Type 0 where
      pub says : (j : ℕ) → j < room → get_or targets (base + j) 0 ≡ target_word (sent (history acc) j)
      pub others : (i : ℕ) → (i < base) ⊎ (base + room ≤ i) → get_or targets i 0 ≡ get_or before i 0
      pub same_length : length targets ≡ length before

    row_none : (x : Slot) (acc : List Slot) (before targets : List ℕ) → ¬ (x.kind ≡ kind_send) → Row acc before targets → Row (x ∷ acc) before targets
    row_none x acc before targets k r = record { says = λ j h. r.says j h ∙ ap target_word (sym (sent_none x acc k j)); others = r.others; same_length = r.same_length }

    row_one : (x : Slot) (acc : List Slot) (before targets : List ℕ) (at : ℕ) → x.kind ≡ kind_send → (f : SendFits x) → at ≡ base + sends (history acc) → sends (history acc) < room → base + room ≤ length before
        → Row acc before targets → Row (x ∷ acc) before (set targets at (f.target + 1))
    unfolding target_word
    row_one x acc before targets at k f e few long r = record {
      says = λ j h. says j h (ℕ_discrete (sends (history acc)) j);
      others = λ i o. get_or-set_other targets at i (f.target + 1) 0 (λ q. away i o q) ∙ r.others i o;
      same_length = length-set targets at (f.target + 1) ∙ r.same_length;
    }
      where
        away : (i : ℕ) → (i < base) ⊎ (base + room ≤ i) → i ≡ at → ⊥
        away i (inl o) q = omega arith
        away i (inr o) q = omega arith

        says : (j : ℕ) → j < room → Dec (sends (history acc) ≡ j) → get_or (set targets at (f.target + 1)) (base + j) 0 ≡ target_word (sent (history (x ∷ acc)) j)
        says j h (yes q) =
            let here : base + j ≡ at = omega arith in
            ap (λ (i : ℕ). get_or (set targets at (f.target + 1)) i 0) here
            ∙ get_or-set_same targets at (f.target + 1) 0 (omega (arith, r.same_length))
            ∙ (let one : f.target + 1 ≡ suc f.target = omega arith in one)
            ∙ sym (ap target_word (sent_one x acc k f j ∙ cond_true _ _ (eqb_of (sends (history acc)) j q)))
        says j h (no n) =
            get_or-set_other targets at (base + j) (f.target + 1) 0 (λ q. n (omega arith))
            ∙ r.says j h
            ∙ sym (ap target_word (sent_one x acc k f j ∙ cond_false _ _ (eqb_apart (sends (history acc)) j n)))

    pub record Noted (ws : List (List ℕ)) (acc : List Slot) (before out : List ℕ) : Type 0 where
      pub fit : All (λ w. FitsIf (read_slot sizes w)) ws
      pub row : Row (reverse_aux (map (read_slot sizes) ws) acc) before out

    abbrev step : Sent → List (List ℕ) → ℕ → List ℕ → Option (List ℕ)
    step s ws at targets = note_next s (note_slots module' live ws) at targets

    pub noted : (ws : List (List ℕ)) (acc : List Slot) (at : ℕ) (before targets out : List ℕ) → note_slots module' live ws at targets ≡ some out → at ≡ base + sends (history acc) → length acc + length ws ≤ room → base + room ≤ length before
        → Row acc before targets → Noted ws acc before out
    unfolding note_slots note_next All read_slot
    noted [] acc at before targets out e a few long r = record { fit = tt; row = subst (Row acc before) (some_injective e) r }
    noted (w ∷ ws) acc at before targets out e a few long r = elim (true_or_false (eqb (kind_word w) kind_send)) [
      | inr f ↦ (
          let k = eqb-false (kind_word w) kind_send f in
          let e' = ap (λ (s : Sent). step s ws at targets) (sym (is_none_lem w k)) ∙ e in
          let n = noted ws (read_slot sizes w ∷ acc) at before targets out e' (a ∙ ap (λ (m : ℕ). base + m) (sym (sends_none (read_slot sizes w) acc k))) (omega arith) long (row_none (read_slot sizes w) acc before targets k r) in
          record { fit = ((λ q. absurd (k q)), n.fit); row = n.row })
      | inl t ↦ (let k = eqb-true (kind_word w) kind_send t in elim (slot_said w k) [
        | said_bad q ↦ none_not_some (ap (λ (s : Sent). step s ws at targets) (sym q) ∙ e)
        | said_to g q ↦ (
            let e' = ap (λ (s : Sent). step s ws at targets) (sym q) ∙ e in
            let few' = sends_few (history acc) in
            let n = noted ws (read_slot sizes w ∷ acc) (at + 1) before (set targets at (g.target + 1)) out e' (omega (arith, a, sends_one (read_slot sizes w) acc k g)) (omega arith) long
            (row_one (read_slot sizes w) acc before targets at k g a (omega (arith, few', few, length-map acc (read_send module'))) long r) in
            record { fit = ((λ z. g), n.fit); row = n.row })
      ])
    ]

  pub notes : (ws : List (List ℕ)) (at : ℕ) (targets : List ℕ) → All (λ w. FitsIf (read_slot sizes w)) ws → (out : List ℕ) × (note_slots module' live ws at targets ≡ some out)
  unfolding note_slots note_next All read_slot
  notes [] at targets a = (targets, refl)
  notes (w ∷ ws) at targets a = elim (true_or_false (eqb (kind_word w) kind_send)) [
    | inr f ↦ (let n = notes ws at targets a.1 in (n.0, ap (λ (s : Sent). note_next s (note_slots module' live ws) at targets) (is_none_lem w (eqb-false (kind_word w) kind_send f)) ∙ n.1))
    | inl t ↦ (
        let k = eqb-true (kind_word w) kind_send t in
        let g = a.0 k in
        let n = notes ws (at + 1) (set targets at (g.target + 1)) a.1 in
        (n.0, ap (λ (s : Sent). note_next s (note_slots module' live ws) at targets) (slot_to w k g) ∙ n.1))
  ]

  -- ---- the rows of all places

  then_some : (o : Option (List ℕ)) (f : List ℕ → Option (List ℕ)) (out : List ℕ) → and_then o f ≡ some out → (mid : List ℕ) × (o ≡ some mid) × (f mid ≡ some out)
  unfolding and_then
  then_some none f out e = none_not_some e
  then_some (some mid) f out e = (mid, refl, e)

  module _ (size count : ℕ) where
    abbrev entries : List ℕ → List (List ℕ)
    entries b = entry_slots size count b

    pub record NotedAll (bs : List (List ℕ)) (at : ℕ) (before out : List ℕ) : Type 0 where
      pub fits : All (λ b. All (λ w. FitsIf (read_slot sizes w)) (entry_slots size count b)) bs
      pub says : (p k : ℕ) → p < length bs → k < count → get_or out (at + (p * count + k)) 0 ≡ target_word (sent (history (reverse (map (read_slot sizes) (entry_slots size count (get_or bs p []))))) k)
      pub kept : (i : ℕ) → i < at → get_or out i 0 ≡ get_or before i 0
      pub same_length : length out ≡ length before

    nothing_yet : (at : ℕ) (targets : List ℕ) → ((i : ℕ) → at ≤ i → get_or targets i 0 ≡ 0) → Row at count [] targets targets
    unfolding target_word sent
    nothing_yet at targets zeros = record { says = λ j h. zeros (at + j) (omega arith); others = λ i o. refl; same_length = refl }

    pub noted_all : (bs : List (List ℕ)) (at : ℕ) (targets out : List ℕ) → note_from module' live size count at bs targets ≡ some out → at + length bs * count ≤ length targets → ((i : ℕ) → at ≤ i → get_or targets i 0 ≡ 0) → NotedAll bs at targets out
    unfolding note_from All sends
    noted_all [] at targets out e long zeros = record {
      fits = tt;
      says = λ p k h g. absurd (omega arith);
      kept = λ i h. ap (λ (l : List ℕ). get_or l i 0) (sym (some_injective e));
      same_length = ap length (sym (some_injective e));
    }
    noted_all (b ∷ bs) at targets out e long zeros =
        let t = then_some (note_slots module' live (entries b) at targets) (note_from module' live size count (at + count) bs) out e in
        let mid = t.0 in
        let more = suc-mul (length bs) count in
        let n = noted at count (entries b) [] at targets targets mid t.1 (omega arith) (omega (arith, length_chop count size (drop size b))) (omega arith) (nothing_yet at targets zeros) in
        let m = noted_all bs (at + count) mid out t.2 (omega (arith, n.row.same_length)) (λ i h. n.row.others i (inr h) ∙ zeros i (omega arith)) in
        record {
          fits = (n.fit, m.fits);
          says = says mid n m;
          kept = λ i h. m.kept i (omega arith) ∙ n.row.others i (inl h);
          same_length = m.same_length ∙ n.row.same_length;
        }
      where
        says : (mid : List ℕ) → Noted at count (entries b) [] targets mid → NotedAll bs (at + count) mid out
            → (p k : ℕ) → p < length (b ∷ bs) → k < count → get_or out (at + (p * count + k)) 0 ≡ target_word (sent (history (reverse (map (read_slot sizes) (entries (get_or (b ∷ bs) p []))))) k)
        says mid n m zero k h g =
            let here : at + (0 * count + k) ≡ at + k = omega (arith, zero-mul count) in
            ap (λ (i : ℕ). get_or out i 0) here ∙ m.kept (at + k) (omega arith) ∙ n.row.says k g
        says mid n m (suc p) k h g =
            let further : at + (suc p * count + k) ≡ at + count + (p * count + k) = omega (arith, suc-mul p count) in
            ap (λ (i : ℕ). get_or out i 0) further ∙ m.says p k (omega arith) g

    pub notes_all : (bs : List (List ℕ)) (at : ℕ) (targets : List ℕ) → All (λ b. All (λ w. FitsIf (read_slot sizes w)) (entry_slots size count b)) bs → (out : List ℕ) × (note_from module' live size count at bs targets ≡ some out)
    unfolding note_from All and_then
    notes_all [] at targets a = (targets, refl)
    notes_all (b ∷ bs) at targets a =
        let n = notes (entries b) at targets a.0 in
        let m = notes_all bs (at + count) n.0 a.1 in
        (m.0, ap (λ (o : Option (List ℕ)). and_then o (note_from module' live size count (at + count) bs)) n.1 ∙ m.1)

  -- ---- what was sent, and that it was sent to live places

  module _ (Lives : Letter → Type 0) where
    pub send_lives : ((target : ℕ) (value : List ℕ) → get_or live target false ≡ true → Lives (letter target value)) → (x : Slot) → FitsIf x → Sends (read_send module') Lives x
    send_lives so x f l e = elim (true_or_false (eqb x.kind kind_send)) [
      | inl t ↦ (
          let k = eqb-true x.kind kind_send t in
          let g = f k in
          subst Lives (some_injective (sym (fits_send x k g) ∙ e)) (so g.target g.value g.lives))
      | inr n ↦ none_not_some (sym (kind_none x (eqb-false x.kind kind_send n)) ∙ e)
    ]
