-- The whole test: what its functions answer, put together from the answers of its parts.
use Prim.Native.Nat.{ℕ, ◌≤◌, ◌<◌}
use mathlib.Core.Path.{◌≡◌, sym, ◌∙◌, ap, subst}
use mathlib.Core.Logic.{inl, inr}
use mathlib.Core.Bool.{Bool, true, false, not, ◌&&◌}
use mathlib.Core.Option.{none, some}
use mathlib.Core.List.{List}
use native.Mathlib.Omega.{arith}
use lib.Dec.{eqb}
use lib.ListN.{take, get_or, replicate}
use Rattle.lists.specs.Lists.{All}
use Rattle.lists.specs.Decides.{Decides}
use Rattle.lists.proofs.All.{all_so, all_both, all_any}
use Rattle.lists.proofs.Decides.{no_to, refuted, by}
use Rattle.lists.proofs.Tests.{eqb-true, eqb-false, eqb_of, eqb_apart, ltb-true, true_or_false, true_not_false, none_not_some, some_injective, and_left, and_right, cond_true, cond_false, not_true, not_false}
use Rattle.term.specs.Module.{check_module}
use Rattle.term.specs.Control.{good_control, module_arities}
use Rattle.store.specs.Layout.{kind_free, kind_rec}
use Rattle.slots.specs.SoundTests.{control_in, ControlBlock, entry_slot, present_slot, control_passes, entry_passes, entries_pass, place_passes, every_of, answered, Births}
use Rattle.soundness.specs.MessageTests.{TakenBlock, arrive_from, place_flows}
use Rattle.slots.specs.SendTests.{entry_slots, note_from, NotesPlaces}
use Rattle.soundness.specs.StoreTests.{WholeBlock, live_in, MessagesPass, MessagesTested, SlotsTested}
use Rattle.slots.proofs.SoundTestShape.{entry_rec}
use Rattle.slots.proofs.SoundTestRun.{every_decided}
use Rattle.slots.proofs.SendTest.{BlockReady}
use Rattle.step.proofs.Ready.{control_ready}

-- ---- what passed

pub every_all : {B : Type 0} (f : B → Bool) (bs : List B) → every_of f bs ≡ true → All (λ b. f b ≡ true) bs
every_all f bs e = (every_decided (λ b. f b ≡ true) f bs (all_any (λ b. record { sound = λ x. x; complete = λ x. x }) bs)).sound e

pub all_every : {B : Type 0} (f : B → Bool) (bs : List B) → All (λ b. f b ≡ true) bs → every_of f bs ≡ true
all_every f bs e = (every_decided (λ b. f b ≡ true) f bs (all_any (λ b. record { sound = λ x. x; complete = λ x. x }) bs)).complete e

module _ (places : ℕ) (arities w : List ℕ) where
  pub free_passes : get_or w 0 0 ≡ kind_free → entry_passes places arities w ≡ true
  unfolding entry_passes
  free_passes k = cond_true _ _ (eqb_of (get_or w 0 0) kind_free k)

  module _ (e : entry_passes places arities w ≡ true) (n : ¬ (get_or w 0 0 ≡ kind_free)) where
    both : (entry_slot w && control_passes places arities w) ≡ true
    unfolding entry_passes
    both = sym (cond_false _ _ (eqb_apart (get_or w 0 0) kind_free n)) ∙ e

    pub used_shape : entry_slot w ≡ true
    used_shape = and_left (entry_slot w) (control_passes places arities w) both

    pub used_control : good_control places arities (control_in w) ≡ true
    unfolding control_passes
    used_control = and_right (entry_slot w) (control_passes places arities w) both

  pub taken_below : entry_passes places arities w ≡ true → get_or w 0 0 ≡ kind_rec → get_or w 2 0 < get_or w 4 0
  taken_below e k = ltb-true (get_or w 2 0) (get_or w 4 0) (entry_rec w k ∙ used_shape e (λ z. omega arith))

module _ (size count places : ℕ) (arities b : List ℕ) (e : place_passes size count places arities b ≡ true) (n : ¬ (get_or b 0 0 ≡ kind_free)) where
  passed : (present_slot (take size b) && (control_passes places arities (take size b) && entries_pass size count places arities b)) ≡ true
  unfolding place_passes
  passed = sym (cond_false _ _ (eqb_apart (get_or b 0 0) kind_free n)) ∙ e

  pub present_passed : present_slot (take size b) ≡ true
  present_passed = and_left (present_slot (take size b)) (control_passes places arities (take size b) && entries_pass size count places arities b) passed

  later : (control_passes places arities (take size b) && entries_pass size count places arities b) ≡ true
  later = and_right (present_slot (take size b)) (control_passes places arities (take size b) && entries_pass size count places arities b) passed

  pub control_passed : good_control places arities (control_in (take size b)) ≡ true
  unfolding control_passes
  control_passed = and_left (control_passes places arities (take size b)) (entries_pass size count places arities b) later

  pub entries_passed : All (λ w. entry_passes places arities w ≡ true) (entry_slots size count b)
  unfolding entries_pass
  entries_passed = every_all (entry_passes places arities) (entry_slots size count b) (and_right (control_passes places arities (take size b)) (entries_pass size count places arities b) later)

-- ---- what the later tests need of blocks that passed

module _ (words size count places : ℕ) (arities b : List ℕ) (x : WholeBlock words size count b) (e : place_passes size count places arities b ≡ true) where
  entries_pass_lem : All (λ w. entry_passes places arities w ≡ true) (entry_slots size count b)
  entries_pass_lem = elim (true_or_false (eqb (get_or b 0 0) kind_free)) [
    | inl t ↦ all_so (λ w k. free_passes places arities w k) (entry_slots size count b) (x.free (eqb-true (get_or b 0 0) kind_free t))
    | inr f ↦ entries_passed size count places arities b e (eqb-false (get_or b 0 0) kind_free f)
  ]

  pub block_taken : TakenBlock words size count b
  block_taken = record { block = x.names; taken = all_both (λ w fits p. record { names_fit = fits; taken_fits = taken_below places arities w p }) (entry_slots size count b) x.names.slots.names_fit entries_pass_lem }

  pub block_ready : (module' : List ℕ) → check_module module' ≡ none → places ≤ 65536 → arities ≡ module_arities module' → BlockReady module' size count b
  block_ready module' good few same =
      all_so (λ w p. λ k. control_ready module' (control_in w) places good few (subst (λ (a : List ℕ). good_control places a (control_in w) ≡ true) same (used_control places arities w p (λ z. omega arith)))) (entry_slots size count b) entries_pass_lem

module _ (words size count places : ℕ) (arities : List ℕ) (blocks : List (List ℕ)) (x : All (WholeBlock words size count) blocks) (r : Bool) (e : r ≡ every_of (place_passes size count places arities) blocks) (t : r ≡ true) where
  pub blocks_taken : All (TakenBlock words size count) blocks
  blocks_taken = all_both (λ b w p. block_taken words size count places arities b w p) blocks x (every_all (place_passes size count places arities) blocks (sym e ∙ t))

  pub blocks_ready : (module' : List ℕ) → check_module module' ≡ none → places ≤ 65536 → arities ≡ module_arities module' → All (BlockReady module' size count) blocks
  blocks_ready module' good few same = all_both (λ b w p. block_ready words size count places arities b w p module' good few same) blocks x (every_all (place_passes size count places arities) blocks (sym e ∙ t))

pub whole_controls : (words size count : ℕ) (blocks : List (List ℕ)) → All (WholeBlock words size count) blocks → All (ControlBlock size count) blocks
whole_controls words size count blocks x = all_so (λ b w. w.controls) blocks x

-- ---- messages

module _ (live : List Bool) (places entries words size : ℕ) (blocks : List (List ℕ)) (after : List ℕ) (r : Bool) (n : NotesPlaces live size entries blocks (replicate 1024 0) after r) where
  pub messages_refused : not r ≡ true → MessagesTested live places entries words size blocks false
  unfolding answered
  messages_refused f = record { decided = λ module' ready. no_to (λ m. none_not_some (ap (λ (b : Bool). answered b after) (sym (not_true r f)) ∙ n.same module' ready ∙ m.noted)) }

  module _ (t : not r ≡ false) (last : List ℕ) (q : Bool) (a : answered q last ≡ arrive_from words size entries places entries 0 blocks after) where
    noted_as : (module' : List ℕ) → All (BlockReady module' size entries) blocks → note_from module' live size entries 0 blocks (replicate 1024 0) ≡ some after
    unfolding answered
    noted_as module' ready = sym (n.same module' ready) ∙ ap (λ (b : Bool). answered b after) (not_false r t)

    came_as : (module' : List ℕ) → All (BlockReady module' size entries) blocks → (m : MessagesPass module' live places entries words size blocks) → answered q last ≡ some m.left
    came_as module' ready m = a ∙ ap (arrive_from words size entries places entries 0 blocks) (some_injective (sym (noted_as module' ready) ∙ m.noted)) ∙ m.came

    pub messages_lost : not q ≡ true → MessagesTested live places entries words size blocks false
    unfolding answered
    messages_lost f = record { decided = λ module' ready. no_to (λ m. none_not_some (ap (λ (b : Bool). answered b last) (sym (not_true q f)) ∙ came_as module' ready m)) }

    pub messages_flow : not q ≡ false → (f : Bool) → f ≡ every_of (place_flows words size entries) blocks → MessagesTested live places entries words size blocks f
    unfolding answered
    messages_flow e f s = record {
      decided = λ module' ready. record {
        sound = λ g. record { targets = after; noted = noted_as module' ready; left = last; came = sym a ∙ ap (λ (b : Bool). answered b last) (not_false q e); flow = sym s ∙ g };
        complete = λ m. s ∙ m.flow;
      };
    }

-- ---- slots

module _ (places entries words size : ℕ) (arities : List ℕ) (blocks : List (List ℕ)) (r : Bool) (e : r ≡ every_of (place_passes size entries places arities) blocks) where
  shapes : (module' : List ℕ) → arities ≡ module_arities module' → every_of (place_passes size entries places (module_arities module')) blocks ≡ r
  shapes module' same = ap (λ (a : List ℕ). every_of (place_passes size entries places a) blocks) (sym same) ∙ sym e

  pub slots_shapeless : not r ≡ true → SlotsTested places entries words size arities blocks false
  slots_shapeless f = record { decided = λ module' good same. no_to (λ x. true_not_false (sym (shapes module' same) ∙ x.shapes_pass) (not_true r f)) }

  module _ (t : not r ≡ false) (live : List Bool) (l : live ≡ live_in blocks) where
    pub slots_no_first : not (get_or live 0 false) ≡ true → SlotsTested places entries words size arities blocks false
    slots_no_first f = record { decided = λ module' good same. no_to (λ x. true_not_false (ap (λ (v : List Bool). get_or v 0 false) l ∙ x.first_live) (not_true (get_or live 0 false) f)) }

    pub slots_unborn : (b : Bool) → Decides (Births size entries live blocks) b → not b ≡ true → SlotsTested places entries words size arities blocks false
    slots_unborn b d f = record { decided = λ module' good same. no_to (λ x. refuted d (not_true b f) (subst (λ (v : List Bool). Births size entries v blocks) (sym l) x.births_pass)) }

    pub slots_messages : not (get_or live 0 false) ≡ false → (b : Bool) → Decides (Births size entries live blocks) b → not b ≡ false → All (WholeBlock words size entries) blocks → places ≤ 16
        → (m : Bool) → MessagesTested live places entries words size blocks m → SlotsTested places entries words size arities blocks m
    slots_messages f b d g whole few m y = record {
      decided = λ module' good same.
          by (λ x. record {
            shapes_pass = shapes module' same ∙ not_false r t;
            first_live = ap (λ (v : List Bool). get_or v 0 false) (sym l) ∙ not_false (get_or live 0 false) f;
            births_pass = subst (λ (v : List Bool). Births size entries v blocks) l (d.sound (not_false b g));
            messages_pass = subst (λ (v : List Bool). MessagesPass module' v places entries words size blocks) l x;
          }) (λ x. subst (λ (v : List Bool). MessagesPass module' v places entries words size blocks) (sym l) x.messages_pass)
          (y.decided module' (blocks_ready words size entries places arities blocks whole r e (not_false r t) module' good (omega arith) same));
    }
