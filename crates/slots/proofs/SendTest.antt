-- The table of targets: what the code answers for a slot, for the slots of a place and for all places.
use Prim.Native.Nat.{ℕ, ◌+◌, ◌-◌, ◌≤◌, ◌<◌}
use mathlib.Core.Path.{◌≡◌, refl, sym, ◌∙◌, ap, subst}
use mathlib.Core.Bool.{Bool, true, false, cond}
use mathlib.Core.Option.{Option, none, some}
use mathlib.Core.List.{List, [], ◌∷◌}
use native.Mathlib.Omega.{arith}
use lib.ListN.{length, take, drop, get_or, set, get_or-eq_default}
use Rattle.lists.specs.Lists.{All}
use Rattle.lists.proofs.Tests.{eqb_of, eqb_apart, cond_true, cond_false}
use Rattle.term.specs.Read.{term_of}
use Rattle.machine.specs.Work.{Work, finished, stuck, to_seq, to_send, to_receive, to_spawn, to_self, to_check, work}
use Rattle.step.specs.Controls.{doing_of, DoingOf}
use Rattle.step.specs.declared.work.Doing.{Doing}
use Rattle.step.specs.declared.work.Doing.TheVariants.{Finished, Stuck, Seq, Send, Receive, Spawn, Own, Check}
use Rattle.store.specs.Layout.{slot_head, kind_send}
use Rattle.slots.specs.SoundTests.{control_in, answered, and_then}
use Rattle.slots.specs.SendTests.{target_of, sent_to, sent_of, SendReady, SentIs, note_next, note_slots, entry_slots, note_from, NotesPlace, NotesPlaces}
use Rattle.slots.specs.declared.sound_sends.Sent.{Sent}
use Rattle.slots.specs.declared.sound_sends.Sent.TheVariants.{No, To, Bad}
use Rattle.lists.proofs.All.{all_head, all_tail}

-- ---- one slot

-- the target of a step by its kind
target_in : Doing → Option ℕ
target_in Finished = none
target_in Stuck = none
target_in Seq = none
target_in (Send target) = some target
target_in Receive = none
target_in Spawn = none
target_in Own = none
target_in (Check number) = none

target_same : (w : Work) → target_in (doing_of w) ≡ target_of w
unfolding target_in doing_of target_of
target_same finished = refl
target_same stuck = refl
target_same (to_seq next) = refl
target_same (to_send target value next) = refl
target_same (to_receive takes) = refl
target_same (to_spawn child next) = refl
target_same (to_self next) = refl
target_same (to_check number next) = refl

-- a step that is no send has no target
no_target : (d : Doing) → ((target : ℕ) → ¬ (d ≡ Send target)) → target_in d ≡ none
unfolding target_in
no_target Finished o = refl
no_target Stuck o = refl
no_target Seq o = refl
no_target (Send target) o = absurd (o target refl)
no_target Receive o = refl
no_target Spawn o = refl
no_target Own o = refl
no_target (Check number) o = refl

module _ (live : List Bool) (w : List ℕ) where
  no_small : (r : Sent) → r ≡ No → (target : ℕ) → r ≡ To target → target < length live
  no_small r e target q = let z : ◌≡◌ {A = ℕ} 0 1 = cc in absurd (omega arith)

  bad_small : (r : Sent) → r ≡ Bad → (target : ℕ) → r ≡ To target → target < length live
  bad_small r e target q = let z : ◌≡◌ {A = ℕ} 0 1 = cc in absurd (omega arith)

  pub sent_none : ¬ (get_or w 0 0 ≡ kind_send) → SentIs live w No
  unfolding sent_of
  sent_none n = record { same = λ module' ready. sym (cond_false _ _ (eqb_apart (get_or w 0 0) kind_send n)); small = no_small No refl }

  module _ (k : get_or w 0 0 ≡ kind_send) (d : Doing) (does : DoingOf (take (slot_head + get_or w 1 0 - slot_head) (drop slot_head w)) d) where
    lent : take (slot_head + get_or w 1 0 - slot_head) (drop slot_head w) ≡ control_in w
    lent = let one : slot_head + get_or w 1 0 - slot_head ≡ get_or w 1 0 = omega arith in ap (λ (n : ℕ). take n (drop slot_head w)) one

    -- what is sent, by the step
    sent_is : (module' : List ℕ) → SendReady module' w → sent_of module' live w ≡ sent_to live (target_in d)
    unfolding sent_of DoingOf
    sent_is module' ready =
        cond_true _ _ (eqb_of (get_or w 0 0) kind_send k)
        ∙ ap (sent_to live) (sym (target_same (work module' (control_in w))))
        ∙ ap (λ (x : Doing). sent_to live (target_in x)) (sym (subst (λ (c : List ℕ). DoingOf c d) lent does module' (term_of (control_in w)) (ready k)))

    pub sent_other : ((target : ℕ) → ¬ (d ≡ Send target)) → SentIs live w Bad
    unfolding sent_to
    sent_other o = record { same = λ module' ready. sym (sent_is module' ready ∙ ap (sent_to live) (no_target d o)); small = bad_small Bad refl }

    module _ (target : ℕ) (e : d ≡ Send target) where
      aimed : (module' : List ℕ) → SendReady module' w → sent_of module' live w ≡ cond (get_or live target false) (To target) Bad
      unfolding target_in sent_to
      aimed module' ready = sent_is module' ready ∙ ap (λ (x : Doing). sent_to live (target_in x)) e

      pub sent_outside : length live ≤ target → SentIs live w Bad
      sent_outside h = record { same = λ module' ready. sym (aimed module' ready ∙ cond_false _ _ (get_or-eq_default live false h)); small = bad_small Bad refl }

      pub sent_dead : get_or live target false ≡ false → SentIs live w Bad
      sent_dead f = record { same = λ module' ready. sym (aimed module' ready ∙ cond_false _ _ f); small = bad_small Bad refl }

      pub sent_live : target < length live → get_or live target false ≡ true → SentIs live w (To target)
      sent_live h t = record { same = λ module' ready. sym (aimed module' ready ∙ cond_true _ _ t); small = λ other q. let same : target ≡ other = cc in omega arith }

-- ---- the slots of a place

-- what is noted and what is left to note make the whole
pub record Noting (live : List Bool) (all : List (List ℕ)) (at : ℕ) (targets₀ : List ℕ) (k : ℕ) (targets : List ℕ) (slots : List (List ℕ)) : Type 0 where
  pub ready : (module' : List ℕ) → All (SendReady module') all → All (SendReady module') slots
  pub same : (module' : List ℕ) → All (SendReady module') all → note_slots module' live all at targets₀ ≡ note_slots module' live slots k targets

module _ (live : List Bool) (all : List (List ℕ)) (at : ℕ) (targets₀ : List ℕ) where
  pub noting_start : Noting live all at targets₀ at targets₀ all
  noting_start = record { ready = λ module' r. r; same = λ module' r. refl }

  module _ (k : ℕ) (targets : List ℕ) where
    module _ (w : List ℕ) (ws : List (List ℕ)) (n : Noting live all at targets₀ k targets (w ∷ ws)) (r : Sent) (x : SentIs live w r) where
      others : (module' : List ℕ) → All (SendReady module') all → All (SendReady module') ws
      others module' ready = all_tail (SendReady module') w ws (n.ready module' ready)

      first : (module' : List ℕ) → All (SendReady module') all → note_slots module' live all at targets₀ ≡ note_next r (note_slots module' live ws) k targets
      unfolding note_slots
      first module' ready =
          n.same module' ready
          ∙ ap (λ (s : Sent). note_next s (note_slots module' live ws) k targets) (sym (x.same module' (all_head (SendReady module') w ws (n.ready module' ready))))

      pub noting_none : r ≡ No → Noting live all at targets₀ k targets ws
      unfolding note_next
      noting_none e = record { ready = others; same = λ module' ready. first module' ready ∙ ap (λ (s : Sent). note_next s (note_slots module' live ws) k targets) e }

      pub noting_one : (target : ℕ) → r ≡ To target → Noting live all at targets₀ (k + 1) (set targets k (target + 1)) ws
      unfolding note_next
      noting_one target e = record { ready = others; same = λ module' ready. first module' ready ∙ ap (λ (s : Sent). note_next s (note_slots module' live ws) k targets) e }

      pub noting_bad : (module' : List ℕ) → All (SendReady module') all → r ≡ Bad → none ≡ note_slots module' live all at targets₀
      unfolding note_next
      noting_bad module' ready e = sym (first module' ready ∙ ap (λ (s : Sent). note_next s (note_slots module' live ws) k targets) e)

    pub noting_done : Noting live all at targets₀ k targets [] → (module' : List ℕ) → All (SendReady module') all → some targets ≡ note_slots module' live all at targets₀
    unfolding note_slots
    noting_done n module' ready = sym (n.same module' ready)

-- ---- all places

-- the sends of a block have controls of the module
abbrev pub BlockReady : List ℕ → ℕ → ℕ → List ℕ → Type 0
BlockReady module' size count b = All (SendReady module') (entry_slots size count b)

pub record NotingFrom (live : List Bool) (size count : ℕ) (all : List (List ℕ)) (targets₀ : List ℕ) (at : ℕ) (targets : List ℕ) (blocks : List (List ℕ)) : Type 0 where
  pub ready : (module' : List ℕ) → All (BlockReady module' size count) all → All (BlockReady module' size count) blocks
  pub same : (module' : List ℕ) → All (BlockReady module' size count) all → note_from module' live size count 0 all targets₀ ≡ note_from module' live size count at blocks targets

module _ (live : List Bool) (size count : ℕ) (all : List (List ℕ)) (targets₀ : List ℕ) where
  pub from_start : NotingFrom live size count all targets₀ 0 targets₀ all
  from_start = record { ready = λ module' r. r; same = λ module' r. refl }

  module _ (at : ℕ) (targets : List ℕ) where
    module _ (b : List ℕ) (bs : List (List ℕ)) (n : NotingFrom live size count all targets₀ at targets (b ∷ bs)) (r : Bool) (after : List ℕ) (x : NotesPlace live size count at b targets after r) where
      here : (module' : List ℕ) → All (BlockReady module' size count) all
          → note_from module' live size count 0 all targets₀ ≡ and_then (answered r after) (note_from module' live size count (at + count) bs)
      unfolding note_from
      here module' ready =
          n.same module' ready
          ∙ ap (λ (o : Option (List ℕ)). and_then o (note_from module' live size count (at + count) bs)) (sym (x.same module' (all_head (BlockReady module' size count) b bs (n.ready module' ready))))

      pub from_next : r ≡ true → NotingFrom live size count all targets₀ (at + count) after bs
      unfolding and_then answered
      from_next e = record {
        ready = λ module' ready. all_tail (BlockReady module' size count) b bs (n.ready module' ready);
        same = λ module' ready. here module' ready ∙ ap (λ (b : Bool). and_then (answered b after) (note_from module' live size count (at + count) bs)) e;
      }

      pub from_bad : (last : List ℕ) → r ≡ false → NotesPlaces live size count all targets₀ last false
      unfolding and_then answered
      from_bad last e = record { same = λ module' ready. sym (here module' ready ∙ ap (λ (b : Bool). and_then (answered b after) (note_from module' live size count (at + count) bs)) e) }

    pub from_done : NotingFrom live size count all targets₀ at targets [] → NotesPlaces live size count all targets₀ targets true
    unfolding note_from answered
    from_done n = record { same = λ module' ready. sym (n.same module' ready) }
