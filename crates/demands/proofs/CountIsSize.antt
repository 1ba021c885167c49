-- The count of accepted undos is the size of the set that they remove.
use Prim.Native.Nat.{ℕ, ◌<◌, ◌≤◌}
use mathlib.Core.Path.{◌≡◌, refl, sym, ◌∙◌, ap, subst}
use mathlib.Core.Logic.{◌⊎◌, inl, inr, ◌↔◌}
use mathlib.Core.Bool.{true, not}
use mathlib.Core.Option.{some}
use native.Mathlib.Omega.{arith}
use Rattle.lists.specs.Lists.{up_to}
use Rattle.lists.specs.Members.{In, NoneTwice}
use Rattle.lists.proofs.Tests.{ltb_false, ltb_over, not_true}
use Rattle.lists.proofs.Members.{in_kept, kept_passes}
use Rattle.rules.specs.Answers.{done}
use Rattle.rules.specs.State.{State, history_at}
use Rattle.rules.specs.Sound.{Sound}
use Rattle.rules.specs.Depends.{Series, entries_of, deliveries_to, Event, event, level, happened, WithDependents}
use Rattle.rules.specs.Rollback.{newest_check, Removes, Rollback, is_done, is_held, no_check, no_process_lem, Cut, events_on, events_at, events, stays, taken_off}
use Rattle.demands.specs.Size.{HasSize}
use Rattle.demands.specs.CountIsSize.{CountIsSize}
use Rattle.demands.proofs.Event.{low}
use Rattle.demands.proofs.Removal.{back_under, counted, in_level, level_in, over_level, level_over, removes_run}
use Rattle.demands.proofs.Cut.{in_events, count_off}
use Rattle.demands.proofs.Once.{append_in, once_append, kept_in, once_kept, map_in, once_map, up_to_in, once_up_to, joined_in, once_joined}

event_line : {x y : Series} {i j : ℕ} → event x i ≡ event y j → x ≡ y
event_line e = cc

event_number : {x y : Series} {i j : ℕ} → event x i ≡ event y j → i ≡ j
event_number e = cc

entry_place : {p q : ℕ} → entries_of p ≡ entries_of q → p ≡ q
entry_place e = cc

delivery_place : {p q : ℕ} → deliveries_to p ≡ deliveries_to q → p ≡ q
delivery_place e = cc

lines_apart : {p q : ℕ} {B : Type 0} → entries_of p ≡ deliveries_to q → B
lines_apart e = let z : ◌≡◌ {A = ℕ} 0 1 = cc in absurd (omega arith)

-- ---- the events of a state, each once
module _ (s : State) where
  on_line_lem : {y x : Series} {i : ℕ} → In (event x i) (events_on s y) → (x ≡ y) × (i < level s y)
  unfolding events_on
  on_line_lem {y} a = let (j, b, e) = map_in (event y) (up_to (level s y)) a in (event_line e, subst (λ i. i < level s y) (sym (event_number e)) (up_to_in (level s y) b))

  line_once : (x : Series) → NoneTwice (events_on s x)
  unfolding events_on
  line_once x = once_map (event x) (λ i j e. event_number e) (up_to (level s x)) (once_up_to (level s x))

  at_place : {p : ℕ} {x : Series} {i : ℕ} → In (event x i) (events_at s p) → ((x ≡ entries_of p) ⊎ (x ≡ deliveries_to p)) × (i < level s x)
  unfolding events_at
  at_place {p} {x} {i} a = elim (append_in (events_on s (entries_of p)) a) [
    | inl b ↦ (let (e, h) = on_line_lem b in (inl e, subst (λ y. i < level s y) (sym e) h))
    | inr b ↦ (let (e, h) = on_line_lem b in (inr e, subst (λ y. i < level s y) (sym e) h))
  ]

  place_once : (p : ℕ) → NoneTwice (events_at s p)
  unfolding events_at
  place_once p = once_append (events_on s (entries_of p)) (events_on s (deliveries_to p)) (line_once (entries_of p)) (line_once (deliveries_to p)) apart
    where
      apart : (e : Event) → In e (events_on s (entries_of p)) → In e (events_on s (deliveries_to p)) → ⊥
      apart (event x i) a b = lines_apart (sym (on_line_lem a).0 ∙ (on_line_lem b).0)

  one_place : (p q : ℕ) (e : Event) → In e (events_at s p) → In e (events_at s q) → p ≡ q
  one_place p q (event x i) a b = same (at_place a).0 (at_place b).0
    where
      same : (x ≡ entries_of p) ⊎ (x ≡ deliveries_to p) → (x ≡ entries_of q) ⊎ (x ≡ deliveries_to q) → p ≡ q
      same (inl e) (inl f) = entry_place (sym e ∙ f)
      same (inl e) (inr f) = lines_apart (sym e ∙ f)
      same (inr e) (inl f) = lines_apart (sym f ∙ e)
      same (inr e) (inr f) = delivery_place (sym e ∙ f)

  events_once : NoneTwice (events s)
  unfolding events
  events_once = once_joined (events_at s) place_once one_place s.sizes.places

  has_happened : {x : Series} {i : ℕ} → In (event x i) (events s) → i < level s x
  unfolding events
  has_happened a = let (p, h, b) = joined_in (events_at s) s.sizes.places a in (at_place b).1

-- ---- what a cut takes off
module _ {s : State} (sound : Sound s) (k : Cut) where
  off_once : NoneTwice (taken_off s k)
  unfolding taken_off
  off_once = once_kept (λ e. not (stays k e)) (events s) (events_once s)

  off_is : (x : Series) (i : ℕ) → In (event x i) (taken_off s k) ↔ ((i < level s x) × (k x ≤ i))
  unfolding taken_off stays
  off_is x i = (
    λ a. (
      has_happened s (kept_in (λ e. not (stays k e)) (events s) a),
      ltb_false i (k x) (not_true _ (kept_passes (λ e. not (stays k e)) (events s) a)),
    ),
    λ (h, g). in_kept (λ e. not (stays k e)) (events s) (in_events sound x h) (ap not (ltb_over i (k x) g)),
  )

module _ {s end : State} {set : Event → Type 0} {n : ℕ} (sound : Sound s) (r : Removes s end set n) where
  below : (x : Series) → level end x ≤ level s x
  below = low (back_under sound (removes_run sound r))

  set_size : HasSize s set n
  set_size = record {
    members = taken_off s (level end);
    each_once = off_once sound (level end);
    exactly = exactly;
    size = omega (arith, counted sound (removes_run sound r), count_off s (level end) below);
  }
    where
      exactly : (e : Event) → In e (taken_off s (level end)) ↔ ((happened s e ≡ true) × set e)
      exactly (event x i) = (
        λ a. let (h, g) = (off_is sound (level end) x i).0 a in (level_in s x h, (r.exactly (event x i) (level_in s x h)).0 (level_over end x g)),
        λ (h, inside). (off_is sound (level end) x i).1 (in_level s x h, over_level end x ((r.exactly (event x i) h).1 inside)),
      )

rollback_size : {s end : State} {p t a n : ℕ} → a ≡ done → Sound s → Rollback s p t a n end → (i : ℕ) × (newest_check t (history_at s p) ≡ some i) × HasSize s (WithDependents s (event (entries_of p) i)) n
rollback_size e sound (is_done {i} live c r) = (i, c, set_size sound r)
rollback_size e sound (is_held _ _ _) = absurd (omega arith)
rollback_size e sound (no_check _ _) = absurd (omega arith)
rollback_size e sound (no_process_lem _) = absurd (omega arith)

pub count_is_size : CountIsSize
count_is_size = record { removal = λ s end set n sound r. set_size sound r; rollback = λ s end p t n sound r. rollback_size refl sound r }
