-- Rollback in every sound state: what is computed is what 01's words allow, and they allow one outcome only.
use Prim.Native.Nat.{ℕ, ◌<◌, ◌≤◌}
use mathlib.Core.Path.{◌≡◌, refl, sym, ◌∙◌, ap, subst, fun_ext}
use mathlib.Core.Logic.{◌⊎◌, inl, inr}
use mathlib.Core.Bool.{true, false}
use mathlib.Core.Option.{Option, none, some}
use mathlib.Core.List.{List, [], ◌∷◌}
use native.Mathlib.Decide.{dec_lt}
use native.Mathlib.Omega.{arith}
use lib.ListN.{length}
use Rattle.lists.proofs.Tests.{true_not_false, true_or_false, none_not_some, some_injective}
use Rattle.rules.specs.Answers.{no_process, held, no_checkpoint}
use Rattle.rules.specs.State.{as_check, Entry, State, history_at, in_pool}
use Rattle.rules.specs.Sound.{Sound}
use Rattle.rules.specs.Depends.{Series, entries_of, level, WithDependents, event, Event}
use Rattle.rules.specs.Rollback.{is_check, newest_check, Removes, Rollback, is_done, is_held, no_check, no_process_lem, Cut, taken_off, cut_before, undo_all, RolledBack, refused, rolled, rolled_number, rolled_count, rolled_state, undo_to, rollback}
use Rattle.demands.proofs.Event.{low}
use Rattle.demands.proofs.Removal.{Back, back_under, removes_one, removes_run, removes_of, stays_out, gone_in, counted, total}
use Rattle.demands.proofs.Cut.{IsCut, cut_is, cut_below, count_off}
use Rattle.demands.proofs.Search.{all_reaches, all_fails}

-- ---- a set that has a cut is removed where the cut is reached
module _ {s : State} {set : Event → Type 0} {k : Cut} (sound : Sound s) (cut : IsCut s set k) (below : (x : Series) → k x ≤ level s x) where
  pub cut_removes : {t : State} {n : ℕ} → Back s t n → ((x : Series) → level t x ≡ k x) → Removes s t set n
  cut_removes r e = removes_of r (λ x i h d. let u = cut.stays_out x i d in omega (arith, e x)) (λ x i h g. cut.goes x i h (omega (arith, e x)))

  pub removes_cut : {t : State} {n : ℕ} → Removes s t set n → (x : Series) → level t x ≡ k x
  removes_cut {t} r x = omega (arith, most, least)
    where
      most : level t x ≤ k x
      most = elim (dec_lt (k x) (level t x)) [
        | yes h ↦ absurd (stays_out sound r x (k x) h (cut.goes x (k x) (omega (arith, h, low (back_under sound (removes_run sound r)) x)) (omega arith)))
        | no h ↦ omega arith
      ]

      least : k x ≤ level t x
      least = elim (dec_lt (level t x) (k x)) [ yes h ↦ cut.stays_out x (level t x) (gone_in r x (level t x) (omega (arith, below x)) (omega arith)) | no h ↦ omega arith ]

  -- the number of undos is the number of events that the cut takes off
  pub removes_count : {t : State} {n : ℕ} → Removes s t set n → n ≡ length (taken_off s k)
  removes_count {t} {n} r = omega (arith, counted sound (removes_run sound r), count_off s k below, total_same)
    where
      total_same : total s.sizes.places (level t) ≡ total s.sizes.places k
      total_same = ap (total s.sizes.places) (fun_ext (removes_cut r))

  undo_some : {t : State} → undo_all (length (taken_off s k)) s k ≡ some t → undo_to s k ≡ rolled (length (taken_off s k)) t
  unfolding undo_to
  undo_some e = rw (e, undo_to) refl

  undo_none : undo_all (length (taken_off s k)) s k ≡ none → undo_to s k ≡ refused held
  unfolding undo_to
  undo_none e = rw (e, undo_to) refl

  -- undoing to the cut removes the set, or nothing does
  pub data Outcome : RolledBack → Type 0 where
    removed : {t : State} {n : ℕ} → Removes s t set n → Outcome (rolled n t)
    stands : ((t : State) (n : ℕ) → ¬ Removes s t set n) → Outcome (refused held)

  pub undo_outcome : Outcome (undo_to s k)
  undo_outcome = go (undo_all (length (taken_off s k)) s k) refl
    where
      go : (o : Option State) → undo_all (length (taken_off s k)) s k ≡ o → Outcome (undo_to s k)
      go (some t) e = let (r, there) = all_reaches (length (taken_off s k)) k sound below (count_off s k below) e in subst Outcome (sym (undo_some e)) (removed (cut_removes r there))
      go none e = subst Outcome (sym (undo_none e)) (stands (λ t n r. all_fails (length (taken_off s k)) k sound below (count_off s k below) e (removes_run sound r) (removes_cut r)))

-- ---- the newest check entry
pub newest_true : (t : ℕ) (e : Entry) (h : List Entry) → is_check t (as_check e.kind) ≡ true → newest_check t (e ∷ h) ≡ some (length h)
unfolding newest_check
newest_true t e h i = rw (i, newest_check) refl

pub newest_false : (t : ℕ) (e : Entry) (h : List Entry) → is_check t (as_check e.kind) ≡ false → newest_check t (e ∷ h) ≡ newest_check t h
unfolding newest_check
newest_false t e h i = rw (i, newest_check) refl

pub newest_low : (t : ℕ) (h : List Entry) {i : ℕ} → newest_check t h ≡ some i → i < length h
unfolding newest_check
newest_low t [] e = none_not_some e
newest_low t (x ∷ h) {i} e = elim (true_or_false (is_check t (as_check x.kind))) [
  | inl c ↦ omega (arith, some_injective (sym (newest_true t x h c) ∙ e))
  | inr c ↦ (let z = newest_low t h (sym (newest_false t x h c) ∙ e) in omega arith)
]

-- ---- rollback
pub rollback_away : (p t : ℕ) (s : State) → in_pool s p ≡ false → rollback p t s ≡ refused no_process
unfolding rollback
rollback_away p t s e = rw (e, rollback) refl

pub rollback_without : (p t : ℕ) (s : State) → in_pool s p ≡ true → newest_check t (history_at s p) ≡ none → rollback p t s ≡ refused no_checkpoint
unfolding rollback
rollback_without p t s e i = rw (e, rollback, i) refl

pub rollback_at : (p t : ℕ) (s : State) {i : ℕ} → in_pool s p ≡ true → newest_check t (history_at s p) ≡ some i → rollback p t s ≡ undo_to s (cut_before s (event (entries_of p) i))
unfolding rollback
rollback_at p t s e i = rw (e, rollback, i) refl

-- what 01 allows
abbrev Allowed : State → ℕ → ℕ → RolledBack → Type 0
Allowed s p t r = Rollback s p t (rolled_number r) (rolled_count r) (rolled_state s r)

module _ {s : State} (sound : Sound s) (p t : ℕ) where
  allowed_at : {i : ℕ} → in_pool s p ≡ true → newest_check t (history_at s p) ≡ some i → Allowed s p t (undo_to s (cut_before s (event (entries_of p) i)))
  unfolding level rolled_number rolled_count rolled_state
  allowed_at {i} live e = go (undo_outcome sound (cut_is sound (entries_of p) i low_enough) (cut_below sound (entries_of p) i low_enough))
    where
      low_enough : i < level s (entries_of p)
      low_enough = newest_low t (history_at s p) e

      go : {r : RolledBack} → Outcome sound (cut_is sound (entries_of p) i low_enough) (cut_below sound (entries_of p) i low_enough) r → Allowed s p t r
      go (removed r) = is_done live e r
      go (stands n) = is_held live e n

  pub rollback_is : Rollback s p t (rolled_number (rollback p t s)) (rolled_count (rollback p t s)) (rolled_state s (rollback p t s))
  unfolding rolled_number rolled_count rolled_state
  rollback_is = pool (true_or_false (in_pool s p))
    where
      check : (o : Option ℕ) → in_pool s p ≡ true → newest_check t (history_at s p) ≡ o → Allowed s p t (rollback p t s)
      check none live e = subst (Allowed s p t) (sym (rollback_without p t s live e)) (no_check live e)
      check (some i) live e = subst (Allowed s p t) (sym (rollback_at p t s live e)) (allowed_at live e)

      pool : (in_pool s p ≡ true) ⊎ (in_pool s p ≡ false) → Allowed s p t (rollback p t s)
      pool (inl live) = check (newest_check t (history_at s p)) live refl
      pool (inr e) = subst (Allowed s p t) (sym (rollback_away p t s e)) (no_process_lem e)

  -- two outcomes are equal
  pub rollback_one : {a a' n n' : ℕ} {end end' : State} → Rollback s p t a n end → Rollback s p t a' n' end' → (a ≡ a') × (n ≡ n') × (end ≡ end')
  rollback_one (is_done {end} {i} {n} l e r) (is_done {end = end'} {i = i'} {n = n'} l' e' r') =
      let (x, y) = removes_one sound r (subst (λ i. Removes s end' (WithDependents s (event (entries_of p) i)) n') (some_injective (sym e' ∙ e)) r') in (refl, y, x)
  rollback_one (is_done {end} {n} l e r) (is_held l' e' f) = absurd (f end n (subst (λ i. Removes s end (WithDependents s (event (entries_of p) i)) n) (some_injective (sym e ∙ e')) r))
  rollback_one (is_done l e r) (no_check l' e') = none_not_some (sym e' ∙ e)
  rollback_one (is_done l e r) (no_process_lem l') = true_not_false l l'
  rollback_one (is_held l e f) (is_done {end} {n} l' e' r) = absurd (f end n (subst (λ i. Removes s end (WithDependents s (event (entries_of p) i)) n) (some_injective (sym e' ∙ e)) r))
  rollback_one (is_held l e f) (is_held l' e' f') = (refl, refl, refl)
  rollback_one (is_held l e f) (no_check l' e') = none_not_some (sym e' ∙ e)
  rollback_one (is_held l e f) (no_process_lem l') = true_not_false l l'
  rollback_one (no_check l e) (is_done l' e' r) = none_not_some (sym e ∙ e')
  rollback_one (no_check l e) (is_held l' e' f) = none_not_some (sym e ∙ e')
  rollback_one (no_check l e) (no_check l' e') = (refl, refl, refl)
  rollback_one (no_check l e) (no_process_lem l') = true_not_false l l'
  rollback_one (no_process_lem l) (is_done l' e r) = true_not_false l' l
  rollback_one (no_process_lem l) (is_held l' e f) = true_not_false l' l
  rollback_one (no_process_lem l) (no_check l' e) = true_not_false l' l
  rollback_one (no_process_lem l) (no_process_lem l') = (refl, refl, refl)
