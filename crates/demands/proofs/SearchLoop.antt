-- What two loops need: one that lowers numbers to learn whether a cut can be reached, and one that then undoes down to it, in any order.
use Prim.Native.Nat.{ℕ, suc, ◌<◌, ◌≤◌}
use mathlib.Core.Path.{◌≡◌, refl, sym, ◌∙◌, ap, subst, fun_ext}
use mathlib.Core.Bool.{true}
use mathlib.Core.Option.{some}
use native.Mathlib.Omega.{arith}
use Rattle.rules.specs.Answers.{held}
use Rattle.rules.specs.State.{State}
use Rattle.rules.specs.Commands.{apply, run_state}
use Rattle.rules.specs.Sound.{Sound}
use Rattle.rules.specs.Depends.{Series, level, happened, WithDependents, event}
use Rattle.rules.specs.Rollback.{Cut, cut_to, cut_before, undo_of, refused, rolled, undo_to, Removes}
use Rattle.demands.proofs.Event.{line_of, line?}
use Rattle.demands.proofs.Removal.{in_level, Undone, undone_of, of_undone, Back, halt, took, lower, lost, sound_back, removes_run, removes_one, through}
use Rattle.demands.proofs.Cut.{IsCut, cut_is, cut_below, cut_at, cut_off}
use Rattle.demands.proofs.Rollback.{cut_removes, removes_cut}
use Rattle.demands.proofs.RollbackDemands.{rollback_demands}
use Rattle.demands.proofs.SearchNumbers.{Can, Cuts, end, cuts_more, cuts_removed, cuts_held}

-- ---- on numbers: j starts at the levels of s and goes down to k
pub record Seeking (s : State) (k j : Cut) (m : ℕ) : Type 0 where
  pub cuts : Cuts s (level s) j m
  pub above : (y : Series) → k y ≤ j y

pub seek_start : {s : State} {k : Cut} → ((y : Series) → k y ≤ level s y) → Seeking s k (level s) 0
seek_start low = record { cuts = end; above = low }

pub seek_take : {s : State} {k j : Cut} {m : ℕ} (y : Series) (c : ℕ) → Seeking s k j m → j y ≡ suc c → k y ≤ c → Can s j y → Seeking s k (cut_to y c j) (suc m)
seek_take {k = k} {j} y c l e h can = record {
  cuts = cuts_more l.cuts can (record { at = e ∙ ap suc (sym (cut_at y c j)); off = λ z n. cut_off y z c j n });
  above = λ z. elim (line? y z) [ yes i ↦ subst (λ w. k w ≤ cut_to y c j w) i (omega (arith, h, cut_at y c j)) | no n ↦ omega (arith, l.above z, cut_off y z c j n) ];
}

module _ {s : State} (sound : Sound s) (x : Series) (i : ℕ) (happens : happened s (event x i) ≡ true) where
  abbrev At : Cut
  At = cut_before s (event x i)

  the_cut : IsCut s (WithDependents s (event x i)) At
  the_cut = cut_is sound x i (in_level s x happens)

  cut_under : (y : Series) → At y ≤ level s y
  cut_under = cut_below sound x i (in_level s x happens)

  -- the cut is reached: so many undos, and the set is removed
  pub seek_done : {j : Cut} {m : ℕ} → Seeking s At j m → ((y : Series) → j y ≡ At y) → (t : State) × (undo_to s At ≡ rolled m t)
  seek_done {j} {m} l e =
      let (t, r, _) = cuts_removed sound the_cut cut_under (subst (λ c. Cuts s (level s) c m) (fun_ext e) l.cuts) in
      (t, (rollback_demands.any_event.removes s t (event x i) m sound happens).1 r)

  -- no line above the cut can be lowered: the rollback is held
  pub seek_held : {j : Cut} {m : ℕ} (y : Series) → Seeking s At j m → At y < j y → ((z : Series) → At z < j z → ¬ Can s j z) → undo_to s At ≡ refused held
  seek_held y l h none-can = (rollback_demands.any_event.holds s (event x i) sound happens).1 (cuts_held sound the_cut cut_under y l.cuts l.above h none-can)

  -- ---- on states, once it is known that the cut is reached
  pub record Writing (r : State) (m : ℕ) : Type 0 where
    pub run : Back s r m
    pub above : (y : Series) → At y ≤ level r y

  pub write_start : Writing s 0
  write_start = record { run = halt; above = cut_under }

  -- any accepted undo above the cut will do
  back_more : {a b : State} {n : ℕ} {c : State} {y : Series} → Back a b n → Undone b c y → Back a c (suc n)
  back_more {c = c} halt u = took u.does u.undoes_it (subst (λ z. Back z c 0) (sym u.gives) halt)
  back_more (took a b r) u = took a b (back_more r u)

  pub write_take : {r after : State} {m : ℕ} (y : Series) → Writing r m → At y < level r y → run_state (undo_of y) r ≡ some after → Writing after (suc m)
  write_take {r} {after} y l h e =
      let r-sound = sound_back sound l.run in
      let u = undone_of y r-sound e in
      let d = lower r-sound u.does u.undoes_it in
      record {
        run = back_more l.run u;
        above = λ z. subst (λ w. At z ≤ level w z) u.gives (elim (line? (line_of u.deed) z) [
          | yes i ↦ omega (arith, subst (λ w. At w < level r w) (sym u.on ∙ i) h, subst (λ w. level r w ≡ suc (level (apply u.move r) w)) i d.at)
          | no n ↦ omega (arith, l.above z, d.off z n)
        ]);
      }

  module _ {end-state : State} {n : ℕ} (known : undo_to s At ≡ rolled n end-state) where
    removes : Removes s end-state (WithDependents s (event x i)) n
    removes = (rollback_demands.any_event.removes s end-state (event x i) n sound happens).0 known

    -- as long as a line stands above the cut, an undo above it is accepted
    pub write_on : {r : State} {m : ℕ} (y : Series) → Writing r m → At y < level r y → (z : Series) × (after : State) × (At z < level r z) × (run_state (undo_of z) r ≡ some after)
    write_on {r} y l h =
        let there = removes_cut sound the_cut cut_under removes in
        let (_, rest, _) = through sound l.run (removes_run sound removes) (λ z. omega (arith, l.above z, there z)) in
        first (sound_back sound l.run) there h rest
      where
        first : {r : State} {k : ℕ} → Sound r → ((z : Series) → level end-state z ≡ At z) → At y < level r y → Back r end-state k
            → (z : Series) × (after : State) × (At z < level r z) × (run_state (undo_of z) r ≡ some after)
        first r-sound there h halt = absurd (omega (arith, h, there y))
        first {r} r-sound there h (took {d} {w} a b rest) =
            (line_of d, apply w r, omega (arith, there (line_of d), lost r-sound a b rest), of_undone (record { deed = d; move = w; does = a; undoes_it = b; on = refl; gives = refl }))

    -- and at the cut it is the rollback's state, after as many undos
    pub write_done : {r : State} {m : ℕ} → Writing r m → ((y : Series) → level r y ≡ At y) → (r ≡ end-state) × (m ≡ n)
    write_done l e = removes_one sound (cut_removes sound the_cut cut_under l.run e) removes
