-- The search on numbers: each turn takes an undo that is accepted, and where it ends the rollback is done or held.
use Prim.Native.Nat.{ℕ, suc, ◌+◌, ◌-◌, ◌≤◌, ◌<◌}
use mathlib.Core.Path.{◌≡◌, refl, sym, ◌∙◌, ap, subst, fun_ext}
use mathlib.Core.List.{List}
use native.Mathlib.Omega.{arith}
use native.Mathlib.Decide.{dec_lt}
use lib.ListN.{length, get_or, set}
use Rattle.rules.specs.State.{State}
use Rattle.rules.specs.Sound.{Sound}
use Rattle.rules.specs.Depends.{Series, level, event}
use Rattle.rules.specs.Rollback.{cut_to, cut_before, undo_to}
use Rattle.demands.proofs.Event.{Under, under_refl}
use Rattle.demands.proofs.Removal.{in_level, back_under, sound_back}
use Rattle.demands.proofs.Cut.{cut_below}
use Rattle.demands.proofs.SearchNumbers.{Can, cuts_run}
use Rattle.demands.proofs.SearchLoop.{Seeking, seek_start, seek_take, seek_done, seek_held}
use Rattle.std.specs.Prelude.{Some, None}
use Rattle.cuts.specs.Bounds.{line_count}
use Rattle.cuts.specs.declared.link.Link.{Link}
use Rattle.cuts.specs.Links.{line_number, cut_in, sum_of, Links}
use Rattle.cuts.specs.Going.{Blocked, Free, FindsFree, FindsAbove, Ready, Foretells, foretells_done, foretells_held, Seeks}
use Rattle.cuts.proofs.Lines.{line_of, at_line, cut_set, line_low, sum_set}
use Rattle.cuts.proofs.LinkUndo.{blocked_not, free_can}

module _ {links : List Link} {cut levels : List ℕ} {s : State} (sound : Sound s) (r : Ready s links cut levels) where
  pub levels_same : cut_in levels ≡ level s
  levels_same = fun_ext r.levels_are.are

  pub cut_under : (y : Series) → cut_in cut y ≤ level s y
  cut_under y = subst (λ k. k y ≤ level s y) (sym r.cut_is) (cut_below sound r.line r.index (in_level s r.line r.happens) y)

-- ---- one line
module _ {links : List Link} {x : ℕ} {cut lv : List ℕ} (f : Free links cut lv x) (y : Series) (e : line_number y ≡ x) where
  pub free_top : cut_in lv y ≡ suc (get_or lv x 0 - 1)
  free_top = omega (arith, f.above, at_line lv y (sym e))

  pub free_above : cut_in cut y ≤ get_or lv x 0 - 1
  free_above = omega (arith, f.above, at_line cut y (sym e))

  pub free_over : cut_in cut y < cut_in lv y
  free_over = omega (arith, f.above, at_line cut y (sym e), at_line lv y (sym e))

  pub free_line : {s t : State} {few : ℕ} → Links s links few → Sound t → Under t s → level t ≡ cut_in lv → Can s (cut_in lv) y
  free_line linked t-sound under same = free_can linked t-sound under same y free_top (λ b. f.free (subst (λ n. Blocked links n (get_or lv x 0 - 1) lv) e b))

-- no line is free: none above the cut can be undone
pub none_free : {links : List Link} {few : ℕ} (cut lv : List ℕ) {s : State} → Links s links few → length lv ≡ line_count → FindsFree links cut lv None
    → (z : Series) → cut_in cut z < cut_in lv z → ¬ Can s (cut_in lv) z
none_free cut lv linked long none z h can =
    none (line_number z) (line_low lv z long h) (record {
      line = line_low lv z long h;
      above = omega (arith, h, at_line cut z refl, at_line lv z refl);
      free = λ b. blocked_not linked z (omega (arith, h, at_line lv z refl)) b can;
    })

-- ---- the loop
unfoldable pub Sought : (links : List Link) (cut levels lv : List ℕ) (n : ℕ) → Type 0
Sought links cut levels lv n = (s : State) → Sound s → Ready s links cut levels → Seeking s (cut_in cut) (cut_in lv) n

module _ (links : List Link) (cut levels : List ℕ) where
  pub sought_start : Sought links cut levels levels 0
  unfolding Sought
  sought_start s sound r = subst (λ j. Seeking s (cut_in cut) j 0) (sym (levels_same sound r)) (seek_start (cut_under sound r))

  module _ (lv : List ℕ) (n : ℕ) (long : length lv ≡ line_count) (sought : Sought links cut levels lv n) where
    pub sought_on : (x : ℕ) → FindsFree links cut lv (Some x) → Sought links cut levels (set lv x (get_or lv x 0 - 1)) (n + 1)
    unfolding Sought
    sought_on x f s sound r =
        let (y, e) = line_of x in
        let c = get_or lv x 0 - 1 in
        let seeking = sought s sound r in
        let (t, run, same) = cuts_run sound under_refl refl seeking.cuts in
        let can = free_line f y e r.linked (sound_back sound run) (back_under sound run) same in
        let taken : Seeking s (cut_in cut) (cut_to y c (cut_in lv)) (suc n) = seek_take y c seeking (free_top f y e) (free_above f y e) can in
        let one : suc n ≡ n + 1 = omega arith in
        subst (λ m. Seeking s (cut_in cut) (cut_in (set lv x c)) m) one (subst (λ j. Seeking s (cut_in cut) j (suc n)) (sym (cut_set lv y c (sym e) (omega (arith, f.line, long)))) taken)

    pub sought_less : (x : ℕ) → FindsFree links cut lv (Some x) → sum_of (set lv x (get_or lv x 0 - 1)) + 1 ≡ sum_of lv
    sought_less x f = omega (arith, sum_set lv x (get_or lv x 0 - 1) (omega (arith, f.line, long)), f.above)

    pub sought_done : FindsAbove cut lv None → Seeks links cut levels (Some n)
    unfolding Sought Seeks
    sought_done reached s sound r =
        let seeking = subst (λ k. Seeking s k (cut_in lv) n) r.cut_is (sought s sound r) in
        let (t, e) = seek_done sound r.line r.index r.happens seeking (λ y. at y (sought s sound r) (dec_lt (line_number y) line_count) ∙ ap (λ k. k y) r.cut_is) in
        subst (λ b. Foretells b (Some n)) (sym (ap (undo_to s) r.cut_is ∙ e)) (foretells_done n t)
      where
        at : {s : State} (y : Series) → Seeking s (cut_in cut) (cut_in lv) n → Dec (line_number y < line_count) → cut_in lv y ≡ cut_in cut y
        at y seeking (yes h) = omega (arith, seeking.above y, reached (line_number y) h, at_line lv y refl, at_line cut y refl)
        at y seeking (no h) = elim (dec_lt (cut_in cut y) (cut_in lv y)) [ yes g ↦ absurd (h (line_low lv y long g)) | no g ↦ omega (arith, seeking.above y, g) ]

    pub sought_held : (x : ℕ) → FindsFree links cut lv None → FindsAbove cut lv (Some x) → Seeks links cut levels None
    unfolding Sought Seeks
    sought_held x none (low, above) s sound r =
        let (y, e) = line_of x in
        let seeking = subst (λ k. Seeking s k (cut_in lv) n) r.cut_is (sought s sound r) in
        let at : (z : Series) → cut_in cut z ≡ cut_before s (event r.line r.index) z = λ z. ap (λ k. k z) r.cut_is in
        let held_back = seek_held sound r.line r.index r.happens y seeking (omega (arith, above, at_line cut y (sym e), at_line lv y (sym e), at y)) (λ z h. none_free cut lv r.linked long none z (omega (arith, h, at z))) in
        subst (λ b. Foretells b None) (sym (ap (undo_to s) r.cut_is ∙ held_back)) foretells_held
