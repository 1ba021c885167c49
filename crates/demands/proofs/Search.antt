-- Undoing greedily down to a cut: where any order of accepted undos reaches it, greedy does, and where greedy does not, none does.
use Prim.Native.Nat.{ℕ, zero, suc, ◌<◌, ◌≤◌, ◌+◌}
use mathlib.Core.Path.{◌≡◌, refl, sym, ◌∙◌, ap, subst}
use mathlib.Core.Logic.{◌⊎◌, inl, inr}
use mathlib.Core.Bool.{true, false}
use mathlib.Core.Option.{Option, none, some}
use mathlib.Core.List.{List, [], ◌∷◌, map}
use native.Mathlib.Decide.{dec_lt}
use native.Mathlib.Omega.{arith}
use lib.Dec.{ltb}
use Rattle.lists.specs.Lists.{up_to}
use Rattle.lists.proofs.Tests.{true_or_false, none_not_some, some_injective, ltb-true, ltb_of}
use Rattle.lists.specs.Members.{In, first, later}
use Rattle.lists.proofs.Members.{in_left, in_right, in_map, in_up_to}
use Rattle.rules.specs.State.{State}
use Rattle.rules.specs.Commands.{apply, run_state}
use Rattle.rules.specs.Sound.{Sound}
use Rattle.rules.specs.Depends.{Series, entries_of, deliveries_to, level}
use Rattle.rules.specs.Rollback.{Cut, undo_of, undo_above, undo_along, series_in, undo_all}
use Rattle.demands.proofs.Frame.{same_sizes}
use Rattle.demands.proofs.Event.{line_of, line?, low}
use Rattle.demands.proofs.EventSound.{sound_undone}
use Rattle.demands.proofs.Removal.{Undone, undone_of, of_undone, Back, halt, took, lower, lost, front, one_down, total}
use Rattle.demands.proofs.Cut.{place_of, place_below, total_less, total_low}

-- ---- one undo above the cut
above_true : (s : State) (k : Cut) (x : Series) → ltb (k x) (level s x) ≡ true → undo_above s k x ≡ run_state (undo_of x) s
unfolding undo_above
above_true s k x e = rw (e, undo_above) refl

above_false : (s : State) (k : Cut) (x : Series) → ltb (k x) (level s x) ≡ false → undo_above s k x ≡ none
unfolding undo_above
above_false s k x e = rw (e, undo_above) refl

above_is : (s : State) (k : Cut) (x : Series) {t : State} → undo_above s k x ≡ some t → (k x < level s x) × (run_state (undo_of x) s ≡ some t)
above_is s k x {t} e = go (true_or_false (ltb (k x) (level s x)))
  where
    go : (ltb (k x) (level s x) ≡ true) ⊎ (ltb (k x) (level s x) ≡ false) → (k x < level s x) × (run_state (undo_of x) s ≡ some t)
    go (inl h) = (ltb-true (k x) (level s x) h, sym (above_true s k x h) ∙ e)
    go (inr h) = none_not_some (sym (above_false s k x h) ∙ e)

-- along some lines
along_some : (s : State) (k : Cut) (x : Series) (lines : List Series) {t : State} → undo_above s k x ≡ some t → undo_along s k (x ∷ lines) ≡ some t
unfolding undo_along
along_some s k x lines e = rw (e, undo_along) refl

along_none : (s : State) (k : Cut) (x : Series) (lines : List Series) → undo_above s k x ≡ none → undo_along s k (x ∷ lines) ≡ undo_along s k lines
unfolding undo_along
along_none s k x lines e = rw (e, undo_along) refl

some_or_none : (o : Option State) → ((t : State) × (o ≡ some t)) ⊎ (o ≡ none)
some_or_none none = inr refl
some_or_none (some t) = inl (t, refl)

along_is : (s : State) (k : Cut) (lines : List Series) {t : State} → undo_along s k lines ≡ some t → (x : Series) × (k x < level s x) × (run_state (undo_of x) s ≡ some t)
unfolding undo_along
along_is s k [] e = none_not_some e
along_is s k (x ∷ lines) {t} e = go (some_or_none (undo_above s k x)) (along_is s k lines)
  where
    go : ((t : State) × (undo_above s k x ≡ some t)) ⊎ (undo_above s k x ≡ none) → (undo_along s k lines ≡ some t → (x : Series) × (k x < level s x) × (run_state (undo_of x) s ≡ some t))
        → (x : Series) × (k x < level s x) × (run_state (undo_of x) s ≡ some t)
    go (inl (m, i)) f = let (h, r) = above_is s k x (i ∙ sym (along_some s k x lines i) ∙ e) in (x, h, r)
    go (inr i) f = f (sym (along_none s k x lines i) ∙ e)

along_not : (s : State) (k : Cut) (lines : List Series) {x : Series} → undo_along s k lines ≡ none → In x lines → undo_above s k x ≡ none
along_not s k [] e j = elim j [ ]
along_not s k (x ∷ lines) e first = elim (some_or_none (undo_above s k x)) [ inl z ↦ none_not_some (sym e ∙ along_some s k x lines z.1) | inr i ↦ i ]
along_not s k (y ∷ lines) e (later j) = elim (some_or_none (undo_above s k y)) [
  | inl z ↦ none_not_some (sym e ∙ along_some s k y lines z.1)
  | inr i ↦ along_not s k lines (sym (along_none s k y lines i) ∙ e) j
]

in_lines : (s : State) (x : Series) → place_of x < s.sizes.places → In x (series_in s)
unfolding series_in
in_lines s (entries_of p) h = in_left (map deliveries_to (up_to s.sizes.places)) (in_map entries_of (in_up_to s.sizes.places h))
in_lines s (deliveries_to q) h = in_right (map entries_of (up_to s.sizes.places)) (in_map deliveries_to (in_up_to s.sizes.places h))

-- where no undo above the cut is accepted
stuck : {s t : State} (k : Cut) (x : Series) → Sound s → undo_along s k (series_in s) ≡ none → k x < level s x → run_state (undo_of x) s ≡ some t → ⊥
stuck {s} {t} k x sound e h r =
    none_not_some (sym (along_not s k (series_in s) e (in_lines s x (place_below sound x h))) ∙ above_true s k x (ltb_of (k x) (level s x) h) ∙ r)

-- ---- so many of them
all_some : (n : ℕ) (s : State) (k : Cut) {m : State} → undo_along s k (series_in s) ≡ some m → undo_all (suc n) s k ≡ undo_all n m k
unfolding undo_all
all_some n s k e = rw (e, undo_all) refl

all_none : (n : ℕ) (s : State) (k : Cut) → undo_along s k (series_in s) ≡ none → undo_all (suc n) s k ≡ none
unfolding undo_all
all_none n s k e = rw (e, undo_all) refl

all_zero : (s : State) (k : Cut) → undo_all zero s k ≡ some s
unfolding undo_all
all_zero s k = refl

-- the state after an undo above the cut
record Below (s m : State) (k : Cut) : Type 0 where
  sound : Sound m
  sizes : m.sizes ≡ s.sizes
  low : (x : Series) → k x ≤ level m x
  less : total s.sizes.places (level s) ≡ suc (total s.sizes.places (level m))
  by : (t : State) (n : ℕ) → Back m t n → Back s t (suc n)

below : {s m : State} (k : Cut) (x : Series) → Sound s → ((x : Series) → k x ≤ level s x) → k x < level s x → Undone s m x → Below s m k
below {s} {m} k x sound low h u =
    let down_to = lower sound u.does u.undoes_it in
    record {
      sound = subst Sound u.gives (sound_undone sound u.does u.undoes_it);
      sizes = ap (λ z. z.sizes) (sym u.gives) ∙ same_sizes u.move s;
      low = λ y. subst (λ z. k y ≤ level z y) u.gives (elim (line? (line_of u.deed) y) [
        | yes e ↦ omega (arith, subst (λ z. k z < level s z) (sym u.on ∙ e) h, subst (λ z. level s z ≡ suc (level (apply u.move s) z)) e down_to.at)
        | no n ↦ omega (arith, low y, down_to.off y n)
      ]);
      less = subst (λ z. total s.sizes.places (level s) ≡ suc (total s.sizes.places (level z))) u.gives (one_down sound u.does u.undoes_it);
      by = λ t n r. took u.does u.undoes_it (subst (λ z. Back z t n) (sym u.gives) r);
    }

-- levels above a cut of the same total are the cut
level_is : {s : State} (k : Cut) → Sound s → ((x : Series) → k x ≤ level s x) → total s.sizes.places (level s) ≤ total s.sizes.places k → (x : Series) → level s x ≡ k x
level_is {s} k sound low h x = elim (dec_lt (k x) (level s x)) [
  | yes g ↦ absurd (omega (arith, total_less s.sizes.places x k (level s) (place_below sound x g) g low))
  | no g ↦ omega (arith, low x)
]

-- greedy reaches the cut
pub all_reaches : (n : ℕ) {s t : State} (k : Cut) → Sound s → ((x : Series) → k x ≤ level s x) → total s.sizes.places (level s) ≡ n + total s.sizes.places k
    → undo_all n s k ≡ some t → Back s t n × ((x : Series) → level t x ≡ k x)
all_reaches zero {s} {t} k sound low e r =
    let same : s ≡ t = some_injective (sym (all_zero s k) ∙ r) in
    (subst (λ z. Back s z 0) same halt, subst (λ z. (x : Series) → level z x ≡ k x) same (level_is k sound low (omega arith)))
all_reaches (suc n) {s} {t} k sound low e r = go (some_or_none (undo_along s k (series_in s))) (λ m. all_reaches n {s = m} {t = t} k)
  where
    go : ((m : State) × (undo_along s k (series_in s) ≡ some m)) ⊎ (undo_along s k (series_in s) ≡ none)
        → ((m : State) → Sound m → ((x : Series) → k x ≤ level m x) → total m.sizes.places (level m) ≡ n + total m.sizes.places k → undo_all n m k ≡ some t → Back m t n × ((x : Series) → level t x ≡ k x))
        → Back s t (suc n) × ((x : Series) → level t x ≡ k x)
    go (inr i) f = none_not_some (sym (all_none n s k i) ∙ r)
    go (inl (m, i)) f =
        let (x, h, a) = along_is s k (series_in s) i in
        let b = below k x sound low h (undone_of x sound a) in
        let (q, there) = f m b.sound b.low (subst (λ z. total z.places (level m) ≡ n + total z.places k) (sym b.sizes) (omega (arith, e, b.less))) (sym (all_some n s k i) ∙ r) in
        (b.by t n q, there)

-- where no undo above the cut is accepted, and the cut is not reached, no order reaches it
halted : {s t : State} {m n : ℕ} (k : Cut) → Sound s → undo_along s k (series_in s) ≡ none → 0 < n → total s.sizes.places (level s) ≡ n + total s.sizes.places k
    → Back s t m → ((x : Series) → level t x ≡ k x) → ⊥
halted {s} k sound i h e halt there = omega (arith, h, e, total_low s.sizes.places (level s) k (λ x. omega (arith, there x)))
halted {s} k sound i h e (took {d} a b r) there =
    stuck k (line_of d) sound i (omega (arith, there (line_of d), lost sound a b r)) (of_undone (record { deed = d; move = _; does = a; undoes_it = b; on = refl; gives = refl }))

-- and where it does not, no order does
pub all_fails : (n : ℕ) {s t : State} {m : ℕ} (k : Cut) → Sound s → ((x : Series) → k x ≤ level s x) → total s.sizes.places (level s) ≡ n + total s.sizes.places k
    → undo_all n s k ≡ none → Back s t m → ((x : Series) → level t x ≡ k x) → ⊥
all_fails zero {s} k sound low e r q there = none_not_some (sym r ∙ all_zero s k)
all_fails (suc n) {s} {t} {m} k sound low e r q there = go (some_or_none (undo_along s k (series_in s))) (λ u j. all_fails n {s = u} {t = t} {m = j} k) q
  where
    go : ((u : State) × (undo_along s k (series_in s) ≡ some u)) ⊎ (undo_along s k (series_in s) ≡ none)
        → ((u : State) (j : ℕ) → Sound u → ((x : Series) → k x ≤ level u x) → total u.sizes.places (level u) ≡ n + total u.sizes.places k → undo_all n u k ≡ none → Back u t j → ((x : Series) → level t x ≡ k x) → ⊥)
        → Back s t m → ⊥
    go (inl (u, i)) f q =
        let (x, h, a) = along_is s k (series_in s) i in
        let un = undone_of x sound a in
        let b = below k x sound low h un in
        let (j, z, q') = front sound un.does un.undoes_it q (subst (λ y. level t y < level s y) (sym un.on) (omega (arith, there x, h))) in
        f u j b.sound b.low (subst (λ z. total z.places (level u) ≡ n + total z.places k) (sym b.sizes) (omega (arith, e, b.less))) (sym (all_some n s k i) ∙ r)
        (subst (λ z. Back z t j) un.gives q') there
    go (inr i) f q = halted k sound i (omega arith) e q there
