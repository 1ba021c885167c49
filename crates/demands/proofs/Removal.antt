-- Runs of undos: they commute, and what they remove decides where they end and how many they are, whatever the order.
use Prim.Native.Nat.{ℕ, zero, suc, ◌<◌, ◌≤◌, ◌+◌}
use mathlib.Core.Path.{◌≡◌, refl, sym, ◌∙◌, ap, subst, subst₂}
use mathlib.Core.Logic.{◌≢◌, ◌⊎◌, inl, inr, ◌↔◌}
use mathlib.Core.Bool.{true, false}
use mathlib.Core.Option.{some}
use native.Mathlib.Decide.{ℕ_discrete, dec_lt}
use native.Mathlib.Omega.{arith}
use Rattle.lists.proofs.Tests.{true_not_false, none_not_some, some_injective, ltb-true, ltb_of, ltb_false, ltb_over, not_true}
use Rattle.rules.specs.State.{State, in_pool}
use Rattle.rules.specs.Commands.{Command, Deed, makes, undoes, delivers, undelivers, Move, apply, Plan, refuse, accept, after_plan, run, run_state}
use Rattle.rules.specs.Rules.{command_of}
use Rattle.rules.specs.Independent.{unspawns}
use Rattle.rules.specs.Reverse.{is_forward}
use Rattle.rules.specs.Sound.{Sound}
use Rattle.rules.specs.Depends.{Series, entries_of, deliveries_to, level, happened, event, Event}
use Rattle.rules.specs.Rollback.{is_undo, Undos, stop, undo, Removes, undo_of}
use Rattle.demands.proofs.Does.{Does, forward, backward, sched, unsched}
use Rattle.demands.proofs.Frame.{in_pool_lem, same_sizes}
use Rattle.demands.proofs.Deeds.{target}
use Rattle.demands.proofs.Square.{square}
use Rattle.demands.proofs.Undo.{Backward, undos_independent}
use Rattle.demands.proofs.Knows.{apart_if, unspawns_apart}
use Rattle.demands.proofs.RunSound.{run_sound}
use Rattle.demands.proofs.RunComplete.{run_complete}
use Rattle.demands.proofs.Steps.{goes_back}
use Rattle.demands.proofs.Event.{line_of, line?, Under, under_refl, under_trans, low, Down, down}
use Rattle.demands.proofs.EventSound.{sound_undone}

-- ---- which command undoes
pub backward_of : (d : Deed) → is_undo (command_of d) ≡ true → Backward d
unfolding is_undo
backward_of d e = goes_back d (not_true (is_forward (command_of d)) e)

pub backward_undoes : (d : Deed) → Backward d → is_undo (command_of d) ≡ true
unfolding is_undo is_forward command_of Backward
backward_undoes (makes p kind) b = absurd b
backward_undoes (undoes p n kind) b = refl
backward_undoes (delivers s k t) b = absurd b
backward_undoes (undelivers t) b = refl

-- the undo of its line
pub command_of_line : (d : Deed) → Backward d → command_of d ≡ undo_of (line_of d)
unfolding command_of undo_of line_of Backward
command_of_line (makes p kind) b = absurd b
command_of_line (undoes p n kind) b = refl
command_of_line (delivers s k t) b = absurd b
command_of_line (undelivers t) b = refl

pub undo_of_lem : (x : Series) → is_undo (undo_of x) ≡ true
unfolding undo_of is_undo is_forward
undo_of_lem (entries_of p) = refl
undo_of_lem (deliveries_to q) = refl

-- a line's undo is the line's
pub line_of_undo : (x y : Series) → undo_of x ≡ undo_of y → x ≡ y
unfolding undo_of
line_of_undo (entries_of p) (entries_of q) e = cc
line_of_undo (entries_of p) (deliveries_to q) e = let z : ◌≡◌ {A = ℕ} 0 1 = cc in absurd (omega arith)
line_of_undo (deliveries_to p) (entries_of q) e = let z : ◌≡◌ {A = ℕ} 0 1 = cc in absurd (omega arith)
line_of_undo (deliveries_to p) (deliveries_to q) e = cc

-- an accepted undo of a line
pub record Undone (s t : State) (x : Series) : Type 0 where
  pub deed : Deed
  pub move : Move
  pub does : Does s deed move
  pub undoes_it : Backward deed
  pub on : line_of deed ≡ x
  pub gives : apply move s ≡ t

accepted_as : (s : State) (plan : Plan) {t : State} → after_plan plan s ≡ some t → (d : Deed) × (w : Move) × (plan ≡ accept d w) × (apply w s ≡ t)
unfolding after_plan
accepted_as s (refuse n) e = none_not_some e
accepted_as s (accept d w) e = (d, w, refl, some_injective e)

pub undo_does : {s t : State} (c : Command) → Sound s → is_undo c ≡ true → run_state c s ≡ some t → (d : Deed) × (w : Move) × Does s d w × Backward d × (command_of d ≡ c) × (apply w s ≡ t)
unfolding run_state
undo_does {s} c sound u e =
    let (d, w, i, g) = accepted_as s (run c s) e in
    let (a, j) = run_sound s sound.pool_ends c i in
    (d, w, a, backward_of d (ap is_undo j ∙ u), j, g)

pub does_undo : {s : State} {d : Deed} {w : Move} → Does s d w → run_state (command_of d) s ≡ some (apply w s)
unfolding run_state after_plan
does_undo {s} a = ap (λ plan. after_plan plan s) (run_complete a)

pub undone_of : {s t : State} (x : Series) → Sound s → run_state (undo_of x) s ≡ some t → Undone s t x
undone_of x sound e =
    let (d, w, a, b, i, g) = undo_does (undo_of x) sound (undo_of_lem x) e in
    record { deed = d; move = w; does = a; undoes_it = b; on = line_of_undo (line_of d) x (sym (command_of_line d b) ∙ i); gives = g }

pub of_undone : {s t : State} {x : Series} → Undone s t x → run_state (undo_of x) s ≡ some t
of_undone {s} {t} {x} u = ap (λ c. run_state c s) (sym (command_of_line u.deed u.undoes_it ∙ ap undo_of u.on)) ∙ does_undo u.does ∙ ap some u.gives

-- ---- two undos commute, and one line has one undo
no_target : (d : Deed) (x : ℕ) → Backward d → target d ≡ some x → ⊥
unfolding target Backward
no_target (makes p kind) x b e = b
no_target (undoes p n kind) x b e = none_not_some e
no_target (delivers s k t) x b e = b
no_target (undelivers t) x b e = none_not_some e

pub diamond : {s : State} {d e : Deed} {w u : Move} → Sound s → Does s d w → Does s e u → Backward d → Backward e → line_of d ≢ line_of e
    → Does (apply w s) e u × Does (apply u s) d w × (apply u (apply w s) ≡ apply w (apply u s))
diamond {s} {d} {e} sound a b x y n =
    let f = undos_independent a b x y (λ i. n (line_of_undo (line_of d) (line_of e) (sym (command_of_line d x) ∙ i ∙ command_of_line e y))) in
    square a b f (record {
      aim = apart_if (unspawns d) (target e) (λ z _ i. no_target e z y i);
      aimed = apart_if (target d) (unspawns e) (λ z i _. no_target d z x i);
      unspawn_once = unspawns_apart sound a b f.actors;
    })

accept_move : {d e : Deed} {w u : Move} → accept d w ≡ accept e u → w ≡ u
accept_move i = cc

pub same_undo : {s : State} {d e : Deed} {w u : Move} → Does s d w → Does s e u → Backward d → Backward e → line_of d ≡ line_of e → w ≡ u
same_undo {s} {d} {e} a b x y i = accept_move (sym (run_complete a) ∙ ap (λ c. run c s) (command_of_line d x ∙ ap undo_of i ∙ sym (command_of_line e y)) ∙ run_complete b)

-- ---- runs of undos
pub data Back : State → State → ℕ → Type 0 where
  halt : {s : State} → Back s s 0
  took : {s t : State} {d : Deed} {w : Move} {n : ℕ} → Does s d w → Backward d → Back (apply w s) t n → Back s t (suc n)

pub undos_back : {s t : State} {n : ℕ} → Sound s → Undos s t n → Back s t n
undos_back sound stop = halt
undos_back {s} {t} sound (undo {n} c u e r) =
    let (d, w, a, b, i, g) = undo_does c sound u e in
    took a b (subst (λ z. Back z t n) (sym g) (undos_back (subst Sound g (sound_undone sound a b)) r))

pub back_undos : {s t : State} {n : ℕ} → Back s t n → Undos s t n
back_undos halt = stop
back_undos (took {d} a b r) = undo (command_of d) (backward_undoes d b) (does_undo a) (back_undos r)

pub sound_back : {s t : State} {n : ℕ} → Sound s → Back s t n → Sound t
sound_back sound halt = sound
sound_back sound (took a b r) = sound_back (sound_undone sound a b) r

pub lower : {s : State} {d : Deed} {w : Move} → Sound s → Does s d w → Backward d → Down s (apply w s) (line_of d)
lower {d} sound a b = down sound (sound_undone sound a b) d a b

pub back_under : {s t : State} {n : ℕ} → Sound s → Back s t n → Under t s
back_under sound halt = under_refl
back_under sound (took a b r) = under_trans (back_under (sound_undone sound a b) r) (lower sound a b).under

pub lost : {s t : State} {d : Deed} {w : Move} {n : ℕ} → Sound s → Does s d w → Backward d → Back (apply w s) t n → level t (line_of d) < level s (line_of d)
lost {d} sound a b r = omega (arith, low (back_under (sound_undone sound a b) r) (line_of d), (lower sound a b).at)

-- an accepted undo of what goes may as well come first
pub front : {s t : State} {d : Deed} {w : Move} {n : ℕ} → Sound s → Does s d w → Backward d → Back s t n → level t (line_of d) < level s (line_of d)
    → (k : ℕ) × (n ≡ suc k) × Back (apply w s) t k
front sound a x halt h = absurd (omega arith)
front {s} {t} {d} {w} sound a x (took {d = e} {w = u} {n} b y r) h = go (line? (line_of d) (line_of e)) (λ a' h'. front (sound_undone sound b y) a' x r h')
  where
    go : Dec (line_of d ≡ line_of e) → (Does (apply u s) d w → level t (line_of d) < level (apply u s) (line_of d) → (k : ℕ) × (n ≡ suc k) × Back (apply w (apply u s)) t k)
        → (k : ℕ) × (suc n ≡ suc k) × Back (apply w s) t k
    go (yes i) f = (n, refl, subst (λ w. Back (apply w s) t n) (sym (same_undo a b x y i)) r)
    go (no z) f =
        let (b', a', same) = diamond sound a b x y z in
        let (k, i, r') = f a' (omega (arith, h, (lower sound b y).off (line_of d) (λ i. z (sym i)))) in
        (suc k, ap suc i, took b' y (subst (λ z. Back z t k) (sym same) r'))

pub unique : {s t t' : State} {n n' : ℕ} → Sound s → Back s t n → Back s t' n' → ((x : Series) → level t x ≡ level t' x) → (t ≡ t') × (n ≡ n')
unique sound halt halt e = (refl, refl)
unique sound halt (took {d} a b r) e = absurd (omega (arith, e (line_of d), lost sound a b r))
unique sound (took {d} a b r) r' e =
    let (k, i, q) = front sound a b r' (omega (arith, e (line_of d), lost sound a b r)) in
    let (j, m) = unique (sound_undone sound a b) r q e in
    (j, ap suc m ∙ sym i)

-- a run that goes at least as far passes through
pub through : {s r t : State} {m n : ℕ} → Sound s → Back s r m → Back s t n → ((x : Series) → level t x ≤ level r x) → (k : ℕ) × Back r t k × (n ≡ m + k)
through {n} sound halt r h = (n, r, omega arith)
through sound (took {d} a x q) r h =
    let (k, e, t) = front sound a x r (omega (arith, h (line_of d), lost sound a x q)) in
    let (j, u, i) = through (sound_undone sound a x) q t h in
    (j, u, omega arith)

-- ---- a set of events is removed
pub in_level : (s : State) (x : Series) {i : ℕ} → happened s (event x i) ≡ true → i < level s x
unfolding happened
in_level s x {i} e = ltb-true i (level s x) e

pub level_in : (s : State) (x : Series) {i : ℕ} → i < level s x → happened s (event x i) ≡ true
unfolding happened
level_in s x {i} h = ltb_of i (level s x) h

pub over_level : (s : State) (x : Series) {i : ℕ} → happened s (event x i) ≡ false → level s x ≤ i
unfolding happened
over_level s x {i} e = ltb_false i (level s x) e

pub level_over : (s : State) (x : Series) {i : ℕ} → level s x ≤ i → happened s (event x i) ≡ false
unfolding happened
level_over s x {i} h = ltb_over i (level s x) h

module _ {s t : State} {set : Event → Type 0} {n : ℕ} where
  pub removes_run : Sound s → Removes s t set n → Back s t n
  removes_run sound r = undos_back sound r.undos

  -- what stands after is not in the set, and what is gone is
  pub stays_out : Sound s → Removes s t set n → (x : Series) (i : ℕ) → i < level t x → ¬ set (event x i)
  stays_out sound r x i h d = true_not_false (level_in t x h) ((r.exactly (event x i) (level_in s x (omega (arith, h, low (back_under sound (removes_run sound r)) x)))).1 d)

  pub gone_in : Removes s t set n → (x : Series) (i : ℕ) → i < level s x → level t x ≤ i → set (event x i)
  gone_in r x i h g = (r.exactly (event x i) (level_in s x h)).0 (level_over t x g)

  pub removes_of : Back s t n → ((x : Series) (i : ℕ) → i < level t x → ¬ set (event x i)) → ((x : Series) (i : ℕ) → i < level s x → level t x ≤ i → set (event x i)) → Removes s t set n
  removes_of r out inside = record { undos = back_undos r; exactly = exactly }
    where
      exactly : (e : Event) → happened s e ≡ true → (happened t e ≡ false) ↔ set e
      exactly (event x i) h = (
        λ e. inside x i (in_level s x h) (over_level t x e),
        λ d. elim (dec_lt i (level t x)) [ yes g ↦ absurd (out x i g d) | no g ↦ level_over t x (omega arith) ],
      )

same_levels : {s t t' : State} {set : Event → Type 0} {n n' : ℕ} → Sound s → Removes s t set n → Removes s t' set n' → (x : Series) → level t x ≤ level t' x
same_levels {s} {t} {t'} sound r r' x = elim (dec_lt (level t' x) (level t x)) [
  | yes h ↦ absurd (stays_out sound r x (level t' x) h (gone_in r' x (level t' x) (omega (arith, h, low (back_under sound (removes_run sound r)) x)) (omega arith)))
  | no h ↦ omega arith
]

-- the end state and the number of undos are unique
pub removes_one : {s t t' : State} {set : Event → Type 0} {n n' : ℕ} → Sound s → Removes s t set n → Removes s t' set n' → (t ≡ t') × (n ≡ n')
removes_one sound r r' = unique sound (removes_run sound r) (removes_run sound r') λ x. omega (arith, same_levels sound r r' x, same_levels sound r' r x)

-- undoing what is accepted and in the set never spoils the rest
pub greedy : {s m t : State} {set : Event → Type 0} {n : ℕ} (x : Series) → Sound s → Removes s t set n → run_state (undo_of x) s ≡ some m → set (event x (level m x))
    → (k : ℕ) × (n ≡ suc k) × Removes m t set k
greedy {s} {m} {t} {set} {n} x sound r e inside = go (undone_of x sound e)
  where
    go : Undone s m x → (k : ℕ) × (n ≡ suc k) × Removes m t set k
    go u =
        let down_to = lower sound u.does u.undoes_it in
        let here : set (event (line_of u.deed) (level (apply u.move s) (line_of u.deed))) = subst₂ (λ y z. set (event y (level z y))) (sym u.on) (sym u.gives) inside in
        let less : level t (line_of u.deed) < level s (line_of u.deed) = elim (dec_lt (level t (line_of u.deed)) (level s (line_of u.deed))) [
          | yes h ↦ h
          | no h ↦ absurd (stays_out sound r (line_of u.deed) (level (apply u.move s) (line_of u.deed)) (omega (arith, down_to.at)) here)
        ] in
        let (k, i, q) = front sound u.does u.undoes_it (removes_run sound r) less in
        (k, i, subst (λ z. Removes z t set k) u.gives (removes_of q (stays_out sound r) (λ y j h g. gone_in r y j (omega (arith, low down_to.under y)) g)))

-- ---- the count: each undo takes one event
abbrev pub sum : ℕ → (ℕ → ℕ) → ℕ
sum zero f = 0
sum (suc n) f = f n + sum n f

-- the sum of a number for each line, over the first so many places
unfoldable pub total : ℕ → (Series → ℕ) → ℕ
total places k = sum places λ p. k (entries_of p) + k (deliveries_to p)

pub sum_same : (n : ℕ) (f g : ℕ → ℕ) → ((y : ℕ) → y < n → f y ≡ g y) → sum n f ≡ sum n g
sum_same zero f g e = refl
sum_same (suc n) f g e = omega (arith, e n (omega arith), sum_same n f g (λ y h. e y (omega arith)))

sum_one : (n x : ℕ) (f g : ℕ → ℕ) → x < n → f x ≡ suc (g x) → ((y : ℕ) → x ≢ y → f y ≡ g y) → sum n f ≡ suc (sum n g)
sum_one zero x f g h i e = absurd (omega arith)
sum_one (suc n) x f g h i e = elim (ℕ_discrete x n) [
  | yes z ↦ omega (arith, sum_same n f g (λ y h. e y (λ u. omega arith)), ap f z, ap g z, i)
  | no z ↦ omega (arith, sum_one n x f g (omega arith) i e, e n z)
]

lines_apart : {x y : ℕ} → entries_of x ≢ deliveries_to y
lines_apart e = let z : ◌≡◌ {A = ℕ} 0 1 = cc in omega arith

off_entries : {x y : ℕ} → x ≢ y → entries_of x ≢ entries_of y
off_entries n e = n (cc)

off_deliveries : {x y : ℕ} → x ≢ y → deliveries_to x ≢ deliveries_to y
off_deliveries n e = n (cc)

size_down : {s t : State} (places p : ℕ) (x : Series) → p < places → (x ≡ entries_of p) ⊎ (x ≡ deliveries_to p) → Down s t x → total places (level s) ≡ suc (total places (level t))
unfolding total
size_down {s} {t} places p x h (inl e) d = sum_one places p _ _ h (omega (arith, rw e at d.at, d.off (deliveries_to p) (λ z. lines_apart (sym e ∙ z))))
    λ y n. omega (arith, d.off (entries_of y) (λ z. off_entries n (sym e ∙ z)), d.off (deliveries_to y) (λ z. lines_apart (sym e ∙ z)))
size_down {s} {t} places p x h (inr e) d = sum_one places p _ _ h (omega (arith, rw e at d.at, d.off (entries_of p) (λ z. lines_apart (sym (sym e ∙ z)))))
    λ y n. omega (arith, d.off (deliveries_to y) (λ z. off_deliveries n (sym e ∙ z)), d.off (entries_of y) (λ z. lines_apart (sym (sym e ∙ z))))

pool_below : {s : State} {p : ℕ} → Sound s → in_pool s p ≡ true → p < s.sizes.places
pool_below {s} {p} sound i = elim (dec_lt p s.sizes.places) [ yes h ↦ h | no h ↦ true_not_false i (sound.pool_ends p (omega arith)) ]

pub one_down : {s : State} {d : Deed} {w : Move} → Sound s → Does s d w → Backward d → total s.sizes.places (level s) ≡ suc (total s.sizes.places (level (apply w s)))
unfolding line_of Backward
one_down sound (forward _ _ _ _) x = absurd x
one_down {s} sound (backward {p} i un) x = size_down s.sizes.places p (entries_of p) (pool_below sound (in_pool_lem s p i)) (inl refl) (lower sound (backward i un) x)
one_down sound (sched _ _) x = absurd x
one_down {s} sound (unsched {t} m v i g) x = size_down s.sizes.places t (deliveries_to t) (pool_below sound v) (inr refl) (lower sound (unsched m v i g) x)

-- a run is as long as the number of events that it removes
pub counted : {s t : State} {n : ℕ} → Sound s → Back s t n → total s.sizes.places (level s) ≡ n + total s.sizes.places (level t)
counted sound halt = omega arith
counted {s} {t} sound (took {w} {n} a x r) = omega (arith, one_down sound a x, subst (λ z. total z.places (level (apply w s)) ≡ n + total z.places (level t)) (same_sizes w s) (counted (sound_undone sound a x) r))
