-- The set of a rollback is a cut: of each line it takes the newest events. The cut that is computed is the set's.
use Prim.Native.Nat.{ℕ, zero, suc, ◌<◌, ◌≤◌, ◌+◌, ◌-◌}
use mathlib.Core.Path.{◌≡◌, refl, sym, ◌∙◌, ap, subst}
use mathlib.Core.Logic.{◌≢◌, ◌⊎◌, inl, inr}
use mathlib.Core.Bool.{Bool, true, false, not, ◌&&◌}
use mathlib.Core.List.{List, [], ◌∷◌, ◌++◌, map, map-append}
use native.Mathlib.Decide.{ℕ_discrete, dec_lt}
use native.Mathlib.Omega.{arith}
use lib.Dec.{ltb}
use lib.ListN.{length, length-append}
use Rattle.lists.specs.Lists.{any, keep, up_to, joined}
use Rattle.lists.proofs.Tests.{true_not_false, eqb_same, eqb_apart, ltb-true, ltb_of, ltb_over, ltb_false, and_left, and_right, and_of, or_left, not_true, cond_true, cond_false}
use Rattle.lists.proofs.Lists.{keep_nil, keep_true, keep_false, keep_append, joined_next}
use Rattle.lists.specs.Members.{In}
use Rattle.lists.proofs.Members.{in_left, in_right, in_joined, in_map, in_up_to, none_kept, first_kept, in_kept, kept_passes, one_passes, passes}
use Rattle.rules.specs.State.{State, history_of, history_at}
use Rattle.rules.specs.Sound.{Sound}
use Rattle.rules.specs.Depends.{queues_shown, shown_in, arrivals, Series, entries_of, deliveries_to, level, happened, listed, depends_at_once, DependsOn, at_once, chain, WithDependents, Event, event}
use Rattle.rules.specs.Rollback.{Cut, same_series, cut_to, events_on, events_at, events, stays, taken_off, torn, settled, cut_before}
use Rattle.demands.proofs.Frame.{no_process_lem}
use Rattle.demands.proofs.Event.{line?}
use Rattle.demands.proofs.Removal.{in_level, level_in, sum, total, sum_same}

-- ---- a set that holds what depends on it
pub record Upward (s : State) (set : Event → Type 0) : Type 0 where
  pub up : (x y : Series) (i j : ℕ) → depends_at_once s (event x i) (event y j) ≡ true → set (event y j) → set (event x i)

pub dependents_up : (s : State) (x : Series) (i : ℕ) → Upward s (WithDependents s (event x i))
unfolding WithDependents
dependents_up s x i = record { up = go }
  where
    go : (y z : Series) (j k : ℕ) → depends_at_once s (event y j) (event z k) ≡ true → (event x i ≡ event z k) ⊎ DependsOn s (event z k) (event x i) → (event x i ≡ event y j) ⊎ DependsOn s (event y j) (event x i)
    go y z j k e (inl u) = inr (at_once (subst (λ d. depends_at_once s (event y j) d ≡ true) (sym u) e))
    go y z j k e (inr d) = inr (chain e d)

-- both events of a dependence have happened
pub depends_from : (s : State) (x y : Series) (i j : ℕ) → depends_at_once s (event x i) (event y j) ≡ true → i < level s x
unfolding depends_at_once
depends_from s x y i j e = in_level s x (and_left (happened s (event x i)) (happened s (event y j)) (and_left (happened s (event x i) && happened s (event y j)) (listed s (event x i) (event y j)) e))

pub depends_on : (s : State) (x y : Series) (i j : ℕ) → depends_at_once s (event x i) (event y j) ≡ true → j < level s y
unfolding depends_at_once
depends_on s x y i j e = in_level s y (and_right (happened s (event x i)) (happened s (event y j)) (and_left (happened s (event x i) && happened s (event y j)) (listed s (event x i) (event y j)) e))

pub depends_happened : {s : State} {e d : Event} → DependsOn s e d → happened s e ≡ true
unfolding depends_at_once
depends_happened {s} (at_once {e} {d} t) = and_left (happened s e) (happened s d) (and_left (happened s e && happened s d) (listed s e d) t)
depends_happened {s} (chain {e} {f} t rest) = and_left (happened s e) (happened s f) (and_left (happened s e && happened s f) (listed s e f) t)

pub depends_listed : (s : State) (x y : Series) (i j : ℕ) → depends_at_once s (event x i) (event y j) ≡ true → listed s (event x i) (event y j) ≡ true
unfolding depends_at_once
depends_listed s x y i j e = and_right (happened s (event x i) && happened s (event y j)) (listed s (event x i) (event y j)) e

pub depends_of : (s : State) (x y : Series) {i j : ℕ} → i < level s x → j < level s y → listed s (event x i) (event y j) ≡ true → depends_at_once s (event x i) (event y j) ≡ true
unfolding depends_at_once
depends_of s x y h g e = and_of (and_of (level_in s x h) (level_in s y g)) e

-- later events of a line depend on the earlier
pub later_depends : (s : State) (x : Series) {i j : ℕ} → i < j → j < level s x → depends_at_once s (event x j) (event x i) ≡ true
unfolding listed
later_depends s (entries_of p) {i} {j} h g = depends_of s (entries_of p) (entries_of p) g (omega arith) (or_left _ (and_of (eqb_same p) (ltb_of i j h)))
later_depends s (deliveries_to q) {i} {j} h g = depends_of s (deliveries_to q) (deliveries_to q) g (omega arith) (and_of (eqb_same q) (ltb_of i j h))

-- K takes nothing but what is in the set; K is the set's cut
pub record Within (s : State) (set : Event → Type 0) (k : Cut) : Type 0 where
  pub goes : (x : Series) (i : ℕ) → i < level s x → k x ≤ i → set (event x i)

pub record IsCut (s : State) (set : Event → Type 0) (k : Cut) : Type 0 where
  pub goes : (x : Series) (i : ℕ) → i < level s x → k x ≤ i → set (event x i)
  pub stays_out : (x : Series) (i : ℕ) → set (event x i) → k x ≤ i

-- K keeps what its events depend on
pub record Closed (s : State) (k : Cut) : Type 0 where
  pub keeps : (x y : Series) (i j : ℕ) → depends_at_once s (event x i) (event y j) ≡ true → i < k x → j < k y

-- K takes an event off
abbrev pub Off : Cut → Event → Type 0
Off k (event y j) = k y ≤ j

-- a closed cut takes off all that depends on what it takes off
pulled : {s : State} {k : Cut} → Closed s k → (e f : Event) → depends_at_once s e f ≡ true → Off k f → Off k e
pulled {k} closed (event y a) (event z b) e g = elim (dec_lt a (k y)) [ yes u ↦ absurd (let v = closed.keeps y z a b e u in omega arith) | no u ↦ omega arith ]

all_pulled : {s : State} {k : Cut} {e d : Event} → Closed s k → DependsOn s e d → Off k d → Off k e
all_pulled closed (at_once {e} {d} t) g = pulled closed e d t g
all_pulled closed (chain {e} {f} {d} t rest) g = pulled closed e f t (all_pulled closed rest g)

pub gone_with : {s : State} {k : Cut} → Closed s k → (x : Series) (i : ℕ) → k x ≤ i → (y : Series) (j : ℕ) → WithDependents s (event x i) (event y j) → k y ≤ j
unfolding WithDependents
gone_with {k} closed x i h y j (inl u) = subst (Off k) u h
gone_with closed x i h y j (inr d) = all_pulled closed d h

-- a closed cut that takes the event, and only what depends on it, is the set's
pub closed_cut : {s : State} {k : Cut} (x : Series) (i : ℕ) → Closed s k → Within s (WithDependents s (event x i)) k → k x ≤ i → IsCut s (WithDependents s (event x i)) k
closed_cut x i closed within h = record { goes = within.goes; stays_out = gone_with closed x i h }

pub cut_closed : {s : State} {set : Event → Type 0} {k : Cut} → Upward s set → IsCut s set k → Closed s k
cut_closed {s} {set} {k} upward cut = record { keeps = keeps }
  where
    keeps : (x y : Series) (i j : ℕ) → depends_at_once s (event x i) (event y j) ≡ true → i < k x → j < k y
    keeps x y i j e h = elim (dec_lt j (k y)) [
      | yes z ↦ z
      | no z ↦ absurd (let u = cut.stays_out x i (upward.up x y i j e (cut.goes y j (depends_on s x y i j e) (omega arith))) in omega arith)
    ]

-- ---- lowering a cut
same_line : (x : Series) → same_series x x ≡ true
unfolding same_series
same_line (entries_of p) = eqb_same p
same_line (deliveries_to p) = eqb_same p

other_line : (x y : Series) → x ≢ y → same_series x y ≡ false
unfolding same_series
other_line (entries_of p) (entries_of q) n = eqb_apart p q (λ e. n (ap entries_of e))
other_line (entries_of p) (deliveries_to q) n = refl
other_line (deliveries_to p) (entries_of q) n = refl
other_line (deliveries_to p) (deliveries_to q) n = eqb_apart p q (λ e. n (ap deliveries_to e))

pub cut_at : (x : Series) (i : ℕ) (k : Cut) → cut_to x i k x ≡ i
unfolding cut_to
cut_at x i k = cond_true i (k x) (same_line x)

pub cut_off : (x y : Series) (i : ℕ) (k : Cut) → x ≢ y → cut_to x i k y ≡ k y
unfolding cut_to
cut_off x y i k n = cond_false i (k y) (other_line x y n)

pub cut_low : (x : Series) {i : ℕ} (k : Cut) → i ≤ k x → (y : Series) → cut_to x i k y ≤ k y
cut_low x {i} k h y = elim (line? x y) [ yes e ↦ omega (arith, ap (cut_to x i k) (sym e), cut_at x i k, ap k e) | no n ↦ omega (arith, cut_off x y i k n) ]

module _ {s : State} {set : Event → Type 0} (upward : Upward s set) where
  pub upto : (x : Series) {i j : ℕ} → set (event x i) → i < j → j < level s x → set (event x j)
  upto x {i} {j} d h g = upward.up x x j i (later_depends s x h g) d

  pub lowered_within : {k : Cut} (x : Series) (i : ℕ) → Within s set k → (i < level s x → set (event x i)) → Within s set (cut_to x i k)
  lowered_within {k} x i within f = record { goes = λ y j h g. go y j h g (line? x y) }
    where
      at_or : (j : ℕ) → j < level s x → i ≤ j → set (event x j)
      at_or j h g = elim (ℕ_discrete i j) [ yes e ↦ subst (λ k. set (event x k)) e (f (omega arith)) | no n ↦ upto x (f (omega arith)) (omega arith) h ]

      go : (y : Series) (j : ℕ) → j < level s y → cut_to x i k y ≤ j → Dec (x ≡ y) → set (event y j)
      go y j h g (no n) = within.goes y j h (omega (arith, cut_off x y i k n))
      go y j h g (yes e) = subst (λ z. set (event z j)) e (at_or j (subst (λ z. j < level s z) (sym e) h) (omega (arith, g, ap (cut_to x i k) (sym e), cut_at x i k)))

-- ---- sums over places
sum_low : (n : ℕ) (f g : ℕ → ℕ) → ((y : ℕ) → f y ≤ g y) → sum n f ≤ sum n g
sum_low zero f g e = omega arith
sum_low (suc n) f g e = omega (arith, e n, sum_low n f g e)

sum_less : (n x : ℕ) (f g : ℕ → ℕ) → x < n → f x < g x → ((y : ℕ) → f y ≤ g y) → sum n f < sum n g
sum_less zero x f g h i e = absurd (omega arith)
sum_less (suc n) x f g h i e = elim (ℕ_discrete x n) [ yes z ↦ omega (arith, sum_low n f g e, ap f z, ap g z, i) | no z ↦ omega (arith, sum_less n x f g (omega arith) i e, e n) ]

-- the place of a line
abbrev pub place_of : Series → ℕ
place_of (entries_of p) = p
place_of (deliveries_to q) = q

pub total_less : (places : ℕ) (x : Series) (k j : Cut) → place_of x < places → k x < j x → ((y : Series) → k y ≤ j y) → total places k < total places j
unfolding total
total_less places (entries_of p) k j h g e = sum_less places p _ _ h (omega (arith, g, e (deliveries_to p))) (λ y. omega (arith, e (entries_of y), e (deliveries_to y)))
total_less places (deliveries_to p) k j h g e = sum_less places p _ _ h (omega (arith, g, e (entries_of p))) (λ y. omega (arith, e (entries_of y), e (deliveries_to y)))

pub total_low : (places : ℕ) (k j : Cut) → ((y : Series) → k y ≤ j y) → total places k ≤ total places j
unfolding total
total_low places k j e = sum_low places _ _ (λ y. omega (arith, e (entries_of y), e (deliveries_to y)))

-- one round
torn? : (s : State) (k : Cut) → (torn s k ≡ []) ⊎ ((x : Series) × (i : ℕ) × (es : List Event) × (torn s k ≡ event x i ∷ es))
torn? s k = go (torn s k)
  where
    go : (l : List Event) → (l ≡ []) ⊎ ((x : Series) × (i : ℕ) × (es : List Event) × (l ≡ event x i ∷ es))
    go [] = inl refl
    go (event x i ∷ es) = inr (x, i, es, refl)

settled_nil : (s : State) (n : ℕ) (k : Cut) → torn s k ≡ [] → settled s n k ≡ k
unfolding settled
settled_nil s zero k e = refl
settled_nil s (suc n) k e = rw (e, settled) refl

settled_cons : (s : State) (n : ℕ) (k : Cut) {x : Series} {i : ℕ} {es : List Event} → torn s k ≡ event x i ∷ es → settled s (suc n) k ≡ settled s n (cut_to x i k)
unfolding settled
settled_cons s n k e = rw (e, settled) refl

-- no event has happened at a place that is none
module _ {s : State} (sound : Sound s) where
  idle : (x : Series) → s.sizes.places ≤ place_of x → level s x ≡ 0
  unfolding level arrivals history_at history_of queues_shown shown_in keep
  idle (entries_of p) h = ap (λ o. length (history_of o)) (no_process_lem s p (sound.pool_ends p h))
  idle (deliveries_to p) h =
      ap (λ o. length (shown_in [] (queues_shown (history_of o) (s.queues p)))) (no_process_lem s p (sound.pool_ends p h))
      ∙ ap (λ q. length (shown_in [] (queues_shown [] q))) (sound.no_queue_elsewhere p (sound.pool_ends p h))

  pub place_below : (x : Series) {i : ℕ} → i < level s x → place_of x < s.sizes.places
  place_below x h = elim (dec_lt (place_of x) s.sizes.places) [ yes g ↦ g | no g ↦ absurd (omega (arith, h, idle x (omega arith))) ]

  -- all events that have happened are listed
  pub in_events : (x : Series) {i : ℕ} → i < level s x → In (event x i) (events s)
  unfolding events events_at events_on
  in_events x {i} h = in_joined (at x h) (in_map (events_at s) (in_up_to s.sizes.places (place_below x h)))
    where
      at : (x : Series) → i < level s x → In (event x i) (events_at s (place_of x))
      at (entries_of p) h = in_left (events_on s (deliveries_to p)) (in_map (event (entries_of p)) (in_up_to (level s (entries_of p)) h))
      at (deliveries_to q) h = in_right (events_on s (entries_of q)) (in_map (event (deliveries_to q)) (in_up_to (level s (deliveries_to q)) h))

  -- ---- the fixpoint
  -- an event that is torn is kept, and depends at once on one that goes
  torn_is : (k : Cut) (x : Series) (i : ℕ) (es : List Event) → torn s k ≡ event x i ∷ es → (i < k x) × ((y : Series) × (j : ℕ) × (depends_at_once s (event x i) (event y j) ≡ true) × (k y ≤ j))
  unfolding torn taken_off stays depends_at_once
  torn_is k x i es e =
      let t = first_kept (λ e. stays k e && any (depends_at_once s e) (taken_off s k)) (events s) e in
      let (f, n, d) = one_passes (depends_at_once s (event x i)) (taken_off s k) (and_right (ltb i (k x)) (any (depends_at_once s (event x i)) (taken_off s k)) t) in
      (ltb-true i (k x) (and_left (ltb i (k x)) (any (depends_at_once s (event x i)) (taken_off s k)) t), from f n d)
    where
      from : (f : Event) → In f (taken_off s k) → depends_at_once s (event x i) f ≡ true → (y : Series) × (j : ℕ) × (depends_at_once s (event x i) (event y j) ≡ true) × (k y ≤ j)
      from (event y j) n d = (y, j, d, ltb_false j (k y) (not_true (ltb j (k y)) (kept_passes (λ e. not (stays k e)) (events s) n)))

  none_torn : (k : Cut) → torn s k ≡ [] → Closed s k
  unfolding torn taken_off stays depends_at_once
  none_torn k e = record { keeps = keeps }
    where
      keeps : (x y : Series) (i j : ℕ) → depends_at_once s (event x i) (event y j) ≡ true → i < k x → j < k y
      keeps x y i j d h = elim (dec_lt j (k y)) [
        | yes g ↦ g
        | no g ↦
            let off : In (event y j) (taken_off s k) = in_kept (λ e. not (stays k e)) (events s) (in_events y (depends_on s x y i j d)) (ap not (ltb_over j (k y) (omega arith))) in
            let torn_one : (stays k (event x i) && any (depends_at_once s (event x i)) (taken_off s k)) ≡ true = and_of (ltb_of i (k x) h) (passes (depends_at_once s (event x i)) (taken_off s k) off d) in
            true_not_false torn_one (none_kept (λ e. stays k e && any (depends_at_once s e) (taken_off s k)) (events s) e (in_events x (depends_from s x y i j d)))
      ]

  module _ {set : Event → Type 0} (upward : Upward s set) where
    -- what a lowering needs and gives
    record Fits (k : Cut) : Type 0 where
      within : Within s set k
      low : (x : Series) → k x ≤ level s x

    lowering : {k : Cut} (x : Series) (i : ℕ) (es : List Event) → Fits k → torn s k ≡ event x i ∷ es → Fits (cut_to x i k) × (total s.sizes.places (cut_to x i k) < total s.sizes.places k)
    lowering {k} x i es fits e =
        let (h, (y, j, d, g)) = torn_is k x i es e in
        let below : (z : Series) → cut_to x i k z ≤ k z = cut_low x k (omega arith) in
        let inside : set (event x i) = upward.up x y i j d (fits.within.goes y j (depends_on s x y i j d) g) in (
          record { within = lowered_within upward x i fits.within (λ _. inside); low = λ z. omega (arith, below z, fits.low z) },
          total_less s.sizes.places x (cut_to x i k) k (place_below x (depends_from s x y i j d)) (omega (arith, h, cut_at x i k)) below,
        )

    pub record Settled (k from : Cut) : Type 0 where
      pub within : Within s set k
      pub lower : (x : Series) → k x ≤ from x
      pub closed : Closed s k

    there_now : (n : ℕ) (k : Cut) → torn s k ≡ [] → Fits k → Settled (settled s n k) k
    there_now n k e fits = subst (λ k'. Settled k' k) (sym (settled_nil s n k e)) (record { within = fits.within; lower = λ x. omega arith; closed = none_torn k e })

    settled_is : (n : ℕ) (k : Cut) → total s.sizes.places k ≤ n → Fits k → Settled (settled s n k) k
    settled_is zero k h fits = elim (torn? s k) [
      | inl e ↦ there_now zero k e fits
      | inr z ↦ let (x, i, es, e) = z in absurd (omega (arith, (lowering x i es fits e).1))
    ]
    settled_is (suc n) k h fits = elim (torn? s k) [
      | inl e ↦ there_now (suc n) k e fits
      | inr z ↦
          let (x, i, es, e) = z in
          let (better, less) = lowering x i es fits e in
          let r = settled_is n (cut_to x i k) (omega (arith, less, h)) better in
          subst (λ k'. Settled k' k) (sym (settled_cons s n k e)) (record {
            within = r.within;
            lower = λ y. omega (arith, r.lower y, cut_low x {i = i} k (let z = (torn_is k x i es e).0 in omega arith) y);
            closed = r.closed;
          })
    ]

    -- from a cut that takes only what is in the set, the fixpoint takes only that too
    pub settles : (k : Cut) → Within s set k → ((x : Series) → k x ≤ level s x) → total s.sizes.places (level s) ≤ length (events s) → Settled (settled s (length (events s)) k) k
    settles k within low h = settled_is (length (events s)) k (omega (arith, h, total_low s.sizes.places k (level s) low)) (record { within = within; low = low })

-- ---- how many events a cut takes off
module _ (test : Event → Bool) where
  kept_append : (xs ys : List Event) → length (keep test (xs ++ ys)) ≡ length (keep test xs) + length (keep test ys)
  kept_append xs ys = ap length (keep_append test xs ys) ∙ length-append (keep test xs) (keep test ys)

  kept_joined : (f : ℕ → List Event) (n : ℕ) → length (keep test (joined (map f (up_to n)))) ≡ sum n (λ p. length (keep test (f p)))
  unfolding joined up_to
  kept_joined f zero = ap length (keep_nil test)
  kept_joined f (suc n) = ap (λ z. length (keep test z)) (joined_next f n) ∙ omega (arith, kept_append (joined (map f (up_to n))) (f n), kept_joined f n)

  kept_events : (s : State) → length (keep test (events s)) ≡ sum s.sizes.places (λ p. length (keep test (events_on s (entries_of p))) + length (keep test (events_on s (deliveries_to p))))
  unfolding events events_at
  kept_events s = kept_joined (events_at s) s.sizes.places ∙ sum_same s.sizes.places _ _ (λ p h. kept_append (events_on s (entries_of p)) (events_on s (deliveries_to p)))

-- of the first n events of a line
off_line : (k : Cut) (x : Series) (n : ℕ) → length (keep (λ e. not (stays k e)) (map (event x) (up_to n))) ≡ n - k x
unfolding up_to stays
off_line k x zero = ap length (keep_nil (λ e. not (stays k e))) ∙ omega arith
off_line k x (suc n) =
    ap (λ l. length (keep (λ e. not (stays k e)) l)) (map-append (event x) (up_to n) (n ∷ []))
    ∙ kept_append (λ e. not (stays k e)) (map (event x) (up_to n)) (event x n ∷ [])
    ∙ elim (dec_lt n (k x)) [
      | yes h ↦ omega (arith, off_line k x n, h, ap length (keep_false (λ e. not (stays k e)) (event x n) [] (ap not (ltb_of n (k x) h)) ∙ keep_nil (λ e. not (stays k e))))
      | no h ↦ omega (arith, off_line k x n, h, ap length (keep_true (λ e. not (stays k e)) (event x n) [] (ap not (ltb_over n (k x) (omega arith)))), ap length (keep_nil (λ e. not (stays k e))))
    ]

-- the count as a sum of differences
pub count_is : (s : State) (k : Cut) → length (taken_off s k) ≡ total s.sizes.places (λ x. level s x - k x)
unfolding taken_off total events_on
count_is s k = kept_events (λ e. not (stays k e)) s
    ∙ sum_same s.sizes.places _ _ (λ p h. omega (arith, off_line k (entries_of p) (level s (entries_of p)), off_line k (deliveries_to p) (level s (deliveries_to p))))

sum_minus : (n : ℕ) (f g h : ℕ → ℕ) → ((y : ℕ) → f y ≡ g y + h y) → sum n f ≡ sum n g + sum n h
sum_minus zero f g h e = omega arith
sum_minus (suc n) f g h e = omega (arith, e n, sum_minus n f g h e)

pub count_off : (s : State) (k : Cut) → ((x : Series) → k x ≤ level s x) → total s.sizes.places (level s) ≡ length (taken_off s k) + total s.sizes.places k
unfolding total
count_off s k low = split s.sizes.places ∙ ap (λ n. n + total s.sizes.places k) (sym (count_is s k))
  where
    split : (n : ℕ) → total n (level s) ≡ total n (λ x. level s x - k x) + total n k
    split n = sum_minus n _ _ _ (λ y. omega (arith, low (entries_of y), low (deliveries_to y)))

-- the cut that keeps nothing takes off all events
all_off : (xs : List Event) → keep (λ e. not (stays (λ x. 0) e)) xs ≡ xs
unfolding stays
all_off [] = keep_nil _
all_off (event x i ∷ xs) = keep_true _ (event x i) xs (ap not (ltb_over i 0 (omega arith))) ∙ ap (λ ys. event x i ∷ ys) (all_off xs)

pub events_many : (s : State) → length (events s) ≡ total s.sizes.places (level s)
unfolding taken_off total
events_many s = ap length (sym (all_off (events s))) ∙ count_is s (λ x. 0) ∙ sum_same s.sizes.places _ _ (λ p h. omega arith)

-- ---- the cut that is computed is the set's
module _ {s : State} (sound : Sound s) (x : Series) (i : ℕ) (h : i < level s x) where
  pub start_low : (y : Series) → cut_to x i (level s) y ≤ level s y
  start_low y = cut_low x {i = i} (level s) (omega arith) y

  pub start_within : Within s (WithDependents s (event x i)) (cut_to x i (level s))
  unfolding WithDependents
  start_within = lowered_within (dependents_up s x i) x i (record { goes = λ y j g z. absurd (omega arith) }) (λ _. inl refl)

  settled_cut : Settled sound (dependents_up s x i) (cut_before s (event x i)) (cut_to x i (level s))
  unfolding cut_before
  settled_cut = settles sound (dependents_up s x i) (cut_to x i (level s)) start_within start_low (omega (arith, events_many s))

  pub cut_is : IsCut s (WithDependents s (event x i)) (cut_before s (event x i))
  cut_is = closed_cut x i settled_cut.closed settled_cut.within (omega (arith, settled_cut.lower x, cut_at x i (level s)))

  pub cut_below : (y : Series) → cut_before s (event x i) y ≤ level s y
  cut_below y = omega (arith, settled_cut.lower y, start_low y)
