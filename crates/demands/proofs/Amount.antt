-- A forward step adds one to what is done.
use Prim.Native.Nat.{ℕ, zero, suc, ◌+◌, ◌<◌}
use mathlib.Core.Path.{◌≡◌, refl, sym, ◌∙◌, ap}
use mathlib.Core.Logic.{◌≢◌}
use mathlib.Core.Bool.{true}
use mathlib.Core.Option.{some}
use mathlib.Core.List.{[], ◌∷◌}
use native.Mathlib.Decide.{ℕ_discrete, dec_lt}
use native.Mathlib.Omega.{arith}
use lib.ListN.{length-append}
use Rattle.lists.proofs.Tables.{put_same, put_other}
use Rattle.lists.proofs.Tests.{true_not_false, some_injective}
use Rattle.rules.specs.State.{as_rec, State, history_of, history_at, in_pool}
use Rattle.rules.specs.Flight.{also_taken, taken}
use Rattle.rules.specs.Commands.{Deed, makes, undoes, delivers, undelivers, Move, set_process, set_queue, set_beside, apply}
use Rattle.rules.specs.Rules.{message}
use Rattle.rules.specs.Independent.{Apart, acts_at}
use Rattle.rules.specs.Sound.{Sound}
use Rattle.rules.specs.Reverse.{done_at, total, amount_done}
use Rattle.rules.proofs.Oldest.{pick_is}
use Rattle.demands.proofs.Does.{alone, by_send, by_receive, by_spawn, Does, forward, backward, sched, unsched}
use Rattle.demands.proofs.Views.{made_alone, alone_rec}
use Rattle.demands.proofs.Frame.{Turned, same, grown, shrunk, turned, same_sizes, keep_queue, in_pool_lem}
use Rattle.demands.proofs.Questions.{flight_lives}
use Rattle.demands.proofs.Square.{actor_apart, mailbox_apart, receiver_apart}
use Rattle.demands.proofs.Undo.{Backward}

-- ---- totals
pub total_same : (f g : ℕ → ℕ) (n : ℕ) → ((q : ℕ) → q < n → g q ≡ f q) → total g n ≡ total f n
unfolding total
total_same f g zero h = refl
total_same f g (suc n) h = let z = total_same f g n (λ q b. h q (omega arith)) in omega (arith, h n (omega arith), z)

pub total_grows : (f g : ℕ → ℕ) (n p : ℕ) → p < n → g p ≡ suc (f p) → ((q : ℕ) → p ≢ q → g q ≡ f q) → total g n ≡ suc (total f n)
unfolding total
total_grows f g zero p b e h = absurd (omega arith)
total_grows f g (suc n) p b e h = go (ℕ_discrete p n) (λ b. total_grows f g n p b e h)
  where
    go : Dec (p ≡ n) → (p < n → total g n ≡ suc (total f n)) → total g n + g n ≡ suc (total f n + f n)
    go (yes i) r = omega (arith, total_same f g n (λ q b. h q (λ z. omega arith)), ap g i, ap f i)
    go (no i) r = omega (arith, r (omega arith), h n i)

-- ---- at one place
-- the place of a deed gains one, ..
gains : {s : State} {d : Deed} {w : Move} (x : ℕ) → Does s d w → ¬ Backward d → acts_at d ≡ some x → done_at (apply w s) x ≡ suc (done_at s x)
unfolding apply set_beside set_process set_queue done_at history_at history_of taken also_taken as_rec acts_at Backward
gains {s} x (forward {p} i (alone j) _ _) n e =
    let z = some_injective e in
    rw (put_same p _ s.processes x z, ← z, i, alone_rec (made_alone j)) (omega arith)
gains {s} x (forward {p} i (by_send _ _) _ _) n e = let z = some_injective e in rw (put_same p _ s.processes x z, ← z, i) (omega arith)
gains {s} x (forward {p} i (by_receive {takes} {m} {older} {newer} _ j) _ _) n e =
    let z = some_injective e in
    rw (put_same p _ s.processes x z, put_same p _ s.queues x z, ← z, i, pick_is takes (s.queues p) j, length-append older newer, length-append older (m ∷ newer)) (omega arith)
gains {s} x (forward {p} i (by_spawn {f} _ _ free) _ _) n e =
    let z = some_injective e in
    rw (put_other f _ _ x (λ y. true_not_false (in_pool_lem s p i) (ap (in_pool s) (z ∙ sym y) ∙ free)), put_same p _ s.processes x z, ← z, i) (omega arith)
gains x (backward _ _) n e = absurd (n tt)
gains {s} x (sched {sender} {k} {t} {value} {queue} f i) n e =
    let z = some_injective e in
    rw (put_same t _ s.queues x z, ← z, i, length-append queue (message sender k value ∷ [])) (omega arith)
gains x (unsched _ _ _ _) n e = absurd (n tt)

-- .. and every other place stays
stays_done : {s : State} {d : Deed} {w : Move} (x : ℕ) → Does s d w → ¬ Backward d → Apart (acts_at d) (some x) → done_at (apply w s) x ≡ done_at s x
unfolding done_at Apart acts_at Backward
stays_done {s} {d} {w} x a n off = rw (history_stays (turned x a), keep_queue x a (mailbox_apart d (some x) off) (receiver_apart d (some x) (actor_apart d (some x) off))) refl
  where
    history_stays : Turned s d x (history_at s x) (history_at (apply w s) x) → history_at (apply w s) x ≡ history_at s x
    history_stays (same i) = i
    history_stays (grown kind control i u _ _) = absurd ((rw u at off) refl)
    history_stays (shrunk kind before i u) = absurd ((rw u at n) tt)

acts_somewhere : (d : Deed) → (x : ℕ) × (acts_at d ≡ some x)
unfolding acts_at
acts_somewhere (makes p kind) = (p, refl)
acts_somewhere (undoes p count kind) = (p, refl)
acts_somewhere (delivers sender k t) = (t, refl)
acts_somewhere (undelivers t) = (t, refl)

acts_live : {s : State} {d : Deed} {w : Move} {x : ℕ} → Does s d w → acts_at d ≡ some x → in_pool s x ≡ true
unfolding acts_at
acts_live {s} {x} (forward i _ _ _) e = in_pool_lem s x (ap s.processes (sym (some_injective e)) ∙ i)
acts_live {s} {x} (backward i _) e = in_pool_lem s x (ap s.processes (sym (some_injective e)) ∙ i)
acts_live {s} (sched f _) e = ap (in_pool s) (sym (some_injective e)) ∙ flight_lives f
acts_live {s} (unsched _ i _ _) e = ap (in_pool s) (sym (some_injective e)) ∙ i

pub amount_grows : {s : State} {d : Deed} {w : Move} → Sound s → Does s d w → ¬ Backward d → amount_done (apply w s) ≡ suc (amount_done s)
unfolding amount_done Apart
amount_grows {s} {d} {w} sound a n =
    let (x, e) = acts_somewhere d in
    ap (λ sizes. total (done_at (apply w s)) sizes.places) (same_sizes w s)
    ∙ total_grows (done_at s) (done_at (apply w s)) s.sizes.places x (below x e) (gains x a n e) (λ y off. stays_done y a n (rw e off))
  where
    below : (x : ℕ) → acts_at d ≡ some x → x < s.sizes.places
    below x e = elim (dec_lt x s.sizes.places) [ yes h ↦ h | no h ↦ true_not_false (acts_live a e) (sound.pool_ends x (omega arith)) ]
