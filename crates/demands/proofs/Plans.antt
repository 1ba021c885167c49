-- Plans: what a test that is needed says of an accepted plan; and nothing in flight to a place, as a test and as a statement.
use Prim.Native.Nat.{ℕ, ◌<◌, ◌≤◌}
use mathlib.Core.Path.{◌≡◌, refl, sym, ◌∙◌, ap, subst₂}
use mathlib.Core.Logic.{inl, inr}
use mathlib.Core.Bool.{Bool, true, false, ◌&&◌}
use mathlib.Core.Option.{Option, none, some}
use mathlib.Core.List.{List, [], ◌∷◌}
use native.Mathlib.Decide.{dec_lt}
use native.Mathlib.Omega.{arith}
use lib.Dec.{eqb}
use Rattle.lists.specs.Lists.{any, up_to}
use Rattle.lists.proofs.Tests.{true_not_false, none_not_some, eqb-true, eqb_same, and_left, and_right, and_of, true_or_false}
use Rattle.lists.proofs.Lists.{none_below, none_of_below}
use Rattle.rules.specs.State.{Letter, letter, Entry, Process, State, history_of, history_at, in_pool}
use Rattle.rules.specs.Flight.{sends, sent, flies, flies_to, awaited}
use Rattle.rules.specs.Load.{new_process}
use Rattle.rules.specs.Commands.{Deed, Move, Plan, refuse, accept, need, is_new}
use Rattle.rules.specs.Rules.{InFlight}
use Rattle.demands.proofs.Histories.{sent_below}
use Rattle.demands.proofs.Frame.{no_process_lem}

pub refused : {B : Type 0} {n : ℕ} {d : Deed} {w : Move} → refuse n ≡ accept d w → B
refused e = let z : ◌≡◌ {A = ℕ} 0 1 = cc in absurd (omega arith)

pub accepted : {d d' : Deed} {w w' : Move} (P : Deed → Move → Type 0) → accept d w ≡ accept d' w' → P d w → P d' w'
accepted {d} {d'} {w} {w'} P e x = let a : d ≡ d' = cc in let b : w ≡ w' = cc in subst₂ P a b x

pub needed : {plan : Plan} {d : Deed} {w : Move} (b : Bool) (n : ℕ) → need b n plan ≡ accept d w → (b ≡ true) × (plan ≡ accept d w)
unfolding need
needed true n e = (refl, e)
needed false n e = refused e

pub need_true : {b : Bool} (n : ℕ) (plan : Plan) → b ≡ true → need b n plan ≡ plan
unfolding need
need_true n plan e = rw e refl

-- the pool ends at P
abbrev pub PoolEnds : State → Type 0
PoolEnds s = (p : ℕ) → s.sizes.places ≤ p → in_pool s p ≡ false

-- ---- nothing in flight to q
abbrev pub Quiet : State → ℕ → Type 0
Quiet s q = (sender k : ℕ) (value : List ℕ) → ¬ InFlight s sender k q value

pub flies_to_lem : (s : State) (q sender k : ℕ) {value : List ℕ} → InFlight s sender k q value → flies_to s q sender k ≡ true
unfolding flies_to
flies_to_lem s q sender k f = rw (flies_to, f.out) (and_of (eqb_same q) f.up)

pub to_flies : (s : State) (q sender k : ℕ) → flies_to s q sender k ≡ true → (value : List ℕ) × InFlight s sender k q value
unfolding flies_to
to_flies s q sender k e = go (sent (history_at s sender) k) refl e
  where
    go : (o : Option Letter) → sent (history_at s sender) k ≡ o → (elim o as (λ x. Bool) [ none ↦ false | some (letter t v) ↦ eqb t q && flies s sender k t ]) ≡ true
        → (value : List ℕ) × InFlight s sender k q value
    go none i e = true_not_false e refl
    go (some (letter t v)) i e =
        let same : t ≡ q = eqb-true t q (and_left (eqb t q) (flies s sender k t) e) in
        (v, record { out = i ∙ ap (λ x. some (letter x v)) same; up = rw same at (and_right (eqb t q) (flies s sender k t) e) })

pub quiet_of : (s : State) (q : ℕ) → PoolEnds s → awaited s q ≡ false → Quiet s q
unfolding awaited sent history_at history_of
quiet_of s q ends e sender k value f = go (dec_lt sender s.sizes.places)
  where
    go : Dec (sender < s.sizes.places) → ⊥
    go (yes h) = true_not_false (flies_to_lem s q sender k f)
        (none_below (flies_to s q sender) (sends (history_at s sender)) (none_below (λ x. any (flies_to s q x) (up_to (sends (history_at s x)))) s.sizes.places e sender h) k (sent_below (history_at s sender) k f.out))
    go (no h) = none_not_some (ap (λ o. sent (history_of o) k) (sym (no_process_lem s sender (ends sender (omega arith)))) ∙ f.out)

pub of_quiet : (s : State) (q : ℕ) → Quiet s q → awaited s q ≡ false
unfolding awaited
of_quiet s q n = none_of_below (λ x. any (flies_to s q x) (up_to (sends (history_at s x)))) s.sizes.places (λ sender h. none_of_below (flies_to s q sender) (sends (history_at s sender)) (λ k g. flown sender k))
  where
    flown : (sender k : ℕ) → flies_to s q sender k ≡ false
    flown sender k = elim (true_or_false (flies_to s q sender k)) [ inl e ↦ absurd (let r = to_flies s q sender k e in n sender k r.0 r.1) | inr e ↦ e ]

-- ---- a process with no entries
pub new_of : (o : Option Process) → is_new o ≡ true → (first : List ℕ) × (o ≡ some (new_process first))
unfolding is_new
new_of none e = true_not_false e refl
new_of (some a) e = go a.history refl e
  where
    go : (h : List Entry) → a.history ≡ h → (elim h as (λ x. Bool) [ [] ↦ true | x ∷ older ↦ false ]) ≡ true → (first : List ℕ) × (some a ≡ some (new_process first))
    go [] i e = (a.control, λ j. some (record { control = a.control; history = i j }))
    go (x ∷ h) i e = true_not_false e refl

pub of_new : {o : Option Process} {first : List ℕ} → o ≡ some (new_process first) → is_new o ≡ true
unfolding is_new
of_new e = rw e refl
