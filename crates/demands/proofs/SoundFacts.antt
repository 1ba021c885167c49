-- What the proofs read off a sound state.
use Prim.Native.Nat.{ℕ, ◌≤◌}
use mathlib.Core.Path.{◌≡◌, refl, ap, subst₂}
use mathlib.Core.Logic.{inl, inr}
use mathlib.Core.Bool.{true}
use mathlib.Core.Option.{Option, none, some}
use mathlib.Core.List.{List, [], ◌∷◌, ◌++◌}
use native.Mathlib.Omega.{arith}
use lib.ListN.{length, length-append}
use Rattle.rules.specs.State.{Message, letter, Taking, taking, as_rec, as_spawn, Entry, State, history_at, in_pool}
use Rattle.rules.specs.Flight.{sent, taken, left_or, left}
use Rattle.rules.specs.Sound.{SentTo, Prefix, Flows, SpawnedBy, Sound}
use Rattle.rules.specs.Standing.{Suffix}
use Rattle.demands.proofs.Messages.{Is, any_left, any_right, any_find, all_at, Named}
use Rattle.demands.proofs.Histories.{suffix_entry}
use Rattle.demands.proofs.Questions.{Among, Came}

-- the flow of one entry with the older ones
abbrev pub FlowsBy : Option Taking → List Entry → List Message → Type 0
FlowsBy o older queue = elim o as (λ x. Type 0) [
  | none ↦ Flows older queue
  | some (taking before m after) ↦ Prefix (before ++ after) queue × Flows older (before ++ (m ∷ after))
]

-- ---- what the newest rec left is a prefix of the queue
pub flows_left : (h : List Entry) (queue : List Message) → Flows h queue → Prefix (left h) queue
unfolding Flows left left_or
flows_left [] queue f = record { others = queue; whole = refl }
flows_left (e ∷ h) queue f = go (as_rec e.kind) f (flows_left h queue)
  where
    go : (o : Option Taking) → FlowsBy o h queue → (Flows h queue → Prefix (left h) queue) → Prefix (left_or o (left h)) queue
    go none f r = r f
    go (some (taking before m after)) f r = f.0

pub prefix_length : {front queue : List Message} → Prefix front queue → length front ≤ length queue
prefix_length {front} {queue} p = omega (arith, ap length p.whole, length-append front p.others)

module _ {s : State} (sound : Sound s) where
  -- every message that has come was sent, to where it came
  pub mail : {m : Message} (t : ℕ) → Among (Is m) s t → SentTo s t m
  mail {m} t (inl x) = all_at (SentTo s t) (s.queues t ++ taken (history_at s t)) (sound.nothing_else t) (any_left (taken (history_at s t)) x)
  mail {m} t (inr x) = all_at (SentTo s t) (s.queues t ++ taken (history_at s t)) (sound.nothing_else t) (any_right (s.queues t) x)

  pub mail_named : (sender k t : ℕ) → Came s sender k t → (v : List ℕ) × (sent (history_at s sender) k ≡ some (letter t v))
  unfolding SentTo
  mail_named sender k t c = go c
    where
      was : (m : Message) → Named sender k m → Among (Is m) s t → (v : List ℕ) × (sent (history_at s sender) k ≡ some (letter t v))
      was m n am = (m.value, subst₂ (λ a b. sent (history_at s a) b ≡ some (letter t m.value)) n.sender n.count (mail t am))

      go : Came s sender k t → (v : List ℕ) × (sent (history_at s sender) k ≡ some (letter t v))
      go (inl x) = let r = any_find x in was r.0 r.1 (inl r.2)
      go (inr x) = let r = any_find x in was r.0 r.1 (inr r.2)

  pub left_fits : (t : ℕ) → length (left (history_at s t)) ≤ length (s.queues t)
  left_fits t = prefix_length (flows_left (history_at s t) (s.queues t) (sound.prefixes t))

  -- one place, and one entry there, is the spawn of q
  pub spawned : {q : ℕ} {e : Entry} {g : List Entry} (x : ℕ) → Suffix (e ∷ g) (history_at s x) → as_spawn e.kind ≡ some q → SpawnedBy s q x (length g)
  spawned {e} x stands is = record { entry = e; stands = suffix_entry stands; spawns = is }

  pub spawned_once : {q : ℕ} {e f : Entry} {g h : List Entry} (x y : ℕ) → Suffix (e ∷ g) (history_at s x) → as_spawn e.kind ≡ some q
      → Suffix (f ∷ h) (history_at s y) → as_spawn f.kind ≡ some q → (x ≡ y) × (length g ≡ length h)
  spawned_once {q} {g} {h} x y a i b j = sound.born_once q x (length g) y (length h) (spawned x a i) (spawned y b j)

  pub child_lives : {q : ℕ} {e : Entry} {g : List Entry} (x : ℕ) → Suffix (e ∷ g) (history_at s x) → as_spawn e.kind ≡ some q → in_pool s q ≡ true
  child_lives {q} {g} x a i = sound.children_in_pool q x (length g) (spawned x a i)
