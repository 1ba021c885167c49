-- Pids come only from their spawn: what a reached state keeps, so that a place whose spawn can be undone is nobody's target.
use Prim.Native.Nat.{ℕ, suc}
use mathlib.Core.Path.{◌≡◌, refl, sym, ap}
use mathlib.Core.Option.{Option, none, some}
use mathlib.Core.List.{List, [], ◌∷◌}
use native.Mathlib.Omega.{arith}
use lib.ListN.{length}
use Rattle.lists.proofs.Tests.{none_not_some}
use Rattle.machine.specs.Laws.{Holds}
use Rattle.rules.specs.State.{Message, letter, rec, spawn, self, as_send, as_spawn, Entry, State, history_at}
use Rattle.rules.specs.Flight.{sends}
use Rattle.rules.specs.Commands.{Deed, Move, entry_with}
use Rattle.rules.specs.Independent.{Apart, actor, unspawns, IndependentDeeds}
use Rattle.rules.specs.Sound.{SentTo, Sound}
use Rattle.rules.specs.Standing.{Suffix}
use Rattle.demands.proofs.Does.{Does}
use Rattle.demands.proofs.Histories.{suffix_top, suffix_tail, suffix_length, sent_suffix}
use Rattle.demands.proofs.Frame.{history_of_lem}
use Rattle.demands.proofs.Deeds.{target, Unspawning, unspawning, sending}
use Rattle.demands.proofs.Square.{Calm, apart_sym}
use Rattle.demands.proofs.Positions.{Had, now}
use Rattle.demands.proofs.SoundFacts.{spawned_once}
use Rattle.demands.proofs.SoundControls.{LawsAt, had_good}

-- m stands as a send to t in its sender's history, after the entries g
pub record SentAs (s : State) (m : Message) (t : ℕ) (g : List Entry) : Type 0 where
  pub entry : Entry
  pub stands : Suffix (entry ∷ g) (history_at s m.sender)
  pub sends_it : as_send entry.kind ≡ some (letter t m.value)
  pub count : sends g ≡ m.count

pub sent_as : {s : State} {m : Message} (t : ℕ) → SentTo s t m → (g : List Entry) × SentAs s m t g
unfolding SentTo
sent_as {s} {m} t e =
    let r = sent_suffix (history_at s m.sender) m.count e in
    (r.before, record { entry = r.entry; stands = r.stands; sends_it = r.sends_it; count = r.count })

-- x, with the history g, has learnt of q
pub data Knows (s : State) (q : ℕ) : ℕ → List Entry → Type 0 where
  -- it asked for its own pid
  itself : {before : List ℕ} {g : List Entry} → Knows s q q (entry_with self before ∷ g)
  -- it spawned q
  maker : {x : ℕ} {before : List ℕ} {g : List Entry} → Knows s q x (entry_with (spawn q) before ∷ g)
  -- it knew before
  later : {x : ℕ} {e : Entry} {g : List Entry} → Knows s q x g → Knows s q x (e ∷ g)
  -- it was told
  heard : {x : ℕ} {a b : List Message} {m : Message} {before : List ℕ} {g f : List Entry} → SentAs s m x f → Knows s q m.sender f → Knows s q x (entry_with (rec a m b) before ∷ g)
  -- its maker knew
  born : {x y : ℕ} {before : List ℕ} {f : List Entry} → Suffix (entry_with (spawn x) before ∷ f) (history_at s y) → Knows s q y f → Knows s q x []

-- whoever holds a pid has learnt of it
unfoldable pub Learnt : State → Type 0
Learnt s = (x q : ℕ) (control : List ℕ) (g : List Entry) → Had s x control g → Holds control q → Knows s q x g

-- only the maker knows of a place whose spawn can be undone, and only since it made it
module _ {s after : State} {d : Deed} {q : ℕ} (un : Unspawning s after d q) (sound : Sound s) where
  over : {e : Entry} {g : List Entry} {B : Type 0} (x : ℕ) → (x ≡ un.at) × (length g ≡ suc (length un.rest)) → Suffix (e ∷ g) (history_at s x) → B
  over x (i, j) st = let z = suffix_length st in absurd (omega (arith, ap length un.top, ap (λ y. length (history_at s y)) i))

  pub only_maker : {x : ℕ} {g : List Entry} → Knows s q x g → Suffix g (history_at s x) → (x ≡ un.at) × (length g ≡ suc (length un.rest))
  unfolding as_spawn
  only_maker itself st = let z = suffix_length st in absurd (omega (arith, ap length (history_of_lem s q un.new)))
  only_maker {x} maker st = let r = spawned_once sound x un.at st refl (suffix_top un.top) refl in (r.0, omega (arith, r.1))
  only_maker {x} (later k) st = over x (only_maker k (suffix_tail st)) st
  only_maker (heard {m} z k) st = over m.sender (only_maker k (suffix_tail z.stands)) z.stands
  only_maker (born {y} z k) st = over y (only_maker k (suffix_tail z)) z

pub apart_if : (o o' : Option ℕ) → ((x : ℕ) → o ≡ some x → o' ≡ some x → ⊥) → Apart o o'
unfolding Apart
apart_if none o' f = tt
apart_if (some x) none f = tt
apart_if (some x) (some y) f = λ e. f y (ap some e) refl

pub apart_use : (o o' : Option ℕ) {x y : ℕ} → Apart o o' → o ≡ some x → o' ≡ some y → x ≡ y → ⊥
unfolding Apart
apart_use none o' a e f z = none_not_some e
apart_use (some x) none a e f z = none_not_some f
apart_use (some x) (some y) a e f z = a (cc)

-- no place's spawn is undone by two
pub unspawns_apart : {s : State} {d e : Deed} {w u : Move} → Sound s → Does s d w → Does s e u → Apart (actor d) (actor e) → Apart (unspawns d) (unspawns e)
unfolding as_spawn
unspawns_apart {d} {e} sound a b f = apart_if (unspawns d) (unspawns e) λ x i j.
    let un = unspawning a i in
    let un' = unspawning b j in
    apart_use (actor d) (actor e) f un.acts un'.acts (spawned_once sound un.at un'.at (suffix_top un.top) refl (suffix_top un'.top) refl).0

module _ {s : State} (laws : LawsAt s) (sound : Sound s) (learnt : Learnt s) where
  no_aim : {d e : Deed} {w u : Move} → Does s d w → Does s e u → Apart (actor d) (actor e) → Apart (unspawns d) (target e)
  unfolding Learnt
  no_aim {d} {e} a b f = apart_if (unspawns d) (target e) λ x i j.
      let un = unspawning a i in
      let to = sending b j in
      let held = (laws.send (had_good laws sound (now to.has)) to.about).target_pid in
      let maker-is = only_maker un sound (learnt to.at x to.control to.rest (now to.has) held) (suffix_top (history_of_lem s to.at to.has)) in
      apart_use (actor d) (actor e) f un.acts to.acts (sym maker-is.0)

  pub calm : {d e : Deed} {w u : Move} → Does s d w → Does s e u → IndependentDeeds d e → Calm d e
  calm {d} {e} a b f = record {
    aim = no_aim a b f.actors;
    aimed = apart_sym (unspawns e) (target d) (no_aim b a (apart_sym (actor d) (actor e) f.actors));
    unspawn_once = unspawns_apart sound a b f.actors;
  }
