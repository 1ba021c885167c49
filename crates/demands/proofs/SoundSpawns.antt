-- The pool and the spawns of a sound state stay sound.
use Prim.Native.Nat.{ℕ, ◌<◌, ◌≤◌}
use mathlib.Core.Path.{◌≡◌, refl, sym, ◌∙◌, ap, subst}
use mathlib.Core.Logic.{◌⊎◌, inl, inr}
use mathlib.Core.Bool.{true, false}
use mathlib.Core.Option.{some}
use mathlib.Core.List.{List, ◌∷◌}
use native.Mathlib.Omega.{arith}
use lib.ListN.{length}
use Rattle.lists.proofs.Tests.{true_not_false, true_or_false}
use Rattle.rules.specs.State.{Kind, spawn, as_spawn, Entry, State, history_at, entry_at, in_pool}
use Rattle.rules.specs.Commands.{Deed, makes, Move, apply, entry_with}
use Rattle.rules.specs.Rules.{process}
use Rattle.rules.specs.Independent.{Apart, spawns_into, unspawns}
use Rattle.rules.specs.Sound.{SpawnedBy, Sound}
use Rattle.rules.specs.Standing.{Suffix}
use Rattle.demands.proofs.Does.{Does, forward}
use Rattle.demands.proofs.Histories.{suffix_top, suffix_length, suffix_entry, entry_suffix}
use Rattle.demands.proofs.Frame.{Turned, same, grown, shrunk, turned, same_sizes, not_in_pool}
use Rattle.demands.proofs.Deeds.{spawning, Unspawning, unspawning, process_history}
use Rattle.demands.proofs.Questions.{at?, stays_live, stays_free, spawns_free, spawns_live}
use Rattle.demands.proofs.Positions.{New, suffix_was, suffix_stays}
use Rattle.demands.proofs.SoundFacts.{spawned_once, child_lives}

-- a history that grows has room
pub room_for : {s : State} {x : ℕ} {kind : Kind} {w : Move} {control : List ℕ} {h : List Entry} → Does s (makes x kind) w → s.processes x ≡ some (process control h) → length h < s.sizes.entries
room_for (forward i mk r z) j = rw (process_history (sym j ∙ i)) r

-- the spawn of q as an entry with the older ones
pub record SpawnOf (s : State) (q p i : ℕ) : Type 0 where
  pub entry : Entry
  pub before : List Entry
  pub stands : Suffix (entry ∷ before) (history_at s p)
  pub spawns : as_spawn entry.kind ≡ some q
  pub number : length before ≡ i

pub spawn_of : {s : State} {q p i : ℕ} → SpawnedBy s q p i → SpawnOf s q p i
spawn_of {s} {p} {i} b = let (g, st, n) = entry_suffix (history_at s p) i b.stands in record { entry = b.entry; before = g; stands = st; spawns = b.spawns; number = n }

pub spawned_by : {s : State} {q p i : ℕ} → SpawnOf s q p i → SpawnedBy s q p i
spawned_by {s} {p} b = record { entry = b.entry; stands = ap (entry_at (history_at s p)) (sym b.number) ∙ suffix_entry b.stands; spawns = b.spawns }

module _ {s : State} (sound : Sound s) {d : Deed} {w : Move} (a : Does s d w) where
  -- a new entry that is a spawn
  new_spawn : {x q : ℕ} {e : Entry} {g : List Entry} → New s d x e g → as_spawn e.kind ≡ some q → spawns_into d ≡ some q
  unfolding spawns_into
  new_spawn n i = ap spawns_into n.is ∙ i

  -- the undone spawn of q was the newest entry of the place where it stood
  no_spawn_left : {q : ℕ} {e : Entry} {g : List Entry} {B : Type 0} (x : ℕ) → Unspawning s (apply w s) d q → Suffix (e ∷ g) (history_at s x) → as_spawn e.kind ≡ some q
      → Suffix (e ∷ g) (history_at (apply w s) x) → B
  unfolding as_spawn
  no_spawn_left x un was is st =
      let once = spawned_once sound x un.at was is (suffix_top un.top) refl in
      let z = suffix_length st in
      absurd (omega (arith, once.1, ap length un.left, ap (λ y. length (history_at (apply w s) y)) once.0))

  keeps_spawn : (q : ℕ) → q ≡ 0 → Apart (unspawns d) (some q)
  unfolding as_spawn
  keeps_spawn q z = elim (at? q (unspawns d)) [
    | inl e ↦ let un = unspawning a e in
        absurd (sound.place_0_unborn un.at (length un.rest) (record { entry = entry_with (spawn q) un.before; stands = suffix_entry (suffix_top un.top); spawns = ap some z }))
    | inr n ↦ n
  ]

  pub place_0_after : in_pool (apply w s) 0 ≡ true
  place_0_after = stays_live 0 a sound.place_0 (keeps_spawn 0 refl)

  pub pool_ends_after : (p : ℕ) → (apply w s).sizes.places ≤ p → in_pool (apply w s) p ≡ false
  pool_ends_after p h = go (at? p (spawns_into d))
    where
      beyond : s.sizes.places ≤ p
      beyond = rw (same_sizes w s) at h

      go : (spawns_into d ≡ some p) ⊎ Apart (spawns_into d) (some p) → in_pool (apply w s) p ≡ false
      go (inl e) = absurd (omega (arith, (spawning a e).place, beyond))
      go (inr n) = stays_free a p (sound.pool_ends p beyond) n

  pub history_fits_after : (p : ℕ) → length (history_at (apply w s) p) ≤ (apply w s).sizes.entries
  history_fits_after p = subst (λ sizes. length (history_at (apply w s) p) ≤ sizes.entries) (sym (same_sizes w s)) (go (turned p a))
    where
      go : Turned s d p (history_at s p) (history_at (apply w s) p) → length (history_at (apply w s) p) ≤ s.sizes.entries
      go (same i) = rw i (sound.history_fits p)
      go (grown kind control i u j mk) = let z = room_for (subst (λ y. Does s y w) u a) j in omega (arith, ap length i, z)
      go (shrunk kind before i u) = omega (arith, ap length i, sound.history_fits p)

  pub born_after : (q : ℕ) → in_pool (apply w s) q ≡ true → ¬ (q ≡ 0) → (p : ℕ) × (i : ℕ) × SpawnedBy (apply w s) q p i
  unfolding as_spawn unspawns
  born_after q live n = go (at? q (spawns_into d)) (true_or_false (in_pool s q))
    where
      old : in_pool s q ≡ true → (p : ℕ) × (i : ℕ) × SpawnedBy (apply w s) q p i
      old i =
          let (p, k, b) = sound.born q i n in
          let o = spawn_of b in (
            p,
            k,
            elim (suffix_stays (turned p a) o.stands) [
              | inl st ↦ spawned_by (record { entry = o.entry; before = o.before; stands = st; spawns = o.spawns; number = o.number })
              | inr u ↦ true_not_false live (not_in_pool (apply w s) q (unspawning a (ap unspawns u.0 ∙ o.spawns)).gone)
            ],
          )

      go : (spawns_into d ≡ some q) ⊎ Apart (spawns_into d) (some q) → (in_pool s q ≡ true) ⊎ (in_pool s q ≡ false) → (p : ℕ) × (i : ℕ) × SpawnedBy (apply w s) q p i
      go (inl e) _ = let new = spawning a e in
          (new.at, length new.rest, record { entry = entry_with (spawn q) new.control; stands = suffix_entry (suffix_top new.top); spawns = refl })
      go (inr x) (inl i) = old i
      go (inr x) (inr i) = true_not_false live (stays_free a q i x)

  pub born_once_after : (q p i p' i' : ℕ) → SpawnedBy (apply w s) q p i → SpawnedBy (apply w s) q p' i' → (p ≡ p') × (i ≡ i')
  born_once_after q p i p' i' b b' =
      let o = spawn_of b in
      let o' = spawn_of b' in
      let r = go o o' (suffix_was (turned p a) o.stands) (suffix_was (turned p' a) o'.stands) in
      (r.0, sym o.number ∙ r.1 ∙ o'.number)
    where
      go : (o : SpawnOf (apply w s) q p i) (o' : SpawnOf (apply w s) q p' i') → Suffix (o.entry ∷ o.before) (history_at s p) ⊎ New s d p o.entry o.before
          → Suffix (o'.entry ∷ o'.before) (history_at s p') ⊎ New s d p' o'.entry o'.before → (p ≡ p') × (length o.before ≡ length o'.before)
      go o o' (inl x) (inl y) = spawned_once sound p p' x o.spawns y o'.spawns
      go o o' (inl x) (inr n) = true_not_false (child_lives sound p x o.spawns) (spawns_free a (new_spawn n o'.spawns))
      go o o' (inr n) (inl y) = true_not_false (child_lives sound p' y o'.spawns) (spawns_free a (new_spawn n o.spawns))
      go o o' (inr n) (inr m) =
          let one : makes p o.entry.kind ≡ makes p' o'.entry.kind = sym n.is ∙ m.is in
          let z : p ≡ p' = cc in
          (z, ap length (process_history (sym n.was ∙ ap s.processes z ∙ m.was)))

  pub place_0_unborn_after : (p i : ℕ) → ¬ SpawnedBy (apply w s) 0 p i
  place_0_unborn_after p i b =
      let o = spawn_of b in
      elim (suffix_was (turned p a) o.stands) [
        | inl st ↦ sound.place_0_unborn p (length o.before) (record { entry = o.entry; stands = suffix_entry st; spawns = o.spawns })
        | inr n ↦ true_not_false sound.place_0 (spawns_free a (new_spawn n o.spawns))
      ]

  pub children_after : (q p i : ℕ) → SpawnedBy (apply w s) q p i → in_pool (apply w s) q ≡ true
  children_after q p i b = let o = spawn_of b in go o (suffix_was (turned p a) o.stands) (at? q (unspawns d))
    where
      go : (o : SpawnOf (apply w s) q p i) → Suffix (o.entry ∷ o.before) (history_at s p) ⊎ New s d p o.entry o.before → (unspawns d ≡ some q) ⊎ Apart (unspawns d) (some q)
          → in_pool (apply w s) q ≡ true
      go o (inr n) z = spawns_live a (new_spawn n o.spawns)
      go o (inl st) (inr z) = stays_live q a (child_lives sound p st o.spawns) z
      go o (inl st) (inl e) = no_spawn_left p (unspawning a e) st o.spawns o.stands
