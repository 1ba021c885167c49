-- The spawn of a place read from a store, and the link of a send with the spawn of its target.
use Rattle.std.proofs.Common.{None, Some}
use Prim.Native.Nat.{ℕ, ◌+◌, ◌*◌, ◌≤◌, ◌<◌}
use mathlib.Core.Path.{◌≡◌, refl, sym, ◌∙◌, ap, subst}
use mathlib.Core.Bool.{Bool, true, false, ◌&&◌}
use mathlib.Core.Option.{none, some}
use mathlib.Core.List.{List}
use native.Mathlib.Decide.{ℕ_discrete}
use native.Mathlib.Omega.{arith}
use lib.Dec.{eqb}
use lib.ListN.{length}
use Rattle.lists.proofs.Tests.{true_not_false, eqb_same, eqb_of, eqb_apart}
use Rattle.rules.specs.State.{Kind, seq, send, rec, spawn, self, check, as_spawn, Entry, history_at, entry_at}
use Rattle.rules.specs.Sound.{SpawnedBy}
use Rattle.rules.specs.Depends.{Series, is_spawn_of}
use Rattle.demands.proofs.EventDepends.{stands_entry, spawn_of}
use Rattle.store.specs.Image.{IsImage}
use Rattle.store.specs.Layout.{kind_number, number_in, kind_send, kind_spawn}
use Rattle.kinds.specs.declared.Kind.TheVariants.{Spawn}
use Rattle.reading.specs.Reads.{OfState, IsEntry, OfEntry, OfSend, is_numbered}
use Rattle.reading.proofs.Oldest.{entry_exists}
use Rattle.reading.proofs.Slotted.{entry_below, entry_place}
use Rattle.cuts.specs.Bounds.{most_places, most_entries}
use Rattle.cuts.specs.declared.events.Event.{Event}
use Rattle.cuts.specs.declared.link.Link.{Link}
use Rattle.links.specs.Listed.{IsKind, SpawnIn, BornBy, AimsAt, Adds}
use Rattle.links.proofs.LinkAdds.{event_at, add_event, Just, adds_none, adds_one}
use Rattle.links.proofs.LinkReads.{spawn_kind, with_stands, target_at, aim_just, aim_none, unaimed}
use Rattle.links.proofs.LinkWhole.{entry_low}

spawn_not : (kind : Kind) → ¬ (kind_number kind ≡ kind_spawn) → as_spawn kind ≡ none
unfolding kind_number as_spawn
spawn_not seq e = refl
spawn_not (send t v) e = refl
spawn_not (rec a m d) e = refl
spawn_not (spawn q) e = absurd (e refl)
spawn_not self e = refl
spawn_not (check n) e = refl

is_none_lem : (q : ℕ) (e : Entry) → as_spawn e.kind ≡ none → is_spawn_of q (some e) ≡ false
unfolding is_spawn_of
is_none_lem q e i = rw (i, is_spawn_of) refl

is_some_lem : (q c : ℕ) (e : Entry) → as_spawn e.kind ≡ some c → is_spawn_of q (some e) ≡ eqb c q
unfolding is_spawn_of
is_some_lem q c e i = rw (i, is_spawn_of) refl

-- whether an entry is the spawn of a place, as the code asks
numbered_spawn : (q : ℕ) (e : Entry) → is_numbered Spawn q e ≡ is_spawn_of q (some e)
numbered_spawn q e = elim (ℕ_discrete (kind_number e.kind) kind_spawn) [
  | no n ↦ ap (λ (b : Bool). b && eqb (number_in e.kind) q) (eqb_apart _ _ n) ∙ sym (is_none_lem q e (spawn_not e.kind n))
  | yes y ↦ ap (λ (b : Bool). b && eqb (number_in e.kind) q) (eqb_of _ _ y) ∙ sym (is_some_lem q (number_in e.kind) e (spawn_kind e.kind y))
]

-- ---- along the entries of a place
abbrev pub Unspawned : (store : List ℕ) (p q i : ℕ) → Type 0
Unspawned store p q i = OfState store (λ s. (j : ℕ) → j < i → ¬ SpawnedBy s q p j)

module _ (store : List ℕ) (p q : ℕ) where
  pub unspawned_start : Unspawned store p q 0
  unfolding OfState
  unspawned_start s rest holds j h b = omega (arith, h)

  module _ (i : ℕ) (r : Bool) (read : OfState store (OfEntry p i (λ e. r ≡ is_numbered Spawn q e))) where
    pub spawn_here : OfState store (IsEntry p i) → r ≡ true → OfState store (SpawnIn p q (Some i))
    unfolding OfState OfEntry SpawnIn
    spawn_here there-is yes' s rest holds =
        let (e, stands) = entry_exists (history_at s p) i (there-is s rest holds) in
        record { entry = e; stands = stands; spawns = spawn_of q e (sym (read s rest holds e stands ∙ numbered_spawn q e) ∙ yes') }

    pub unspawned_on : Unspawned store p q i → r ≡ false → Unspawned store p q (i + 1)
    unfolding OfState OfEntry
    unspawned_on before no' s rest holds j h b = elim (ℕ_discrete j i) [
      | no n ↦ before s rest holds j (omega (arith, h, n)) b
      | yes e ↦ true_not_false (is_some_lem q q b.entry b.spawns ∙ eqb_same q) (sym (read s rest holds b.entry (subst (λ z. entry_at (history_at s p) z ≡ some b.entry) e b.stands) ∙ numbered_spawn q b.entry) ∙ no')
    ]

  pub unspawned_all : (i end : ℕ) → OfState store (λ s. end ≡ length (history_at s p)) → end ≤ i → Unspawned store p q i → OfState store (SpawnIn p q None)
  unfolding OfState SpawnIn
  unspawned_all i end ends h before s rest holds j b = before s rest holds j (omega (arith, h, ends s rest holds, entry_below (history_at s p) j b.stands)) b

-- ---- along the places
abbrev pub Unborn : (store : List ℕ) (q p : ℕ) → Type 0
Unborn store q p = OfState store (λ s. (u : ℕ) → u < p → (j : ℕ) → ¬ SpawnedBy s q u j)

module _ (store : List ℕ) (q : ℕ) where
  pub unborn_start : Unborn store q 0
  unfolding OfState
  unborn_start s rest holds u h = absurd (omega (arith, h))

  pub unborn_root : q ≡ 0 → OfState store (BornBy q None)
  unfolding OfState BornBy
  unborn_root e s rest holds p i by = holds.sound.place_0_unborn p i (subst (λ z. SpawnedBy s z p i) e by)

  pub born_here : (p i : ℕ) (event : Event) → OfState store (SpawnIn p q (Some i)) → event ≡ event_at (2 * p) i → OfState store (BornBy q (Some event))
  unfolding OfState SpawnIn BornBy
  born_here p i event found e s rest holds = (p, ap (λ z. z.line) e, subst (λ z. SpawnedBy s q p z) (sym (ap (λ z. z.index) e)) (found s rest holds))

  pub unborn_on : (p : ℕ) → Unborn store q p → OfState store (SpawnIn p q None) → Unborn store q (p + 1)
  unfolding OfState SpawnIn
  unborn_on p before nowhere s rest holds u h j b = elim (ℕ_discrete u p) [
    | no n ↦ before s rest holds u (omega (arith, h, n)) j b
    | yes e ↦ nowhere s rest holds j (subst (λ z. SpawnedBy s q z j) e b)
  ]

  pub unborn_all : (p end : ℕ) → OfState store (λ s. end ≡ s.sizes.places) → end ≤ p → Unborn store q p → OfState store (BornBy q None)
  unfolding OfState BornBy
  unborn_all p end ends h before s rest holds u j b =
      let low = entry_place s holds.sound u j (entry_below (history_at s u) j b.stands) in
      before s rest holds u (omega (arith, low, ends s rest holds, h)) j b

-- ---- the link of a send
module _ (store : List ℕ) (p i : ℕ) (there-is : OfState store (IsEntry p i)) where
  module _ (t : ℕ) (kind : OfState store (IsKind p i kind_send)) (aimed : OfState store (OfSend p i (λ target value. t ≡ target))) where
    pub aim_adds : (born own : Event) (links exit : List Link) → own ≡ event_at (2 * p) i → OfState store (BornBy t (Some born)) → exit ≡ add_event links own born → Adds store (AimsAt p i) links exit 1
    unfolding OfState BornBy
    aim_adds born own links exit own-is born-is e = subst (λ r. Adds store (AimsAt p i) links r 1) (sym (e ∙ ap (λ z. add_event links z born) own-is))
        (adds_one links (2 * p) i born.line born.index (AimsAt p i) 1 (omega arith)
        (with_stands store p i there-is (λ s. Just (AimsAt p i s) (2 * p) i born.line born.index) λ s rest holds f g st.
        let (v, is) = target_at store p i there-is t 0 kind aimed s rest holds f g st in
        let (u, other, by) = born-is s rest holds in
        subst (λ y. Just (AimsAt p i s) (2 * p) i y born.index) (sym other) (aim_just holds.sound st is by)))

    pub aim_adds_none : (links : List Link) → OfState store (BornBy t None) → Adds store (AimsAt p i) links links 1
    unfolding OfState BornBy
    aim_adds_none links born = adds_none (AimsAt p i) 1
        (with_stands store p i there-is (λ s. (x : Series) (a : ℕ) (y : Series) (b : ℕ) → ¬ AimsAt p i s x a y b) λ s rest holds e g st.
        let (v, is) = target_at store p i there-is t 0 kind aimed s rest holds e g st in
        aim_none holds.sound st is (born s rest holds))

  pub aim_other : (k : ℕ) (links : List Link) → OfState store (OfEntry p i (λ e. k ≡ kind_number e.kind)) → ¬ (k ≡ kind_send) → Adds store (AimsAt p i) links links 1
  unfolding OfState OfEntry
  aim_other k links read n = adds_none (AimsAt p i) 1
      (with_stands store p i there-is (λ s. (x : Series) (a : ℕ) (y : Series) (b : ℕ) → ¬ AimsAt p i s x a y b) λ s rest holds e g st.
      unaimed holds.sound st (λ z. n (read s rest holds e (stands_entry st) ∙ z)))

-- a spawn stands at a place that there is
pub born_low : (store : List ℕ) (q u j : ℕ) → IsImage store → OfState store (BornBy q (Some (event_at (2 * u) j))) → (u < most_places) × (j < most_entries)
unfolding OfState BornBy
born_low store q u j is_image born = entry_low store is_image u j λ s rest holds.
    let (p, line, by) = born s rest holds in
    let e : p ≡ u = omega (arith, line) in
    subst (λ z. j < length (history_at s z)) e (entry_below (history_at s p) j by.stands)
