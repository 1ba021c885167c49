-- Chains of links: an index is made link by link, and a walk from a slot meets every link on an event of that slot.
use Prim.Native.Nat.{ℕ, ◌+◌, ◌≤◌, ◌<◌}
use mathlib.Core.Path.{◌≡◌, refl, sym, ◌∙◌, ap, subst}
use mathlib.Core.List.{List}
use native.Mathlib.Decide.{ℕ_discrete, dec_lt}
use native.Mathlib.Omega.{arith}
use lib.ListN.{length, get_or, set, length-set, length-replicate, get_or-replicate, get_or-eq_default}
use lib.Seq.{get_or-set_same, get_or-set_other}
use Rattle.cuts.specs.Bounds.{most_links}
use Rattle.cuts.specs.declared.link.Link.{Link}
use Rattle.cuts.specs.Links.{from_line, from_index, on_line, on_index, Room}
use Rattle.cuts.specs.Chains.{slot_count, slot_of, index_room, no_chains, Chained, here, there, Indexed, Waiting}

-- a chain goes up
pub chained_low : {index : List ℕ} {j k : ℕ} → Chained index j k → j ≤ k
chained_low here = omega arith
chained_low (there h c) = let l = chained_low c in omega (arith, h, l)

-- past its first link
pub chained_next : {index : List ℕ} {j k : ℕ} → Chained index j k → ¬ (j ≡ k) → Chained index (get_or index (slot_count + j) 0) k
chained_next here n = absurd (n refl)
chained_next (there h c) n = c

-- it stays where nothing from its first link on changes
chained_kept : {l m : List ℕ} {j k : ℕ} (from : ℕ) → ((i : ℕ) → from ≤ i → get_or m (slot_count + i) 0 ≡ get_or l (slot_count + i) 0) → from ≤ j → Chained l j k → Chained m j k
chained_kept from same h here = here
chained_kept {m = m} from same h (there {j} {k} less c) =
    there {j = j} (omega (arith, less, same j h)) (subst (λ i. Chained m i k) (sym (same j h)) (chained_kept from same (omega (arith, less, h)) c))

-- ---- one link more
module _ (links : List Link) (index : List ℕ) (k s : ℕ) (room : Room links) (below : k < length links) (at : s ≡ slot_of (on_line links k) (on_index links k)) (indexed : Indexed links (k + 1) index) where
  abbrev entered : List ℕ
  entered = set (set index (slot_count + k) (get_or index s 0)) s k

  low : s < slot_count
  low = omega (arith, at, (room.each k below).on_line_lem)

  inside : slot_count + k < length index
  inside = omega (arith, below, room.most, indexed.long)

  at_slot : get_or entered s 0 ≡ k
  at_slot = get_or-set_same (set index (slot_count + k) (get_or index s 0)) s k 0 (omega (arith, low, indexed.long, length-set index (slot_count + k) (get_or index s 0)))

  at_other : (j : ℕ) → ¬ (j ≡ s) → ¬ (j ≡ slot_count + k) → get_or entered j 0 ≡ get_or index j 0
  at_other j a b = get_or-set_other (set index (slot_count + k) (get_or index s 0)) s j k 0 a ∙ get_or-set_other index (slot_count + k) j (get_or index s 0) 0 b

  at_link : get_or entered (slot_count + k) 0 ≡ get_or index s 0
  at_link = get_or-set_other (set index (slot_count + k) (get_or index s 0)) s (slot_count + k) k 0 (λ e. omega (arith, e, low)) ∙ get_or-set_same index (slot_count + k) (get_or index s 0) 0 inside

  same_after : (i : ℕ) → k + 1 ≤ i → get_or entered (slot_count + i) 0 ≡ get_or index (slot_count + i) 0
  same_after i h = at_other (slot_count + i) (λ e. omega (arith, e, low)) (λ e. omega (arith, e, h))

  abbrev slot_at : ℕ → ℕ
  slot_at j = slot_of (on_line links j) (on_index links j)

  kept_chain : (t j : ℕ) → t < slot_count → Chained index (get_or index t 0) j → Chained entered (get_or index t 0) j
  kept_chain t j h c = chained_kept (k + 1) same_after (indexed.heads t h) c

  heads_on : (t : ℕ) → t < slot_count → k ≤ get_or entered t 0
  heads_on t h = elim (ℕ_discrete t s) [
    | yes e ↦ omega (arith, ap (λ z. get_or entered z 0) e, at_slot)
    | no n ↦ omega (arith, at_other t n (λ e. omega (arith, e, h)), indexed.heads t h)
  ]

  nexts_on : (j : ℕ) → k ≤ j → j < length links → j < get_or entered (slot_count + j) 0
  nexts_on j g h = elim (ℕ_discrete j k) [
    | yes e ↦ omega (arith, e, ap (λ z. get_or entered (slot_count + z) 0) e, at_link, indexed.heads s low)
    | no n ↦ (let g' : k + 1 ≤ j = omega (arith, g, n) in omega (arith, same_after j g', indexed.nexts j g' h))
  ]

  all_on : (j : ℕ) → k ≤ j → j < length links → Chained entered (get_or entered (slot_at j) 0) j
  all_on j g h = elim (ℕ_discrete j k) [
    | yes e ↦ subst (λ z. Chained entered (get_or entered (slot_at z) 0) z) (sym e) (subst (λ z. Chained entered z k) (sym (ap (λ z. get_or entered z 0) (sym at) ∙ at_slot)) here)
    | no n ↦ later (omega (arith, g, n)) (ℕ_discrete (slot_at j) s)
  ]
    where
      slot_low : slot_at j < slot_count
      slot_low = omega (arith, (room.each j h).on_line_lem)

      later : k + 1 ≤ j → Dec (slot_at j ≡ s) → Chained entered (get_or entered (slot_at j) 0) j
      later g' (yes e) =
          let old : Chained index (get_or index s 0) j = subst (λ z. Chained index (get_or index z 0) j) e (indexed.all j g' h) in
          let onward : Chained entered (get_or entered (slot_count + k) 0) j = subst (λ z. Chained entered z j) (sym at_link) (kept_chain s j low old) in
          subst (λ z. Chained entered z j) (sym (ap (λ z. get_or entered z 0) e ∙ at_slot)) (there (omega (arith, at_link, indexed.heads s low)) onward)
      later g' (no n) = subst (λ z. Chained entered z j) (sym (at_other (slot_at j) n (λ e. omega (arith, e, slot_low)))) (kept_chain (slot_at j) j slot_low (indexed.all j g' h))

  small_on : (j : ℕ) → get_or entered j 0 ≤ most_links
  small_on j = elim (ℕ_discrete j s) [
    | yes e ↦ omega (arith, ap (λ z. get_or entered z 0) e, at_slot, below, room.most)
    | no n ↦ elim (ℕ_discrete j (slot_count + k)) [ yes e ↦ omega (arith, ap (λ z. get_or entered z 0) e, at_link, indexed.small s) | no m ↦ omega (arith, at_other j n m, indexed.small j) ]
  ]

  pub enter_on : Indexed links k entered
  enter_on = record {
    long = length-set (set index (slot_count + k) (get_or index s 0)) s k ∙ length-set index (slot_count + k) (get_or index s 0) ∙ indexed.long;
    small = small_on;
    heads = heads_on;
    nexts = nexts_on;
    all = all_on;
  }

pub index_start : (links : List Link) (index : List ℕ) → length links ≤ most_links → index ≡ no_chains → Indexed links (length links) index
index_start links index few e = subst (Indexed links (length links)) (sym e) (record {
  long = length-replicate {A = ℕ} index_room most_links;
  small = small;
  heads = λ s h. omega (arith, few, get_or-replicate {A = ℕ} index_room s most_links 0 (omega (arith, h)));
  nexts = λ k g h. absurd (omega (arith, g, h));
  all = λ k g h. absurd (omega (arith, g, h));
})
  where
    small : (j : ℕ) → get_or no_chains j 0 ≤ most_links
    small j = elim (dec_lt j index_room) [
      | yes h ↦ omega (arith, get_or-replicate {A = ℕ} index_room j most_links 0 h)
      | no h ↦ omega (arith, get_or-eq_default no_chains 0 {n = j} (omega (arith, h, length-replicate {A = ℕ} index_room most_links)))
    ]

-- ---- the links of events that stay
pub waiting_start : (links : List Link) (level index : List ℕ) → Indexed links 0 index → Waiting links level index
waiting_start links level index indexed =
    record { long = indexed.long; small = indexed.small; nexts = λ k h. indexed.nexts k (omega arith) h; all = λ k h stays. indexed.all k (omega arith) h }

-- as events go, fewer links wait
pub waiting_less : (links : List Link) (level lower index : List ℕ) → ((x : ℕ) → get_or lower x 0 ≤ get_or level x 0) → Waiting links level index → Waiting links lower index
waiting_less links level lower index under waiting =
    record { long = waiting.long; small = waiting.small; nexts = waiting.nexts; all = λ k h stays. waiting.all k h (omega (arith, stays, under (from_line links k))) }

-- a link whose event is gone is left out
module _ (links : List Link) (level index : List ℕ) (s first : ℕ) (room : Room links) (low : s < slot_count) (waiting : Waiting links level index) (first_at : first ≡ get_or index s 0) (below : first < length links) (gone : ¬ (from_index links first < get_or level (from_line links first) 0)) where
  abbrev next : ℕ
  next = get_or index (slot_count + first) 0

  abbrev dropped : List ℕ
  dropped = set index s next

  dropped_here : get_or dropped s 0 ≡ next
  dropped_here = get_or-set_same index s next 0 (omega (arith, low, waiting.long))

  dropped_other : (j : ℕ) → ¬ (j ≡ s) → get_or dropped j 0 ≡ get_or index j 0
  dropped_other j n = get_or-set_other index s j next 0 n

  dropped_after : (i : ℕ) → 0 ≤ i → get_or dropped (slot_count + i) 0 ≡ get_or index (slot_count + i) 0
  dropped_after i h = dropped_other (slot_count + i) (λ e. omega (arith, e, low))

  dropped_all : (k : ℕ) → k < length links → from_index links k < get_or level (from_line links k) 0 → Chained dropped (get_or dropped (slot_of (on_line links k) (on_index links k)) 0) k
  dropped_all k h stays = elim (ℕ_discrete (slot_of (on_line links k) (on_index links k)) s) [
    | yes e ↦ (
        let old : Chained index first k = subst (λ z. Chained index z k) (ap (λ z. get_or index z 0) e ∙ sym first_at) (waiting.all k h stays) in
        let onward : Chained index next k = chained_next old (λ same. gone (subst (λ z. from_index links z < get_or level (from_line links z) 0) (sym same) stays)) in
        subst (λ z. Chained dropped z k) (sym (ap (λ z. get_or dropped z 0) e ∙ dropped_here)) (chained_kept 0 dropped_after (omega arith) onward))
    | no n ↦ subst (λ z. Chained dropped z k) (sym (dropped_other (slot_of (on_line links k) (on_index links k)) n)) (chained_kept 0 dropped_after (omega arith) (waiting.all k h stays))
  ]

  pub drop_on : Waiting links level dropped
  drop_on = record {
    long = length-set index s next ∙ waiting.long;
    small = λ j. elim (ℕ_discrete j s) [ yes e ↦ omega (arith, ap (λ z. get_or dropped z 0) e, dropped_here, waiting.small (slot_count + first)) | no n ↦ omega (arith, dropped_other j n, waiting.small j) ];
    nexts = λ k h. omega (arith, dropped_after k (omega arith), waiting.nexts k h);
    all = dropped_all;
  }

-- ---- the links on one event stand in the chain of its slot
pub chain_from : (links : List Link) (index : List ℕ) (x i s : ℕ) → Indexed links 0 index → s ≡ slot_of x i → (k : ℕ) → k < length links → on_line links k ≡ x → on_index links k ≡ i → Chained index (get_or index s 0) k
chain_from links index x i s indexed at k h e f =
    subst (λ z. Chained index (get_or index z 0) k) (sym (at ∙ sym (ap (λ z. slot_of z i) e) ∙ sym (ap (λ z. slot_of (on_line links k) z) f))) (indexed.all k (omega arith) h)
