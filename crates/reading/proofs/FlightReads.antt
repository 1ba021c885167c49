-- Messages in flight to a place, by sender and entry, said of the state that a store holds.
use Prim.Native.Nat.{ℕ, suc, ◌+◌, ◌*◌, ◌≤◌, ◌<◌}
use mathlib.Core.Path.{◌≡◌, refl, sym, ◌∙◌, ap}
use mathlib.Core.Bool.{Bool, true, false, not, ◌&&◌}
use mathlib.Core.Option.{Option, none, some}
use mathlib.Core.List.{List}
use native.Mathlib.Numerals.{add-one}
use native.Mathlib.Omega.{arith}
use lib.Dec.{eqb}
use lib.ListN.{length}
use Rattle.lists.specs.Lists.{any, up_to}
use Rattle.lists.proofs.Tests.{some_injective, true_not_false, eqb_of, eqb_apart}
use Rattle.rules.specs.State.{Letter, letter, as_send, Entry, State, history_at, entry_at, in_pool}
use Rattle.rules.specs.Flight.{count_letter, sends, sent, has_come, flies, flies_to, awaited}
use Rattle.demands.proofs.Histories.{sent_below}
use Rattle.store.specs.Image.{IsImage}
use Rattle.store.specs.Layout.{name_base}
use Rattle.store.proofs.SoundStates.{sizes_in_lem}
use Rattle.reading.specs.Mail.{flies_by}
use Rattle.reading.specs.Reads.{Holds, OfState, IsPlace, IsEntry, OfEntry, IsSend, OfSend, oldest}
use Rattle.reading.proofs.Holding.{at_image, holding, of_state}
use Rattle.reading.proofs.Oldest.{entry_exists, oldest_all, sends_none, sent_there, any_next, any_found, any_nothing}
use Rattle.reading.proofs.Naming.{sender_of, count_of, name_sender, name_count}
use Rattle.reading.proofs.MailReads.{count_none, sends_low, sends_next, Ends, Here}

-- ---- one message

-- how a message that was sent flies
abbrev flies_of : State → (q s k : ℕ) → Option Letter → Bool
flies_of st q s k o = elim o as (λ x. Bool) [ none ↦ false | some (letter t v) ↦ eqb t q && flies st s k t ]

flies_sent : (st : State) (q s k : ℕ) (o : Option Letter) → sent (history_at st s) k ≡ o → flies_to st q s k ≡ flies_of st q s k o
unfolding flies_to
flies_sent st q s k o e = ap (flies_of st q s k) e

pub flies_elsewhere : (st : State) (q s k t : ℕ) (v : List ℕ) → sent (history_at st s) k ≡ some (letter t v) → ¬ (t ≡ q) → flies_to st q s k ≡ false
flies_elsewhere st q s k t v e n = flies_sent st q s k (some (letter t v)) e ∙ ap (λ (b : Bool). b && flies st s k t) (eqb_apart t q n)

pub flies_here : (st : State) (q s k t : ℕ) (v : List ℕ) → sent (history_at st s) k ≡ some (letter t v) → t ≡ q → in_pool st t ≡ true → flies_to st q s k ≡ not (has_come st s k q)
unfolding flies
flies_here st q s k t v e same live =
    flies_sent st q s k (some (letter t v)) e
    ∙ ap (λ (b : Bool). b && flies st s k t) (eqb_of t q same)
    ∙ ap (λ (b : Bool). b && not (has_come st s k t)) live
    ∙ ap (λ (x : ℕ). not (has_come st s k x)) same

-- the name of the next send of s after its oldest entries
abbrev pub NameAt : (l : List ℕ) (s i name : ℕ) → Type 0
NameAt l s i name = OfState l (λ st. name ≡ s * name_base + sends (oldest i (history_at st s)))

module _ (l : List ℕ) (s i q : ℕ) where
  -- whether entry i of s is a send whose message flies to q
  abbrev pub Flies : Bool → Type 0
  Flies r = OfState l (λ st. OfEntry s i (λ e. r ≡ flies_by st q s i (as_send e.kind)) st)

  pub flies_none : (x : ℕ) → Here l s i x → x ≡ 0 → Flies false
  unfolding OfEntry flies_by
  flies_none x f z = of_state _ λ st rest h. λ e stands.
      sym (ap (flies_by st q s i) (count_none (as_send e.kind) (sym z ∙ holding _ f st rest h e stands)))

  -- what is shown of an entry that is a send
  by_send : (r : Bool) → ((st : State) (rest : List ℕ) → Holds l st rest → (e : Entry) (t : ℕ) (v : List ℕ) → entry_at (history_at st s) i ≡ some e → as_send e.kind ≡ some (letter t v) → r ≡ flies_to st q s (sends (oldest i (history_at st s))))
      → OfState l (IsSend s i) → Flies r
  unfolding OfEntry flies_by
  by_send r g f = of_state _ λ st rest h. λ e stands.
      let x = holding _ f st rest h in
      let same : x.entry ≡ e = some_injective (sym x.stands ∙ stands) in
      let says : as_send e.kind ≡ some (letter x.target x.value) = ap (λ (y : Entry). as_send y.kind) (sym same) ∙ x.is_send in
      g st rest h e x.target x.value stands says ∙ sym (ap (flies_by st q s i) says)

  module _ (target : ℕ) (there-is : OfState l (IsSend s i)) (f : OfState l (OfSend s i (λ t v. target ≡ t))) where
    pub flies_other : ¬ (target ≡ q) → Flies (eqb target q)
    unfolding OfSend
    flies_other n = by_send (eqb target q) (λ st rest h e t v stands says.
        eqb_apart target q n ∙ sym (flies_elsewhere st q s (sends (oldest i (history_at st s))) t v (sent_there (history_at st s) i stands says) (λ z. n (holding _ f st rest h e t v stands says ∙ z)))) there-is

    pub flies_this : target ≡ q → (name : ℕ) → NameAt l s i name → (come : Bool) → OfState l (λ st. come ≡ has_come st (sender_of name) (count_of name) q) → Flies (not come)
    unfolding OfSend
    flies_this same name nm come c = by_send (not come) (λ st rest h e t v stands says.
        let k = sends (oldest i (history_at st s)) in
        let there = sent_there (history_at st s) i stands says in
        let low : k < name_base = omega (arith, sends_low (history_at st s) i, h.sound.history_fits s, (sizes_in_lem st.sizes h.sound.sizes_pass).entries_high) in
        let named = holding _ nm st rest h in
        let from : sender_of name ≡ s = ap sender_of named ∙ name_sender s k low in
        let counted : count_of name ≡ k = ap count_of named ∙ name_count s k low in
        ap not (holding _ c st rest h ∙ (λ j. has_come st (from j) (counted j) q))
        ∙ sym (flies_here st q s k t v there (sym (holding _ f st rest h e t v stands says) ∙ same) (h.sound.targets_in_pool s k t v there))) there-is

-- ---- names, one send after another

module _ (l : List ℕ) (s : ℕ) where
  pub name_start : NameAt l s 0 (s * name_base)
  name_start = of_state _ λ st rest h. omega (arith, sends_none (history_at st s))

  pub name_more : (i x name : ℕ) → OfState l (IsEntry s i) → Here l s i x → NameAt l s i name → NameAt l s (i + 1) (name + x)
  unfolding OfEntry
  name_more i x name there-is f nm = of_state _ λ st rest h.
      let (e, stands) = entry_exists (history_at st s) i (holding _ there-is st rest h) in
      let z = holding _ nm st rest h in
      let y = holding _ f st rest h e stands in
      omega (arith, sends_next (history_at st s) i stands)

  pub name_low : (i name : ℕ) → IsImage l → OfState l (IsPlace s) → NameAt l s i name → name ≤ 1048640
  name_low i name im p nm =
      let st = im.state in
      omega (arith, at_image _ im p, at_image _ im nm, sends_low (history_at st s) i, im.sound.history_fits s, (sizes_in_lem st.sizes im.sound.sizes_pass).entries_high, (sizes_in_lem st.sizes im.sound.sizes_pass).places_high)

-- ---- the messages of one sender

-- no message of the sends among the oldest entries flies to q
abbrev pub Quiet : (l : List ℕ) (s q i : ℕ) → Type 0
Quiet l s q i = OfState l (λ st. any (flies_to st q s) (up_to (sends (oldest i (history_at st s)))) ≡ false)

quiet_next : (st : State) (s q i : ℕ) (h : List Entry) (o : Option Letter) (n : ℕ) → history_at st s ≡ h → n ≡ sends (oldest i h) + count_letter o 0 → flies_by st q s i o ≡ false
    → any (flies_to st q s) (up_to (sends (oldest i h))) ≡ false → any (flies_to st q s) (up_to n) ≡ false
unfolding flies_by count_letter
quiet_next st s q i h none n e c f older = let same : n ≡ sends (oldest i h) = omega arith in ap (λ (k : ℕ). any (flies_to st q s) (up_to k)) same ∙ older
quiet_next st s q i h (some l) n e c f older =
    let same : n ≡ suc (sends (oldest i h)) = omega arith in
    ap (λ (k : ℕ). any (flies_to st q s) (up_to k)) same
    ∙ any_next (flies_to st q s) (sends (oldest i h)) older (ap (λ (x : List Entry). flies_to st q s (sends (oldest i x))) (sym e) ∙ f)

flies_some : (st : State) (s q i : ℕ) (o : Option Letter) → flies_by st q s i o ≡ true → (l : Letter) × (o ≡ some l) × (flies_to st q s (sends (oldest i (history_at st s))) ≡ true)
unfolding flies_by
flies_some st s q i none e = true_not_false e refl
flies_some st s q i (some l) e = (l, refl, e)

module _ (l : List ℕ) (s q : ℕ) where
  pub quiet_start : Quiet l s q 0
  quiet_start = of_state _ λ st rest h. ap (λ (k : ℕ). any (flies_to st q s) (up_to k)) (sends_none (history_at st s)) ∙ any_nothing (flies_to st q s)

  module _ (i : ℕ) (r : Bool) (there-is : OfState l (IsEntry s i)) (f : Flies l s i q r) where
    pub quiet_more : r ≡ false → Quiet l s q i → Quiet l s q (i + 1)
    unfolding OfEntry
    quiet_more no-flight older = of_state _ λ st rest h.
        let (e, stands) = entry_exists (history_at st s) i (holding _ there-is st rest h) in
        quiet_next st s q i (history_at st s) (as_send e.kind) _ refl (sends_next (history_at st s) i stands) (sym (holding _ f st rest h e stands) ∙ no-flight) (holding _ older st rest h)

    pub flies_found : r ≡ true → OfState l (λ st. true ≡ any (flies_to st q s) (up_to (sends (history_at st s))))
    unfolding OfEntry
    flies_found flight = of_state _ λ st rest h.
        let (e, stands) = entry_exists (history_at st s) i (holding _ there-is st rest h) in
        let (x, says, up) = flies_some st s q i (as_send e.kind) (sym (holding _ f st rest h e stands) ∙ flight) in
        sym (any_found (flies_to st q s) (sends (oldest i (history_at st s))) (sends (history_at st s)) (sent_below (history_at st s) (sends (oldest i (history_at st s))) (sent_there (history_at st s) i stands says)) up)

  pub quiet_all : (i end : ℕ) → Ends l s end → Quiet l s q i → i ≤ end → end ≤ i → OfState l (λ st. false ≡ any (flies_to st q s) (up_to (sends (history_at st s))))
  quiet_all i end m f b b' = of_state _ λ st rest h.
      let whole : i ≡ length (history_at st s) = omega (arith, holding _ m st rest h) in
      sym (holding _ f st rest h) ∙ ap (λ (x : List Entry). any (flies_to st q s) (up_to (sends x))) (ap (λ (k : ℕ). oldest k (history_at st s)) whole ∙ oldest_all (history_at st s))

-- ---- the messages of all senders

abbrev pub from_place : State → (q s : ℕ) → Bool
from_place st q s = any (flies_to st q s) (up_to (sends (history_at st s)))

module _ (l : List ℕ) (q : ℕ) where
  pub calm_start : OfState l (λ st. any (from_place st q) (up_to 0) ≡ false)
  calm_start = of_state _ λ st rest h. any_nothing (from_place st q)

  module _ (s : ℕ) (r : Bool) (f : OfState l (λ st. r ≡ from_place st q s)) where
    pub calm_more : r ≡ false → OfState l (λ st. any (from_place st q) (up_to s) ≡ false) → OfState l (λ st. any (from_place st q) (up_to (s + 1)) ≡ false)
    calm_more e older = of_state _ λ st rest h.
        ap (λ (k : ℕ). any (from_place st q) (up_to k)) (add-one s) ∙ any_next (from_place st q) s (holding _ older st rest h) (sym (holding _ f st rest h) ∙ e)

    pub awaited_here : r ≡ true → OfState l (IsPlace s) → OfState l (λ st. true ≡ awaited st q)
    unfolding awaited
    awaited_here e p = of_state _ λ st rest h. sym (any_found (from_place st q) s st.sizes.places (holding _ p st rest h) (sym (holding _ f st rest h) ∙ e))

  pub awaited_none : (s end : ℕ) → OfState l (λ st. end ≡ st.sizes.places) → OfState l (λ st. any (from_place st q) (up_to s) ≡ false) → s ≤ end → end ≤ s → OfState l (λ st. false ≡ awaited st q)
  unfolding awaited
  awaited_none s end m f b b' = of_state _ λ st rest h.
      let whole : s ≡ st.sizes.places = omega (arith, holding _ m st rest h) in
      sym (holding _ f st rest h) ∙ ap (λ (k : ℕ). any (from_place st q) (up_to k)) whole

pub end_place : (l : List ℕ) (s end : ℕ) → OfState l (λ st. end ≡ st.sizes.places) → s < end → OfState l (IsPlace s)
end_place l s end m b = of_state _ λ st rest h. omega (arith, holding _ m st rest h)
