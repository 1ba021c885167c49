-- The links of one entry, read from a store: what 01's list has of a rec, a send, a spawn, and of any other entry.
use Rattle.std.proofs.Common.{None, Some}
use Prim.Native.Nat.{ℕ, suc, ◌+◌, ◌*◌, ◌-◌, ◌≤◌, ◌<◌}
use mathlib.Core.Path.{◌≡◌, refl, sym, ◌∙◌, ap, subst}
use mathlib.Core.Logic.{◌⊎◌, inl, inr}
use mathlib.Core.Option.{some}
use mathlib.Core.List.{List, [], ◌∷◌, ◌++◌}
use native.Mathlib.Omega.{arith}
use lib.ListN.{length, length-append, length-drop}
use Rattle.lists.proofs.Tests.{some_injective}
use Rattle.rules.specs.State.{Message, Letter, letter, taking, Kind, seq, send, rec, spawn, self, check, as_send, as_rec, as_spawn, Entry, State, history_at}
use Rattle.rules.specs.Flight.{sends, taken}
use Rattle.rules.specs.Sound.{SpawnedBy, SentTo, Sound}
use Rattle.rules.specs.Depends.{Series, entries_of, deliveries_to, level}
use Rattle.rules.specs.Standing.{Stands, Arrives, seen}
use Rattle.demands.proofs.Messages.{Any, Is, any_append, any_middle, Named, Once, once_of}
use Rattle.demands.proofs.Histories.{suffix_sent}
use Rattle.demands.proofs.SoundFacts.{mail, child_lives}
use Rattle.demands.proofs.Arrival.{once_come, any_come}
use Rattle.demands.proofs.Event.{arrivals_at}
use Rattle.demands.proofs.EventDepends.{Like, stands_entry, stands_low, entry_stands, entry_here}
use Rattle.demands.proofs.CutNumbers.{seen_is}
use Rattle.store.specs.Layout.{kind_number, number_in, kind_send, kind_rec, kind_spawn, name_base, name_word}
use Rattle.store.specs.Image.{IsImage}
use Rattle.store.proofs.SoundStates.{sizes_in_lem, in_places, numbered}
use Rattle.reading.specs.Reads.{Holds, OfState, IsPlace, IsEntry, OfEntry, IsSend, OfSend, oldest}
use Rattle.reading.proofs.Oldest.{send_by_kind, rec_by_kind, parted}
use Rattle.reading.proofs.MailReads.{sends_low}
use Rattle.cuts.specs.Bounds.{most_entries}
use Rattle.cuts.specs.declared.events.Event.{Event}
use Rattle.cuts.specs.declared.link.Link.{Link}
use Rattle.links.specs.Listed.{IsKind, OfRec, ArrivalIs, TiesAt, rec_at, since_at, send_at, child_at, mail_at, AimsAt, aim_at, Adds}
use Rattle.cuts.proofs.LinkUndo.{stands_same, stands_after, seen_same, letter_target, send_mark, rec_mark, spawn_mark, mark}
use Rattle.links.proofs.LinkAdds.{event_at, add_event, add_link, SameLink, Just, Two, adds_none, adds_one, adds_two}

-- ---- kinds
pub rec_of : (kind : Kind) → kind_number kind ≡ kind_rec → (a : List Message) × (m : Message) × (d : List Message) × (as_rec kind ≡ some (taking a m d))
unfolding as_rec
rec_of kind e = let (a, m, d, i) = rec_by_kind kind e in (a, m, d, ap as_rec i)

send_of : (kind : Kind) → kind_number kind ≡ kind_send → (t : ℕ) × (v : List ℕ) × (as_send kind ≡ some (letter t v))
send_of kind e = let (l, i) = send_by_kind kind e in go l i
  where
    go : (l : Letter) → as_send kind ≡ some l → (t : ℕ) × (v : List ℕ) × (as_send kind ≡ some (letter t v))
    go (letter t v) i = (t, v, i)

pub spawn_kind : (kind : Kind) → kind_number kind ≡ kind_spawn → as_spawn kind ≡ some (number_in kind)
unfolding kind_number as_spawn number_in
spawn_kind seq e = absurd (omega (arith, e))
spawn_kind (send t v) e = absurd (omega (arith, e))
spawn_kind (rec a m d) e = absurd (omega (arith, e))
spawn_kind (spawn q) e = refl
spawn_kind self e = absurd (omega (arith, e))
spawn_kind (check n) e = absurd (omega (arith, e))

number_mark : (kind : Kind) → (mark kind ≡ 1 → kind_number kind ≡ kind_send) × (mark kind ≡ 2 → kind_number kind ≡ kind_rec) × (mark kind ≡ 3 → kind_number kind ≡ kind_spawn)
unfolding kind_number
number_mark seq = (λ e. absurd (omega (arith, e)), λ e. absurd (omega (arith, e)), λ e. absurd (omega (arith, e)))
number_mark (send t v) = (λ e. refl, λ e. absurd (omega (arith, e)), λ e. absurd (omega (arith, e)))
number_mark (rec a m d) = (λ e. absurd (omega (arith, e)), λ e. refl, λ e. absurd (omega (arith, e)))
number_mark (spawn q) = (λ e. absurd (omega (arith, e)), λ e. absurd (omega (arith, e)), λ e. refl)
number_mark self = (λ e. absurd (omega (arith, e)), λ e. absurd (omega (arith, e)), λ e. absurd (omega (arith, e)))
number_mark (check n) = (λ e. absurd (omega (arith, e)), λ e. absurd (omega (arith, e)), λ e. absurd (omega (arith, e)))

-- ---- an arrival has one number
index_one : (n n' : Message) (y y' x x' : List Message) → x ++ (n ∷ y) ≡ x' ++ (n' ∷ y') → Once (x ++ (n ∷ y)) → Like n n' → length x ≡ length x'
index_one n n' y y' [] [] e o l = refl
index_one n n' y y' [] (u ∷ x') e o l = let i : y ≡ x' ++ (n' ∷ y') = cc in absurd (o.0 (subst (Any (Like n)) (sym i) (any_middle x' n' y' l)))
index_one n n' y y' (u ∷ x) [] e o l =
    let i : u ≡ n' = cc in
    absurd (o.0 (any_middle x n y (record { sender = sym (ap (λ z. z.sender) i ∙ l.sender); count = sym (ap (λ z. z.count) i ∙ l.count) })))
index_one n n' y y' (u ∷ x) (v ∷ x') e o l = let i : x ++ (n ∷ y) ≡ x' ++ (n' ∷ y') = cc in ap suc (index_one n n' y y' x x' i o.1 l)

pub arrives_once : {s : State} → Sound s → {q j j' : ℕ} {n n' : Message} → Arrives s q j n → Arrives s q j' n' → Like n n' → j ≡ j'
arrives_once {s} sound {q} {n = n} {n'} r r' l =
    let once : Once (r.before ++ (n ∷ r.after)) = subst Once (sym (arrivals_at sound q) ∙ r.at) (once_come (history_at s q) (s.queues q) (sound.prefixes q) (once_of (s.queues q ++ taken (history_at s q)) (sound.once q))) in
    sym r.index ∙ index_one n n' r.after r'.after r.before r'.before (sym r.at ∙ r'.at) once l ∙ r'.index

-- ---- which links an entry has
module _ {s : State} (sound : Sound s) {p i : ℕ} {e : Entry} {g : List Entry} (st : Stands s p i e g) where
  mark_of : {f : Entry} {h : List Entry} → Stands s p i f h → mark f.kind ≡ mark e.kind
  mark_of st' = ap (λ z. mark z.kind) (stands_same st' st)

  rec_two : {a d : List Message} {m : Message} {n : ℕ} → as_rec e.kind ≡ some (taking a m d) → n ≡ seen a m d g → Two (TiesAt p i s) (2 * p) i (2 * p + 1) (n - 1) (2 * p + 1) n (2 * p) i
  rec_two {a} {d} {m} {n} is eq = record {
    one = record { v = entries_of p; c = i; w = deliveries_to p; d = n - 1; holds = rec_at {j = n - 1} st is (omega (arith, eq, some_seen)); is = record { from_line_lem = refl; from_index_lem = refl; on_line_lem = refl; on_index_lem = refl } };
    two = record { v = deliveries_to p; c = seen a m d g; w = entries_of p; d = i; holds = since_at st is; is = record { from_line_lem = refl; from_index_lem = sym eq; on_line_lem = refl; on_index_lem = refl } };
    only = only;
  }
    where
      some_seen : 1 ≤ seen a m d g
      some_seen = omega (arith, seen_is sound st is, length-append a (m ∷ d))

      own_seen : {b c : List Message} {k : Message} {f : Entry} {h : List Entry} → Stands s p i f h → as_rec f.kind ≡ some (taking b k c) → seen b k c h ≡ seen a m d g
      own_seen {b} {c} {k} {f} {h} st' is' = seen_same h is' (ap (λ z. as_rec z.kind) (stands_same st' st) ∙ is) ∙ ap (λ z. seen a m d z) (stands_after st' st)

      only : (v : Series) (c : ℕ) (w : Series) (k : ℕ) → TiesAt p i s v c w k → SameLink v c w k (2 * p) i (2 * p + 1) (n - 1) ⊎ SameLink v c w k (2 * p + 1) n (2 * p) i
      only v c w k (rec_at st' is' e') = inl (record { from_line_lem = refl; from_index_lem = refl; on_line_lem = refl; on_index_lem = omega (arith, e', own_seen st' is', eq) })
      only v c w k (since_at st' is') = inr (record { from_line_lem = refl; from_index_lem = own_seen st' is' ∙ sym eq; on_line_lem = refl; on_index_lem = refl })
      only v c w k (send_at {e = f} r st' is' x y) = absurd (omega (arith, send_mark f.kind is', mark_of st', rec_mark e.kind is))
      only v c w k (child_at {e = f} st' is') = absurd (omega (arith, spawn_mark f.kind is', mark_of st', rec_mark e.kind is))
      only v c w k (mail_at {e = f} st' is') = absurd (omega (arith, spawn_mark f.kind is', mark_of st', rec_mark e.kind is))

  spawn_two : {q : ℕ} → as_spawn e.kind ≡ some q → Two (TiesAt p i s) (2 * q) 0 (2 * p) i (2 * q + 1) 0 (2 * p) i
  spawn_two {q} is = record {
    one = record { v = entries_of q; c = 0; w = entries_of p; d = i; holds = child_at st is; is = record { from_line_lem = refl; from_index_lem = refl; on_line_lem = refl; on_index_lem = refl } };
    two = record { v = deliveries_to q; c = 0; w = entries_of p; d = i; holds = mail_at st is; is = record { from_line_lem = refl; from_index_lem = refl; on_line_lem = refl; on_index_lem = refl } };
    only = only;
  }
    where
      own_child : {r : ℕ} {f : Entry} {h : List Entry} → Stands s p i f h → as_spawn f.kind ≡ some r → r ≡ q
      own_child st' is' = some_injective (sym is' ∙ ap (λ z. as_spawn z.kind) (stands_same st' st) ∙ is)

      only : (v : Series) (c : ℕ) (w : Series) (k : ℕ) → TiesAt p i s v c w k → SameLink v c w k (2 * q) 0 (2 * p) i ⊎ SameLink v c w k (2 * q + 1) 0 (2 * p) i
      only v c w k (rec_at {e = f} st' is' e') = absurd (omega (arith, rec_mark f.kind is', mark_of st', spawn_mark e.kind is))
      only v c w k (since_at {e = f} st' is') = absurd (omega (arith, rec_mark f.kind is', mark_of st', spawn_mark e.kind is))
      only v c w k (send_at {e = f} r st' is' x y) = absurd (omega (arith, send_mark f.kind is', mark_of st', spawn_mark e.kind is))
      only v c w k (child_at st' is') = inl (record { from_line_lem = ap (λ z. 2 * z) (own_child st' is'); from_index_lem = refl; on_line_lem = refl; on_index_lem = refl })
      only v c w k (mail_at st' is') = inr (record { from_line_lem = ap (λ z. 2 * z + 1) (own_child st' is'); from_index_lem = refl; on_line_lem = refl; on_index_lem = refl })

  module _ {t : ℕ} {v : List ℕ} (is : as_send e.kind ≡ some (letter t v)) where
    own_target : {r : ℕ} {u : List ℕ} {f : Entry} {h : List Entry} → Stands s p i f h → as_send f.kind ≡ some (letter r u) → r ≡ t
    own_target st' is' = letter_target (sym is' ∙ ap (λ z. as_send z.kind) (stands_same st' st) ∙ is)

    own_name : {f : Entry} {h : List Entry} {n : Message} → Stands s p i f h → n.sender ≡ p → sends h ≡ n.count → Named p (sends g) n
    own_name st' x y = record { sender = x; count = sym y ∙ ap sends (stands_after st' st) }

    send_just : {j : ℕ} {n : Message} → Arrives s t j n → Named p (sends g) n → Just (TiesAt p i s) (2 * t + 1) j (2 * p) i
    send_just {j} {n} r name = record {
      one = record { v = deliveries_to t; c = j; w = entries_of p; d = i; holds = send_at r st is name.sender (sym name.count); is = record { from_line_lem = refl; from_index_lem = refl; on_line_lem = refl; on_index_lem = refl } };
      only = only;
    }
      where
        only : (v : Series) (c : ℕ) (w : Series) (k : ℕ) → TiesAt p i s v c w k → SameLink v c w k (2 * t + 1) j (2 * p) i
        only v c w k (rec_at {e = f} st' is' e') = absurd (omega (arith, rec_mark f.kind is', mark_of st', send_mark e.kind is))
        only v c w k (since_at {e = f} st' is') = absurd (omega (arith, rec_mark f.kind is', mark_of st', send_mark e.kind is))
        only v c w k (send_at {n = n'} r' st' is' x y) =
            let same = own_target st' is' in
            let name' = own_name {n = n'} st' x y in
            record {
              from_line_lem = ap (λ z. 2 * z + 1) same;
              from_index_lem = arrives_once sound (subst (λ z. Arrives s z c n') same r') r (record { sender = name.sender ∙ sym name'.sender; count = name.count ∙ sym name'.count });
              on_line_lem = refl;
              on_index_lem = refl;
            }
        only v c w k (child_at {e = f} st' is') = absurd (omega (arith, spawn_mark f.kind is', mark_of st', send_mark e.kind is))
        only v c w k (mail_at {e = f} st' is') = absurd (omega (arith, spawn_mark f.kind is', mark_of st', send_mark e.kind is))

    send_none : ((j : ℕ) (n : Message) → Arrives s t j n → ¬ Named p (sends g) n) → (x : Series) (a : ℕ) (y : Series) (b : ℕ) → ¬ TiesAt p i s x a y b
    send_none f x a y b (rec_at {e = h} st' is' e') = omega (arith, rec_mark h.kind is', mark_of st', send_mark e.kind is)
    send_none f x a y b (since_at {e = h} st' is') = omega (arith, rec_mark h.kind is', mark_of st', send_mark e.kind is)
    send_none f x a y b (send_at {n = n'} r' st' is' u w) = f a n' (subst (λ z. Arrives s z a n') (own_target st' is') r') (own_name {n = n'} st' u w)
    send_none f x a y b (child_at {e = h} st' is') = omega (arith, spawn_mark h.kind is', mark_of st', send_mark e.kind is)
    send_none f x a y b (mail_at {e = h} st' is') = omega (arith, spawn_mark h.kind is', mark_of st', send_mark e.kind is)

    pub aim_just : {u j : ℕ} → SpawnedBy s t u j → Just (AimsAt p i s) (2 * p) i (2 * u) j
    aim_just {u} {j} born =
        let (h, st') = entry_stands s u j born.stands in
        record {
          one = record { v = entries_of p; c = i; w = entries_of u; d = j; holds = aim_at st is st' born.spawns; is = record { from_line_lem = refl; from_index_lem = refl; on_line_lem = refl; on_index_lem = refl } };
          only = only;
        }
      where
        only : (v : Series) (c : ℕ) (w : Series) (k : ℕ) → AimsAt p i s v c w k → SameLink v c w k (2 * p) i (2 * u) j
        only v c w k (aim_at {p = u'} {i = j'} {e = f} st₁ is₁ st₂ is₂) =
            let other : SpawnedBy s t u' j' = record { entry = f; stands = stands_entry st₂; spawns = is₂ ∙ ap some (own_target st₁ is₁) } in
            let (x, y) = sound.born_once t u' j' u j other born in
            record { from_line_lem = refl; from_index_lem = refl; on_line_lem = ap (λ z. 2 * z) x; on_index_lem = y }

    pub aim_none : ((u j : ℕ) → ¬ SpawnedBy s t u j) → (x : Series) (a : ℕ) (y : Series) (b : ℕ) → ¬ AimsAt p i s x a y b
    aim_none f x a y b (aim_at {p = u'} {i = j'} {e = h} st₁ is₁ st₂ is₂) = f u' j' (record { entry = h; stands = stands_entry st₂; spawns = is₂ ∙ ap some (own_target st₁ is₁) })

  other_none : ¬ (kind_number e.kind ≡ kind_rec) → ¬ (kind_number e.kind ≡ kind_send) → ¬ (kind_number e.kind ≡ kind_spawn) → (x : Series) (a : ℕ) (y : Series) (b : ℕ) → ¬ TiesAt p i s x a y b
  other_none u v w x a y b (rec_at {e = h} st' is' e') = u ((number_mark e.kind).1 (sym (mark_of st') ∙ rec_mark h.kind is'))
  other_none u v w x a y b (since_at {e = h} st' is') = u ((number_mark e.kind).1 (sym (mark_of st') ∙ rec_mark h.kind is'))
  other_none u v w x a y b (send_at {e = h} r' st' is' _ _) = v ((number_mark e.kind).0 (sym (mark_of st') ∙ send_mark h.kind is'))
  other_none u v w x a y b (child_at {e = h} st' is') = w ((number_mark e.kind).2 (sym (mark_of st') ∙ spawn_mark h.kind is'))
  other_none u v w x a y b (mail_at {e = h} st' is') = w ((number_mark e.kind).2 (sym (mark_of st') ∙ spawn_mark h.kind is'))

  pub unaimed : ¬ (kind_number e.kind ≡ kind_send) → (x : Series) (a : ℕ) (y : Series) (b : ℕ) → ¬ AimsAt p i s x a y b
  unaimed v x a y b (aim_at {f = h} st₁ is₁ st₂ is₂) = v ((number_mark e.kind).0 (sym (mark_of st₁) ∙ send_mark h.kind is₁))

-- ---- names
pub arrived_small : {s : State} → Sound s → {q j : ℕ} {n : Message} → Arrives s q j n → n.count < name_base
arrived_small {s} sound {q} {n = n} r =
    let came = any_append (s.queues q) ((any_come (history_at s q) (s.queues q) (sound.prefixes q)).0 (subst (Any (Is n)) (sym r.at ∙ arrivals_at sound q) (any_middle r.before n r.after refl))) in
    let out : SentTo s q n = mail sound q (elim came [ inl x ↦ inl x | inr x ↦ inr x ]) in
    omega (arith, (numbered s sound q n out).count_below, (sizes_in_lem s.sizes sound.sizes_pass).entries_high)

oldest_length : (i : ℕ) (h : List Entry) → i ≤ length h → length (oldest i h) ≡ i
unfolding oldest
oldest_length i h b = omega (arith, length-drop (length h - i) h, b)

pub stands_oldest : {s : State} {p i : ℕ} {e : Entry} {g : List Entry} → Stands s p i e g → oldest i (history_at s p) ≡ g
unfolding level
stands_oldest {s} {p} {i} {e} st =
    let low = stands_low st in
    let own : Stands s p i e (oldest i (history_at s p)) = record { at = (parted (history_at s p) i (stands_entry st)).suffix; index = oldest_length i (history_at s p) (omega (arith, low)) } in
    stands_after own st

name_of : {p c : ℕ} {n : Message} → n.count < name_base → c < name_base → name_word n ≡ p * name_base + c → Named p c n
name_of h g e = record { sender = omega (arith, h, g, e); count = omega (arith, h, g, e) }

name_back : {p c : ℕ} {n : Message} → Named p c n → name_word n ≡ p * name_base + c
name_back {p} {c} {n} m = omega (arith, ap (λ z. z * name_base) m.sender, m.count)

-- ---- read from a store
module _ (store : List ℕ) (p i : ℕ) (there : OfState store (IsEntry p i)) where
  pub with_stands : (P : State → Type 0) → ((s : State) (rest : List ℕ) → Holds store s rest → (e : Entry) (g : List Entry) → Stands s p i e g → P s) → OfState store P
  unfolding OfState level
  with_stands P f s rest holds = let (e, g, st) = entry_here s p i (there s rest holds) in f s rest holds e g st

  pub kind_is : (k c : ℕ) → OfState store (OfEntry p i (λ e. k ≡ kind_number e.kind)) → k ≡ c → OfState store (IsKind p i c)
  unfolding OfState OfEntry
  kind_is k c read e s rest holds f stands = sym (read s rest holds f stands) ∙ e

  kind_at : {c : ℕ} → OfState store (IsKind p i c) → (s : State) (rest : List ℕ) → Holds store s rest → (e : Entry) (g : List Entry) → Stands s p i e g → kind_number e.kind ≡ c
  unfolding OfState OfEntry
  kind_at kind s rest holds e g st = kind s rest holds e (stands_entry st)

  pub send_is : OfState store (IsKind p i kind_send) → OfState store (IsSend p i)
  send_is kind = with_stands (IsSend p i) λ s rest holds e g st.
      let (t, v, is) = send_of e.kind (kind_at kind s rest holds e g st) in
      record { entry = e; target = t; value = v; stands = stands_entry st; is_send = is }

  module _ (n : ℕ) (kind : OfState store (IsKind p i kind_rec)) (numbered' : OfState store (OfRec p i (λ a m d g. n ≡ seen a m d g))) where
    rec_state : OfState store (λ s. Two (TiesAt p i s) (2 * p) i (2 * p + 1) (n - 1) (2 * p + 1) n (2 * p) i)
    unfolding OfState OfRec
    rec_state = with_stands (λ s. Two (TiesAt p i s) (2 * p) i (2 * p + 1) (n - 1) (2 * p + 1) n (2 * p) i) λ s rest holds e g st.
        let (a, m, d, is) = rec_of e.kind (kind_at kind s rest holds e g st) in
        rec_two holds.sound st is (numbered' s rest holds e g a m d st is)

    pub rec_some : IsImage store → 1 ≤ n
    unfolding OfState OfRec level
    rec_some is_image =
        let s = is_image.state in
        let holds : Holds store s is_image.rest = record { sound = is_image.sound; words = is_image.words } in
        let (e, g, st) = entry_here s p i (there s is_image.rest holds) in
        let (a, m, d, is) = rec_of e.kind (kind_at kind s is_image.rest holds e g st) in
        omega (arith, numbered' s is_image.rest holds e g a m d st is, seen_is is_image.sound st is, length-append a (m ∷ d))

    rec_put : (links exit : List Link) → exit ≡ add_link (add_link links (2 * p) i (2 * p + 1) (n - 1)) (2 * p + 1) n (2 * p) i → Adds store (TiesAt p i) links exit 2
    rec_put links exit e = subst (λ r. Adds store (TiesAt p i) links r 2) (sym e) (adds_two links (2 * p) i (2 * p + 1) (n - 1) (2 * p + 1) n (2 * p) i (TiesAt p i) 2 (omega arith) rec_state)

    pub rec_adds : (own last next : Event) (links mid exit : List Link) → own ≡ event_at (2 * p) i → last ≡ event_at (2 * p + 1) (n - 1) → next ≡ event_at (2 * p + 1) n → mid ≡ add_event links own last → exit ≡ add_event mid next own
        → Adds store (TiesAt p i) links exit 2
    rec_adds own last next links mid exit e f g h k = rec_put links exit (k ∙ ap (λ l. add_event l next own) h ∙ (λ j. add_event (add_event links (e j) (f j)) (g j) (e j)))

  spawn_put : (q : ℕ) (links exit : List Link) → OfState store (IsKind p i kind_spawn) → OfState store (OfEntry p i (λ e. q ≡ number_in e.kind))
      → exit ≡ add_link (add_link links (2 * q) 0 (2 * p) i) (2 * q + 1) 0 (2 * p) i → Adds store (TiesAt p i) links exit 2
  unfolding OfState OfEntry
  spawn_put q links exit kind read e = subst (λ r. Adds store (TiesAt p i) links r 2) (sym e)
      (adds_two links (2 * q) 0 (2 * p) i (2 * q + 1) 0 (2 * p) i (TiesAt p i) 2 (omega arith)
      (with_stands (λ s. Two (TiesAt p i s) (2 * q) 0 (2 * p) i (2 * q + 1) 0 (2 * p) i) λ s rest holds e g st.
      spawn_two holds.sound st (spawn_kind e.kind (kind_at kind s rest holds e g st) ∙ ap some (sym (read s rest holds e (stands_entry st))))))

  pub spawn_adds : (q : ℕ) (first mail own : Event) (links mid exit : List Link) → first ≡ event_at (2 * q) 0 → mail ≡ event_at (2 * q + 1) 0 → own ≡ event_at (2 * p) i → OfState store (IsKind p i kind_spawn) → OfState store (OfEntry p i (λ e. q ≡ number_in e.kind))
      → mid ≡ add_event links first own → exit ≡ add_event mid mail own → Adds store (TiesAt p i) links exit 2
  spawn_adds q first mail own links mid exit e f g kind read h k = spawn_put q links exit kind read (k ∙ ap (λ l. add_event l mail own) h ∙ (λ j. add_event (add_event links (e j) (g j)) (f j) (g j)))

  module _ (t c : ℕ) (kind : OfState store (IsKind p i kind_send)) (aimed : OfState store (OfSend p i (λ target value. t ≡ target))) where
    pub target_at : (s : State) (rest : List ℕ) → Holds store s rest → (e : Entry) (g : List Entry) → Stands s p i e g → (v : List ℕ) × (as_send e.kind ≡ some (letter t v))
    unfolding OfState OfSend
    target_at s rest holds e g st =
        let (target, v, is) = send_of e.kind (kind_at kind s rest holds e g st) in
        (v, is ∙ ap (λ z. some (letter z v)) (sym (aimed s rest holds e target v (stands_entry st) is)))

    module _ (counted : OfState store (λ s. c ≡ sends (oldest i (history_at s p)))) where
      count_at : (s : State) (rest : List ℕ) → Holds store s rest → (e : Entry) (g : List Entry) → Stands s p i e g → (c ≡ sends g) × (c < name_base)
      unfolding OfState
      count_at s rest holds e g st =
          let own = stands_oldest st in
          let low = sends_low (history_at s p) i in
          (counted s rest holds ∙ ap sends own, omega (arith, counted s rest holds, low, holds.sound.history_fits p, (sizes_in_lem s.sizes holds.sound.sizes_pass).entries_high))

      send_put : (j : ℕ) (links exit : List Link) → OfState store (ArrivalIs t (p * name_base + c) (Some j)) → exit ≡ add_link links (2 * t + 1) j (2 * p) i → Adds store (TiesAt p i) links exit 2
      unfolding OfState ArrivalIs
      send_put j links exit found e = subst (λ r. Adds store (TiesAt p i) links r 2) (sym e)
          (adds_one links (2 * t + 1) j (2 * p) i (TiesAt p i) 2 (omega arith)
          (with_stands (λ s. Just (TiesAt p i s) (2 * t + 1) j (2 * p) i) λ s rest holds e g st.
          let (v, is) = target_at s rest holds e g st in
          let (same, low) = count_at s rest holds e g st in
          let (n, r, name) = found s rest holds in
          send_just holds.sound st is r (subst (λ z. Named p z n) same (name_of (arrived_small holds.sound r) low name))))

      pub send_adds : (j : ℕ) (arrival own : Event) (links exit : List Link) → arrival ≡ event_at (2 * t + 1) j → own ≡ event_at (2 * p) i → OfState store (ArrivalIs t (p * name_base + c) (Some j)) → exit ≡ add_event links arrival own
          → Adds store (TiesAt p i) links exit 2
      send_adds j arrival own links exit e f found g = send_put j links exit found (g ∙ (λ k. add_event links (e k) (f k)))

      pub send_adds_none : (links : List Link) → OfState store (ArrivalIs t (p * name_base + c) None) → Adds store (TiesAt p i) links links 2
      unfolding OfState ArrivalIs
      send_adds_none links found = adds_none (TiesAt p i) 2
          (with_stands (λ s. (x : Series) (a : ℕ) (y : Series) (b : ℕ) → ¬ TiesAt p i s x a y b) λ s rest holds e g st.
          let (v, is) = target_at s rest holds e g st in
          let (same, low) = count_at s rest holds e g st in
          send_none holds.sound st is (λ j n r m. found s rest holds j n r (name_back (subst (λ z. Named p z n) (sym same) m))))

  pub other_adds : (k : ℕ) (links : List Link) → OfState store (OfEntry p i (λ e. k ≡ kind_number e.kind)) → ¬ (k ≡ kind_rec) → ¬ (k ≡ kind_send) → ¬ (k ≡ kind_spawn) → Adds store (TiesAt p i) links links 2
  unfolding OfState OfEntry
  other_adds k links read a b c = adds_none (TiesAt p i) 2
      (with_stands (λ s. (x : Series) (a : ℕ) (y : Series) (b : ℕ) → ¬ TiesAt p i s x a y b) λ s rest holds e g st.
      let is = read s rest holds e (stands_entry st) in
      other_none holds.sound st (λ z. a (is ∙ z)) (λ z. b (is ∙ z)) (λ z. c (is ∙ z)))

  -- a send's target is a place
  pub target_place : (t : ℕ) → OfState store (IsKind p i kind_send) → OfState store (OfSend p i (λ target value. t ≡ target)) → OfState store (IsPlace t)
  target_place t kind aimed = with_stands (IsPlace t) λ s rest holds e g st.
      let (v, is) = target_at t 0 kind aimed s rest holds e g st in
      in_places s holds.sound t (holds.sound.targets_in_pool p (sends g) t v (suffix_sent st.at is))

  -- a spawn's child has a place
  pub child_place : (q : ℕ) → OfState store (IsKind p i kind_spawn) → OfState store (OfEntry p i (λ e. q ≡ number_in e.kind)) → OfState store (IsPlace q)
  unfolding OfState OfEntry
  child_place q kind read = with_stands (IsPlace q) λ s rest holds e g st.
      let is : as_spawn e.kind ≡ some q = spawn_kind e.kind (kind_at kind s rest holds e g st) ∙ ap some (sym (read s rest holds e (stands_entry st))) in
      in_places s holds.sound q (child_lives holds.sound p st.at is)

pub sends_few : (store : List ℕ) (p i c : ℕ) → IsImage store → OfState store (λ s. c ≡ sends (oldest i (history_at s p))) → c ≤ most_entries
unfolding OfState
sends_few store p i c is_image counted =
    let s = is_image.state in
    let low = sends_low (history_at s p) i in
    omega (arith, counted s is_image.rest (record { sound = is_image.sound; words = is_image.words }), low, is_image.sound.history_fits p, (sizes_in_lem s.sizes is_image.sound.sizes_pass).entries_high)
