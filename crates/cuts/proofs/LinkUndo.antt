-- The undo of a line's newest event, by links: it is accepted where no event that stays is linked to it, and nowhere else.
use Prim.Native.Nat.{ℕ, suc, ◌≤◌, ◌<◌}
use mathlib.Core.Path.{◌≡◌, refl, sym, ◌∙◌, ap, subst, subst₂}
use mathlib.Core.Option.{Option, some}
use mathlib.Core.List.{List}
use native.Mathlib.Decide.{dec_lt}
use native.Mathlib.Omega.{arith}
use lib.ListN.{length}
use Rattle.lists.proofs.Tests.{none_not_some, some_injective}
use Rattle.rules.specs.State.{Message, Letter, letter, Taking, taking, Kind, seq, send, rec, spawn, self, check, as_send, as_rec, as_spawn, Entry, State}
use Rattle.rules.specs.Flight.{sends}
use Rattle.demands.proofs.Does.{Alone, seq_alone, self_alone, check_alone}
use Rattle.rules.specs.Sound.{Sound}
use Rattle.rules.specs.Depends.{Series, entries_of, deliveries_to, level}
use Rattle.rules.specs.Standing.{Stands, Arrives, seen}
use Rattle.rules.specs.Rollback.{Cut}
use Rattle.demands.proofs.Views.{alone_send, alone_rec, alone_spawn}
use Rattle.demands.proofs.Messages.{Named}
use Rattle.demands.proofs.Event.{Under, low}
use Rattle.demands.proofs.EventDepends.{stands_entry, stands_older, entry_here}
use Rattle.demands.proofs.CutNumbers.{seen_low}
use Rattle.demands.proofs.SearchNumbers.{Can, can_alone, can_send, can_rec, can_spawn, can_undeliver, stands_cut}
use Rattle.cuts.specs.declared.link.Link.{Link}
use Rattle.cuts.specs.Links.{line_number, cut_in, Ties, of_rec, of_since, of_send, of_child, of_mail, Aims, of_aim, Linked, Says, Links}
use Rattle.cuts.specs.Going.{Blocks, Blocked}
use Rattle.cuts.proofs.Lines.{at_line, same_line}

-- ---- which kind an entry is of
data Sort (kind : Kind) : Type 0 where
  is_alone : Alone kind → Sort kind
  is_send : {t : ℕ} {v : List ℕ} → as_send kind ≡ some (letter t v) → Sort kind
  is_rec : {a d : List Message} {m : Message} → as_rec kind ≡ some (taking a m d) → Sort kind
  is_spawn : {q : ℕ} → as_spawn kind ≡ some q → Sort kind

sort : (kind : Kind) → Sort kind
unfolding as_send as_rec as_spawn
sort seq = is_alone seq_alone
sort (send t v) = is_send refl
sort (rec a m d) = is_rec refl
sort (spawn q) = is_spawn refl
sort self = is_alone self_alone
sort (check n) = is_alone check_alone

abbrev pub mark : Kind → ℕ
mark seq = 0
mark (send t v) = 1
mark (rec a m d) = 2
mark (spawn q) = 3
mark self = 0
mark (check n) = 0

alone_mark : {kind : Kind} → Alone kind → mark kind ≡ 0
alone_mark seq_alone = refl
alone_mark self_alone = refl
alone_mark check_alone = refl

pub send_mark : (kind : Kind) {l : Letter} → as_send kind ≡ some l → mark kind ≡ 1
unfolding as_send
send_mark seq e = none_not_some e
send_mark (send t v) e = refl
send_mark (rec a m d) e = none_not_some e
send_mark (spawn q) e = none_not_some e
send_mark self e = none_not_some e
send_mark (check n) e = none_not_some e

pub rec_mark : (kind : Kind) {t : Taking} → as_rec kind ≡ some t → mark kind ≡ 2
unfolding as_rec
rec_mark seq e = none_not_some e
rec_mark (send t v) e = none_not_some e
rec_mark (rec a m d) e = refl
rec_mark (spawn q) e = none_not_some e
rec_mark self e = none_not_some e
rec_mark (check n) e = none_not_some e

pub spawn_mark : (kind : Kind) {q : ℕ} → as_spawn kind ≡ some q → mark kind ≡ 3
unfolding as_spawn
spawn_mark seq e = none_not_some e
spawn_mark (send t v) e = none_not_some e
spawn_mark (rec a m d) e = none_not_some e
spawn_mark (spawn q) e = refl
spawn_mark self e = none_not_some e
spawn_mark (check n) e = none_not_some e

-- ---- one entry stands at one place
module _ {s : State} {p i : ℕ} {e f : Entry} {g h : List Entry} (st : Stands s p i e g) (st' : Stands s p i f h) where
  pub stands_same : e ≡ f
  stands_same = some_injective (sym (stands_entry st) ∙ stands_entry st')

  pub stands_after : g ≡ h
  stands_after = sym (stands_older st) ∙ stands_older st'

stands_at : {s : State} {p i j : ℕ} {e : Entry} {g : List Entry} → i ≡ j → Stands s p i e g → Stands s p j e g
stands_at {s} {p} {e = e} {g} z st = subst (λ n. Stands s p n e g) z st

-- what an undo needs, said of an entry that is known
data CanAt (s : State) (k : Cut) (p : ℕ) (e : Entry) (g : List Entry) : Type 0 where
  at_alone : Alone e.kind → CanAt s k p e g
  at_send : {t : ℕ} {v : List ℕ} → as_send e.kind ≡ some (letter t v) → ((j : ℕ) (n : Message) → Arrives s t j n → Named p (sends g) n → k (deliveries_to t) ≤ j) → CanAt s k p e g
  at_rec : {a d : List Message} {m : Message} → as_rec e.kind ≡ some (taking a m d) → k (deliveries_to p) ≡ seen a m d g → CanAt s k p e g
  at_spawn : {q : ℕ} → as_spawn e.kind ≡ some q → k (entries_of q) ≡ 0 → k (deliveries_to q) ≡ 0
      → ((u j : ℕ) (v : List ℕ) (f : Entry) (h : List Entry) → Stands s u j f h → as_send f.kind ≡ some (letter q v) → k (entries_of u) ≤ j) → CanAt s k p e g

moved : {s : State} {k : Cut} {p i j : ℕ} {e f : Entry} {g h : List Entry} → Stands s p i e g → k (entries_of p) ≡ suc i → Stands s p j f h → k (entries_of p) ≡ suc j → CanAt s k p f h → CanAt s k p e g
moved {s} {k} {p} {i} {j} st e st' e' c = let same : j ≡ i = omega (arith, e, e') in subst₂ (CanAt s k p) (stands_same (stands_at same st') st) (stands_after (stands_at same st') st) c

can_at : {s : State} {k : Cut} {p i : ℕ} {e : Entry} {g : List Entry} → Stands s p i e g → k (entries_of p) ≡ suc i → Can s k (entries_of p) → CanAt s k p e g
can_at st e (can_alone st' a e') = moved st e st' e' (at_alone a)
can_at st e (can_send st' is e' f) = moved st e st' e' (at_send is f)
can_at st e (can_rec st' is e' f) = moved st e st' e' (at_rec is f)
can_at st e (can_spawn st' is e' x y f) = moved st e st' e' (at_spawn is x y f)

pub letter_target : {a b : ℕ} {v w : List ℕ} → ◌≡◌ {A = Option Letter} (some (letter a v)) (some (letter b w)) → a ≡ b
letter_target e = cc

-- of a spawn: what the child needs
record Childless (s : State) (k : Cut) (q : ℕ) : Type 0 where
  no_entry : k (entries_of q) ≡ 0
  no_mail : k (deliveries_to q) ≡ 0
  unsent : (u j : ℕ) (v : List ℕ) (f : Entry) (h : List Entry) → Stands s u j f h → as_send f.kind ≡ some (letter q v) → k (entries_of u) ≤ j

-- ---- where an event that stays is linked to it, the undo is not accepted
pub seen_same : {o : Option Taking} {a d b c : List Message} {m n : Message} (g : List Entry) → o ≡ some (taking a m d) → o ≡ some (taking b n c) → seen a m d g ≡ seen b n c g
seen_same {a = a} {d} {b} {c} {m} {n} g e i = ap (seen_of g) (some_injective (sym e ∙ i))
  where
    seen_of : List Entry → Taking → ℕ
    seen_of g (taking a m d) = seen a m d g

module _ {s : State} {k : Cut} where
  rec_stops : {p i j : ℕ} {e : Entry} {g : List Entry} {a d : List Message} {m : Message} → Stands s p i e g → as_rec e.kind ≡ some (taking a m d) → seen a m d g ≡ suc j → i < k (entries_of p)
      → k (deliveries_to p) ≡ suc j → Can s k (deliveries_to p) → ⊥
  rec_stops {i = i} {e = e} {g} {a} {d} {m} st is n h z (can_undeliver z' f) = omega (arith, f i a m d e g st is h, n, z, z')

  since_stops : {p : ℕ} {e : Entry} {g : List Entry} {a d : List Message} {m : Message} → as_rec e.kind ≡ some (taking a m d) → seen a m d g < k (deliveries_to p) → CanAt s k p e g → ⊥
  since_stops {e = e} is h (at_alone a) = none_not_some (sym (alone_rec a) ∙ is)
  since_stops {e = e} is h (at_send i f) = omega (arith, rec_mark e.kind is, send_mark e.kind i)
  since_stops {e = e} {g} is h (at_rec i f) = omega (arith, h, f, seen_same g is i)
  since_stops {e = e} is h (at_spawn i x y f) = omega (arith, rec_mark e.kind is, spawn_mark e.kind i)

  send_stops : {p q j : ℕ} {v : List ℕ} {e : Entry} {g : List Entry} {n : Message} → Arrives s q j n → as_send e.kind ≡ some (letter q v) → Named p (sends g) n → j < k (deliveries_to q) → CanAt s k p e g → ⊥
  send_stops {e = e} r is m h (at_alone a) = none_not_some (sym (alone_send a) ∙ is)
  send_stops {q = q} {j} {e = e} {n = n} r is m h (at_send {t} i f) =
      let same : t ≡ q = letter_target (sym i ∙ is) in
      omega (arith, h, f j n (subst (λ z. Arrives s z j n) (sym same) r) m, ap (λ z. k (deliveries_to z)) same)
  send_stops {e = e} r is m h (at_rec i f) = omega (arith, send_mark e.kind is, rec_mark e.kind i)
  send_stops {e = e} r is m h (at_spawn i x y f) = omega (arith, send_mark e.kind is, spawn_mark e.kind i)

  childless : {p q : ℕ} {e : Entry} {g : List Entry} → as_spawn e.kind ≡ some q → CanAt s k p e g → Childless s k q
  childless {e = e} is (at_alone a) = none_not_some (sym (alone_spawn a) ∙ is)
  childless {e = e} is (at_send i f) = absurd (omega (arith, spawn_mark e.kind is, send_mark e.kind i))
  childless {e = e} is (at_rec i f) = absurd (omega (arith, spawn_mark e.kind is, rec_mark e.kind i))
  childless {e = e} is (at_spawn {q = r} i x y f) = subst (Childless s k) (some_injective (sym i ∙ is)) (record { no_entry = x; no_mail = y; unsent = f })

  tie_stops : {x y : Series} {a b : ℕ} → Ties s x a y b → a < k x → k y ≡ suc b → Can s k y → ⊥
  tie_stops (of_rec st is e) h z c = rec_stops st is e h z c
  tie_stops (of_since st is) h z c = since_stops is h (can_at st z c)
  tie_stops (of_send r st is e) h z c = send_stops r is (record { sender = refl; count = sym e }) h (can_at st z c)
  tie_stops (of_child st is) h z c = omega (arith, h, (childless is (can_at st z c)).no_entry)
  tie_stops (of_mail st is) h z c = omega (arith, h, (childless is (can_at st z c)).no_mail)

  aim_stops : {x y : Series} {a b : ℕ} → Aims s x a y b → a < k x → k y ≡ suc b → Can s k y → ⊥
  aim_stops (of_aim {u} {j} {v = v} {f} {h = g} st' is' st is) h z c = omega (arith, h, (childless is (can_at st z c)).unsent u j v f g st' is')

module _ {s : State} {links : List Link} {lv : List ℕ} {few : ℕ} (linked : Links s links few) where
  link_stops : {x : Series} {i k : ℕ} {Of : Series → ℕ → Series → ℕ → Type 0} → Says Of links k → Blocks links (line_number x) i lv k
      → ((y : Series) (a : ℕ) → Of y a x i → a < cut_in lv y → ⊥) → ⊥
  link_stops {x} {i} {k} {Of} says blocks f =
      let at = says.is in
      let line : says.on ≡ x = same_line says.on x (sym at.on_line_lem ∙ blocks.line) in
      let index : says.second ≡ i = sym at.on_index_lem ∙ blocks.index in
      f says.from says.first (subst₂ (Of says.from says.first) line index says.holds) (omega (arith, blocks.stays, at.from_index_lem, at_line lv says.from at.from_line_lem))

  pub blocked_not : (x : Series) {i : ℕ} → cut_in lv x ≡ suc i → Blocked links (line_number x) i lv → Can s (cut_in lv) x → ⊥
  blocked_not x {i} z b c = elim (dec_lt b.place few) [
    | yes h ↦ link_stops (linked.tied.each b.place h) b.blocks (λ y a t h. tie_stops t h z c)
    | no h ↦ link_stops (linked.each b.place (omega (arith, h)) b.below) b.blocks (λ y a t h. aim_stops t h z c)
  ]

  -- ---- where none is, it is
  module _ {t : State} (t-sound : Sound t) (under : Under t s) (levels : level t ≡ cut_in lv) (x : Series) {i : ℕ} (z : cut_in lv x ≡ suc i) (free : ¬ Blocked links (line_number x) i lv) where
    unlinked : {y : Series} {a : ℕ} → Linked links (length links) y a x i → cut_in lv y ≤ a
    unlinked {y} {a} l = elim (dec_lt a (cut_in lv y)) [
      | no h ↦ omega (arith, h)
      | yes h ↦ absurd (free (record {
        place = l.place;
        below = l.below;
        blocks = record { line = l.is.on_line_lem; index = l.is.on_index_lem; stays = omega (arith, h, l.is.from_index_lem, at_line lv y l.is.from_line_lem) };
      }))
    ]

    tie_free : {y : Series} {a : ℕ} → Ties s y a x i → cut_in lv y ≤ a
    tie_free {y} {a} tie = let l = linked.tied.all y a x i tie in unlinked (record { place = l.place; below = omega (arith, l.below, linked.fewer); is = l.is })

    aim_free : {y : Series} {a : ℕ} → Aims s y a x i → cut_in lv y ≤ a
    aim_free {y} {a} aim = unlinked (linked.all y a x i aim)

    at_level : (y : Series) → level t y ≡ cut_in lv y
    at_level y = ap (λ k. k y) levels

    still_seen : {p j : ℕ} {e : Entry} {g : List Entry} {a d : List Message} {m : Message} → Stands s p j e g → as_rec e.kind ≡ some (taking a m d) → j < cut_in lv (entries_of p) → seen a m d g ≤ cut_in lv (deliveries_to p)
    still_seen {p} st is h = let low' = seen_low t-sound (stands_cut under st (omega (arith, h, at_level (entries_of p)))) is in omega (arith, low', at_level (deliveries_to p))

  module _ {t : State} (t-sound : Sound t) (under : Under t s) (levels : level t ≡ cut_in lv) where
    entry_can : (p : ℕ) {i : ℕ} → cut_in lv (entries_of p) ≡ suc i → ¬ Blocked links (line_number (entries_of p)) i lv → Can s (cut_in lv) (entries_of p)
    entry_can p {i} z free =
        let (e, g, st) = entry_here s p i (omega (arith, z, low under (entries_of p), at_level t-sound under levels (entries_of p) z free (entries_of p))) in
        go e g st (sort e.kind)
      where
        go : (e : Entry) (g : List Entry) → Stands s p i e g → Sort e.kind → Can s (cut_in lv) (entries_of p)
        go e g st (is_alone a) = can_alone st a z
        go e g st (is_send {t = q} is) = can_send st is z λ j n r m.
            tie_free t-sound under levels (entries_of p) z free
            (subst (λ u. Ties s (deliveries_to q) j (entries_of u) i) m.sender (of_send r (subst (λ u. Stands s u i e g) (sym m.sender) st) is (sym m.count)))
        go e g st (is_rec is) = can_rec st is z
            (omega (arith, tie_free t-sound under levels (entries_of p) z free (of_since st is), still_seen t-sound under levels (entries_of p) z free st is (omega (arith, z))))
        go e g st (is_spawn is) = can_spawn st is z
            (omega (arith, tie_free t-sound under levels (entries_of p) z free (of_child st is)))
            (omega (arith, tie_free t-sound under levels (entries_of p) z free (of_mail st is)))
            λ u j v f h st' is'. aim_free t-sound under levels (entries_of p) z free (of_aim st' is' st is)

    mail_can : (q : ℕ) {i : ℕ} → cut_in lv (deliveries_to q) ≡ suc i → ¬ Blocked links (line_number (deliveries_to q)) i lv → Can s (cut_in lv) (deliveries_to q)
    mail_can q {i} z free = can_undeliver z λ j a m d e g st is h.
        let all_seen = still_seen t-sound under levels (deliveries_to q) z free st is h in
        elim (dec_lt i (seen a m d g)) [
          | no n ↦ omega (arith, n)
          | yes n ↦ absurd (let u = tie_free t-sound under levels (deliveries_to q) z free (of_rec st is (omega (arith, n, all_seen, z))) in omega (arith, u, h))
        ]

    pub free_can : (x : Series) {i : ℕ} → cut_in lv x ≡ suc i → ¬ Blocked links (line_number x) i lv → Can s (cut_in lv) x
    free_can (entries_of p) z free = entry_can p z free
    free_can (deliveries_to q) z free = mail_can q z free
