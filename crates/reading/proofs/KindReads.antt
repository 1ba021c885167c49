-- The kind of an entry, by its number.
use Rattle.std.proofs.Common.{count_by}
use Rattle.std.proofs.lemmas.List.Sums.{sum_by-cons}
use Rattle.std.proofs.lemmas.List.Recursion.{is_count_by}
use Prim.Native.Nat.{ℕ, ◌+◌, ◌≤◌}
use mathlib.Core.Path.{◌≡◌, refl, sym, ◌∙◌, ap, subst}
use mathlib.Core.Bool.{Bool, true, false, cond, ◌&&◌}
use mathlib.Core.Option.{some}
use mathlib.Core.List.{List}
use native.Mathlib.Omega.{arith}
use lib.Dec.{eqb}
use lib.ListN.{length}
use Rattle.lists.proofs.Tests.{eqb_of, eqb_apart}
use Rattle.rules.specs.State.{Message, as_send, as_rec, Entry, history_at, entry_at, Kind, seq, send, rec, spawn, self, check}
use Rattle.rules.specs.Flight.{count_letter, sends, also_taken, taken}
use Rattle.store.specs.Layout.{kind_seq, kind_send, kind_rec, kind_check, kind_number, number_in}
use Rattle.kinds.specs.declared.Kind.{Kind as EntryKind}
use Rattle.kinds.specs.declared.Kind.TheVariants.{Seq, Send, Rec, Spawn, Own, Check}
use Rattle.reading.specs.Reads.{OfState, IsEntry, OfEntry, oldest, number_of, is_kind, is_numbered}
use Rattle.reading.proofs.Holding.{holding, of_state}
use Rattle.reading.proofs.Oldest.{entry_exists, oldest_none, parted}

-- the kinds in the order of their numbers
unfoldable kind_at : ℕ → EntryKind
kind_at n = cond (eqb n 1) Seq (cond (eqb n 2) Send (cond (eqb n 3) Rec (cond (eqb n 4) Spawn (cond (eqb n 5) Own Check))))

back : (k : EntryKind) → kind_at (number_of k) ≡ k
unfolding kind_at
back Seq = refl
back Send = refl
back Rec = refl
back Spawn = refl
back Own = refl
back Check = refl

pub other_kind : {a b : EntryKind} → ¬ (a ≡ b) → ¬ (number_of a ≡ number_of b)
other_kind {a} {b} n e = n (sym (back a) ∙ ap kind_at e ∙ back b)

numbered : (k : Kind) → (kind_seq ≤ kind_number k) × (kind_number k ≤ kind_check)
unfolding kind_number
numbered seq = (omega arith, omega arith)
numbered (send target value) = (omega arith, omega arith)
numbered (rec older m newer) = (omega arith, omega arith)
numbered (spawn child) = (omega arith, omega arith)
numbered self = (omega arith, omega arith)
numbered (check number) = (omega arith, omega arith)

pub kind_read : (l : List ℕ) (p i word : ℕ) (r : EntryKind) → OfState l (OfEntry p i (λ e. word ≡ kind_number e.kind)) → (kind_seq ≤ word → word ≤ kind_check → number_of r ≡ word)
    → OfState l (OfEntry p i (λ e. number_of r ≡ kind_number e.kind))
unfolding OfEntry
kind_read l p i word r f g = of_state _ λ s rest h. λ e stands.
    let is : word ≡ kind_number e.kind = holding _ f s rest h e stands in
    let n : (kind_seq ≤ kind_number e.kind) × (kind_number e.kind ≤ kind_check) = numbered e.kind in
    g (omega arith) (omega arith) ∙ is

-- an entry of a kind and a number
module _ (l : List ℕ) (p i : ℕ) (wanted : EntryKind) (value : ℕ) (kind : EntryKind) (f : OfState l (OfEntry p i (λ e. number_of kind ≡ kind_number e.kind))) where
  pub numbered_same : kind ≡ wanted → (n : ℕ) → OfState l (OfEntry p i (λ e. n ≡ number_in e.kind)) → OfState l (OfEntry p i (λ e. eqb n value ≡ is_numbered wanted value e))
  unfolding OfEntry
  numbered_same same n g = of_state _ λ s rest h. λ e stands.
      let is : is_kind wanted e ≡ true = eqb_of _ _ (sym (holding _ f s rest h e stands) ∙ ap number_of same) in
      ap (λ k. eqb k value) (holding _ g s rest h e stands) ∙ ap (λ (b : Bool). b && eqb (number_in e.kind) value) (sym is)

  pub numbered_other : ¬ (kind ≡ wanted) → (r : Bool) → r ≡ false → OfState l (OfEntry p i (λ e. r ≡ is_numbered wanted value e))
  unfolding OfEntry
  numbered_other other r no' = of_state _ λ s rest h. λ e stands.
      let isnt : is_kind wanted e ≡ false = eqb_apart _ _ (λ z. other_kind other (holding _ f s rest h e stands ∙ z)) in
      no' ∙ ap (λ (b : Bool). b && eqb (number_in e.kind) value) (sym isnt)

-- ---- how many entries are of a kind

counted_next : (wanted : EntryKind) (h : List Entry) (i : ℕ) {e : Entry} → entry_at h i ≡ some e → count_by (is_kind wanted) (oldest (i + 1) h) ≡ cond (is_kind wanted e) 1 0 + count_by (is_kind wanted) (oldest i h)
counted_next wanted h i {e} stands = ap (count_by (is_kind wanted)) (parted h i stands).before ∙ sum_by-cons (λ x. cond (is_kind wanted x) 1 0) e (oldest i h)

module _ (l : List ℕ) (p : ℕ) (wanted : EntryKind) where
  abbrev pub Counted : (i n : ℕ) → Type 0
  Counted i n = OfState l (λ s. n ≡ count_by (is_kind wanted) (oldest i (history_at s p)))

  pub kinds_start : Counted 0 0
  kinds_start = of_state _ λ s rest h. sym (ap (count_by (is_kind wanted)) (oldest_none (history_at s p)))

  pub kinds_done : (i j n : ℕ) → j ≤ i → i ≤ j → Counted j n → Counted i n
  kinds_done i j n b b' c = let same : j ≡ i = omega arith in subst (λ (k : ℕ). Counted k n) same c

  module _ (i : ℕ) (there-is : OfState l (IsEntry p i)) (kind : EntryKind) (f : OfState l (OfEntry p i (λ e. number_of kind ≡ kind_number e.kind))) (n m : ℕ) (c : Counted i n) where
    counted_by : (b : Bool) → ((e : Entry) → number_of kind ≡ kind_number e.kind → is_kind wanted e ≡ b) → m ≡ cond b 1 0 + n → Counted (i + 1) m
    unfolding OfEntry
    counted_by b test is = of_state _ λ s rest h.
        let (e, stands) = entry_exists (history_at s p) i (holding _ there-is s rest h) in
        is
        ∙ (λ j. cond (sym (test e (holding _ f s rest h e stands)) j) 1 0 + holding _ c s rest h j)
        ∙ sym (counted_next wanted (history_at s p) i stands)

    pub kind_more : kind ≡ wanted → m ≡ n + 1 → Counted (i + 1) m
    kind_more same is = counted_by true (λ e k. eqb_of _ _ (sym k ∙ ap number_of same)) (omega arith)

    pub kind_same : ¬ (kind ≡ wanted) → m ≡ n → Counted (i + 1) m
    kind_same other is = counted_by false (λ e k. eqb_apart _ _ (λ z. other_kind other (k ∙ z))) (omega arith)

send_counts : (k : Kind) (n : ℕ) → count_letter (as_send k) n ≡ cond (eqb (kind_number k) kind_send) (1 + n) n
unfolding count_letter as_send kind_number
send_counts seq n = refl
send_counts (send target value) n = omega arith
send_counts (rec older m newer) n = refl
send_counts (spawn child) n = refl
send_counts self n = refl
send_counts (check number) n = refl

sends_of_kind : (h : List Entry) → sends h ≡ count_by (is_kind Send) h
unfolding sends
sends_of_kind h = is_count_by sends (is_kind Send) refl (λ e g. send_counts e.kind (sends g)) h

rec_counts : (k : Kind) (b : List Message) → length (also_taken (as_rec k) b) ≡ cond (eqb (kind_number k) kind_rec) (1 + length b) (length b)
unfolding also_taken as_rec kind_number
rec_counts seq b = refl
rec_counts (send target value) b = refl
rec_counts (rec older m newer) b = omega arith
rec_counts (spawn child) b = refl
rec_counts self b = refl
rec_counts (check number) b = refl

recs_of_kind : (h : List Entry) → length (taken h) ≡ count_by (is_kind Rec) h
unfolding taken
recs_of_kind h = is_count_by (λ g. length (taken g)) (is_kind Rec) refl (λ e g. rec_counts e.kind (taken g)) h

pub sends_counted : (l : List ℕ) (p i n : ℕ) → Counted l p Send i n → OfState l (λ s. n ≡ sends (oldest i (history_at s p)))
sends_counted l p i n c = of_state _ λ s rest h. holding _ c s rest h ∙ sym (sends_of_kind (oldest i (history_at s p)))

pub recs_counted : (l : List ℕ) (p i n : ℕ) → Counted l p Rec i n → OfState l (λ s. n ≡ length (taken (oldest i (history_at s p))))
recs_counted l p i n c = of_state _ λ s rest h. holding _ c s rest h ∙ sym (recs_of_kind (oldest i (history_at s p)))
