-- The oldest entries of a history: one more at a time, their sends, and what their recs took.
use Prim.Native.Nat.{ℕ, zero, suc, ◌+◌, ◌-◌, ◌≤◌, ◌<◌}
use mathlib.Core.Path.{◌≡◌, refl, sym, ◌∙◌, ap, subst}
use mathlib.Core.Bool.{Bool, true, false, ◌||◌}
use mathlib.Core.Option.{Option, none, some}
use mathlib.Core.List.{List, [], ◌∷◌}
use native.Mathlib.Decide.{ℕ_discrete}
use native.Mathlib.Numerals.{add-one}
use native.Mathlib.Omega.{arith}
use lib.ListN.{length, drop}
use Rattle.lists.specs.Lists.{any, up_to}
use Rattle.lists.proofs.Tests.{eqb_of, eqb_apart, cond_true, cond_false, or_left, or_right, or_false}
use Rattle.lists.proofs.Lists.{any_append}
use Rattle.rules.specs.State.{Message, Letter, taking, Kind, seq, send, rec, spawn, self, check, as_send, as_rec, Entry, entry_at}
use Rattle.rules.specs.Flight.{sends, sent, taken}
use Rattle.demands.proofs.Histories.{Suffix, whole, older, suffix_length, entry_suffix, suffix_sent, sent_below, suffix_taken}
use Rattle.demands.proofs.Messages.{Any, Is}
use Rattle.store.specs.Layout.{kind_send, kind_rec, kind_number}
use Rattle.reading.specs.Reads.{oldest}

-- ---- kinds by their numbers

pub send_by_kind : (k : Kind) → kind_number k ≡ kind_send → (l : Letter) × (as_send k ≡ some l)
unfolding kind_number as_send
send_by_kind seq e = absurd (omega arith)
send_by_kind (send target value) e = (_, refl)
send_by_kind (rec a m b) e = absurd (omega arith)
send_by_kind (spawn child) e = absurd (omega arith)
send_by_kind self e = absurd (omega arith)
send_by_kind (check number) e = absurd (omega arith)

pub other_by_kind : (k : Kind) → ¬ (kind_number k ≡ kind_send) → as_send k ≡ none
unfolding kind_number as_send
other_by_kind seq n = refl
other_by_kind (send target value) n = absurd (n refl)
other_by_kind (rec a m b) n = refl
other_by_kind (spawn child) n = refl
other_by_kind self n = refl
other_by_kind (check number) n = refl

pub rec_by_kind : (k : Kind) → kind_number k ≡ kind_rec → (a : List Message) × (m : Message) × (b : List Message) × (k ≡ rec a m b)
unfolding kind_number
rec_by_kind seq e = absurd (omega arith)
rec_by_kind (send target value) e = absurd (omega arith)
rec_by_kind (rec a m b) e = (a, m, b, refl)
rec_by_kind (spawn child) e = absurd (omega arith)
rec_by_kind self e = absurd (omega arith)
rec_by_kind (check number) e = absurd (omega arith)

pub none_by_kind : (k : Kind) → ¬ (kind_number k ≡ kind_rec) → as_rec k ≡ none
unfolding kind_number as_rec
none_by_kind seq n = refl
none_by_kind (send target value) n = refl
none_by_kind (rec a m b) n = absurd (n refl)
none_by_kind (spawn child) n = refl
none_by_kind self n = refl
none_by_kind (check number) n = refl

-- ---- an entry that there is

pub entry_exists : (h : List Entry) (i : ℕ) → i < length h → (e : Entry) × (entry_at h i ≡ some e)
unfolding entry_at
entry_exists [] i b = absurd (omega arith)
entry_exists (x ∷ h) i b = go (ℕ_discrete (length h) i) (entry_exists h i)
  where
    go : Dec (length h ≡ i) → (i < length h → (e : Entry) × (entry_at h i ≡ some e)) → (e : Entry) × (entry_at (x ∷ h) i ≡ some e)
    go (yes j) f = (x, cond_true (some x) (entry_at h i) (eqb_of (length h) i j))
    go (no j) f = let (e, s) = f (omega arith) in (e, cond_false (some x) (entry_at h i) (eqb_apart (length h) i j) ∙ s)

-- ---- the oldest entries

oldest_suffix : {g h : List Entry} → Suffix g h → oldest (length g) h ≡ g
unfolding oldest
oldest_suffix {g} whole = let z : length g - length g ≡ 0 = omega arith in ap (λ (n : ℕ). drop n g) z
oldest_suffix {g} (older {e} {h} s) =
    let z : suc (length h) - length g ≡ suc (length h - length g) = (let b = suffix_length s in omega arith) in
    ap (λ (n : ℕ). drop n (e ∷ h)) z ∙ oldest_suffix s

none_suffix : (h : List Entry) → Suffix [] h
none_suffix [] = whole
none_suffix (e ∷ h) = older (none_suffix h)

pub oldest_none : (h : List Entry) → oldest 0 h ≡ []
oldest_none h = oldest_suffix (none_suffix h)

pub oldest_all : (h : List Entry) → oldest (length h) h ≡ h
oldest_all h = oldest_suffix whole

-- entry i, with the entries that are older
pub record Parted (h : List Entry) (i : ℕ) (e : Entry) : Type 0 where
  pub before : oldest (i + 1) h ≡ e ∷ oldest i h
  pub suffix : Suffix (e ∷ oldest i h) h

pub parted : (h : List Entry) (i : ℕ) {e : Entry} → entry_at h i ≡ some e → Parted h i e
parted h i {e} stands =
    let (g, s, n) = entry_suffix h i stands in
    let own : oldest i h ≡ g = ap (λ (k : ℕ). oldest k h) (sym n) ∙ oldest_suffix (tail_of s) in
    record {
      before = ap (λ (k : ℕ). oldest k h) (add-one i ∙ ap suc (sym n)) ∙ oldest_suffix s ∙ ap (λ (x : List Entry). e ∷ x) (sym own);
      suffix = subst (λ (x : List Entry). Suffix (e ∷ x) h) (sym own) s;
    }
  where
    tail_of : {x : Entry} {g k : List Entry} → Suffix (x ∷ g) k → Suffix g k
    tail_of whole = older whole
    tail_of (older s) = older (tail_of s)

-- ---- sends

pub sent_there : (h : List Entry) (i : ℕ) {e : Entry} → entry_at h i ≡ some e → {l : Letter} → as_send e.kind ≡ some l → sent h (sends (oldest i h)) ≡ some l
sent_there h i stands l = suffix_sent (parted h i stands).suffix l

pub sends_none : (h : List Entry) → sends (oldest 0 h) ≡ 0
unfolding sends
sends_none h = ap sends (oldest_none h)

-- past the last send nothing was sent
pub not_sent : (h : List Entry) (k : ℕ) → sends h ≤ k → sent h k ≡ none
not_sent h k b = go (sent h k) refl
  where
    go : (o : Option Letter) → sent h k ≡ o → o ≡ none
    go none e = refl
    go (some l) e = absurd (let z = sent_below h k e in omega arith)

-- ---- what the recs took

pub took_this : (h : List Entry) (i : ℕ) {e : Entry} → entry_at h i ≡ some e → {a b : List Message} {m : Message} → as_rec e.kind ≡ some (taking a m b) → Any (Is m) (taken h)
took_this h i stands r = suffix_taken (parted h i stands).suffix r

pub took_nothing : (test : Message → Bool) (h : List Entry) → any test (taken (oldest 0 h)) ≡ false
unfolding taken any
took_nothing test h = ap (λ (x : List Entry). any test (taken x)) (oldest_none h)

-- ---- some number below

pub any_next : (test : ℕ → Bool) (n : ℕ) → any test (up_to n) ≡ false → test n ≡ false → any test (up_to (suc n)) ≡ false
unfolding up_to any
any_next test n f g = any_append test (up_to n) (n ∷ []) ∙ or_false f (or_false g refl)

pub any_found : (test : ℕ → Bool) (k n : ℕ) → k < n → test k ≡ true → any test (up_to n) ≡ true
unfolding up_to any
any_found test k zero b t = absurd (omega arith)
any_found test k (suc n) b t = any_append test (up_to n) (n ∷ []) ∙ go (ℕ_discrete k n) (any_found test k n)
  where
    go : Dec (k ≡ n) → (k < n → test k ≡ true → any test (up_to n) ≡ true) → (any test (up_to n) || (test n || false)) ≡ true
    go (yes e) f = or_right (any test (up_to n)) (or_left false (ap test (sym e) ∙ t))
    go (no e) f = or_left (test n || false) (f (omega arith) t)

pub any_nothing : (test : ℕ → Bool) → any test (up_to 0) ≡ false
unfolding up_to any
any_nothing test = refl
