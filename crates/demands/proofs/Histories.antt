-- Histories: their sends, what their recs took and left, and what was the history when an entry was the newest.
use Prim.Native.Nat.{ℕ, suc, ◌<◌, ◌≤◌}
use mathlib.Core.Path.{◌≡◌, refl, sym, ◌∙◌, ap}
use mathlib.Core.Logic.{◌⊎◌, inl, inr}
use mathlib.Core.Option.{Option, none, some}
use mathlib.Core.List.{List, [], ◌∷◌}
use native.Mathlib.Decide.{ℕ_discrete}
use native.Mathlib.Omega.{arith}
use lib.ListN.{length}
use Rattle.lists.proofs.Tests.{none_not_some, some_injective, eqb_apart, eqb_same, eqb_of, cond_true, cond_false}
use Rattle.rules.specs.State.{Message, Letter, Taking, taking, as_send, as_rec, Entry, entry_at}
use Rattle.rules.specs.Flight.{count_letter, sends, letter_or, sent, also_taken, taken, left_or}
pub use Rattle.rules.specs.Standing.{Suffix, whole, older}
use Rattle.demands.proofs.Messages.{Any, here, there, Is}

pub below_not_same : {a b : ℕ} → a < b → a ≡ b → ⊥
below_not_same h e = omega arith

-- ---- sends
-- an entry that is no send of the count does not change what was sent
pub letter_older : (o : Option Letter) (n k : ℕ) (rest : Option Letter) → (o ≡ none) ⊎ ¬ (n ≡ k) → letter_or o n k rest ≡ rest
unfolding letter_or
letter_older none n k rest h = refl
letter_older (some l) n k rest (inl e) = none_not_some (sym e)
letter_older (some l) n k rest (inr h) = cond_false (some l) rest (eqb_apart n k h)

pub letter_own : (l : Letter) (n : ℕ) (rest : Option Letter) → letter_or (some l) n n rest ≡ some l
unfolding letter_or
letter_own l n rest = cond_true (some l) rest (eqb_same n)

-- what was sent is an older entry's, or this one's
pub letter_which : (o : Option Letter) (n k : ℕ) (rest : Option Letter) {l : Letter} → letter_or o n k rest ≡ some l → (rest ≡ some l) ⊎ ((o ≡ some l) × (n ≡ k))
unfolding letter_or
letter_which none n k rest e = inl e
letter_which (some m) n k rest {l} e = go (ℕ_discrete n k)
  where
    go : Dec (n ≡ k) → (rest ≡ some l) ⊎ ((some m ≡ some l) × (n ≡ k))
    go (yes i) = inr (sym (cond_true (some m) rest (eqb_of n k i)) ∙ e, i)
    go (no i) = inl (sym (cond_false (some m) rest (eqb_apart n k i)) ∙ e)

pub count_grows : (o : Option Letter) (n : ℕ) → n ≤ count_letter o n
unfolding count_letter
count_grows none n = omega arith
count_grows (some l) n = omega arith

count_letter_lem : {o : Option Letter} {l : Letter} (n : ℕ) → o ≡ some l → count_letter o n ≡ suc n
unfolding count_letter
count_letter_lem n e = rw e refl

pub sent_below : (h : List Entry) (k : ℕ) {l : Letter} → sent h k ≡ some l → k < sends h
unfolding sent sends
sent_below [] k e = none_not_some e
sent_below (x ∷ h) k {l} e = go (letter_which (as_send x.kind) (sends h) k (sent h k) e) (sent_below h k)
  where
    go : (sent h k ≡ some l) ⊎ ((as_send x.kind ≡ some l) × (sends h ≡ k)) → (sent h k ≡ some l → k < sends h) → k < count_letter (as_send x.kind) (sends h)
    go (inl i) f = let z : k < sends h = f i in omega (arith, count_grows (as_send x.kind) (sends h))
    go (inr i) f = let z : sends h ≡ k = i.1 in omega (arith, count_letter_lem (sends h) i.0)

-- ---- suffixes: what was the history when an entry was the newest
pub suffix_length : {g h : List Entry} → Suffix g h → length g ≤ length h
suffix_length {g} whole = omega arith
suffix_length (older s) = let z = suffix_length s in omega arith

pub suffix_top : {g h : List Entry} → h ≡ g → Suffix g h
suffix_top e = rw e whole

pub suffix_tail : {e : Entry} {g h : List Entry} → Suffix (e ∷ g) h → Suffix g h
suffix_tail whole = older whole
suffix_tail (older s) = older (suffix_tail s)

pub suffix_cons : {e f : Entry} {g h : List Entry} → Suffix (e ∷ g) (f ∷ h) → ((e ≡ f) × (g ≡ h)) ⊎ Suffix (e ∷ g) h
suffix_cons whole = inl (refl, refl)
suffix_cons (older s) = inr s

pub no_suffix : {e : Entry} {g h : List Entry} {B : Type 0} → Suffix (e ∷ g) h → h ≡ [] → B
no_suffix s e = let z = suffix_length s in absurd (omega (arith, ap length e))

pub nil_cons : {e : Entry} {h : List Entry} {B : Type 0} → [] ≡ e ∷ h → B
nil_cons e = let z : ◌≡◌ {A = ℕ} 0 1 = cc in absurd (omega arith)

-- the same by the entry's number
pub suffix_entry : {e : Entry} {g h : List Entry} → Suffix (e ∷ g) h → entry_at h (length g) ≡ some e
unfolding entry_at
suffix_entry {e} {g} whole = cond_true (some e) (entry_at g (length g)) (eqb_same (length g))
suffix_entry {e} {g} (older {e = f} {h} s) =
    cond_false (some f) (entry_at h (length g)) (eqb_apart (length h) (length g) (λ i. let z = suffix_length s in omega arith)) ∙ suffix_entry s

pub entry_suffix : (h : List Entry) (i : ℕ) {e : Entry} → entry_at h i ≡ some e → (g : List Entry) × Suffix (e ∷ g) h × (length g ≡ i)
unfolding entry_at
entry_suffix [] i e = none_not_some e
entry_suffix (f ∷ h) i {e} stands = go (ℕ_discrete (length h) i) (entry_suffix h i)
  where
    go : Dec (length h ≡ i) → (entry_at h i ≡ some e → (g : List Entry) × Suffix (e ∷ g) h × (length g ≡ i)) → (g : List Entry) × Suffix (e ∷ g) (f ∷ h) × (length g ≡ i)
    go (yes j) r =
        let same = some_injective (sym (cond_true (some f) (entry_at h i) (eqb_of (length h) i j)) ∙ stands) in
        (h, suffix_top (ap (λ x. x ∷ h) same), j)
    go (no j) r = let (g, s, l) = r (sym (cond_false (some f) (entry_at h i) (eqb_apart (length h) i j)) ∙ stands) in (g, older s, l)

-- the same by what was sent
pub suffix_sent : {e : Entry} {g h : List Entry} {l : Letter} → Suffix (e ∷ g) h → as_send e.kind ≡ some l → sent h (sends g) ≡ some l
unfolding sent
suffix_sent {g} {l} whole i = ap (λ o. letter_or o (sends g) (sends g) (sent g (sends g))) i ∙ letter_own l (sends g) (sent g (sends g))
suffix_sent {g} {l} (older {e = f} {h} s) i =
    let r = suffix_sent s i in
    letter_older (as_send f.kind) (sends h) (sends g) (sent h (sends g)) (inr (λ z. below_not_same (sent_below h (sends g) r) (sym z))) ∙ r

pub record Sender (h : List Entry) (k : ℕ) (l : Letter) : Type 0 where
  pub entry : Entry
  pub before : List Entry
  pub stands : Suffix (entry ∷ before) h
  pub sends_it : as_send entry.kind ≡ some l
  pub count : sends before ≡ k

pub sent_suffix : (h : List Entry) (k : ℕ) {l : Letter} → sent h k ≡ some l → Sender h k l
unfolding sent
sent_suffix [] k e = none_not_some e
sent_suffix (x ∷ h) k {l} e = go (letter_which (as_send x.kind) (sends h) k (sent h k) e) (sent_suffix h k)
  where
    go : (sent h k ≡ some l) ⊎ ((as_send x.kind ≡ some l) × (sends h ≡ k)) → (sent h k ≡ some l → Sender h k l) → Sender (x ∷ h) k l
    go (inl i) f = let r = f i in record { entry = r.entry; before = r.before; stands = older r.stands; sends_it = r.sends_it; count = r.count }
    go (inr i) f = record { entry = x; before = h; stands = whole; sends_it = i.0; count = i.1 }

-- ---- recs
pub left_older : (o : Option Taking) (b : List Message) → o ≡ none → left_or o b ≡ b
unfolding left_or
left_older o b e = rw e refl

pub taken_older : (o : Option Taking) (b : List Message) → o ≡ none → also_taken o b ≡ b
unfolding also_taken
taken_older o b e = rw e refl

pub taken_more : {P : Message → Type 0} (o : Option Taking) (b : List Message) → Any P b → Any P (also_taken o b)
unfolding also_taken
taken_more none b x = x
taken_more (some (taking a m c)) b x = there x

-- a message taken was taken by an older entry, or by this one
pub taken_which : {P : Message → Type 0} (o : Option Taking) (b : List Message) → Any P (also_taken o b)
    → Any P b ⊎ ((a : List Message) × (m : Message) × (c : List Message) × (o ≡ some (taking a m c)) × P m)
unfolding also_taken
taken_which none b x = inl x
taken_which (some (taking a m c)) b (here x) = inr (a, m, c, refl, x)
taken_which (some (taking a m c)) b (there x) = inl x

pub suffix_taken : {e : Entry} {g h : List Entry} {a b : List Message} {m : Message} → Suffix (e ∷ g) h → as_rec e.kind ≡ some (taking a m b) → Any (Is m) (taken h)
unfolding taken also_taken
suffix_taken whole i = rw i (here refl)
suffix_taken (older {e = f} {h} s) i = taken_more (as_rec f.kind) (taken h) (suffix_taken s i)
