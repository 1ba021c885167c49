-- Lists of messages: which of them hold a message with a property, and when two are the same.
use Prim.Native.Nat.{ℕ}
use mathlib.Core.Path.{◌≡◌, refl, sym, ap}
use mathlib.Core.Logic.{◌⊎◌, inl, inr}
use mathlib.Core.Bool.{true, false, not}
use mathlib.Core.List.{List, [], ◌∷◌, ◌++◌, append_assoc}
use native.Mathlib.Omega.{arith}
use lib.Dec.{eqb}
use Rattle.lists.specs.Lists.{any, All, same_list}
use Rattle.lists.proofs.Tests.{true_not_false, true_or_false, eqb-true, eqb_of, and_left, and_right, and_of, or_true, or_left, or_right, not_true}
use Rattle.lists.proofs.Lists.{same_list_lem, list_same}
use Rattle.rules.specs.State.{Message, is_named, same_message, same_queue}
use Rattle.rules.specs.Sound.{distinct}

-- a message with the property stands in the list
pub data Any (P : Message → Type 0) : List Message → Type 0 where
  here : {m : Message} {b : List Message} → P m → Any P (m ∷ b)
  there : {m : Message} {b : List Message} → Any P b → Any P (m ∷ b)

abbrev pub Is : Message → Message → Type 0
Is m n = n ≡ m

pub any_none : {P : Message → Type 0} {b : List Message} → Any P b → b ≡ [] → ⊥
any_none (here {m} {b = c} _) e = let z : ◌≡◌ {A = ℕ} 0 1 = cc in omega arith
any_none (there {m} {b = c} _) e = let z : ◌≡◌ {A = ℕ} 0 1 = cc in omega arith

module _ {P : Message → Type 0} where
  pub any_append : (b : List Message) {c : List Message} → Any P (b ++ c) → Any P b ⊎ Any P c
  any_append [] h = inr h
  any_append (m ∷ b) (here e) = inl (here e)
  any_append (m ∷ b) (there h) = elim (any_append b h) [ inl x ↦ inl (there x) | inr y ↦ inr y ]

  pub any_left : {b : List Message} (c : List Message) → Any P b → Any P (b ++ c)
  any_left c (here e) = here e
  any_left c (there h) = there (any_left c h)

  pub any_right : (b : List Message) {c : List Message} → Any P c → Any P (b ++ c)
  any_right [] h = h
  any_right (m ∷ b) h = there (any_right b h)

  pub any_one : {m : Message} → Any P (m ∷ []) → P m
  any_one (here n) = n
  any_one (there x) = elim x [ ]

  -- with one more message in the middle
  pub any_more : (a : List Message) (m : Message) (b : List Message) → Any P (a ++ b) → Any P (a ++ (m ∷ b))
  any_more [] m b h = there h
  any_more (x ∷ a) m b (here n) = here n
  any_more (x ∷ a) m b (there h) = there (any_more a m b h)

  pub any_middle : (a : List Message) (m : Message) (b : List Message) → P m → Any P (a ++ (m ∷ b))
  any_middle [] m b n = here n
  any_middle (x ∷ a) m b n = there (any_middle a m b n)

  pub any_less : (a : List Message) {m : Message} (b : List Message) → Any P (a ++ (m ∷ b)) → Any P (a ++ b) ⊎ P m
  any_less [] b (here n) = inr n
  any_less [] b (there h) = inl h
  any_less (x ∷ a) b (here n) = inl (here n)
  any_less (x ∷ a) b (there h) = elim (any_less a b h) [ inl y ↦ inl (there y) | inr y ↦ inr y ]

  pub any_find : {b : List Message} → Any P b → (m : Message) × P m × Any (Is m) b
  any_find (here {m} x) = (m, x, here refl)
  any_find (there x) = let r = any_find x in (r.0, r.1, there r.2)

-- every element has the property
module _ (P : Message → Type 0) where
  pub all_of : (b : List Message) → ((m : Message) → Any (Is m) b → P m) → All P b
  unfolding All
  all_of [] f = tt
  all_of (m ∷ b) f = (f m (here refl), all_of b (λ n x. f n (there x)))

  pub all_at : {m : Message} (b : List Message) → All P b → Any (Is m) b → P m
  unfolding All
  all_at [] a x = elim x [ ]
  all_at {m} (n ∷ b) a (here e) = rw e at a.0
  all_at (n ∷ b) a (there x) = all_at b a.1 x

pub any_map : {P Q : Message → Type 0} {b : List Message} → ((m : Message) → P m → Q m) → Any P b → Any Q b
any_map f (here {m} x) = here (f m x)
any_map f (there x) = there (any_map f x)

-- ---- names
pub record Named (s k : ℕ) (m : Message) : Type 0 where
  pub sender : m.sender ≡ s
  pub count : m.count ≡ k

pub is_named_lem : (s k : ℕ) (m : Message) → is_named s k m ≡ true → Named s k m
unfolding is_named
is_named_lem s k m e = record {
  sender = eqb-true m.sender s (and_left (eqb m.sender s) (eqb m.count k) e);
  count = eqb-true m.count k (and_right (eqb m.sender s) (eqb m.count k) e);
}

pub named_is : {s k : ℕ} {m : Message} → Named s k m → is_named s k m ≡ true
unfolding is_named
named_is {s} {k} {m} n = and_of (eqb_of m.sender s n.sender) (eqb_of m.count k n.count)

pub find_named : (s k : ℕ) (b : List Message) → any (is_named s k) b ≡ true → Any (Named s k) b
unfolding any
find_named s k [] e = true_not_false e refl
find_named s k (m ∷ b) e = in_rest (or_true (is_named s k m) (any (is_named s k) b) e) (find_named s k b)
  where
    in_rest : (is_named s k m ≡ true) ⊎ (any (is_named s k) b ≡ true) → (any (is_named s k) b ≡ true → Any (Named s k) b) → Any (Named s k) (m ∷ b)
    in_rest (inl i) f = here (is_named_lem s k m i)
    in_rest (inr i) f = there (f i)

pub named_found : {s k : ℕ} {b : List Message} → Any (Named s k) b → any (is_named s k) b ≡ true
unfolding any
named_found {s} {k} (here {b = c} n) = or_left (any (is_named s k) c) (named_is n)
named_found {s} {k} (there {m} x) = or_right (is_named s k m) (named_found x)

pub not_named : {s k : ℕ} {b : List Message} → any (is_named s k) b ≡ false → ¬ Any (Named s k) b
not_named e x = true_not_false (named_found x) e

pub named_not : (s k : ℕ) (b : List Message) → ¬ Any (Named s k) b → any (is_named s k) b ≡ false
named_not s k b n = elim (true_or_false (any (is_named s k) b)) [ inl e ↦ absurd (n (find_named s k b e)) | inr e ↦ e ]

-- ---- the same queue
pub message_path : {m n : Message} → m.sender ≡ n.sender → m.count ≡ n.count → m.value ≡ n.value → m ≡ n
message_path a b c = λ i. record { sender = a i; count = b i; value = c i }

pub same_message_lem : (m n : Message) → same_message m n ≡ true → m ≡ n
unfolding same_message
same_message_lem m n e =
    let names = is_named_lem n.sender n.count m (and_left (is_named n.sender n.count m) (same_list m.value n.value) e) in
    message_path names.sender names.count (same_list_lem m.value n.value (and_right (is_named n.sender n.count m) (same_list m.value n.value) e))

pub same_queue_lem : (a b : List Message) → same_queue a b ≡ true → a ≡ b
unfolding same_queue
same_queue_lem [] [] e = refl
same_queue_lem [] (n ∷ b) e = true_not_false e refl
same_queue_lem (m ∷ a) [] e = true_not_false e refl
same_queue_lem (m ∷ a) (n ∷ b) e =
    let head = same_message_lem m n (and_left (same_message m n) (same_queue a b) e) in
    let tail = same_queue_lem a b (and_right (same_message m n) (same_queue a b) e) in
    cc

queue_same_own : (a : List Message) → same_queue a a ≡ true
unfolding same_queue same_message
queue_same_own [] = refl
queue_same_own (m ∷ a) = and_of (and_of (named_is {s = m.sender} {k = m.count} {m = m} (record { sender = refl; count = refl })) (list_same m.value)) (queue_same_own a)

pub queue_same : {a b : List Message} → a ≡ b → same_queue a b ≡ true
queue_same {a} {b} e = rw e (queue_same_own b)

-- ---- no two messages of one name
abbrev Like : Message → Message → Type 0
Like m = Named m.sender m.count

like_sym : {m n : Message} → Like m n → Like n m
like_sym l = record { sender = sym l.sender; count = sym l.count }

abbrev pub Once : List Message → Type 0
Once [] = Unit {0}
Once (m ∷ b) = ¬ Any (Named m.sender m.count) b × Once b

pub once_of : (b : List Message) → distinct b ≡ true → Once b
unfolding distinct
once_of [] e = tt
once_of (m ∷ b) e =
    let first = not_true (any (is_named m.sender m.count) b) (and_left (not (any (is_named m.sender m.count) b)) (distinct b) e) in
    (not_named first, once_of b (and_right (not (any (is_named m.sender m.count) b)) (distinct b) e))

pub of_once : (b : List Message) → Once b → distinct b ≡ true
unfolding distinct
of_once [] o = refl
of_once (m ∷ b) o = and_of (ap not (named_not m.sender m.count b o.0)) (of_once b o.1)

any_lose : {P : Message → Type 0} (a : List Message) (m : Message) (b : List Message) → ¬ Any P (a ++ (m ∷ b)) → ¬ Any P (a ++ b) × ¬ P m
any_lose a m b n = (λ x. n (any_more a m b x), λ x. n (any_middle a m b x))

any_gain : {P : Message → Type 0} (a : List Message) (m : Message) (b : List Message) → ¬ Any P (a ++ b) → ¬ P m → ¬ Any P (a ++ (m ∷ b))
any_gain a m b n p x = elim (any_less a b x) [ inl y ↦ n y | inr y ↦ p y ]

pub once_out : (a : List Message) (m : Message) (b : List Message) → Once (a ++ (m ∷ b)) → Once (a ++ b) × ¬ Any (Named m.sender m.count) (a ++ b)
once_out [] m b o = (o.1, o.0)
once_out (x ∷ a) m b o = let r = once_out a m b o.1 in let n = any_lose a m b o.0 in ((n.0, r.0), go r.1 n.1)
  where
    go : ¬ Any (Like m) (a ++ b) → ¬ Like x m → ¬ Any (Like m) (x ∷ (a ++ b))
    go f g (here l) = g (like_sym l)
    go f g (there z) = f z

pub once_in : (a : List Message) (m : Message) (b : List Message) → Once (a ++ b) → ¬ Any (Named m.sender m.count) (a ++ b) → Once (a ++ (m ∷ b))
once_in [] m b o n = (n, o)
once_in (x ∷ a) m b o n = (any_gain a m b o.0 (λ l. n (here (like_sym l))), once_in a m b o.1 (λ z. n (there z)))

-- m goes from its place in one list to the head of the next, and back
pub once_take : (a : List Message) (m : Message) (b c : List Message) → Once ((a ++ (m ∷ b)) ++ c) → Once ((a ++ b) ++ (m ∷ c))
once_take a m b c o = let r = once_out a m (b ++ c) (rw append_assoc at o) in once_in (a ++ b) m c (rw append_assoc r.0) (rw append_assoc r.1)

pub once_give : (a : List Message) (m : Message) (b c : List Message) → Once ((a ++ b) ++ (m ∷ c)) → Once ((a ++ (m ∷ b)) ++ c)
once_give a m b c o = let r = once_out (a ++ b) m c o in rw append_assoc (once_in a m (b ++ c) (rw append_assoc at r.0) (rw append_assoc at r.1))
