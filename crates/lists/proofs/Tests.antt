-- Laws of tests: what a test on numbers says when it is true and when it is false, and what two tests joined say.
use Prim.Native.Nat.{ℕ, suc, ◌<◌, ◌≤◌}
use mathlib.Core.Path.{◌≡◌, refl, sym}
use mathlib.Core.Logic.{◌⊎◌, inl, inr}
use mathlib.Core.Bool.{Bool, true, false, cond, not, ◌&&◌, ◌||◌}
use mathlib.Core.Option.{Option, none, some}
use native.Mathlib.Omega.{arith}
use lib.Dec.{T, eqb, leb, ltb, eqb→eq, eqb_refl, leb→le, le→leb, ltb→lt, lt→ltb, nleb→lt, nltb→le}

pub to_T : {b : Bool} → b ≡ true → T b
to_T e = rw e tt

pub from_T : (b : Bool) → T b → b ≡ true
from_T true t = refl
from_T false t = absurd t

pub not_T : {b : Bool} → b ≡ false → T (not b)
not_T e = rw e tt

pub true_not_false : {A : Type 0} {b : Bool} → b ≡ true → b ≡ false → A
true_not_false p q = let z : ◌≡◌ {A = ℕ} 0 1 = cc in absurd (omega arith)

pub none_not_some : {A B : Type 0} {a : A} → ◌≡◌ {A = Option A} none (some a) → B
none_not_some e = let z : ◌≡◌ {A = ℕ} 0 1 = cc in absurd (omega arith)

pub some_injective : {A : Type 0} {a b : A} → ◌≡◌ {A = Option A} (some a) (some b) → a ≡ b
some_injective e = cc

-- a test is true or false
pub true_or_false : (b : Bool) → (b ≡ true) ⊎ (b ≡ false)
true_or_false true = inl refl
true_or_false false = inr refl

pub eqb-true : (m n : ℕ) → eqb m n ≡ true → m ≡ n
eqb-true m n e = eqb→eq m n (to_T e)

pub eqb_same : (n : ℕ) → eqb n n ≡ true
eqb_same n = from_T (eqb n n) (eqb_refl n)

pub eqb_of : (m n : ℕ) → m ≡ n → eqb m n ≡ true
eqb_of m n e = rw e (eqb_same n)

pub eqb-false : (m n : ℕ) → eqb m n ≡ false → ¬ (m ≡ n)
eqb-false m n f e = true_not_false (eqb_of m n e) f

pub eqb_apart : (m n : ℕ) → ¬ (m ≡ n) → eqb m n ≡ false
eqb_apart m n a = elim (true_or_false (eqb m n)) [ inl t ↦ absurd (a (eqb-true m n t)) | inr f ↦ f ]

pub leb-true : (m n : ℕ) → leb m n ≡ true → m ≤ n
leb-true m n e = leb→le m n (to_T e)

pub leb_of : (m n : ℕ) → m ≤ n → leb m n ≡ true
leb_of m n h = from_T (leb m n) (le→leb m n h)

pub leb_false : (m n : ℕ) → leb m n ≡ false → n < m
leb_false m n e = nleb→lt m n (not_T e)

pub leb_over : (m n : ℕ) → n < m → leb m n ≡ false
leb_over m n h = elim (true_or_false (leb m n)) [ inl t ↦ absurd (let g = leb-true m n t in omega arith) | inr f ↦ f ]

pub ltb-true : (m n : ℕ) → ltb m n ≡ true → m < n
ltb-true m n e = ltb→lt m n (to_T e)

pub ltb_of : (m n : ℕ) → m < n → ltb m n ≡ true
ltb_of m n h = from_T (ltb m n) (lt→ltb m n h)

pub ltb_false : (m n : ℕ) → ltb m n ≡ false → n ≤ m
ltb_false m n e = nltb→le m n (not_T e)

pub ltb_over : (m n : ℕ) → n ≤ m → ltb m n ≡ false
ltb_over m n h = leb_over (suc m) n (omega arith)

-- two tests joined
pub and_left : (a b : Bool) → (a && b) ≡ true → a ≡ true
and_left true b e = refl
and_left false b e = e

pub and_right : (a b : Bool) → (a && b) ≡ true → b ≡ true
and_right true b e = e
and_right false b e = true_not_false e refl

pub and_of : {a b : Bool} → a ≡ true → b ≡ true → (a && b) ≡ true
and_of p q = rw (p, q) refl

pub or_true : (a b : Bool) → (a || b) ≡ true → (a ≡ true) ⊎ (b ≡ true)
or_true true b e = inl refl
or_true false b e = inr e

pub or_left : {a : Bool} (b : Bool) → a ≡ true → (a || b) ≡ true
or_left b p = rw p refl

pub or_right : (a : Bool) {b : Bool} → b ≡ true → (a || b) ≡ true
or_right true p = refl
or_right false p = p

pub or_false_left : (a b : Bool) → (a || b) ≡ false → a ≡ false
or_false_left true b e = e
or_false_left false b e = refl

pub or_false_right : (a b : Bool) → (a || b) ≡ false → b ≡ false
or_false_right true b e = true_not_false refl e
or_false_right false b e = e

pub or_false : {a b : Bool} → a ≡ false → b ≡ false → (a || b) ≡ false
or_false p q = rw (p, q) refl

pub not_true : (b : Bool) → not b ≡ true → b ≡ false
not_true true e = sym e
not_true false e = refl

pub not_false : (b : Bool) → not b ≡ false → b ≡ true
not_false true e = refl
not_false false e = sym e

-- a choice whose test is known
pub cond_true : {A : Type 0} {b : Bool} (x y : A) → b ≡ true → cond b x y ≡ x
cond_true x y e = rw e refl

pub cond_false : {A : Type 0} {b : Bool} (x y : A) → b ≡ false → cond b x y ≡ y
cond_false x y e = rw e refl

-- a choice made by `elim`, which `cond` is not by computation
abbrev pub choose : {A : Type 0} → Bool → A → A → A
choose b x y = elim b [ true ↦ x | false ↦ y ]

pub choose_true : {A : Type 0} {b : Bool} (x y : A) → b ≡ true → choose b x y ≡ x
choose_true x y e = rw e refl

pub choose_false : {A : Type 0} {b : Bool} (x y : A) → b ≡ false → choose b x y ≡ y
choose_false x y e = rw e refl
