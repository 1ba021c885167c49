-- Rows tested for zeros word by word, and rows written with zeros behind them.
use Prim.Native.Nat.{ℕ, zero, suc, ◌+◌, ◌-◌, ◌≤◌, ◌<◌, min}
use mathlib.Core.Path.{◌≡◌, refl, sym, ap, ◌∙◌}
use mathlib.Core.Bool.{Bool, false}
use mathlib.Core.List.{List, [], ◌∷◌, ◌++◌, append-nil}
use native.Mathlib.Numerals.{add-one}
use native.Mathlib.Omega.{arith}
use lib.ListN.{length, take, drop, get_or, set, replicate, length-append, length-take, length-drop, drop_of_length-le}
use borrow.Rule.Slice.PartMut.{mid_of, put_mid}
use borrow.Author.Count.{below_more}
use lib.Seq.{take_at, drop-cons, take-suc, set_at, append_snoc, length-take-le}
use Rattle.lists.specs.Lists.{All}
use Rattle.lists.specs.Fill.{fill_to}
use Rattle.lists.proofs.Fill.{fill_none}
use Rattle.lists.specs.Decides.{Decides}
use Rattle.lists.proofs.All.{all_get_d}
use Rattle.lists.proofs.Decides.{no_to, by}
use Rattle.store.specs.Formed.{IsZero}

pub zeros_all : (l : List ℕ) → ((i : ℕ) → i < length l → get_or l i 0 ≡ 0) → All IsZero l
unfolding All
zeros_all [] f = tt
zeros_all (w ∷ l) f = (f 0 (omega arith), zeros_all l (λ i h. f (suc i) (omega arith)))

pub zeros_each : (l : List ℕ) (i : ℕ) → All IsZero l → i < length l → get_or l i 0 ≡ 0
zeros_each l i a h = all_get_d IsZero l i 0 a h

-- the first words of a row are zeros
abbrev pub ZerosBelow : List ℕ → ℕ → Type 0
ZerosBelow l i = (k : ℕ) → k < i → get_or l k 0 ≡ 0

-- a word more that is none
pub met_other : (l : List ℕ) (i : ℕ) (all : Bool) → all ≡ false → ¬ (get_or l i 0 ≡ 0) → Decides (ZerosBelow l (i + 1)) all
met_other l i all e n = rw e (no_to (λ f. n (f i (omega arith))))

-- a zero more
pub met_zero : (l : List ℕ) (i : ℕ) (before all : Bool) → all ≡ before → get_or l i 0 ≡ 0 → Decides (ZerosBelow l i) before → Decides (ZerosBelow l (i + 1)) all
met_zero l i before all e z d = rw e (by (λ f. below_more _ _ f z) (λ f k h. f k (omega arith)) d)

-- ---- a row written into room, and zeros behind it

fill_parts : (n m : ℕ) (row : List ℕ) → m ≡ min n (length row) → fill_to n 0 row ≡ take m row ++ replicate (n - m) 0
unfolding fill_to
fill_parts zero m row e = let none : m ≡ 0 = omega (arith, e) in rw none refl
fill_parts (suc n) m [] e =
    let none : m ≡ 0 = omega (arith, e) in
    let all : suc n - 0 ≡ suc n = omega arith in
    rw (none, all) (fill_none (suc n) 0)
fill_parts (suc n) m (w ∷ row) e =
    let more : m ≡ suc (min n (length row)) = omega (arith, e) in
    let left : suc n - suc (min n (length row)) ≡ n - min n (length row) = omega arith in
    rw (more, left) (ap (λ (l : List ℕ). w ∷ l) (fill_parts n (min n (length row)) row refl))

-- all the room, where the row is as long
pub filled_full : (n : ℕ) (row : List ℕ) → n ≤ length row → take n row ≡ fill_to n 0 row
filled_full n row h =
    let few : n ≡ min n (length row) = omega (arith, h) in
    let none : n - n ≡ 0 = omega arith in
    sym (fill_parts n n row few ∙ rw none (append-nil (take n row)))

-- a row whose first words are written, and one more
pub written_next : (old new : List ℕ) (i w : ℕ) → i < length new → i < length old → w ≡ get_or new i 0
    → set (take i new ++ drop i old) i w ≡ take (i + 1) new ++ drop (i + 1) old
written_next old new i w inside h q =
    rw (q, drop-cons old i 0, add-one, take-suc new i 0)
    (set_at (take i new) (get_or old i 0) (drop (suc i) old) (get_or new i 0) i (length-take-le i new (omega (arith, inside)))
    ∙ sym (append_snoc (take i new) (get_or new i 0) (drop (suc i) old)))

module _ (m : ℕ) (room row front behind : List ℕ) where
  pub filled : m ≡ min (length room) (length row) → front ≡ take m row
      → behind ≡ replicate (length (mid_of m (length (front ++ drop m room) - m) (front ++ drop m room))) 0
      → put_mid m (length (front ++ drop m room) - m) (front ++ drop m room) behind ≡ fill_to (length room) 0 row
  filled e f b =
      let both = front ++ drop m room in
      let long : length front ≡ m = omega (arith, ap length f, length-take m row) in
      let whole : length both ≡ length room = omega (arith, length-append front (drop m room), length-drop m room) in
      let size : length (mid_of m (length both - m) both) ≡ length room - m = omega (arith, length-take (length both - m) (drop m both), length-drop m both) in
      let end : drop (length both - m) (drop m both) ≡ [] = drop_of_length-le (drop m both) (omega (arith, length-drop m both)) in
      (λ i. take_at front (drop m room) m long i ++ (b i ++ end i))
      ∙ (λ i. f i ++ append-nil (replicate (size i) 0) i)
      ∙ sym (fill_parts (length room) m row e)
