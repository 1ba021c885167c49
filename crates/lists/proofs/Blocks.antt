-- Laws of lists made of blocks of equal length: how long they are, what block i is, what the whole is when block i is replaced.
use Prim.Native.Nat.{ℕ, zero, suc, ◌+◌, ◌-◌, ◌*◌, ◌≤◌, ◌<◌}
use mathlib.Core.Path.{◌≡◌, refl, sym, ◌∙◌, ap, ap₂}
use mathlib.Core.List.{List, [], ◌∷◌, ◌++◌, map, append_assoc, append-nil}
use native.Mathlib.Nat.{suc-mul, zero-mul, zero-add, add_comm, mul-le-mul_right}
use native.Mathlib.Decide.{ℕ_discrete}
use native.Mathlib.Omega.{arith}
use lib.ListN.{length, take, drop, get_or, set, replicate, replicate-append-replicate, length-append, length-drop, length-map, length-set, take-append-drop, drop_of_length-le, get_or-append}
use lib.Seq.{take_at, drop_at, take-append-add, drop-append-add, get_or_at, get_or-set_same, get_or-set_other, ext_get_or, length-take-le, take-nil, take-take, take-add, drop-drop}
use borrow.Rule.Slice.PartMut.{mid_of, put_mid}
use Rattle.lists.specs.Lists.{All, joined, up_to}
unfoldable pub use Rattle.lists.specs.Lists.{chop}
use Rattle.lists.proofs.All.{map_at}

-- block p of n blocks ends within them
pub block_in : (p n size : ℕ) → p < n → p * size + size ≤ n * size
block_in p n size l = omega (arith, suc-mul p size, mul-le-mul_right {m = suc p} {n = n} size l)

-- the numbers below n, in their order
pub length_up_to : (n : ℕ) → length (up_to n) ≡ n
unfolding up_to
length_up_to zero = refl
length_up_to (suc n) = length-append (up_to n) (n ∷ []) ∙ omega (arith, length_up_to n)

pub up_to_at : (n i d : ℕ) → i < n → get_or (up_to n) i d ≡ i
unfolding up_to
up_to_at zero i d h = absurd (omega arith)
up_to_at (suc n) i d h = go (ℕ_discrete i n) (up_to_at n i d)
  where
    go : Dec (i ≡ n) → (i < n → get_or (up_to n) i d ≡ i) → get_or (up_to n ++ (n ∷ [])) i d ≡ i
    go (yes e) earlier = rw e (get_or_at (up_to n) n [] d n (length_up_to n))
    go (no m) earlier = get_or-append (up_to n) (n ∷ []) d i (rw (length_up_to n) (omega arith)) ∙ earlier (omega arith)

module _ {A : Type 0} where
  -- every block has so many elements
  abbrev pub Each : ℕ → List (List A) → Type 0
  Each size bs = All (λ b. length b ≡ size) bs

  pub length_joined : (size : ℕ) (bs : List (List A)) → Each size bs → length (joined bs) ≡ length bs * size
  unfolding All joined
  length_joined size [] e = sym (zero-mul size)
  length_joined size (b ∷ bs) e = length-append b (joined bs) ∙ omega (arith, e.0, length_joined size bs e.1, suc-mul (length bs) size)

  pub joined_replicate : (n size : ℕ) (z : A) → joined (replicate n (replicate size z)) ≡ replicate (n * size) z
  unfolding joined
  joined_replicate zero size z = ap (λ (k : ℕ). replicate k z) (sym (zero-mul size))
  joined_replicate (suc n) size z =
      ap (λ (r : List A). replicate size z ++ r) (joined_replicate n size z)
      ∙ replicate-append-replicate size (n * size) z
      ∙ ap (λ (k : ℕ). replicate k z) (add_comm size (n * size) ∙ sym (suc-mul n size))

  -- the way past the first block
  past : (size i : ℕ) (b l : List A) → length b ≡ size → drop (suc i * size) (b ++ l) ≡ drop (i * size) l
  past size i b l h = rw (suc-mul, add_comm (i * size) size, ← h) (drop-append-add b l (i * length b))

  upto : (size i : ℕ) (b l : List A) → length b ≡ size → take (suc i * size) (b ++ l) ≡ b ++ take (i * size) l
  upto size i b l h = rw (suc-mul, add_comm (i * size) size, ← h) (take-append-add b l (i * length b))

  -- block i, as it is lent; an offset and a count may be computed otherwise
  block_mid : (size i : ℕ) (bs : List (List A)) (rest : List A) → Each size bs → i < length bs
      → mid_of (i * size) size (joined bs ++ rest) ≡ get_or bs i []
  unfolding All joined
  block_mid size i [] rest e h = absurd (omega arith)
  block_mid size zero (b ∷ bs) rest e h = rw (zero-mul, append_assoc) (take_at b (joined bs ++ rest) size e.0)
  block_mid size (suc i) (b ∷ bs) rest e h = rw (append_assoc, past size i b (joined bs ++ rest) e.0) (block_mid size i bs rest e.1 (omega arith))

  pub block_lent : (at count size i : ℕ) (bs : List (List A)) (rest : List A) → at ≡ i * size → count ≡ size → Each size bs → i < length bs
      → mid_of at count (joined bs ++ rest) ≡ get_or bs i []
  block_lent at count size i bs rest a c e h = rw (a, c) (block_mid size i bs rest e h)

  -- block i, as it comes back
  block_put : (size i : ℕ) (bs : List (List A)) (rest b : List A) → Each size bs → i < length bs
      → put_mid (i * size) size (joined bs ++ rest) b ≡ joined (set bs i b) ++ rest
  unfolding All joined
  block_put size i [] rest b e h = absurd (omega arith)
  block_put size zero (x ∷ bs) rest b e h = rw (zero-mul, append_assoc, append_assoc, drop_at x (joined bs ++ rest) size e.0) refl
  block_put size (suc i) (x ∷ bs) rest b e h =
      rw (append_assoc, past size i x (joined bs ++ rest) e.0, upto size i x (joined bs ++ rest) e.0, append_assoc, append_assoc)
      (ap (λ (r : List A). x ++ r) (block_put size i bs rest b e.1 (omega arith)))

  pub block_back : (at count size i : ℕ) (bs : List (List A)) (rest b : List A) → at ≡ i * size → count ≡ size → Each size bs → i < length bs
      → put_mid at count (joined bs ++ rest) b ≡ joined (set bs i b) ++ rest
  block_back at count size i bs rest b a c e h = rw (a, c) (block_put size i bs rest b e h)

  -- with nothing after the blocks
  pub block_lent_alone : (at count size i : ℕ) (bs : List (List A)) → at ≡ i * size → count ≡ size → Each size bs → i < length bs → mid_of at count (joined bs) ≡ get_or bs i []
  block_lent_alone at count size i bs a c e h = rw (append-nil (joined bs)) at (block_lent at count size i bs [] a c e h)

  pub block_back_alone : (at count size i : ℕ) (bs : List (List A)) (b : List A) → at ≡ i * size → count ≡ size → Each size bs → i < length bs → put_mid at count (joined bs) b ≡ joined (set bs i b)
  block_back_alone at count size i bs b a c e h = rw (append-nil (joined bs), append-nil (joined (set bs i b))) at (block_back at count size i bs [] b a c e h)

  pub length_chop : (n size : ℕ) (l : List A) → length (chop n size l) ≡ n
  unfolding chop
  length_chop zero size l = refl
  length_chop (suc n) size l = ap suc (length_chop n size (drop size l))

  pub chop_joined : (size : ℕ) (bs : List (List A)) (rest : List A) → Each size bs → chop (length bs) size (joined bs ++ rest) ≡ bs
  unfolding All joined chop
  chop_joined size [] rest e = refl
  chop_joined size (b ∷ bs) rest e =
      rw (append_assoc b (joined bs) rest, take_at b (joined bs ++ rest) size e.0, drop_at b (joined bs ++ rest) size e.0)
      (ap (λ (r : List (List A)). b ∷ r) (chop_joined size bs rest e.1))

  -- the same where the number of blocks is computed otherwise
  pub chop_is : (n size : ℕ) (bs : List (List A)) (rest : List A) → length bs ≡ n → Each size bs → chop n size (joined bs ++ rest) ≡ bs
  chop_is n size bs rest c e = rw (← c) (chop_joined size bs rest e)

  -- any list is its first blocks and what is left
  pub chop_again : (n size : ℕ) (l : List A) → joined (chop n size l) ++ drop (n * size) l ≡ l
  unfolding chop joined
  chop_again zero size l = ap (λ (k : ℕ). drop k l) (zero-mul size)
  chop_again (suc n) size l =
      append_assoc (take size l) (joined (chop n size (drop size l))) (drop (suc n * size) l)
      ∙ ap (λ (r : List A). take size l ++ (joined (chop n size (drop size l)) ++ r)) (ap (λ (k : ℕ). drop k l) (suc-mul n size ∙ add_comm (n * size) size) ∙ sym (drop-drop (n * size) size l))
      ∙ ap (λ (r : List A). take size l ++ r) (chop_again n size (drop size l)) ∙ take-append-drop size l

  pub each_chop : (n size : ℕ) (l : List A) → n * size ≤ length l → Each size (chop n size l)
  unfolding chop All
  each_chop zero size l h = tt
  each_chop (suc n) size l h = (length-take-le size l (omega (arith, suc-mul n size)), each_chop n size (drop size l) (omega (arith, suc-mul n size, length-drop size l)))

  -- block i of a list
  pub chop_at : (n size i : ℕ) (l : List A) → i < n → get_or (chop n size l) i [] ≡ mid_of (i * size) size l
  unfolding chop
  chop_at zero size i l h = absurd (omega arith)
  chop_at (suc n) size zero l h = ap (λ (k : ℕ). take size (drop k l)) (sym (zero-mul size))
  chop_at (suc n) size (suc i) l h =
      chop_at n size i (drop size l) (omega arith)
      ∙ ap (take size) (drop-drop (i * size) size l ∙ ap (λ (k : ℕ). drop k l) (add_comm size (i * size) ∙ sym (suc-mul i size)))

-- a block for each number below n
module _ {A : Type 0} (f : ℕ → List A) where
  pub length_numbered : (n : ℕ) → length (map f (up_to n)) ≡ n
  length_numbered n = length-map (up_to n) f ∙ length_up_to n

  pub numbered_at : (n i : ℕ) → i < n → get_or (map f (up_to n)) i [] ≡ f i
  numbered_at n i h = map_at f i (up_to n) 0 [] (rw (length_up_to n) h) ∙ ap f (up_to_at n i 0 h)

  -- of blocks made by two functions that agree but at i, the one is the other with block i replaced
  pub numbered_set : (g : ℕ → List A) (n i : ℕ) → ((j : ℕ) → ¬ (i ≡ j) → f j ≡ g j) → set (map f (up_to n)) i (g i) ≡ map g (up_to n)
  numbered_set g n i agree = ext_get_or [] (set (map f (up_to n)) i (g i)) (map g (up_to n)) (length-set (map f (up_to n)) i (g i) ∙ length-map (up_to n) f ∙ sym (length-map (up_to n) g)) (λ j h. at j (omega (arith, length-set (map f (up_to n)) i (g i), length_numbered n)) (ℕ_discrete i j))
    where
      at : (j : ℕ) → j < n → Dec (i ≡ j) → get_or (set (map f (up_to n)) i (g i)) j [] ≡ get_or (map g (up_to n)) j []
      at j h (yes e) =
          ap (λ (x : ℕ). get_or (set (map f (up_to n)) i (g i)) x []) (sym e)
          ∙ get_or-set_same (map f (up_to n)) i (g i) [] (omega (arith, length_numbered n))
          ∙ ap g e ∙ sym (map_at g j (up_to n) 0 [] (omega (arith, length_up_to n)) ∙ ap g (up_to_at n j 0 h))
      at j h (no m) =
          get_or-set_other (map f (up_to n)) i j (g i) [] (λ e. m (sym e))
          ∙ numbered_at n j h ∙ agree j m ∙ sym (map_at g j (up_to n) 0 [] (omega (arith, length_up_to n)) ∙ ap g (up_to_at n j 0 h))

-- ---- parts of parts

module _ {A : Type 0} where
  -- what is left of the first b + c elements behind b of them
  pub drop_take : (b c n : ℕ) (l : List A) → n ≡ b + c → drop b (take n l) ≡ take c (drop b l)
  drop_take zero c n l e = let same : n ≡ c = omega arith in ap (λ (x : ℕ). take x l) same
  drop_take (suc b) c zero l e = absurd (omega arith)
  drop_take (suc b) c (suc n) [] e = sym (take-nil c)
  drop_take (suc b) c (suc n) (x ∷ l) e = drop_take b c n l (omega arith)

  -- the part of a part is a part
  pub mid_mid : (a n b k : ℕ) (l : List A) → b + k ≤ n → mid_of b k (mid_of a n l) ≡ mid_of (a + b) k l
  mid_mid a n b k l h =
      ap (take k) (drop_take b (n - b) n (drop a l) (omega arith))
      ∙ take-take k (n - b) (drop b (drop a l)) (omega arith)
      ∙ ap (take k) (drop-drop b a l)

  -- a part put into a part
  pub put_put : (a n b k : ℕ) (l y : List A) → b + k ≤ n → a + n ≤ length l → put_mid a n l (put_mid b k (mid_of a n l) y) ≡ put_mid (a + b) k l y
  put_put a n b k l y h g =
      let m = drop a l in
      let c = n - (b + k) in
      let whole : n ≡ b + k + c = omega arith in
      let left : drop k (drop b (take n m)) ++ drop n m ≡ drop k (drop b m) =
      ap₂ (λ (x z : List A). x ++ z) (drop-drop k b (take n m) ∙ drop_take (b + k) c n m whole) (ap (λ (x : ℕ). drop x m) whole ∙ sym (drop-drop c (b + k) m))
      ∙ take-append-drop c (drop (b + k) m) ∙ sym (drop-drop k b m) in
      ap (λ (x : List A). take a l ++ x)
      (ap (λ (x : List A). (x ++ (y ++ drop k (drop b (take n m)))) ++ drop n m) (take-take b n m (omega arith))
      ∙ append_assoc (take b m) (y ++ drop k (drop b (take n m))) (drop n m)
      ∙ ap (λ (x : List A). take b m ++ x) (append_assoc y (drop k (drop b (take n m))) (drop n m) ∙ ap (λ (x : List A). y ++ x) left))
      ∙ sym (append_assoc (take a l) (take b m) (y ++ drop k (drop b m)))
      ∙ ap₂ (λ (x z : List A). x ++ (y ++ drop k z)) (sym (take-add a b l)) (drop-drop b a l)

  -- runs put one after another are one run; a run as long as the list is the list
  pub put_next : (at i k : ℕ) (l a b : List A) → length a ≡ i → at ≤ length l → put_mid (at + i) k (put_mid at i l a) b ≡ put_mid at (i + k) l (a ++ b)
  put_next at i k l a b e h =
      let x = take at l ++ a in
      let d = drop i (drop at l) in
      let lx : length x ≡ at + i = length-append (take at l) a ∙ omega (arith, length-take-le at l h) in
      let X : put_mid at i l a ≡ x ++ d = sym (append_assoc (take at l) a d) in
      rw (X, take_at x d (at + i) lx, drop_at x d (at + i) lx, drop-drop k i (drop at l))
      (append_assoc (take at l) a (b ++ drop (i + k) (drop at l)) ∙ ap (λ (r : List A). take at l ++ r) (sym (append_assoc a b (drop (i + k) (drop at l)))))

  pub put_all : (k : ℕ) (l a : List A) → k ≡ length l → put_mid 0 k l a ≡ a
  put_all k l a e = let z : drop k l ≡ [] = drop_of_length-le l {i = k} (omega arith) in rw z (append-nil a)

  put_first : (i k : ℕ) (l a b : List A) → length a ≡ i → put_mid i k (put_mid 0 i l a) b ≡ put_mid 0 (i + k) l (a ++ b)
  put_first i k l a b e = rw (zero-add i) at (put_next 0 i k l a b e (omega arith))

  pub three_runs : (i j k : ℕ) (l a b c x y z : List A) → length l ≡ i + j + k → length a ≡ i → length b ≡ j
      → x ≡ put_mid 0 i l a → y ≡ put_mid i j x b → z ≡ put_mid (i + j) k y c → z ≡ a ++ b ++ c
  three_runs i j k l a b c x y z el ea eb ex ey ez =
      let y' : y ≡ put_mid 0 (i + j) l (a ++ b) = ey ∙ rw ex (put_first i j l a b ea) in
      ez ∙ rw y' (put_first (i + j) k l (a ++ b) c (length-append a b ∙ omega arith) ∙ put_all (i + j + k) l (a ++ b ++ c) (sym el))

  -- a part behind a head
  pub mid_behind : (a k n : ℕ) (front l : List A) → length front ≡ n → mid_of (n + a) k (front ++ l) ≡ mid_of a k l
  mid_behind a k n front l e = rw (← e, drop-append-add)

  pub put_behind : (a k n : ℕ) (front l b : List A) → length front ≡ n → put_mid (n + a) k (front ++ l) b ≡ front ++ put_mid a k l b
  put_behind a k n front l b e = rw (← e, drop-append-add, take-append-add, append_assoc)
