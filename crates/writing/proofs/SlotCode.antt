-- What the code leaves of a slot, where parts of it are lent and come back filled.
use Prim.Native.Nat.{ℕ, zero, suc, ◌+◌, ◌-◌, ◌≤◌, ◌<◌}
use mathlib.Core.Path.{◌≡◌, refl, sym, ◌∙◌, ap}
use mathlib.Core.List.{List, [], ◌∷◌}
use native.Mathlib.Omega.{arith}
use lib.ListN.{length, drop, get_or, set, replicate, length-drop, length-set}
use lib.Seq.{length-take-le}
use borrow.Rule.Slice.PartMut.{mid_of, put_mid, same_len_mid}
use Rattle.lists.specs.Fill.{fill_to}
use Rattle.lists.proofs.Fill.{fill_none, fill_set}
use Rattle.store.specs.Layout.{slot_head, kind_live}
use Rattle.writing.specs.Slots.{headed, controlled, without, copied, cleared, shrunk_words, released_words, ControlRoom, NamesRoom, CopyRoom, TwoSlots}

module _ {A : Type 0} where
  -- filled twice is filled once, where nothing is cut
  pub fill_fill : (n m : ℕ) (z : A) (xs : List A) → length xs ≤ m → fill_to n z (fill_to m z xs) ≡ fill_to n z xs
  unfolding fill_to
  fill_fill zero m z xs h = refl
  fill_fill (suc n) zero z [] h = refl
  fill_fill (suc n) zero z (x ∷ xs) h = absurd (omega arith)
  fill_fill (suc n) (suc m) z [] h = ap (λ (r : List A). z ∷ r) (fill_fill n m z [] (omega arith))
  fill_fill (suc n) (suc m) z (x ∷ xs) h = ap (λ (r : List A). x ∷ r) (fill_fill n m z xs (omega arith))

  pub fill_own : (z : A) (xs : List A) → fill_to (length xs) z xs ≡ xs
  unfolding fill_to
  fill_own z [] = refl
  fill_own z (x ∷ xs) = ap (λ (r : List A). x ∷ r) (fill_own z xs)

pub mid_long : (at k : ℕ) (l : List ℕ) → at + k ≤ length l → length (mid_of at k l) ≡ k
mid_long at k l h = length-take-le k (drop at l) (omega (arith, length-drop at l))

-- a run filled with a row
pub run_filled : (l row y : List ℕ) (at k n : ℕ) → k ≡ n → at + n ≤ length l → y ≡ fill_to (length (mid_of at k l)) 0 row → put_mid at k l y ≡ put_mid at n l (fill_to n 0 row)
run_filled l row y at k n e h f = ap (put_mid at k l) (f ∙ ap (λ (j : ℕ). fill_to j 0 row) (mid_long at k l (omega arith))) ∙ ap (λ (j : ℕ). put_mid at j l (fill_to j 0 row)) e

-- a row held in a longer array, with its head written there, and copied out again
module _ (kind number queued : ℕ) where
  head_held : (n : ℕ) (m : List ℕ) → 8 ≤ length m → headed kind number queued (fill_to n 0 m) ≡ fill_to n 0 (headed kind number queued m)
  unfolding headed
  head_held n m h =
      let a : set (fill_to n 0 m) 0 kind ≡ fill_to n 0 (set m 0 kind) = sym (fill_set n 0 m 0 kind (omega arith)) in
      let b : set (fill_to n 0 (set m 0 kind)) 2 number ≡ fill_to n 0 (set (set m 0 kind) 2 number) = sym (fill_set n 0 (set m 0 kind) 2 number (omega (arith, length-set m 0 kind))) in
      let c : set (fill_to n 0 (set (set m 0 kind) 2 number)) 4 queued ≡ fill_to n 0 (set (set (set m 0 kind) 2 number) 4 queued) =
      sym (fill_set n 0 (set (set m 0 kind) 2 number) 4 queued (omega (arith, length-set m 0 kind, length-set (set m 0 kind) 2 number))) in
      ap (λ (r : List ℕ). set (set r 2 number) 4 queued) a ∙ ap (λ (r : List ℕ). set r 4 queued) b ∙ c

  pub length_headed : (m : List ℕ) → length (headed kind number queued m) ≡ length m
  unfolding headed
  length_headed m = length-set (set (set m 0 kind) 2 number) 4 queued ∙ length-set (set m 0 kind) 2 number ∙ length-set m 0 kind

  head_out : (n count : ℕ) (m : List ℕ) → length m ≡ count → 8 ≤ count → count ≤ n → fill_to count 0 (headed kind number queued (fill_to n 0 m)) ≡ headed kind number queued m
  head_out n count m e h g =
      ap (fill_to count 0) (head_held n m (omega arith))
      ∙ fill_fill count n 0 (headed kind number queued m) (omega (arith, length_headed m))
      ∙ ap (λ (k : ℕ). fill_to k 0 (headed kind number queued m)) (sym e ∙ sym (length_headed m))
      ∙ fill_own 0 (headed kind number queued m)

  pub copy_written : (l held y : List ℕ) (from to count n : ℕ) → CopyRoom from to count l → n ≡ 1287 → held ≡ fill_to n 0 (mid_of from (from + count - from) l)
      → y ≡ fill_to (length (mid_of to (to + count - to) l)) 0 (headed kind number queued held) → put_mid to (to + count - to) l y ≡ copied from to count kind number queued l
  unfolding copied
  copy_written l held y from to count n room en eh ey =
      let ek : from + count - from ≡ count = omega arith in
      let ek' : to + count - to ≡ count = omega arith in
      let held_is : held ≡ fill_to n 0 (mid_of from count l) = eh ∙ ap (λ (j : ℕ). fill_to n 0 (mid_of from j l)) ek in
      run_filled l (headed kind number queued held) y to (to + count - to) count ek' room.target ey
      ∙ ap (put_mid to count l)
      (ap (λ (r : List ℕ). fill_to count 0 (headed kind number queued r)) held_is
      ∙ head_out n count (mid_of from count l) (mid_long from count l room.source) room.least (omega (arith, room.most)))

-- the names behind one held in an array, and copied back one place before
pub gap_written : (w held y : List ℕ) (words place n : ℕ) → NamesRoom words w → place < get_or w 4 0 → n ≡ 1024
    → held ≡ fill_to n 0 (mid_of (slot_head + words + place + 1) (slot_head + words + get_or w 4 0 - (slot_head + words + place + 1)) w)
    → y ≡ fill_to (length (mid_of (slot_head + words + place) (length w - (slot_head + words + place)) w)) 0 held
    → set (put_mid (slot_head + words + place) (length w - (slot_head + words + place)) w y) 4 (get_or w 4 0 - 1) ≡ without words place w
unfolding without
gap_written w held y words place n room h en eh ey =
    let ek : slot_head + words + get_or w 4 0 - (slot_head + words + place + 1) ≡ get_or w 4 0 - suc place = omega arith in
    let from = slot_head + words + place in
    let left = length w - from in
    let next : from + 1 ≡ suc from = omega arith in
    let m = mid_of (suc from) (get_or w 4 0 - suc place) w in
    let held_is : held ≡ fill_to n 0 m = eh ∙ (λ i. fill_to n 0 (mid_of (next i) (ek i) w)) in
    let m_long : length m ≡ get_or w 4 0 - suc place = mid_long (suc from) (get_or w 4 0 - suc place) w (omega (arith, room.within_slot)) in
    ap (λ (r : List ℕ). set r 4 (get_or w 4 0 - 1))
    (run_filled w held y from left left refl (omega (arith, room.within_slot)) ey
    ∙ ap (put_mid from left w) (ap (fill_to left 0) held_is ∙ fill_fill left n 0 m (omega (arith, room.few))))

-- the room of the control filled
pub control_written : (w control y : List ℕ) (words : ℕ) → ControlRoom words control w → y ≡ fill_to (length (mid_of 8 (8 + words - 8) (set w 1 (length control)))) 0 control
    → put_mid 8 (8 + words - 8) (set w 1 (length control)) y ≡ controlled words control w
unfolding controlled
control_written w control y words room e = run_filled (set w 1 (length control)) control y 8 (8 + words - 8) words (omega arith) (omega (arith, length-set w 1 (length control), room.within_slot)) e

-- as many words as before
pub run_same : (w y : List ℕ) (at k i v : ℕ) → length y ≡ length (mid_of at k (set w i v)) → length (put_mid at k (set w i v) y) ≡ length w
run_same w y at k i v e = same_len_mid at k (set w i v) y e ∙ length-set w i v

-- zeros
pub zero_filled : (n : ℕ) (y : List ℕ) → y ≡ replicate n 0 → y ≡ fill_to n 0 []
zero_filled n y e = e ∙ sym (fill_none n 0)

-- ---- a store after two writes

pub cleared_written : (l₁ l₂ y : List ℕ) (at «end» : ℕ) → at ≤ «end» → «end» ≤ length l₁ → l₁ ≡ l₂ → y ≡ fill_to (length (mid_of at («end» - at) l₁)) 0 [] → put_mid at («end» - at) l₁ y ≡ cleared at («end» - at) l₂
unfolding cleared
cleared_written l₁ l₂ y at «end» h g e₁ ey =
    let k = «end» - at in run_filled l₁ [] y at k k refl (omega arith) ey ∙ ap (λ (v : List ℕ). put_mid at k v (fill_to k 0 [])) e₁

pub shrink_written : (l l₁ y : List ℕ) (at «end» to words : ℕ) → TwoSlots at «end» to words l → length l₁ ≡ length l → l₁ ≡ copied at to (slot_head + words) kind_live 0 (get_or l (to + 4) 0) l
    → y ≡ fill_to (length (mid_of at («end» - at) l₁)) 0 [] → put_mid at («end» - at) l₁ y ≡ shrunk_words at «end» to words l
unfolding shrunk_words
shrink_written l l₁ y at «end» to words slots long e₁ ey = cleared_written l₁ _ y at «end» (omega (arith, slots.head_in)) (omega (arith, slots.inside)) e₁ ey

pub release_written : (l l₁ y : List ℕ) (at «end» to words : ℕ) → TwoSlots at «end» to words l → length l₁ ≡ length l → l₁ ≡ copied at to («end» - at) kind_live 0 (get_or l (at + 4) 0) l
    → y ≡ fill_to (length (mid_of at («end» - at) l₁)) 0 [] → put_mid at («end» - at) l₁ y ≡ released_words at «end» to l
unfolding released_words
release_written l l₁ y at «end» to words slots long e₁ ey = cleared_written l₁ _ y at «end» (omega (arith, slots.head_in)) (omega (arith, slots.inside)) e₁ ey
