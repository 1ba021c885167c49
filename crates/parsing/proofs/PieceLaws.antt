-- Laws of pieces: where they end, and what a text split into pieces and an input split into lines are made of.
use mathlib.Core.Path.{◌≡◌, refl, ap, ◌∙◌}
use mathlib.Core.Logic.{inl, inr}
use mathlib.Core.List.{List, [], ◌∷◌}
use Prim.Native.Nat.{ℕ, suc, ◌+◌, ◌-◌, ◌<◌, ◌≤◌}
use native.Mathlib.Omega.{arith}
use native.Mathlib.Numerals.{add-one}
use native.Mathlib.Decide.{dec_le}
use lib.Dec.{eqb}
use lib.ListN.{length, take, drop, get_or, length-drop, drop_of_length-le}
use lib.Seq.{drop-cons, drop-drop, take_all}
use Rattle.lists.proofs.Tests.{eqb_of, eqb_apart, true_or_false}
use Rattle.rules.specs.Text.{line_feed}
use Rattle.rules.specs.Line.{split, onto_first, without_empty_last, lines_of}
use Rattle.parsing.specs.Pieces.{before, piece_end}

-- the next byte is a separator, or it is none
before_here : (separator : ℕ) (text : List ℕ) (i : ℕ) → i < length text → get_or text i 0 ≡ separator → before separator (drop i text) ≡ 0
unfolding before
before_here separator text i h e = rw (drop-cons text i 0 h, eqb_of (get_or text i 0) separator e, before) refl

before_on : (separator : ℕ) (text : List ℕ) (i : ℕ) → i < length text → ¬ (get_or text i 0 ≡ separator) → before separator (drop i text) ≡ suc (before separator (drop (suc i) text))
unfolding before
before_on separator text i h n = rw (drop-cons text i 0 h, eqb_apart (get_or text i 0) separator n, before) refl

pub before_within : (separator : ℕ) (bs : List ℕ) → before separator bs ≤ length bs
unfolding before
before_within separator [] = omega arith
before_within separator (b ∷ bs) = elim (true_or_false (eqb b separator)) [
  | inl t ↦ rw (t, before) (omega arith)
  | inr f ↦ rw (f, before) (let h = before_within separator bs in omega arith)
]

module _ (separator : ℕ) (text : List ℕ) (i : ℕ) where
  pub end_here : (end : ℕ) → piece_end separator text i ≡ end → i < length text → get_or text i 0 ≡ separator → i ≡ end
  unfolding piece_end
  end_here end e h s = let z = before_here separator text i h s in omega arith

  pub end_on : (end : ℕ) → piece_end separator text i ≡ end → i < length text → ¬ (get_or text i 0 ≡ separator) → piece_end separator text (i + 1) ≡ end
  unfolding piece_end
  end_on end e h n =
      let z = before_on separator text i h n in
      let y : before separator (drop (i + 1) text) ≡ before separator (drop (suc i) text) = rw (add-one i) refl in
      omega arith

  pub end_over : (end : ℕ) → piece_end separator text i ≡ end → length text ≤ i → length text ≡ end
  unfolding piece_end
  end_over end e h = omega arith

-- a text with a separator: the bytes before it, and the pieces of the bytes after it
pub split_more : (separator : ℕ) (bs : List ℕ) → before separator bs < length bs → split separator bs ≡ take (before separator bs) bs ∷ split separator (drop (suc (before separator bs)) bs)
unfolding before split onto_first
split_more separator [] h = absurd (omega arith)
split_more separator (b ∷ bs) h = elim (true_or_false (eqb b separator)) [
  | inl t ↦ rw (t, split, before) refl
  | inr f ↦
      let s : before separator (b ∷ bs) ≡ suc (before separator bs) = rw (f, before) refl in
      rw (s, f, split) (ap (onto_first b) (split_more separator bs (omega arith)))
]

-- a text with no separator is one piece
pub split_last : (separator : ℕ) (bs : List ℕ) → length bs ≤ before separator bs → split separator bs ≡ bs ∷ []
unfolding before split onto_first
split_last separator [] h = refl
split_last separator (b ∷ bs) h = elim (true_or_false (eqb b separator)) [
  | inl t ↦ absurd (let s : before separator (b ∷ bs) ≡ 0 = rw (t, before) refl in omega arith)
  | inr f ↦
      let s : before separator (b ∷ bs) ≡ suc (before separator bs) = rw (f, before) refl in
      rw (f, split) (ap (onto_first b) (split_last separator bs (omega arith)))
]

-- a text has at least one piece
pub split_some : (separator : ℕ) (bs : List ℕ) → ¬ (split separator bs ≡ [])
split_some separator bs e = elim (dec_le (length bs) (before separator bs)) [
  | yes l ↦ let f = split_last separator bs l in let z : ◌≡◌ {A = ℕ} 0 1 = cc in absurd (omega arith)
  | no g ↦ let f = split_more separator bs (omega arith) in let z : ◌≡◌ {A = ℕ} 0 1 = cc in absurd (omega arith)
]

-- only the last of several pieces may be left out
without_more : (x : List ℕ) (ys : List (List ℕ)) → ¬ (ys ≡ []) → without_empty_last (x ∷ ys) ≡ x ∷ without_empty_last ys
unfolding without_empty_last
without_more x [] n = absurd (n refl)
without_more x (y ∷ ys) n = refl

without_one : (x : List ℕ) → 0 < length x → without_empty_last (x ∷ []) ≡ x ∷ []
unfolding without_empty_last
without_one [] h = absurd (omega arith)
without_one (b ∷ bs) h = refl

-- no lines are left at the end
pub lines_end : (input : List ℕ) (at : ℕ) → length input ≤ at → lines_of (drop at input) ≡ []
unfolding lines_of split without_empty_last
lines_end input at h = rw (drop_of_length-le input h) refl

-- the first of some bytes' lines, and the lines of the bytes after its LF
lines_first : (bs : List ℕ) → 0 < length bs → lines_of bs ≡ take (before line_feed bs) bs ∷ lines_of (drop (suc (before line_feed bs)) bs)
unfolding lines_of split without_empty_last
lines_first bs h = elim (dec_le (length bs) (before line_feed bs)) [
  | yes l ↦ rw (split_last line_feed bs l, drop_of_length-le bs {i = suc (before line_feed bs)} (omega arith), take_all (before line_feed bs) bs l) (without_one bs h)
  | no g ↦ rw (split_more line_feed bs (omega arith)) (without_more (take (before line_feed bs) bs) (split line_feed (drop (suc (before line_feed bs)) bs)) (split_some line_feed (drop (suc (before line_feed bs)) bs)))
]

-- the line that begins at a position, and the lines after it
pub lines_next : (input : List ℕ) (at end : ℕ) → at < length input → end ≡ piece_end line_feed input at
    → lines_of (drop at input) ≡ take (end - at) (drop at input) ∷ lines_of (drop (end + 1) input)
unfolding piece_end
lines_next input at end h e =
    let w = before_within line_feed (drop at input) in
    let l = length-drop at input in
    let b : end - at ≡ before line_feed (drop at input) = omega arith in
    let n : at + suc (before line_feed (drop at input)) ≡ end + 1 = omega arith in
    rw b (lines_first (drop at input) (omega arith) ∙ ap (λ (r : List ℕ). take (before line_feed (drop at input)) (drop at input) ∷ lines_of r) (drop-drop (suc (before line_feed (drop at input))) at input ∙ ap (λ (k : ℕ). drop k input) n))
