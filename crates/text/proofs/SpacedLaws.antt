-- Laws of rows written with single spaces between their pieces.
use mathlib.Core.Path.{◌≡◌, refl, sym, ap, ◌∙◌}
use mathlib.Core.List.{List, [], ◌∷◌, ◌++◌, map, map-append, append_assoc}
use Prim.Native.Nat.{ℕ, zero, suc, ◌+◌, ◌/◌, ◌%◌, ◌<◌}
use native.Mathlib.Omega.{arith}
use native.Mathlib.Numerals.{add-one}
use lib.ListN.{length, take, get_or, length-map}
use lib.Seq.{take-suc, length-take-le}
use Rattle.rules.specs.State.{name_base}
use Rattle.rules.specs.Text.{decimal, hex, spaced, space, point}
use Rattle.rules.specs.Listing.{name_text}
use Rattle.text.specs.Written.{far, onward, Wrote, gap}
use Rattle.text.specs.Lines.{name_in}
use Rattle.text.proofs.WritingLaws.{wrote_then, wrote_none}

-- rows split by single spaces
spaced_more : (xs : List (List ℕ)) (x : List ℕ) → spaced (xs ++ (x ∷ [])) ≡ spaced xs ++ (gap (length xs) ++ x)
unfolding spaced gap
spaced_more [] x = refl
spaced_more (y ∷ []) x = refl
spaced_more (y ∷ (z ∷ zs)) x = ap (λ (r : List ℕ). y ++ (space ∷ r)) (spaced_more (z ∷ zs) x) ∙ sym (append_assoc y (space ∷ spaced (z ∷ zs)) (space ∷ x))

module _ {A : Type 0} (f : A → List ℕ) where
  -- one piece more
  pub spaced_next : (l : List A) (i : ℕ) (d : A) → i < length l → spaced (map f (take (i + 1) l)) ≡ spaced (map f (take i l)) ++ (gap i ++ f (get_or l i d))
  spaced_next l i d h =
      let n : length (map f (take i l)) ≡ i = length-map (take i l) f ∙ length-take-le i l (omega arith) in
      rw (add-one i, take-suc l i d h, map-append f (take i l) (get_or l i d ∷ []), spaced_more (map f (take i l)) (f (get_or l i d)), n)

  pub wrote_piece : (l : List A) (i : ℕ) (d : A) {old mid mid' new : List ℕ} {at b b' e : ℕ} → i < length l → Wrote (spaced (map f (take i l))) at old mid b → Wrote (gap i) b mid mid' b' → Wrote (f (get_or l i d)) b' mid' new e
      → Wrote (spaced (map f (take (i + 1) l))) at old new e
  wrote_piece l i d h w g v = rw (spaced_next l i d h) (wrote_then w (wrote_then g v))

pub wrote_gap_none : (i : ℕ) {old : List ℕ} {at e : ℕ} → i ≡ 0 → e ≡ onward (at + 0) → length old < far → Wrote (gap i) at old old e
unfolding gap
wrote_gap_none i {old} {at} {e} z h s = rw z (wrote_none old at e h s)

pub wrote_gap_space : (i : ℕ) {old new : List ℕ} {at e : ℕ} → ¬ (i ≡ 0) → Wrote (space ∷ []) at old new e → Wrote (gap i) at old new e
unfolding gap
wrote_gap_space zero z w = absurd (z refl)
wrote_gap_space (suc i) z w = w

-- a message's name
pub wrote_name : (s k : ℕ) {old mid mid' new : List ℕ} {at b b' e : ℕ} → Wrote (decimal s) at old mid b → Wrote (point ∷ []) b mid mid' b' → Wrote (decimal k) b' mid' new e → Wrote (name_text s k) at old new e
unfolding name_text
wrote_name s k w p v = wrote_then w (wrote_then p v)

-- one word more
pub wrote_word_more : (l : List ℕ) (i : ℕ) {old mid mid' new : List ℕ} {at b b' e : ℕ} → i < length l → Wrote (spaced (map hex (take i l))) at old mid b → Wrote (gap i) b mid mid' b' → Wrote (hex (get_or l i 0)) b' mid' new e
    → Wrote (spaced (map hex (take (i + 1) l))) at old new e
wrote_word_more l i h w g v = wrote_piece hex l i 0 h w g v

-- one name more
pub wrote_name_more : (l : List ℕ) (i : ℕ) {old mid mid' new : List ℕ} {at b b' e : ℕ} → i < length l → Wrote (spaced (map name_in (take i l))) at old mid b → Wrote (gap i) b mid mid' b'
    → Wrote (name_text (get_or l i 0 / name_base) (get_or l i 0 % name_base)) b' mid' new e → Wrote (spaced (map name_in (take (i + 1) l))) at old new e
unfolding name_in
wrote_name_more l i h w g v = wrote_piece name_in l i 0 h w g v
