-- Laws of writing one text after another, as far as the output reaches.
use mathlib.Core.Path.{◌≡◌, refl, sym, ap, ◌∙◌}
use mathlib.Core.List.{List, [], ◌∷◌, ◌++◌}
use Prim.Native.Nat.{ℕ, suc, ◌+◌, ◌<◌, ◌≤◌}
use native.Mathlib.Omega.{arith}
use native.Mathlib.Nat.{add-zero, add-suc, suc-add}
use native.Mathlib.Numerals.{add-one}
use native.Mathlib.Decide.{dec_le}
use lib.ListN.{length, take, drop, get_or, set, length-append}
use lib.Seq.{sets, sets-eq, length-sets, take-suc, set_out}
use Rattle.rules.specs.Text.{line_feed}
use Rattle.text.specs.Written.{far, onward, Wrote}

pub sets_append : (o : List ℕ) (at : ℕ) (a b : List ℕ) → sets o at (a ++ b) ≡ sets (sets o at a) (at + length a) b
sets_append o at [] b = rw add-zero
sets_append o at (x ∷ a) b = sets_append (set o at x) (suc at) a b ∙ rw (suc-add, add-suc)

pub sets_out : (o : List ℕ) (at : ℕ) (b : List ℕ) → length o ≤ at → sets o at b ≡ o
sets_out o at [] h = refl
sets_out o at (x ∷ b) h = rw (set_out o at x h) (sets_out o (suc at) b (omega arith))

-- past a position that no slice reaches it is all one where one writes
onward_sets : (o : List ℕ) (a b : ℕ) (vs : List ℕ) → length o < far → b ≡ onward a → sets o b vs ≡ sets o a vs
onward_sets o a b vs h e = elim (dec_le a far) [
  | yes l ↦ ap (λ (n : ℕ). sets o n vs) (omega arith)
  | no g ↦ sets_out o b vs (omega arith) ∙ sym (sets_out o a vs (omega arith))
]

-- one text and then another
pub wrote_then : {ws vs old mid new : List ℕ} {at b e : ℕ} → Wrote ws at old mid b → Wrote vs b mid new e → Wrote (ws ++ vs) at old new e
wrote_then {ws} {vs} {old} {mid} {new} {at} {b} {e} w v =
    record {
      new_is = v.new_is ∙ onward_sets mid (at + length ws) b vs v.short w.end_is ∙ rw w.new_is (sym (sets_append old at ws vs));
      end_is = let l = length-append ws vs in let x = w.end_is in let y = v.end_is in omega arith;
      short = w.short;
    }

-- nothing
pub wrote_none : (old : List ℕ) (at e : ℕ) → e ≡ onward (at + 0) → length old < far → Wrote [] at old old e
wrote_none old at e h s = record { new_is = refl; end_is = h; short = s }

-- what is written leaves the output as long as it was
pub wrote_length : {ws old new : List ℕ} {at e : ℕ} → Wrote ws at old new e → length new ≡ length old
wrote_length {ws} {old} {new} {at} w = ap length w.new_is ∙ length-sets old at ws

-- a row of bytes, one after another
pub wrote_byte_more : (l : List ℕ) (i : ℕ) {old mid new : List ℕ} {at b e : ℕ} → i < length l → Wrote (take i l) at old mid b → Wrote (get_or l i 0 ∷ []) b mid new e → Wrote (take (i + 1) l) at old new e
wrote_byte_more l i h w v = rw (add-one i, take-suc l i 0 h) (wrote_then w v)

-- a line: a key, what follows it, LF
pub wrote_line : {key text : List ℕ} {old mid mid' new : List ℕ} {at b b' e : ℕ} → Wrote key at old mid b → Wrote text b mid mid' b' → Wrote (line_feed ∷ []) b' mid' new e → Wrote (key ++ text ++ (line_feed ∷ [])) at old new e
wrote_line w v f = wrote_then (wrote_then w v) f

-- five lines
pub wrote_five : {v w x y z : List ℕ} {old m1 m2 m3 m4 new : List ℕ} {at b1 b2 b3 b4 e : ℕ} → Wrote v at old m1 b1 → Wrote w b1 m1 m2 b2 → Wrote x b2 m2 m3 b3 → Wrote y b3 m3 m4 b4 → Wrote z b4 m4 new e
    → Wrote (v ++ w ++ x ++ y ++ z) at old new e
wrote_five a b c d e = wrote_then (wrote_then (wrote_then (wrote_then a b) c) d) e

-- what ends within the output stands there whole, and all else as it stood
pub wrote_fits : {ws old new : List ℕ} {at e : ℕ} → Wrote ws at old new e → e ≤ length old → (e ≡ at + length ws) × (new ≡ take at old ++ ws ++ drop e old)
wrote_fits {ws} {old} {new} {at} {e} w h =
    let s = w.short in
    let d : e ≡ at + length ws = let x = w.end_is in omega arith in
    (d, w.new_is ∙ rw d (sets-eq ws old at (omega arith)))

-- measured on any output, before it is written into another that is shorter than `far`
pub measured_fits : {ws old new : List ℕ} {e room : ℕ} → Wrote ws 0 old new e → room < far → e ≤ room → length ws ≡ e
measured_fits w s h = let x = w.end_is in omega arith

pub measured_over : {ws old new : List ℕ} {e room : ℕ} → Wrote ws 0 old new e → room < far → room < e → room < length ws
measured_over w s h = let x = w.end_is in omega arith

-- two outcomes that a writer's contract allows are equal
pub wrote_same : {ws old new new' : List ℕ} {at e e' : ℕ} → Wrote ws at old new e → Wrote ws at old new' e' → (new ≡ new') × (e ≡ e')
wrote_same w v = (w.new_is ∙ sym v.new_is, w.end_is ∙ sym v.end_is)
