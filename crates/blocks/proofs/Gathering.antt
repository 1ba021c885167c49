-- What the bytes of a script make of the line, byte by byte.
use Prim.Native.Nat.{ℕ, ◌+◌, ◌<◌, ◌≤◌}
use mathlib.Core.Path.{◌≡◌, refl, sym, ◌∙◌, ap, subst}
use mathlib.Core.List.{List, [], ◌∷◌, ◌++◌}
use native.Mathlib.Numerals.{add-one}
use native.Mathlib.Decide.{ℕ_discrete}
use lib.ListN.{length, take, get_or}
use lib.Seq.{take_all, take-suc}
use Rattle.text.specs.declared.keys.TheConstants.{LINE_FEED}
use Rattle.lines.specs.Input.{Kept, Gathered, ended, gather}
use Rattle.lines.proofs.GatherLaws.{gather_feed, gather_byte}
use Rattle.blocks.specs.Left.{Gathers}

pub gathers_none : (line : List ℕ) (count : ℕ) → Gathers line count [] line count
unfolding gather
gathers_none line count = record { line_is = refl; count_is = refl }

pub gathers_feed : (line : List ℕ) (count b kept : ℕ) → b ≡ LINE_FEED → kept ≡ 0 → Gathers line count (b ∷ []) line kept
unfolding gather ended
gathers_feed line count b kept e none_kept =
    let g = gather_feed line count b [] e in
    record { line_is = sym (ap (λ (x : Gathered). x.line) g); count_is = none_kept ∙ sym (ap (λ (x : Gathered). x.count) g) }

pub gathers_byte : (line : List ℕ) (count b : ℕ) (after : List ℕ) (kept : ℕ) → ¬ (b ≡ LINE_FEED) → Kept line count b after kept → Gathers line count (b ∷ []) after kept
unfolding gather
gathers_byte line count b after kept other k =
    let g = gather_byte line count b [] other in
    record { line_is = k.line_is ∙ sym (ap (λ (x : Gathered). x.line) g); count_is = k.count_is ∙ sym (ap (λ (x : Gathered). x.count) g) }

-- two states of a line with the same bytes, as many of them kept
record SameLine (g h : Gathered) : Type 0 where
  pub line_is : g.line ≡ h.line
  pub count_is : g.count ≡ h.count

-- what is gathered of j after i
abbrev from : Gathered → List ℕ → Gathered
from g j = gather g.line g.count j

gather_from : (i j line : List ℕ) (count : ℕ) → SameLine (gather line count (i ++ j)) (from (gather line count i) j)
unfolding gather ended
gather_from [] j line count = record { line_is = refl; count_is = refl }
gather_from (b ∷ i) j line count = elim (ℕ_discrete b LINE_FEED) [
  | yes e ↦
      let w = gather_from i j line 0 in
      let t : SameLine (ended (take count line) (gather line 0 (i ++ j))) (from (ended (take count line) (gather line 0 i)) j) = record { line_is = w.line_is; count_is = w.count_is } in
      subst (λ (g : Gathered). SameLine g (from (gather line count (b ∷ i)) j)) (sym (gather_feed line count b (i ++ j) e)) (subst (λ (g : Gathered). SameLine (ended (take count line) (gather line 0 (i ++ j))) (from g j)) (sym (gather_feed line count b i e)) t)
  | no other ↦ rw (gather_byte line count b (i ++ j) other, gather_byte line count b i other) (gather_from i j _ _)
]

gathers_then : {line i then j after : List ℕ} {count n kept : ℕ} → Gathers line count i then n → Gathers then n j after kept → Gathers line count (i ++ j) after kept
gathers_then {line} {i} {j = j} {count = count} t u =
    let w = gather_from i j line count in
    let same : gather _ _ j ≡ from (gather line count i) j = λ k. gather (t.line_is k) (t.count_is k) j in
    record { line_is = u.line_is ∙ ap (λ (x : Gathered). x.line) same ∙ sym w.line_is; count_is = u.count_is ∙ ap (λ (x : Gathered). x.count) same ∙ sym w.count_is }

pub gathers_more : (l : List ℕ) (i : ℕ) {line then after : List ℕ} {count n kept : ℕ} → i < length l → Gathers line count (take i l) then n → Gathers then n (get_or l i 0 ∷ []) after kept
    → Gathers line count (take (i + 1) l) after kept
gathers_more l i h t u = rw (add-one i, take-suc l i 0 h) (gathers_then t u)

pub gathers_all : (l : List ℕ) (i : ℕ) {line after : List ℕ} {count kept : ℕ} → length l ≤ i → Gathers line count (take i l) after kept → Gathers line count l after kept
gathers_all l i h t = rw (take_all i l h) at t
