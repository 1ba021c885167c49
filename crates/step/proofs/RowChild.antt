-- Laws of a spawn's child: its first control.
use Prim.Native.Nat.{ℕ, suc, ◌+◌, ◌-◌, ◌<◌}
use mathlib.Core.Path.{◌≡◌, refl, sym, ap, ap₂, ◌∙◌, subst}
use mathlib.Core.List.{List, [], ◌∷◌, ◌++◌}
use native.Mathlib.Omega.{arith}
use lib.ListN.{length, drop, take, get_or}
use lib.Seq.{take-append_seam}
use Rattle.term.specs.Words.{word, n_of, k_of, tag_apply, tag_spawn}
use Rattle.term.specs.Rows.{passed}
use Rattle.term.specs.Tree.{Term, Terms, node, words, words_of}
use Rattle.term.specs.Read.{terms_of}
use Rattle.machine.specs.Place.{working}
use Rattle.machine.specs.Work.{to_spawn, work}
use Rattle.row_laws.specs.Rows.{Stands}
use Rattle.std.specs.Prelude.{None}
use Rattle.copying.specs.Places.{Finds, PlaceIs}
use Rattle.copying.specs.Copies.{Wrote}
use Rattle.step.specs.Steps.{Next, fitted_of}
use Rattle.step.specs.Controls.{ControlIs}
use Rattle.step.specs.Becomes.{ChildNext}
use Rattle.row_laws.proofs.RowTerms.{one_skip, skip_within, plain_whole}
use Rattle.copying.proofs.RowWrite.{wrote_then}
use Rattle.step.proofs.RowStep.{children_at, wrote_next}
use Rattle.step.proofs.RowTags.{Comes, comes}
use Rattle.step.proofs.RowBecomes.{stands_there, is_done}

apply_words : (n k : ℕ) (ts : Terms) → words (node tag_apply n k ts) ≡ (word tag_apply n k ∷ []) ++ words_of ts
unfolding words
apply_words n k ts = refl

long_node : (tag n k : ℕ) (ts : Terms) → length (words (node tag n k ts)) ≡ suc (length (words_of ts))
unfolding words
long_node tag n k ts = refl

pub record SpawnAt (c : List ℕ) (at : ℕ) (first : List ℕ) : Type 0 where
  pub n : ℕ
  pub k : ℕ
  pub children : Terms
  pub stands : Stands c at (node tag_spawn n k children)
  pub first_words : words (node tag_apply n k children) ≡ first

module _ (c : List ℕ) (at : ℕ) (f : Finds c 0 1 (length c) at) (module' : List ℕ) (t : Term) (first : List ℕ) (rows : ℕ → List ℕ) (i : ControlIs (terms_of module') c t) (e : work module' c ≡ to_spawn first rows) where
  pub spawn_at : SpawnAt c at first
  unfolding Comes
  spawn_at =
      let k = comes module' c t (to_spawn first rows) i e in
      let x = k.0.redex in
      let w : working t ≡ node tag_spawn x.n x.k x.children = x.is ∙ ap (λ (j : ℕ). node j x.n x.k x.children) k.0.tag_is in
      record { n = x.n; k = x.k; children = x.children; stands = subst (Stands c at) w (stands_there c at f (terms_of module') t i k.0.no_value); first_words = k.1 }

pub child_past : (c old : List ℕ) (r : Next) → PlaceIs c None → ChildNext c old old r
unfolding ChildNext Comes
child_past c old r p module' t first rows i e = absurd (is_done c p (terms_of module') t i (comes module' c t (to_spawn first rows) i e).0.no_value)

module _ (c : List ℕ) (at : ℕ) (f : Finds c 0 1 (length c) at) (old : List ℕ) where
  module _ (end' : ℕ) (ee : end' ≡ at + passed (drop at c) 1) where
    ends : (first : List ℕ) (s : SpawnAt c at first) → end' ≡ at + suc (length (words_of s.children))
    ends first s =
        one_skip c at end' (node tag_spawn s.n s.k s.children) s.stands.rest ee (plain_whole _ s.stands.plain) s.stands.here ∙ ap (λ (j : ℕ). at + j) (long_node tag_spawn s.n s.k s.children)

    pub child_short : (r : Next) → end' < at + 1 → ChildNext c old old r
    unfolding ChildNext
    child_short r h module' t first rows i e = absurd (omega (arith, ends first (spawn_at c at f module' t first rows i e)))

    pub child_over : (r : Next) → at < length c → length c < end' → ChildNext c old old r
    unfolding ChildNext
    child_over r h over module' t first rows i e = absurd (omega (arith, skip_within c at 1 end' ee (omega arith)))

    pub child_written : (nn kk w b m : ℕ) (mid new : List ℕ) (r : Next) → nn ≡ n_of (get_or c at 0) → kk ≡ k_of (get_or c at 0) → w ≡ word tag_apply nn kk → Wrote (w ∷ []) 0 old mid b
        → Wrote (take (end' - (at + 1)) (drop (at + 1) c)) b mid new m → r ≡ fitted_of m (length old) → ChildNext c old new r
    unfolding ChildNext
    child_written nn kk w b m mid new r en ek ew p q er module' t first rows i e =
        let s = spawn_at c at f module' t first rows i e in
        let o = children_at c at tag_spawn s.n s.k s.children s.stands in
        let l : end' - (at + 1) ≡ length (words_of s.children) = omega (arith, ends first s) in
        let ws : take (end' - (at + 1)) (drop (at + 1) c) ≡ words_of s.children = ap₂ (λ (j : ℕ) (m : List ℕ). take j m) l o.on ∙ take-append_seam (words_of s.children) o.rest in
        let wi : w ≡ word tag_apply s.n s.k = ew ∙ ap₂ (λ (x y : ℕ). word tag_apply x y) (en ∙ o.n_is) (ek ∙ o.k_is) in
        let row : (w ∷ []) ++ take (end' - (at + 1)) (drop (at + 1) c) ≡ first = ap₂ (λ (x : ℕ) (y : List ℕ). (x ∷ []) ++ y) wi ws ∙ sym (apply_words s.n s.k s.children) ∙ s.first_words in
        wrote_next first old new m r (subst (λ (x : List ℕ). Wrote x 0 old new m) row (wrote_then (w ∷ []) _ 0 b old mid new m p q)) er
