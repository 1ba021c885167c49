-- Laws of the next control: a term of a row exchanged for other words.
use Prim.Native.Nat.{ℕ, ◌+◌, ◌-◌}
use mathlib.Core.Path.{◌≡◌, refl, ap, ◌∙◌, subst}
use mathlib.Core.List.{List, [], ◌∷◌, ◌++◌}
use native.Mathlib.Omega.{arith}
use lib.ListN.{length, drop, take, length-drop}
use lib.Seq.{take_all}
use Rattle.term.specs.Rows.{passed}
use Rattle.term.specs.Tree.{end, ◌then◌, words, count}
use Rattle.term.proofs.TreeLaws.{words_one}
use Rattle.machine.specs.Bind.{bind, bind_all}
use Rattle.row_laws.specs.Rows.{PlainAll}
use Rattle.copying.specs.Copies.{Wrote, Copies, CopiedTerms}
use Rattle.copying.specs.Nexts.{WritesAfter, row_with, Puts, PutsCopy}
use Rattle.row_laws.proofs.RowTerms.{one_skip, plain_whole, as_row}
use Rattle.copying.proofs.RowWrite.{wrote_then}

pub after_written : (c : List ℕ) (at to e r : ℕ) (old new : List ℕ) → e ≡ at + passed (drop at c) 1 → Wrote (take (length c - e) (drop e c)) to old new r → WritesAfter c at to old new r
unfolding WritesAfter
after_written c at to e r old new ee w t s =
    let q = one_skip c at e t s.rest ee (plain_whole t s.plain) s.here in
    let x : take (length c - e) (drop e c) ≡ drop (at + length (words t)) c = take_all (length c - e) (drop e c) (omega (arith, length-drop e c)) ∙ ap (λ (j : ℕ). drop j c) q in
    subst (λ (ws : List ℕ). Wrote ws to old new r) x w

-- what stood before, the words, what stands after
pub puts : (c : List ℕ) (at : ℕ) (ws old mid mid' new : List ℕ) (a b r : ℕ) → Wrote (take at (drop 0 c)) 0 old mid a → Wrote ws a mid mid' b → WritesAfter c at b mid' new r → Puts c at ws old new r
unfolding Puts WritesAfter row_with
puts c at ws old mid mid' new a b r w w' f t s =
    wrote_then (take at c) (ws ++ drop (at + length (words t)) c) 0 a old mid new r w (wrote_then ws (drop (at + length (words t)) c) a b mid mid' new r w' (f t s))

pub puts_two : (c : List ℕ) (at x y : ℕ) (old mid mid' mid'' new : List ℕ) (a b d r : ℕ) → Wrote (take at (drop 0 c)) 0 old mid a → Wrote (x ∷ []) a mid mid' b → Wrote (y ∷ []) b mid' mid'' d → WritesAfter c at d mid'' new r
    → Puts c at (x ∷ y ∷ []) old new r
puts_two c at x y old mid mid' mid'' new a b d r w w' w'' f = puts c at (x ∷ y ∷ []) old mid mid'' new a d r w (wrote_then (x ∷ []) (y ∷ []) a b mid mid' mid'' d w' w'') f

pub puts_copy : (c : List ℕ) (at : ℕ) (src : List ℕ) (body : ℕ) (values env old mid mid' new : List ℕ) (a b r : ℕ) → Wrote (take at (drop 0 c)) 0 old mid a → CopiedTerms src body 1 values env a mid mid' b
    → WritesAfter c at b mid' new r → PutsCopy c at src body values env old new r
unfolding PutsCopy Copies PlainAll count bind_all
puts_copy c at src body values env old mid mid' new a b r w k f t bindings s bound =
    puts c at (words (bind bindings t)) old mid mid' new a b r w
    (subst (λ (ws : List ℕ). Wrote ws a mid mid' b) (words_one (bind bindings t)) (k.copies (t then end) s.rest bindings (s.plain, tt) refl (as_row src body t s.rest s.here) bound)) f
