-- Laws of writing words one after another, as far as there is room.
use Prim.Native.Nat.{ℕ, suc, ◌+◌, ◌-◌, ◌<◌, ◌≤◌, min}
use mathlib.Core.Path.{◌≡◌, refl, sym, ap, ap₂, ◌∙◌, subst}
use mathlib.Core.List.{List, [], ◌∷◌, ◌++◌}
use native.Mathlib.Omega.{arith}
use native.Mathlib.Decide.{dec_le}
use native.Mathlib.Nat.{add-zero, add-suc, suc-add}
use native.Mathlib.Numerals.{add-one}
use lib.ListN.{length, drop, take, get_or, set, length-append, get_or-eq_default}
use lib.Seq.{take_all, sets, length-sets, take-suc, set_out, take-append_seam}
use Rattle.std.specs.Prelude.{Option, Some, None, SomeIff}
use Rattle.lists.proofs.Tests.{eqb_of, eqb_apart}
use Rattle.term.specs.Words.{tag_of, k_of, tag_variable}
use Rattle.term.specs.Rows.{passed}
use Rattle.term.specs.Tree.{words}
use Rattle.copying.specs.Copies.{Wrote, CopiedTerm, entry_of, EntryIs}
use Rattle.row_laws.proofs.RowTerms.{one_skip, plain_whole, stands_within}

pub sets_append : (o : List ℕ) (to : ℕ) (a b : List ℕ) → sets o to (a ++ b) ≡ sets (sets o to a) (to + length a) b
sets_append o to [] b = rw add-zero
sets_append o to (x ∷ a) b = sets_append (set o to x) (suc to) a b ∙ rw (suc-add, add-suc)

pub sets_out : (o : List ℕ) (to : ℕ) (b : List ℕ) → length o ≤ to → sets o to b ≡ o
sets_out o to [] h = refl
sets_out o to (x ∷ b) h = rw (set_out o to x h) (sets_out o (suc to) b (omega arith))

-- at the place after what was written, or past the end, the same is written
sets_from : (o : List ℕ) (to : ℕ) (b : List ℕ) → sets o (min to (suc (length o))) b ≡ sets o to b
sets_from o to b = go (dec_le to (length o))
  where
    go : Dec (to ≤ length o) → sets o (min to (suc (length o))) b ≡ sets o to b
    go (yes h) = ap (λ (j : ℕ). sets o j b) (omega arith)
    go (no h) = sets_out o (min to (suc (length o))) b (omega arith) ∙ sym (sets_out o to b (omega arith))

-- nothing was written
pub wrote_none : (o : List ℕ) (to : ℕ) → to ≤ suc (length o) → Wrote [] to o o to
wrote_none o to h = record { new_is = refl; ends = omega arith }

-- there is no room
pub wrote_full : (ws : List ℕ) (o : List ℕ) (to : ℕ) → to ≤ suc (length o) → length o < to → Wrote ws to o o to
wrote_full ws o to h f = record { new_is = sym (sets_out o to ws (omega arith)); ends = omega arith }

-- one row and then another
pub wrote_then : (ws vs : List ℕ) (to b : ℕ) (o mid new : List ℕ) (r : ℕ) → Wrote ws to o mid b → Wrote vs b mid new r → Wrote (ws ++ vs) to o new r
wrote_then ws vs to b o mid new r w w' =
    let len : length mid ≡ length o = ap length w.new_is ∙ length-sets o to ws in
    let eb : b ≡ min (to + length ws) (suc (length mid)) = w.ends ∙ ap (λ (j : ℕ). min (to + length ws) (suc j)) (sym len) in
    record {
      new_is =
          w'.new_is ∙ ap (λ (j : ℕ). sets mid j vs) eb ∙ sets_from mid (to + length ws) vs
          ∙ ap (λ (m : List ℕ). sets m (to + length ws) vs) w.new_is ∙ sym (sets_append o to ws vs);
      ends = let a = length-append ws vs in let d = w'.ends in omega (arith, eb, len, a, d);
    }

pub wrote_within : (ws : List ℕ) (to : ℕ) (o new : List ℕ) (r : ℕ) → Wrote ws to o new r → r ≤ suc (length o)
wrote_within ws to o new r w = omega (arith, w.ends)

pub wrote_length : (ws : List ℕ) (to : ℕ) (o new : List ℕ) (r : ℕ) → Wrote ws to o new r → length new ≡ length o
wrote_length ws to o new r w = ap length w.new_is ∙ length-sets o to ws

-- ---- one word
pub put_in : (o : List ℕ) (to w : ℕ) → to < length o → Wrote (w ∷ []) to o (set o to w) (to + 1)
put_in o to w h = record { new_is = refl; ends = omega arith }

pub put_out : (o : List ℕ) (to w : ℕ) → length o ≤ to → Wrote (w ∷ []) to o o (length o + 1)
put_out o to w h = record { new_is = sym (sets_out o to (w ∷ []) h); ends = omega arith }

-- ---- words of another row
pub words_more : (xs : List ℕ) (to i b r : ℕ) (o mid new : List ℕ) → Wrote (take i xs) to o mid b → Wrote (get_or xs i 0 ∷ []) b mid new r → i < length xs → Wrote (take (i + 1) xs) to o new r
words_more xs to i b r o mid new w w' h =
    let e : take (i + 1) xs ≡ take i xs ++ (get_or xs i 0 ∷ []) = rw (add-one, take-suc xs i 0 h) in
    rw e (wrote_then (take i xs) (get_or xs i 0 ∷ []) to b o mid new r w w')

pub words_all_written : (l : List ℕ) (from to i n b : ℕ) (o new : List ℕ) → let xs = take (from + n - from) (drop from l) in Wrote (take i xs) to o new b → length xs ≤ i → Wrote (take n (drop from l)) to o new b
words_all_written l from to i n b o new w h =
    let xs = take (from + n - from) (drop from l) in
    let e : take i xs ≡ take n (drop from l) = take_all i xs h ∙ ap (λ (m : ℕ). take m (drop from l)) (omega arith) in
    rw e at w

-- ---- the entry for a word
module _ (env : List ℕ) (w t : ℕ) (et : t ≡ tag_of w) where
  pub entry_not : ¬ (t ≡ tag_variable) → EntryIs env w None
  unfolding entry_of
  entry_not d = rw (eqb_apart (tag_of w) tag_variable (λ z. d (et ∙ z)))

  module _ (e : t ≡ tag_variable) (k : ℕ) (ek : k ≡ k_of w) where
    entry_read : entry_of env w ≡ get_or env k 0
    unfolding entry_of
    entry_read = rw (eqb_of (tag_of w) tag_variable (sym et ∙ e), ek)

    pub entry_past : length env ≤ k → (r : Option ℕ) → r ≡ None → EntryIs env w r
    entry_past h r er = subst (EntryIs env w) (sym er) (entry_read ∙ get_or-eq_default env 0 h)

    pub entry_is : (after : ℕ) → after ≡ get_or env k 0 → (r : Option ℕ) → SomeIff r (1 ≤ after) (after - 1) → EntryIs env w r
    entry_is after ea (Some place) h = entry_read ∙ sym ea ∙ omega (arith, h.0, h.1)
    entry_is after ea None h = entry_read ∙ sym ea ∙ go (dec_le 1 after)
      where
        go : Dec (1 ≤ after) → after ≡ 0
        go (yes p) = absurd (h p)
        go (no d) = omega arith

-- ---- one term
module _ (l : List ℕ) (at to : ℕ) (o : List ℕ) where
  pub term_past : to ≤ suc (length o) → length l ≤ at → CopiedTerm l at to o o to
  term_past h past = record { copies = λ t s. absurd (omega (arith, stands_within l at t s)); within = h }

  pub term_written : (r m : ℕ) (new : List ℕ) → r ≡ at + passed (drop at l) 1 → Wrote (take (r - at) (drop at l)) to o new m → CopiedTerm l at to o new m
  term_written r m new s w =
      record {
        copies = λ t h.
            let q : r - at ≡ length (words t) = omega (arith, one_skip l at r t h.rest s (plain_whole t h.plain) h.here) in
            let x : take (r - at) (drop at l) ≡ words t = ap₂ (λ (n : ℕ) (m : List ℕ). take n m) q h.here ∙ take-append_seam (words t) h.rest in
            rw x at w;
        within = wrote_within (take (r - at) (drop at l)) to o new m w;
      }
