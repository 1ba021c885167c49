-- Laws of rows of terms: one row after another, the first terms of a row and the others.
use Prim.Native.Nat.{ℕ, zero, suc, ◌+◌, ◌≤◌}
use mathlib.Core.Path.{◌≡◌, refl, sym, ap, ◌∙◌}
use mathlib.Core.List.{◌++◌, append_assoc, append-nil}
use native.Mathlib.Omega.{arith}
use native.Mathlib.Nat.{zero-add, suc-add}
use lib.ListN.{length, length-append}
use Rattle.term.specs.Tree.{Term, Terms, end, ◌then◌, words, words_of, count, first, rest, WholeAll}

infixr 20 ◌and_all◌
-- one row of terms after another
unfoldable pub ◌and_all◌ : Terms → Terms → Terms
end and_all us = us
(t then ts) and_all us = t then (ts and_all us)

pub words_all : (ts us : Terms) → words_of (ts and_all us) ≡ words_of ts ++ words_of us
unfolding words_of ◌and_all◌
words_all end us = refl
words_all (t then ts) us = rw (words_all ts us, append_assoc)

pub length_all : (ts us : Terms) → length (words_of (ts and_all us)) ≡ length (words_of ts) + length (words_of us)
length_all ts us = ap length (words_all ts us) ∙ length-append (words_of ts) (words_of us)

pub count_all : (ts us : Terms) → count (ts and_all us) ≡ count ts + count us
unfolding count ◌and_all◌
count_all end us = sym (zero-add (count us))
count_all (t then ts) us = ap suc (count_all ts us) ∙ sym (suc-add (count ts) (count us))

pub whole_all : (ts us : Terms) → WholeAll ts → WholeAll us → WholeAll (ts and_all us)
unfolding WholeAll ◌and_all◌
whole_all end us h g = g
whole_all (t then ts) us h g = (h.0, whole_all ts us h.1 g)

pub all_end : (ts : Terms) → ts and_all end ≡ ts
unfolding ◌and_all◌
all_end end = refl
all_end (t then ts) = ap (λ (us : Terms). t then us) (all_end ts)

-- the words of one term alone
pub words_one : (t : Term) → words_of (t then end) ≡ words t
unfolding words_of
words_one t = append-nil (words t)

pub first_all : (ts us : Terms) → first (count ts) (ts and_all us) ≡ ts
unfolding first count ◌and_all◌
first_all end us = refl
first_all (t then ts) us = rw (first_all ts us)

pub rest_all : (ts us : Terms) → rest (count ts) (ts and_all us) ≡ us
unfolding rest count ◌and_all◌
rest_all end us = refl
rest_all (t then ts) us = rest_all ts us

pub first_and_rest : (n : ℕ) (ts : Terms) → first n ts and_all rest n ts ≡ ts
unfolding first rest ◌and_all◌
first_and_rest zero ts = refl
first_and_rest (suc n) end = refl
first_and_rest (suc n) (t then ts) = ap (λ (us : Terms). t then us) (first_and_rest n ts)

pub count_first : (n : ℕ) (ts : Terms) → n ≤ count ts → count (first n ts) ≡ n
unfolding first count
count_first zero ts h = refl
count_first (suc n) end h = absurd (omega arith)
count_first (suc n) (t then ts) h = ap suc (count_first n ts (omega arith))

pub words_split : (n : ℕ) (ts : Terms) → words_of ts ≡ words_of (first n ts) ++ words_of (rest n ts)
words_split n ts = ap words_of (sym (first_and_rest n ts)) ∙ words_all (first n ts) (rest n ts)

pub whole_first : (n : ℕ) (ts : Terms) → WholeAll ts → WholeAll (first n ts)
unfolding first WholeAll
whole_first zero ts h = tt
whole_first (suc n) end h = tt
whole_first (suc n) (t then ts) h = (h.0, whole_first n ts h.1)

pub whole_rest : (n : ℕ) (ts : Terms) → WholeAll ts → WholeAll (rest n ts)
unfolding rest WholeAll
whole_rest zero ts h = h
whole_rest (suc n) end h = tt
whole_rest (suc n) (t then ts) h = whole_rest n ts h.1
