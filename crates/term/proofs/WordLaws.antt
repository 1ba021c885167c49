-- Laws of words: the parts of a word that was put together, and a word put together of its parts.
use Prim.Native.Nat.{ℕ, ◌<◌}
use mathlib.Core.Path.{◌≡◌, ap}
use native.Mathlib.Omega.{arith}
use Rattle.term.specs.Words.{word, tag_of, n_of, k_of, integer_word, tag_integer}

-- the parts of a word of parts that fit
pub tag_word : (tag n k : ℕ) → n < 256 → k < 65536 → tag_of (word tag n k) ≡ tag
tag_word tag n k h l = omega arith

pub n_word : (tag n k : ℕ) → n < 256 → k < 65536 → n_of (word tag n k) ≡ n
n_word tag n k h l = omega arith

pub k_word : (tag n k : ℕ) → k < 65536 → k_of (word tag n k) ≡ k
k_word tag n k l = omega arith

pub word_small : (tag n k : ℕ) → tag < 256 → n < 256 → k < 65536 → word tag n k < 4294967296
word_small tag n k h i l = omega arith

-- any word is the word of its parts
pub word_parts : (w : ℕ) → word (tag_of w) (n_of w) (k_of w) ≡ w
word_parts w = omega arith

pub tag_small : (w : ℕ) → w < 4294967296 → tag_of w < 256
tag_small w h = omega arith

pub n_small : (w : ℕ) → n_of w < 256
n_small w = omega arith

pub k_small : (w : ℕ) → k_of w < 65536
k_small w = omega arith

-- the word of another tag is no integer's
pub not_integer : (tag n k : ℕ) → n < 256 → k < 65536 → ¬ (tag ≡ tag_integer) → ¬ (word tag n k ≡ integer_word)
not_integer tag n k h l no_integer e = no_integer (omega (arith, tag_word tag n k h l, ap tag_of e))
