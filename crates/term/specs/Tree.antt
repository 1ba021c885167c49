-- Terms as trees, and the words that stand for them in preorder.
use Rattle.std.specs.Prelude.{ℕ, zero, suc, ◌<◌, ◌≡◌, List, [], ◌∷◌, ◌++◌}
use Rattle.term.specs.Words.{word, integer_word, tag_integer}
use Rattle.term.specs.Table.{arity}

infixr 20 ◌then◌
-- a term: an integer by its two's complement, or a word of tag, n and k over its children
mutual
  pub data Term : Type 0 where
    int : ℕ → Term
    node : (tag n k : ℕ) → Terms → Term

  pub data Terms : Type 0 where
    end : Terms
    ◌then◌ : Term → Terms → Terms

-- the words of a term, and of several
unfoldable mutual
  pub words : Term → List ℕ
  words (int x) = integer_word ∷ x ∷ []
  words (node tag n k ts) = word tag n k ∷ words_of ts

  pub words_of : Terms → List ℕ
  words_of end = []
  words_of (t then ts) = words t ++ words_of ts

-- how many terms
unfoldable pub count : Terms → ℕ
count end = 0
count (t then ts) = suc (count ts)

-- the first n terms, and the others
unfoldable pub first : ℕ → Terms → Terms
first zero ts = end
first (suc n) end = end
first (suc n) (t then ts) = t then first n ts

unfoldable pub rest : ℕ → Terms → Terms
rest zero ts = ts
rest (suc n) end = end
rest (suc n) (t then ts) = rest n ts

-- n and k fit their places in the word, the tag is no integer's, and as many children follow as the word says
pub record Head (tag n k children : ℕ) : Type 0 where
  pub n_fits : n < 256
  pub k_fits : k < 65536
  pub no_integer : ¬ (tag ≡ tag_integer)
  pub all_children : children ≡ arity tag n

-- terms that are what their words say
unfoldable mutual
  pub Whole : Term → Type 0
  Whole (int x) = Unit {0}
  Whole (node tag n k ts) = Head tag n k (count ts) × WholeAll ts

  pub WholeAll : Terms → Type 0
  WholeAll end = Unit {0}
  WholeAll (t then ts) = Whole t × WholeAll ts
