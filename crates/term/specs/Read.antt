-- Reading terms off a row of words, in order.
use Rattle.std.specs.Prelude.{ℕ, zero, suc, ◌+◌, pred, true, false, List, [], ◌∷◌, eqb}
use Rattle.std.proofs.Math.Option.{Option, none, some}
use Rattle.term.specs.Words.{tag_of, n_of, k_of, integer_word}
use Rattle.term.specs.Table.{arity}
use Rattle.term.specs.Tree.{Term, Terms, int, node, end, ◌then◌, first, rest}

-- a term before those that were read
unfoldable pub before : Term → Option Terms → Option Terms
before t none = none
before t (some ts) = some (t then ts)

-- the first of those that were read become the children of a word
unfoldable pub under : ℕ → Option Terms → Option Terms
under w none = none
under w (some ts) =
    let children = arity (tag_of w) (n_of w) in
    some (node (tag_of w) (n_of w) (k_of w) (first children ts) then rest children ts)

-- all the terms of a row, of which so many are still owed; where none is owed a new one may begin. None where words run out.
unfoldable mutual
  pub read : List ℕ → ℕ → Option Terms
  read [] zero = some end
  read [] (suc owed) = none
  read (w ∷ l) owed = elim (eqb w integer_word) [ true ↦ read_payload l (pred owed) | false ↦ under w (read l (arity (tag_of w) (n_of w) + pred owed)) ]

  pub read_payload : List ℕ → ℕ → Option Terms
  read_payload [] owed = none
  read_payload (x ∷ l) owed = before (int x) (read l owed)

-- the terms of a row that is known to hold whole terms
unfoldable pub terms_of : List ℕ → Terms
terms_of l = elim (read l 0) [ none ↦ end | some ts ↦ ts ]

-- the one term of a row that is known to hold one
unfoldable pub the_term : Terms → Term
the_term end = int 0
the_term (t then ts) = t

unfoldable pub term_of : List ℕ → Term
term_of l = the_term (terms_of l)
