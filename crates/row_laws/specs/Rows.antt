-- A term stands at a place in a row of words, and entries say where the values of variables stand.
use Rattle.std.specs.Prelude.{ℕ, zero, suc, ◌<◌, ◌≡◌, List, ◌++◌, drop, get_or}
use Rattle.std.proofs.Math.Option.{Option, none, some}
use Rattle.term.specs.Words.{tag_variable, tag_cons}
use Rattle.term.specs.Tree.{Term, Terms, int, node, end, ◌then◌, words, count, Head, Whole}
use Rattle.machine.specs.Match.{Bindings}

-- whole terms in which atoms, pids, nils and variables have no children, and variables have numbers below 64
unfoldable mutual
  pub Plain : Term → Type 0
  Plain (int x) = Whole (int x)
  Plain (node tag n k ts) = Head tag n k (count ts) × ((tag < tag_cons → n ≡ 0) × (tag ≡ tag_variable → k < 64)) × PlainAll ts

  pub PlainAll : Terms → Type 0
  PlainAll end = Unit {0}
  PlainAll (t then ts) = Plain t × PlainAll ts

-- a term stands at a place in a row
pub record Stands (l : List ℕ) (at : ℕ) (t : Term) : Type 0 where
  pub plain : Plain t
  pub rest : List ℕ
  pub here : drop at l ≡ words t ++ rest

-- an entry for a variable: 0 where it has no value, else the place after which its value stands in the row of values
unfoldable pub Entry : List ℕ → ℕ → Option Term → Type 0
Entry values zero o = o ≡ none
Entry values (suc at) o = (t : Term) × (o ≡ some t) × Stands values at t

unfoldable pub Bound : List ℕ → List ℕ → Bindings → Type 0
Bound values env bindings = (k : ℕ) → Entry values (get_or env k 0) (bindings k)
