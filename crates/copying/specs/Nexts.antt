-- What the functions that write the next control promise.
use Rattle.std.specs.Prelude.{ℕ, ◌+◌, List, ◌++◌, length, drop, take}
use Rattle.term.specs.Tree.{Term, words}
use Rattle.machine.specs.Match.{Bindings}
use Rattle.machine.specs.Bind.{bind}
use Rattle.row_laws.specs.Rows.{Stands, Bound}
use Rattle.copying.specs.Copies.{Wrote}

-- the words after the term at a position were written
unfoldable pub WritesAfter : (c : List ℕ) (at to : ℕ) (old new : List ℕ) (r : ℕ) → Type 0
WritesAfter c at to old new r = (t : Term) → Stands c at t → Wrote (drop (at + length (words t)) c) to old new r

-- the row with the words ws in place of a term
unfoldable pub row_with : List ℕ → ℕ → Term → List ℕ → List ℕ
row_with c at t ws = take at c ++ (ws ++ drop (at + length (words t)) c)

unfoldable pub Puts : (c : List ℕ) (at : ℕ) (ws old new : List ℕ) (r : ℕ) → Type 0
Puts c at ws old new r = (t : Term) → Stands c at t → Wrote (row_with c at t ws) 0 old new r

unfoldable pub PutsCopy : (c : List ℕ) (at : ℕ) (src : List ℕ) (body : ℕ) (values env old new : List ℕ) (r : ℕ) → Type 0
PutsCopy c at src body values env old new r =
    (b : Term) (bindings : Bindings) → Stands src body b → Bound values env bindings → Puts c at (words (bind bindings b)) old new r
