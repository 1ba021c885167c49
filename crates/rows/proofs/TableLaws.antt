-- The code's tables hold what the table of the 18 tags says: one test computed over each column.
use Prim.Native.Nat.{ℕ, zero, suc, ◌+◌, ◌≤◌, ◌<◌}
use mathlib.Core.Path.{◌≡◌, refl, sym, ap, ◌∙◌}
use mathlib.Core.Bool.{Bool, true, ◌&&◌}
use mathlib.Core.List.{List, [], ◌∷◌, map}
use mir.Syntax.{w32}
use mir.Val.{Fits}
use native.Mathlib.Omega.{arith}
use native.Mathlib.Numerals.{add-one}
use lib.Dec.{leb}
use lib.ListN.{get_or, get_or-map, get_or-eq_default}
use Rattle.lists.proofs.Tests.{leb-true, and_left, and_right}
use Rattle.term.specs.Words.{tag_of, n_of, tag_function}
use Rattle.term.specs.Table.{Children, alike, body, of_clause, of_case, of_receive, Row, no_row, table, row_of, child_count, arity}
use Rattle.term.proofs.WordLaws.{n_small}
use Rattle.rows.specs.declared.tables.ChildKind.{ChildKind}
use Rattle.rows.specs.declared.tables.ChildKind.TheVariants.{Alike, Body, OfClause, OfCase, OfReceive}
use Rattle.rows.specs.Kinds.{children_of, ChildCount}

-- a column of the table, at any row
pub at_row : {A : Type 0} (column : Row → A) (tag : ℕ) → column (row_of tag) ≡ get_or (map column table) tag (column no_row)
unfolding row_of
at_row column tag = sym (get_or-map column table tag no_row)

-- a column of small numbers
unfoldable pub all_small : List ℕ → Bool
all_small [] = true
all_small (x ∷ column) = leb x 255 && all_small column

pub small_at : (column : List ℕ) (tag : ℕ) → all_small column ≡ true → Fits w32 (get_or column tag 0)
unfolding all_small
small_at [] tag e = record { fits = omega arith }
small_at (x ∷ column) zero e = let h = leb-true x 255 (and_left _ _ e) in record { fits = omega arith }
small_at (x ∷ column) (suc tag) e = small_at column tag (and_right (leb x 255) _ e)

-- past the rows stands no row
pub past_rows : (tag : ℕ) → tag_function < tag → no_row ≡ row_of tag
unfolding row_of table
past_rows tag h = sym (get_or-eq_default table no_row h)

-- the column of what stands below a word
abbrev kinds : List ChildKind
kinds = Alike ∷ Alike ∷ Alike ∷ Alike ∷ Alike ∷ Alike ∷ Alike ∷ Alike ∷ Alike ∷ Alike ∷ OfCase ∷ Alike ∷ OfReceive ∷ Alike ∷ Alike ∷ Alike ∷ Alike ∷ OfClause ∷ Body ∷ []

pub kind_at : (tag : ℕ) → children_of (get_or kinds tag Alike) ≡ (row_of tag).children
unfolding table
kind_at tag = sym (get_or-map children_of kinds tag Alike) ∙ sym (at_row (λ row. row.children) tag)

-- how many children a word has, by what stands below it
module _ (w t : ℕ) (et : t ≡ tag_of w) (n : ℕ) (en : n ≡ n_of w) where
  counted : (c : Children) → c ≡ (row_of t).children → (r : ℕ) → r ≡ child_count c n → r ≤ 256 → ChildCount w r
  unfolding arity
  counted c ec r er few = record { is = er ∙ ap (λ (d : Children). child_count d n) ec ∙ rw (et, en) refl; few = few }

  pub count_body : body ≡ (row_of t).children → ChildCount w 1
  unfolding child_count
  count_body e = counted body e 1 refl (omega arith)

  pub count_case : of_case ≡ (row_of t).children → ChildCount w (n + 1)
  unfolding child_count
  count_case e = counted of_case e (n + 1) (add-one n) (omega (arith, en, n_small w))

  pub count_other : (g : ChildKind) → children_of g ≡ (row_of t).children → ¬ (g ≡ Body) → ¬ (g ≡ OfCase) → ChildCount w n
  unfolding child_count
  count_other Alike e a b = counted alike e n refl (omega (arith, en, n_small w))
  count_other Body e a b = absurd (a refl)
  count_other OfClause e a b = counted of_clause e n refl (omega (arith, en, n_small w))
  count_other OfCase e a b = absurd (b refl)
  count_other OfReceive e a b = counted of_receive e n refl (omega (arith, en, n_small w))
