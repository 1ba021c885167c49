-- The table of the 18 tags, and the spots where a tag may stand.
use Rattle.std.specs.Prelude.{ℕ, suc, Bool, cond, not, ◌&&◌, List, [], ◌∷◌, eqb, leb, ltb, get_or, replicate}
use Rattle.lists.specs.Lists.{member}
use Rattle.term.specs.Words.{tag_of, n_of, k_of}
use Rattle.term.specs.Words.{tag_variable, tag_atom, tag_integer, tag_pid, tag_nil, tag_cons, tag_tuple, tag_call, tag_apply, tag_case, tag_let, tag_receive, tag_spawn, tag_send, tag_self, tag_check, tag_clause, tag_function}

-- what stands below a word: n children of its own kind; one expression; pattern, guard and body; a subject and n clauses; n clauses
pub data Children : Type 0 where
  alike body of_clause of_case of_receive : Children

-- a row: the least and the greatest n, how many k there are (0, 1, .. limit - 1), the children
pub record Row : Type 0 where
  pub least : ℕ
  pub greatest : ℕ
  pub limit : ℕ
  pub children : Children

abbrev pub row : ℕ → ℕ → ℕ → Children → Row
row least greatest limit children = record { least = least; greatest = greatest; limit = limit; children = children }

-- no word has this row: no k is below 0
abbrev pub no_row : Row
no_row = row 0 0 0 alike

-- apply and spawn: any k, since only the rules know how many functions there are
unfoldable pub table : List Row
table =
    no_row
    ∷ row 0 0 64 alike  -- 1 variable
    ∷ row 0 0 256 alike  -- 2 atom
    ∷ row 0 0 1 alike  -- 3 integer
    ∷ row 0 0 0 alike  -- 4 pid: as many k as there are places (`k_limit`)
    ∷ row 0 0 1 alike  -- 5 nil
    ∷ row 2 2 1 alike  -- 6 cons
    ∷ row 0 8 1 alike  -- 7 tuple
    ∷ row 2 2 9 alike  -- 8 call
    ∷ row 0 8 65536 alike  -- 9 apply
    ∷ row 1 8 1 of_case  -- 10 case
    ∷ row 2 2 64 alike  -- 11 let
    ∷ row 1 8 1 of_receive  -- 12 receive
    ∷ row 0 8 65536 alike  -- 13 spawn
    ∷ row 2 2 1 alike  -- 14 send
    ∷ row 0 0 1 alike  -- 15 self
    ∷ row 0 0 256 alike  -- 16 check
    ∷ row 3 3 1 of_clause  -- 17 clause
    ∷ row 0 8 1 body  -- 18 function
    ∷ []

unfoldable pub row_of : ℕ → Row
row_of tag = get_or table tag no_row

-- how many children a word of this tag and n has
unfoldable pub child_count : Children → ℕ → ℕ
child_count alike n = n
child_count body n = 1
child_count of_clause n = n
child_count of_case n = suc n
child_count of_receive n = n

unfoldable pub arity : ℕ → ℕ → ℕ
arity tag n = child_count (row_of tag).children n

-- the spots where a term stands
abbrev pub spot_function : ℕ
spot_function = 0

abbrev pub spot_expression : ℕ
spot_expression = 1

abbrev pub spot_pattern : ℕ
spot_pattern = 2

abbrev pub spot_guard : ℕ
spot_guard = 3

abbrev pub spot_clause : ℕ
spot_clause = 4

abbrev pub spot_value : ℕ
spot_value = 5

-- how many places a module counts: none, so that no pid stands in it ("never in a module") and its guards hold no values
abbrev pub in_module : ℕ
in_module = 0

-- "Patterns use tags 1, 2, 3, 5, 6, 7", "Guards use 1, 2, 3, 5, 8", "Values use tags 2 to 7"; a control's guard holds values too.
unfoldable pub tags_at : ℕ → ℕ → List ℕ
tags_at places spot = get_or (
    (tag_function ∷ [])
    ∷ (tag_variable ∷ tag_atom ∷ tag_integer ∷ tag_pid ∷ tag_nil ∷ tag_cons ∷ tag_tuple ∷ tag_call ∷ tag_apply ∷ tag_case ∷ tag_let ∷ tag_receive ∷ tag_spawn ∷ tag_send ∷ tag_self ∷ tag_check ∷ [])
    ∷ (tag_variable ∷ tag_atom ∷ tag_integer ∷ tag_nil ∷ tag_cons ∷ tag_tuple ∷ [])
    ∷ (tag_variable ∷ tag_atom ∷ tag_integer ∷ tag_nil ∷ tag_call ∷ cond (eqb places in_module) [] (tag_pid ∷ tag_cons ∷ tag_tuple ∷ []))
    ∷ (tag_clause ∷ [])
    ∷ (tag_atom ∷ tag_integer ∷ tag_pid ∷ tag_nil ∷ tag_cons ∷ tag_tuple ∷ [])
    ∷ []) spot []

unfoldable pub k_limit : ℕ → ℕ → ℕ
k_limit places tag = cond (eqb tag tag_pid) places (row_of tag).limit

-- the word may stand at this spot, where there are so many places
unfoldable pub fits : ℕ → ℕ → ℕ → Bool
fits places spot w =
    member (tag_of w) (tags_at places spot)
    && (leb (row_of (tag_of w)).least (n_of w)
    && (leb (n_of w) (row_of (tag_of w)).greatest
    && ltb (k_of w) (k_limit places (tag_of w))))

-- the spot of children of a word's own kind: in a guard, what is no call holds values
unfoldable pub own_spot : ℕ → ℕ → ℕ
own_spot spot tag = cond (eqb spot spot_guard && not (eqb tag tag_call)) spot_value spot

unfoldable pub spots_below : Children → ℕ → ℕ → ℕ → List ℕ
spots_below alike spot tag n = replicate n (own_spot spot tag)
spots_below body spot tag n = spot_expression ∷ []
spots_below of_clause spot tag n = spot_pattern ∷ spot_guard ∷ spot_expression ∷ []
spots_below of_case spot tag n = spot_expression ∷ replicate n spot_clause
spots_below of_receive spot tag n = replicate n spot_clause

-- the spots of the children of a word that stands at a spot
unfoldable pub child_spots : ℕ → ℕ → List ℕ
child_spots spot w = spots_below (row_of (tag_of w)).children spot (tag_of w) (n_of w)
