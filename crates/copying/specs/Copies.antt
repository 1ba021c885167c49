-- What the functions that write words and terms promise.
use Rattle.std.specs.Prelude.{ℕ, suc, ◌+◌, ◌≤◌, min, ◌≡◌, cond, List, ◌++◌, eqb, length, drop, get_or, Option, Some, None}
use Rattle.std.proofs.lemmas.List.Edits.{sets}
use Rattle.term.specs.Words.{tag_of, k_of, tag_variable}
use Rattle.term.specs.Tree.{Term, Terms, words, words_of, count}
use Rattle.machine.specs.Match.{Bindings}
use Rattle.machine.specs.Bind.{bind_all}
use Rattle.row_laws.specs.Rows.{PlainAll, Stands, Bound}

-- the words ws were written at `to`, as far as there is room; r is the place after them, the length plus 1 where there was no room
pub record Wrote (ws : List ℕ) (to : ℕ) (old new : List ℕ) (r : ℕ) : Type 0 where
  pub new_is : new ≡ sets old to ws
  pub ends : r ≡ min (to + length ws) (suc (length old))

-- whenever m terms stand at `at`, their words with the values in place of variables were written
unfoldable pub Copies : (src : List ℕ) (at m : ℕ) (values env : List ℕ) (to : ℕ) (old new : List ℕ) (r : ℕ) → Type 0
Copies src at m values env to old new r =
    (ts : Terms) (rest : List ℕ) (bindings : Bindings) → PlainAll ts → count ts ≡ m → drop at src ≡ words_of ts ++ rest → Bound values env bindings
    → Wrote (words_of (bind_all bindings ts)) to old new r

-- the term at `at` was written; whatever stands there, the place after is at most the length plus 1
pub record CopiedTerm (src : List ℕ) (at to : ℕ) (old new : List ℕ) (r : ℕ) : Type 0 where
  pub copies : (t : Term) → Stands src at t → Wrote (words t) to old new r
  pub within : r ≤ suc (length old)

pub record CopiedTerms (src : List ℕ) (at m : ℕ) (values env : List ℕ) (to : ℕ) (old new : List ℕ) (r : ℕ) : Type 0 where
  pub copies : Copies src at m values env to old new r
  pub within : r ≤ suc (length old)

-- the entry for a word: 0 for one that is no variable
unfoldable pub entry_of : List ℕ → ℕ → ℕ
entry_of env w = cond (eqb (tag_of w) tag_variable) (get_or env (k_of w) 0) 0

-- where the value stands that the entry has, if it has one
abbrev pub EntryIs : List ℕ → ℕ → Option ℕ → Type 0
EntryIs env w (Some at) = entry_of env w ≡ at + 1
EntryIs env w None = entry_of env w ≡ 0
