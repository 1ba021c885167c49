-- What matching in rows promises.
use Rattle.std.specs.Prelude.{ℕ, ◌≡◌, Bool, true, false, List, ◌++◌, length, drop}
use Rattle.std.proofs.Math.Option.{Option, none, some}
use Rattle.term.specs.Tree.{Terms, words_of, count}
use Rattle.machine.specs.Match.{Bindings, match_all}
use Rattle.row_laws.specs.Rows.{PlainAll, Bound}

-- r says whether there are bindings, and then the entries are theirs
unfoldable pub Matched : List ℕ → List ℕ → Option Bindings → Bool → Type 0
Matched values env o true = (bindings : Bindings) × (o ≡ some bindings) × Bound values env bindings
Matched values env o false = o ≡ none

unfoldable pub Matches : (p : List ℕ) (pa : ℕ) (v : List ℕ) (va m : ℕ) (env env' : List ℕ) (r : Bool) → Type 0
Matches p pa v va m env env' r =
    (ps vs : Terms) (rest rest' : List ℕ) (bindings : Bindings) → PlainAll ps → PlainAll vs → count ps ≡ m → count vs ≡ m
    → drop pa p ≡ words_of ps ++ rest → drop va v ≡ words_of vs ++ rest' → length env ≡ 64 → Bound v env bindings
    → Matched v env' (match_all ps vs bindings) r
