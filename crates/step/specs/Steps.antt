-- What the functions of one step promise, said of the term that stands at the working place.
use Rattle.std.specs.Prelude.{ℕ, ◌+◌, ◌≤◌, ◌<◌, ◌≡◌, true, cond, List, ◌++◌, leb, length, drop, Option, Result, Ok, Err}
use Rattle.std.proofs.Math.Option.{Option as Maybe, none, some}
use Rattle.std.proofs.lemmas.List.Edits.{sets}
use Rattle.term.specs.Words.{tag_apply, tag_call, tag_case, tag_let, tag_receive}
use Rattle.term.specs.Tree.{Term, Terms, node, end, ◌then◌, words, words_of, count}
use Rattle.term.specs.Read.{terms_of}
use Rattle.term.specs.Module.{function_of}
use Rattle.term.specs.Value.{is_value}
use Rattle.machine.specs.Operator.{operate}
use Rattle.machine.specs.Match.{Bindings, unbound, with}
use Rattle.machine.specs.Bind.{bind, parameters}
use Rattle.machine.specs.Clauses.{clause_takes, first_clause}
use Rattle.row_laws.specs.Rows.{Stands, PlainAll, Bound}
use Rattle.copying.specs.Copies.{Wrote}
use Rattle.operands.specs.Operands.{Gives}
use Rattle.choosing.specs.Clausal.{ClauseIs, AreClauses, ChosenIs}
use Rattle.copying.specs.Nexts.{row_with}
use Rattle.operands.specs.declared.operand.Operand.{Operand}
use Rattle.step.specs.declared.step.NoNext.{NoNext}
use Rattle.step.specs.declared.step.NoNext.TheVariants.{Nothing, TooLarge}

-- how many words the next control has, or why there is none
abbrev pub Next : Type 0
Next = Result ℕ NoNext

-- a row of so many words, where there is room for it
unfoldable pub fitted_of : ℕ → ℕ → Next
fitted_of r room = cond (leb r room) (Ok r) (Err TooLarge)

-- the row was written as far as there is room, and the answer says whether it fits
pub record WroteNext (row old new : List ℕ) (r : Next) : Type 0 where
  pub new_is : new ≡ sets old 0 row
  pub answer : r ≡ fitted_of (length row) (length old)

-- a term in place of the one at a position; where there is none, nothing is written
unfoldable pub NextIs : (c : List ℕ) (at : ℕ) (t : Term) → Maybe Term → (old new : List ℕ) → Next → Type 0
NextIs c at t none old new r = (r ≡ Err Nothing) × (new ≡ old)
NextIs c at t (some u) old new r = WroteNext (row_with c at t (words u)) old new r

unfoldable pub CalledAt : (c : List ℕ) (at : ℕ) → Option Operand → Type 0
CalledAt c at r = (n k : ℕ) (a b : Term) → Stands c at (node tag_call n k (a then (b then end))) → is_value a ≡ true → is_value b ≡ true → Gives c c r (operate k a b)

unfoldable pub CallNext : (c : List ℕ) (at : ℕ) (old new : List ℕ) → Next → Type 0
CallNext c at old new r =
    (n k : ℕ) (a b : Term) → Stands c at (node tag_call n k (a then (b then end))) → is_value a ≡ true → is_value b ≡ true
    → NextIs c at (node tag_call n k (a then (b then end))) (operate k a b) old new r

unfoldable pub CasedAt : (c : List ℕ) (at : ℕ) → Option ℕ → Type 0
CasedAt c at r =
    (n k : ℕ) (subject : Term) (clauses : Terms) → Stands c at (node tag_case n k (subject then clauses)) → is_value subject ≡ true → AreClauses clauses → count clauses ≡ n
    → ChosenIs c subject clauses r

unfoldable pub ClauseNext : (c : List ℕ) (at clause : ℕ) (v : List ℕ) (va : ℕ) (old new : List ℕ) (r : ℕ) → Type 0
ClauseNext c at clause v va old new r =
    (t u cl body : Term) → Stands c at t → Stands c clause cl → ClauseIs cl → Stands v va u → is_value u ≡ true → clause_takes u cl ≡ some body
    → Wrote (row_with c at t (words body)) 0 old new r

unfoldable pub CaseNext : (c : List ℕ) (at : ℕ) (old new : List ℕ) → Next → Type 0
CaseNext c at old new r =
    (n k : ℕ) (subject : Term) (clauses : Terms) → Stands c at (node tag_case n k (subject then clauses)) → is_value subject ≡ true → AreClauses clauses → count clauses ≡ n
    → NextIs c at (node tag_case n k (subject then clauses)) (first_clause subject clauses) old new r

unfoldable pub LetNext : (c : List ℕ) (at : ℕ) (old new : List ℕ) → Next → Type 0
LetNext c at old new r =
    (n k : ℕ) (bound body : Term) → Stands c at (node tag_let n k (bound then (body then end))) → is_value bound ≡ true → k < 64
    → NextIs c at (node tag_let n k (bound then (body then end))) (some (bind (with k bound unbound) body)) old new r

unfoldable pub ReceiveNext : (c : List ℕ) (at : ℕ) (v old new : List ℕ) → Next → Type 0
ReceiveNext c at v old new r =
    (n k : ℕ) (clauses : Terms) (u : Term) → Stands c at (node tag_receive n k clauses) → AreClauses clauses → count clauses ≡ n → Stands v 0 u → is_value u ≡ true
    → NextIs c at (node tag_receive n k clauses) (first_clause u clauses) old new r

-- the places of the values at a position are those of the variables from x on
unfoldable pub ParametersAt : (c : List ℕ) (at m x : ℕ) (env env' : List ℕ) → Type 0
ParametersAt c at m x env env' =
    (vs : Terms) (rest : List ℕ) (bindings : Bindings) → PlainAll vs → count vs ≡ m → drop at c ≡ words_of vs ++ rest → x + m ≤ length env → Bound c env bindings
    → Bound c env' (parameters x vs bindings)

-- the functions of a module, in its row
pub record ModuleIs (module' : List ℕ) (functions : Terms) : Type 0 where
  pub same_words : words_of functions ≡ module'
  pub read_as : terms_of module' ≡ functions
  pub plain : PlainAll functions

unfoldable pub ApplyNext : (module' c : List ℕ) (at : ℕ) (old new : List ℕ) → Next → Type 0
ApplyNext module' c at old new r =
    (functions : Terms) (n k tag m j : ℕ) (vs : Terms) (body : Term) → ModuleIs module' functions → Stands c at (node tag_apply n k vs) → count vs ≡ n → n ≤ 64
    → function_of functions k ≡ some (node tag m j (body then end)) → NextIs c at (node tag_apply n k vs) (some (bind (parameters 0 vs unbound) body)) old new r
