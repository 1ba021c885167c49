-- What the functions on guards and clauses promise.
use Rattle.std.specs.Prelude.{ℕ, ◌+◌, ◌≡◌, ◌⊎◌, Bool, true, List, ◌++◌, length, drop, get_or, Option}
use Rattle.std.proofs.Math.Option.{Option as Maybe, some}
use Rattle.term.specs.Words.{tag_call, tag_variable}
use Rattle.term.specs.Tree.{Term, Terms, int, node, end, ◌then◌, words, count}
use Rattle.term.specs.Value.{is_value}
use Rattle.machine.specs.Match.{Bindings}
use Rattle.machine.specs.Bind.{bind}
use Rattle.machine.specs.Guard.{guard_gives, guard_holds}
use Rattle.row_laws.specs.Rows.{Plain, Entry, Bound}
use Rattle.operands.specs.Operands.{Gives}
use Rattle.operands.specs.declared.operand.Operand.{Operand}
use Rattle.operands.specs.declared.guard.Given.{Given}

-- the bindings are of values
unfoldable pub OfValues : Bindings → Type 0
OfValues bindings = (k : ℕ) (t : Term) → bindings k ≡ some t → is_value t ≡ true

-- a guard as the control check has it: calls of two guards, variables, and whole values
unfoldable mutual
  pub IsGuard : Term → Type 0
  IsGuard (int x) = Unit {0}
  IsGuard (node tag n k ts) = ((tag ≡ tag_call) × (count ts ≡ 2) × AreGuards ts) ⊎ ((tag ≡ tag_variable) ⊎ ((¬ (tag ≡ tag_call)) × (¬ (tag ≡ tag_variable)) × (is_value (node tag n k ts) ≡ true)))

  pub AreGuards : Terms → Type 0
  AreGuards end = Unit {0}
  AreGuards (t then ts) = IsGuard t × AreGuards ts

-- what the entry of a variable gives, as an operand
unfoldable pub Looked : (v env : List ℕ) (k : ℕ) → Option Operand → Type 0
Looked v env k r = (here : List ℕ) (o : Maybe Term) → Entry v (get_or env k 0) o → ((t : Term) → o ≡ some t → is_value t ≡ true) → Gives here v r o

pub record GuardIs (c : List ℕ) (at : ℕ) (v : List ℕ) (bindings : Bindings) (g : Term) (r : Given) : Type 0 where
  pub gives : Gives c v r.what (guard_gives (bind bindings g))
  pub ends : r.end ≡ at + length (words g)

unfoldable pub GuardAt : (c : List ℕ) (at : ℕ) (v env : List ℕ) → Given → Type 0
GuardAt c at v env r =
    (g : Term) (rest : List ℕ) (bindings : Bindings) → Plain g → IsGuard g → drop at c ≡ words g ++ rest → Bound v env bindings → OfValues bindings
    → GuardIs c at v bindings g r

unfoldable pub HoldsAt : (c : List ℕ) (at : ℕ) (v env : List ℕ) → Bool → Type 0
HoldsAt c at v env r =
    (g : Term) (rest : List ℕ) (bindings : Bindings) → Plain g → IsGuard g → drop at c ≡ words g ++ rest → Bound v env bindings → OfValues bindings
    → r ≡ guard_holds (bind bindings g)
