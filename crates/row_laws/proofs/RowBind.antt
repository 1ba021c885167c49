-- Laws of bindings: what `bind` makes of a node, and what an entry says of a variable.
use Prim.Native.Nat.{ℕ, zero, suc, ◌-◌}
use mathlib.Core.Path.{◌≡◌, refl, subst}
use mathlib.Core.Bool.{Bool, true, false}
use mathlib.Core.Option.{Option, none, some}
use mathlib.Core.List.{List}
use native.Mathlib.Omega.{arith}
use lib.Dec.{eqb}
use Rattle.lists.proofs.Tests.{eqb_of, eqb_apart, true_not_false}
use Rattle.term.specs.Words.{tag_variable}
use Rattle.term.specs.Tree.{Term, Terms, node}
use Rattle.machine.specs.Match.{Bindings}
use Rattle.machine.specs.Bind.{bind, bind_all}
use Rattle.row_laws.specs.Rows.{Stands, Entry}

-- ---- bind, by what it looks at
pub bind_other : (bindings : Bindings) (tag n k : ℕ) (ts : Terms) → ¬ (tag ≡ tag_variable) → bind bindings (node tag n k ts) ≡ node tag n k (bind_all bindings ts)
unfolding bind
bind_other bindings tag n k ts d = go (eqb tag tag_variable) (eqb_apart tag tag_variable d) (bindings k)
  where
    go : (b : Bool) → b ≡ false → (o : Option Term)
        → ◌≡◌ {A = Term} (elim b [ true ↦ elim o [ none ↦ node tag n k ts | some v ↦ v ] | false ↦ node tag n k (bind_all bindings ts) ]) (node tag n k (bind_all bindings ts))
    go true e o = true_not_false refl e
    go false e o = refl

pub bind_free : (bindings : Bindings) (tag n k : ℕ) (ts : Terms) → tag ≡ tag_variable → bindings k ≡ none → bind bindings (node tag n k ts) ≡ node tag n k ts
unfolding bind
bind_free bindings tag n k ts e q = go (eqb tag tag_variable) (eqb_of tag tag_variable e) (bindings k) q
  where
    go : (b : Bool) → b ≡ true → (o : Option Term) → o ≡ none
        → ◌≡◌ {A = Term} (elim b [ true ↦ elim o [ none ↦ node tag n k ts | some v ↦ v ] | false ↦ node tag n k (bind_all bindings ts) ]) (node tag n k ts)
    go true e none q = refl
    go true e (some v) q = let z : ◌≡◌ {A = ℕ} 0 1 = cc in absurd (omega arith)
    go false e o q = true_not_false e refl

pub bind_bound : (bindings : Bindings) (tag n k : ℕ) (ts : Terms) (v : Term) → tag ≡ tag_variable → bindings k ≡ some v → bind bindings (node tag n k ts) ≡ v
unfolding bind
bind_bound bindings tag n k ts v e q = go (eqb tag tag_variable) (eqb_of tag tag_variable e) (bindings k) q
  where
    go : (b : Bool) → b ≡ true → (o : Option Term) → o ≡ some v
        → ◌≡◌ {A = Term} (elim b [ true ↦ elim o [ none ↦ node tag n k ts | some u ↦ u ] | false ↦ node tag n k (bind_all bindings ts) ]) v
    go true e none q = let z : ◌≡◌ {A = ℕ} 0 1 = cc in absurd (omega arith)
    go true e (some u) q = cc
    go false e o q = true_not_false e refl

-- ---- what an entry says of a variable
pub record Value (values : List ℕ) (e : ℕ) (o : Option Term) : Type 0 where
  pub term : Term
  pub is : o ≡ some term
  pub stands : Stands values (e - 1) term

pub entry_none : (values : List ℕ) (e : ℕ) (o : Option Term) → Entry values e o → e ≡ 0 → o ≡ none
unfolding Entry
entry_none values zero o h z = h
entry_none values (suc e) o h z = absurd (omega arith)

pub entry_value : (values : List ℕ) (e : ℕ) (o : Option Term) → Entry values e o → ¬ (e ≡ 0) → Value values e o
unfolding Entry
entry_value values zero o h d = absurd (d refl)
entry_value values (suc e) o h d = let z : e ≡ suc e - 1 = omega arith in record { term = h.0; is = h.1; stands = subst (λ (i : ℕ). Stands values i h.0) z h.2 }
