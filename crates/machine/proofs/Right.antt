-- Right terms: the trees of good controls. And values whose pids come from a given source.
use Prim.Native.Nat.{ℕ, zero, suc}
use mathlib.Core.Logic.{inl, inr}
use mathlib.Core.List.{List, []}
use lib.ListN.{replicate}
use Rattle.term.specs.Table.{spot_expression, spot_value}
use Rattle.term.specs.Tree.{Term, Terms, node, end, ◌then◌}
use Rattle.term.proofs.Keep.{Keeps}
use Rattle.machine.specs.Laws.{PidIn, PidAmong}
use Rattle.machine.proofs.Sits.{Sits, SitAll}
use Rattle.machine.proofs.TagLaws.{value_tag}
use Rattle.machine.proofs.SitLaws.{under_value, value_expression, value_keeps}
use Rattle.machine.proofs.MatchLaws.{Each}

-- a closed expression that keeps the rules
pub record Right (places : ℕ) (arities : List ℕ) (t : Term) : Type 0 where
  pub sits : Sits places spot_expression t
  pub keeps : Keeps arities [] t

pub value_right : (places : ℕ) (arities : List ℕ) (v : Term) → Sits places spot_value v → Right places arities v
value_right places arities v h = record { sits = value_expression places v h; keeps = value_keeps places arities [] v h }

-- a value whose pids come from a source
pub record ValueFrom (places : ℕ) (Source : ℕ → Type 0) (v : Term) : Type 0 where
  pub value : Sits places spot_value v
  pub pids : (q : ℕ) → PidIn q v → Source q

module _ (places : ℕ) (Source : ℕ → Type 0) where
  pub values_from : (vs : Terms) (n : ℕ) → SitAll places vs (replicate n spot_value) → ((q : ℕ) → PidAmong q vs → Source q) → Each (ValueFrom places Source) vs
  unfolding SitAll Each PidAmong
  values_from end n h p = tt
  values_from (v then vs) zero h p = absurd h
  values_from (v then vs) (suc n) h p = (record { value = h.0; pids = λ q i. p q (inl i) }, values_from vs n h.1 (λ q i. p q (inr i)))

  pub children_from : (tag n k : ℕ) (vs : Terms) → ValueFrom places Source (node tag n k vs) → Each (ValueFrom places Source) vs
  unfolding Sits PidIn
  children_from tag n k vs h =
      let w = h.value in
      values_from vs n (rw (under_value places tag n (value_tag places tag w.0.tag_there)) at w.1) (λ q i. h.pids q (inr i))
