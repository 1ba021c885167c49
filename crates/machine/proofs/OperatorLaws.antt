-- Operators give values that hold no pid.
use Prim.Native.Nat.{ℕ, ◌<◌}
use mathlib.Core.Path.{◌≡◌, refl, subst}
use mathlib.Core.Logic.{inl, inr}
use mathlib.Core.Bool.{Bool, true, false, cond, not}
use mathlib.Core.Option.{Option, none, some}
use native.Mathlib.Omega.{arith}
use lib.Dec.{eqb}
use lib.IntN.{ℤ, ◌+ℤ◌, ◌-ℤ◌, ◌*ℤ◌}
use lib.Signed.{lt_z, le_z, quot_z, rem_z}
use Rattle.lists.specs.Lists.{member}
use Rattle.lists.proofs.Tests.{none_not_some, some_injective}
use Rattle.term.specs.Words.{tag_atom, tag_integer, tag_pid}
use Rattle.term.specs.Table.{table, row_of, tags_at, k_limit, spots_below, spot_value}
use Rattle.term.specs.Tree.{Term, Terms, int, node, end, ◌then◌}
use Rattle.machine.specs.Value.{same_term, truth, atom, pid}
use Rattle.machine.specs.Operator.{op_add, op_subtract, op_multiply, op_div, op_rem, op_equal, op_unequal, op_less, op_at_most, unsigned, signed, in_range, ranged, is_zero, divided, on_integers, if_integers, operate, operate_on}
use Rattle.machine.specs.Laws.{PidIn, PidAmong}
use Rattle.machine.proofs.Sits.{Sits, SitAll}

-- a value that holds no pid
pub record Plain (places : ℕ) (t : Term) : Type 0 where
  pub value : Sits places spot_value t
  pub no_pids : (q : ℕ) → ¬ PidIn q t

pub atom_value : (places k : ℕ) → k < 256 → Sits places spot_value (atom k)
unfolding Sits SitAll tags_at member row_of table k_limit spots_below
atom_value places k b = (record { no_integer = λ e. let z : tag_atom ≡ tag_integer = e in absurd (omega arith); tag_there = refl; least_n = omega arith; greatest_n = omega arith; k_below = b }, tt)

pub pid_value : (places p : ℕ) → p < places → Sits places spot_value (pid p)
unfolding Sits SitAll tags_at member row_of table k_limit spots_below
pid_value places p b = (record { no_integer = λ e. let z : tag_pid ≡ tag_integer = e in absurd (omega arith); tag_there = refl; least_n = omega arith; greatest_n = omega arith; k_below = b }, tt)

pub atom_plain : (places k : ℕ) → k < 256 → Plain places (atom k)
unfolding PidIn PidAmong
atom_plain places k b = record { value = atom_value places k b; no_pids = λ q p. elim p [ inl own ↦ (let z : tag_atom ≡ tag_pid = own.0 in absurd (omega arith)) | inr among ↦ among ] }

int_plain : (places x : ℕ) → Plain places (int x)
unfolding Sits tags_at member PidIn
int_plain places x = record { value = refl; no_pids = λ q p. p }

truth_plain : (places : ℕ) (b : Bool) → Plain places (truth b)
unfolding truth
truth_plain places true = atom_plain places 0 (omega arith)
truth_plain places false = atom_plain places 1 (omega arith)

-- what is given, if anything, is plain
abbrev Gives : ℕ → Option Term → Type 0
Gives places o = (t : Term) → o ≡ some t → Plain places t

gives_none : (places : ℕ) → Gives places none
gives_none places t e = none_not_some e

gives : (places : ℕ) (t : Term) → Plain places t → Gives places (some t)
gives places t p u e = subst (Plain places) (some_injective e) p

gives_either : (places : ℕ) (b : Bool) (x y : Option Term) → Gives places x → Gives places y → Gives places (cond b x y)
gives_either places true x y f g = f
gives_either places false x y f g = g

module _ (places : ℕ) where
  ranged_plain : (z : ℤ) → Gives places (ranged z)
  unfolding ranged
  ranged_plain z = gives_either places (in_range z) _ _ (gives places _ (int_plain places (unsigned z))) (gives_none places)

  divided_plain : (y z : ℤ) → Gives places (divided y z)
  unfolding divided
  divided_plain y z = gives_either places (is_zero y) _ _ (gives_none places) (ranged_plain z)

  integers_plain : (op : ℕ) (x y : ℤ) → Gives places (on_integers op x y)
  unfolding on_integers
  integers_plain op x y =
      gives_either places (eqb op op_add) _ _ (ranged_plain (x +ℤ y)) (
      gives_either places (eqb op op_subtract) _ _ (ranged_plain (x -ℤ y)) (
      gives_either places (eqb op op_multiply) _ _ (ranged_plain (x *ℤ y)) (
      gives_either places (eqb op op_div) _ _ (divided_plain y (quot_z x y)) (
      gives_either places (eqb op op_rem) _ _ (divided_plain y (rem_z x y)) (
      gives_either places (eqb op op_less) _ _ (gives places _ (truth_plain places (lt_z x y))) (
      gives_either places (eqb op op_at_most) _ _ (gives places _ (truth_plain places (le_z x y))) (
      gives_none places)))))))

  if_integers_plain : (op : ℕ) (a b : Term) → Gives places (if_integers op a b)
  unfolding if_integers
  if_integers_plain op (int x) (int y) = integers_plain op (signed x) (signed y)
  if_integers_plain op (int x) (node tag n k ts) = gives_none places
  if_integers_plain op (node tag n k ts) b = gives_none places

  operate_plain : (op : ℕ) (a b : Term) → Gives places (operate op a b)
  unfolding operate
  operate_plain op a b =
      gives_either places (eqb op op_equal) _ _ (gives places _ (truth_plain places (same_term a b))) (
      gives_either places (eqb op op_unequal) _ _ (gives places _ (truth_plain places (not (same_term a b)))) (
      if_integers_plain op a b))

  pub operator_plain : (op : ℕ) (ts : Terms) (t : Term) → operate_on op ts ≡ some t → Plain places t
  unfolding operate_on
  operator_plain op end = gives_none places
  operator_plain op (a then end) = gives_none places
  operator_plain op (a then (b then ts)) = operate_plain op a b
