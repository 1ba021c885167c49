-- Binding. 01: "Binding puts the value in place of the variable."
use Rattle.std.specs.Prelude.{ℕ, suc, true, false, eqb}
use Rattle.std.proofs.Math.Option.{none, some}
use Rattle.term.specs.Words.{tag_variable}
use Rattle.term.specs.Tree.{Term, Terms, int, node, end, ◌then◌}
use Rattle.machine.specs.Match.{Bindings, with}

-- Each variable that has a value is replaced by it. No binder inside binds one of them again ("never bound again inside its own
-- scope"), so patterns stay as they are.
unfoldable mutual
  pub bind : Bindings → Term → Term
  bind bindings (int x) = int x
  bind bindings (node tag n k ts) = elim (eqb tag tag_variable) [
    | true ↦ elim (bindings k) [ none ↦ node tag n k ts | some v ↦ v ]
    | false ↦ node tag n k (bind_all bindings ts)
  ]

  pub bind_all : Bindings → Terms → Terms
  bind_all bindings end = end
  bind_all bindings (t then ts) = bind bindings t then bind_all bindings ts

-- the values of the variables from k on, in order: a function's parameters
unfoldable pub parameters : ℕ → Terms → Bindings → Bindings
parameters k end bindings = bindings
parameters k (v then vs) bindings = with k v (parameters (suc k) vs bindings)
