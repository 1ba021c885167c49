-- Laws of tests that decide a property.
use mathlib.Core.Path.{◌≡◌, refl}
use mathlib.Core.Bool.{Bool, true, false}
use Rattle.lists.specs.Decides.{Decides}
use Rattle.lists.proofs.Tests.{true_not_false}

module _ {P : Type 0} where
  pub yes_to : P → Decides P true
  yes_to p = record { sound = λ e. p; complete = λ q. refl }

  pub no_to : ¬ P → Decides P false
  no_to n = record { sound = λ e. true_not_false e refl; complete = λ p. absurd (n p) }

  -- a test that gives false refutes
  pub refuted : {r : Bool} → Decides P r → r ≡ false → ¬ P
  refuted d f p = true_not_false (d.complete p) f

  -- a test of what is left decides the whole
  pub by : {Q : Type 0} {r : Bool} → (Q → P) → (P → Q) → Decides Q r → Decides P r
  by to from d = record { sound = λ e. to (d.sound e); complete = λ p. d.complete (from p) }
