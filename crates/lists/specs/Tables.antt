-- Tables: a value for every place, changed at one place.
use Rattle.std.specs.Prelude.{ℕ, cond, eqb}

-- the table with x at place p
unfoldable pub put : {A : Type 0} → ℕ → A → (ℕ → A) → ℕ → A
put p x table q = cond (eqb p q) x (table q)
