-- Tests that decide a property.
use Rattle.std.specs.Prelude.{◌≡◌, Bool, true}

-- r tells whether P holds
pub record Decides (P : Type 0) (r : Bool) : Type 0 where
  pub sound : r ≡ true → P
  pub complete : P → r ≡ true
