-- What stands in a list, and that nothing stands in it twice.
use Rattle.std.specs.Prelude.{List, [], ◌∷◌}

pub data In {A : Type 0} (x : A) : List A → Type 0 where
  first : {xs : List A} → In x (x ∷ xs)
  later : {y : A} {xs : List A} → In x xs → In x (y ∷ xs)

unfoldable pub NoneTwice : {A : Type 0} → List A → Type 0
NoneTwice [] = Unit {0}
NoneTwice (x ∷ xs) = ¬ In x xs × NoneTwice xs
