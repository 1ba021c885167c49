-- A maker and a taker who share a shelf: the one puts items on it, the other takes them away, and both can go back.
use Rattle.std.specs.Prelude.{Bool, true, false, List, [], ◌∷◌, ℕ, ◌+◌, ◌≤◌, length}
use Rattle.std.proofs.Math.Logic.{ite}
use Rattle.std.proofs.Math.Option.{Option, none, some, bind}
use Rattle.std.proofs.Math.Decide.{dec_le}

-- An act concerns the shelf, where the maker puts an item and the taker takes one, or it does not.
pub data Act : Type 0 where
  shelf alone : Act
  deriving Discrete as Act-discrete

-- A worker acts, or undoes its newest act.
pub data Deed : Type 0 where
  act : Act → Deed
  back : Deed
  deriving Discrete as Deed-discrete

pub data Command : Type 0 where
  maker taker : Deed → Command
  deriving Discrete as Command-discrete

-- `shop m k`: `m` are the acts of the maker and `k` those of the taker, newest first.
pub data Shop : Type 0 where
  shop : List Act → List Act → Shop

abbrev pub root : Shop
root = shop [] []

-- How many items the act puts or takes.
abbrev pub weight : Act → ℕ
weight shelf = 1
weight alone = 0

-- How many items the acts have put or taken.
unfoldable pub items : List Act → ℕ
items [] = 0
items (x ∷ h) = weight x + items h

-- `n` items and all that are taken are no more than are made.
abbrev pub Enough : Shop → ℕ → Type 0
Enough (shop m k) n = items k + n ≤ items m

-- No more items are taken than are made.
abbrev pub Good : Shop → Type 0
Good (shop m k) = items k ≤ items m

-- The worker's acts after the deed.
abbrev pub perform : Deed → List Act → Option (List Act)
perform (act x) h = some (x ∷ h)
perform back [] = none
perform back (x ∷ h) = some h

unfoldable pub keep : Shop → Option Shop
keep (shop m k) = ite (dec_le (items k) (items m)) (some (shop m k)) none

-- A command is refused if there is nothing to undo, or if more items would be taken than made:
-- nobody takes from an empty shelf, and to have put an item there is not undone once it is taken.
unfoldable pub exec : Command → Shop → Option Shop
unfolding bind keep
exec (maker c) (shop m k) = bind (perform c m) (λ m'. keep (shop m' k))
exec (taker c) (shop m k) = bind (perform c k) (λ k'. keep (shop m k'))

-- The deed that undoes the deed of a worker with these acts, or does again what it undid.
abbrev undoing : Deed → List Act → Deed
undoing (act x) h = back
undoing back [] = back
undoing back (x ∷ h) = act x

abbrev pub reverse : Shop → Command → Command
reverse (shop m k) (maker c) = maker (undoing c m)
reverse (shop m k) (taker c) = taker (undoing c k)

abbrev acts : Deed → Bool
acts (act x) = true
acts back = false

abbrev pub forward : Command → Bool
forward (maker c) = acts c
forward (taker c) = acts c

abbrev pub measure : Shop → ℕ
measure (shop m k) = length m + length k

-- How many items the newest act put or took.
abbrev newest : List Act → ℕ
newest [] = 0
newest (x ∷ h) = weight x

-- How many items the command removes from the shelf: the taker takes one, the maker undoes that it put one.
abbrev pub removes : Shop → Command → ℕ
removes s (maker (act x)) = 0
removes (shop m k) (maker back) = newest m
removes s (taker (act x)) = weight x
removes s (taker back) = 0

-- The two commands are different workers'.
abbrev pub Apart : Command → Command → Type 0
Apart (maker c) (maker d) = ⊥
Apart (maker c) (taker d) = Unit {0}
Apart (taker c) (maker d) = Unit {0}
Apart (taker c) (taker d) = ⊥

-- Two commands are independent unless both are one worker's, or they remove more items than lie on the shelf.
pub record Independent (s : Shop) (t u : Command) : Type 0 where
  pub apart : Apart t u
  pub enough : Enough s (removes s t + removes s u)
