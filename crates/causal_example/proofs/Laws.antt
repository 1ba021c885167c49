-- The shelf keeps the laws of causal.
use mathlib.Core.Path.{◌≡◌, refl}
use mathlib.Core.Bool.{true, false, not, true≢false, false≢true}
use mathlib.Core.Logic.{◌≢◌}
use mathlib.Core.List.{List}
use Prim.Native.Nat.{suc, ◌+◌, ◌≤◌}
use native.Mathlib.Omega.{arith}
use Rattle.causal.specs.Exec.{Step}
use Rattle.causal.specs.Laws.{Laws}
use Rattle.causal.proofs.Exec.{exec_deterministic}
use Rattle.causal_example.specs.Shelf.{Act, Act-discrete, Deed, Deed-discrete, Command, maker, taker, Command-discrete, Shop, shop}
use Rattle.causal_example.specs.Shelf.{items, Good, exec, reverse, forward, measure, root, removes, Apart, Independent}
use Rattle.causal_example.proofs.Steps.{Performs, does, undoes, Moves, makes, takes, of_step, to_step}

back_move : {s a : Shop} {t : Command} → Moves s t a → Moves a (reverse s t) s
back_move (makes does) = makes undoes
back_move (makes undoes) = makes does
back_move (takes does) = takes undoes
back_move (takes undoes) = takes does

opposite_move : {s a : Shop} {t : Command} → Moves s t a → forward (reverse s t) ≡ not (forward t)
opposite_move (makes does) = refl
opposite_move (makes undoes) = refl
opposite_move (takes does) = refl
opposite_move (takes undoes) = refl

grows_move : {s a : Shop} {t : Command} → Moves s t a → forward t ≡ true → measure a ≡ suc (measure s)
grows_move (makes does) f = omega arith
grows_move (makes undoes) f = absurd (false≢true f)
grows_move (takes does) f = omega arith
grows_move (takes undoes) f = absurd (false≢true f)

start_move : {s a : Shop} {t : Command} → s ≡ root → Moves s t a → forward t ≡ true
start_move e (makes does) = refl
start_move e (makes undoes) = cc
start_move e (takes does) = refl
start_move e (takes undoes) = cc

apart_symmetric : (t u : Command) → Apart t u → Apart u t
apart_symmetric (maker c) (maker d) n = n
apart_symmetric (maker c) (taker d) n = n
apart_symmetric (taker c) (maker d) n = n
apart_symmetric (taker c) (taker d) n = n

symmetric : (s : Shop) (t u : Command) → Independent s t u → Independent s u t
symmetric (shop m k) t u i = record { apart = apart_symmetric t u i.apart; enough = omega (arith, i.enough) }

-- What the maker and the taker do to the number of items, in the worst case.
made : {c : Deed} {m m' : List Act} (k : List Act) → Performs m c m' → items m ≤ items m' + removes (shop m k) (maker c)
unfolding items
made k does = omega arith
made k undoes = omega arith

taken : {c : Deed} {k k' : List Act} (m : List Act) → Performs k c k' → items k' ≤ items k + removes (shop m k) (taker c)
unfolding items
taken m does = omega arith
taken m undoes = omega arith

square : {s a b : Shop} {t u : Command} → Moves s t a → Moves s u b → Independent s t u → (d : Shop) × Moves a u d × Moves b t d × Good d
square (makes p) (makes q) i = absurd i.apart
square (takes p) (takes q) i = absurd i.apart
square (makes {m} {m'} {k} p) (takes {k'} q) i = (shop m' k', takes q, makes p, omega (arith, made k p, taken m q, i.enough))
square (takes {m} {k} {k'} p) (makes {m'} q) i = (shop m' k', makes q, takes p, omega (arith, made k q, taken m p, i.enough))

backward_independent : {s a b : Shop} {t u : Command} → Moves s t a → Moves s u b → Good a → Good b
    → forward t ≡ false → forward u ≡ false → t ≢ u → Independent s t u
unfolding items
backward_independent (makes does) q good good' f g n = absurd (true≢false f)
backward_independent (takes does) q good good' f g n = absurd (true≢false f)
backward_independent (makes undoes) (makes does) good good' f g n = absurd (true≢false g)
backward_independent (makes undoes) (makes undoes) good good' f g n = absurd (n refl)
backward_independent (makes undoes) (takes does) good good' f g n = absurd (true≢false g)
backward_independent (makes undoes) (takes undoes) good good' f g n = record { apart = tt; enough = omega arith }
backward_independent (takes undoes) (makes does) good good' f g n = absurd (true≢false g)
backward_independent (takes undoes) (makes undoes) good good' f g n = record { apart = tt; enough = omega arith }
backward_independent (takes undoes) (takes does) good good' f g n = absurd (true≢false g)
backward_independent (takes undoes) (takes undoes) good good' f g n = absurd (n refl)

corner : {s a b d : Shop} {t u : Command} → Moves s t a → Moves s u b → Moves a u d → Good s → Good d
    → forward t ≡ true → forward u ≡ false → Independent a (reverse s t) u → Independent s t u
unfolding items
corner (makes undoes) q r good good' f g i = absurd (false≢true f)
corner (takes undoes) q r good good' f g i = absurd (false≢true f)
corner (makes does) (makes q) r good good' f g i = absurd i.apart
corner (takes does) (takes q) r good good' f g i = absurd i.apart
corner (makes does) (takes does) r good good' f g i = absurd (true≢false g)
corner (makes does) (takes undoes) r good good' f g i = record { apart = tt; enough = omega arith }
corner (takes does) (makes does) r good good' f g i = absurd (true≢false g)
corner (takes does) (makes undoes) (makes undoes) good good' f g i = record { apart = tt; enough = omega arith }

pub laws : Laws (Step exec) reverse Independent forward measure Good root
unfolding items
laws = record {
  equal? = Command-discrete (Deed-discrete Act-discrete);
  good_root = omega arith;
  good_step = λ good p. (of_step _ _ p).1;
  deterministic = exec_deterministic exec;
  reversible = λ good p. to_step (back_move (of_step _ _ p).0) good;
  opposite = λ good p. opposite_move (of_step _ _ p).0;
  grows = λ good p. grows_move (of_step _ _ p).0;
  start = λ p. start_move refl (of_step _ _ p).0;
  symmetric = λ i. symmetric _ _ _ i;
  square = λ good p q n i.
      let (d, q', p', good-d) = square (of_step _ _ p).0 (of_step _ _ q).0 i in
      (d, to_step q' good-d, to_step p' good-d);
  backward_independent = λ good p q f g n.
      let (x, good-a) = of_step _ _ p in
      let (y, good-b) = of_step _ _ q in
      backward_independent x y good-a good-b f g n;
  corner = λ good p q r f g i.
      let (z, good-d) = of_step _ _ r in
      corner (of_step _ _ p).0 (of_step _ _ q).0 z good good-d f g i;
}
