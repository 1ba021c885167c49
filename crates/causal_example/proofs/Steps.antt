-- The steps of the shelf as a relation: what a command does to the two histories, and that it leaves a good state.
use mathlib.Core.Path.{◌≡◌, refl}
use mathlib.Core.Logic.{ite, if_pos}
use mathlib.Core.Option.{Option, none, some, bind, bind-eq-some_iff, none-ne-some}
use mathlib.Core.List.{List, [], ◌∷◌}
use Prim.Native.Nat.{◌≤◌}
use native.Mathlib.Decide.{dec_le}
use Rattle.causal.specs.Exec.{Step}
use Rattle.causal_example.specs.Shelf.{Act, Deed, act, back, Command, maker, taker, Shop, shop, items, Good, keep, perform, exec}

-- A worker's history before and after a deed.
pub data Performs : List Act → Deed → List Act → Type 0 where
  does : {x : Act} {h : List Act} → Performs h (act x) (x ∷ h)
  undoes : {x : Act} {h : List Act} → Performs (x ∷ h) back h

pub data Moves : Shop → Command → Shop → Type 0 where
  makes : {c : Deed} {m m' k : List Act} → Performs m c m' → Moves (shop m k) (maker c) (shop m' k)
  takes : {c : Deed} {m k k' : List Act} → Performs k c k' → Moves (shop m k) (taker c) (shop m k')

performs : (c : Deed) (h : List Act) {h' : List Act} → perform c h ≡ some h' → Performs h c h'
performs (act x) h {h'} e = let same : x ∷ h ≡ h' = cc in rw (← same) does
performs back [] {h'} e = absurd (none-ne-some h' e)
performs back (x ∷ h) {h'} e = let same : h ≡ h' = cc in rw (← same) undoes

performed : {c : Deed} {h h' : List Act} → Performs h c h' → perform c h ≡ some h'
performed does = refl
performed undoes = refl

kept : (s : Shop) {a : Shop} → keep s ≡ some a → Good s × (s ≡ a)
unfolding keep
kept (shop m k) {a} e = test (dec_le (items k) (items m)) e
  where
    test : (d : Dec (items k ≤ items m)) → ite {C = Option Shop} d (some (shop m k)) none ≡ some a → Good (shop m k) × (shop m k ≡ a)
    test (yes y) e = (y, cc)
    test (no _) e = absurd (none-ne-some a e)

keeps : (s : Shop) → Good s → keep s ≡ some s
unfolding keep
keeps (shop m k) good = if_pos (dec_le (items k) (items m)) good _ _

pub of_step : (s : Shop) (t : Command) {a : Shop} → Step exec s t a → Moves s t a × Good a
unfolding exec
of_step (shop m k) (maker c) {a} p =
    let (m', x, y) = (bind-eq-some_iff (perform c m) (λ m'. keep (shop m' k))).0 p.accepted in
    let (good, same) = kept (shop m' k) y in
    rw (← same) (makes (performs c m x), good)
of_step (shop m k) (taker c) {a} p =
    let (k', x, y) = (bind-eq-some_iff (perform c k) (λ k'. keep (shop m k'))).0 p.accepted in
    let (good, same) = kept (shop m k') y in
    rw (← same) (takes (performs c k x), good)

pub to_step : {s a : Shop} {t : Command} → Moves s t a → Good a → Step exec s t a
unfolding exec bind
to_step (makes {m'} {k} p) good = record { accepted = rw (performed p) (keeps (shop m' k) good) }
to_step (takes {m} {k'} p) good = record { accepted = rw (performed p) (keeps (shop m k') good) }
