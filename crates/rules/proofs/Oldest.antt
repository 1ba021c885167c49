-- What `pick` gives is the oldest message that is taken, and it gives none where none is taken: the rules, which say it without `pick`, and
-- `run` agree.
use Prim.Native.Nat.{ℕ}
use mathlib.Core.Path.{◌≡◌, refl, sym, ◌∙◌, ap, subst}
use mathlib.Core.Logic.{◌↔◌}
use mathlib.Core.Option.{Option, none, some}
use mathlib.Core.List.{List, [], ◌∷◌, ◌++◌}
use Rattle.lists.specs.Lists.{All}
use Rattle.lists.proofs.Tests.{none_not_some}
use Rattle.rules.specs.State.{Message}
use Rattle.rules.specs.Commands.{Picked, picked, or_later, pick}
use Rattle.rules.specs.Receives.{NoneTaken, TakesOldest}

-- ---- where what is picked stands, and that it is taken
pub pick_is : (takes : List ℕ → Option (List ℕ)) (q : List Message) {a : List Message} {m : Message} {b : List Message} {next : List ℕ}
    → pick takes q ≡ some (picked a m b next) → q ≡ a ++ (m ∷ b)
unfolding pick or_later
pick_is takes [] e = none_not_some e
pick_is takes (x ∷ q) {a} {m} {b} {next} e = go (takes x.value) (pick takes q) (λ a m b next e. pick_is takes q e) e
  where
    go : (o : Option (List ℕ)) (r : Option Picked) → ((a : List Message) (m : Message) (b : List Message) (next : List ℕ) → r ≡ some (picked a m b next) → q ≡ a ++ (m ∷ b))
        → or_later x q o r ≡ some (picked a m b next) → x ∷ q ≡ a ++ (m ∷ b)
    go (some d) r h e = cc
    go none none h e = cc
    go none (some (picked a' m' b' next')) h e = let z = h a' m' b' next' refl in cc

pub pick_takes : (takes : List ℕ → Option (List ℕ)) (q : List Message) {a : List Message} {m : Message} {b : List Message} {next : List ℕ}
    → pick takes q ≡ some (picked a m b next) → takes m.value ≡ some next
unfolding pick or_later
pick_takes takes [] e = none_not_some e
pick_takes takes (x ∷ q) {a} {m} {b} {next} e = go (takes x.value) refl (pick takes q) (λ a m b next e. pick_takes takes q e) e
  where
    go : (o : Option (List ℕ)) → takes x.value ≡ o → (r : Option Picked)
        → ((a : List Message) (m : Message) (b : List Message) (next : List ℕ) → r ≡ some (picked a m b next) → takes m.value ≡ some next)
        → or_later x q o r ≡ some (picked a m b next) → takes m.value ≡ some next
    go (some d) i r h e = cc
    go none i none h e = cc
    go none i (some (picked a' m' b' next')) h e = let z = h a' m' b' next' refl in cc

module _ (takes : List ℕ → Option (List ℕ)) where
  -- ---- one more message in front
  pick_first : (m : Message) (queue : List Message) {next : List ℕ} → takes m.value ≡ some next → pick takes (m ∷ queue) ≡ some (picked [] m queue next)
  unfolding pick or_later
  pick_first m queue e = rw e refl

  pick_later : (m : Message) (queue : List Message) → takes m.value ≡ none → pick takes (m ∷ queue) ≡ or_later m queue none (pick takes queue)
  unfolding pick
  pick_later m queue e = ap (λ o. or_later m queue o (pick takes queue)) e

  none_nil : NoneTaken takes []
  unfolding NoneTaken All
  none_nil = tt

  none_cons : (m : Message) (queue : List Message) → takes m.value ≡ none → NoneTaken takes queue → NoneTaken takes (m ∷ queue)
  unfolding NoneTaken All
  none_cons m queue e f = (e, f)

  none_first : (m : Message) (queue : List Message) → NoneTaken takes (m ∷ queue) → takes m.value ≡ none
  unfolding NoneTaken All
  none_first m queue f = f.0

  none_rest : (m : Message) (queue : List Message) → NoneTaken takes (m ∷ queue) → NoneTaken takes queue
  unfolding NoneTaken All
  none_rest m queue f = f.1

  -- ---- where none is taken
  pub none_picked : (queue : List Message) → NoneTaken takes queue → pick takes queue ≡ none
  unfolding pick or_later
  none_picked [] f = refl
  none_picked (m ∷ queue) f = pick_later m queue (none_first m queue f) ∙ ap (or_later m queue none) (none_picked queue (none_rest m queue f))

  pub picked_none : (queue : List Message) → pick takes queue ≡ none → NoneTaken takes queue
  unfolding or_later
  picked_none [] e = none_nil
  picked_none (m ∷ queue) e = go (takes m.value) refl (pick takes queue) refl (picked_none queue)
    where
      go : (o : Option (List ℕ)) → takes m.value ≡ o → (r : Option Picked) → pick takes queue ≡ r → (pick takes queue ≡ none → NoneTaken takes queue) → NoneTaken takes (m ∷ queue)
      go (some next) i r j f = none_not_some (sym e ∙ pick_first m queue i)
      go none i none j f = none_cons m queue i (f j)
      go none i (some (picked ahead n behind next)) j f = none_not_some (sym e ∙ pick_later m queue i ∙ ap (or_later m queue none) j)

  -- ---- the oldest that is taken
  pub ahead_picked : (ahead : List Message) (m : Message) (behind : List Message) {next : List ℕ} → NoneTaken takes ahead → takes m.value ≡ some next
      → pick takes (ahead ++ (m ∷ behind)) ≡ some (picked ahead m behind next)
  unfolding or_later
  ahead_picked [] m behind f e = pick_first m behind e
  ahead_picked (n ∷ ahead) m behind f e = pick_later n (ahead ++ (m ∷ behind)) (none_first n ahead f) ∙ ap (or_later n (ahead ++ (m ∷ behind)) none) (ahead_picked ahead m behind (none_rest n ahead f) e)

  picked_ahead : (queue : List Message) {ahead behind : List Message} {m : Message} {next : List ℕ} → pick takes queue ≡ some (picked ahead m behind next) → NoneTaken takes ahead
  unfolding pick or_later
  picked_ahead [] e = none_not_some e
  picked_ahead (n ∷ queue) {ahead} {behind} {m} {next} e = go (takes n.value) refl (pick takes queue) refl λ ahead behind m next. picked_ahead queue
    where
      front : {a b c d : List Message} {u v : Message} {x y : List ℕ} → some (picked a u b x) ≡ some (picked c v d y) → a ≡ c
      front e = cc

      go : (o : Option (List ℕ)) → takes n.value ≡ o → (r : Option Picked) → pick takes queue ≡ r
          → ((ahead behind : List Message) (m : Message) (next : List ℕ) → pick takes queue ≡ some (picked ahead m behind next) → NoneTaken takes ahead) → NoneTaken takes ahead
      go (some _) i r j f = subst (NoneTaken takes) (front (sym (pick_first n queue i) ∙ e)) none_nil
      go none i none j f = none_not_some (sym (pick_later n queue i ∙ ap (or_later n queue none) j) ∙ e)
      go none i (some (picked a u b x)) j f = subst (NoneTaken takes) (front (sym (pick_later n queue i ∙ ap (or_later n queue none) j) ∙ e)) (none_cons n a i (f a b u x j))

  pub picks_oldest : (queue ahead : List Message) (m : Message) (behind : List Message) (next : List ℕ) → (pick takes queue ≡ some (picked ahead m behind next)) ↔ TakesOldest takes queue ahead m behind next
  picks_oldest queue ahead m behind next = (
    λ e. record { stands = pick_is takes queue e; older_refused = picked_ahead queue e; taken = pick_takes takes queue e },
    λ t. ap (pick takes) t.stands ∙ ahead_picked ahead m behind t.older_refused t.taken,
  )
