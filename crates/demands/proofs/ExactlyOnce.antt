-- In a sound state each send's message stands exactly once.
use Prim.Native.Nat.{ℕ, suc}
use mathlib.Core.Path.{◌≡◌, refl, sym, ◌∙◌, ap}
use mathlib.Core.Logic.{inl, inr}
use mathlib.Core.Bool.{Bool, true, false, ◌||◌}
use mathlib.Core.Option.{some}
use mathlib.Core.List.{List, [], ◌∷◌, ◌++◌}
use lib.ListN.{length}
use Rattle.lists.specs.Lists.{any, keep}
use Rattle.lists.proofs.Lists.{any_append}
use Rattle.lists.proofs.Tests.{true_not_false, true_or_false, or_false_left, or_false_right}
use Rattle.rules.specs.State.{Message, letter, State, history_at, is_named}
use Rattle.rules.specs.Flight.{sent, taken, has_come, flies}
use Rattle.rules.specs.Sound.{Sound}
use Rattle.demands.specs.Consequences.{times_at, ExactlyOnce}
use Rattle.demands.proofs.Messages.{is_named_lem, named_not, Once, once_of}
use Rattle.demands.proofs.Questions.{has_come_lem}
use Rattle.demands.proofs.SoundFacts.{mail_named}

-- none of the name
keep_none : (s k : ℕ) (b : List Message) → any (is_named s k) b ≡ false → length (keep (is_named s k) b) ≡ 0
unfolding any keep
keep_none s k [] e = refl
keep_none s k (m ∷ b) e = rw (keep, or_false_left (is_named s k m) (any (is_named s k) b) e) (keep_none s k b (or_false_right (is_named s k m) (any (is_named s k) b) e))

-- one of the name, where no two have one name
keep_one : (s k : ℕ) (b : List Message) → Once b → any (is_named s k) b ≡ true → length (keep (is_named s k) b) ≡ 1
unfolding any keep
keep_one s k [] o e = true_not_false e refl
keep_one s k (m ∷ b) o e = go (is_named s k m) refl (keep_one s k b o.1) e
  where
    go : (c : Bool) → is_named s k m ≡ c → (any (is_named s k) b ≡ true → length (keep (is_named s k) b) ≡ 1) → (c || any (is_named s k) b) ≡ true
        → length {A = Message} (elim c as (λ x. List Message) [ true ↦ m ∷ keep (is_named s k) b | false ↦ keep (is_named s k) b ]) ≡ 1
    go true i r e =
        let n = is_named_lem s k m i in
        let others : any (is_named s k) b ≡ false = named_not s k b (λ x. o.0 (rw (n.sender, n.count) x)) in
        ap suc (keep_none s k b others)
    go false i r e = r e

module _ {st : State} (sound : Sound st) where
  pub times_none : (s k t : ℕ) → has_come st s k t ≡ false → times_at st s k t ≡ 0
  unfolding times_at has_come
  times_none s k t e = keep_none s k (st.queues t ++ taken (history_at st t)) (any_append (is_named s k) (st.queues t) (taken (history_at st t)) ∙ e)

  pub times_one : (s k t : ℕ) → has_come st s k t ≡ true → times_at st s k t ≡ 1
  unfolding times_at has_come
  times_one s k t e =
      keep_one s k (st.queues t ++ taken (history_at st t)) (once_of (st.queues t ++ taken (history_at st t)) (sound.once t)) (any_append (is_named s k) (st.queues t) (taken (history_at st t)) ∙ e)

  pub exactly_once : (s k t : ℕ) (value : List ℕ) → sent (history_at st s) k ≡ some (letter t value) → ExactlyOnce st s k t
  unfolding flies
  exactly_once s k t value out = record {
    at_target = elim (true_or_false (has_come st s k t)) [
      | inl e ↦ inr (rw (flies, e, sound.targets_in_pool s k t value out) refl, times_one s k t e)
      | inr e ↦ inl (rw (flies, e, sound.targets_in_pool s k t value out) refl, times_none s k t e)
    ];
    elsewhere = λ other off. elim (true_or_false (has_come st s k other)) [
      | inl e ↦ absurd (off (same_target other (mail_named sound s k other (has_come_lem st s k other e)).1))
      | inr e ↦ times_none s k other e
    ];
  }
    where
      same_target : (other : ℕ) {v : List ℕ} → sent (history_at st s) k ≡ some (letter other v) → other ≡ t
      same_target other {v} e =
          let both : some (letter other v) ≡ some (letter t value) = sym e ∙ out in
          cc
