-- Laws of command lines: whether a text begins with a key, and the request of the line then.
use mathlib.Core.Path.{◌≡◌, refl, sym, ◌∙◌}
use mathlib.Core.Logic.{inl, inr, ◌≢◌}
use mathlib.Core.Option.{Option as Maybe, none, some}
use mathlib.Core.List.{List, [], ◌∷◌, ◌++◌}
use Prim.Native.Nat.{ℕ}
use Prim.Native.String.{String}
use lib.Dec.{eqb}
use denote.Ref.{Bor}
use Rattle.std.specs.Prelude.{MatchOption, Option, Some, None}
use Rattle.lists.proofs.Tests.{eqb_same, eqb-true, true_or_false, none_not_some, some_injective}
use Rattle.rules.specs.Text.{bytes, comma}
use Rattle.rules.specs.Commands.{step, spawn_into, deliver, back, undeliver}
use Rattle.rules.specs.Line.{Request, single, rollback_to, split, after, number, one_number, two_numbers, keyed, parse_line}
use Rattle.parsing.specs.declared.parsing.Command.{Command}
use Rattle.parsing.specs.declared.parsing.Command.TheVariants.{Step, Spawn, Deliver, Back, Undeliver, Rollback}
use Rattle.parsing.specs.Requests.{request_of, number_said, asked_by, ReadsPair}
use Rattle.parsing.proofs.NumberLaws.{one_none, one_some}

-- what stands after a key, and a text that does not begin with one
after_itself : (key rest : List ℕ) → after key (key ++ rest) ≡ some rest
unfolding after
after_itself [] rest = refl
after_itself (k ∷ key) rest = rw (eqb_same k, after) (after_itself key rest)

after_split : (key text : List ℕ) (o : Maybe (List ℕ)) → after key text ≡ o → ((rest : List ℕ) → text ≢ key ++ rest) → o ≡ none
unfolding after
after_split key text none e n = refl
after_split key text (some rest) e n = absurd (n rest (begun key text rest e))
  where
    begun : (key text rest : List ℕ) → after key text ≡ some rest → text ≡ key ++ rest
    begun [] text rest e = some_injective e
    begun (k ∷ key) [] rest e = none_not_some e
    begun (k ∷ key) (b ∷ text) rest e = elim (true_or_false (eqb k b)) [
      | inl t ↦ λ i. sym (eqb-true k b t) i ∷ begun key text rest (rw (t, after) at e) i
      | inr f ↦ none_not_some (rw (f, after) at e)
    ]

pub stripped : (text key : List ℕ) (r : Option (Bor (List ℕ))) → MatchOption r ((rest : List ℕ) → text ≢ key ++ rest) (λ x. text ≡ key ++ x.now)
    → MatchOption r (after key text ≡ none) (λ x. after key text ≡ some x.now)
stripped text key None n = after_split key text (after key text) refl n
stripped text key (Some x) e = rw e (after_itself key x.now)

-- the numbers of a line: one or two, or it is malformed
module _ (text : List ℕ) where
  pub one_malformed : (request : ℕ → Request) → number_said None ≡ number text → request_of None ≡ one_number request (split comma text)
  unfolding request_of number_said
  one_malformed request n = sym (one_none request text (sym n))

  module _ (p : ℕ) (read : number_said (Some p) ≡ number text) where
    one_read : (request : ℕ → Request) → some (request p) ≡ one_number request (split comma text)
    unfolding number_said
    one_read request = sym (one_some request text p (sym read))

    pub step_read : request_of (Some (Step p)) ≡ one_number (λ q. single (step q)) (split comma text)
    unfolding request_of
    step_read = one_read (λ q. single (step q))

    pub back_read : request_of (Some (Back p)) ≡ one_number (λ q. single (back q)) (split comma text)
    unfolding request_of
    back_read = one_read (λ q. single (back q))

    pub undeliver_read : request_of (Some (Undeliver p)) ≡ one_number (λ q. single (undeliver q)) (split comma text)
    unfolding request_of
    undeliver_read = one_read (λ q. single (undeliver q))

  pub two_malformed : (request : ℕ → ℕ → Request) → ReadsPair text None → request_of None ≡ two_numbers request (split comma text)
  unfolding request_of asked_by ReadsPair
  two_malformed request read = read request

  module _ (a b : ℕ) (read : ReadsPair text (Some (a, b))) where
    pub spawn_read : request_of (Some (Spawn a b)) ≡ two_numbers (λ q h. single (spawn_into q h)) (split comma text)
    unfolding request_of asked_by ReadsPair
    spawn_read = read (λ q h. single (spawn_into q h))

    pub deliver_read : request_of (Some (Deliver a b)) ≡ two_numbers (λ q h. single (deliver q h)) (split comma text)
    unfolding request_of asked_by ReadsPair
    deliver_read = read (λ q h. single (deliver q h))

    pub rollback_read : request_of (Some (Rollback a b)) ≡ two_numbers rollback_to (split comma text)
    unfolding request_of asked_by ReadsPair
    rollback_read = read rollback_to

-- the line's command, from the keys that it does not begin with and the one that it does
module _ (text : List ℕ) where
  module _ (key : String) (request : List (List ℕ) → Maybe Request) (others : Maybe Request) where
    found : (rest : List ℕ) → after (bytes key) text ≡ some rest → keyed key request text others ≡ request (split comma rest)
    unfolding keyed
    found rest e = rw (e, keyed) refl

    missed : after (bytes key) text ≡ none → keyed key request text others ≡ others
    unfolding keyed
    missed e = rw (e, keyed) refl

  module _ (rest : List ℕ) (r : Option Command) where
    pub is_step : after (bytes "step=") text ≡ some rest → request_of r ≡ one_number (λ p. single (step p)) (split comma rest) → request_of r ≡ parse_line text
    unfolding parse_line
    is_step b e = e ∙ sym (found "step=" _ _ rest b)

    module _ (f1 : after (bytes "step=") text ≡ none) where
      pub is_spawn : after (bytes "spawn=") text ≡ some rest → request_of r ≡ two_numbers (λ p f. single (spawn_into p f)) (split comma rest) → request_of r ≡ parse_line text
      unfolding parse_line
      is_spawn b e = e ∙ sym (missed "step=" _ _ f1 ∙ found "spawn=" _ _ rest b)

      module _ (f2 : after (bytes "spawn=") text ≡ none) where
        pub is_deliver : after (bytes "deliver=") text ≡ some rest → request_of r ≡ two_numbers (λ s k. single (deliver s k)) (split comma rest) → request_of r ≡ parse_line text
        unfolding parse_line
        is_deliver b e = e ∙ sym (missed "step=" _ _ f1 ∙ missed "spawn=" _ _ f2 ∙ found "deliver=" _ _ rest b)

        module _ (f3 : after (bytes "deliver=") text ≡ none) where
          pub is_back : after (bytes "back=") text ≡ some rest → request_of r ≡ one_number (λ p. single (back p)) (split comma rest) → request_of r ≡ parse_line text
          unfolding parse_line
          is_back b e = e ∙ sym (missed "step=" _ _ f1 ∙ missed "spawn=" _ _ f2 ∙ missed "deliver=" _ _ f3 ∙ found "back=" _ _ rest b)

          module _ (f4 : after (bytes "back=") text ≡ none) where
            pub is_undeliver : after (bytes "undeliver=") text ≡ some rest → request_of r ≡ one_number (λ p. single (undeliver p)) (split comma rest) → request_of r ≡ parse_line text
            unfolding parse_line
            is_undeliver b e = e ∙ sym (missed "step=" _ _ f1 ∙ missed "spawn=" _ _ f2 ∙ missed "deliver=" _ _ f3 ∙ missed "back=" _ _ f4 ∙ found "undeliver=" _ _ rest b)

  module _ (f1 : after (bytes "step=") text ≡ none) (f2 : after (bytes "spawn=") text ≡ none) (f3 : after (bytes "deliver=") text ≡ none)
      (f4 : after (bytes "back=") text ≡ none) (f5 : after (bytes "undeliver=") text ≡ none) where
    none_of_five : parse_line text ≡ keyed "rollback=" (two_numbers rollback_to) text none
    unfolding parse_line
    none_of_five = missed "step=" _ _ f1 ∙ missed "spawn=" _ _ f2 ∙ missed "deliver=" _ _ f3 ∙ missed "back=" _ _ f4 ∙ missed "undeliver=" _ _ f5

    pub is_rollback : (rest : List ℕ) (r : Option Command) → after (bytes "rollback=") text ≡ some rest → request_of r ≡ two_numbers rollback_to (split comma rest)
        → request_of r ≡ parse_line text
    is_rollback rest r b e = e ∙ sym (none_of_five ∙ found "rollback=" _ _ rest b)

    pub is_malformed : after (bytes "rollback=") text ≡ none → request_of None ≡ parse_line text
    unfolding request_of
    is_malformed f = sym (none_of_five ∙ missed "rollback=" _ _ f)
