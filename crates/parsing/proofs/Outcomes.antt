-- Two outcomes that a contract allows are equal.
use mathlib.Core.Path.{◌≡◌, refl, sym, ap, ◌∙◌}
use mathlib.Core.Option.{Option as Maybe, none, some}
use mathlib.Core.List.{List}
use Prim.Native.Nat.{ℕ}
use denote.Ref.{Bor}
use Rattle.std.specs.Prelude.{MatchOption, Option, Some, None}
use Rattle.lists.proofs.Tests.{none_not_some, some_injective}
use Rattle.rules.specs.Commands.{step, spawn_into, deliver, back, undeliver}
use Rattle.rules.specs.Line.{Request, single, rollback_to, after, parse_line}
use Rattle.parsing.specs.declared.parsing.Command.{Command}
use Rattle.parsing.specs.declared.parsing.Command.TheVariants.{Step, Spawn, Deliver, Back, Undeliver, Rollback}
use Rattle.parsing.specs.Requests.{request_of, number_said, asked_by, ReadsPair}

-- the command that asks for a request
command_of : Maybe Request → Option Command
command_of (some (single (step p))) = Some (Step p)
command_of (some (single (spawn_into p f))) = Some (Spawn p f)
command_of (some (single (deliver s k))) = Some (Deliver s k)
command_of (some (single (back p))) = Some (Back p)
command_of (some (single (undeliver p))) = Some (Undeliver p)
command_of (some (rollback_to p t)) = Some (Rollback p t)
command_of none = None

command_back : (a : Option Command) → command_of (request_of a) ≡ a
unfolding request_of command_of
command_back (Some (Step p)) = refl
command_back (Some (Spawn p f)) = refl
command_back (Some (Deliver s k)) = refl
command_back (Some (Back p)) = refl
command_back (Some (Undeliver p)) = refl
command_back (Some (Rollback p t)) = refl
command_back None = refl

-- one command for each request
pub command_same : (a b : Option Command) → request_of a ≡ request_of b → a ≡ b
command_same a b e = sym (command_back a) ∙ ap command_of e ∙ command_back b

-- `parse_line`
pub parse_line_same : (text : List ℕ) (a b : Option Command) → request_of a ≡ parse_line text → request_of b ≡ parse_line text → a ≡ b
parse_line_same text a b p q = command_same a b (p ∙ sym q)

-- `read_number`, `read_digits`
pub number_same : (a b : Option ℕ) → number_said a ≡ number_said b → a ≡ b
unfolding number_said
number_same (Some m) (Some n) e = ap Some (some_injective e)
number_same (Some m) None e = none_not_some (sym e)
number_same None (Some n) e = none_not_some e
number_same None None e = refl

-- `read_pair`
asked_same : (c d : Option (ℕ × ℕ)) → asked_by rollback_to c ≡ asked_by rollback_to d → c ≡ d
unfolding asked_by
asked_same (Some (m, n)) (Some (k, l)) e = cc
asked_same (Some (m, n)) None e = none_not_some (sym e)
asked_same None (Some (k, l)) e = none_not_some e
asked_same None None e = refl

pub pair_same : (text : List ℕ) (a b : Option (ℕ × ℕ)) → ReadsPair text a → ReadsPair text b → a ≡ b
unfolding ReadsPair
pair_same text a b p q = asked_same a b (p rollback_to ∙ sym (q rollback_to))

-- `after`: two answers are of one kind, and two that are lent say the same bytes
abbrev Same : (a b : Option (Bor (List ℕ))) → Type 0
Same (Some x) (Some y) = x.now ≡ y.now
Same None None = Unit {0}
Same _ _ = ⊥

pub after_same : (text key : List ℕ) (a b : Option (Bor (List ℕ)))
    → MatchOption a (after key text ≡ none) (λ x. after key text ≡ some x.now) → MatchOption b (after key text ≡ none) (λ x. after key text ≡ some x.now) → Same a b
after_same text key (Some x) (Some y) p q = some_injective (sym p ∙ q)
after_same text key (Some x) None p q = none_not_some (sym q ∙ p)
after_same text key None (Some y) p q = none_not_some (sym p ∙ q)
after_same text key None None p q = tt
