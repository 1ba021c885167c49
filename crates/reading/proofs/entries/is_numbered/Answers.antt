-- `is_numbered` meets its contract.
use Rattle.std.proofs.Common.{sym, ◌∙◌, rules}
use denote.Enum.Bare.{same_true, same_false}
use Rattle.kinds.specs.contracts.Kind.{the_type}
use Rattle.reading.proofs.KindReads.{numbered_same, numbered_other}
use Rattle.reading.proofs.entries.is_numbered.Goals as goal

pub returns-then-eq : goal.returns-then-eq
returns-then-eq c = numbered_same _ _ _ _ _ _ c.kind.ensures (same_true the_type (search rules) _ _ (sym c.eq.ensures ∙ c.if-eq.true)) _ c.number.ensures

pub returns-else-eq : goal.returns-else-eq
returns-else-eq c = numbered_other _ _ _ _ _ _ c.kind.ensures (same_false the_type _ _ (sym c.eq.ensures ∙ c.if-eq.false)) _ c.if-eq.false
