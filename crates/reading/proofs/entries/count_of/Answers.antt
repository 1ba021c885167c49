-- `count_of` meets its contract.
use Rattle.std.proofs.Common.{sym, ◌∙◌, arith, rules}
use denote.Enum.Bare.{same_true, same_false}
use Rattle.kinds.specs.contracts.Kind.{the_type}
use Rattle.reading.proofs.MailReads.{index_entry}
use Rattle.reading.proofs.KindReads.{kinds_start, kinds_done, kind_more, kind_same}
use Rattle.reading.proofs.entries.count_of.Goals as goal
use Rattle.reading.proofs.entries.count_of.Goals.{then-eq, else-eq}

pub loop-j-init : goal.loop-j-init
loop-j-init c = (omega arith, kinds_start _ _ _)

pub kind-requires : goal.kind-requires
kind-requires c = (c.requires.0, index_entry _ _ _ _ c.requires.1 c.loop-j-test.true)

pub loop-j-preserved : goal.loop-j-preserved
loop-j-preserved c = (
  elim c.if-eq.branch [ then-eq w ↦ omega arith | else-eq w ↦ omega arith ],
  elim c.if-eq.branch [
    | then-eq w ↦ kind_more _ _ _ _ (index_entry _ _ _ _ c.requires.1 c.loop-j-test.true) _ c.kind.ensures _ _ c.loop-j.invariant.1 (same_true the_type (search rules) _ _ (sym c.eq.ensures ∙ w.if-eq.true)) w.count-is
    | else-eq w ↦ kind_same _ _ _ _ (index_entry _ _ _ _ c.requires.1 c.loop-j-test.true) _ c.kind.ensures _ _ c.loop-j.invariant.1 (same_false the_type _ _ (sym c.eq.ensures ∙ w.if-eq.false)) w.count-is
  ],
)

pub returns : goal.returns
returns c = (kinds_done _ _ _ _ _ _ (omega arith) (omega arith) c.loop-j.invariant.1, omega arith)
