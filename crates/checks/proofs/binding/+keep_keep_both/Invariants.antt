-- `checks::binding::keep` and `checks::binding::keep_both` meet their contracts.
use lib.ListN.{length}
use Prim.Native.Nat.{◌-◌, ◌+◌, ◌*◌}
use Rattle.checks.proofs.binding.+keep_keep_both.Given as goal

abbrev pub decreases-keep : goal.decreases-keep
decreases-keep l = 2 * (length l.subject.now.row.now - l.ahead.at)

abbrev pub decreases-keep_both : goal.decreases-keep_both
decreases-keep_both l = 2 * (length l.subject.now.row.now - l.ahead.at) + 1
