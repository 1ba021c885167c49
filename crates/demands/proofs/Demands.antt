-- Demands 2 and 3 hold.
use Rattle.demands.specs.Demands.{Demand2, Demand3}
use Rattle.demands.proofs.Allowed.{leads_so, done_so}
use Rattle.demands.proofs.RunSound.{run_sound}
use Rattle.demands.proofs.RunComplete.{run_complete}
use Rattle.demands.proofs.Refusals.{refusals}
use Rattle.demands.proofs.Consequences.{reverses, sequences_agree}
use Rattle.demands.proofs.Rollback.{rollback_is, rollback_one}
use Rattle.demands.proofs.Least.{least_removal}
use Rattle.demands.proofs.CountIsSize.{count_is_size}

pub demand2 : Demand2
demand2 = record {
  accepted_is_allowed = λ s c d w sound e. let (does, by) = run_sound s sound.pool_ends c e in (leads_so does, by);
  allowed_is_accepted = λ s after d a. let done = done_so a in (done.move, run_complete done.does, done.leads);
  refused_is_listed = λ s c n sound. refusals s sound.pool_ends c n;
  undone = λ s a c r f e. reverses s a c r e;
  retaken = λ s a c r f e. reverses s a c r e;
  rollback_allowed = λ s p t sound. rollback_is sound p t;
  nothing_else_allowed = λ s end end' p t a a' n n' sound r r'. rollback_one sound p t r r';
  least = least_removal.least;
  count_is_size = count_is_size.rollback;
}

pub demand3 : Demand3
demand3 = record { consistent = sequences_agree }
