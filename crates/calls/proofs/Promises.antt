-- All that follows from the contracts of the calls.
use Rattle.calls.specs.Promises.{Promises}
use Rattle.calls.proofs.Determined.{determined, possible}
use Rattle.calls.proofs.OneAnswer.{answers_determined}
use Rattle.calls.proofs.Past.{past_is_left}
use Rattle.calls.proofs.Accepted.{rollback_stored}
use Rattle.calls.proofs.Loads.{after_a_load}
use Rattle.calls.proofs.Returns.{words_return}
use Rattle.calls.proofs.Shams.{shams_caught}

pub promises : Promises
promises = record {
  determined = determined;
  answers_determined = answers_determined;
  past_is_left = past_is_left;
  possible = possible;
  rollback_stored = rollback_stored;
  after_a_load = after_a_load;
  words_return = words_return;
  shams_caught = shams_caught;
}
