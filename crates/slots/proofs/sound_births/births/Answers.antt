-- `births` meets its contract.
use Rattle.slots.proofs.SoundTestBirths.{births_marked, births_refused}
use Rattle.slots.proofs.sound_births.births.Goals as goal

pub returns-then-not-bear_places : goal.returns-then-not-bear_places
returns-then-not-bear_places c = search births_refused

pub returns : goal.returns
returns c = search births_marked
