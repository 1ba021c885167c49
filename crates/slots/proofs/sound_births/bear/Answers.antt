-- `bear` meets its contract.
use Rattle.slots.proofs.SoundTestBirths.{bear_zero, bear_outside, bear_dead, bear_twice, bear_first}
use Rattle.slots.proofs.sound_births.bear.Goals as goal

pub returns-then-child-eq0 : goal.returns-then-child-eq0
returns-then-child-eq0 c = search bear_zero

pub returns-then-live-child : goal.returns-then-live-child
returns-then-live-child c = search bear_outside

pub returns-then-not-live-child : goal.returns-then-not-live-child
returns-then-not-live-child c = search bear_dead

pub returns-then-born-child : goal.returns-then-born-child
returns-then-born-child c = search bear_twice

pub returns : goal.returns
returns c = search bear_first
