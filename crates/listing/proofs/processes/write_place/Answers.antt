-- `write_place` meets its contract.
use mathlib.Core.Bool.{not}
use mathlib.Core.Path.{ap}
use Rattle.lists.proofs.Tests.{not_true, not_false}
use native.Mathlib.Omega.{arith}
use Rattle.reading.proofs.StateReads.{place_low, entries_few}
use Rattle.listing.proofs.ProcessLaws.{no_lines, five_lines}
use borrow.Author.Rules.{rules}
use Rattle.listing.proofs.processes.write_place.Goals as goal

pub overflow_cast-p : goal.overflow_cast-p
overflow_cast-p c = omega (arith, place_low _ c.requires.0 _ c.requires.1)

pub returns-then-not-in_pool : goal.returns-then-not-in_pool
returns-then-not-in_pool c = no_lines _ _ _ _ _ _ c.in_pool.ensures (not_true _ (ap not c.if-not-in_pool.true)) (search rules) (search rules)

pub overflow_cast-place : goal.overflow_cast-place
overflow_cast-place c = omega (arith, place_low _ c.requires.0 _ c.requires.1)

pub overflow_cast-entries : goal.overflow_cast-entries
overflow_cast-entries c = omega (arith, entries_few _ c.requires.0 _ _ c.entry_count-entries.ensures)

pub returns : goal.returns
returns c = five_lines _ _ _ _ _ _ _ _ _ _ _ c.in_pool.ensures (not_false _ (ap not c.if-not-in_pool.false)) c.entry_count-entries.ensures c.newest-kind.ensures c.queue.ensures c.control.ensures c.write_process.ensures
