-- `Sizes::new` meets its contract.
use native.Mathlib.Omega.{arith}
use Rattle.store.proofs.LayoutLaws.{not_good, in_good}
use Rattle.store.proofs.sizes.Sizes.new.Goals as goal

pub returns-then-places-lt1 : goal.returns-then-places-lt1
returns-then-places-lt1 c = not_good _ (λ x. omega (arith, c.then-places-lt1.either))

pub returns-then-entries-lt1 : goal.returns-then-entries-lt1
returns-then-entries-lt1 c = not_good _ (λ x. omega (arith, c.then-entries-lt1.either))

pub returns-then-words-lt-LEAST_WORDS : goal.returns-then-words-lt-LEAST_WORDS
returns-then-words-lt-LEAST_WORDS c = not_good _ (λ x. omega (arith, c.then-words-lt-LEAST_WORDS.either))

pub within-requires : goal.within-requires
within-requires c = in_good _ (record { places_low = omega arith; places_high = omega arith; entries_low = omega arith; entries_high = omega arith; words_low = omega arith; words_high = omega arith })
