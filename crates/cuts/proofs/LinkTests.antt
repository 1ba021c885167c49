-- What a walk along a chain of links answers.
use Prim.Native.Nat.{ℕ, ◌+◌, ◌≤◌, ◌<◌}
use mathlib.Core.Path.{◌≡◌, sym, ◌∙◌, ap, subst}
use mathlib.Core.Bool.{Bool, true, false}
use mathlib.Core.List.{List}
use native.Mathlib.Omega.{arith}
use lib.ListN.{length, get_or}
use Rattle.lists.specs.Decides.{Decides}
use Rattle.lists.proofs.Decides.{yes_to, no_to, refuted}
use Rattle.cuts.specs.declared.link.Link.{Link}
use Rattle.cuts.specs.Links.{on_line}
use Rattle.cuts.specs.Chains.{slot_count, slot_of, Chained, Waiting}
use Rattle.cuts.specs.Going.{Blocks, Blocked}
use Rattle.cuts.proofs.ChainLaws.{chained_low, chained_next}

-- ---- the chain of an event's slot: what has not been met of its links is further on
abbrev pub Ahead : (links : List Link) (index : List ℕ) (x i : ℕ) (level : List ℕ) (j : ℕ) → Type 0
Ahead links index x i level j = (k : ℕ) → k < length links → Blocks links x i level k → Chained index j k

module _ (links : List Link) (index : List ℕ) (x i : ℕ) (level : List ℕ) where
  pub blocked_nowhere : (j : ℕ) → length links ≤ j → Ahead links index x i level j → Decides (Blocked links x i level) false
  blocked_nowhere j h ahead = no_to λ b. (let l = chained_low (ahead b.place b.below b.blocks) in omega (arith, l, h, b.below))
