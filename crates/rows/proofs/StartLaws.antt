-- What `function_start` returns: the walk has come to `at`, past so many of the functions.
use Prim.Native.Nat.{ℕ, ◌+◌, ◌-◌, ◌≤◌, ◌<◌}
use mathlib.Core.Path.{◌≡◌, sym, ap, ◌∙◌}
use mathlib.Core.List.{List}
use native.Mathlib.Omega.{arith}
use lib.ListN.{length, drop}
use Rattle.term.specs.Rows.{passed}
use Rattle.term.specs.Places.{start_from}
use Rattle.term.proofs.PlaceLaws.{start_past, start_next}

module _ (l : List ℕ) (s at number past : ℕ) (e : s ≡ start_from l at (number - past)) where
  pub start_here : number ≤ past → at ≡ s
  unfolding start_from
  start_here h = let z : number - past ≡ 0 = omega arith in sym (e ∙ ap (start_from l at) z)

  pub start_on : past < number → (a : ℕ) → a ≡ at + passed (drop at l) 1 → s ≡ start_from l a (number - (past + 1))
  start_on h a ea =
      let left : number - past - 1 ≡ number - (past + 1) = omega arith in
      e ∙ start_next l at (number - past) (λ z. omega arith) ∙ ap (λ (j : ℕ). start_from l j (number - past - 1)) (sym ea) ∙ ap (start_from l a) left

  pub start_end : length l ≤ at → at ≡ s
  start_end h = sym (e ∙ start_past l at (number - past) h)
