-- What a test that is needed says of a refused plan, and with which numbers an entry is not made.
use Prim.Native.Nat.{ℕ, ◌≤◌}
use mathlib.Core.Path.{◌≡◌, sym}
use mathlib.Core.Logic.{◌≢◌, ◌⊎◌, inl, inr}
use mathlib.Core.Bool.{Bool, true}
use mathlib.Core.List.{List}
use lib.Dec.{leb, ltb}
use lib.ListN.{length}
use Rattle.lists.proofs.Tests.{true_not_false, leb_of}
use Rattle.rules.specs.Answers.{too_large, history_full}
use Rattle.rules.specs.State.{Kind, Process, State}
use Rattle.rules.specs.Commands.{Beside, Plan, refuse, need, making}
use Rattle.demands.proofs.Plans.{refused}
use Rattle.demands.proofs.Refusals.{need_refuses}

-- a test that has another number, or holds, leaves the rest
pub need_past : {plan : Plan} {m n : ℕ} (b : Bool) → (m ≢ n) ⊎ (b ≡ true) → need b m plan ≡ refuse n → (b ≡ true) × (plan ≡ refuse n)
need_past {m} b h e = elim (need_refuses b m e) [ inl z ↦ elim h [ inl d ↦ absurd (d z.1) | inr t ↦ true_not_false t z.0 ] | inr z ↦ z ]

-- an entry is refused with no other number than 9 and 10, and with 9 only where the next control is too long
pub made_not : (s : State) (p : ℕ) (a : Process) (kind : Kind) (next : List ℕ) (beside : Beside) {n : ℕ} → (too_large ≢ n) ⊎ (length next ≤ s.sizes.words) → history_full ≢ n
    → making s p a kind next beside ≢ refuse n
unfolding making
made_not s p a kind next beside {n} h g e =
    let (_, e₁) = need_past (leb (length next) s.sizes.words) (fits h) e in
    let (_, e₂) = need_past (ltb (length a.history) s.sizes.entries) (inl g) e₁ in
    refused (sym e₂)
  where
    fits : (too_large ≢ n) ⊎ (length next ≤ s.sizes.words) → (too_large ≢ n) ⊎ (leb (length next) s.sizes.words ≡ true)
    fits (inl z) = inl z
    fits (inr z) = inr (leb_of (length next) s.sizes.words z)
