-- Parts of a block, as they are lent, and what is there below a bound.
use Prim.Native.Nat.{ℕ, zero, suc, ◌+◌, ◌-◌, ◌≤◌, ◌<◌}
use mathlib.Core.Path.{◌≡◌, refl}
use mathlib.Core.List.{List, [], ◌∷◌}
use native.Mathlib.Omega.{arith}
use lib.ListN.{length, take, drop, get_or, length-drop}
use lib.Seq.{take_all, take-take}

-- the part behind a start, as it is lent
pub behind : (size : ℕ) (t : List ℕ) → take (length t - size) (drop size t) ≡ drop size t
behind size t = take_all (length t - size) (drop size t) (omega (arith, length-drop size t))

-- what is there below a bound
pub below_take : (size i : ℕ) (t : List ℕ) → i < size → get_or (take size t) i 0 ≡ get_or t i 0
below_take zero i t h = absurd (omega arith)
below_take (suc size) i [] h = refl
below_take (suc size) zero (x ∷ t) h = refl
below_take (suc size) (suc i) (x ∷ t) h = below_take size i t (omega arith)

pub mid_take : (at n size : ℕ) (t : List ℕ) → at + n ≤ size → take n (drop at (take size t)) ≡ take n (drop at t)
mid_take zero n size t h = take-take n size t (omega arith)
mid_take (suc at) n zero t h = absurd (omega arith)
mid_take (suc at) n (suc size) [] h = refl
mid_take (suc at) n (suc size) (x ∷ t) h = mid_take at n size t (omega arith)
