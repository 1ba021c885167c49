-- Equality of commands is decidable: a command is told by a number for what it does and two numbers for where.
use Prim.Native.Nat.{ℕ}
use mathlib.Core.Path.{◌≡◌, refl, sym, ◌∙◌, ap}
use mathlib.Core.Bool.{cond}
use native.Mathlib.Decide.{ℕ_discrete}
use lib.Dec.{eqb}
use Rattle.rules.specs.Commands.{Command, step, spawn_into, deliver, back, undeliver}

what : Command → ℕ
what (step p) = 0
what (spawn_into p f) = 1
what (deliver sender k) = 2
what (back p) = 3
what (undeliver p) = 4

first : Command → ℕ
first (step p) = p
first (spawn_into p f) = p
first (deliver sender k) = sender
first (back p) = p
first (undeliver p) = p

second : Command → ℕ
second (step p) = 0
second (spawn_into p f) = f
second (deliver sender k) = k
second (back p) = 0
second (undeliver p) = 0

told : ℕ → ℕ → ℕ → Command
told n x y = cond (eqb n 0) (step x) (cond (eqb n 1) (spawn_into x y) (cond (eqb n 2) (deliver x y) (cond (eqb n 3) (back x) (undeliver x))))

told_of : (c : Command) → told (what c) (first c) (second c) ≡ c
unfolding what first second told
told_of (step p) = refl
told_of (spawn_into p f) = refl
told_of (deliver sender k) = refl
told_of (back p) = refl
told_of (undeliver p) = refl

pub same_command? : (t u : Command) → Dec (t ≡ u)
same_command? t u = go (ℕ_discrete (what t) (what u)) (ℕ_discrete (first t) (first u)) (ℕ_discrete (second t) (second u))
  where
    go : Dec (what t ≡ what u) → Dec (first t ≡ first u) → Dec (second t ≡ second u) → Dec (t ≡ u)
    go (yes a) (yes b) (yes c) = yes (sym (told_of t) ∙ (λ i. told (a i) (b i) (c i)) ∙ told_of u)
    go (yes a) (yes b) (no n) = no λ e. n (ap second e)
    go (yes a) (no n) c = no λ e. n (ap first e)
    go (no n) b c = no λ e. n (ap what e)
