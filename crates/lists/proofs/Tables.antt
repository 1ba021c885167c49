-- Laws of tables that are changed at one place.
use Prim.Native.Nat.{ℕ}
use mathlib.Core.Path.{◌≡◌, sym, ◌∙◌, ap, fun_ext}
use mathlib.Core.Logic.{◌≢◌}
use native.Mathlib.Decide.{ℕ_discrete}
use Rattle.lists.specs.Tables.{put}
use Rattle.lists.proofs.Tests.{eqb_of, eqb_apart, cond_true, cond_false}

module _ {A : Type 0} where
  pub put_same : (p : ℕ) (x : A) (table : ℕ → A) (q : ℕ) → p ≡ q → put p x table q ≡ x
  unfolding put
  put_same p x table q e = cond_true x (table q) (eqb_of p q e)

  pub put_other : (p : ℕ) (x : A) (table : ℕ → A) (q : ℕ) → p ≢ q → put p x table q ≡ table q
  unfolding put
  put_other p x table q n = cond_false x (table q) (eqb_apart p q n)

  -- the table with y and then x put at p is the table, where x stood there
  pub put_back : (p : ℕ) (x y : A) (table : ℕ → A) → table p ≡ x → put p x (put p y table) ≡ table
  put_back p x y table e = fun_ext λ q. go q (ℕ_discrete p q)
    where
      go : (q : ℕ) → Dec (p ≡ q) → put p x (put p y table) q ≡ table q
      go q (yes i) = put_same p x (put p y table) q i ∙ sym e ∙ ap table i
      go q (no m) = simp put_other
