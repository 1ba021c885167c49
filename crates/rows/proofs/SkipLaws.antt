-- What `skip` returns, by the tests that it makes: the end of the terms that are left is the end of all.
use Prim.Native.Nat.{ℕ, suc, ◌+◌, ◌-◌, ◌≤◌, ◌<◌}
use mathlib.Core.Path.{◌≡◌, sym, ap, ◌∙◌}
use mathlib.Core.List.{List, ◌∷◌}
use native.Mathlib.Omega.{arith}
use lib.ListN.{length, get_or, drop, length-drop, drop_of_length-le}
use Rattle.term.specs.Words.{tag_of, n_of, tag_integer}
use Rattle.term.specs.Table.{arity}
use Rattle.term.specs.Rows.{passed, passed_payload}
use Rattle.term.proofs.RowLaws.{drop_head, passed_integer, passed_node, passed_none, passed_all}
use Rattle.rows.specs.Kinds.{ChildCount}

module _ (l : List ℕ) (at owed end : ℕ) (inv : end ≡ at + passed (drop at l) owed) where
  pub skip_none : owed ≤ 0 → at ≡ end
  skip_none e = let none : owed ≡ 0 = omega arith in omega (arith, passed_none (drop at l), ap (passed (drop at l)) none)

  pub skip_past : length l ≤ at → at ≡ end
  unfolding passed
  skip_past h = sym (inv ∙ rw (drop_of_length-le l h) (omega arith))

  pub skip_out : at < length l → length l - at ≤ owed → length l ≡ end
  skip_out h e = omega (arith, length-drop at l, passed_all (drop at l) owed (omega (arith, length-drop at l)))

  module _ (some : 0 < owed) (lt : at < length l) (t : ℕ) (et : t ≡ tag_of (get_or l at 0)) where
    pub skip_integer : owed < length l - at → t ≡ tag_integer → end ≡ at + 2 + passed (drop (at + 2) l) (owed - 1)
    unfolding passed
    skip_integer more e =
        let o : owed ≡ suc (owed - 1) = omega arith in
        let two : at + 1 + 1 ≡ at + 2 = omega arith in
        let p : passed (drop at l) owed ≡ suc (passed_payload (drop (at + 1) l) (owed - 1)) =
        ap (λ (m : List ℕ). passed m owed) (drop_head l at lt) ∙ ap (passed (get_or l at 0 ∷ drop (at + 1) l)) o ∙ passed_integer (get_or l at 0) (drop (at + 1) l) (owed - 1) (sym et ∙ e) in
        let q : passed_payload (drop (at + 1) l) (owed - 1) ≡ suc (passed (drop (at + 2) l) (owed - 1)) =
        ap (λ (m : List ℕ). passed_payload m (owed - 1)) (drop_head l (at + 1) (omega arith)) ∙ ap (λ (j : ℕ). suc (passed (drop j l) (owed - 1))) two in
        omega arith

    pub skip_node : ¬ (t ≡ tag_integer) → (c : ℕ) → ChildCount (get_or l at 0) c → end ≡ at + 1 + passed (drop (at + 1) l) (owed - 1 + c)
    skip_node d c hc =
        let w = get_or l at 0 in
        let o : owed ≡ suc (owed - 1) = omega arith in
        let p : passed (drop at l) owed ≡ suc (passed (drop (at + 1) l) (arity (tag_of w) (n_of w) + (owed - 1))) =
        ap (λ (m : List ℕ). passed m owed) (drop_head l at lt) ∙ ap (passed (w ∷ drop (at + 1) l)) o ∙ passed_node w (drop (at + 1) l) (owed - 1) (λ e. d (et ∙ e)) in
        let q : arity (tag_of w) (n_of w) + (owed - 1) ≡ owed - 1 + c = omega (arith, hc.is) in
        let z = ap (passed (drop (at + 1) l)) q in
        omega arith
