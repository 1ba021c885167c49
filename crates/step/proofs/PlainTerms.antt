-- Terms that sit at a spot are plain.
use Prim.Native.Nat.{ℕ, zero, suc, ◌≤◌, ◌<◌}
use mathlib.Core.Path.{◌≡◌, refl}
use mathlib.Core.List.{List, [], ◌∷◌}
use native.Mathlib.Omega.{arith}
use Rattle.term.specs.Words.{tag_variable, tag_cons}
use Rattle.term.specs.Table.{table, row_of, k_limit}
use Rattle.term.specs.Tree.{Term, Terms, int, node, end, ◌then◌, Whole}
use Rattle.machine.proofs.Sits.{spots_under, Sits, SitAll}
use Rattle.machine.proofs.FitLaws.{sits_head}
use Rattle.row_laws.specs.Rows.{Plain, PlainAll}

-- atoms, pids, nils and variables have no children
leaf_row : (tag : ℕ) → tag < tag_cons → (row_of tag).greatest ≡ 0
unfolding row_of table
leaf_row zero h = refl
leaf_row (suc zero) h = refl
leaf_row (suc (suc zero)) h = refl
leaf_row (suc (suc (suc zero))) h = refl
leaf_row (suc (suc (suc (suc zero)))) h = refl
leaf_row (suc (suc (suc (suc (suc zero))))) h = refl
leaf_row (suc (suc (suc (suc (suc (suc tag)))))) h = absurd (omega arith)

variable_limit : (places k tag : ℕ) → k < k_limit places tag → tag ≡ tag_variable → k < 64
unfolding k_limit row_of table
variable_limit places k tag h e = rw e at h

module _ (places : ℕ) (few_places : places ≤ 65536) where
  mutual
    unfolding Plain PlainAll Whole Sits SitAll

    pub sits_plain : (t : Term) (s : ℕ) → Sits places s t → Plain t
    sits_plain (int x) s h = tt
    sits_plain (node tag n k ts) s h = (
      sits_head places few_places s tag n k ts h,
      ((λ b. let r = leaf_row tag b in omega (arith, h.0.greatest_n)), variable_limit places k tag h.0.k_below),
      sits_plain_all ts (spots_under s tag n) h.1,
    )

    pub sits_plain_all : (ts : Terms) (spots : List ℕ) → SitAll places ts spots → PlainAll ts
    sits_plain_all end spots h = tt
    sits_plain_all (t then ts) [] h = absurd h
    sits_plain_all (t then ts) (s ∷ spots) h = (sits_plain t s h.0, sits_plain_all ts spots h.1)
