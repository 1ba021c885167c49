-- A run that marks: each step needs its key unmarked and marks it. It goes through where every step is fine and no key comes twice.
use Prim.Native.Nat.{ℕ, ◌≤◌}
use mathlib.Core.Path.{◌≡◌, refl, sym, ◌∙◌, ap, subst}
use mathlib.Core.Option.{Option, none, some}
use mathlib.Core.List.{List, [], ◌∷◌, ◌++◌, map}
use native.Mathlib.Decide.{ℕ_discrete}
use native.Mathlib.Omega.{arith}
use Rattle.lists.specs.Lists.{All, joined}
use Rattle.lists.proofs.Tests.{none_not_some, some_injective}
use Rattle.lists.proofs.All.{all_so}
use Rattle.lists.proofs.Counts.{occurs, occurs_head, occurs_other, occurs_more}
use Rattle.slots.specs.SoundTests.{and_then, run_all}

-- ---- runs of runs

module _ {A B : Type 0} (f : B → A → Option A) where
  then_then : (o : Option A) (bs cs : List B) → ((y : A) → run_all f (bs ++ cs) y ≡ and_then (run_all f bs y) (run_all f cs)) → and_then o (run_all f (bs ++ cs)) ≡ and_then (and_then o (run_all f bs)) (run_all f cs)
  unfolding and_then
  then_then none bs cs e = refl
  then_then (some y) bs cs e = e y

  pub run_append : (bs cs : List B) (x : A) → run_all f (bs ++ cs) x ≡ and_then (run_all f bs x) (run_all f cs)
  unfolding run_all and_then
  run_append [] cs x = refl
  run_append (b ∷ bs) cs x = then_then (f b x) bs cs (run_append bs cs)

-- what is run for each of some things, run as one list
module _ {A B C : Type 0} (f : B → A → Option A) (parts : C → List B) where
  pub run_joined : (cs : List C) (x : A) → run_all (λ c. run_all f (parts c)) cs x ≡ run_all f (joined (map parts cs)) x
  unfolding run_all joined
  run_joined [] x = refl
  run_joined (c ∷ cs) x = ap (λ (g : A → Option A). and_then (run_all f (parts c) x) g) (λ i y. run_joined cs y i) ∙ sym (run_append f (parts c) (joined (map parts cs)) x)

-- a step that is taken ends a run of one
pub then_some : {A : Type 0} (o : Option A) (g : A → Option A) (z : A) → and_then o g ≡ some z → (y : A) × (o ≡ some y) × (g y ≡ some z)
unfolding and_then
then_some none g z e = none_not_some e
then_some (some y) g z e = (y, refl, e)

-- ---- marks

module _ {A B : Type 0} (f : B → A → Option A) (key : B → ℕ) (Fine : B → Type 0) (Good : A → Type 0) (Open : A → ℕ → Type 0) where
  pub record Marking : Type 0 where
    pub takes : (b : B) (x y : A) → Good x → f b x ≡ some y → Fine b × Open x (key b)
    pub good : (b : B) (x y : A) → Good x → f b x ≡ some y → Good y
    pub opens : (b : B) (x y : A) → Good x → f b x ≡ some y → (k : ℕ) → Open y k → Open x k × ¬ (key b ≡ k)
    pub stays : (b : B) (x y : A) → Good x → f b x ≡ some y → (k : ℕ) → Open x k → ¬ (key b ≡ k) → Open y k
    pub taken : (b : B) (x : A) → Good x → Fine b → Open x (key b) → (y : A) × (f b x ≡ some y)

  abbrev pub keys : List B → List ℕ
  keys bs = map key bs

  pub record Marked (bs : List B) (x : A) : Type 0 where
    pub fine : All (λ b. Fine b × Open x (key b)) bs
    pub once : (k : ℕ) → occurs k (keys bs) ≤ 1

  module _ (m : Marking) where
    -- how a run ends: what is open behind it was open, and none of its keys
    pub open_before : (bs : List B) (x y : A) → Good x → run_all f bs x ≡ some y → (k : ℕ) → Open y k → Open x k × (occurs k (keys bs) ≡ 0)
    unfolding run_all occurs
    open_before [] x y g e k o = (subst (λ z. Open z k) (sym (some_injective e)) o, refl)
    open_before (b ∷ bs) x y g e k o =
        let (z, first, others) = then_some (f b x) (run_all f bs) y e in
        let (later, no-later) = open_before bs z y (m.good b x z g first) others k o in
        let (now, apart) = m.opens b x z g first k later in
        (now, occurs_other k (key b) (keys bs) (λ q. apart (sym q)) ∙ no-later)

    pub open_after : (bs : List B) (x y : A) → Good x → run_all f bs x ≡ some y → (k : ℕ) → Open x k → occurs k (keys bs) ≡ 0 → Open y k
    unfolding run_all
    open_after [] x y g e k o n = subst (λ z. Open z k) (some_injective e) o
    open_after (b ∷ bs) x y g e k o n =
        let (z, first, others) = then_some (f b x) (run_all f bs) y e in
        let apart : ¬ (key b ≡ k) = λ q. omega (arith, occurs_head (key b) (keys bs), ap (λ (j : ℕ). occurs j (key b ∷ keys bs)) q, n) in
        open_after bs z y (m.good b x z g first) others k (m.stays b x z g first k o apart) (sym (occurs_other k (key b) (keys bs) (λ q. apart (sym q))) ∙ n)

    -- a run that goes through
    pub marked : (bs : List B) (x y : A) → Good x → run_all f bs x ≡ some y → Marked bs x
    unfolding run_all occurs All
    marked [] x y g e = record { fine = tt; once = λ k. omega arith }
    marked (b ∷ bs) x y g e =
        let (z, first, others) = then_some (f b x) (run_all f bs) y e in
        let rest = marked bs z y (m.good b x z g first) others in
        let back : (k : ℕ) → Open z k → Open x k × ¬ (key b ≡ k) = m.opens b x z g first in
        record {
          fine = (m.takes b x z g first, all_so (λ c q. (q.0, (back (key c) q.1).0)) bs rest.fine);
          once = λ k. elim (ℕ_discrete k (key b)) [
            | yes q ↦ omega (arith, ap (λ (j : ℕ). occurs j (key b ∷ keys bs)) q, occurs_head (key b) (keys bs), none_again bs z (λ c o. (back (key c) o).1) rest.fine)
            | no q ↦ omega (arith, occurs_other k (key b) (keys bs) q, rest.once k)
          ];
        }
      where
        none_again : (cs : List B) (z : A) → ((c : B) → Open z (key c) → ¬ (key b ≡ key c)) → All (λ c. Fine c × Open z (key c)) cs → occurs (key b) (keys cs) ≡ 0
        none_again [] z n a = refl
        none_again (c ∷ cs) z n a = occurs_other (key b) (key c) (keys cs) (n c a.0.1) ∙ none_again cs z n a.1

    -- and one that is to go through
    pub marks : (bs : List B) (x : A) → Good x → Marked bs x → (y : A) × (run_all f bs x ≡ some y)
    unfolding run_all and_then All
    marks [] x g w = (x, refl)
    marks (b ∷ bs) x g w =
        let (z, first) = m.taken b x g w.fine.0.0 w.fine.0.1 in
        let (y, others) = marks bs z (m.good b x z g first) (record { fine = still bs z (λ c o q. m.stays b x z g first (key c) o q) (λ k q. omega (arith, w.once k, ap (λ (j : ℕ). occurs j (key b ∷ keys bs)) (sym q), occurs_head (key b) (keys bs), ap (λ (j : ℕ). occurs j (keys bs)) q)) w.fine.1; once = λ k. omega (arith, w.once k, occurs_more k (key b) (keys bs)) }) in
        (y, ap (λ (o : Option A). and_then o (run_all f bs)) first ∙ others)
      where
        still : (cs : List B) (z : A) → ((c : B) → Open x (key c) → ¬ (key b ≡ key c) → Open z (key c)) → ((k : ℕ) → key b ≡ k → occurs k (keys cs) ≤ 0) → All (λ c. Fine c × Open x (key c)) cs → All (λ c. Fine c × Open z (key c)) cs
        still [] z s n a = tt
        still (c ∷ cs) z s n a = (
          (a.0.0, s c a.0.1 (λ q. omega (arith, n (key c) q, occurs_head (key c) (keys cs)))),
          still cs z s (λ k q. omega (arith, n k q, occurs_more k (key c) (keys cs))) a.1,
        )
