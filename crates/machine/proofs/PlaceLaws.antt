-- The working place: what stands there is right, and the whole stays right, with no other pids, when something right is put there.
use Prim.Native.Nat.{ℕ, zero, suc, ◌≤◌}
use mathlib.Core.Path.{◌≡◌, refl, ◌∙◌}
use mathlib.Core.Logic.{◌⊎◌, inl, inr}
use mathlib.Core.Bool.{true, false}
use mathlib.Core.List.{List, [], ◌∷◌}
use native.Mathlib.Omega.{arith}
use lib.Dec.{eqb}
use lib.ListN.{length, replicate, length-append}
use Rattle.lists.specs.Lists.{member}
use Rattle.lists.proofs.Tests.{eqb-true, eqb_of, eqb_apart, true_or_false, true_not_false, choose_true, choose_false}
use Rattle.term.specs.Words.{tag_case, tag_let, tag_receive, tag_clause}
use Rattle.term.specs.Table.{table, row_of, tags_at, spots_below, spot_expression}
use Rattle.term.specs.Tree.{Term, Terms, int, node, end, ◌then◌, words, words_of, count}
use Rattle.term.proofs.Keep.{Keeps, KeepsAll, KeepsLet}
use Rattle.machine.specs.Value.{is_value}
use Rattle.machine.specs.Place.{entered, working, working_in, ready, replaced, replaced_in}
use Rattle.machine.specs.Laws.{PidIn, PidAmong}
use Rattle.machine.proofs.Sits.{spots_under, Sits, SitAll}
use Rattle.machine.proofs.TagLaws.{outside_expression, Below, same, case, receive, clause, below}
use Rattle.machine.proofs.SitLaws.{under_expression}
use Rattle.machine.proofs.Right.{Right}

-- the clauses of the definitions, by the tests that they make
module _ (t : Term) (ts : Terms) (m : ℕ) where
  pub working_past : (whole : Term) → is_value t ≡ true → working_in (t then ts) (suc m) whole ≡ working_in ts m whole
  unfolding working
  working_past whole e = choose_true (working_in ts m whole) (working t) e

  pub working_into : (whole : Term) → is_value t ≡ false → working_in (t then ts) (suc m) whole ≡ working t
  unfolding working
  working_into whole e = choose_false (working_in ts m whole) (working t) e

  pub ready_past : is_value t ≡ true → ready (t then ts) (suc m) ≡ ready ts m
  unfolding ready
  ready_past e = choose_true (ready ts m) false e

  pub ready_into : is_value t ≡ false → ready (t then ts) (suc m) ≡ false
  unfolding ready
  ready_into e = choose_false (ready ts m) false e

  pub replaced_past : (new : Term) → is_value t ≡ true → replaced_in (t then ts) (suc m) new ≡ t then replaced_in ts m new
  unfolding replaced
  replaced_past new e = choose_true (t then replaced_in ts m new) (replaced t new then ts) e

  pub replaced_into : (new : Term) → is_value t ≡ false → replaced_in (t then ts) (suc m) new ≡ replaced t new then ts
  unfolding replaced
  replaced_into new e = choose_false (t then replaced_in ts m new) (replaced t new then ts) e

module _ (tag n k : ℕ) (ts : Terms) (new : Term) where
  pub replaced_whole : ready ts (entered tag ts) ≡ true → replaced (node tag n k ts) new ≡ new
  unfolding replaced
  replaced_whole e = choose_true new (node tag n k (replaced_in ts (entered tag ts) new)) e

  pub replaced_part : ready ts (entered tag ts) ≡ false → replaced (node tag n k ts) new ≡ node tag n k (replaced_in ts (entered tag ts) new)
  unfolding replaced
  replaced_part e = choose_false new (node tag n k (replaced_in ts (entered tag ts) new)) e

-- how many children are gone into
pub entered_receive : (tag : ℕ) (ts : Terms) → tag ≡ tag_receive → entered tag ts ≡ 0
unfolding entered
entered_receive tag ts e = rw e

pub entered_case : (tag : ℕ) (ts : Terms) → tag ≡ tag_case → entered tag ts ≡ 1
unfolding entered
entered_case tag ts e = rw e

pub entered_let : (tag : ℕ) (ts : Terms) → tag ≡ tag_let → entered tag ts ≡ 1
unfolding entered
entered_let tag ts e = rw e

pub entered_other : (tag : ℕ) (ts : Terms) → ¬ (tag ≡ tag_case) → ¬ (tag ≡ tag_let) → ¬ (tag ≡ tag_receive) → entered tag ts ≡ count ts
unfolding entered
entered_other tag ts a b d = rw (eqb_apart tag tag_case a, eqb_apart tag tag_let b, eqb_apart tag tag_receive d)

-- the first m spots are those of expressions
unfoldable Firsts : ℕ → List ℕ → Type 0
Firsts zero spots = Unit {0}
Firsts (suc m) [] = Unit {0}
Firsts (suc m) (s ∷ spots) = (s ≡ spot_expression) × Firsts m spots

firsts_replicate : (m n : ℕ) → Firsts m (replicate n spot_expression)
unfolding Firsts
firsts_replicate zero n = tt
firsts_replicate (suc m) zero = tt
firsts_replicate (suc m) (suc n) = (refl, firsts_replicate m n)

firsts_entered : (tag n : ℕ) (ts : Terms) → Below spot_expression tag → eqb tag tag_clause ≡ false → Firsts (entered tag ts) (spots_under spot_expression tag n)
unfolding Firsts spots_below row_of table
firsts_entered tag n ts (same a i) e = rw (under_expression tag n a) (firsts_replicate (entered tag ts) n)
firsts_entered tag n ts (case i) e = rw (entered_case tag ts i, i) (refl, tt)
firsts_entered tag n ts (receive i) e = rw (entered_receive tag ts i) tt
firsts_entered tag n ts (clause i) e = true_not_false (eqb_of tag tag_clause i) e

-- no clause stands at an expression's spot
pub no_clause : (places tag : ℕ) → member tag (tags_at places spot_expression) ≡ true → eqb tag tag_clause ≡ false
unfolding tags_at member
no_clause places tag m = elim (true_or_false (eqb tag tag_clause)) [ inl e ↦ true_not_false (rw (eqb-true tag tag_clause e) at m) refl | inr e ↦ e ]

module _ (places : ℕ) (arities : List ℕ) where
  -- the first m terms are right
  unfoldable FirstRight : Terms → ℕ → Type 0
  FirstRight end m = Unit {0}
  FirstRight (t then ts) zero = Unit {0}
  FirstRight (t then ts) (suc m) = Right places arities t × FirstRight ts m

  -- the terms, but for the first m, which are others that are right
  unfoldable Changed : Terms → ℕ → Terms → Type 0
  Changed end m us = us ≡ end
  Changed (t then ts) zero us = us ≡ (t then ts)
  Changed (t then ts) (suc m) end = ⊥
  Changed (t then ts) (suc m) (u then us) = Right places arities u × Changed ts m us

  changed_none : (ts us : Terms) → Changed ts 0 us → us ≡ ts
  unfolding Changed
  changed_none end us h = h
  changed_none (t then ts) us h = h

  changed_same : (ts : Terms) (m : ℕ) → FirstRight ts m → Changed ts m ts
  unfolding FirstRight Changed
  changed_same end m h = refl
  changed_same (t then ts) zero h = refl
  changed_same (t then ts) (suc m) h = (h.0, changed_same ts m h.1)

  changed_sits : (ts : Terms) (m : ℕ) (us : Terms) (spots : List ℕ) → Firsts m spots → SitAll places ts spots → Changed ts m us → SitAll places us spots
  unfolding Changed Firsts SitAll
  changed_sits end m us spots f h c = rw c h
  changed_sits (t then ts) zero us spots f h c = rw c h
  changed_sits (t then ts) (suc m) end spots f h c = absurd c
  changed_sits (t then ts) (suc m) (u then us) [] f h c = absurd h
  changed_sits (t then ts) (suc m) (u then us) (s ∷ spots) f h c = (rw f.0 c.0.sits, changed_sits ts m us spots f.1 h.1 c.1)

  changed_keeps : (ts : Terms) (m : ℕ) (us : Terms) → KeepsAll arities [] ts → Changed ts m us → KeepsAll arities [] us
  unfolding Changed KeepsAll
  changed_keeps end m us h c = rw c h
  changed_keeps (t then ts) zero us h c = rw c h
  changed_keeps (t then ts) (suc m) end h c = absurd c
  changed_keeps (t then ts) (suc m) (u then us) h c = (c.0.keeps, changed_keeps ts m us h.1 c.1)

  changed_let : (ts us : Terms) (k : ℕ) → KeepsLet arities [] k ts → Changed ts 1 us → KeepsLet arities [] k us
  unfolding Changed KeepsLet
  changed_let end us k h c = rw c h
  changed_let (t then ts) end k h c = absurd c
  changed_let (t then ts) (u then us) k h c = (c.0.keeps, rw (changed_none ts us c.1) h.1)

  first_right : (ts : Terms) (m : ℕ) (spots : List ℕ) → Firsts m spots → SitAll places ts spots → KeepsAll arities [] ts → FirstRight ts m
  unfolding FirstRight Firsts SitAll KeepsAll
  first_right end m spots f h g = tt
  first_right (t then ts) zero spots f h g = tt
  first_right (t then ts) (suc m) [] f h g = absurd h
  first_right (t then ts) (suc m) (s ∷ spots) f h g = (record { sits = rw f.0 at h.0; keeps = g.0 }, first_right ts m spots f.1 h.1 g.1)

  first_let : (ts : Terms) (k : ℕ) (spots : List ℕ) → Firsts 1 spots → SitAll places ts spots → KeepsLet arities [] k ts → FirstRight ts 1
  unfolding FirstRight Firsts SitAll KeepsLet
  first_let end k spots f h g = tt
  first_let (t then ts) k [] f h g = absurd h
  first_let (t then end) k (s ∷ spots) f h g = (record { sits = rw f.0 at h.0; keeps = g.0 }, tt)
  first_let (t then (u then ts)) k (s ∷ spots) f h g = (record { sits = rw f.0 at h.0; keeps = g.0 }, tt)

  -- a right term: what is gone into is right, and the whole stays right with other right terms there
  record Entry (tag n k : ℕ) (ts : Terms) : Type 0 where
    first : FirstRight ts (entered tag ts)
    again : (us : Terms) → Changed ts (entered tag ts) us → Right places arities (node tag n k us)

  entry : (tag n k : ℕ) (ts : Terms) → Right places arities (node tag n k ts) → Entry tag n k ts
  unfolding Sits Keeps
  entry tag n k ts r =
      let w = r.sits.0 in
      let c = no_clause places tag w.tag_there in
      let f = firsts_entered tag n ts (below places spot_expression tag outside_expression w.tag_there) c in
      elim (true_or_false (eqb tag tag_let)) [
        | inl l ↦
            let m = entered_let tag ts (eqb-true tag tag_let l) in
            let g : KeepsLet arities [] k ts = rw l at r.keeps.1 in
            record {
              first = rw m (first_let ts k (spots_under spot_expression tag n) (rw m at f) r.sits.1 g);
              again = λ us h. record {
                sits = (w, changed_sits ts (entered tag ts) us (spots_under spot_expression tag n) f r.sits.1 h);
                keeps = (r.keeps.0, rw l (changed_let ts us k g (rw m at h)));
              };
            }
        | inr l ↦
            let g : KeepsAll arities [] ts = rw (l, c) at r.keeps.1 in
            record {
              first = first_right ts (entered tag ts) (spots_under spot_expression tag n) f r.sits.1 g;
              again = λ us h. record {
                sits = (w, changed_sits ts (entered tag ts) us (spots_under spot_expression tag n) f r.sits.1 h);
                keeps = (r.keeps.0, rw (l, c) (changed_keeps ts (entered tag ts) us g h));
              };
            }
      ]

  -- what is worked on is right
  mutual
    unfolding working working_in FirstRight

    pub working_right : (t : Term) → Right places arities t → Right places arities (working t)
    working_right (int x) r = r
    working_right (node tag n k ts) r = working_in_right ts (entered tag ts) (node tag n k ts) (entry tag n k ts r).first r

    working_in_right : (ts : Terms) (m : ℕ) (whole : Term) → FirstRight ts m → Right places arities whole → Right places arities (working_in ts m whole)
    working_in_right end m whole f r = r
    working_in_right (t then ts) zero whole f r = r
    working_in_right (t then ts) (suc m) whole f r = elim (true_or_false (is_value t)) [
      | inl e ↦ rw (working_past t ts m whole e) (working_in_right ts m whole f.1 r)
      | inr e ↦ rw (working_into t ts m whole e) (working_right t f.0)
    ]

  -- the whole stays right when something right is put in the working place
  mutual
    unfolding replaced replaced_in FirstRight Changed

    pub replaced_right : (t new : Term) → Right places arities new → Right places arities t → Right places arities (replaced t new)
    replaced_right (int x) new w r = w
    replaced_right (node tag n k ts) new w r = elim (true_or_false (ready ts (entered tag ts))) [
      | inl e ↦ rw (replaced_whole tag n k ts new e) w
      | inr e ↦ let i = entry tag n k ts r in rw (replaced_part tag n k ts new e) (i.again _ (replaced_in_changed ts (entered tag ts) new w i.first))
    ]

    replaced_in_changed : (ts : Terms) (m : ℕ) (new : Term) → Right places arities new → FirstRight ts m → Changed ts m (replaced_in ts m new)
    replaced_in_changed end m new w f = refl
    replaced_in_changed (t then ts) zero new w f = refl
    replaced_in_changed (t then ts) (suc m) new w f = elim (true_or_false (is_value t)) [
      | inl e ↦ rw (replaced_past t ts m new e) (f.0, replaced_in_changed ts m new w f.1)
      | inr e ↦ rw (replaced_into t ts m new e) (replaced_right t new w f.0, changed_same ts m f.1)
    ]

-- what is worked on in a term that is no value: a term that is none, and whose children that are gone into are values
unfoldable pub Ready : Term → Type 0
Ready (int x) = ⊥
Ready (node tag n k ts) = (is_value (node tag n k ts) ≡ false) × (ready ts (entered tag ts) ≡ true)

mutual
  unfolding working working_in ready Ready is_value

  pub working_ready : (t : Term) → is_value t ≡ false → Ready (working t)
  working_ready (int x) e = true_not_false refl e
  working_ready (node tag n k ts) e = working_in_ready ts (entered tag ts) (node tag n k ts) (λ r. (e, r))

  working_in_ready : (ts : Terms) (m : ℕ) (whole : Term) → (ready ts m ≡ true → Ready whole) → Ready (working_in ts m whole)
  working_in_ready end m whole f = f refl
  working_in_ready (t then ts) zero whole f = f refl
  working_in_ready (t then ts) (suc m) whole f = elim (true_or_false (is_value t)) [
    | inl e ↦ rw (working_past t ts m whole e) (working_in_ready ts m whole (λ r. f (ready_past t ts m e ∙ r)))
    | inr e ↦ rw (working_into t ts m whole e) (working_ready t e)
  ]

-- a pid in the working place stands in the whole
mutual
  unfolding working working_in PidIn PidAmong

  pub working_pid : (q : ℕ) (t : Term) → PidIn q (working t) → PidIn q t
  working_pid q (int x) p = p
  working_pid q (node tag n k ts) p = elim (working_in_pid q ts (entered tag ts) (node tag n k ts) p) [ inl a ↦ a | inr a ↦ inr a ]

  working_in_pid : (q : ℕ) (ts : Terms) (m : ℕ) (whole : Term) → PidIn q (working_in ts m whole) → PidIn q whole ⊎ PidAmong q ts
  working_in_pid q end m whole p = inl p
  working_in_pid q (t then ts) zero whole p = inl p
  working_in_pid q (t then ts) (suc m) whole p = elim (true_or_false (is_value t)) [
    | inl e ↦ elim (working_in_pid q ts m whole (rw (working_past t ts m whole e) at p)) [ inl a ↦ inl a | inr a ↦ inr (inr a) ]
    | inr e ↦ inr (inl (working_pid q t (rw (working_into t ts m whole e) at p)))
  ]

-- a pid in the whole with something else in the working place stood in the whole or stands in that
mutual
  unfolding replaced replaced_in PidIn PidAmong

  pub replaced_pid : (q : ℕ) (t new : Term) → PidIn q (replaced t new) → PidIn q t ⊎ PidIn q new
  replaced_pid q (int x) new p = inr p
  replaced_pid q (node tag n k ts) new p = elim (true_or_false (ready ts (entered tag ts))) [
    | inl e ↦ inr (rw (replaced_whole tag n k ts new e) at p)
    | inr e ↦ below_pid (rw (replaced_part tag n k ts new e) at p) (λ among. replaced_in_pid q ts (entered tag ts) new among)
  ]
    where
      below_pid : PidIn q (node tag n k (replaced_in ts (entered tag ts) new)) → (PidAmong q (replaced_in ts (entered tag ts) new) → PidAmong q ts ⊎ PidIn q new) → PidIn q (node tag n k ts) ⊎ PidIn q new
      below_pid (inl own) f = inl (inl own)
      below_pid (inr among) f = elim (f among) [ inl a ↦ inl (inr a) | inr a ↦ inr a ]

  replaced_in_pid : (q : ℕ) (ts : Terms) (m : ℕ) (new : Term) → PidAmong q (replaced_in ts m new) → PidAmong q ts ⊎ PidIn q new
  replaced_in_pid q end m new p = absurd p
  replaced_in_pid q (t then ts) zero new p = inl p
  replaced_in_pid q (t then ts) (suc m) new p = elim (true_or_false (is_value t)) [
    | inl e ↦ past_pid (rw (replaced_past t ts m new e) at p) (λ among. replaced_in_pid q ts m new among)
    | inr e ↦ into_pid (rw (replaced_into t ts m new e) at p) (λ own. replaced_pid q t new own)
  ]
    where
      past_pid : PidAmong q (t then replaced_in ts m new) → (PidAmong q (replaced_in ts m new) → PidAmong q ts ⊎ PidIn q new) → PidAmong q (t then ts) ⊎ PidIn q new
      past_pid (inl a) f = inl (inl a)
      past_pid (inr a) f = elim (f a) [ inl b ↦ inl (inr b) | inr b ↦ inr b ]

      into_pid : PidAmong q (replaced t new then ts) → (PidIn q (replaced t new) → PidIn q t ⊎ PidIn q new) → PidAmong q (t then ts) ⊎ PidIn q new
      into_pid (inl a) f = elim (f a) [ inl b ↦ inl (inl b) | inr b ↦ inr b ]
      into_pid (inr a) f = inl (inr a)

-- the working place is no longer than the whole
mutual
  unfolding working working_in words words_of

  pub working_size : (t : Term) → length (words (working t)) ≤ length (words t)
  working_size (int x) = omega arith
  working_size (node tag n k ts) = working_in_size ts (entered tag ts) (node tag n k ts) (suc (length (words_of ts))) (omega arith) (omega arith)

  working_in_size : (ts : Terms) (m : ℕ) (whole : Term) (most : ℕ) → length (words whole) ≤ most → length (words_of ts) ≤ most → length (words (working_in ts m whole)) ≤ most
  working_in_size end m whole most a b = a
  working_in_size (t then ts) zero whole most a b = a
  working_in_size (t then ts) (suc m) whole most a b =
      let l = length-append (words t) (words_of ts) in
      elim (true_or_false (is_value t)) [
        | inl e ↦ rw (working_past t ts m whole e) (working_in_size ts m whole most a (omega arith))
        | inr e ↦ rw (working_into t ts m whole e) (let i = working_size t in omega arith)
      ]

-- one word in the working place: the whole does not grow
mutual
  unfolding replaced replaced_in words words_of

  pub replaced_size : (t new : Term) → length (words new) ≤ 1 → length (words (replaced t new)) ≤ length (words t)
  replaced_size (int x) new b = omega arith
  replaced_size (node tag n k ts) new b = elim (true_or_false (ready ts (entered tag ts))) [
    | inl e ↦ rw (replaced_whole tag n k ts new e) (omega arith)
    | inr e ↦ rw (replaced_part tag n k ts new e) (let i = replaced_in_size ts (entered tag ts) new b in omega arith)
  ]

  replaced_in_size : (ts : Terms) (m : ℕ) (new : Term) → length (words new) ≤ 1 → length (words_of (replaced_in ts m new)) ≤ length (words_of ts)
  replaced_in_size end m new b = omega arith
  replaced_in_size (t then ts) zero new b = omega arith
  replaced_in_size (t then ts) (suc m) new b =
      let l = length-append (words t) (words_of ts) in
      elim (true_or_false (is_value t)) [
        | inl e ↦ rw (replaced_past t ts m new e) (let i = replaced_in_size ts m new b in let j = length-append (words t) (words_of (replaced_in ts m new)) in omega arith)
        | inr e ↦ rw (replaced_into t ts m new e) (let i = replaced_size t new b in let j = length-append (words (replaced t new)) (words_of ts) in omega arith)
      ]
