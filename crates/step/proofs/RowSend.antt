-- Laws of a send of a whole control.
use Prim.Native.Nat.{ℕ, ◌+◌, ◌-◌}
use mathlib.Core.Path.{◌≡◌, refl, sym, ap, ap₂, ◌∙◌, subst}
use mathlib.Core.Bool.{Bool, true, false}
use mathlib.Core.List.{List}
use native.Mathlib.Omega.{arith}
use lib.Dec.{eqb}
use lib.ListN.{length, drop, take, replicate}
use lib.Seq.{take-append_seam}
use Rattle.term.specs.Words.{tag_variable, tag_send}
use Rattle.term.specs.Rows.{passed}
use Rattle.term.specs.Tree.{Term, Terms, int, node, end, ◌then◌, words}
use Rattle.term.specs.Read.{terms_of}
use Rattle.machine.specs.Match.{unbound}
use Rattle.machine.specs.Bind.{bind, bind_all}
use Rattle.machine.specs.Place.{working}
use Rattle.machine.specs.Work.{to_send, next, work}
use Rattle.row_laws.specs.Rows.{Stands}
use Rattle.std.specs.Prelude.{None}
use Rattle.copying.specs.Places.{Finds, PlaceIs}
use Rattle.copying.specs.Copies.{Wrote}
use Rattle.copying.specs.Nexts.{row_with, Puts, PutsCopy}
use Rattle.step.specs.Steps.{Next, fitted_of}
use Rattle.step.specs.Controls.{ControlIs}
use Rattle.step.specs.Becomes.{Sent, SendNext}
use Rattle.step.specs.declared.control.Extent.{Extent}
use Rattle.row_laws.proofs.RowTerms.{one_skip, plain_whole}
use Rattle.choosing.proofs.RowClause.{nothing_bound}
use Rattle.step.proofs.RowStep.{children_at, first_stands, others_plain, others_on, wrote_next}
use Rattle.step.proofs.RowTags.{Comes, comes}
use Rattle.step.proofs.RowBecomes.{stands_there, row_is, is_done}

-- the send at the working place of a control that is about to send
pub record SendAt (c : List ℕ) (at : ℕ) (t : Term) (value row : List ℕ) : Type 0 where
  pub n : ℕ
  pub k : ℕ
  pub target : Term
  pub sent : Term
  pub stands : Stands c at (node tag_send n k (target then (sent then end)))
  pub rows : (u : Term) → row_with c at (node tag_send n k (target then (sent then end))) (words u) ≡ next t u
  pub value_is : words sent ≡ value
  pub row_is_next : next t sent ≡ row

module _ (c : List ℕ) (at : ℕ) (f : Finds c 0 1 (length c) at) (module' : List ℕ) (t : Term) (target : ℕ) (value row : List ℕ) (i : ControlIs (terms_of module') c t) (e : work module' c ≡ to_send target value row) where
  pub send_at : SendAt c at t value row
  unfolding Comes
  send_at =
      let k = comes module' c t (to_send target value row) i e in
      let y = k.0.no_value in
      let x = k.0.redex in
      let p = x.of_send k.0.tag_is in
      let w : working t ≡ node tag_send x.n x.k (p.one then (p.two then end)) = x.is ∙ ap₂ (λ (j : ℕ) (us : Terms). node j x.n x.k us) k.0.tag_is p.are in
      let z = k.1 p in
      record {
        n = x.n;
        k = x.k;
        target = p.one;
        sent = p.two;
        stands = subst (Stands c at) w (stands_there c at f (terms_of module') t i y);
        rows = λ u. ap (λ (s : Term). row_with c at s (words u)) (sym w) ∙ row_is c at f (terms_of module') t i y u;
        value_is = z.0;
        row_is_next = z.1;
      }

  -- its value, after the target
  pub sent_stands : (from : ℕ) → from ≡ at + 1 + passed (drop (at + 1) c) 1 → (s : SendAt c at t value row) → Stands c from s.sent
  sent_stands from ef s =
      let q = children_at c at tag_send s.n s.k (s.target then (s.sent then end)) s.stands in
      first_stands c from s.sent end q.rest (others_plain s.target (s.sent then end) q.plain) (others_on c (at + 1) from s.target (s.sent then end) q.rest q.plain q.on ef)

unbound_node : (tag n k : ℕ) (ts : Terms) → bind_all unbound ts ≡ ts → bind unbound (node tag n k ts) ≡ node tag n k ts
unfolding bind
unbound_node tag n k ts h = go (eqb tag tag_variable)
  where
    go : (b : Bool) → ◌≡◌ {A = Term} (elim b [ true ↦ node tag n k ts | false ↦ node tag n k (bind_all unbound ts) ]) (node tag n k ts)
    go true = refl
    go false = ap (node tag n k) h

mutual
  unfolding bind bind_all

  bind_nothing : (t : Term) → bind unbound t ≡ t
  bind_nothing (int x) = refl
  bind_nothing (node tag n k ts) = unbound_node tag n k ts (bind_nothings ts)

  bind_nothings : (ts : Terms) → bind_all unbound ts ≡ ts
  bind_nothings end = refl
  bind_nothings (t then ts) = ap₂ (λ (u : Term) (us : Terms). u then us) (bind_nothing t) (bind_nothings ts)

pub sent_past : (c : List ℕ) (r : Extent) → PlaceIs c None → Sent c r
unfolding Sent Comes
sent_past c r p module' t target value row i e = absurd (is_done c p (terms_of module') t i (comes module' c t (to_send target value row) i e).0.no_value)

pub sending_past : (c old : List ℕ) (r : Next) → PlaceIs c None → SendNext c old old r
unfolding SendNext Comes
sending_past c old r p module' t target value row i e = absurd (is_done c p (terms_of module') t i (comes module' c t (to_send target value row) i e).0.no_value)

module _ (c : List ℕ) (at : ℕ) (f : Finds c 0 1 (length c) at) where
  pub sent_is : (r : Extent) → r.from ≡ at + 1 + passed (drop (at + 1) c) 1 → r.to ≡ r.from + passed (drop r.from c) 1 → Sent c r
  unfolding Sent
  sent_is r ef et module' t target value row i e =
      let s = send_at c at f module' t target value row i e in
      let v = sent_stands c at f module' t target value row i e r.from ef s in
      let q = one_skip c r.from r.to s.sent v.rest et (plain_whole s.sent v.plain) v.here in
      let d : r.to - r.from ≡ length (words s.sent) = omega (arith, q) in
      ap₂ (λ (n : ℕ) (l : List ℕ). take n l) d v.here ∙ take-append_seam (words s.sent) v.rest ∙ s.value_is

  pub sending_written : (old new : List ℕ) (from p : ℕ) (r : Next) → from ≡ at + 1 + passed (drop (at + 1) c) 1 → PutsCopy c at c from c (replicate 64 0) old new p → r ≡ fitted_of p (length old) → SendNext c old new r
  unfolding SendNext PutsCopy Puts
  sending_written old new from p r ef w er module' t target value row i e =
      let s = send_at c at f module' t target value row i e in
      let v = sent_stands c at f module' t target value row i e from ef s in
      let row_of : row_with c at (node tag_send s.n s.k (s.target then (s.sent then end))) (words (bind unbound s.sent)) ≡ row =
      ap (λ (u : Term). row_with c at (node tag_send s.n s.k (s.target then (s.sent then end))) (words u)) (bind_nothing s.sent) ∙ s.rows s.sent ∙ s.row_is_next in
      wrote_next row old new p r (subst (λ (l : List ℕ). Wrote l 0 old new p) row_of (w s.sent unbound v (nothing_bound c 64) _ s.stands)) er
