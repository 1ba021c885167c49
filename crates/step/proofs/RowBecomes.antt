-- Laws of what a control becomes.
use Prim.Native.Nat.{ℕ}
use mathlib.Core.Path.{◌≡◌, sym, ap, ◌∙◌, subst}
use mathlib.Core.Bool.{false}
use mathlib.Core.Option.{Option as Maybe, none, some}
use mathlib.Core.List.{List, [], ◌∷◌, append-nil}
use native.Mathlib.Omega.{arith}
use lib.ListN.{length}
use Rattle.std.specs.Prelude.{Option, Some, None, Ok, Err, ok_or}
use Rattle.lists.proofs.Tests.{cond_false}
use Rattle.term.specs.Words.{tag_receive}
use Rattle.term.specs.Tree.{Term, Terms, node, words}
use Rattle.term.specs.Read.{terms_of}
use Rattle.term.specs.Value.{is_value}
use Rattle.machine.specs.Clauses.{first_clause}
use Rattle.machine.specs.Place.{working}
use Rattle.machine.specs.Work.{to_receive, next, next_some}
use Rattle.row_laws.specs.Rows.{Stands}
use Rattle.copying.specs.Places.{place_of, Finds, PlaceIs}
use Rattle.copying.specs.Copies.{Wrote}
use Rattle.copying.specs.Nexts.{row_with, Puts}
use Rattle.step.specs.Steps.{Next, fitted_of, WroteNext, NextIs, ReceiveNext}
use Rattle.step.specs.Controls.{ControlIs}
use Rattle.step.specs.Becomes.{ValueIs, RowIs, BecomesWord, Receives}
use Rattle.step.specs.declared.step.NoNext.{NoNext}
use Rattle.step.specs.declared.step.NoNext.TheVariants.{Nothing}
use Rattle.row_laws.proofs.RowTerms.{stands_within}
use Rattle.step.proofs.RowStep.{some_from, none_from, wrote_next}
use Rattle.step.proofs.RowSplit.{working_stands, row_replaced}
use Rattle.step.proofs.RowWork.{found_place}
use Rattle.step.proofs.RowTags.{Comes, comes}

module _ (c : List ℕ) (at : ℕ) (f : Finds c 0 1 (length c) at) (functions : Terms) (t : Term) (i : ControlIs functions c t) where
  -- a control that is no value has its working place where `find` leads
  pub place_is : is_value t ≡ false → at ≡ place_of t 0
  place_is v = found_place c at t f i.same_words i.plain ∙ cond_false (length c) (place_of t 0) v

  pub stands_there : is_value t ≡ false → Stands c at (working t)
  stands_there v = subst (λ (j : ℕ). Stands c j (working t)) (sym (place_is v)) (working_stands t c i.same_words i.plain)

  pub row_is : is_value t ≡ false → (u : Term) → row_with c at (working t) (words u) ≡ next t u
  unfolding next
  row_is v u = ap (λ (j : ℕ). row_with c j (working t) (words u)) (place_is v) ∙ row_replaced t c u i.same_words

-- what `ok_or` and `?` make of a control's working place
module _ (c : List ℕ) (o : Option ℕ) (p : PlaceIs c o) where
  pub place_some : (at : ℕ) → Ok at ≡ ok_or o Nothing → PlaceIs c (Some at)
  place_some at e = subst (PlaceIs c) (some_from o at e) p

  pub place_none : (e : NoNext) → Err e ≡ ok_or o Nothing → PlaceIs c None
  place_none e q = subst (PlaceIs c) (none_from o e q) p

-- where there is no working place, the control is a value
pub is_done : (c : List ℕ) → PlaceIs c None → (functions : Terms) (t : Term) → ControlIs functions c t → is_value t ≡ false → ⊥
is_done c p functions t i v = omega (arith, p.2, stands_within c p.0 (working t) (stands_there c p.0 p.1 functions t i v))

pub word_past : (c : List ℕ) (w : ℕ) (old : List ℕ) (r : Next) → PlaceIs c None → BecomesWord c w old old r
unfolding BecomesWord
word_past c w old r p functions t u i v e = absurd (is_done c p functions t i v)

module _ (c : List ℕ) (at : ℕ) (f : Finds c 0 1 (length c) at) where
  pub word_written : (w : ℕ) (old new : List ℕ) (m : ℕ) (r : Next) → Puts c at (w ∷ []) old new m → r ≡ fitted_of m (length old) → BecomesWord c w old new r
  unfolding BecomesWord Puts
  word_written w old new m r p e functions t u i v eu =
      let s = stands_there c at f functions t i v in
      let row : row_with c at (working t) (w ∷ []) ≡ next t u = ap (row_with c at (working t)) (sym eu) ∙ row_is c at f functions t i v u in
      wrote_next (next t u) old new m r (subst (λ (l : List ℕ). Wrote l 0 old new m) row (p (working t) s)) e

-- ---- receive
value_stands : (v : List ℕ) (u : Term) → ValueIs v u → Stands v 0 u
value_stands v u i = record { plain = i.plain; rest = []; here = sym i.same_words ∙ sym (append-nil (words u)) }

-- what was written in place of the working place, in the words of the whole
pub as_row_is : (c : List ℕ) (at : ℕ) (w whole : Term) (o : Maybe Term) (old new : List ℕ) (r : Next) → ((u : Term) → row_with c at w (words u) ≡ next whole u) → NextIs c at w o old new r → RowIs (next_some whole o) old new r
unfolding NextIs RowIs next_some
as_row_is c at w whole none old new r e h = h
as_row_is c at w whole (some u) old new r e h = subst (λ (l : List ℕ). WroteNext l old new r) (e u) h

pub receive_outside : (c v old : List ℕ) (r : Next) → PlaceIs c None → Receives c v old old r
unfolding Receives Comes
receive_outside c v old r p module' t u takes i vi e = absurd (is_done c p (terms_of module') t i (comes module' c t (to_receive takes) i e).0.no_value)

module _ (c : List ℕ) (at : ℕ) (f : Finds c 0 1 (length c) at) (v old : List ℕ) where
  pub receive_written : (new : List ℕ) (r : Next) → ReceiveNext c at v old new r → Receives c v old new r
  unfolding Receives ReceiveNext Comes
  receive_written new r g module' t u takes i vi e =
      let k = comes module' c t (to_receive takes) i e in
      let y = k.0.no_value in
      let x = k.0.redex in
      let w : working t ≡ node tag_receive x.n x.k x.children = x.is ∙ ap (λ (j : ℕ). node j x.n x.k x.children) k.0.tag_is in
      let s : Stands c at (node tag_receive x.n x.k x.children) = subst (Stands c at) w (stands_there c at f (terms_of module') t i y) in
      let p = x.of_receive k.0.tag_is in
      let nx = g x.n x.k x.children u s p.0 p.1 (value_stands v u vi) vi.value in
      let rows : (b : Term) → row_with c at (node tag_receive x.n x.k x.children) (words b) ≡ next t b = λ b. ap (λ (z : Term). row_with c at z (words b)) (sym w) ∙ row_is c at f (terms_of module') t i y b in
      let q = as_row_is c at _ t (first_clause u x.children) old new r rows nx in
      let tv : takes v ≡ next_some t (first_clause u x.children) = k.1 v ∙ ap (λ (z : Term). next_some t (first_clause z x.children)) vi.read_as in
      subst (λ (o : Maybe (List ℕ)). RowIs o old new r) (sym tv) q
