-- The words of a control are those before its working place, those of the term there, and those after; with another term there, that one's
-- words stand between.
use Prim.Native.Nat.{ℕ, zero, suc, ◌+◌}
use mathlib.Core.Path.{◌≡◌, refl, sym, ap, ap₂, ◌∙◌, subst}
use mathlib.Core.Logic.{◌⊎◌, inl, inr}
use mathlib.Core.Bool.{true, false}
use mathlib.Core.List.{List, [], ◌∷◌, ◌++◌, append_assoc, append-nil}
use native.Mathlib.Omega.{arith}
use lib.ListN.{length, drop, take, length-append}
use lib.Seq.{drop-append_seam, take-append_seam, drop-drop}
use Rattle.lists.proofs.Tests.{true_or_false, true_not_false, cond_true, cond_false}
use Rattle.term.specs.Words.{word}
use Rattle.term.specs.Tree.{Term, Terms, int, node, end, ◌then◌, words, words_of}
use Rattle.term.specs.Value.{is_value}
use Rattle.machine.specs.Place.{entered, working, working_in, ready, replaced, replaced_in}
use Rattle.machine.proofs.PlaceLaws.{working_past, working_into, ready_past, ready_into, replaced_past, replaced_into, replaced_whole, replaced_part}
use Rattle.row_laws.specs.Rows.{Stands, Plain, PlainAll}
use Rattle.copying.specs.Places.{place_of, place_among}
use Rattle.copying.specs.Nexts.{row_with}

-- ---- the definitions, by their tests
place_past : (t : Term) (ts : Terms) (m here at : ℕ) → is_value t ≡ true → place_among (t then ts) (suc m) here at ≡ place_among ts m here (at + length (words t))
unfolding place_among
place_past t ts m here at v = cond_true _ _ v

place_in : (t : Term) (ts : Terms) (m here at : ℕ) → is_value t ≡ false → place_among (t then ts) (suc m) here at ≡ place_of t at
unfolding place_among
place_in t ts m here at v = cond_false _ _ v

-- where the children that may be gone into are values, the whole is worked on
ready_self : (ts : Terms) (m : ℕ) (self : Term) (here at : ℕ) → ready ts m ≡ true → (working_in ts m self ≡ self) × (place_among ts m here at ≡ here)
unfolding ready working_in place_among
ready_self end m self here at r = (refl, refl)
ready_self (t then ts) zero self here at r = (refl, refl)
ready_self (t then ts) (suc m) self here at r = go (true_or_false (is_value t)) (λ q. ready_self ts m self here (at + length (words t)) q)
  where
    go : (is_value t ≡ true) ⊎ (is_value t ≡ false) → (ready ts m ≡ true → (working_in ts m self ≡ self) × (place_among ts m here (at + length (words t)) ≡ here))
        → (working_in (t then ts) (suc m) self ≡ self) × (place_among (t then ts) (suc m) here at ≡ here)
    go (inl v) ih = let q = ih (sym (ready_past t ts m v) ∙ r) in (working_past t ts m self v ∙ q.0, place_past t ts m here at v ∙ q.1)
    go (inr v) ih = true_not_false r (ready_into t ts m v)

-- ---- the split
pub record Splits (whole : List ℕ) (part : Term) (changed-to : Term → List ℕ) (at place : ℕ) : Type 0 where
  pub pre : List ℕ
  pub post : List ℕ
  pub is : whole ≡ pre ++ (words part ++ post)
  pub changed : (new : Term) → changed-to new ≡ pre ++ (words new ++ post)
  pub here : place ≡ at + length pre

after_words : (ws whole : List ℕ) (part : Term) (f : Term → List ℕ) (at place : ℕ) → Splits whole part f (at + length ws) place → Splits (ws ++ whole) part (λ t. ws ++ f t) at place
after_words ws whole part f at place s =
    record {
      pre = ws ++ s.pre;
      post = s.post;
      is = ap (λ (l : List ℕ). ws ++ l) s.is ∙ sym (append_assoc ws s.pre (words part ++ s.post));
      changed = λ new. ap (λ (l : List ℕ). ws ++ l) (s.changed new) ∙ sym (append_assoc ws s.pre (words new ++ s.post));
      here = omega (arith, s.here, length-append ws s.pre);
    }

before_words : (ws whole : List ℕ) (part : Term) (f : Term → List ℕ) (at place : ℕ) → Splits whole part f at place → Splits (whole ++ ws) part (λ t. f t ++ ws) at place
before_words ws whole part f at place s =
    record {
      pre = s.pre;
      post = s.post ++ ws;
      is = ap (λ (l : List ℕ). l ++ ws) s.is ∙ regroup s.pre (words part) s.post;
      changed = λ new. ap (λ (l : List ℕ). l ++ ws) (s.changed new) ∙ regroup s.pre (words new) s.post;
      here = s.here;
    }
  where
    regroup : (a b d : List ℕ) → (a ++ (b ++ d)) ++ ws ≡ a ++ (b ++ (d ++ ws))
    regroup a b d = append_assoc a (b ++ d) ws ∙ ap (λ (l : List ℕ). a ++ l) (append_assoc b d ws)

renamed : (whole whole' : List ℕ) (part part' : Term) (f f' : Term → List ℕ) (at place place' : ℕ) → whole ≡ whole' → part ≡ part' → ((new : Term) → f new ≡ f' new) → place ≡ place'
    → Splits whole' part' f' at place' → Splits whole part f at place
renamed whole whole' part part' f f' at place place' a b d e s =
    record { pre = s.pre; post = s.post; is = a ∙ s.is ∙ ap (λ (t : Term). s.pre ++ (words t ++ s.post)) (sym b); changed = λ new. d new ∙ s.changed new; here = e ∙ s.here }

node_words : (tag n k : ℕ) (ts : Terms) → words (node tag n k ts) ≡ (word tag n k ∷ []) ++ words_of ts
unfolding words
node_words tag n k ts = refl

then_words : (t : Term) (ts : Terms) → words_of (t then ts) ≡ words t ++ words_of ts
unfolding words_of
then_words t ts = refl

working_node : (tag n k : ℕ) (ts : Terms) → working (node tag n k ts) ≡ working_in ts (entered tag ts) (node tag n k ts)
unfolding working
working_node tag n k ts = refl

place_node : (tag n k : ℕ) (ts : Terms) (at : ℕ) → place_of (node tag n k ts) at ≡ place_among ts (entered tag ts) at (at + 1)
unfolding place_of
place_node tag n k ts at = refl

headed : (tag n k : ℕ) (us : Terms) (at : ℕ) → (ready us (entered tag us) ≡ true) ⊎ (ready us (entered tag us) ≡ false)
    → (ready us (entered tag us) ≡ false → Splits (words_of us) (working_in us (entered tag us) (node tag n k us)) (λ new. words_of (replaced_in us (entered tag us) new)) (at + 1) (place_among us (entered tag us) at (at + 1)))
    → Splits (words (node tag n k us)) (working (node tag n k us)) (λ new. words (replaced (node tag n k us) new)) at (place_of (node tag n k us) at)
headed tag n k us at (inl r) f =
    let q = ready_self us (entered tag us) (node tag n k us) at (at + 1) r in
    renamed _ _ _ _ _ _ at _ _ refl (working_node tag n k us ∙ q.0) (λ new. ap words (replaced_whole tag n k us new r)) (place_node tag n k us at ∙ q.1)
    (record { pre = []; post = []; is = sym (append-nil (words (node tag n k us))); changed = λ new. sym (append-nil (words new)); here = omega arith })
headed tag n k us at (inr r) f =
    renamed _ _ _ _ _ _ at _ _ (node_words tag n k us) (working_node tag n k us) (λ new. ap words (replaced_part tag n k us new r) ∙ node_words tag n k (replaced_in us (entered tag us) new)) (place_node tag n k us at)
    (after_words (word tag n k ∷ []) (words_of us) (working_in us (entered tag us) (node tag n k us)) (λ new. words_of (replaced_in us (entered tag us) new)) at (place_among us (entered tag us) at (at + 1)) (f r))

more : (t : Term) (ts : Terms) (m : ℕ) (self : Term) (here at : ℕ) → (is_value t ≡ true) ⊎ (is_value t ≡ false) → ready (t then ts) (suc m) ≡ false
    → (ready ts m ≡ false → Splits (words_of ts) (working_in ts m self) (λ new. words_of (replaced_in ts m new)) (at + length (words t)) (place_among ts m here (at + length (words t))))
    → Splits (words t) (working t) (λ new. words (replaced t new)) at (place_of t at)
    → Splits (words_of (t then ts)) (working_in (t then ts) (suc m) self) (λ new. words_of (replaced_in (t then ts) (suc m) new)) at (place_among (t then ts) (suc m) here at)
more t ts m self here at (inl v) r f s =
    renamed _ _ _ _ _ _ at _ _ (then_words t ts) (working_past t ts m self v) (λ new. ap words_of (replaced_past t ts m new v) ∙ then_words t (replaced_in ts m new)) (place_past t ts m here at v)
    (after_words (words t) (words_of ts) (working_in ts m self) (λ new. words_of (replaced_in ts m new)) at _ (f (sym (ready_past t ts m v) ∙ r)))
more t ts m self here at (inr v) r f s =
    renamed _ _ _ _ _ _ at _ _ (then_words t ts) (working_into t ts m self v) (λ new. ap words_of (replaced_into t ts m new v) ∙ then_words (replaced t new) ts) (place_in t ts m here at v)
    (before_words (words_of ts) (words t) (working t) (λ new. words (replaced t new)) at _ s)

mutual
  unfolding working replaced ready place_of words

  pub splits : (t : Term) (at : ℕ) → Splits (words t) (working t) (λ new. words (replaced t new)) at (place_of t at)
  splits (int x) at = record { pre = []; post = []; is = refl; changed = λ new. sym (append-nil (words new)); here = omega arith }
  splits (node tag n k us) at = headed tag n k us at (true_or_false (ready us (entered tag us))) (λ r. splits_in us (entered tag us) (node tag n k us) at (at + 1) r)

  splits_in : (ts : Terms) (m : ℕ) (self : Term) (here at : ℕ) → ready ts m ≡ false → Splits (words_of ts) (working_in ts m self) (λ new. words_of (replaced_in ts m new)) at (place_among ts m here at)
  splits_in end m self here at r = true_not_false refl r
  splits_in (t then ts) zero self here at r = true_not_false refl r
  splits_in (t then ts) (suc m) self here at r = more t ts m self here at (true_or_false (is_value t)) r (λ q. splits_in ts m self here (at + length (words t)) q) (splits t at)

-- ---- the term that is worked on is plain where the whole is
plain_more : (t : Term) (ts : Terms) (m : ℕ) (whole : Term) → (is_value t ≡ true) ⊎ (is_value t ≡ false) → Plain (working_in ts m whole) → Plain (working t) → Plain (working_in (t then ts) (suc m) whole)
plain_more t ts m whole (inl v) a b = subst Plain (sym (working_past t ts m whole v)) a
plain_more t ts m whole (inr v) a b = subst Plain (sym (working_into t ts m whole v)) b

mutual
  unfolding working working_in Plain PlainAll

  pub plain_working : (t : Term) → Plain t → Plain (working t)
  plain_working (int x) p = p
  plain_working (node tag n k ts) p = plain_working_in ts (entered tag ts) (node tag n k ts) p.2 p

  plain_working_in : (ts : Terms) (m : ℕ) (whole : Term) → PlainAll ts → Plain whole → Plain (working_in ts m whole)
  plain_working_in end m whole p w = w
  plain_working_in (t then ts) zero whole p w = w
  plain_working_in (t then ts) (suc m) whole p w = plain_more t ts m whole (true_or_false (is_value t)) (plain_working_in ts m whole p.1 w) (plain_working t p.0)

-- ---- in the row of a control
pub working_stands : (t : Term) (c : List ℕ) → words t ≡ c → Plain t → Stands c (place_of t 0) (working t)
working_stands t c e p =
    let s = splits t 0 in
    let at : place_of t 0 ≡ length s.pre = omega (arith, s.here) in
    record { plain = plain_working t p; rest = s.post; here = ap₂ (λ (j : ℕ) (l : List ℕ). drop j l) at (sym e ∙ s.is) ∙ drop-append_seam s.pre (words (working t) ++ s.post) }

pub row_replaced : (t : Term) (c : List ℕ) (new : Term) → words t ≡ c → row_with c (place_of t 0) (working t) (words new) ≡ words (replaced t new)
unfolding row_with
row_replaced t c new e =
    let s = splits t 0 in
    let at : place_of t 0 ≡ length s.pre = omega (arith, s.here) in
    let front : take (place_of t 0) c ≡ s.pre = ap₂ (λ (j : ℕ) (l : List ℕ). take j l) at (sym e ∙ s.is) ∙ take-append_seam s.pre (words (working t) ++ s.post) in
    let back : drop (place_of t 0 + length (words (working t))) c ≡ s.post =
    sym (drop-drop (length (words (working t))) (place_of t 0) c)
    ∙ ap (drop (length (words (working t)))) (ap₂ (λ (j : ℕ) (l : List ℕ). drop j l) at (sym e ∙ s.is) ∙ drop-append_seam s.pre (words (working t) ++ s.post))
    ∙ drop-append_seam (words (working t)) s.post in
    ap₂ (λ (l r : List ℕ). l ++ (words new ++ r)) front back ∙ sym (s.changed new)
