-- Links put one behind the other: what is listed stays listed, and what two parts list their whole lists.
use Prim.Native.Nat.{ℕ, ◌+◌, ◌≤◌, ◌<◌}
use mathlib.Core.Path.{ap, ◌≡◌, refl, sym, ◌∙◌, subst}
use mathlib.Core.Logic.{◌⊎◌, inl, inr}
use mathlib.Core.List.{List, [], ◌∷◌, ◌++◌}
use native.Mathlib.Decide.{ℕ_discrete, dec_lt}
use native.Mathlib.Omega.{arith}
use lib.ListN.{length, get_or, length-append}
use Rattle.std.proofs.Common.{add-zero}
use Rattle.std.proofs.lemmas.List.{get_or_append_left, get_or-append-add}
use Rattle.rules.specs.State.{State, history_at}
use Rattle.rules.specs.Depends.{Series}
use Rattle.reading.specs.Reads.{OfState}
use Rattle.cuts.specs.declared.events.Event.{Event}
use Rattle.cuts.specs.declared.link.Link.{Link}
use Rattle.cuts.specs.Links.{no_link, line_number, LinkAt, Says}
use Rattle.links.specs.Listed.{ByEntry, Below, AtPlace, BelowPlace, LinkedIn, Lists, Adds}

-- ---- one link behind

-- event a of line x
abbrev pub event_at : (x a : ℕ) → Event
event_at x a = record { line = x; index = a }

abbrev pub add_event : (l : List Link) (event on : Event) → List Link
add_event l event on = l ++ (record { event = event; on = on } ∷ [])

-- event a of line x on event b of line y
abbrev pub link_of : (x a y b : ℕ) → Link
link_of x a y b = record { event = event_at x a; on = event_at y b }

abbrev pub add_link : (l : List Link) (x a y b : ℕ) → List Link
add_link l x a y b = add_event l (event_at x a) (event_at y b)

module _ (l : List Link) (x a y b : ℕ) where
  pub add_long : length (add_link l x a y b) ≡ length l + 1
  add_long = length-append {A = Link} l (link_of x a y b ∷ [])

  pub add_same : (j : ℕ) → j < length l → get_or (add_link l x a y b) j no_link ≡ get_or l j no_link
  add_same j h = get_or_append_left l (link_of x a y b ∷ []) no_link j h

  add_here : get_or (add_link l x a y b) (length l) no_link ≡ link_of x a y b
  add_here = subst (λ (z : ℕ). get_or (add_link l x a y b) z no_link ≡ link_of x a y b) (add-zero (length l)) (get_or-append-add l (link_of x a y b ∷ []) 0 no_link)

  pub add_link_lem : {v w : Series} {c d : ℕ} → line_number v ≡ x → c ≡ a → line_number w ≡ y → d ≡ b → LinkAt (add_link l x a y b) (length l) v c w d
  add_link_lem e f g h = record {
    from_line_lem = ap (λ z. z.event.line) add_here ∙ sym e;
    from_index_lem = ap (λ z. z.event.index) add_here ∙ sym f;
    on_line_lem = ap (λ z. z.on.line) add_here ∙ sym g;
    on_index_lem = ap (λ z. z.on.index) add_here ∙ sym h;
  }

-- ---- more links behind
module _ (l m : List Link) (n : ℕ) (same : (j : ℕ) → j < n → get_or m j no_link ≡ get_or l j no_link) where
  pub link_kept : {k : ℕ} {x y : Series} {a b : ℕ} → k < n → LinkAt l k x a y b → LinkAt m k x a y b
  link_kept {k} h at = record {
    from_line_lem = ap (λ z. z.event.line) (same k h) ∙ at.from_line_lem;
    from_index_lem = ap (λ z. z.event.index) (same k h) ∙ at.from_index_lem;
    on_line_lem = ap (λ z. z.on.line) (same k h) ∙ at.on_line_lem;
    on_index_lem = ap (λ z. z.on.index) (same k h) ∙ at.on_index_lem;
  }

  pub says_kept : {Of : Series → ℕ → Series → ℕ → Type 0} {k : ℕ} → k < n → Says Of l k → Says Of m k
  says_kept h says = record { from = says.from; first = says.first; on = says.on; second = says.second; is = link_kept h says.is; holds = says.holds }

  pub lists_kept : {Of : Series → ℕ → Series → ℕ → Type 0} {from : ℕ} → Lists Of l from n → Lists Of m from n
  lists_kept lists = record {
    each = λ k h g. says_kept g (lists.each k h g);
    all = λ x a y b o. let z = lists.all x a y b o in record { place = z.place; over = z.over; below = z.below; is = link_kept z.below z.is };
  }

-- another name for the same
pub lists_as : {A B : Series → ℕ → Series → ℕ → Type 0} {l : List Link} {from to : ℕ} → ((x : Series) (a : ℕ) (y : Series) (b : ℕ) → A x a y b → B x a y b) → ((x : Series) (a : ℕ) (y : Series) (b : ℕ) → B x a y b → A x a y b)
    → Lists A l from to → Lists B l from to
lists_as f g lists = record {
  each = λ k h i. let says = lists.each k h i in record { from = says.from; first = says.first; on = says.on; second = says.second; is = says.is; holds = f _ _ _ _ says.holds };
  all = λ x a y b o. lists.all x a y b (g x a y b o);
}

lists_join : {A B C : Series → ℕ → Series → ℕ → Type 0} {l : List Link} {from n to : ℕ} → ((x : Series) (a : ℕ) (y : Series) (b : ℕ) → A x a y b → C x a y b) → ((x : Series) (a : ℕ) (y : Series) (b : ℕ) → B x a y b → C x a y b)
    → ((x : Series) (a : ℕ) (y : Series) (b : ℕ) → C x a y b → A x a y b ⊎ B x a y b) → from ≤ n → n ≤ to → Lists A l from n → Lists B l n to → Lists C l from to
lists_join {A} {B} {C} {l} {from} {n} {to} f g split low high p q = record { each = λ k h i. go k h i (dec_lt k n); all = λ x a y b o. whole x a y b (split x a y b o) }
  where
    go : (k : ℕ) → from ≤ k → k < to → Dec (k < n) → Says C l k
    go k h i (yes z) = let says = p.each k h z in record { from = says.from; first = says.first; on = says.on; second = says.second; is = says.is; holds = f _ _ _ _ says.holds }
    go k h i (no z) = let says = q.each k (omega (arith, z)) i in record { from = says.from; first = says.first; on = says.on; second = says.second; is = says.is; holds = g _ _ _ _ says.holds }

    whole : (x : Series) (a : ℕ) (y : Series) (b : ℕ) → A x a y b ⊎ B x a y b → LinkedIn l from to x a y b
    whole x a y b (inl o) = let z = p.all x a y b o in record { place = z.place; over = z.over; below = omega (arith, z.below, high); is = z.is }
    whole x a y b (inr o) = let z = q.all x a y b o in record { place = z.place; over = omega (arith, z.over, low); below = z.below; is = z.is }

-- ---- none, one, two
pub adds_none : {store : List ℕ} {l : List Link} (Of : State → Series → ℕ → Series → ℕ → Type 0) (most : ℕ) → OfState store (λ s. (x : Series) (a : ℕ) (y : Series) (b : ℕ) → ¬ Of s x a y b) → Adds store Of l l most
unfolding OfState
adds_none Of most none = record {
  same = λ j h. refl;
  low = omega arith;
  high = omega arith;
  lists = λ s rest holds. record { each = λ k h i. absurd (omega (arith, h, i)); all = λ x a y b o. absurd (none s rest holds x a y b o) };
}

-- the numbers of two links are the same
pub record SameLink (v : Series) (c : ℕ) (w : Series) (d : ℕ) (x a y b : ℕ) : Type 0 where
  pub from_line_lem : line_number v ≡ x
  pub from_index_lem : c ≡ a
  pub on_line_lem : line_number w ≡ y
  pub on_index_lem : d ≡ b

pub record One (Of : Series → ℕ → Series → ℕ → Type 0) (x a y b : ℕ) : Type 0 where
  pub v : Series
  pub c : ℕ
  pub w : Series
  pub d : ℕ
  pub holds : Of v c w d
  pub is : SameLink v c w d x a y b

pub record Just (Of : Series → ℕ → Series → ℕ → Type 0) (x a y b : ℕ) : Type 0 where
  pub one : One Of x a y b
  pub only : (v : Series) (c : ℕ) (w : Series) (d : ℕ) → Of v c w d → SameLink v c w d x a y b

pub record Two (Of : Series → ℕ → Series → ℕ → Type 0) (x a y b x' a' y' b' : ℕ) : Type 0 where
  pub one : One Of x a y b
  pub two : One Of x' a' y' b'
  pub only : (v : Series) (c : ℕ) (w : Series) (d : ℕ) → Of v c w d → SameLink v c w d x a y b ⊎ SameLink v c w d x' a' y' b'

module _ (l : List Link) (x a y b : ℕ) where
  put_said : {Of : Series → ℕ → Series → ℕ → Type 0} → One Of x a y b → Says Of (add_link l x a y b) (length l)
  put_said o = record { from = o.v; first = o.c; on = o.w; second = o.d; is = add_link_lem l x a y b o.is.from_line_lem o.is.from_index_lem o.is.on_line_lem o.is.on_index_lem; holds = o.holds }

  put_listed : {v w : Series} {c d : ℕ} → SameLink v c w d x a y b → LinkAt (add_link l x a y b) (length l) v c w d
  put_listed o = add_link_lem l x a y b o.from_line_lem o.from_index_lem o.on_line_lem o.on_index_lem

  pub adds_one : {store : List ℕ} (Of : State → Series → ℕ → Series → ℕ → Type 0) (most : ℕ) → 1 ≤ most → OfState store (λ s. Just (Of s) x a y b) → Adds store Of l (add_link l x a y b) most
  unfolding OfState
  adds_one Of most h just = record {
    same = add_same l x a y b;
    low = omega (arith, add_long l x a y b);
    high = omega (arith, h, add_long l x a y b);
    lists = λ s rest holds. record {
      each = λ k g i. let e : length l ≡ k = omega (arith, g, i, add_long l x a y b) in subst (Says (Of s) (add_link l x a y b)) e (put_said (just s rest holds).one);
      all = λ v c w d o. record { place = length l; over = omega arith; below = omega (arith, add_long l x a y b); is = put_listed ((just s rest holds).only v c w d o) };
    };
  }

module _ (l : List Link) (x a y b x' a' y' b' : ℕ) where
  abbrev first_put : List Link
  first_put = add_link l x a y b

  abbrev both_put : List Link
  both_put = add_link first_put x' a' y' b'

  pub adds_two : {store : List ℕ} (Of : State → Series → ℕ → Series → ℕ → Type 0) (most : ℕ) → 2 ≤ most → OfState store (λ s. Two (Of s) x a y b x' a' y' b') → Adds store Of l both_put most
  unfolding OfState
  adds_two Of most h two = record {
    same = λ j g. add_same first_put x' a' y' b' j (omega (arith, g, one-long)) ∙ add_same l x a y b j g;
    low = omega (arith, one-long, two-long);
    high = omega (arith, h, one-long, two-long);
    lists = λ s rest holds. record { each = λ k g i. go (two s rest holds) k g i (ℕ_discrete (length l) k); all = λ v c w d o. whole v c w d ((two s rest holds).only v c w d o) };
  }
    where
      one-long : length first_put ≡ length l + 1
      one-long = add_long l x a y b

      two-long : length both_put ≡ length first_put + 1
      two-long = add_long first_put x' a' y' b'

      go : {Of : Series → ℕ → Series → ℕ → Type 0} → Two Of x a y b x' a' y' b' → (k : ℕ) → length l ≤ k → k < length both_put → Dec (length l ≡ k) → Says Of both_put k
      go t k g i (yes e) = says_kept first_put _ (length first_put) (add_same first_put x' a' y' b') (omega (arith, e, one-long)) (subst (Says _ first_put) e (put_said l x a y b t.one))
      go t k g i (no n) = let e : length first_put ≡ k = omega (arith, g, i, n, one-long, two-long) in subst (Says _ both_put) e (put_said first_put x' a' y' b' t.two)

      whole : (v : Series) (c : ℕ) (w : Series) (d : ℕ) → SameLink v c w d x a y b ⊎ SameLink v c w d x' a' y' b' → LinkedIn both_put (length l) (length both_put) v c w d
      whole v c w d (inl o) = record {
        place = length l;
        over = omega arith;
        below = omega (arith, one-long, two-long);
        is = link_kept first_put _ (length first_put) (add_same first_put x' a' y' b') (omega (arith, one-long)) (put_listed l x a y b o);
      }
      whole v c w d (inr o) = record { place = length first_put; over = omega (arith, one-long); below = omega (arith, two-long); is = put_listed first_put x' a' y' b' o }

-- ---- entries one after the other
module _ (store : List ℕ) (F : ByEntry) (p : ℕ) where
  pub below_none : (l : List Link) → Adds store (Below F p 0) l l 0
  unfolding OfState Below
  below_none l = adds_none (Below F p 0) 0 (λ s rest holds x a y b (j, h, o). omega (arith, h))

  pub below_more : (l m r : List Link) (i d e : ℕ) → Adds store (Below F p i) l m d → Adds store (F p i) m r e → Adds store (Below F p (i + 1)) l r (d + e)
  unfolding OfState Below
  below_more l m r i d e u v = record {
    same = λ j h. v.same j (omega (arith, h, u.low)) ∙ u.same j h;
    low = omega (arith, u.low, v.low);
    high = omega (arith, u.high, v.high);
    lists = λ s rest holds. lists_join (λ x a y b (j, h, o). (j, omega (arith, h), o)) (λ x a y b o. (i, omega arith, o)) (λ x a y b (j, h, o). split s x a y b j h o) u.low v.low
        (lists_kept m r (length m) v.same (u.lists s rest holds)) (v.lists s rest holds);
  }
    where
      split : (s : State) (x : Series) (a : ℕ) (y : Series) (b : ℕ) (j : ℕ) → j < i + 1 → F p j s x a y b → ((k : ℕ) × (k < i) × F p k s x a y b) ⊎ F p i s x a y b
      split s x a y b j h o = elim (ℕ_discrete j i) [ yes e ↦ inr (subst (λ k. F p k s x a y b) e o) | no n ↦ inl (j, omega (arith, h, n), o) ]

  pub below_all : (l r : List Link) (i end d : ℕ) → ((s : State) (x : Series) (a : ℕ) (y : Series) (b j : ℕ) → F p j s x a y b → j < length (history_at s p)) → OfState store (λ s. end ≡ length (history_at s p)) → end ≤ i
      → Adds store (Below F p i) l r d → Adds store (AtPlace F p) l r d
  unfolding OfState Below AtPlace
  below_all l r i end d inside ends h u = record {
    same = u.same;
    low = u.low;
    high = u.high;
    lists = λ s rest holds. lists_as (λ x a y b (j, g, o). (j, o)) (λ x a y b (j, o). (j, (let z = inside s x a y b j o in omega (arith, z, ends s rest holds, h)), o)) (u.lists s rest holds);
  }

-- ---- places one after the other
module _ (store : List ℕ) (F : ByEntry) where
  pub place_none : (l : List Link) → Adds store (BelowPlace F 0) l l 0
  unfolding OfState BelowPlace
  place_none l = adds_none (BelowPlace F 0) 0 (λ s rest holds x a y b (q, h, o). omega (arith, h))

  pub place_more : (l m r : List Link) (p d e : ℕ) → Adds store (BelowPlace F p) l m d → Adds store (AtPlace F p) m r e → Adds store (BelowPlace F (p + 1)) l r (d + e)
  unfolding OfState BelowPlace
  place_more l m r p d e u v = record {
    same = λ j h. v.same j (omega (arith, h, u.low)) ∙ u.same j h;
    low = omega (arith, u.low, v.low);
    high = omega (arith, u.high, v.high);
    lists = λ s rest holds. lists_join (λ x a y b (q, h, o). (q, omega (arith, h), o)) (λ x a y b o. (p, omega arith, o)) (λ x a y b (q, h, o). split s x a y b q h o) u.low v.low
        (lists_kept m r (length m) v.same (u.lists s rest holds)) (v.lists s rest holds);
  }
    where
      split : (s : State) (x : Series) (a : ℕ) (y : Series) (b : ℕ) (q : ℕ) → q < p + 1 → AtPlace F q s x a y b → ((k : ℕ) × (k < p) × AtPlace F k s x a y b) ⊎ AtPlace F p s x a y b
      split s x a y b q h o = elim (ℕ_discrete q p) [ yes e ↦ inr (subst (λ k. AtPlace F k s x a y b) e o) | no n ↦ inl (q, omega (arith, h, n), o) ]

-- fewer are fewer than more
pub adds_most : {store : List ℕ} {l r : List Link} {Of : State → Series → ℕ → Series → ℕ → Type 0} {d e : ℕ} → d ≤ e → Adds store Of l r d → Adds store Of l r e
adds_most h u = record { same = u.same; low = u.low; high = omega (arith, h, u.high); lists = u.lists }
