-- The links of all entries, and how many events each line has: what the loops over places and entries leave.
use Prim.Native.Nat.{ℕ, suc, ◌+◌, ◌*◌, ◌≤◌, ◌<◌}
use mathlib.Core.Path.{◌≡◌, refl, sym, ◌∙◌, ap, subst}
use mathlib.Core.List.{List, [], ◌∷◌}
use native.Mathlib.Decide.{ℕ_discrete, dec_lt}
use native.Mathlib.Omega.{arith}
use lib.ListN.{length, get_or, set, length-set, replicate, length-replicate, get_or-replicate, get_or-eq_default}
use lib.Seq.{get_or-set_same, get_or-set_other}
use Rattle.rules.specs.State.{State, history_at}
use Rattle.rules.specs.Depends.{Series, entries_of, deliveries_to, level}
use Rattle.rules.specs.Standing.{Stands}
use Rattle.demands.proofs.Cut.{place_of, place_below}
use Rattle.store.specs.Image.{IsImage}
use Rattle.store.proofs.SoundStates.{sizes_in_lem}
use Rattle.reading.specs.Reads.{Holds, OfState, IsPlace, IsEntry}
use Rattle.reading.proofs.Slotted.{entry_place}
use Rattle.cuts.specs.Bounds.{most_places, most_entries, line_count, links_of_sort, most_come}
use Rattle.cuts.specs.declared.link.Link.{Link}
use Rattle.cuts.specs.Links.{line_number, cut_in, sum_of, Levels, Ties, of_rec, of_since, of_send, of_child, of_mail, Aims, of_aim, Links}
use Rattle.links.specs.Listed.{ComeCount, TiesAt, rec_at, since_at, send_at, child_at, mail_at, AimsAt, aim_at, ByEntry, AtPlace, BelowPlace, AtAll, Adds}
use Rattle.links.proofs.LinkAdds.{lists_kept, lists_as}

module _ (store : List ℕ) (is_image : IsImage store) where
  abbrev one : Holds store is_image.state is_image.rest
  one = record { sound = is_image.sound; words = is_image.words }

  pub entry_low : (p i : ℕ) → OfState store (IsEntry p i) → (p < most_places) × (i < most_entries)
  unfolding OfState
  entry_low p i there-is =
      let s = is_image.state in
      let h = there-is s is_image.rest one in
      let sizes = sizes_in_lem s.sizes is_image.sound.sizes_pass in
      (omega (arith, entry_place s is_image.sound p i h, sizes.places_high), omega (arith, h, is_image.sound.history_fits p, sizes.entries_high))

  pub place_low : (p : ℕ) → OfState store (IsPlace p) → p < most_places
  unfolding OfState
  place_low p there-is =
      let s = is_image.state in
      let h = there-is s is_image.rest one in
      omega (arith, h, (sizes_in_lem s.sizes is_image.sound.sizes_pass).places_high)

  pub come_low : (p n : ℕ) → OfState store (ComeCount p n) → n ≤ most_come
  unfolding OfState
  come_low p n count = (count is_image.state is_image.rest one).few

module _ (store : List ℕ) where
  pub entry_upto : (p i : ℕ) → OfState store (IsEntry p i) → OfState store (λ s. i ≤ length (history_at s p))
  unfolding OfState
  entry_upto p i there-is s rest holds = omega (arith, there-is s rest holds)

  pub end_upto : (p end : ℕ) → OfState store (λ s. end ≡ length (history_at s p)) → OfState store (λ s. end ≤ length (history_at s p))
  unfolding OfState
  end_upto p end ends s rest holds = omega (arith, ends s rest holds)

  pub entry_is_place : (p i : ℕ) → OfState store (IsEntry p i) → OfState store (IsPlace p)
  unfolding OfState
  entry_is_place p i there-is s rest holds = entry_place s holds.sound p i (there-is s rest holds)

-- ---- ties and aims by their entries
ties_from : {p i : ℕ} {s : State} {x y : Series} {a b : ℕ} → TiesAt p i s x a y b → Ties s x a y b
ties_from (rec_at st is e) = of_rec st is e
ties_from (since_at st is) = of_since st is
ties_from {p} {i} {s} (send_at {q} {j} {e = e} {g} r st is u v) = subst (λ z. Ties s (deliveries_to q) j (entries_of z) i) u (of_send r (subst (λ z. Stands s z i e g) (sym u) st) is v)
ties_from (child_at st is) = of_child st is
ties_from (mail_at st is) = of_mail st is

ties_to : {s : State} {x y : Series} {a b : ℕ} → Ties s x a y b → (p : ℕ) × (i : ℕ) × TiesAt p i s x a y b
ties_to (of_rec {p} {i} st is e) = (p, i, rec_at st is e)
ties_to (of_since {p} {i} st is) = (p, i, since_at st is)
ties_to (of_send {i = i} {n = n} r st is c) = (n.sender, i, send_at r st is refl c)
ties_to (of_child {p} {i = i} st is) = (p, i, child_at st is)
ties_to (of_mail {p} {i = i} st is) = (p, i, mail_at st is)

aims_from : {p i : ℕ} {s : State} {x y : Series} {a b : ℕ} → AimsAt p i s x a y b → Aims s x a y b
aims_from (aim_at st is st' is') = of_aim st is st' is'

aims_to : {s : State} {x y : Series} {a b : ℕ} → Aims s x a y b → (p : ℕ) × (i : ℕ) × AimsAt p i s x a y b
aims_to (of_aim {u} {j} st is st' is') = (u, j, aim_at st is st' is')

module _ (store : List ℕ) where
  -- the links of all places that there are are all links
  pub place_all : (F : ByEntry) → ((p : ℕ) (s : State) (x : Series) (a : ℕ) (y : Series) (b j : ℕ) → F p j s x a y b → j < length (history_at s p)) → (l r : List Link) (p end d : ℕ) → OfState store (λ s. end ≡ s.sizes.places) → end ≤ p → Adds store (BelowPlace F p) l r d → Adds store (AtAll F) l r d
  unfolding OfState BelowPlace AtPlace AtAll
  place_all F inside l r p end d ends h u = record {
    same = u.same;
    low = u.low;
    high = u.high;
    lists = λ s rest holds. lists_as (λ x a y b (q, g, o). (q, o))
        (λ x a y b (q, (j, o)). (q, (let low = entry_place s holds.sound q j (inside q s x a y b j o) in omega (arith, low, ends s rest holds, h)), (j, o))) (u.lists s rest holds);
  }

  -- both sorts, one behind the other
  pub links_whole : (none m links : List Link) → none ≡ [] → Adds store (AtAll TiesAt) none m links_of_sort → Adds store (AtAll AimsAt) m links links_of_sort → OfState store (λ s. Links s links (length m))
  unfolding OfState AtAll AtPlace
  links_whole none m links none-is ties aims s rest holds =
      let nil : length none ≡ 0 = ap length none-is in
      let first = lists_kept m links (length m) aims.same (ties.lists s rest holds) in
      let then' = aims.lists s rest holds in
      record {
        most = omega (arith, ties.high, aims.high, nil);
        fewer = aims.low;
        tied = record {
          each = λ k g. let says = first.each k (omega (arith, nil)) g in record { from = says.from; first = says.first; on = says.on; second = says.second; is = says.is; holds = (let (q, (i, t)) = says.holds in ties_from t) };
          all = λ x a y b t. let (q, i, o) = ties_to t in let z = first.all x a y b (q, (i, o)) in record { place = z.place; below = z.below; is = z.is };
        };
        each = λ k g i. let says = then'.each k g i in record { from = says.from; first = says.first; on = says.on; second = says.second; is = says.is; holds = (let (q, (j, t)) = says.holds in aims_from t) };
        all = λ x a y b t. let (q, i, o) = aims_to t in let z = then'.all x a y b (q, (i, o)) in record { place = z.place; below = z.below; is = z.is };
      }

-- ---- levels
sum_most : (l : List ℕ) → ((j : ℕ) → get_or l j 0 ≤ most_come) → sum_of l ≤ length l * most_come
sum_most [] f = omega arith
sum_most (n ∷ l) f = omega (arith, f 0, sum_most l (λ j. f (suc j)))

-- the lines of the first p places are filled in
pub record Filled (store : List ℕ) (p : ℕ) (l : List ℕ) : Type 0 where
  pub long : length l ≡ line_count
  pub small : (j : ℕ) → get_or l j 0 ≤ most_come
  pub blank : (x : Series) → p ≤ place_of x → cut_in l x ≡ 0
  pub are : OfState store (λ s. (x : Series) → place_of x < p → cut_in l x ≡ level s x)

abbrev pub blanks : List ℕ
blanks = replicate line_count 0

blanks_long : length blanks ≡ line_count
blanks_long = length-replicate {A = ℕ} line_count 0

zeros : (j : ℕ) → get_or blanks j 0 ≡ 0
zeros j = elim (dec_lt j line_count) [ yes h ↦ get_or-replicate {A = ℕ} line_count j 0 0 h | no h ↦ get_or-eq_default blanks 0 {n = j} (omega (arith, h, blanks_long)) ]

module _ (store : List ℕ) where
  pub filled_start : Filled store 0 blanks
  unfolding OfState cut_in
  filled_start = record {
    long = blanks_long;
    small = λ j. omega (arith, zeros j);
    blank = λ x h. zeros (line_number x);
    are = λ s rest holds x h. absurd (omega (arith, h));
  }

  module _ (p n m : ℕ) (l : List ℕ) (filled : Filled store p l) (low : p < most_places) (n-low : n ≤ most_entries) (m-low : m ≤ most_come) (count : OfState store (λ s. n ≡ length (history_at s p))) (come : OfState store (ComeCount p m)) where
    at_entries : get_or (set (set l (2 * p) n) (2 * p + 1) m) (2 * p) 0 ≡ n
    at_entries = get_or-set_other (set l (2 * p) n) (2 * p + 1) (2 * p) m 0 (λ e. omega (arith, e)) ∙ get_or-set_same l (2 * p) n 0 (omega (arith, low, filled.long))

    at_mail : get_or (set (set l (2 * p) n) (2 * p + 1) m) (2 * p + 1) 0 ≡ m
    at_mail = get_or-set_same (set l (2 * p) n) (2 * p + 1) m 0 (omega (arith, low, filled.long, length-set l (2 * p) n))

    at_other : (j : ℕ) → ¬ (j ≡ 2 * p) → ¬ (j ≡ 2 * p + 1) → get_or (set (set l (2 * p) n) (2 * p + 1) m) j 0 ≡ get_or l j 0
    at_other j a b = get_or-set_other (set l (2 * p) n) (2 * p + 1) j m 0 b ∙ get_or-set_other l (2 * p) j n 0 a

    pub filled_more : Filled store (p + 1) (set (set l (2 * p) n) (2 * p + 1) m)
    unfolding OfState cut_in level
    filled_more = record {
      long = length-set (set l (2 * p) n) (2 * p + 1) m ∙ length-set l (2 * p) n ∙ filled.long;
      small = λ j. elim (ℕ_discrete j (2 * p)) [
        | yes e ↦ omega (arith, ap (λ z. get_or (set (set l (2 * p) n) (2 * p + 1) m) z 0) e, at_entries, n-low)
        | no a ↦ elim (ℕ_discrete j (2 * p + 1)) [ yes e ↦ omega (arith, ap (λ z. get_or (set (set l (2 * p) n) (2 * p + 1) m) z 0) e, at_mail, m-low) | no b ↦ omega (arith, at_other j a b, filled.small j) ]
      ];
      blank = blank;
      are = are;
    }
      where
        blank : (x : Series) → p + 1 ≤ place_of x → get_or (set (set l (2 * p) n) (2 * p + 1) m) (line_number x) 0 ≡ 0
        blank (entries_of u) h = at_other (2 * u) (λ e. omega (arith, e, h)) (λ e. omega (arith, e, h)) ∙ filled.blank (entries_of u) (omega (arith, h))
        blank (deliveries_to u) h = at_other (2 * u + 1) (λ e. omega (arith, e, h)) (λ e. omega (arith, e, h)) ∙ filled.blank (deliveries_to u) (omega (arith, h))

        are : (s : State) (rest : List ℕ) → Holds store s rest → (x : Series) → place_of x < p + 1 → get_or (set (set l (2 * p) n) (2 * p + 1) m) (line_number x) 0 ≡ level s x
        are s rest holds (entries_of u) h = elim (ℕ_discrete u p) [
          | yes e ↦ ap (λ z. get_or (set (set l (2 * p) n) (2 * p + 1) m) (2 * z) 0) e ∙ at_entries ∙ count s rest holds ∙ ap (λ z. length (history_at s z)) (sym e)
          | no w ↦ at_other (2 * u) (λ e. w (omega (arith, e))) (λ e. omega (arith, e)) ∙ filled.are s rest holds (entries_of u) (omega (arith, h, w))
        ]
        are s rest holds (deliveries_to u) h = elim (ℕ_discrete u p) [
          | yes e ↦ ap (λ z. get_or (set (set l (2 * p) n) (2 * p + 1) m) (2 * z + 1) 0) e ∙ at_mail ∙ (come s rest holds).count ∙ ap (λ z. level s (deliveries_to z)) (sym e)
          | no w ↦ at_other (2 * u + 1) (λ e. omega (arith, e)) (λ e. w (omega (arith, e))) ∙ filled.are s rest holds (deliveries_to u) (omega (arith, h, w))
        ]

  pub filled_done : (p end : ℕ) (l : List ℕ) → OfState store (λ s. end ≡ s.sizes.places) → end ≤ p → Filled store p l → OfState store (λ s. Levels s l)
  unfolding OfState
  filled_done p end l ends h filled s rest holds = record {
    long = filled.long;
    most = omega (arith, sum_most l filled.small, ap (λ n. n * most_come) filled.long);
    are = λ x. elim (dec_lt (place_of x) p) [
      | yes g ↦ filled.are s rest holds x g
      | no g ↦ filled.blank x (omega (arith, g)) ∙ sym (none_there x (elim (dec_lt 0 (level s x)) [ yes z ↦ absurd (let low = place_below holds.sound x z in omega (arith, low, g, h, ends s rest holds)) | no z ↦ omega (arith, z) ]))
    ];
  }
    where
      none_there : (x : Series) → level s x ≤ 0 → level s x ≡ 0
      none_there x z = omega (arith, z)
