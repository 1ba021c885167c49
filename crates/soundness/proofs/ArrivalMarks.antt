-- The marks of arrivals: each message that came is taken off the table of sends, at its sender and count, once.
use Prim.Native.Nat.{ℕ, ◌+◌, ◌*◌, ◌<◌, ◌/◌, ◌%◌}
use mathlib.Core.Path.{◌≡◌, refl, sym, ◌∙◌, ap}
use mathlib.Core.Logic.{◌⊎◌, inl, inr}
use mathlib.Core.Bool.{cond}
use mathlib.Core.Option.{Option, none, some}
use mathlib.Core.List.{List, [], ◌∷◌, ◌++◌, map}
use native.Mathlib.Decide.{ℕ_discrete, dec_lt}
use native.Mathlib.Omega.{arith}
use lib.Dec.{eqb, ltb}
use lib.ListN.{length, drop, get_or, set, length-set, get_or-eq_default}
use lib.Seq.{get_or-set_same, get_or-set_other}
use Rattle.lists.specs.Lists.{joined}
use Rattle.lists.proofs.Tests.{none_not_some, some_injective, true_or_false, eqb-true, eqb_of, ltb-true, ltb_of, cond_true, cond_false}
use Rattle.lists.proofs.Blocks.{chop}
use Rattle.store.specs.Layout.{slot_head, name_base, kind_rec}
use Rattle.slots.specs.SoundTests.{kind_word, number_word, names_in, and_then, run_all}
use Rattle.soundness.specs.MessageTests.{arrive_at, arrive_one, arrive_all, arrive_slot, arrive_taken, arrive_place, arrive_from}
use Rattle.slots.proofs.Marks.{run_append, run_joined, Marking}

-- a message that came to a place, by its name
pub record Came : Type 0 where
  pub place : ℕ
  pub name : ℕ

abbrev pub came : ℕ → ℕ → Came
came place name = record { place = place; name = name }

-- where the table has it: a row of so many words for each sender
abbrev pub name_at : (entries name : ℕ) → ℕ
name_at entries name = name / name_base * entries + name % name_base

module _ (places entries : ℕ) (table : List ℕ) where
  abbrev pub arrive : Came → List ℕ → Option (List ℕ)
  arrive c targets = arrive_one places entries c.place c.name targets

  abbrev pub key_of : Came → ℕ
  key_of c = name_at entries c.name

  -- the table says that it was sent there
  pub record Sent (c : Came) : Type 0 where
    pub sender : c.name / name_base < places
    pub count : c.name % name_base < entries
    pub there : get_or table (key_of c) 0 ≡ c.place + 1

  -- the table, some of its words taken off
  pub record Part (targets : List ℕ) : Type 0 where
    pub long : length targets ≡ length table
    pub each : (k : ℕ) → (get_or targets k 0 ≡ get_or table k 0) ⊎ (get_or targets k 0 ≡ 0)

  abbrev pub Untaken : List ℕ → ℕ → Type 0
  Untaken targets k = get_or targets k 0 ≡ get_or table k 0

  pub record Arrived (c : Came) (before after : List ℕ) : Type 0 where
    pub sender : c.name / name_base < places
    pub count : c.name % name_base < entries
    pub there : get_or before (key_of c) 0 ≡ c.place + 1
    pub after_is : after ≡ set before (key_of c) 0

  arrived : (c : Came) (before after : List ℕ) → arrive c before ≡ some after → Arrived c before after
  unfolding arrive_one arrive_at
  arrived c before after e = elim (true_or_false (ltb (c.name / name_base) places)) [
    | inr f ↦ none_not_some (sym (cond_false _ _ f) ∙ e)
    | inl t ↦ (let e₁ = sym (cond_true _ _ t) ∙ e in elim (true_or_false (ltb (c.name % name_base) entries)) [
      | inr f ↦ none_not_some (sym (cond_false _ _ f) ∙ e₁)
      | inl u ↦ (let e₂ = sym (cond_true _ _ u) ∙ e₁ in elim (true_or_false (eqb (get_or before (key_of c) 0) (c.place + 1))) [
        | inr f ↦ none_not_some (sym (cond_false _ _ f) ∙ e₂)
        | inl v ↦ record {
          sender = ltb-true (c.name / name_base) places t;
          count = ltb-true (c.name % name_base) entries u;
          there = eqb-true (get_or before (key_of c) 0) (c.place + 1) v;
          after_is = sym (some_injective (sym (cond_true _ _ v) ∙ e₂));
        }
      ])
    ])
  ]

  arrives : (c : Came) (before : List ℕ) → Sent c → Untaken before (key_of c) → arrive c before ≡ some (set before (key_of c) 0)
  unfolding arrive_one arrive_at
  arrives c before s u =
      cond_true _ _ (ltb_of (c.name / name_base) places s.sender) ∙ cond_true _ _ (ltb_of (c.name % name_base) entries s.count) ∙ cond_true _ _ (eqb_of (get_or before (key_of c) 0) (c.place + 1) (u ∙ s.there))

  in_table : (targets : List ℕ) (k n : ℕ) → get_or targets k 0 ≡ n + 1 → k < length targets
  in_table targets k n e = elim (dec_lt k (length targets)) [ yes h ↦ h | no h ↦ (let z = get_or-eq_default targets 0 {n = k} (omega (arith, h)) in absurd (omega (arith, e, z))) ]

  untaken : (c : Came) (before after : List ℕ) → Part before → Arrived c before after → Untaken before (key_of c)
  untaken c before after p r = elim (p.each (key_of c)) [ inl e ↦ e | inr z ↦ absurd (omega (arith, z, r.there)) ]

  taken_off : (c : Came) (before after : List ℕ) → Arrived c before after → get_or after (key_of c) 0 ≡ 0
  taken_off c before after r = ap (λ (l : List ℕ). get_or l (key_of c) 0) r.after_is ∙ get_or-set_same before (key_of c) 0 0 (in_table before (key_of c) c.place r.there)

  as_before : (c : Came) (before after : List ℕ) → Arrived c before after → (k : ℕ) → ¬ (k ≡ key_of c) → get_or after k 0 ≡ get_or before k 0
  as_before c before after r k n = ap (λ (l : List ℕ). get_or l k 0) r.after_is ∙ get_or-set_other before (key_of c) k 0 0 n

  still_part : (c : Came) (before after : List ℕ) → Part before → Arrived c before after → Part after
  still_part c before after p r = record {
    long = ap length r.after_is ∙ length-set before (key_of c) 0 ∙ p.long;
    each = λ k. elim (ℕ_discrete k (key_of c)) [
      | yes q ↦ inr (ap (λ (j : ℕ). get_or after j 0) q ∙ taken_off c before after r)
      | no n ↦ elim (p.each k) [ inl e ↦ inl (as_before c before after r k n ∙ e) | inr z ↦ inr (as_before c before after r k n ∙ z) ]
    ];
  }

  pub arrival_marks : Marking arrive key_of Sent Part Untaken
  arrival_marks = record {
    takes = λ c x y p e.
        let r = arrived c x y e in
        let u = untaken c x y p r in
        (record { sender = r.sender; count = r.count; there = sym u ∙ r.there }, u);
    good = λ c x y p e. still_part c x y p (arrived c x y e);
    opens = λ c x y p e k o.
        let r = arrived c x y e in
        elim (ℕ_discrete k (key_of c)) [
          | yes q ↦ (let z : get_or table (key_of c) 0 ≡ 0 = ap (λ (j : ℕ). get_or table j 0) (sym q) ∙ sym o ∙ ap (λ (j : ℕ). get_or y j 0) q ∙ taken_off c x y r in absurd (omega (arith, z, untaken c x y p r, r.there)))
          | no n ↦ (sym (as_before c x y r k n) ∙ o, λ q. n (sym q))
        ];
    stays = λ c x y p e k o n. as_before c x y (arrived c x y e) k (λ q. n (sym q)) ∙ o;
    taken = λ c x p s o. (set x (key_of c) 0, arrives c x s o);
  }

  pub whole_part : Part table
  whole_part = record { long = refl; each = λ k. inl refl }

  -- ---- the messages that came: to a slot's rec, to a place, to all places

  module _ (words : ℕ) where
    abbrev pub taken_of : List ℕ → List ℕ
    taken_of w = cond (eqb (kind_word w) kind_rec) (get_or w (slot_head + words + number_word w) 0 ∷ []) []

    then_end : (place : ℕ) (o : Option (List ℕ)) → o ≡ and_then o (run_all (arrive_one places entries place) [])
    unfolding and_then run_all
    then_end place none = refl
    then_end place (some x) = refl

    slot_run : (place : ℕ) (w x : List ℕ) → arrive_slot words places entries place w x ≡ run_all (arrive_one places entries place) (taken_of w) x
    unfolding arrive_slot run_all
    slot_run place w x = elim (true_or_false (eqb (kind_word w) kind_rec)) [
      | inl t ↦ cond_true _ _ t ∙ then_end place (arrive_one places entries place (get_or w (slot_head + words + number_word w) 0) x) ∙ sym (ap (λ (ns : List ℕ). run_all (arrive_one places entries place) ns x) (cond_true (get_or w (slot_head + words + number_word w) 0 ∷ []) [] t))
      | inr f ↦ cond_false _ _ f ∙ sym (ap (λ (ns : List ℕ). run_all (arrive_one places entries place) ns x) (cond_false (get_or w (slot_head + words + number_word w) 0 ∷ []) [] f))
    ]

    module _ (size count : ℕ) where
      abbrev pub came_to : List ℕ → List ℕ
      came_to b = names_in words b ++ joined (map taken_of (chop count size (drop size b)))

      unfoldable pub came_from : ℕ → List (List ℕ) → List Came
      came_from p [] = []
      came_from p (b ∷ bs) = map (came p) (came_to b) ++ came_from (p + 1) bs

      taken_run : (place : ℕ) (b x : List ℕ) → arrive_taken words size count places entries place b x ≡ run_all (arrive_one places entries place) (joined (map taken_of (chop count size (drop size b)))) x
      unfolding arrive_taken
      taken_run place b x =
          ap (λ (f : List ℕ → List ℕ → Option (List ℕ)). run_all f (chop count size (drop size b)) x) (λ i w y. slot_run place w y i)
          ∙ run_joined (arrive_one places entries place) taken_of (chop count size (drop size b)) x

      place_run : (place : ℕ) (b x : List ℕ) → arrive_place words size count places entries place b x ≡ run_all (arrive_one places entries place) (came_to b) x
      unfolding arrive_place arrive_all
      place_run place b x =
          ap (λ (f : List ℕ → Option (List ℕ)). and_then (run_all (arrive_one places entries place) (names_in words b) x) f) (λ i y. taken_run place b y i)
          ∙ sym (run_append (arrive_one places entries place) (names_in words b) (joined (map taken_of (chop count size (drop size b)))) x)

      named_run : (place : ℕ) (ns x : List ℕ) → run_all (arrive_one places entries place) ns x ≡ run_all arrive (map (came place) ns) x
      unfolding run_all
      named_run place [] x = refl
      named_run place (n ∷ ns) x = ap (λ (f : List ℕ → Option (List ℕ)). and_then (arrive_one places entries place n x) f) (λ i y. named_run place ns y i)

      pub all_run : (place : ℕ) (bs : List (List ℕ)) (x : List ℕ) → arrive_from words size count places entries place bs x ≡ run_all arrive (came_from place bs) x
      unfolding arrive_from came_from run_all
      all_run place [] x = refl
      all_run place (b ∷ bs) x =
          (λ i. and_then ((place_run place b x ∙ named_run place (came_to b) x) i) (λ y. all_run (place + 1) bs y i))
          ∙ sym (run_append arrive (map (came place) (came_to b)) (came_from (place + 1) bs) x)
