-- What the code's reading for shape returns, by the tests that it makes.
use Prim.Native.Nat.{ℕ, suc, ◌+◌, ◌-◌, ◌≤◌, ◌<◌}
use mathlib.Core.Path.{◌≡◌, refl, sym, ap, ◌∙◌}
use mathlib.Core.Bool.{Bool, true, false, not}
use mathlib.Core.List.{List, ◌∷◌, ◌++◌, append_assoc}
use native.Mathlib.Omega.{arith}
use native.Mathlib.Numerals.{add-one}
use native.Mathlib.Decide.{ℕ_discrete}
use Rattle.std.specs.Prelude.{Result, Ok, Err, IsErrAnd}
use Rattle.std.proofs.lemmas.Result.{err_from_is_err_and}
use lib.ListN.{length, get_or, drop, replicate, replicate-append-replicate, drop_of_length-le}
use Rattle.lists.proofs.Tests.{not_true, not_false}
use Rattle.term.specs.Words.{tag_of, n_of, tag_integer}
use Rattle.term.specs.Table.{fits, child_spots}
use Rattle.term.specs.Shape.{shape, shape_payload}
use Rattle.shape.specs.declared.shape.Spots.{Spots}
use Rattle.rows.specs.declared.terms.Ahead.{Ahead}
use Rattle.rows.specs.declared.terms.BadWord.{BadWord}
use Rattle.rows.specs.declared.terms.Run.{Run}
use Rattle.rows.specs.declared.terms.Run.TheVariants.{Ends, Turns}
use Rattle.shape.specs.Reading.{onward, NoLess, Further, Reads, RunsOf, Common, Comes, Turned, ReadsAlike}
use Rattle.term.proofs.RowLaws.{drop_head}
use Rattle.term.proofs.ShapeLaws.{shape_integer, shape_node, shape_misfit}

no_less_on : (at b : ℕ) (r : Result ℕ BadWord) → at ≤ b → NoLess b r → NoLess at r
unfolding NoLess
no_less_on at b (Ok a) h w = omega arith
no_less_on at b (Err bad) h w = omega arith

further_on : (at b : ℕ) (r : Result ℕ BadWord) → at < b → NoLess b r → Further at r
unfolding NoLess Further
further_on at b (Ok a) h w = omega arith
further_on at b (Err bad) h w = tt

pub further_ends : (places : ℕ) (l : List ℕ) (at spot times a : ℕ) → ¬ (times ≡ 0) → Reads places l at spot times (Ok a) → at < a
unfolding Further
further_ends places l at spot times a nz s = s.further nz

no_less_ends : (places : ℕ) (l : List ℕ) (at spot times a : ℕ) → Reads places l at spot times (Ok a) → at ≤ a
unfolding NoLess
no_less_ends places l at spot times a s = s.no_less

-- the walk has come to a, and terms at these spots are still to come for what was asked at `at`
pub record Came (places : ℕ) (l : List ℕ) (at spot times a : ℕ) (spots : List ℕ) : Type 0 where
  pub answer : (new others : List ℕ) → shape places new (drop at l) (replicate times spot ++ others) at ≡ shape places new (drop a l) (spots ++ others) a
  pub from : at < a

module _ (places : ℕ) (l : List ℕ) (at spot times : ℕ) where
  pub read_none : times ≡ 0 → Reads places l at spot times (Ok at)
  unfolding onward NoLess
  read_none z = record { answer = λ new others. rw z; no_less = omega arith; further = λ nz. absurd (nz z) }

  module _ (nz : ¬ (times ≡ 0)) where
    -- one spot is the first of those asked for
    first_spot : (others : List ℕ) → replicate times spot ++ others ≡ spot ∷ (replicate (times - 1) spot ++ others)
    first_spot others = let e : times ≡ suc (times - 1) = omega arith in ap (λ (j : ℕ). replicate j spot ++ others) e

    pub read_past : length l ≤ at → Reads places l at spot times (Err (record { 0 = at }))
    unfolding onward NoLess Further shape
    read_past h = record { answer = λ new others. rw (drop_of_length-le l h, first_spot others); no_less = omega arith; further = λ nz'. tt }

    module _ (lt : at < length l) (v : Bool) (ev : v ≡ fits places spot (get_or l at 0)) where
      opened : (new others : List ℕ) → shape places new (drop at l) (replicate times spot ++ others) at ≡ shape places new (get_or l at 0 ∷ drop (at + 1) l) (spot ∷ (replicate (times - 1) spot ++ others)) at
      opened new others = rw (drop_head l at lt, first_spot others)

      pub read_misfit : not v ≡ true → Reads places l at spot times (Err (record { 0 = at }))
      unfolding onward NoLess Further
      read_misfit f =
          record {
            answer = λ new others. opened new others ∙ shape_misfit places new (get_or l at 0) spot (drop (at + 1) l) (replicate (times - 1) spot ++ others) at (sym ev ∙ not_true v f);
            no_less = omega arith;
            further = λ nz'. tt;
          }

      module _ (f : not v ≡ false) (t : ℕ) (et : t ≡ tag_of (get_or l at 0)) where
        fit : fits places spot (get_or l at 0) ≡ true
        fit = sym ev ∙ not_false v f

        at_integer : t ≡ tag_integer → (new others : List ℕ) → shape places new (drop at l) (replicate times spot ++ others) at ≡ shape_payload places new (drop (at + 1) l) (replicate (times - 1) spot ++ others) (suc at)
        at_integer i new others = opened new others ∙ shape_integer places new (get_or l at 0) spot (drop (at + 1) l) (replicate (times - 1) spot ++ others) at fit (sym et ∙ i)

        pub read_cut : t ≡ tag_integer → length l - at < 2 → Reads places l at spot times (Err (record { 0 = at + 1 }))
        unfolding onward NoLess Further shape
        read_cut i h = record { answer = λ new others. at_integer i new others ∙ rw (drop_of_length-le l {i = at + 1} (omega arith), add-one); no_less = omega arith; further = λ nz'. tt }

        pub past_integer : t ≡ tag_integer → 2 ≤ length l - at → (new others : List ℕ)
            → shape places new (drop at l) (replicate times spot ++ others) at ≡ shape places new (drop (at + 2) l) (replicate (times - 1) spot ++ others) (at + 2)
        unfolding shape
        past_integer i h new others =
            let two : at + 1 + 1 ≡ at + 2 = omega arith in
            let sucs : suc (suc at) ≡ at + 2 = omega arith in
            at_integer i new others
            ∙ ap (λ (m : List ℕ). shape_payload places new m (replicate (times - 1) spot ++ others) (suc at)) (drop_head l (at + 1) (omega arith))
            ∙ ap (λ (j : ℕ). shape places new (drop j l) (replicate (times - 1) spot ++ others) (suc (suc at))) two
            ∙ ap (shape places new (drop (at + 2) l) (replicate (times - 1) spot ++ others)) sucs

        pub past_alike : ¬ (t ≡ tag_integer) → (n : ℕ) → child_spots spot (get_or l at 0) ≡ replicate n spot → (new others : List ℕ)
            → shape places new (drop at l) (replicate times spot ++ others) at ≡ shape places new (drop (at + 1) l) (replicate (times - 1 + n) spot ++ others) (at + 1)
        past_alike i n h new others =
            let turned : n + (times - 1) ≡ times - 1 + n = omega arith in
            opened new others
            ∙ shape_node places new (get_or l at 0) spot (drop (at + 1) l) (replicate (times - 1) spot ++ others) at fit (λ e. i (et ∙ e))
            ∙ ap (λ (spots : List ℕ). shape places new (drop (at + 1) l) (spots ++ (replicate (times - 1) spot ++ others)) (suc at)) h
            ∙ ap (λ (spots : List ℕ). shape places new (drop (at + 1) l) spots (suc at))
            (sym (append_assoc (replicate n spot) (replicate (times - 1) spot) others)
            ∙ ap (λ (spots : List ℕ). spots ++ others) (replicate-append-replicate n (times - 1) spot ∙ ap (λ (j : ℕ). replicate j spot) turned))
            ∙ ap (shape places new (drop (at + 1) l) (replicate (times - 1 + n) spot ++ others)) (sym (add-one at))

        pub came_start : ¬ (t ≡ tag_integer) → (g : Spots) → RunsOf spot (get_or l at 0) g
            → Came places l at spot times (at + 1) (replicate g.firsts g.first ++ (replicate g.seconds g.second ++ (replicate g.thirds g.third ++ replicate (times - 1) spot)))
        came_start i g h =
            record {
              answer = λ new others.
                  opened new others
                  ∙ shape_node places new (get_or l at 0) spot (drop (at + 1) l) (replicate (times - 1) spot ++ others) at fit (λ e. i (et ∙ e))
                  ∙ rw (← h, ← add-one at) (simp append_assoc);
              from = omega arith;
            }

pub came_next : (places : ℕ) (l : List ℕ) (at spot times a j m b : ℕ) (spots : List ℕ) → Came places l at spot times a (replicate m j ++ spots) → Reads places l a j m (Ok b) → Came places l at spot times b spots
unfolding onward
came_next places l at spot times a j m b spots c s =
    record {
      answer = λ new others. c.answer new others ∙ rw append_assoc (s.answer new (spots ++ others));
      from = omega (arith, c.from, no_less_ends places l a j m b s);
    }

pub came_fails : (places : ℕ) (l : List ℕ) (at spot times a j m : ℕ) (bad : BadWord) (spots : List ℕ) → Came places l at spot times a (replicate m j ++ spots) → Reads places l a j m (Err bad)
    → Reads places l at spot times (Err bad)
unfolding onward
came_fails places l at spot times a j m bad spots c s =
    record {
      answer = λ new others. c.answer new others ∙ rw append_assoc (s.answer new (spots ++ others));
      no_less = no_less_on at a (Err bad) (omega (arith, c.from)) s.no_less;
      further = λ nz'. further_on at a (Err bad) c.from s.no_less;
    }

pub came_done : (places : ℕ) (l : List ℕ) (at spot times a j m : ℕ) (r : Result ℕ BadWord) → Came places l at spot times a (replicate m j) → Reads places l a j m r → Reads places l at spot times r
came_done places l at spot times a j m r c s = record { answer = λ new others. c.answer new others ∙ s.answer new others; no_less = no_less_on at a r (omega (arith, c.from)) s.no_less; further = λ nz'. further_on at a r c.from s.no_less }

-- reading that has come to a answers by what is read from there on
further_from : (at b : ℕ) (r : Result ℕ BadWord) → at ≤ b → Further b r → Further at r
unfolding Further
further_from at b (Ok a) h w = omega arith
further_from at b (Err bad) h w = tt

pub comes_reads : (places : ℕ) (l : List ℕ) (at spot times a left : ℕ) (r : Result ℕ BadWord) → Comes places l at spot times a left → Reads places l a spot left r → Reads places l at spot times r
comes_reads places l at spot times a left r c s =
    record {
      answer = λ new others. c.answer new others ∙ s.answer new others;
      no_less = no_less_on at a r c.no_less s.no_less;
      further = λ nz. elim (ℕ_discrete a at) [
        | yes e ↦ further_from at a r c.no_less (s.further (λ z. nz (sym (c.moved e) ∙ z)))
        | no d ↦ further_on at a r (omega (arith, c.no_less)) s.no_less
      ];
    }

pub comes_start : (places : ℕ) (l : List ℕ) (at spot times : ℕ) → Comes places l at spot times at times
comes_start places l at spot times = record { answer = λ new others. refl; no_less = omega arith; moved = λ e. refl }

module _ (places : ℕ) (l : List ℕ) (at spot times a left : ℕ) (c : Comes places l at spot times a left) where
  pub alike_ends : left ≤ 0 → ReadsAlike places l at spot times (Ok (Ends a))
  unfolding ReadsAlike
  alike_ends z = comes_reads places l at spot times a left (Ok a) c (read_none places l a spot left (omega arith))

  module _ (more : 0 < left) where
    some : ¬ (left ≡ 0)
    some z = omega arith

    pub alike_past : length l ≤ a → ReadsAlike places l at spot times (Err (record { 0 = a }))
    unfolding ReadsAlike
    alike_past h = comes_reads places l at spot times a left (Err (record { 0 = a })) c (read_past places l a spot left some h)

    module _ (lt : a < length l) where
      -- a word that is told at once
      pub comes_common : (v : Bool) → (v ≡ true → Common spot (get_or l a 0)) → v ≡ true → (n : ℕ) → n ≡ n_of (get_or l a 0) → Comes places l at spot times (a + 1) (left - 1 + n)
      comes_common v h e n en =
          let w = h e in
          record {
            answer = λ new others. c.answer new others ∙ past_alike places l a spot left some lt true (sym (w.fit places)) refl (tag_of (get_or l a 0)) refl w.node n (w.below ∙ ap (λ (j : ℕ). replicate j spot) (sym en)) new others;
            no_less = omega (arith, c.no_less);
            moved = λ e. absurd (omega (arith, c.no_less));
          }

      module _ (v : Bool) (ev : v ≡ fits places spot (get_or l a 0)) where
        pub alike_misfit : not v ≡ true → ReadsAlike places l at spot times (Err (record { 0 = a }))
        unfolding ReadsAlike
        alike_misfit f = comes_reads places l at spot times a left (Err (record { 0 = a })) c (read_misfit places l a spot left some lt v ev f)

        module _ (f : not v ≡ false) (t : ℕ) (et : t ≡ tag_of (get_or l a 0)) where
          pub alike_cut : t ≡ tag_integer → length l - a < 2 → ReadsAlike places l at spot times (Err (record { 0 = a + 1 }))
          unfolding ReadsAlike
          alike_cut i h = comes_reads places l at spot times a left (Err (record { 0 = a + 1 })) c (read_cut places l a spot left some lt v ev f t et i h)

          pub comes_integer : t ≡ tag_integer → 2 ≤ length l - a → Comes places l at spot times (a + 2) (left - 1)
          comes_integer i h =
              record {
                answer = λ new others. c.answer new others ∙ past_integer places l a spot left some lt v ev f t et i h new others;
                no_less = omega (arith, c.no_less);
                moved = λ e. absurd (omega (arith, c.no_less));
              }

          module _ (i : ¬ (t ≡ tag_integer)) where
            pub alike_turns : ReadsAlike places l at spot times (Ok (Turns (record { at = a; owed = left })))
            unfolding ReadsAlike
            alike_turns = record { comes = c; more = some; inside = lt; fit = sym ev ∙ not_false v f; node = λ e. i (et ∙ e) }

            pub comes_alike : (o : Bool) → (o ≡ true → child_spots spot (get_or l a 0) ≡ replicate (n_of (get_or l a 0)) spot) → not o ≡ false → (n : ℕ) → n ≡ n_of (get_or l a 0)
                → Comes places l at spot times (a + 1) (left - 1 + n)
            comes_alike o h e n en =
                record {
                  answer = λ new others. c.answer new others ∙ past_alike places l a spot left some lt v ev f t et i n (h (not_false o e) ∙ ap (λ (j : ℕ). replicate j spot) (sym en)) new others;
                  no_less = omega (arith, c.no_less);
                  moved = λ e. absurd (omega (arith, c.no_less));
                }

-- what a `?` passes on
pub passed_on : {T E : Type 0} (r : Result T E) (bad : E) → IsErrAnd r (λ e. e ≡ bad) → r ≡ Err bad
passed_on r bad h = let p = err_from_is_err_and r h in p.1 ∙ ap Err p.2

-- what comes of reading the alike words first
module _ (places : ℕ) (l : List ℕ) (at spot times : ℕ) where
  pub run_ends : (g : Run) → ReadsAlike places l at spot times (Ok g) → (a : ℕ) → g ≡ Ends a → Reads places l at spot times (Ok a)
  unfolding ReadsAlike
  run_ends g h a e = rw e at h

  pub run_fails : (bad : BadWord) → ReadsAlike places l at spot times (Err bad) → (r : Result ℕ BadWord) → IsErrAnd r (λ e. e ≡ bad) → Reads places l at spot times r
  unfolding ReadsAlike
  run_fails bad h r p = rw (passed_on r bad p) h

-- a word whose children stand elsewhere: they are read in three runs, then what is left
module _ (places : ℕ) (l : List ℕ) (at spot times : ℕ) (g : Run) (h : ReadsAlike places l at spot times (Ok g)) (turn : Ahead) (e : g ≡ Turns turn) where
  turned : Turned places l at spot times turn.at turn.owed
  unfolding ReadsAlike
  turned = rw e at h

  pub turned_inside : turn.at < length l
  turned_inside = turned.inside

  pub turned_more : 1 ≤ turn.owed
  turned_more = let n = turned.more in omega arith

  falls : (b : ℕ) → turn.at < b → (t : ℕ) → length l - at ≡ t → length l - b < t
  falls b lt t et = omega (arith, turned.inside, turned.comes.no_less)

  pub falls_first : (t : ℕ) → length l - at ≡ t → length l - (turn.at + 1) < t
  falls_first = falls (turn.at + 1) (omega arith)

  -- what answers for the terms left answers for all; one that fails is passed on
  whole : (r : Result ℕ BadWord) → Reads places l turn.at spot turn.owed r → Reads places l at spot times r
  whole r = comes_reads places l at spot times turn.at turn.owed r turned.comes

  fails : (from j m : ℕ) (spots : List ℕ) → Came places l turn.at spot turn.owed from (replicate m j ++ spots) → (bad : BadWord) → Reads places l from j m (Err bad) → (r : Result ℕ BadWord) → IsErrAnd r (λ e. e ≡ bad)
      → Reads places l at spot times r
  fails from j m spots came bad hr r p = rw (passed_on r bad p) (whole _ (came_fails _ _ _ _ _ _ _ _ _ _ came hr))

  module _ (s : Spots) (hs : RunsOf spot (get_or l turn.at 0) s) where
    came1 : Came places l turn.at spot turn.owed (turn.at + 1) (replicate s.firsts s.first ++ (replicate s.seconds s.second ++ (replicate s.thirds s.third ++ replicate (turn.owed - 1) spot)))
    came1 = came_start places l turn.at spot turn.owed turned.more turned.inside true (sym turned.fit) refl (tag_of (get_or l turn.at 0)) refl turned.node s hs

    pub first_fails : (bad : BadWord) → Reads places l (turn.at + 1) s.first s.firsts (Err bad) → (r : Result ℕ BadWord) → IsErrAnd r (λ e. e ≡ bad) → Reads places l at spot times r
    first_fails = fails _ _ _ _ came1

    module _ (b : ℕ) (h1 : Reads places l (turn.at + 1) s.first s.firsts (Ok b)) where
      came2 : Came places l turn.at spot turn.owed b (replicate s.seconds s.second ++ (replicate s.thirds s.third ++ replicate (turn.owed - 1) spot))
      came2 = came_next _ _ _ _ _ _ _ _ _ _ came1 h1

      pub falls_second : (t : ℕ) → length l - at ≡ t → length l - b < t
      falls_second = falls b came2.from

      pub second_fails : (bad : BadWord) → Reads places l b s.second s.seconds (Err bad) → (r : Result ℕ BadWord) → IsErrAnd r (λ e. e ≡ bad) → Reads places l at spot times r
      second_fails = fails _ _ _ _ came2

      module _ (d : ℕ) (h2 : Reads places l b s.second s.seconds (Ok d)) where
        came3 : Came places l turn.at spot turn.owed d (replicate s.thirds s.third ++ replicate (turn.owed - 1) spot)
        came3 = came_next _ _ _ _ _ _ _ _ _ _ came2 h2

        pub falls_third : (t : ℕ) → length l - at ≡ t → length l - d < t
        falls_third = falls d came3.from

        pub third_fails : (bad : BadWord) → Reads places l d s.third s.thirds (Err bad) → (r : Result ℕ BadWord) → IsErrAnd r (λ e. e ≡ bad) → Reads places l at spot times r
        third_fails = fails _ _ _ _ came3

        module _ (f : ℕ) (h3 : Reads places l d s.third s.thirds (Ok f)) where
          came4 : Came places l turn.at spot turn.owed f (replicate (turn.owed - 1) spot)
          came4 = came_next _ _ _ _ _ _ _ _ _ _ came3 h3

          pub falls_fourth : (t : ℕ) → length l - at ≡ t → length l - f < t
          falls_fourth = falls f came4.from

          pub turned_done : (r : Result ℕ BadWord) → Reads places l f spot (turn.owed - 1) r → Reads places l at spot times r
          turned_done r hr = whole r (came_done _ _ _ _ _ _ _ _ _ came4 hr)
