-- What the code's walk outside patterns returns: first the words that open no scope, then a let or a clause.
use Prim.Native.Nat.{ℕ, suc, zero, ◌+◌, ◌-◌, ◌*◌, ◌≤◌, ◌<◌}
use mathlib.Core.Path.{◌≡◌, refl, sym, ◌∙◌}
use mathlib.Core.Logic.{inl, inr}
use mathlib.Core.Bool.{Bool, true, false, not, ◌||◌}
use mathlib.Core.List.{List, ◌∷◌}
use native.Mathlib.Omega.{arith}
use native.Mathlib.Nat.{add-zero}
use native.Mathlib.Decide.{ℕ_discrete}
use Rattle.std.specs.Prelude.{Result, Ok, Err, IsErrAnd}
use lib.Dec.{eqb}
use lib.ListN.{length, get_or}
use Rattle.lists.proofs.Tests.{not_false, true_not_false, eqb_of, eqb-true, or_true, or_left, or_right}
use Rattle.term.specs.Words.{tag_of, n_of, k_of, tag_atom, tag_integer, tag_call, tag_let, tag_clause}
use Rattle.term.specs.Table.{table, row_of, child_count, arity}
use Rattle.rows.specs.Kinds.{ChildCount}
use Rattle.term.specs.Binding.{checks_after}
use Rattle.rows.specs.declared.terms.Ahead.{Ahead}
use Rattle.rows.specs.declared.terms.BadWord.{BadWord}
use Rattle.rows.specs.declared.terms.Run.{Run}
use Rattle.rows.specs.declared.terms.Run.TheVariants.{Ends, Turns}
use Rattle.checks.specs.declared.binding.Light.{Light}
use Rattle.checks.specs.Walking.{Marks, Rules, Binds, Keeps, Gets, Opened, KeepsPlain, KeepsBoth, IsLight, variables, check_numbers}
use Rattle.term.proofs.WordLaws.{n_small}
use Rattle.shape.proofs.ReadingLaws.{passed_on}
use Rattle.checks.proofs.MarkLaws.{rules_other, meet_none}
use Rattle.checks.proofs.WalkLaws.{keep_none, keep_past, keep_short, keep_integer, keep_broken, keep_plain_lem, let_broke, let_done, clause_broke, clause_done, onward_past}

-- a tag from atom to call has n children
arity_plain : (tag n : ℕ) → tag_atom ≤ tag → tag ≤ tag_call → arity tag n ≡ n
unfolding arity row_of table child_count
arity_plain zero n h g = absurd (omega arith)
arity_plain (suc zero) n h g = absurd (omega arith)
arity_plain (suc (suc zero)) n h g = refl
arity_plain (suc (suc (suc zero))) n h g = refl
arity_plain (suc (suc (suc (suc zero)))) n h g = refl
arity_plain (suc (suc (suc (suc (suc zero))))) n h g = refl
arity_plain (suc (suc (suc (suc (suc (suc zero)))))) n h g = refl
arity_plain (suc (suc (suc (suc (suc (suc (suc zero))))))) n h g = refl
arity_plain (suc (suc (suc (suc (suc (suc (suc (suc zero)))))))) n h g = refl
arity_plain (suc (suc (suc (suc (suc (suc (suc (suc (suc tag))))))))) n h g = absurd (omega arith)

module _ (l : List ℕ) (at owed : ℕ) (marks : List Bool) (arities : List ℕ) (unique : Bool) (before : List Bool) where
  pub gets_start : Gets l at owed marks arities unique before at owed before
  gets_start = record { goes = λ after r k. k; no_less = omega arith }

  module _ (a left : ℕ) (met : List Bool) (c : Gets l at owed marks arities unique before a left met) where
    pub plain_past : left ≤ 0 → KeepsPlain l at owed marks arities unique before met (Ok (Ends a))
    unfolding KeepsPlain
    plain_past z = c.goes met (Ok a) (keep_none l a left marks arities unique met (omega arith))

    module _ (more : 0 < left) where
      some : ¬ (left ≡ 0)
      some z = omega arith

      pub plain_end : length l ≤ a → KeepsPlain l at owed marks arities unique before met (Err (record { 0 = a }))
      unfolding KeepsPlain
      plain_end h = c.goes met (Err (record { 0 = a })) (keep_past l a left marks arities unique met some h)

      module _ (lt : a < length l) where
        pub plain_short : length l - a < left → KeepsPlain l at owed marks arities unique before met (Err (record { 0 = a }))
        unfolding KeepsPlain
        plain_short h = c.goes met (Err (record { 0 = a })) (keep_short l a left marks arities unique met some lt h)

        module _ (t : ℕ) (et : t ≡ tag_of (get_or l a 0)) where
          gets_integer : t ≡ tag_integer → Gets l at owed marks arities unique before (a + 2) (left - 1) met
          gets_integer e = record { goes = λ after r k. c.goes after r (keep_integer l a left marks arities unique met some lt t et e after r k); no_less = omega (arith, c.no_less) }

          gets_plain : ¬ (t ≡ tag_integer) → tag_atom ≤ t → t ≤ tag_call → Gets l at owed marks arities unique before (a + 1) (left - 1 + n_of (get_or l a 0)) met
          gets_plain d low high =
              let n = n_of (get_or l a 0) in
              let rules = rules_other (get_or l a 0) marks arities unique met t et (k_of (get_or l a 0)) refl (λ s. elim s [ inl i ↦ omega arith | inr i ↦ omega arith ]) (λ i. omega arith) (λ i. omega arith) (λ i. omega arith) in
              let children : ChildCount (get_or l a 0) n = record { is = sym (arity_plain (tag_of (get_or l a 0)) n (omega arith) (omega arith)); few = omega (arith, n_small (get_or l a 0)) } in
              record {
                goes = λ after r k. c.goes after r (keep_plain_lem l a left marks arities unique met some lt t et d true rules refl (λ i. omega arith) (λ i. omega arith) met (meet_none met (get_or l a 0) t et (λ i. omega arith)) n children after r k);
                no_less = omega (arith, c.no_less);
              }

        -- a word that has no rule and opens no scope
        pub gets_light : (g : Light) → IsLight (get_or l a 0) g → Gets l at owed marks arities unique before (a + g.words) (left - 1 + g.below) met
        gets_light g h = go (ℕ_discrete (tag_of (get_or l a 0)) tag_integer)
          where
            go : Dec (tag_of (get_or l a 0) ≡ tag_integer) → Gets l at owed marks arities unique before (a + g.words) (left - 1 + g.below) met
            go (yes e) = rw ((h.integer e).0, (h.integer e).1, add-zero) (gets_integer (tag_of (get_or l a 0)) refl e)
            go (no d) =
                let p = h.plain d in
                rw (p.2, p.3) (gets_plain (tag_of (get_or l a 0)) refl d p.0 p.1)

        module _ (no_integer_word : ¬ (tag_of (get_or l a 0) ≡ tag_integer)) where
          module _ (v : Bool) (rules : Rules (get_or l a 0) marks arities unique met v) where
            pub plain_broken : not v ≡ true → KeepsPlain l at owed marks arities unique before met (Err (record { 0 = a }))
            unfolding KeepsPlain
            plain_broken f = c.goes met (Err (record { 0 = a })) (keep_broken l a left marks arities unique met some lt (tag_of (get_or l a 0)) refl no_integer_word v rules f)

            module _ (f : not v ≡ false) (t : ℕ) (et : t ≡ tag_of (get_or l a 0)) (o : Bool) (eo : o ≡ (eqb t tag_let || eqb t tag_clause)) where
              pub plain_opens : o ≡ true → KeepsPlain l at owed marks arities unique before met (Ok (Turns (record { at = a; owed = left })))
              unfolding KeepsPlain
              plain_opens e =
                  record {
                    gets = c;
                    more = some;
                    inside = lt;
                    rule = rw (not_false v f) at rules;
                    opens = elim (or_true (eqb t tag_let) (eqb t tag_clause) (sym eo ∙ e)) [ inl i ↦ inl (sym et ∙ eqb-true t tag_let i) | inr i ↦ inr (sym et ∙ eqb-true t tag_clause i) ];
                  }

              pub gets_next : o ≡ false → (now : List Bool)
                  → ((numbers : List ℕ) → Marks check_numbers met numbers → Marks check_numbers now (checks_after (tag_of (get_or l a 0)) (k_of (get_or l a 0)) numbers))
                  → (n : ℕ) → ChildCount (get_or l a 0) n → Gets l at owed marks arities unique before (a + 1) (left - 1 + n) now
              gets_next e now hm n hn =
                  let no_let : ¬ (t ≡ tag_let) = λ i. true_not_false (eo ∙ or_left (eqb t tag_clause) (eqb_of t tag_let i)) e in
                  let no_clause : ¬ (t ≡ tag_clause) = λ i. true_not_false (eo ∙ or_right (eqb t tag_let) (eqb_of t tag_clause i)) e in
                  record {
                    goes = λ after r k. c.goes after r (keep_plain_lem l a left marks arities unique met some lt t et (λ i. no_integer_word (sym et ∙ i)) v rules f no_let no_clause now hm n hn after r k);
                    no_less = omega (arith, c.no_less);
                  }

-- what comes of the words that open no scope
module _ (l : List ℕ) (at owed : ℕ) (marks : List Bool) (arities : List ℕ) (unique : Bool) (before met : List Bool) where
  pub plain_all : (g : Run) → KeepsPlain l at owed marks arities unique before met (Ok g) → (a : ℕ) → g ≡ Ends a → Keeps l at owed marks arities unique before met (Ok a)
  unfolding KeepsPlain
  plain_all g h a e = rw e at h

  pub plain_broke : (bad : BadWord) → KeepsPlain l at owed marks arities unique before met (Err bad) → (r : Result ℕ BadWord) → IsErrAnd r (λ e. e ≡ bad) → Keeps l at owed marks arities unique before met r
  unfolding KeepsPlain
  plain_broke bad h r p = rw (passed_on r bad p) h

  -- a let or a clause
  module _ (g : Run) (h : KeepsPlain l at owed marks arities unique before met (Ok g)) (turn : Ahead) (e : g ≡ Turns turn) where
    opened : Opened l at owed marks arities unique before turn.at turn.owed met
    unfolding KeepsPlain
    opened = rw e at h

    pub opened_inside : turn.at < length l
    opened_inside = opened.inside

    pub opened_more : 1 ≤ turn.owed
    opened_more = let n = opened.more in omega arith

    falls : (b : ℕ) → turn.at < b → (t : ℕ) → 2 * (length l - at) ≡ t → 2 * (length l - b) + 1 < t
    falls b lt t et = omega (arith, opened.inside, opened.gets.no_less)

    pub falls_bound : (t : ℕ) → 2 * (length l - at) ≡ t → 2 * (length l - (turn.at + 1)) < t
    falls_bound t et = let f = falls (turn.at + 1) (omega arith) t et in omega arith

    module _ (t : ℕ) (et : t ≡ tag_of (get_or l turn.at 0)) where
      module _ (i : t ≡ tag_let) (mid : List Bool) where
        no_integer : ¬ (t ≡ tag_integer)
        no_integer z = omega arith

        pub opened_let_broke : (bad : BadWord) → Keeps l (turn.at + 1) 1 marks arities unique met mid (Err bad) → (r : Result ℕ BadWord) → IsErrAnd r (λ e. e ≡ bad) → Keeps l at owed marks arities unique before mid r
        opened_let_broke bad hf r p =
            rw (passed_on r bad p) (opened.gets.goes mid (Err bad) (let_broke l turn.at turn.owed marks arities unique met opened.more opened.inside t et no_integer true opened.rule refl i mid bad hf))

        module _ (b : ℕ) (hf : Keeps l (turn.at + 1) 1 marks arities unique met mid (Ok b)) where
          pub falls_let : (m : ℕ) → 2 * (length l - at) ≡ m → 2 * (length l - b) + 1 < m
          falls_let = falls b (omega (arith, onward_past (turn.at + 1) b hf.onward))

          pub opened_let_done : (k : ℕ) → k ≡ k_of (get_or l turn.at 0) → (inner : List Bool) → ((scope : List ℕ) → Marks variables marks scope → Marks variables inner (k ∷ scope))
              → (after : List Bool) (r : Result ℕ BadWord) → KeepsBoth l b 1 (turn.owed - 1) inner marks arities unique mid after r → Keeps l at owed marks arities unique before after r
          opened_let_done k ek inner hi after r both =
              opened.gets.goes after r (let_done l turn.at turn.owed marks arities unique met opened.more opened.inside t et no_integer true opened.rule refl i mid b hf k ek inner hi after r both)

      module _ (dl : ¬ (t ≡ tag_let)) (inner : List Bool) where
        is_clause : t ≡ tag_clause
        is_clause = elim opened.opens [ inl i ↦ absurd (dl (et ∙ i)) | inr i ↦ et ∙ i ]

        no_integer' : ¬ (t ≡ tag_integer)
        no_integer' z = omega (arith, is_clause)

        pub opened_clause_broke : (bad : BadWord) → Binds l (turn.at + 1) 1 marks inner (Err bad) → (r : Result ℕ BadWord) → IsErrAnd r (λ e. e ≡ bad) → Keeps l at owed marks arities unique before met r
        opened_clause_broke bad hf r p =
            rw (passed_on r bad p) (opened.gets.goes met (Err bad) (clause_broke l turn.at turn.owed marks arities unique met opened.more opened.inside t et no_integer' true opened.rule refl dl is_clause inner bad hf))

        module _ (b : ℕ) (hf : Binds l (turn.at + 1) 1 marks inner (Ok b)) where
          pub falls_clause : (m : ℕ) → 2 * (length l - at) ≡ m → 2 * (length l - b) + 1 < m
          falls_clause = falls b (omega (arith, onward_past (turn.at + 1) b hf.onward))

          pub opened_clause_done : (after : List Bool) (r : Result ℕ BadWord) → KeepsBoth l b 2 (turn.owed - 1) inner marks arities unique met after r → Keeps l at owed marks arities unique before after r
          opened_clause_done after r both =
              opened.gets.goes after r (clause_done l turn.at turn.owed marks arities unique met opened.more opened.inside t et no_integer' true opened.rule refl dl is_clause inner b hf after r both)
