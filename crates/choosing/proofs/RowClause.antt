-- Laws of clauses in rows: the steps of `takes` and `choose`.
use Prim.Native.Nat.{ℕ, zero, suc, ◌+◌, ◌-◌, ◌≤◌}
use mathlib.Core.Path.{◌≡◌, refl, sym, ap, ◌∙◌, subst}
use mathlib.Core.Bool.{Bool, true, false, cond, not, ◌&&◌}
use mathlib.Core.Option.{Option as Maybe, none, some}
use mathlib.Core.List.{List, ◌++◌, append_assoc, append-nil}
use native.Mathlib.Omega.{arith}
use native.Mathlib.Decide.{ℕ_discrete}
use lib.Dec.{eqb, leb}
use lib.ListN.{length, drop, get_or, replicate}
use Rattle.std.specs.Prelude.{Option, Some, None}
use Rattle.lists.proofs.Tests.{eqb_of, eqb_apart, cond_true, cond_false, none_not_some, some_injective, true_not_false, not_true, not_false, and_left, and_right}
use Rattle.term.specs.Words.{tag_variable, tag_atom, tag_tuple}
use Rattle.term.specs.Rows.{passed}
use Rattle.term.specs.Tree.{Term, Terms, int, node, end, ◌then◌, words, words_of, count}
use Rattle.term.specs.Value.{is_value, are_values}
use Rattle.term.proofs.TreeLaws.{all_end}
use Rattle.machine.specs.Match.{Bindings, unbound, with, children_of, is_integer, match, match_all}
use Rattle.machine.specs.Bind.{bind}
use Rattle.machine.specs.Guard.{guard_holds}
use Rattle.machine.specs.Clauses.{if_holds, parts_take, clause_takes, first_clause}
use Rattle.row_laws.specs.Rows.{Stands, Plain, PlainAll, Entry, Bound}
use Rattle.copying.specs.Matching.{Matched, Matches}
use Rattle.operands.specs.Guards.{OfValues, HoldsAt}
use Rattle.choosing.specs.Clausal.{ClauseIs, AreClauses, is_some, TakesAt, ChosenIs, ChoosesAt}
use Rattle.row_laws.proofs.RowTerms.{node_at, some_words, one_skip, past_term, plain_whole, as_row, one_term, stands_within}
use Rattle.copying.proofs.RowMatch.{match_then, match_variable, match_node, onward, below}
use Rattle.operands.proofs.RowGuard.{third}

-- ---- what a match binds are values
with_values : (k : ℕ) (v : Term) (bindings : Bindings) → is_value v ≡ true → OfValues bindings → OfValues (with k v bindings)
unfolding OfValues with
with_values k v bindings e o j t = go (ℕ_discrete k j)
  where
    go : Dec (k ≡ j) → cond (eqb k j) (some v) (bindings j) ≡ some t → is_value t ≡ true
    go (yes y) q = ap is_value (sym (some_injective (sym (cond_true (some v) (bindings j) (eqb_of k j y)) ∙ q))) ∙ e
    go (no y) q = o j t (sym (cond_false (some v) (bindings j) (eqb_apart k j y)) ∙ q)

unfoldable pub BindsValues : Maybe Bindings → Type 0
BindsValues o = (bindings : Bindings) → o ≡ some bindings → OfValues bindings

none_binds : BindsValues none
unfolding BindsValues
none_binds bindings e = none_not_some e

some_binds : (bindings : Bindings) → OfValues bindings → BindsValues (some bindings)
unfolding BindsValues
some_binds bindings o bindings' e = subst OfValues (some_injective e) o

children_values : (tag n k : ℕ) (v : Term) (vs : Terms) → is_value v ≡ true → children_of tag n k v ≡ some vs → are_values vs ≡ true
unfolding children_of is_value
children_values tag n k (int y) vs h e = none_not_some e
children_values tag n k (node tag' n' k' us) vs h e = go (eqb tag tag' && eqb n n' && eqb k k') e
  where
    go : (b : Bool) → cond b (some us) none ≡ some vs → are_values vs ≡ true
    go true q = ap are_values (sym (some_injective q)) ∙ third (leb tag_atom tag') (leb tag' tag_tuple) (are_values us) h
    go false q = none_not_some q

integer_binds : (bindings : Bindings) (b : Bool) → OfValues bindings → BindsValues (cond b (some bindings) none)
integer_binds bindings true o = some_binds bindings o
integer_binds bindings false o = none_binds

under_binds : (tag n k : ℕ) (ps : Terms) (v : Term) (bindings : Bindings) → is_value v ≡ true → OfValues bindings → ((vs : Terms) → are_values vs ≡ true → BindsValues (match_all ps vs bindings))
    → BindsValues (match (node tag n k ps) v bindings)
under_binds tag n k ps v bindings h o ih = by_tag (ℕ_discrete tag tag_variable)
  where
    under : (c : Maybe Terms) → children_of tag n k v ≡ c → BindsValues (below c ps bindings)
    under none e = none_binds
    under (some vs) e = ih vs (children_values tag n k v vs h e)

    by_tag : Dec (tag ≡ tag_variable) → BindsValues (match (node tag n k ps) v bindings)
    by_tag (yes e) = subst BindsValues (sym (match_variable tag n k ps v bindings e)) (some_binds (with k v bindings) (with_values k v bindings h o))
    by_tag (no d) = subst BindsValues (sym (match_node tag n k ps v bindings d)) (under (children_of tag n k v) refl)

next_binds : (c : Maybe Bindings) (ps vs : Terms) → BindsValues c → ((bindings : Bindings) → OfValues bindings → BindsValues (match_all ps vs bindings)) → BindsValues (onward c ps vs)
unfolding BindsValues
next_binds none ps vs b ih = none_binds
next_binds (some bindings) ps vs b ih = ih bindings (b bindings refl)

mutual
  unfolding match match_all are_values

  pub match_values : (p v : Term) (bindings : Bindings) → is_value v ≡ true → OfValues bindings → BindsValues (match p v bindings)
  match_values (int x) v bindings h o = integer_binds bindings (is_integer x v) o
  match_values (node tag n k ps) v bindings h o = under_binds tag n k ps v bindings h o (λ vs g. matches_values ps vs bindings g o)

  matches_values : (ps vs : Terms) (bindings : Bindings) → are_values vs ≡ true → OfValues bindings → BindsValues (match_all ps vs bindings)
  matches_values end end bindings h o = some_binds bindings o
  matches_values end (v then vs) bindings h o = none_binds
  matches_values (p then ps) end bindings h o = none_binds
  matches_values (p then ps) (v then vs) bindings h o =
      subst BindsValues (sym (match_then p ps v vs bindings))
      (next_binds (match p v bindings) ps vs (match_values p v bindings (and_left (is_value v) (are_values vs) h) o) (λ bindings' g. matches_values ps vs bindings' (and_right (is_value v) (are_values vs) h) g))

-- ---- the parts of a clause in its row
pub record PartsAt (c : List ℕ) (at : ℕ) (t : Term) (i : ClauseIs t) : Type 0 where
  pub rest : List ℕ
  pub plain_pattern : Plain i.pattern
  pub plain_guard : Plain i.guard
  pub plain_body : Plain i.body
  pub on_pattern : drop (at + 1) c ≡ words i.pattern ++ (words i.guard ++ (words i.body ++ rest))

three_words : (p g b : Term) → words_of (p then (g then (b then end))) ≡ words p ++ (words g ++ words b)
unfolding words_of
three_words p g b = ap (λ (l : List ℕ). words p ++ (words g ++ l)) (append-nil (words b))

pub parts_at : (c : List ℕ) (at : ℕ) (t : Term) (i : ClauseIs t) → Stands c at t → PartsAt c at t i
unfolding Plain PlainAll
parts_at c at t i s =
    let p : Plain (node i.tag i.n i.k (i.pattern then (i.guard then (i.body then end)))) = subst Plain i.is s.plain in
    let e : drop at c ≡ words (node i.tag i.n i.k (i.pattern then (i.guard then (i.body then end)))) ++ s.rest = s.here ∙ ap (λ (u : Term). words u ++ s.rest) i.is in
    let q = node_at c at 1 _ i.tag i.n i.k (i.pattern then (i.guard then (i.body then end))) end s.rest p.0 (one_term _) (as_row c at _ s.rest e) refl in
    record {
      rest = s.rest;
      plain_pattern = p.2.0;
      plain_guard = p.2.1.0;
      plain_body = p.2.1.1.0;
      on_pattern =
          q.on ∙ ap (λ (us : Terms). words_of us ++ s.rest) (all_end (i.pattern then (i.guard then (i.body then end)))) ∙ ap (λ (l : List ℕ). l ++ s.rest) (three_words i.pattern i.guard i.body)
          ∙ append_assoc (words i.pattern) (words i.guard ++ words i.body) s.rest ∙ ap (λ (l : List ℕ). words i.pattern ++ l) (append_assoc (words i.guard) (words i.body) s.rest);
    }

-- no variable is bound at the start
zero_entry : (n k : ℕ) → ◌≡◌ {A = ℕ} (get_or (replicate n 0) k 0) 0
zero_entry zero k = refl
zero_entry (suc n) zero = refl
zero_entry (suc n) (suc k) = zero_entry n k

pub nothing_bound : (v : List ℕ) (n : ℕ) → Bound v (replicate n 0) unbound
unfolding Bound Entry
nothing_bound v n k = subst (λ (i : ℕ). Entry v i none) (sym (zero_entry n k)) refl

none_of_values : OfValues unbound
unfolding OfValues
none_of_values k t e = none_not_some e

-- ---- what a clause takes
abbrev pub when_holds : Bool → Term → Maybe Term
when_holds true body = some body
when_holds false body = none

abbrev pub body_under : Maybe Bindings → Term → Term → Maybe Term
body_under none guard body = none
body_under (some bindings) guard body = when_holds (guard_holds (bind bindings guard)) (bind bindings body)

takes_parts : (u : Term) (tag n k : ℕ) (pattern guard body : Term) → clause_takes u (node tag n k (pattern then (guard then (body then end)))) ≡ body_under (match pattern u unbound) guard body
unfolding clause_takes parts_take if_holds
takes_parts u tag n k pattern guard body = go (match pattern u unbound)
  where
    held : (b : Bool) (t : Term) → ◌≡◌ {A = Maybe Term} (elim b [ true ↦ some t | false ↦ none ]) (when_holds b t)
    held true t = refl
    held false t = refl

    go : (o : Maybe Bindings) → ◌≡◌ {A = Maybe Term} (elim o [ none ↦ none | some bindings ↦ elim (guard_holds (bind bindings guard)) [ true ↦ some (bind bindings body) | false ↦ none ] ]) (body_under o guard body)
    go none = refl
    go (some bindings) = held (guard_holds (bind bindings guard)) (bind bindings body)

pub takes_is : (u t : Term) (i : ClauseIs t) → clause_takes u t ≡ body_under (match i.pattern u unbound) i.guard i.body
takes_is u t i = ap (clause_takes u) i.is ∙ takes_parts u i.tag i.n i.k i.pattern i.guard i.body

matches_end : (b : Bindings) → match_all end end b ≡ some b
unfolding match_all
matches_end b = refl

pub sixty_four : length (replicate {A = ℕ} 64 0) ≡ 64
sixty_four = refl

is_some_lem : (b : Bool) (t : Term) → is_some (when_holds b t) ≡ b
unfolding is_some
is_some_lem true t = refl
is_some_lem false t = refl

some_of : (o : Maybe Term) → is_some o ≡ true → (t : Term) × (o ≡ some t)
unfolding is_some
some_of none e = true_not_false e refl
some_of (some t) e = (t, refl)

none_of : (o : Maybe Term) → is_some o ≡ false → o ≡ none
unfolding is_some
none_of none e = refl
none_of (some t) e = true_not_false refl e

some_long : (t : Term) → 1 ≤ length (words t)
unfolding words
some_long (int x) = omega arith
some_long (node tag n k ts) = omega arith

later : (c : List ℕ) (u x : Term) (xs : Terms) (r : Option ℕ) → first_clause u (x then xs) ≡ first_clause u xs → ChosenIs c u xs r → ChosenIs c u (x then xs) r
unfolding ChosenIs
later c u x xs (Some at) e h = record { clause = h.clause; body = h.body; stands = h.stands; is_clause = h.is_clause; takes = h.takes; first = e ∙ h.first }
later c u x xs None e h = e ∙ h

-- the match of one pattern against one value
match_one : (p v : Term) (bindings : Bindings) → match_all (p then end) (v then end) bindings ≡ match p v bindings
match_one p v bindings = match_then p end v end bindings ∙ go (match p v bindings)
  where
    go : (o : Maybe Bindings) → onward o end end ≡ o
    go none = refl
    go (some b) = matches_end b

-- what matching the pattern found
pub matched_one : (c : List ℕ) (at : ℕ) (v : List ℕ) (va : ℕ) (env : List ℕ) (r : Bool) → Matches c (at + 1) v va 1 (replicate 64 0) env r → (t u : Term) (i : ClauseIs t) → Stands c at t → Stands v va u
    → Matched v env (match i.pattern u unbound) r
unfolding Matches PlainAll count
matched_one c at v va env r m t u i s w =
    let q = parts_at c at t i s in
    subst (λ (o : Maybe Bindings). Matched v env o r) (match_one i.pattern u unbound)
    (m (i.pattern then end) (u then end) _ w.rest unbound (q.plain_pattern, tt) (w.plain, tt) refl refl (as_row c (at + 1) i.pattern _ q.on_pattern) (as_row v va u w.rest w.here) sixty_four (nothing_bound v 64))

module _ (c : List ℕ) (at : ℕ) (v : List ℕ) (va : ℕ) where
  pub takes_past : length c ≤ at → TakesAt c at v va false
  unfolding TakesAt
  takes_past h t u i s w e = absurd (omega (arith, stands_within c at t s))

  module _ (env : List ℕ) (b : Bool) (m : Matches c (at + 1) v va 1 (replicate 64 0) env b) where
    pub takes_not : not b ≡ true → TakesAt c at v va false
    unfolding TakesAt Matched is_some
    takes_not e t u i s w y =
        let q : Matched v env (match i.pattern u unbound) false = subst (Matched v env (match i.pattern u unbound)) (not_true b e) (matched_one c at v va env b m t u i s w) in
        sym (ap is_some (takes_is u t i ∙ ap (λ (o : Maybe Bindings). body_under o i.guard i.body) q))

    pub takes_holds : not b ≡ false → (middle : ℕ) (r : Bool) → middle ≡ at + 1 + passed (drop (at + 1) c) 1 → HoldsAt c middle v env r → TakesAt c at v va r
    unfolding TakesAt Matched HoldsAt is_some BindsValues
    takes_holds e middle r em h t u i s w y =
        let q : Matched v env (match i.pattern u unbound) true = subst (Matched v env (match i.pattern u unbound)) (not_false b e) (matched_one c at v va env b m t u i s w) in
        let p = parts_at c at t i s in
        let me = one_skip c (at + 1) middle i.pattern _ em (plain_whole i.pattern p.plain_pattern) p.on_pattern in
        let on : drop middle c ≡ words i.guard ++ (words i.body ++ p.rest) = ap (λ (j : ℕ). drop j c) me ∙ past_term c (at + 1) i.pattern _ p.on_pattern in
        let g = h i.guard _ q.0 p.plain_guard i.is_guard on q.2 (match_values i.pattern u unbound y none_of_values q.0 q.1) in
        g ∙ sym (ap is_some (takes_is u t i ∙ ap (λ (o : Maybe Bindings). body_under o i.guard i.body) q.1) ∙ is_some_lem (guard_holds (bind q.0 i.guard)) (bind q.0 i.body))

-- ---- the first clause
abbrev first_of : Maybe Term → Term → Terms → Maybe Term
first_of none u clauses = first_clause u clauses
first_of (some b) u clauses = some b

first_is : (u t : Term) (clauses : Terms) → first_clause u (t then clauses) ≡ first_of (clause_takes u t) u clauses
unfolding first_clause
first_is u t clauses = go (clause_takes u t)
  where
    go : (o : Maybe Term) → ◌≡◌ {A = Maybe Term} (elim o [ some body ↦ some body | none ↦ first_clause u clauses ]) (first_of o u clauses)
    go none = refl
    go (some b) = refl

module _ (c : List ℕ) (at n : ℕ) (v : List ℕ) (va : ℕ) where
  pub choose_none : n ≡ 0 → ChoosesAt c at n v va None
  unfolding ChoosesAt ChosenIs count first_clause
  choose_none z end rest u p i s e w y = refl
  choose_none z (t then ts) rest u p i s e w y = absurd (omega arith)

  module _ (nz : ¬ (n ≡ 0)) where
    pub choose_past : (r : Option ℕ) → length c ≤ at → ChoosesAt c at n v va r
    unfolding ChoosesAt
    choose_past r h ts rest u p i s e w y = absurd (omega (arith, some_words c at n ts rest nz (omega arith) e))

    module _ (b : Bool) (t : TakesAt c at v va b) where
      pub choose_takes : b ≡ true → ChoosesAt c at n v va (Some at)
      unfolding ChoosesAt ChosenIs count PlainAll AreClauses words_of TakesAt
      choose_takes f end rest u p i s e w y = absurd (omega arith)
      choose_takes f (x then xs) rest u p i s e w y =
          let st : Stands c at x = record { plain = p.0; rest = words_of xs ++ rest; here = e ∙ append_assoc (words x) (words_of xs) rest } in
          let z = some_of (clause_takes u x) (sym (t x u i.0 st w y) ∙ f) in
          record { clause = x; body = z.0; stands = st; is_clause = i.0; takes = z.1; first = first_is u x xs ∙ ap (λ (o : Maybe Term). first_of o u xs) z.1 }

      module _ (f : b ≡ false) (next : ℕ) (en : next ≡ at + passed (drop at c) 1) where
        ends_at : (x : Term) (xs : Terms) (rest : List ℕ) → Plain x → drop at c ≡ words_of (x then xs) ++ rest → (next ≡ at + length (words x)) × (drop next c ≡ words_of xs ++ rest)
        unfolding words_of
        ends_at x xs rest p e =
            let d = e ∙ append_assoc (words x) (words_of xs) rest in
            let m = one_skip c at next x (words_of xs ++ rest) en (plain_whole x p) d in
            (m, ap (λ (j : ℕ). drop j c) m ∙ past_term c at x (words_of xs ++ rest) d)

        pub choose_broken : (r : Option ℕ) → next ≤ at → ChoosesAt c at n v va r
        unfolding ChoosesAt count PlainAll
        choose_broken r h end rest u p i s e w y = absurd (omega arith)
        choose_broken r h (x then xs) rest u p i s e w y = absurd (omega (arith, (ends_at x xs rest p.0 e).0, some_long x))

        pub choose_next : (r : Option ℕ) → ChoosesAt c next (n - 1) v va r → ChoosesAt c at n v va r
        unfolding ChoosesAt count PlainAll AreClauses words_of TakesAt
        choose_next r ih end rest u p i s e w y = absurd (omega arith)
        choose_next r ih (x then xs) rest u p i s e w y =
            let st : Stands c at x = record { plain = p.0; rest = words_of xs ++ rest; here = e ∙ append_assoc (words x) (words_of xs) rest } in
            let z = none_of (clause_takes u x) (sym (t x u i.0 st w y) ∙ f) in
            later c u x xs r (first_is u x xs ∙ ap (λ (o : Maybe Term). first_of o u xs) z) (ih xs rest u p.1 i.1 (omega arith) (ends_at x xs rest p.0 e).1 w y)
