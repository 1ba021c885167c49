-- Laws of copying with values in place of variables: the steps of `copy`.
use Prim.Native.Nat.{ℕ, suc, ◌+◌, ◌-◌, ◌<◌, ◌≤◌}
use mathlib.Core.Path.{◌≡◌, refl, sym, ap, ap₂, ◌∙◌, subst}
use mathlib.Core.List.{List, [], ◌∷◌, ◌++◌}
use native.Mathlib.Omega.{arith}
use native.Mathlib.Decide.{ℕ_discrete}
use lib.ListN.{length, drop, get_or}
use Rattle.std.specs.Prelude.{Some, None}
use Rattle.lists.proofs.Tests.{eqb_of, eqb_apart}
use Rattle.term.specs.Words.{word, tag_of, n_of, integer_word, tag_integer, tag_variable, tag_cons}
use Rattle.term.specs.Table.{arity}
use Rattle.term.specs.Tree.{Term, Terms, int, node, end, ◌then◌, words, words_of, count, Head}
use Rattle.term.proofs.WordLaws.{tag_word, k_word}
use Rattle.term.proofs.TreeLaws.{◌and_all◌, words_all}
use Rattle.machine.specs.Match.{Bindings}
use Rattle.machine.specs.Bind.{bind, bind_all}
use Rattle.row_laws.specs.Rows.{Stands, Plain, PlainAll, Bound}
use Rattle.copying.specs.Copies.{Wrote, Copies, CopiedTerm, CopiedTerms, entry_of, EntryIs}
use Rattle.row_laws.proofs.RowTerms.{NodeAt, node_at, integer_at, not_integer_at, no_count, some_words, no_children}
use Rattle.row_laws.proofs.RowBind.{bind_other, bind_free, bind_bound, entry_none, entry_value}
use Rattle.copying.proofs.RowMatch.{plain_all}
use Rattle.copying.proofs.RowWrite.{wrote_none, wrote_full, wrote_then, wrote_within, wrote_length}

pub bind_all_lem : (bindings : Bindings) (us ts : Terms) → bind_all bindings (us and_all ts) ≡ bind_all bindings us and_all bind_all bindings ts
unfolding bind_all ◌and_all◌
bind_all_lem bindings end ts = refl
bind_all_lem bindings (u then us) ts = ap (λ (vs : Terms). bind bindings u then vs) (bind_all_lem bindings us ts)

-- ---- what an entry says of a variable
entry_variable : (env : List ℕ) (tag n k : ℕ) → n < 256 → k < 65536 → tag ≡ tag_variable → entry_of env (word tag n k) ≡ get_or env k 0
unfolding entry_of
entry_variable env tag n k hn hk e = rw (eqb_of (tag_of (word tag n k)) tag_variable (tag_word tag n k hn hk ∙ e), k_word tag n k hk)

entry_other : (env : List ℕ) (tag n k : ℕ) → n < 256 → k < 65536 → ¬ (tag ≡ tag_variable) → entry_of env (word tag n k) ≡ 0
unfolding entry_of
entry_other env tag n k hn hk d = rw (eqb_apart (tag_of (word tag n k)) tag_variable (λ z. d (sym (tag_word tag n k hn hk) ∙ z)))

entry_integer : (env : List ℕ) → entry_of env integer_word ≡ 0
unfolding entry_of
entry_integer env = refl

-- a word that no value stands for is copied as it is
kept : (values env : List ℕ) (bindings : Bindings) → Bound values env bindings → (tag n k : ℕ) (us : Terms) → Plain (node tag n k us) → entry_of env (word tag n k) ≡ 0
    → words (bind bindings (node tag n k us)) ≡ word tag n k ∷ words_of (bind_all bindings us)
unfolding Bound Plain words words_of bind_all
kept values env bindings b tag n k us h z = go (ℕ_discrete tag tag_variable)
  where
    go : Dec (tag ≡ tag_variable) → words (bind bindings (node tag n k us)) ≡ word tag n k ∷ words_of (bind_all bindings us)
    go (no d) = ap words (bind_other bindings tag n k us d)
    go (yes e) =
        let o = entry_none values (get_or env k 0) (bindings k) (b k) (sym (entry_variable env tag n k h.0.n_fits h.0.k_fits e) ∙ z) in
        let none_below = no_children tag n k us h (omega (arith, e)) in
        ap words (bind_free bindings tag n k us e o) ∙ ap (λ (ws : List ℕ). word tag n k ∷ ws) (ap words_of none_below ∙ sym (ap (λ (vs : Terms). words_of (bind_all bindings vs)) none_below))

plain_node : (tag n k : ℕ) (us : Terms) → Head tag n k (count us) × ((tag < tag_cons → n ≡ 0) × (tag ≡ tag_variable → k < 64)) × PlainAll us → Plain (node tag n k us)
unfolding Plain
plain_node tag n k us h = h

-- ---- the steps of `copy`
nothing : (bindings : Bindings) → words_of (bind_all bindings end) ≡ []
unfolding bind_all words_of
nothing bindings = refl

more : (bindings : Bindings) (t : Term) (ts : Terms) → words_of (bind_all bindings (t then ts)) ≡ words (bind bindings t) ++ words_of (bind_all bindings ts)
unfolding bind_all words_of
more bindings t ts = refl

integer_words : (bindings : Bindings) (x : ℕ) → words (bind bindings (int x)) ≡ integer_word ∷ x ∷ []
unfolding bind words
integer_words bindings x = refl

module _ (src : List ℕ) (at p : ℕ) (values env : List ℕ) (to : ℕ) (o : List ℕ) where
  none_copies : to ≤ suc (length o) → p ≡ 0 → Copies src at p values env to o o to
  unfolding Copies count
  none_copies room z end rest bindings h s e b = subst (λ (ws : List ℕ). Wrote ws to o o to) (sym (nothing bindings)) (wrote_none o to room)
  none_copies room z (t then ts) rest bindings h s e b = absurd (omega arith)

  module _ (nz : ¬ (p ≡ 0)) (en : ℕ) (ee : en ≡ entry_of env (get_or src at 0)) where
    value_copies : ¬ (en ≡ 0) → (b r : ℕ) (mid new : List ℕ) → CopiedTerm values (en - 1) to o mid b → Copies src (at + 1) (p - 1) values env b mid new r → Copies src at p values env to o new r
    unfolding Copies count PlainAll Plain Bound ◌and_all◌
    value_copies d b r mid new one ih end rest bindings h s e bound = absurd (omega arith)
    value_copies d b r mid new one ih (int x then ts) rest bindings h s e bound = absurd (d (ee ∙ ap (entry_of env) (integer_at src at x ts rest e).head ∙ entry_integer env))
    value_copies d b r mid new one ih (node tag n k us then ts) rest bindings h s e bound =
        let q = node_at src at p _ tag n k us ts rest h.0.0 s e refl in
        let w : en ≡ entry_of env (word tag n k) = ee ∙ ap (entry_of env) q.head in
        by_tag q w (ℕ_discrete tag tag_variable)
      where
        by_tag : NodeAt src at (p - 1 + arity (tag_of (get_or src at 0)) (n_of (get_or src at 0))) tag n k us ts rest → en ≡ entry_of env (word tag n k) → Dec (tag ≡ tag_variable) → Wrote (words_of (bind_all bindings (node tag n k us then ts))) to o new r
        by_tag q w (no t) = absurd (d (w ∙ entry_other env tag n k h.0.0.n_fits h.0.0.k_fits t))
        by_tag q w (yes t) =
            let ge : en ≡ get_or env k 0 = w ∙ entry_variable env tag n k h.0.0.n_fits h.0.0.k_fits t in
            let v = entry_value values (get_or env k 0) (bindings k) (bound k) (λ y. d (ge ∙ y)) in
            let none_below = no_children tag n k us (plain_node tag n k us h.0) (omega (arith, t)) in
            let on : drop (at + 1) src ≡ words_of ts ++ rest = q.on ∙ ap (λ (x : Terms). words_of (x and_all ts) ++ rest) none_below in
            let st : Stands values (en - 1) v.term = subst (λ (i : ℕ). Stands values (i - 1) v.term) (sym ge) v.stands in
            subst (λ (ws : List ℕ). Wrote ws to o new r) (sym (more bindings (node tag n k us) ts ∙ ap (λ (x : Term). words x ++ words_of (bind_all bindings ts)) (bind_bound bindings tag n k us v.term t v.is)))
            (wrote_then (words v.term) (words_of (bind_all bindings ts)) to b o mid new r (one.copies v.term st) (ih ts rest bindings h.1 (omega arith) on bound))

    module _ (z : en ≡ 0) (b : ℕ) (mid : List ℕ) (one : Wrote (get_or src at 0 ∷ []) to o mid b) (g : ℕ) (eg : g ≡ tag_of (get_or src at 0)) where
      short_copies : g ≡ tag_integer → length src - at < 2 → Copies src at p values env to o mid b
      unfolding Copies count PlainAll Plain
      short_copies i short end rest bindings h s e bound = absurd (omega arith)
      short_copies i short (int x then ts) rest bindings h s e bound = absurd (omega (arith, (integer_at src at x ts rest e).within))
      short_copies i short (node tag n k us then ts) rest bindings h s e bound = absurd (not_integer_at src at tag n k us ts rest g h.0.0 e eg i)

      integer_copies : g ≡ tag_integer → (d r : ℕ) (mid' new : List ℕ) → Wrote (get_or src (at + 1) 0 ∷ []) b mid mid' d → Copies src (at + 2) (p - 1) values env d mid' new r → Copies src at p values env to o new r
      unfolding Copies count PlainAll Plain
      integer_copies i d r mid' new two ih end rest bindings h s e bound = absurd (omega arith)
      integer_copies i d r mid' new two ih (int x then ts) rest bindings h s e bound =
          let q = integer_at src at x ts rest e in
          let w = wrote_then (get_or src at 0 ∷ []) (get_or src (at + 1) 0 ∷ []) to b o mid mid' d one two in
          let ws : get_or src at 0 ∷ get_or src (at + 1) 0 ∷ [] ≡ words (bind bindings (int x)) = ap₂ (λ (i j : ℕ). i ∷ j ∷ []) q.head q.payload ∙ sym (integer_words bindings x) in
          subst (λ (vs : List ℕ). Wrote vs to o new r) (ap (λ (vs : List ℕ). vs ++ words_of (bind_all bindings ts)) ws ∙ sym (more bindings (int x) ts))
          (wrote_then (get_or src at 0 ∷ get_or src (at + 1) 0 ∷ []) (words_of (bind_all bindings ts)) to d o mid' new r w (ih ts rest bindings h.1 (omega arith) q.on bound))
      integer_copies i d r mid' new two ih (node tag n k us then ts) rest bindings h s e bound = absurd (not_integer_at src at tag n k us ts rest g h.0.0 e eg i)

      node_copies : ¬ (g ≡ tag_integer) → (c r : ℕ) (new : List ℕ) → c ≡ arity (tag_of (get_or src at 0)) (n_of (get_or src at 0)) → Copies src (at + 1) (p - 1 + c) values env b mid new r
          → Copies src at p values env to o new r
      unfolding Copies PlainAll Plain
      node_copies i c r new ec ih end rest bindings h s e bound = absurd (nz (sym s ∙ no_count))
      node_copies i c r new ec ih (int x then ts) rest bindings h s e bound = absurd (i (eg ∙ (integer_at src at x ts rest e).tag_is))
      node_copies i c r new ec ih (node tag n k us then ts) rest bindings h s e bound =
          let q = node_at src at p c tag n k us ts rest h.0.0 s e ec in
          let kp = kept values env bindings bound tag n k us (plain_node tag n k us h.0) (sym (ee ∙ ap (entry_of env) q.head) ∙ z) in
          let w = ih (us and_all ts) rest bindings (plain_all us ts h.0.2 h.1) q.count_is q.on bound in
          let y : get_or src at 0 ∷ words_of (bind_all bindings (us and_all ts)) ≡ words_of (bind_all bindings (node tag n k us then ts)) =
          ap₂ (λ (i : ℕ) (vs : List ℕ). i ∷ vs) q.head (ap words_of (bind_all_lem bindings us ts) ∙ words_all (bind_all bindings us) (bind_all bindings ts))
          ∙ ap (λ (vs : List ℕ). vs ++ words_of (bind_all bindings ts)) (sym kp) ∙ sym (more bindings (node tag n k us) ts) in
          subst (λ (vs : List ℕ). Wrote vs to o new r) y (wrote_then (get_or src at 0 ∷ []) (words_of (bind_all bindings (us and_all ts))) to b o mid new r one w)

module _ (src : List ℕ) (at p : ℕ) (values env : List ℕ) (to : ℕ) (o : List ℕ) (room : to ≤ suc (length o)) where
  pub copy_none : p ≡ 0 → CopiedTerms src at p values env to o o to
  copy_none z = record { copies = none_copies src at p values env to o room z; within = room }

  pub copy_past : ¬ (p ≡ 0) → length src ≤ at → CopiedTerms src at p values env to o o to
  unfolding Copies
  copy_past nz past = record { copies = λ ts rest bindings h s e b. absurd (omega (arith, some_words src at p ts rest nz (omega arith) e)); within = room }

  pub copy_full : length o < to → CopiedTerms src at p values env to o o to
  unfolding Copies
  copy_full f = record { copies = λ ts rest bindings h s e b. wrote_full (words_of (bind_all bindings ts)) o to room f; within = room }

  module _ (nz : ¬ (p ≡ 0)) where
    pub copy_value : (place : ℕ) → EntryIs env (get_or src at 0) (Some place) → (b r : ℕ) (mid new : List ℕ) → CopiedTerm values place to o mid b → length mid ≡ length o
        → CopiedTerms src (at + 1) (p - 1) values env b mid new r → CopiedTerms src at p values env to o new r
    copy_value place e b r mid new one len ih =
        let there : place ≡ place + 1 - 1 = omega arith in
        record {
          copies = value_copies src at p values env to o nz (place + 1) (sym e) (λ z. omega arith) b r mid new (subst (λ (j : ℕ). CopiedTerm values j to o mid b) there one) ih.copies;
          within = omega (arith, ih.within, len);
        }

    module _ (z : EntryIs env (get_or src at 0) None) (b : ℕ) (mid : List ℕ) (one : Wrote (get_or src at 0 ∷ []) to o mid b) (g : ℕ) (eg : g ≡ tag_of (get_or src at 0)) where
      pub copy_short : g ≡ tag_integer → length src - at < 2 → CopiedTerms src at p values env to o mid b
      copy_short i short = record { copies = short_copies src at p values env to o nz _ refl z b mid one g eg i short; within = wrote_within _ to o mid b one }

      pub copy_integer : g ≡ tag_integer → (d r : ℕ) (mid' new : List ℕ) → Wrote (get_or src (at + 1) 0 ∷ []) b mid mid' d → CopiedTerms src (at + 2) (p - 1) values env d mid' new r
          → CopiedTerms src at p values env to o new r
      copy_integer i d r mid' new two ih =
          record { copies = integer_copies src at p values env to o nz _ refl z b mid one g eg i d r mid' new two ih.copies; within = omega (arith, ih.within, wrote_length _ to o mid b one, wrote_length _ b mid mid' d two) }

      pub copy_node : ¬ (g ≡ tag_integer) → (c r : ℕ) (new : List ℕ) → c ≡ arity (tag_of (get_or src at 0)) (n_of (get_or src at 0)) → CopiedTerms src (at + 1) (p - 1 + c) values env b mid new r
          → CopiedTerms src at p values env to o new r
      copy_node i c r new ec ih = record { copies = node_copies src at p values env to o nz _ refl z b mid one g eg i c r new ec ih.copies; within = omega (arith, ih.within, wrote_length _ to o mid b one) }
