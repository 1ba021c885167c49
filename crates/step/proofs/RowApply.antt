-- Laws of apply: the places of a function's parameters, and its body in the module.
use Prim.Native.Nat.{ℕ, zero, suc, ◌+◌, ◌-◌, ◌<◌, ◌≤◌}
use mathlib.Core.Path.{◌≡◌, refl, sym, ap, ◌∙◌, subst}
use mathlib.Core.Option.{some}
use mathlib.Core.List.{List}
use native.Mathlib.Omega.{arith}
use native.Mathlib.Numerals.{add-one}
use lib.ListN.{length, drop, get_or, set, replicate}
use Rattle.std.specs.Prelude.{Err}
use Rattle.lists.proofs.Tests.{none_not_some, some_injective}
use Rattle.term.specs.Words.{n_of, k_of, tag_apply}
use Rattle.term.specs.Rows.{passed}
use Rattle.term.specs.Places.{start_from}
use Rattle.term.specs.Tree.{Term, Terms, node, end, ◌then◌, words_of, count, rest}
use Rattle.term.specs.Module.{function_of}
use Rattle.term.proofs.PlaceLaws.{function_stands}
use Rattle.machine.specs.Match.{unbound}
use Rattle.machine.specs.Bind.{bind, parameters}
use Rattle.row_laws.specs.Rows.{Stands, Plain, PlainAll, Bound}
use Rattle.copying.specs.Nexts.{Puts, PutsCopy}
use Rattle.step.specs.Steps.{Next, fitted_of, ParametersAt, ModuleIs, ApplyNext}
use Rattle.step.specs.declared.step.NoNext.TheVariants.{Nothing}
use Rattle.row_laws.proofs.RowTerms.{some_words, plain_all_whole, stands_within}
use Rattle.copying.proofs.RowMatch.{bound_more}
use Rattle.choosing.proofs.RowClause.{nothing_bound, sixty_four}
use Rattle.step.proofs.RowStep.{children_at, first_stands, others_plain, others_on, wrote_next, next_some}

module _ (c : List ℕ) (at m x : ℕ) (env : List ℕ) where
  pub parameters_none : m ≡ 0 → ParametersAt c at m x env env
  unfolding ParametersAt count parameters
  parameters_none z end rest bindings p s e l b = b
  parameters_none z (v then vs) rest bindings p s e l b = absurd (omega arith)

  module _ (nz : ¬ (m ≡ 0)) where
    pub parameters_past : length c ≤ at → ParametersAt c at m x env env
    unfolding ParametersAt
    parameters_past h vs rest bindings p s e l b = absurd (omega (arith, some_words c at m vs rest nz (omega arith) e))

    pub parameters_high : length env ≤ x → ParametersAt c at m x env env
    unfolding ParametersAt
    parameters_high h vs rest bindings p s e l b = absurd (omega arith)

    pub parameters_more : (next : ℕ) (mid : List ℕ) → next ≡ at + passed (drop at c) 1 → x < length env → length mid ≡ length env → ParametersAt c next (m - 1) (x + 1) env mid → ParametersAt c at m x env (set mid x (at + 1))
    unfolding ParametersAt count parameters
    parameters_more next mid en h len ih end rest bindings p s e l b = absurd (omega arith)
    parameters_more next mid en h len ih (v then vs) rest bindings p s e l b =
        let on = others_on c at next v vs rest p e en in
        let q = ih vs rest bindings (others_plain v vs p) (omega arith) on (omega arith) b in
        let r : Bound c mid (parameters (suc x) vs bindings) = subst (λ (j : ℕ). Bound c mid (parameters j vs bindings)) (add-one x) q in
        bound_more c mid (parameters (suc x) vs bindings) x at v r (omega (arith, len)) (first_stands c at v vs rest p e)

-- a function of a module is plain
plain_function : (functions : Terms) (k : ℕ) (f : Term) → PlainAll functions → function_of functions k ≡ some f → Plain f
unfolding function_of PlainAll
plain_function end k f p e = none_not_some e
plain_function (g then gs) zero f p e = subst Plain (some_injective e) p.0
plain_function (g then gs) (suc k) f p e = plain_function gs k f p.1 e

-- and stands in it where it begins
body_stands : (module' : List ℕ) (functions : Terms) (k tag m j : ℕ) (body : Term) → ModuleIs module' functions → function_of functions k ≡ some (node tag m j (body then end)) → (start : ℕ) → start ≡ start_from module' 0 k
    → Stands module' start (node tag m j (body then end))
body_stands module' functions k tag m j body i e start es =
    record {
      plain = plain_function functions k (node tag m j (body then end)) i.plain e;
      rest = words_of (rest (suc k) functions);
      here = ap (λ (a : ℕ). drop a module') es ∙ function_stands functions module' k (node tag m j (body then end)) (plain_all_whole functions i.plain) i.same_words e;
    }

module _ (module' c : List ℕ) (at : ℕ) (old : List ℕ) where
  pub apply_past : length c ≤ at → ApplyNext module' c at old old (Err Nothing)
  unfolding ApplyNext
  apply_past h functions n k tag m j vs body i s a l e = absurd (omega (arith, stands_within c at _ s))

  module _ (start kk : ℕ) (es : start ≡ start_from module' 0 kk) (ek : kk ≡ k_of (get_or c at 0)) where
    starts : (functions : Terms) (n k tag m j : ℕ) (vs : Terms) (body : Term) → ModuleIs module' functions → Stands c at (node tag_apply n k vs) → function_of functions k ≡ some (node tag m j (body then end))
        → Stands module' start (node tag m j (body then end))
    starts functions n k tag m j vs body i s e = body_stands module' functions k tag m j body i e start (es ∙ ap (start_from module' 0) (ek ∙ (children_at c at tag_apply n k vs s).k_is))

    pub apply_missing : length module' ≤ start → ApplyNext module' c at old old (Err Nothing)
    unfolding ApplyNext
    apply_missing h functions n k tag m j vs body i s a l e = absurd (omega (arith, stands_within module' start _ (starts functions n k tag m j vs body i s e)))

    pub apply_written : (env new : List ℕ) (nn p : ℕ) (r : Next) → nn ≡ n_of (get_or c at 0) → ParametersAt c (at + 1) nn 0 (replicate 64 0) env → PutsCopy c at module' (start + 1) c env old new p → r ≡ fitted_of p (length old)
        → ApplyNext module' c at old new r
    unfolding ApplyNext ParametersAt PutsCopy Puts
    apply_written env new nn p r en g w er functions n k tag m j vs body i s a l e =
        let q = children_at c at tag_apply n k vs s in
        let nnn : nn ≡ n = en ∙ q.n_is in
        let b = g vs q.rest unbound q.plain (a ∙ sym nnn) q.on (omega (arith, nnn, sixty_four)) (nothing_bound c 64) in
        let f = children_at module' start tag m j (body then end) (starts functions n k tag m j vs body i s e) in
        let sb = first_stands module' (start + 1) body end f.rest f.plain f.on in
        next_some c at _ (bind (parameters 0 vs unbound) body) _ old new r refl (wrote_next _ old new p r (w body (parameters 0 vs unbound) sb b _ s) er)
