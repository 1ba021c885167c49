-- Rows and the terms that sit at spots: the words of such a term pass the shape test and are read as it, and a row that passes is the
-- words of one.
use Prim.Native.Nat.{ℕ, suc, ◌≤◌}
use mathlib.Core.Path.{◌≡◌, ap, ◌∙◌}
use mathlib.Core.Option.{none}
use mathlib.Core.List.{List, [], ◌∷◌}
use lib.ListN.{replicate}
use Rattle.term.specs.Table.{spot_function}
use Rattle.term.specs.Tree.{Term, words}
use Rattle.term.specs.Read.{terms_of, term_of}
use Rattle.term.specs.Shape.{shape, module_shape}
use Rattle.term.proofs.ReadLaws
use Rattle.term.proofs.ShapeLaws.{fit_whole, shaped_term, shaped_module, term_shaped}
use Rattle.machine.proofs.Sits.{Sits, SitAll}
use Rattle.machine.proofs.FitLaws.{fit_sits, fit_sits_all, sits_fit}

module _ (places : ℕ) (few_places : places ≤ 65536) where
  pub term_of_words : (t : Term) (s : ℕ) → Sits places s t → term_of (words t) ≡ t
  term_of_words t s h = ReadLaws.term_of_words t (fit_whole places s t (sits_fit places few_places t s h))

  pub term_passes : (t : Term) (s : ℕ) → Sits places s t → shape places [] (words t) (s ∷ []) 0 ≡ none
  term_passes t s h = term_shaped places s t (sits_fit places few_places t s h)

-- a row that passes is the words of one term, and is read as it
pub record OneTerm (places s : ℕ) (l : List ℕ) : Type 0 where
  pub sits : Sits places s (term_of l)
  pub same_words : words (term_of l) ≡ l

pub passes_term : (places s : ℕ) (l : List ℕ) → shape places [] l (s ∷ []) 0 ≡ none → OneTerm places s l
passes_term places s l e =
    let r = shaped_term places s l e in
    record { sits = rw r.read_as (fit_sits places r.term s r.fit); same_words = ap words r.read_as ∙ r.same_words }

-- a module that passes is read as functions; there is one at least
pub passes_module : (l : List ℕ) → module_shape l ≡ none → (others : ℕ) × SitAll 0 (terms_of l) (replicate (suc others) spot_function)
passes_module l e =
    let r = shaped_module l e in
    (r.others, rw r.read_as (fit_sits_all 0 r.terms (replicate (suc r.others) spot_function) r.fit))
