-- The answers of a load: what each stands on, and that they are determined.
use Prim.Native.Nat.{ℕ, ◌≤◌, ◌<◌}
use mathlib.Core.Path.{◌≡◌, refl, sym, ◌∙◌, ap}
use mathlib.Core.Logic.{inl, inr}
use mathlib.Core.Bool.{Bool, true, false, ◌&&◌}
use mathlib.Core.Option.{Option, none, some}
use mathlib.Core.List.{List, ◌++◌}
use native.Mathlib.Omega.{arith}
use Rattle.std.specs.Prelude.{Result, Ok, Err, ⊤}
use lib.Dec.{leb}
use lib.ListN.{length, drop}
use Rattle.lists.proofs.Tests.{true_not_false, true_or_false, leb_of, leb_over, and_of, and_right}
use Rattle.term.specs.Module.{check_module}
use Rattle.checks.specs.Checking.{bad_of}
use Rattle.rows.specs.declared.terms.BadWord.{BadWord}
use Rattle.rules.specs.Answers.{done, bad_module, bad_sizes}
use Rattle.rules.specs.State.{Sizes}
use Rattle.rules.specs.Load.{good_sizes, loaded, Load, refused, loads, load}
use Rattle.store.specs.Layout.{needed, image}
use Rattle.store.specs.Loading.{load_number, load_value, Outcome, after_load, load_into, LoadAnswers}
use Rattle.store.specs.declared.load.LoadError.{LoadError}
use Rattle.store.specs.declared.load.LoadError.TheVariants.{BadSizes, BadModule}
use Rattle.store.proofs.SoundStates.{module_short}

module _ (module' : List ℕ) (sizes : Sizes) (l : List ℕ) where
  answers : (x : List ℕ) (r : Result ⊤ LoadError) (o : Outcome) → load_into module' sizes l ≡ o → load_number r ≡ o.number → load_value r ≡ o.value → x ≡ o.left → LoadAnswers module' sizes l x r
  answers x r o e a b c = record { number = a ∙ ap (λ (y : Outcome). y.number) (sym e); value = b ∙ ap (λ (y : Outcome). y.value) (sym e); left = c ∙ ap (λ (y : Outcome). y.left) (sym e) }

  -- bad sizes are refused by the load itself, and a short store before it
  pub into_short : (good_sizes sizes && leb (needed sizes) (length l)) ≡ false → load_into module' sizes l ≡ record { number = bad_sizes; value = 0; left = l }
  unfolding load_into after_load load
  into_short e = elim (true_or_false (leb (needed sizes) (length l))) [
    | inr f ↦ rw (f, load_into) refl
    | inl t ↦ elim (true_or_false (good_sizes sizes)) [ inr f ↦ rw (t, load_into, f, load) refl | inl g ↦ true_not_false (and_of g t) e ]
  ]

  pub into_load : (good_sizes sizes && leb (needed sizes) (length l)) ≡ true → load_into module' sizes l ≡ after_load l (load module' sizes)
  unfolding load_into
  into_load e = rw (and_right (good_sizes sizes) (leb (needed sizes) (length l)) e, load_into) refl

  refuses : (good_sizes sizes && leb (needed sizes) (length l)) ≡ false → LoadAnswers module' sizes l l (Err BadSizes)
  unfolding load_number load_value
  refuses e = answers l (Err BadSizes) (record { number = bad_sizes; value = 0; left = l }) (into_short e) refl refl refl

  abbrev on_module : Option ℕ → Load
  on_module o = elim o as (λ x. Load) [ some at ↦ refused bad_module at | none ↦ loads (loaded module' sizes) ]

  chosen : good_sizes sizes ≡ true → load module' sizes ≡ on_module (check_module module')
  unfolding load
  chosen g = ap (λ (b : Bool). elim b as (λ x. Load) [ false ↦ refused bad_sizes 0 | true ↦ on_module (check_module module') ]) g

  pub load_refused : (at : ℕ) → good_sizes sizes ≡ true → check_module module' ≡ some at → load module' sizes ≡ refused bad_module at
  load_refused at g e = chosen g ∙ ap on_module e

  pub load_loads : good_sizes sizes ≡ true → check_module module' ≡ none → load module' sizes ≡ loads (loaded module' sizes)
  load_loads g e = chosen g ∙ ap on_module e

-- a module that passes fits its room
pub good_short : (module' : List ℕ) (checked : Result ⊤ BadWord) → bad_of checked ≡ check_module module' → checked ≡ Ok tt → length module' ≤ 512
unfolding bad_of
good_short module' checked ec e = module_short module' (sym ec ∙ ap bad_of e)

pub and_short : (a b : Bool) → b ≡ false → (a && b) ≡ false
and_short true b e = e
and_short false b e = refl

module _ (module' l : List ℕ) (sizes : Sizes) where
  pub load_bad_sizes : good_sizes sizes ≡ false → LoadAnswers module' sizes l l (Err BadSizes)
  load_bad_sizes f = refuses module' sizes l (ap (λ (b : Bool). b && leb (needed sizes) (length l)) f)

  module _ (n : ℕ) (en : n ≡ needed sizes) where
    pub load_short : length l < n → LoadAnswers module' sizes l l (Err BadSizes)
    load_short h = refuses module' sizes l (and_short (good_sizes sizes) (leb (needed sizes) (length l)) (leb_over (needed sizes) (length l) (omega arith)))

    module _ (good : good_sizes sizes ≡ true) (long : n ≤ length l) (checked : Result ⊤ BadWord) (ec : bad_of checked ≡ check_module module') where
      passes : (good_sizes sizes && leb (needed sizes) (length l)) ≡ true
      passes = and_of good (leb_of (needed sizes) (length l) (omega arith))

      pub load_bad_module : (bad : BadWord) → checked ≡ Err bad → LoadAnswers module' sizes l l (Err (BadModule bad))
      unfolding bad_of after_load load_number load_value
      load_bad_module bad e =
          answers module' sizes l l (Err (BadModule bad)) (record { number = bad_module; value = bad.0; left = l })
          (into_load module' sizes l passes ∙ ap (after_load l) (load_refused module' sizes l bad.0 good (sym ec ∙ ap bad_of e))) refl refl refl

      pub good_module : checked ≡ Ok tt → check_module module' ≡ none
      unfolding bad_of
      good_module e = sym ec ∙ ap bad_of e

      pub load_done : (x : List ℕ) → checked ≡ Ok tt → x ≡ image (loaded module' sizes) ++ drop (needed sizes) l → LoadAnswers module' sizes l x (Ok tt)
      unfolding after_load load_number load_value loaded
      load_done x e ex =
          answers module' sizes l x (Ok tt) (record { number = done; value = 0; left = image (loaded module' sizes) ++ drop (needed sizes) l })
          (into_load module' sizes l passes ∙ ap (after_load l) (load_loads module' sizes l good (good_module e))) refl refl ex

-- ---- the answer and the store that is left are determined

same_answer : (r s : Result ⊤ LoadError) → load_number r ≡ load_number s → load_value r ≡ load_value s → r ≡ s
unfolding load_number load_value
same_answer (Ok t) (Ok u) a b = refl
same_answer (Ok t) (Err BadSizes) a b = absurd (omega arith)
same_answer (Ok t) (Err (BadModule bad)) a b = absurd (omega arith)
same_answer (Err BadSizes) (Ok t) a b = absurd (omega arith)
same_answer (Err BadSizes) (Err BadSizes) a b = refl
same_answer (Err BadSizes) (Err (BadModule bad)) a b = absurd (omega arith)
same_answer (Err (BadModule bad)) (Ok t) a b = absurd (omega arith)
same_answer (Err (BadModule bad)) (Err BadSizes) a b = absurd (omega arith)
same_answer (Err (BadModule bad)) (Err (BadModule worse)) a b = λ i. Err (BadModule (record { 0 = b i }))

pub load_determined : (module' : List ℕ) (sizes : Sizes) (l x y : List ℕ) (r s : Result ⊤ LoadError) → LoadAnswers module' sizes l x r → LoadAnswers module' sizes l y s → (x ≡ y) × (r ≡ s)
load_determined module' sizes l x y r s a b = (a.left ∙ sym b.left, same_answer r s (a.number ∙ sym b.number) (a.value ∙ sym b.value))
