-- A load that is accepted leaves the image of a sound state; one that is refused leaves the store as it was.
use Prim.Native.Nat.{ℕ}
use mathlib.Core.Path.{◌≡◌, refl, ◌∙◌, ap}
use mathlib.Core.Bool.{Bool, true, ◌&&◌}
use mathlib.Core.Logic.{inl, inr}
use mathlib.Core.Option.{Option, none, some}
use mathlib.Core.List.{List, ◌++◌}
use native.Mathlib.Omega.{arith}
use lib.Dec.{leb}
use lib.ListN.{length, drop}
use Rattle.lists.proofs.Tests.{true_or_false, and_of}
use Rattle.term.specs.Module.{check_module}
use Rattle.rules.specs.State.{Sizes}
use Rattle.rules.specs.Answers.{done, bad_module, bad_sizes}
use Rattle.rules.specs.Load.{good_sizes, loaded, loads, load}
use Rattle.demands.proofs.Consequences.{consequences}
use Rattle.store.specs.Layout.{needed, image}
use Rattle.store.specs.Image.{IsImage}
use Rattle.store.specs.Loading.{load_number, Outcome, after_load, load_into, LoadAnswers}
use Rattle.std.specs.Prelude.{Result, ⊤}
use Rattle.store.specs.declared.load.LoadError.{LoadError}
use Rattle.store.proofs.LoadCodeAnswers.{and_short, into_short, into_load, load_refused, load_loads}

module _ (module' : List ℕ) (sizes : Sizes) (l : List ℕ) where
  -- the three ways that a load goes
  pub data Goes : Type 0 where
    short : load_into module' sizes l ≡ record { number = bad_sizes; value = 0; left = l } → Goes
    bad : (at : ℕ) → load_into module' sizes l ≡ record { number = bad_module; value = at; left = l } → Goes
    good : load module' sizes ≡ loads (loaded module' sizes) → load_into module' sizes l ≡ record { number = done; value = 0; left = image (loaded module' sizes) ++ drop (needed sizes) l } → Goes

  pub goes : Goes
  unfolding after_load loaded
  goes = elim (true_or_false (good_sizes sizes)) [
    | inr f ↦ short (into_short module' sizes l (ap (λ (b : Bool). b && leb (needed sizes) (length l)) f))
    | inl g ↦ elim (true_or_false (leb (needed sizes) (length l))) [
      | inr f ↦ short (into_short module' sizes l (and_short (good_sizes sizes) (leb (needed sizes) (length l)) f))
      | inl h ↦ go g h (check_module module') refl
    ]
  ]
    where
      go : good_sizes sizes ≡ true → leb (needed sizes) (length l) ≡ true → (o : Option ℕ) → check_module module' ≡ o → Goes
      go g h (some at) e = bad at (into_load module' sizes l (and_of g h) ∙ ap (after_load l) (load_refused module' sizes l at g e))
      go g h none e = let it = load_loads module' sizes l g e in good it (into_load module' sizes l (and_of g h) ∙ ap (after_load l) it)

  module _ (x : List ℕ) (r : Result ⊤ LoadError) (a : LoadAnswers module' sizes l x r) where
    number_of : {o : Outcome} → load_into module' sizes l ≡ o → load_number r ≡ o.number
    number_of e = a.number ∙ ap (λ (o : Outcome). o.number) e

    left_of : {o : Outcome} → load_into module' sizes l ≡ o → x ≡ o.left
    left_of e = a.left ∙ ap (λ (o : Outcome). o.left) e

    pub load_leaves : load_number r ≡ done → IsImage x
    load_leaves n = elim goes [
      | short e ↦ let z = number_of e in absurd (omega arith)
      | bad at e ↦ let z = number_of e in absurd (omega arith)
      | good it e ↦ record { state = loaded module' sizes; rest = drop (needed sizes) l; sound = consequences.sound.loaded module' sizes (loaded module' sizes) it; words = left_of e }
    ]

    pub load_keeps : ¬ (load_number r ≡ done) → x ≡ l
    load_keeps n = elim goes [
      | short e ↦ left_of e
      | bad at e ↦ left_of e
      | good it e ↦ absurd (n (number_of e))
    ]
