-- The soundness test decides whether words begin with the image of a sound state.
use Prim.Native.Nat.{ℕ, ◌+◌, ◌-◌, ◌≤◌}
use mathlib.Core.Path.{◌≡◌, refl, sym, ◌∙◌, ap}
use mathlib.Core.Bool.{Bool, false}
use mathlib.Core.Option.{none}
use mathlib.Core.List.{List}
use native.Mathlib.Omega.{arith}
use Rattle.std.specs.Prelude.{Ok, Err, ⊤}
use lib.ListN.{length, take, drop, get_or, length-drop}
use lib.Seq.{length-take-le}
use Rattle.lists.specs.Decides.{Decides}
use Rattle.lists.proofs.Decides.{no_to, refuted, by}
use Rattle.lists.proofs.Tests.{none_not_some}
use Rattle.term.specs.Module.{check_module}
use Rattle.term.specs.Control.{module_arities}
use Rattle.checks.specs.Checking.{bad_of, ReadFunctions}
use Rattle.rows.specs.declared.terms.BadWord.{BadWord}
use Rattle.checks.proofs.CheckLaws.{functions_fail}
use Rattle.store.specs.Formed.{WellFormedStore}
use Rattle.store.specs.Image.{IsImage}
use Rattle.store.proofs.Reading.{read_module}
use Rattle.store.proofs.Tested.{tested_image, image_passes}
use Rattle.store.proofs.WellTestRead.{formed_tested, image_formed}
use Rattle.soundness.specs.StoreTests.{StoreTested}
use Rattle.soundness.proofs.SlotsDecided.{slots_sound, sound_slots}

pub not_formed : (l : List ℕ) (r : Bool) → Decides (WellFormedStore l) r → r ≡ false → Decides (IsImage l) r
not_formed l r d f = rw f (no_to (λ x. refuted d f (image_formed l x)))

module _ (l : List ℕ) (formed : WellFormedStore l) where
  -- the module, as it is lent
  abbrev lent : List ℕ
  lent = take (4 + get_or l 3 0 - 4) (drop 4 l)

  lent_is : lent ≡ read_module l
  unfolding read_module
  lent_is = let one : 4 + get_or l 3 0 - 4 ≡ get_or l 3 0 = omega arith in ap (λ (n : ℕ). take n (drop 4 l)) one

  pub module_short : length (take (4 + get_or l 3 0 - 4) (drop 4 l)) ≤ 512
  module_short = omega (arith, formed.module_fits, formed.long, length-drop 4 l, length-take-le (4 + get_or l 3 0 - 4) (drop 4 l) (omega (arith, formed.module_fits, formed.long, length-drop 4 l)))

  pub bad_module : (bad : BadWord) → bad_of {A = ⊤} (Err bad) ≡ check_module (take (4 + get_or l 3 0 - 4) (drop 4 l)) → Decides (IsImage l) false
  unfolding bad_of
  bad_module bad e = no_to (λ x. none_not_some (sym (image_passes l x).sound.module_passes ∙ ap check_module (sym lent_is) ∙ sym e))

  module _ (e : bad_of (Ok (tt {0})) ≡ check_module (take (4 + get_or l 3 0 - 4) (drop 4 l))) where
    passes : check_module lent ≡ none
    unfolding bad_of
    passes = sym e

    module _ (counts : List ℕ) where
      pub bad_functions : (bad : BadWord) → ReadFunctions (take (4 + get_or l 3 0 - 4) (drop 4 l)) counts (Err bad) → Decides (IsImage l) false
      bad_functions bad f = none_not_some (sym passes ∙ sym (functions_fail lent counts module_short bad f))

      pub image_decided : (m : ℕ) → ReadFunctions (take (4 + get_or l 3 0 - 4) (drop 4 l)) counts (Ok m) → (b : Bool) → StoreTested l (take m counts) b → Decides (IsImage l) b
      image_decided m f b x =
          let good : check_module (read_module l) ≡ none = ap check_module (sym lent_is) ∙ passes in
          by (λ y. tested_image l (formed_tested l formed (slots_sound l formed good y)))
          (λ y. sound_slots l formed good (image_passes l y).sound)
          (x.decided (read_module l) good ((f.counted m refl).0 ∙ ap module_arities lent_is))
