-- Loops that take a step for each element and leave where one refuses: where they stand, how they go on and how they end.
use Prim.Native.Nat.{ℕ, suc, ◌+◌, ◌≤◌, ◌<◌}
use mathlib.Core.Path.{◌≡◌, refl, sym, ◌∙◌, ap}
use mathlib.Core.Bool.{Bool, true, false, not, ◌&&◌}
use mathlib.Core.Option.{Option, none}
use mathlib.Core.List.{List, [], ◌∷◌}
use native.Mathlib.Omega.{arith}
use lib.ListN.{length, drop, get_or, drop_of_length-le}
use lib.Seq.{drop-cons}
use Rattle.lists.specs.Lists.{All}
use Rattle.lists.specs.Decides.{Decides}
use Rattle.lists.proofs.Tests.{and_left, and_right, and_of, not_true, not_false}
use Rattle.slots.specs.SoundTests.{answered, and_then, run_all, every_of}

module _ {A B : Type 0} (f : B → A → Option A) where
  -- a step that is taken, and one that is refused
  pub run_yes : (b : B) (bs : List B) (x y : A) (r : Bool) → answered r y ≡ f b x → r ≡ true → run_all f (b ∷ bs) x ≡ run_all f bs y
  unfolding run_all and_then answered
  run_yes b bs x y r e t = ap (λ (o : Option A). and_then o (run_all f bs)) (sym e ∙ ap (λ (q : Bool). answered q y) t)

  pub run_no : (b : B) (bs : List B) (x y : A) (r : Bool) → answered r y ≡ f b x → r ≡ false → run_all f (b ∷ bs) x ≡ none
  unfolding run_all and_then answered
  run_no b bs x y r e t = ap (λ (o : Option A). and_then o (run_all f bs)) (sym e ∙ ap (λ (q : Bool). answered q y) t)

  pub run_out : (b : B) (bs : List B) (x y z : A) (r : Bool) → answered r y ≡ f b x → r ≡ false → run_all f (b ∷ bs) x ≡ answered false z
  unfolding answered
  run_out b bs x y z r e t = run_no b bs x y r e t

  pub run_done : (x : A) → answered true x ≡ run_all f [] x
  unfolding run_all answered
  run_done x = refl

-- over the words of a list
module _ {A : Type 0} (f : ℕ → A → Option A) (whole : Option A) (l : List ℕ) (i : ℕ) (x : A) (so_far : whole ≡ run_all f (drop i l) x) where
  pub words_yes : (y : A) (r : Bool) → i < length l → answered r y ≡ f (get_or l i 0) x → not r ≡ false → whole ≡ run_all f (drop (i + 1) l) y
  words_yes y r h e t =
      let one : suc i ≡ i + 1 = omega arith in
      so_far ∙ ap (λ (ws : List ℕ). run_all f ws x) (drop-cons l i 0 h) ∙ run_yes f (get_or l i 0) (drop (suc i) l) x y r e (not_false r t) ∙ ap (λ (n : ℕ). run_all f (drop n l) y) one

  pub words_no : (y z : A) (r : Bool) → i < length l → answered r y ≡ f (get_or l i 0) x → not r ≡ true → answered false z ≡ whole
  unfolding answered
  words_no y z r h e n = sym (so_far ∙ ap (λ (ws : List ℕ). run_all f ws x) (drop-cons l i 0 h) ∙ run_no f (get_or l i 0) (drop (suc i) l) x y r e (not_true r n))

  pub words_done : length l ≤ i → answered true x ≡ whole
  words_done h = run_done f x ∙ sym (so_far ∙ ap (λ (ws : List ℕ). run_all f ws x) (drop_of_length-le l {i = i} h))

-- tests of every element
module _ {B : Type 0} (f : B → Bool) where
  pub every_yes : (b : B) (bs : List B) (r : Bool) → r ≡ f b → r ≡ true → every_of f (b ∷ bs) ≡ every_of f bs
  unfolding every_of
  every_yes b bs r e t = ap (λ (q : Bool). q && every_of f bs) (sym e ∙ t)

  pub every_no : (b : B) (bs : List B) (r : Bool) → r ≡ f b → r ≡ false → every_of f (b ∷ bs) ≡ false
  unfolding every_of
  every_no b bs r e t = ap (λ (q : Bool). q && every_of f bs) (sym e ∙ t)

  pub every_done : every_of f [] ≡ true
  unfolding every_of
  every_done = refl

-- a test that decides a property of each element, made of every one
module _ {B : Type 0} (P : B → Type 0) (f : B → Bool) where
  pub every_decided : (bs : List B) → All (λ b. Decides (P b) (f b)) bs → Decides (All P bs) (every_of f bs)
  unfolding every_of All
  every_decided [] a = record { sound = λ e. tt; complete = λ p. refl }
  every_decided (b ∷ bs) a =
      let r = every_decided bs a.1 in
      record {
        sound = λ e. (a.0.sound (and_left (f b) (every_of f bs) e), r.sound (and_right (f b) (every_of f bs) e));
        complete = λ p. and_of (a.0.complete p.0) (r.complete p.1);
      }
