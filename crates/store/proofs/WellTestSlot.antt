-- The test of a slot: what each of its answers stands on.
use Prim.Native.Nat.{ℕ, ◌+◌, ◌-◌, ◌*◌, ◌≤◌}
use mathlib.Core.Path.{◌≡◌, sym, ◌∙◌, ap, subst}
use mathlib.Core.Bool.{Bool, true, false, not}
use mathlib.Core.List.{List, [], ◌∷◌}
use native.Mathlib.Omega.{arith}
use lib.ListN.{length, take, drop, get_or}
use lib.Seq.{drop-drop, drop-cons}
use borrow.Rule.Slice.PartMut.{mid_of}
use Rattle.lists.specs.Lists.{All}
use Rattle.lists.specs.Decides.{Decides}
use Rattle.lists.proofs.Tests.{not_true, not_false}
use Rattle.lists.proofs.Blocks.{drop_take}
use Rattle.lists.proofs.Decides.{no_to, refuted, by}
use Rattle.store.specs.Layout.{slot_head, slot_size}
use Rattle.store.specs.Sizing.{sizes_of}
use Rattle.store.specs.Formed.{IsZero, WellSlot}

-- ---- three words

module _ (w : List ℕ) (long : 8 ≤ length w) where
  three : take 3 (drop 5 w) ≡ get_or w 5 0 ∷ get_or w 6 0 ∷ get_or w 7 0 ∷ []
  three = ap (take 3) (drop-cons w 5 0 (omega arith) ∙ ap (λ (r : List ℕ). get_or w 5 0 ∷ r) (drop-cons w 6 0 (omega arith) ∙ ap (λ (r : List ℕ). get_or w 6 0 ∷ r) (drop-cons w 7 0 (omega arith))))

  three_zeros : get_or w 5 0 ≡ 0 → get_or w 6 0 ≡ 0 → get_or w 7 0 ≡ 0 → All IsZero (take 3 (drop 5 w))
  unfolding All
  three_zeros a b c = subst (All IsZero) (sym three) (a, (b, (c, tt)))

  zeros_three : All IsZero (take 3 (drop 5 w)) → (get_or w 5 0 ≡ 0) × (get_or w 6 0 ≡ 0) × (get_or w 7 0 ≡ 0)
  unfolding All
  zeros_three z = let y = subst (All IsZero) three z in (y.0, y.1.0, y.1.1.0)

-- ---- the parts behind the control and behind the names, as they are lent

-- what is left of a part behind k of its words
pub behind_part : (a n k : ℕ) (w : List ℕ) → k ≤ n → drop k (mid_of a n w) ≡ take (a + n - (a + k)) (drop (a + k) w)
behind_part a n k w h =
    let left : a + n - (a + k) ≡ n - k = omega arith in
    drop_take k (n - k) n (drop a w) (omega arith)
    ∙ ap (take (n - k)) (drop-drop k a w)
    ∙ ap (λ (m : ℕ). take m (drop (a + k) w)) (sym left)

-- the same where the part is the last one
behind_last : (a n k : ℕ) (w : List ℕ) → k ≤ n → length w ≡ a + n → drop k (mid_of a n w) ≡ take (length w - (a + k)) (drop (a + k) w)
behind_last a n k w h e = behind_part a n k w h ∙ ap (λ (m : ℕ). take (m - (a + k)) (drop (a + k) w)) (sym e)

-- ---- the answers

module _ (places entries words : ℕ) (w : List ℕ) where
  pub slot_no_head : (r : Bool) → length w ≡ slot_size (sizes_of places entries words) → Decides (All IsZero (take 3 (drop 5 w))) r → not r ≡ true → Decides (WellSlot (sizes_of places entries words) w) false
  slot_no_head r e d f = no_to (λ x. refuted d (not_true r f) (three_zeros w (omega arith) x.zero_5 x.zero_6 x.zero_7))

  pub slot_no_control_zeros : (n : ℕ) (r : Bool) → n ≡ get_or w 1 0 → n ≤ words → Decides (All IsZero (take (8 + words - (8 + n)) (drop (8 + n) w))) r → not r ≡ true → Decides (WellSlot (sizes_of places entries words) w) false
  slot_no_control_zeros n r e h d f = no_to (λ x. refuted d (not_true r f) (subst (All IsZero) (ap (λ (m : ℕ). drop m (mid_of slot_head words w)) (sym e) ∙ behind_part slot_head words n w h) x.control_zeros))

  pub slot_left : (n m : ℕ) (r s q : Bool) → length w ≡ slot_size (sizes_of places entries words)
      → get_or w 3 0 ≡ 0
      → Decides (All IsZero (take 3 (drop 5 w))) r → not r ≡ false
      → n ≡ get_or w 1 0 → n ≤ words
      → m ≡ get_or w 4 0 → m ≤ places * entries
      → Decides (All IsZero (take (8 + words - (8 + n)) (drop (8 + n) w))) s → not s ≡ false
      → Decides (All IsZero (take (length w - (8 + words + m)) (drop (8 + words + m) w))) q
      → Decides (WellSlot (sizes_of places entries words) w) q
  slot_left n m r s q long z d₁ t₁ e₁ h₁ e₂ h₂ d₂ t₂ d₃ =
      let room = places * entries in
      let control = ap (λ (k : ℕ). drop k (mid_of slot_head words w)) (sym e₁) ∙ behind_part slot_head words n w h₁ in
      let names = ap (λ (k : ℕ). drop k (mid_of (slot_head + words) room w)) (sym e₂) ∙ behind_last (slot_head + words) room m w h₂ (omega arith) in
      let y = zeros_three w (omega arith) (d₁.sound (not_false r t₁)) in
      by (λ a. record {
        long = long;
        zero_3 = z;
        zero_5 = y.0;
        zero_6 = y.1;
        zero_7 = y.2;
        control_fits = omega arith;
        control_zeros = subst (All IsZero) (sym control) (d₂.sound (not_false s t₂));
        names_fit = omega arith;
        names_zeros = subst (All IsZero) (sym names) a;
      }) (λ x. subst (All IsZero) names x.names_zeros) d₃
