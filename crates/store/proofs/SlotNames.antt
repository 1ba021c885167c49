-- Names in slots: messages read of names have different names where the names differ, and were sent where the names say so.
use Prim.Native.Nat.{ℕ, ◌/◌, ◌%◌, ◌≤◌}
use mathlib.Core.Path.{◌≡◌, refl, sym, ◌∙◌, ap, subst}
use mathlib.Core.Logic.{inl, inr}
use mathlib.Core.Bool.{Bool, true, false, not, ◌&&◌, ◌||◌}
use mathlib.Core.Option.{Option, some}
use mathlib.Core.List.{List, [], ◌∷◌}
use native.Mathlib.Decide.{ℕ_discrete}
use native.Mathlib.Omega.{arith}
use lib.Dec.{eqb}
use Rattle.lists.specs.Lists.{All, any}
use Rattle.lists.proofs.Tests.{true_or_false, eqb-true, eqb_of, eqb_apart, and_left, and_right, and_of, or_false, or_false_left, or_false_right, not_true}
use Rattle.lists.proofs.All.{all_so, all_map, all_unmap}
use Rattle.lists.proofs.Counts.{occurs, one_if, occurs_head, occurs_other, occurs_more}
use Rattle.rules.specs.State.{Sizes, Letter, letter, is_named}
use Rattle.rules.specs.Sound.{SentTo, distinct}
use Rattle.store.specs.Layout.{name_base, Slot}
use Rattle.store.proofs.Restoring.{value_of, read_message}
use Rattle.store.proofs.SlotViews.{messages_of}
use Rattle.store.proofs.SoundSlots.{SaidTo}
use Rattle.store.proofs.SlotHistories.{read_state, sent_read}

module _ (module' : List ℕ) (places : ℕ → List Slot) where
  -- a message read of a word is named so where the word is the same
  same_name : (w v : ℕ) → is_named (w / name_base) (w % name_base) (read_message module' places v) ≡ eqb w v
  unfolding is_named read_message
  same_name w v = go (ℕ_discrete w v)
    where
      go : Dec (w ≡ v) → (eqb (v / name_base) (w / name_base) && eqb (v % name_base) (w % name_base)) ≡ eqb w v
      go (yes e) = and_of (eqb_of (v / name_base) (w / name_base) (ap (λ (n : ℕ). n / name_base) (sym e))) (eqb_of (v % name_base) (w % name_base) (ap (λ (n : ℕ). n % name_base) (sym e))) ∙ sym (eqb_of w v e)
      go (no n) = elim (true_or_false (eqb (v / name_base) (w / name_base) && eqb (v % name_base) (w % name_base))) [
        | inl t ↦ absurd (n (
            let a = eqb-true (v / name_base) (w / name_base) (and_left (eqb (v / name_base) (w / name_base)) (eqb (v % name_base) (w % name_base)) t) in
            let b = eqb-true (v % name_base) (w % name_base) (and_right (eqb (v / name_base) (w / name_base)) (eqb (v % name_base) (w % name_base)) t) in
            omega arith))
        | inr f ↦ f ∙ sym (eqb_apart w v n)
      ]

  abbrev NamedSo : ℕ → List ℕ → Bool
  NamedSo w ws = any (is_named (w / name_base) (w % name_base)) (messages_of module' places ws)

  named_none : (w : ℕ) (ws : List ℕ) → occurs w ws ≡ 0 → NamedSo w ws ≡ false
  unfolding any occurs one_if
  named_none w [] e = refl
  named_none w (v ∷ ws) e = go (eqb w v) (same_name w v) e (named_none w ws)
    where
      go : (b : Bool) → is_named (w / name_base) (w % name_base) (read_message module' places v) ≡ b → one_if b (occurs w ws) ≡ 0 → (occurs w ws ≡ 0 → NamedSo w ws ≡ false)
          → (is_named (w / name_base) (w % name_base) (read_message module' places v) || NamedSo w ws) ≡ false
      go true t e r = absurd (omega arith)
      go false t e r = or_false t (r e)

  none_named : (w : ℕ) (ws : List ℕ) → NamedSo w ws ≡ false → occurs w ws ≡ 0
  unfolding any occurs one_if
  none_named w [] e = refl
  none_named w (v ∷ ws) e =
      let here = or_false_left (is_named (w / name_base) (w % name_base) (read_message module' places v)) (NamedSo w ws) e in
      ap (λ (b : Bool). one_if b (occurs w ws)) (sym (same_name w v) ∙ here)
      ∙ none_named w ws (or_false_right (is_named (w / name_base) (w % name_base) (read_message module' places v)) (NamedSo w ws) e)

  -- the names differ where no number stands twice
  pub distinct_read : (ws : List ℕ) → ((c : ℕ) → occurs c ws ≤ 1) → distinct (messages_of module' places ws) ≡ true
  unfolding distinct read_message
  distinct_read [] once = refl
  distinct_read (w ∷ ws) once =
      let alone : occurs w ws ≡ 0 = omega (arith, once w, occurs_head w ws) in
      and_of (ap not (named_none w ws alone)) (distinct_read ws (λ c. omega (arith, once c, occurs_more c w ws)))

  pub once_back : (ws : List ℕ) → distinct (messages_of module' places ws) ≡ true → (c : ℕ) → occurs c ws ≤ 1
  unfolding distinct read_message occurs
  once_back [] d c = omega arith
  once_back (w ∷ ws) d c = go (ℕ_discrete c w) (once_back ws (and_right (not (NamedSo w ws)) (distinct (messages_of module' places ws)) d) c)
    where
      go : Dec (c ≡ w) → occurs c ws ≤ 1 → occurs c (w ∷ ws) ≤ 1
      go (yes e) h =
          let alone = none_named w ws (not_true (NamedSo w ws) (and_left (not (NamedSo w ws)) (distinct (messages_of module' places ws)) d)) in
          subst (λ x. occurs x (w ∷ ws) ≤ 1) (sym e) (omega (arith, occurs_head w ws, alone))
      go (no n) h = omega (arith, occurs_other c w ws n)

-- a message read of a word was sent where the word says so
module _ (module' : List ℕ) (sizes : Sizes) (places : ℕ → List Slot) (t : ℕ) where
  said_read : (w : ℕ) → SaidTo module' places t w → SentTo (read_state module' sizes places) t (read_message module' places w)
  unfolding SentTo read_message value_of
  said_read w x = sent_read module' sizes places (w / name_base) (w % name_base) ∙ x.said ∙ ap (λ (o : Option Letter). some (letter t (value_of o))) (sym x.said)

  said_back : (w : ℕ) → SentTo (read_state module' sizes places) t (read_message module' places w) → SaidTo module' places t w
  unfolding SentTo read_message
  said_back w e = record { value = (read_message module' places w).value; said = sym (sent_read module' sizes places (w / name_base) (w % name_base)) ∙ e }

  pub all_said_read : (ws : List ℕ) → All (SaidTo module' places t) ws → All (SentTo (read_state module' sizes places) t) (messages_of module' places ws)
  all_said_read ws a = all_map (SentTo (read_state module' sizes places) t) (read_message module' places) ws (all_so said_read ws a)

  pub all_said_back : (ws : List ℕ) → All (SentTo (read_state module' sizes places) t) (messages_of module' places ws) → All (SaidTo module' places t) ws
  all_said_back ws a = all_so said_back ws (all_unmap (SentTo (read_state module' sizes places) t) (read_message module' places) ws a)
