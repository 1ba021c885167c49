-- What the code leaves of a store after its two writes.
use Prim.Native.Nat.{ℕ, ◌+◌, ◌-◌, ◌<◌}
use mathlib.Core.Path.{◌≡◌, sym, ◌∙◌, ap, subst}
use mathlib.Core.List.{List}
use native.Mathlib.Omega.{arith}
use lib.ListN.{length, get_or}
use borrow.Rule.Slice.PartMut.{mid_of, put_mid}
use Rattle.store.specs.Layout.{slot_head, kind_rec}
use Rattle.writing.specs.Slots.{controlled, without, within, copied, NamesRoom}
use Rattle.writing.proofs.SlotCode.{mid_long}
use Rattle.entering.specs.Entering.{grown_words, kept_words, took_words, InRoom, TakeRoom}

pub grow_written : (l l₁ y next : List ℕ) (from «end» to words kind number : ℕ) → l₁ ≡ copied from to (slot_head + words) kind number 0 l → y ≡ controlled words next (mid_of from («end» - from) l₁)
    → put_mid from («end» - from) l₁ y ≡ grown_words from «end» to words kind number next l
unfolding grown_words within
grow_written l l₁ y next from «end» to words kind number e₁ ey =
    let k = «end» - from in ap (put_mid from k l₁) ey ∙ ap (λ (v : List ℕ). put_mid from k v (controlled words next (mid_of from k v))) e₁

module _ (l l₁ next : List ℕ) (from «end» to words place : ℕ) (e₁ : l₁ ≡ copied from to («end» - from) kind_rec place (get_or l (from + 4) 0) l) where
  pub take_written : (y : List ℕ) → y ≡ controlled words next (without words place (mid_of from («end» - from) l₁)) → put_mid from («end» - from) l₁ y ≡ took_words from «end» to words place next l
  unfolding took_words kept_words within
  take_written y ey = let k = «end» - from in ap (put_mid from k l₁) ey ∙ ap (λ (v : List ℕ). put_mid from k v (controlled words next (without words place (mid_of from k v)))) e₁

  pub take_in : TakeRoom from «end» to words place next l → length l₁ ≡ length l → InRoom words place next (mid_of from («end» - from) l₁)
  unfolding kept_words
  take_in room long =
      let k = «end» - from in
      let slots = room.slots in
      record {
        names = subst (λ (v : List ℕ). NamesRoom words (mid_of from k v)) (sym e₁) room.names;
        one = subst (λ (v : List ℕ). place < get_or (mid_of from k v) 4 0) (sym e₁) room.one;
        control_room = record { within_slot = omega (arith, mid_long from k l₁ (omega (arith, slots.head_in, slots.inside)), slots.head_in); short = room.short; few = slots.few };
      }
