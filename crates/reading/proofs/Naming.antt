-- Names as words: a word names the messages whose name it is, where counts are below 65536.
use Prim.Native.Nat.{ℕ, ◌+◌, ◌*◌, ◌/◌, ◌%◌, ◌<◌}
use mathlib.Core.Path.{◌≡◌, refl, sym, ◌∙◌, ap}
use mathlib.Core.Logic.{inl, inr}
use mathlib.Core.Bool.{true, false, ◌||◌}
use mathlib.Core.List.{List, [], ◌∷◌, ◌++◌, map, map-append}
use native.Mathlib.Decide.{ℕ_discrete}
use native.Mathlib.Omega.{arith}
use lib.Dec.{eqb}
use lib.ListN.{length, get_or, length-map}
use lib.Seq.{get_or_at}
use Rattle.lists.specs.Lists.{any, member, All}
use Rattle.lists.proofs.Tests.{true_or_false, eqb_of, eqb_apart}
use Rattle.lists.proofs.All.{all_so, all_left, all_right}
use Rattle.rules.specs.State.{Message, State, history_at, is_named}
use Rattle.rules.specs.Flight.{taken}
use Rattle.rules.specs.Sound.{SentTo, Sound}
use Rattle.demands.proofs.Messages.{is_named_lem, named_is}
use Rattle.store.specs.Layout.{name_base, name_word}
use Rattle.store.proofs.SoundStates.{sizes_in_lem, numbered}

-- the sender and the count of a name's word
abbrev pub sender_of : ℕ → ℕ
sender_of w = w / name_base

abbrev pub count_of : ℕ → ℕ
count_of w = w % name_base

-- counts that a word has room for
abbrev pub Small : Message → Type 0
Small m = m.count < name_base

pub named_by : (w : ℕ) (m : Message) → Small m → w ≡ name_word m → is_named (sender_of w) (count_of w) m ≡ true
named_by w m small e = named_is (record { sender = omega arith; count = omega arith })

pub not_named_by : (w : ℕ) (m : Message) → ¬ (w ≡ name_word m) → is_named (sender_of w) (count_of w) m ≡ false
not_named_by w m n = elim (true_or_false (is_named (sender_of w) (count_of w) m)) [
  | inl t ↦ absurd (let x = is_named_lem (sender_of w) (count_of w) m t in n (omega (arith, x.sender, x.count)))
  | inr f ↦ f
]

pub named_test : (w : ℕ) (m : Message) → Small m → eqb w (name_word m) ≡ is_named (sender_of w) (count_of w) m
named_test w m small = go (ℕ_discrete w (name_word m))
  where
    go : Dec (w ≡ name_word m) → eqb w (name_word m) ≡ is_named (sender_of w) (count_of w) m
    go (yes e) = eqb_of w (name_word m) e ∙ sym (named_by w m small e)
    go (no n) = eqb_apart w (name_word m) n ∙ sym (not_named_by w m n)

-- among names as among messages
pub member_named : (w : ℕ) (ms : List Message) → All Small ms → member w (map name_word ms) ≡ any (is_named (sender_of w) (count_of w)) ms
unfolding member any All
member_named w [] a = refl
member_named w (m ∷ ms) a = λ i. named_test w m a.0 i || member_named w ms a.1 i

-- in a sound state all counts are small
module _ (s : State) (sound : Sound s) where
  small : (t : ℕ) (m : Message) → SentTo s t m → Small m
  small t m e = omega (arith, (numbered s sound t m e).count_below, (sizes_in_lem s.sizes sound.sizes_pass).entries_high)

  pub queue_small : (t : ℕ) → All Small (s.queues t)
  queue_small t = all_so (small t) (s.queues t) (all_left (SentTo s t) (s.queues t) (taken (history_at s t)) (sound.nothing_else t))

  pub taken_small : (t : ℕ) → All Small (taken (history_at s t))
  taken_small t = all_so (small t) (taken (history_at s t)) (all_right (SentTo s t) (s.queues t) (taken (history_at s t)) (sound.nothing_else t))

-- the message of a rec, in its queue before
pub name_middle : (a : List Message) (m : Message) (b : List Message) → get_or (map name_word (a ++ (m ∷ b))) (length a) 0 ≡ name_word m
name_middle a m b =
    ap (λ (ws : List ℕ). get_or ws (length a) 0) (map-append name_word a (m ∷ b))
    ∙ get_or_at (map name_word a) (name_word m) (map name_word b) 0 (length a) (length-map a name_word)

-- the name of a count at a place
pub name_sender : (p k : ℕ) → k < name_base → sender_of (p * name_base + k) ≡ p
name_sender p k h = omega arith

pub name_count : (p k : ℕ) → k < name_base → count_of (p * name_base + k) ≡ k
name_count p k h = omega arith
