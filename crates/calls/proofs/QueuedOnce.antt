-- All queues of a sound state together hold no more than P-as-H messages: a message was sent to one place, and stands there once at most.
use Prim.Native.Nat.{ℕ, zero, suc, ◌+◌, ◌*◌, ◌≤◌, ◌<◌}
use mathlib.Core.Path.{◌≡◌, sym, ◌∙◌, ap}
use mathlib.Core.List.{List, [], ◌∷◌, map}
use native.Mathlib.Decide.{ℕ_discrete, dec_le}
use native.Mathlib.Omega.{arith}
use lib.ListN.{length}
use Rattle.lists.specs.Lists.{All, joined, up_to}
use Rattle.lists.proofs.Tests.{some_injective}
use Rattle.lists.proofs.Lists.{joined_next}
use Rattle.lists.proofs.All.{all_so, all_left, all_append, all_head, all_tail}
use Rattle.lists.proofs.Counts.{occurs, occurs_other}
use Rattle.rules.specs.State.{Message, State, history_at}
use Rattle.rules.specs.Flight.{sent, taken}
use Rattle.rules.specs.Sound.{SentTo, Sound}
use Rattle.store.proofs.Names.{Numbered, name_number, name_numbers, number_of_one, few_names}
use Rattle.store.proofs.SoundStates.{numbered, often, often_append, once_at}

-- the queues below a place, one after another
abbrev pub queued : State → ℕ → List Message
queued s n = joined (map s.queues (up_to n))

module _ (s : State) (sound : Sound s) where
  abbrev P : ℕ
  P = s.sizes.places

  abbrev H : ℕ
  H = s.sizes.entries

  own : (t : ℕ) → All (SentTo s t) (s.queues t)
  own t = all_left (SentTo s t) (s.queues t) (taken (history_at s t)) (sound.nothing_else t)

  all_numbered : (n : ℕ) → All (Numbered P H) (queued s n)
  unfolding up_to joined All
  all_numbered zero = tt
  all_numbered (suc n) = rw (joined_next s.queues n) (all_append (Numbered P H) (queued s n) (s.queues n) (all_numbered n) (all_so (numbered s sound n) (s.queues n) (own n)))

  -- a message of this number was sent to t
  record Comes (c t : ℕ) : Type 0 where
    message : Message
    number : name_number H message ≡ c
    numbered_so : Numbered P H message
    sent_to : SentTo s t message

  one_target : {c t t' : ℕ} → Comes c t → Comes c t' → t ≡ t'
  unfolding SentTo
  one_target x y =
      let m = x.message in
      let n = y.message in
      let (a, b) = number_of_one H m.sender m.count n.sender n.count x.numbered_so.count_below y.numbered_so.count_below (x.number ∙ sym y.number) in
      let e = some_injective (sym x.sent_to ∙ (λ i. sent (history_at s (a i)) (b i)) ∙ y.sent_to) in
      cc

  comes : (c t : ℕ) (ms : List Message) → All (SentTo s t) ms → 0 < often s sound c ms → Comes c t
  unfolding occurs
  comes c t [] a h = absurd (omega arith)
  comes c t (m ∷ ms) a h = elim (ℕ_discrete c (name_number H m)) [
    | yes e ↦ record { message = m; number = sym e; numbered_so = numbered s sound t m (all_head (SentTo s t) m ms a); sent_to = all_head (SentTo s t) m ms a }
    | no n ↦ comes c t ms (all_tail (SentTo s t) m ms a) (omega (arith, h, occurs_other c (name_number H m) (name_numbers H ms) n))
  ]

  -- and to a place below n, if it is queued there
  comes_below : (c n : ℕ) → 0 < often s sound c (queued s n) → (t : ℕ) × (t < n) × Comes c t
  unfolding up_to joined occurs
  comes_below c zero h = absurd (omega arith)
  comes_below c (suc n) h = elim (dec_le 1 (often s sound c (s.queues n))) [
    | yes g ↦ (n, omega arith, comes c n (s.queues n) (own n) (omega (arith, g)))
    | no g ↦
        let split : often s sound c (queued s (suc n)) ≡ often s sound c (queued s n) + often s sound c (s.queues n) = ap (often s sound c) (joined_next s.queues n) ∙ often_append s sound c (queued s n) (s.queues n) in
        let (t, below, x) = comes_below c n (omega (arith, h, split, g)) in
        (t, omega (arith, below), x)
  ]

  once_each : (c t : ℕ) → often s sound c (s.queues t) ≤ 1
  once_each c t = omega (arith, once_at s sound t c, often_append s sound c (s.queues t) (taken (history_at s t)))

  once_all : (n c : ℕ) → often s sound c (queued s n) ≤ 1
  unfolding up_to joined occurs
  once_all zero c = omega arith
  once_all (suc n) c =
      let split : often s sound c (queued s (suc n)) ≡ often s sound c (queued s n) + often s sound c (s.queues n) = ap (often s sound c) (joined_next s.queues n) ∙ often_append s sound c (queued s n) (s.queues n) in
      elim (dec_le 1 (often s sound c (queued s n))) [
        | yes g ↦ elim (dec_le 1 (often s sound c (s.queues n))) [
          | yes h ↦
              let (t, below, x) = comes_below c n (omega (arith, g)) in
              let same = one_target x (comes c n (s.queues n) (own n) (omega (arith, h))) in
              absurd (omega (arith, below, same))
          | no h ↦ omega (arith, split, once_all n c, h)
        ]
        | no g ↦ omega (arith, split, once_each c n, g)
      ]

  pub few_queued : (n : ℕ) → length (queued s n) ≤ P * H
  few_queued n = few_names P H (queued s n) (all_numbered n) (once_all n)
