-- Images word by word.
use Rattle.std.specs.Prelude.{ℕ, ◌≡◌, refl, List, [], ◌∷◌, ◌++◌, length, take, drop, replicate}
use Rattle.std.proofs.Math.Option.{none, some}
use Rattle.lists.specs.Lists.{joined}
use Rattle.lists.specs.Fill.{fill_to}
use Rattle.rules.specs.State.{Sizes, State}
use Rattle.rules.specs.Load.{loaded}
use Rattle.rules.specs.Commands.{Command, step, spawn_into, deliver, run_state}
use Rattle.rules.specs.Cases.{pair, two}
use Rattle.rules.specs.Opened.{opened}
use Rattle.store.specs.Layout.{blocks_from, needed, slot_words, kind_number, number_in, place_slots, slots_at, block, head, laid, image}

-- P 2, H 3, W 16: a slot has 8 + 16 + 6 words, a block 4 slots
abbrev pub small_sizes : Sizes
small_sizes = record { places = 2; entries = 3; words = 16 }

-- P 2, H 5, W 16: a slot has 8 + 16 + 10 words, a block 6 slots
abbrev pub wider_sizes : Sizes
wider_sizes = record { places = 2; entries = 5; words = 16 }

-- the state after commands; one that is refused leaves it
unfoldable pub after : List Command → State → State
after [] s = s
after (c ∷ cs) s = elim (run_state c s) [ none ↦ after cs s | some s' ↦ after cs s' ]

-- process 0 spawns 1 and sends it atom 5, and 1 receives it
abbrev pub received : List Command
received = step 0 ∷ spawn_into 0 1 ∷ step 0 ∷ deliver 0 0 ∷ step 1 ∷ step 1 ∷ []

unfoldable pub received_image : List ℕ
unfolding opened after joined fill_to slot_words kind_number number_in place_slots slots_at block head laid image
received_image = image (after received (loaded pair small_sizes))

-- process 0 spawns 1 and sends it atoms 5 and 6, both are delivered, and 1 receives the first
abbrev pub one_of_two : List Command
one_of_two = step 0 ∷ spawn_into 0 1 ∷ step 0 ∷ step 0 ∷ step 0 ∷ step 1 ∷ deliver 0 0 ∷ deliver 0 1 ∷ step 1 ∷ []

unfoldable pub one_of_two_image : List ℕ
unfolding opened after joined fill_to slot_words kind_number number_in place_slots slots_at block head laid image
one_of_two_image = image (after one_of_two (loaded two wider_sizes))

pub record LayoutCases : Type 0 where
  pub long : length received_image ≡ 756
  pub need : needed small_sizes ≡ 756
  -- P, H, W, the module's length, the module, zeros
  pub module_words : take blocks_from received_image ≡ 2 ∷ 3 ∷ 16 ∷ 10 ∷ (pair ++ replicate 502 0)
  -- place 0: `5`; before it `apply 0()` (seq), `spawn 1() ! 5` (spawn of 1), `<1> ! 5` (send)
  pub place_0 : take 120 (drop blocks_from received_image)
      ≡ 7 ∷ 1 ∷ 0 ∷ 0 ∷ 0 ∷ 0 ∷ 0 ∷ 0 ∷ 0x02000005 ∷ (replicate 15 0 ++ (replicate 6 0
      ++ (1 ∷ 1 ∷ 0 ∷ 0 ∷ 0 ∷ 0 ∷ 0 ∷ 0 ∷ 0x09000000 ∷ (replicate 15 0 ++ (replicate 6 0
      ++ (4 ∷ 3 ∷ 1 ∷ 0 ∷ 0 ∷ 0 ∷ 0 ∷ 0 ∷ 0x0E020000 ∷ 0x0D000001 ∷ 0x02000005 ∷ (replicate 13 0 ++ (replicate 6 0
      ++ (2 ∷ 3 ∷ 0 ∷ 0 ∷ 0 ∷ 0 ∷ 0 ∷ 0 ∷ 0x0E020000 ∷ 0x04000001 ∷ 0x02000005 ∷ (replicate 13 0 ++ replicate 6 0))))))))))
  -- place 1: `5`; before it `apply 1()` (seq) and the receive (rec of the message at place 0 of a queue of one, named 0.0); a free slot
  pub place_1 : drop 120 (drop blocks_from received_image)
      ≡ 7 ∷ 1 ∷ 0 ∷ 0 ∷ 0 ∷ 0 ∷ 0 ∷ 0 ∷ 0x02000005 ∷ (replicate 15 0 ++ (replicate 6 0
      ++ (1 ∷ 1 ∷ 0 ∷ 0 ∷ 0 ∷ 0 ∷ 0 ∷ 0 ∷ 0x09000001 ∷ (replicate 15 0 ++ (replicate 6 0
      ++ (3 ∷ 5 ∷ 0 ∷ 0 ∷ 1 ∷ 0 ∷ 0 ∷ 0 ∷ 0x0C010000 ∷ 0x11030000 ∷ 0x01000000 ∷ 0x02000000 ∷ 0x01000000 ∷ (replicate 11 0 ++ (0 ∷ replicate 5 0
      ++ replicate 30 0))))))))
  -- the block of place 1, where 0.1 is queued and 0.0 was received: the present, a seq, the rec with the queue before, three free slots
  pub two_messages : drop 204 (drop blocks_from one_of_two_image)
      ≡ 7 ∷ 1 ∷ 0 ∷ 0 ∷ 1 ∷ 0 ∷ 0 ∷ 0 ∷ 0x02000005 ∷ (replicate 15 0 ++ (1 ∷ replicate 9 0
      ++ (1 ∷ 1 ∷ 0 ∷ 0 ∷ 0 ∷ 0 ∷ 0 ∷ 0 ∷ 0x09000001 ∷ (replicate 15 0 ++ (replicate 10 0
      ++ (3 ∷ 5 ∷ 0 ∷ 0 ∷ 2 ∷ 0 ∷ 0 ∷ 0 ∷ 0x0C010000 ∷ 0x11030000 ∷ 0x01000000 ∷ 0x02000000 ∷ 0x01000000 ∷ (replicate 11 0 ++ (0 ∷ 1 ∷ replicate 8 0
      ++ replicate 102 0))))))))

pub layout_cases : LayoutCases
unfolding received_image one_of_two_image
layout_cases = record { long = refl; need = refl; module_words = refl; place_0 = refl; place_1 = refl; two_messages = refl }
