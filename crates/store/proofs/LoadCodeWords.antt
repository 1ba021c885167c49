-- What a load writes: three runs of words that are the image of the loaded state.
use Prim.Native.Nat.{ℕ, zero, suc, ◌+◌, ◌-◌, ◌*◌, ◌≤◌}
use mathlib.Core.Path.{◌≡◌, refl, sym, ◌∙◌, ap}
use mathlib.Core.Bool.{true}
use mathlib.Core.List.{List, [], ◌∷◌, ◌++◌, append_assoc}
use native.Mathlib.Nat.{zero-mul}
use native.Mathlib.Omega.{arith}
use borrow.Rule.Slice.PartMut.{mid_of, put_mid}
use lib.ListN.{length, take, drop, replicate, length-append, length-drop, length-replicate, replicate-append-replicate}
use lib.Seq.{length-take-le, drop_at}
use Rattle.lists.specs.Fill.{fill_to}
use Rattle.lists.proofs.Fill.{fill_none}
use Rattle.lists.proofs.Blocks.{block_in, put_next, put_behind}
use Rattle.term.specs.Words.{word, tag_apply}
use Rattle.term.specs.Module.{longest_module}
use Rattle.rules.specs.State.{Sizes}
use Rattle.rules.specs.Load.{good_sizes, new_process, first_control, loaded}
use Rattle.store.specs.Layout.{blocks_from, names_room, slot_size, slot_count, block_size, needed, kind_live, slot_words, present_slot, head, image}
use Rattle.store.proofs.SoundStates.{sizes_in_lem}
use Rattle.store.proofs.Lengths.{length_head}
use Rattle.store.proofs.Loading.{loaded_image}

-- ---- filling further

fill_further : (k j : ℕ) (xs : List ℕ) → length xs ≤ k → fill_to (k + j) 0 xs ≡ fill_to k 0 xs ++ replicate j 0
unfolding fill_to
fill_further zero j [] h = let same : zero + j ≡ j = omega arith in ap (λ (n : ℕ). fill_to n 0 []) same ∙ fill_none j 0
fill_further zero j (x ∷ xs) h = absurd (omega arith)
fill_further (suc k) j [] h = let same : suc k + j ≡ suc (k + j) = omega arith in ap (λ (n : ℕ). fill_to n 0 []) same ∙ ap (λ (r : List ℕ). 0 ∷ r) (fill_further k j [] (omega arith))
fill_further (suc k) j (x ∷ xs) h = let same : suc k + j ≡ suc (k + j) = omega arith in ap (λ (n : ℕ). fill_to n 0 (x ∷ xs)) same ∙ ap (λ (r : List ℕ). x ∷ r) (fill_further k j xs (omega arith))

-- the words of the first slot before the zeros
abbrev pub start_with : ℕ → List ℕ
start_with w = kind_live ∷ 1 ∷ 0 ∷ 0 ∷ 0 ∷ 0 ∷ 0 ∷ 0 ∷ w ∷ []

abbrev pub first_words : List ℕ
first_words = start_with (word tag_apply 0 0)

module _ (sizes : Sizes) (good : good_sizes sizes ≡ true) where
  first_slot : slot_words sizes (present_slot (new_process first_control) []) ≡ fill_to (slot_size sizes) 0 first_words
  unfolding slot_words fill_to
  first_slot =
      let words = sizes.words in
      let room = names_room sizes in
      let eight : slot_size sizes ≡ suc (suc (suc (suc (suc (suc (suc (suc (words + room)))))))) = omega arith in
      ap (λ (r : List ℕ). kind_live ∷ 1 ∷ 0 ∷ 0 ∷ 0 ∷ 0 ∷ 0 ∷ 0 ∷ (fill_to words 0 first_control ++ r)) (fill_none room 0)
      ∙ ap (λ (r : List ℕ). kind_live ∷ 1 ∷ 0 ∷ 0 ∷ 0 ∷ 0 ∷ 0 ∷ 0 ∷ r) (sym (fill_further words room first_control (omega (arith, (sizes_in_lem sizes good).words_low))))
      ∙ ap (λ (n : ℕ). fill_to n 0 first_words) (sym eight)

  -- all words behind the head
  pub filled_image : (module' rest : List ℕ) → (head module' sizes ++ fill_to (sizes.places * block_size sizes) 0 first_words) ++ rest ≡ image (loaded module' sizes) ++ rest
  filled_image module' rest =
      let size = slot_size sizes in
      let all = sizes.places * block_size sizes in
      let front = head module' sizes in
      let slot = slot_words sizes (present_slot (new_process first_control) []) in
      let x = sizes_in_lem sizes good in
      let small : size ≤ all = omega (arith, block_in 0 sizes.places (block_size sizes) x.places_low, zero-mul (block_size sizes), block_in 0 (slot_count sizes) size (omega arith), zero-mul size) in
      let split : all ≡ size + (all - size) = omega arith in
      let zeros = replicate {A = ℕ} all 0 in
      let fill : fill_to all 0 first_words ≡ slot ++ replicate (all - size) 0 =
      ap (λ (n : ℕ). fill_to n 0 first_words) split ∙ fill_further size (all - size) first_words (omega arith) ∙ ap (λ (r : List ℕ). r ++ replicate (all - size) 0) (sym first_slot) in
      let cut_rest : drop size (zeros ++ rest) ≡ replicate (all - size) 0 ++ rest =
      ap (λ (n : ℕ). drop size (replicate n 0 ++ rest)) split
      ∙ ap (λ (r : List ℕ). drop size (r ++ rest)) (sym (replicate-append-replicate size (all - size) 0))
      ∙ ap (drop size) (append_assoc (replicate size 0) (replicate (all - size) 0) rest)
      ∙ drop_at (replicate size 0) (replicate (all - size) 0 ++ rest) size (length-replicate size 0) in
      append_assoc front (fill_to all 0 first_words) rest
      ∙ ap (λ (r : List ℕ). front ++ r) (ap (λ (r : List ℕ). r ++ rest) fill ∙ append_assoc slot (replicate (all - size) 0) rest ∙ ap (λ (r : List ℕ). slot ++ r) (sym cut_rest))
      ∙ sym (put_behind 0 size blocks_from front (zeros ++ rest) slot (length_head module' sizes))
      ∙ ap (λ (r : List ℕ). put_mid blocks_from size r slot) (sym (append_assoc front zeros rest))
      ∙ loaded_image module' sizes rest ((front ++ zeros) ++ rest) x.places_low refl

  -- ---- the three runs

  module _ (module' l x₁ x₂ x₃ : List ℕ) (n w : ℕ) (ew : w ≡ word tag_apply 0 0) (en : n ≡ needed sizes) (long : n ≤ length l)
      (e₁ : x₁ ≡ fill_to (length (take 4 l)) 0 (sizes.places ∷ sizes.entries ∷ sizes.words ∷ length module' ∷ []))
      (e₂ : x₂ ≡ fill_to (length (mid_of 4 512 (x₁ ++ drop 4 l))) 0 module')
      (e₃ : x₃ ≡ fill_to (length (mid_of 516 (n - 516) (put_mid 4 512 (x₁ ++ drop 4 l) x₂))) 0 (start_with w)) where
    head_run : x₁ ≡ sizes.places ∷ sizes.entries ∷ sizes.words ∷ length module' ∷ []
    unfolding fill_to
    head_run = e₁ ∙ ap (λ (k : ℕ). fill_to k 0 (sizes.places ∷ sizes.entries ∷ sizes.words ∷ length module' ∷ [])) (length-take-le 4 l (omega arith))

    first_length : length (x₁ ++ drop 4 l) ≡ length l
    first_length = length-append x₁ (drop 4 l) ∙ omega (arith, ap length head_run, length-drop 4 l)

    module_run : x₂ ≡ fill_to longest_module 0 module'
    module_run = e₂ ∙ ap (λ (k : ℕ). fill_to k 0 module') (length-take-le 512 (drop 4 (x₁ ++ drop 4 l)) (omega (arith, length-drop 4 (x₁ ++ drop 4 l), first_length)))

    two_runs : put_mid 4 512 (x₁ ++ drop 4 l) x₂ ≡ (x₁ ++ x₂) ++ drop 516 l
    two_runs = put_next 0 4 512 l x₁ x₂ (ap length head_run) (omega arith)

    front : x₁ ++ x₂ ≡ head module' sizes
    unfolding head
    front = ap (λ (r : List ℕ). r ++ x₂) head_run ∙ ap (λ (r : List ℕ). sizes.places ∷ sizes.entries ∷ sizes.words ∷ length module' ∷ r) module_run

    front_length : length (x₁ ++ x₂) ≡ 516
    front_length = ap length front ∙ length_head module' sizes

    slots_run : x₃ ≡ fill_to (sizes.places * block_size sizes) 0 first_words
    slots_run =
        let behind : length (drop 516 ((x₁ ++ x₂) ++ drop 516 l)) ≡ length l - 516 = ap length (drop_at (x₁ ++ x₂) (drop 516 l) 516 front_length) ∙ length-drop 516 l in
        let room : length (mid_of 516 (n - 516) (put_mid 4 512 (x₁ ++ drop 4 l) x₂)) ≡ sizes.places * block_size sizes =
        ap (λ (r : List ℕ). length (mid_of 516 (n - 516) r)) two_runs ∙ length-take-le (n - 516) (drop 516 ((x₁ ++ x₂) ++ drop 516 l)) (omega arith) ∙ omega arith in
        e₃ ∙ ap (λ (k : ℕ). fill_to k 0 (start_with w)) room ∙ ap (λ (v : ℕ). fill_to (sizes.places * block_size sizes) 0 (start_with v)) ew

    pub load_writes : put_mid 516 (n - 516) (put_mid 4 512 (x₁ ++ drop 4 l) x₂) x₃ ≡ image (loaded module' sizes) ++ drop (needed sizes) l
    load_writes =
        let whole : 516 + (n - 516) ≡ needed sizes = omega arith in
        ap (λ (r : List ℕ). put_mid 516 (n - 516) r x₃) two_runs
        ∙ put_next 0 516 (n - 516) l (x₁ ++ x₂) x₃ front_length (omega arith)
        ∙ ap (λ (k : ℕ). ((x₁ ++ x₂) ++ x₃) ++ drop k l) whole
        ∙ (λ i. (front i ++ slots_run i) ++ drop (needed sizes) l)
        ∙ filled_image module' (drop (needed sizes) l)
