-- The tests of slots decide the clauses of soundness that are said of slots.
use Prim.Native.Nat.{ℕ, ◌+◌, ◌*◌, ◌≤◌, ◌<◌}
use mathlib.Core.Path.{◌≡◌, refl, sym, ◌∙◌, ap, subst}
use mathlib.Core.Bool.{Bool, true, false}
use mathlib.Core.Option.{none, some}
use mathlib.Core.List.{List, [], ◌∷◌, map, tail, reverse, reverse-reverse}
use native.Mathlib.Decide.{dec_lt}
use native.Mathlib.Nat.{zero-add}
use native.Mathlib.Omega.{arith}
use borrow.Rule.Slice.PartMut.{mid_of}
use lib.ListN.{length, get_or, replicate, length-replicate, get_or-replicate, get_or-eq_default}
use Rattle.lists.specs.Lists.{All}
use Rattle.lists.proofs.All.{all_so, all_both, all_map, all_unmap, all_reverse, all_get_d}
use Rattle.lists.proofs.Blocks.{length_chop}
use Rattle.lists.proofs.Counts.{occurs}
use Rattle.term.specs.Module.{check_module}
use Rattle.term.specs.Control.{module_arities}
use Rattle.rules.specs.State.{Sizes, Letter, letter}
use Rattle.rules.specs.Flight.{sent}
use Rattle.store.specs.Layout.{blocks_from, slot_size, slot_count, block_size, kind_free, Slot}
use Rattle.store.specs.Formed.{WellSlots, sizes_in, WellFormedStore}
use Rattle.store.proofs.Reading.{read_slot, read_block, read_sizes, read_module, read_place, read_past}
use Rattle.store.proofs.Restoring.{read_send, read_sends}
use Rattle.store.proofs.LayoutLaws.{names_most}
use Rattle.store.proofs.SlotViews.{EntryShape, seq_slot, send_slot, rec_slot, spawn_slot, self_slot, check_slot}
use Rattle.store.proofs.SlotSends.{Sends, by_count, by_slot}
use Rattle.store.proofs.SoundSlots.{is_live, SlotFlows, SaidTo, SoundSlots}
use Rattle.store.proofs.SoundSlots
use Rattle.store.proofs.Births.{born_clauses, born_counted}
use Rattle.slots.specs.SoundTests.{place_passes}
use Rattle.soundness.specs.MessageTests.{place_flows, arrive_from}
use Rattle.slots.specs.SendTests.{entry_slots, note_from}
use Rattle.soundness.specs.StoreTests.{live_in, SlotsPass, blocks_in}
use Rattle.slots.proofs.SoundTestClause.{EntryForm, seq_form, send_form, rec_form, spawn_form, self_form, check_form}
use Rattle.slots.proofs.BlockViews.{block_long, block_well, place_read}
use Rattle.slots.proofs.BirthClause.{live_same, births_decided}
use Rattle.soundness.proofs.ArrivalClause.{target_word, TargetTable, arrivals_decided}
use Rattle.soundness.proofs.StoreTest.{every_all, all_every}
use Rattle.soundness.proofs.WholeLaws.{all_at}
use Rattle.soundness.proofs.SlotsInUse.{in_use, entries_few, used_all, all_used, turned_on}
use Rattle.soundness.proofs.PlaceClause.{EntryGood, PresentGood, PlaceGood, place_good, good_place, place_flow, flow_place}
use Rattle.soundness.proofs.SendClause.{FitsIf, kind_send_lem, free_sent, NotedAll, noted_all, notes_all, send_lives}

-- ---- the shape of an entry is its form and, of a send, what it is about to send

module _ (sizes : Sizes) (module' : List ℕ) (live : List Bool) (x : Slot) where
  entry_shape : EntryForm x → FitsIf sizes module' live x → EntryShape module' x
  entry_shape (seq_form k n e) f = seq_slot k n e
  entry_shape (send_form k n e) f = let g = f k in send_slot k n e g.target g.value g.next g.works
  entry_shape (rec_form k h) f = rec_slot k h
  entry_shape (spawn_form k e) f = spawn_slot k e
  entry_shape (self_form k n e) f = self_slot k n e
  entry_shape (check_form k h e) f = check_slot k h e

  entry_form : EntryShape module' x → EntryForm x
  entry_form (seq_slot k n e) = seq_form k n e
  entry_form (send_slot k n e target value next w) = send_form k n e
  entry_form (rec_slot k h) = rec_form k h
  entry_form (spawn_slot k e) = spawn_form k e
  entry_form (self_slot k n e) = self_form k n e
  entry_form (check_slot k h e) = check_form k h e

-- nothing is noted at first
no_targets : (i : ℕ) → ◌≡◌ {A = ℕ} (get_or (replicate 1024 0) i 0) 0
no_targets i = elim (dec_lt i 1024) [ yes h ↦ get_or-replicate 1024 i 0 0 h | no h ↦ get_or-eq_default (replicate 1024 0) 0 {n = i} (omega (arith, h, length-replicate {A = ℕ} 1024 0)) ]

module _ (l : List ℕ) (formed : WellFormedStore l) where
  abbrev sizes : Sizes
  sizes = sizes_in l

  abbrev module' : List ℕ
  module' = read_module l

  abbrev places : ℕ → List Slot
  places = read_place (sizes_in l) l

  abbrev blocks : List (List ℕ)
  blocks = blocks_in l

  abbrev block : ℕ → List ℕ
  block p = get_or (blocks_in l) p []

  abbrev live : List Bool
  live = live_in (blocks_in l)

  blocks_many : length blocks ≡ sizes.places
  blocks_many = length_chop sizes.places (block_size sizes) (mid_of blocks_from (sizes.places * block_size sizes) l)

  long : (p : ℕ) → p < sizes.places → length (block p) ≡ block_size sizes
  long p h = block_long sizes l formed refl p h

  well : (p : ℕ) → p < sizes.places → WellSlots sizes (slot_count sizes) (block p)
  well p h = block_well sizes l formed refl p h

  read : (p : ℕ) → p < sizes.places → places p ≡ read_block sizes (block p)
  read p h = place_read sizes l formed refl p h

  -- what holds of each block's slots, and of none, holds of every place
  each : (Q : List Slot → Type 0) → Q [] → ((p : ℕ) → p < sizes.places → Q (read_block sizes (block p))) → (p : ℕ) → Q (places p)
  each Q q f p = elim (dec_lt p sizes.places) [ yes h ↦ subst Q (sym (read p h)) (f p h) | no h ↦ subst Q (sym (read_past sizes l p (omega (arith, h)))) q ]

  -- what holds of each block
  all_blocks : (Q : List ℕ → Type 0) → ((p : ℕ) → p < sizes.places → Q (block p)) → All Q blocks
  all_blocks Q f = all_at Q [] blocks (λ p h. f p (omega (arith, blocks_many)))

  block_of : (Q : List ℕ → Type 0) → All Q blocks → (p : ℕ) → p < sizes.places → Q (block p)
  block_of Q a p h = all_get_d Q blocks p [] a (omega (arith, blocks_many))

  past : (p : ℕ) → sizes.places ≤ p → is_live (places p) ≡ false
  unfolding is_live
  past p h = ap is_live (read_past sizes l p h)

  lives : (q : ℕ) → get_or live q false ≡ is_live (places q)
  lives q = live_same sizes l formed refl q

  unfoldable Lives : Letter → Type 0
  Lives (letter target value) = is_live (places target) ≡ true

  -- ---- the table of targets

  room : sizes.places * sizes.entries ≤ 1024
  room = names_most sizes formed.sizes_pass

  noted : (targets : List ℕ) → note_from module' live (slot_size sizes) sizes.entries 0 blocks (replicate 1024 0) ≡ some targets → NotedAll sizes module' live (slot_size sizes) sizes.entries blocks 0 (replicate 1024 0) targets
  noted targets e = noted_all sizes module' live (slot_size sizes) sizes.entries blocks 0 (replicate 1024 0) targets e (omega (arith, room, ap (λ (n : ℕ). n * sizes.entries) blocks_many, length-replicate {A = ℕ} 1024 0)) (λ i h. no_targets i)

  table : (targets : List ℕ) → note_from module' live (slot_size sizes) sizes.entries 0 blocks (replicate 1024 0) ≡ some targets → TargetTable module' sizes places targets
  unfolding read_sends
  table targets e = record {
    long = omega (arith, room, (noted targets e).same_length, length-replicate {A = ℕ} 1024 0);
    at = λ p k h g. (
        let u = in_use sizes (block p) (long p h) (well p h) in
        ap (λ (i : ℕ). get_or targets i 0) (sym (zero-add (p * sizes.entries + k)))
        ∙ (noted targets e).says p k (omega (arith, blocks_many)) g
        ∙ ap target_word (
        ap (λ (xs : List Slot). sent (map (read_send module') (reverse xs)) k) u.all
        ∙ ap (λ (xs : List Slot). sent (map (read_send module') xs) k) (turned_on (tail (read_block sizes (block p))) u.free [])
        ∙ free_sent sizes module' live u.free (reverse (tail (read_block sizes (block p)))) k u.are_free
        ∙ ap (λ (xs : List Slot). sent (map (read_send module') (reverse (tail xs))) k) (sym (read p h))));
  }

  -- ---- tests that pass

  module _ (good : check_module (read_module l) ≡ none) where
    abbrev arities : List ℕ
    arities = module_arities (read_module l)

    module _ (x : SlotsPass (read_module l) (get_or l 0 0) (get_or l 1 0) (get_or l 2 0) (slot_size (sizes_in l)) (blocks_in l)) where
      abbrev targets : List ℕ
      targets = x.messages_pass.targets

      good_at : (p : ℕ) (h : p < sizes.places) → PlaceGood sizes sizes.places arities (block p) (long p h) (well p h)
      good_at p h = place_good sizes sizes.places arities (block p) (long p h) (well p h) (block_of (λ b. place_passes (slot_size sizes) sizes.entries sizes.places arities b ≡ true) (every_all (place_passes (slot_size sizes) sizes.entries sizes.places arities) blocks x.shapes_pass) p h)

      present_at : (p : ℕ) (y : Slot) (ys : List Slot) → places p ≡ y ∷ ys → PresentGood sizes sizes.places arities y
      present_at p y ys e = each (λ xs. xs ≡ y ∷ ys → PresentGood sizes sizes.places arities y) (λ q. let z : ◌≡◌ {A = ℕ} 0 1 = cc in absurd (omega arith)) (λ q h. (good_at q h).present y ys) p e

      entries_at : (p : ℕ) → All (EntryGood sizes sizes.places arities) (tail (places p))
      unfolding All
      entries_at = each (λ xs. All (EntryGood sizes sizes.places arities) (tail xs)) tt (λ p h. (good_at p h).entries)

      fits_at : (p : ℕ) → All (FitsIf sizes module' live) (tail (places p))
      unfolding All
      fits_at = each (λ xs. All (FitsIf sizes module' live) (tail xs)) tt (λ p h. used_all sizes (block p) (long p h) (well p h) (FitsIf sizes module' live)
          (all_map (FitsIf sizes module' live) (read_slot sizes) (entry_slots (slot_size sizes) sizes.entries (block p))
          (block_of (λ b. All (λ w. FitsIf sizes module' live (read_slot sizes w)) (entry_slots (slot_size sizes) sizes.entries b)) (noted targets x.messages_pass.noted).fits p h)))

      lives_at : (p : ℕ) → All (Sends (read_send module') Lives) (reverse (tail (places p)))
      unfolding Lives
      lives_at p = all_reverse (Sends (read_send module') Lives) (tail (places p)) (all_so (send_lives sizes module' live Lives (λ target value e. sym (lives target) ∙ e)) (tail (places p)) (fits_at p))

      came : ((t c : ℕ) → occurs c (SoundSlots.arrived places t) ≤ 1) × ((t : ℕ) → All (SaidTo module' places t) (SoundSlots.arrived places t))
      came = (arrivals_decided module' sizes l formed refl targets (table targets x.messages_pass.noted)).0 (x.messages_pass.left, x.messages_pass.came)

      sound : SoundSlots module' sizes places
      unfolding All read_sends Lives SlotFlows
      sound = record {
        shaped = record {
          presents = λ p y ys e. (present_at p y ys e).shape;
          entries = λ p. all_both (λ y g f. entry_shape sizes module' live y g.form f) (tail (places p)) (entries_at p) (fits_at p);
        };
        sizes_pass = formed.sizes_pass;
        module_passes = good;
        place_0 = sym (lives 0) ∙ x.first_live;
        places_end = past;
        entries_fit = each (λ xs. length (tail xs) ≤ sizes.entries) (omega arith) (λ p h. entries_few sizes (block p) (long p h) (well p h));
        controls = λ p y ys e. (let g = present_at p y ys e in record { good = g.control; fits = g.fits });
        controls_before = λ p. all_so (λ y g. record { good = g.control; fits = g.fits }) (tail (places p)) (entries_at p);
        births = born_clauses sizes.places places past ((births_decided sizes l formed refl).0 x.births_pass);
        targets_live = λ p k target value e. by_count (read_send module') Lives (reverse (tail (places p))) (lives_at p) k (letter target value) e;
        once = came.0;
        nothing_else = came.1;
        prefixes = each (λ xs. SlotFlows (reverse (tail xs)) (SoundSlots.names_in xs)) tt (λ p h. place_flow sizes (block p) (long p h) (well p h) (block_of (λ b. place_flows sizes.words (slot_size sizes) sizes.entries b ≡ true) (every_all (place_flows sizes.words (slot_size sizes) sizes.entries) blocks x.messages_pass.flow) p h));
      }

      pub slots_sound : SoundSlots (read_module l) (read_sizes l) (read_place (read_sizes l) l)
      unfolding read_sizes
      slots_sound = sound

    -- ---- sound slots pass

    module _ (s : SoundSlots (read_module l) (sizes_in l) (read_place (sizes_in l) l)) where
      fits_of : (p : ℕ) → All (FitsIf sizes module' live) (tail (places p))
      unfolding read_sends Lives
      fits_of p = all_both (λ y e f. fits y e f) (tail (places p)) (s.shaped.entries p)
          (subst (All (Sends (read_send module') Lives)) (reverse-reverse (tail (places p))) (all_reverse (Sends (read_send module') Lives) (reverse (tail (places p))) (by_slot (read_send module') Lives (reverse (tail (places p))) (λ k m e. live_letter k m e))))
        where
          live_letter : (k : ℕ) (m : Letter) → sent (map (read_send module') (reverse (tail (places p)))) k ≡ some m → Lives m
          live_letter k (letter target value) e = s.targets_live p k target value e

          fits : (y : Slot) → EntryShape module' y → Sends (read_send module') Lives y → FitsIf sizes module' live y
          fits y (send_slot k n e target value next w) f q = record { target = target; value = value; next = next; works = w; lives = lives target ∙ f (letter target value) (kind_send_lem sizes module' live y k target value next w) }
          fits y (seq_slot k n e) f q = absurd (omega arith)
          fits y (rec_slot k h) f q = absurd (omega arith)
          fits y (spawn_slot k e) f q = absurd (omega arith)
          fits y (self_slot k n e) f q = absurd (omega arith)
          fits y (check_slot k h e) f q = absurd (omega arith)

      good_of : (p : ℕ) (h : p < sizes.places) → PlaceGood sizes sizes.places arities (block p) (long p h) (well p h)
      good_of p h = record {
        present = λ y ys e. (let at : places p ≡ y ∷ ys = read p h ∙ e in let c = s.controls p y ys at in record { shape = s.shaped.presents p y ys at; control = c.good; fits = c.fits });
        entries = subst (λ (xs : List Slot). All (EntryGood sizes sizes.places arities) (tail xs)) (read p h)
            (all_both (λ y e c. record { form = entry_form sizes module' live y e; control = c.good; fits = c.fits }) (tail (places p)) (s.shaped.entries p) (s.controls_before p));
      }

      not_send : (y : Slot) → y.kind ≡ kind_free → FitsIf sizes module' live y
      not_send y k q = absurd (omega arith)

      notes : (targets : List ℕ) × (note_from module' live (slot_size sizes) sizes.entries 0 blocks (replicate 1024 0) ≡ some targets)
      notes = notes_all sizes module' live (slot_size sizes) sizes.entries blocks 0 (replicate 1024 0) (all_blocks (λ b. All (λ w. FitsIf sizes module' live (read_slot sizes w)) (entry_slots (slot_size sizes) sizes.entries b))
          (λ p h. all_unmap (FitsIf sizes module' live) (read_slot sizes) (entry_slots (slot_size sizes) sizes.entries (block p))
          (all_used sizes (block p) (long p h) (well p h) (FitsIf sizes module' live) not_send (subst (λ (xs : List Slot). All (FitsIf sizes module' live) (tail xs)) (read p h) (fits_of p)))))

      arrives : (left : List ℕ) × (arrive_from sizes.words (slot_size sizes) sizes.entries sizes.places sizes.entries 0 blocks notes.0 ≡ some left)
      arrives = (arrivals_decided module' sizes l formed refl notes.0 (table notes.0 notes.1)).1 (s.once, s.nothing_else)

      passes : SlotsPass (read_module l) (get_or l 0 0) (get_or l 1 0) (get_or l 2 0) (slot_size (sizes_in l)) (blocks_in l)
      passes = record {
        shapes_pass = all_every (place_passes (slot_size sizes) sizes.entries sizes.places arities) blocks
            (all_blocks (λ b. place_passes (slot_size sizes) sizes.entries sizes.places arities b ≡ true) (λ p h. good_place sizes sizes.places arities (block p) (long p h) (well p h) (good_of p h)));
        first_live = lives 0 ∙ s.place_0;
        births_pass = (births_decided sizes l formed refl).1 (born_counted sizes.places places past s.births);
        messages_pass = record {
          targets = notes.0;
          noted = notes.1;
          left = arrives.0;
          came = arrives.1;
          flow = all_every (place_flows sizes.words (slot_size sizes) sizes.entries) blocks (all_blocks (λ b. place_flows sizes.words (slot_size sizes) sizes.entries b ≡ true)
              (λ p h. flow_place sizes (block p) (long p h) (well p h) (subst (λ (xs : List Slot). SlotFlows (reverse (tail xs)) (SoundSlots.names_in xs)) (read p h) (s.prefixes p))));
        };
      }

    pub sound_slots : SoundSlots (read_module l) (read_sizes l) (read_place (read_sizes l) l) → SlotsPass (read_module l) (get_or l 0 0) (get_or l 1 0) (get_or l 2 0) (slot_size (sizes_in l)) (blocks_in l)
    unfolding read_sizes
    sound_slots s = passes s
