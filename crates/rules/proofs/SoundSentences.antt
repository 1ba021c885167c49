-- Each clause of soundness is broken, alone, by the state that specs/SoundSentences gives for it.
use Prim.Native.Nat.{ℕ, zero, suc, ◌≤◌}
use mathlib.Core.Path.{◌≡◌, refl, sym, ◌∙◌, ap, subst}
use mathlib.Core.Logic.{◌≢◌, inl, inr}
use mathlib.Core.Bool.{Bool, true, ◌&&◌, ◌||◌}
use mathlib.Core.Option.{some}
use mathlib.Core.List.{List, [], ◌∷◌, ◌++◌}
use native.Mathlib.Omega.{arith}
use lib.Dec.{eqb}
use lib.ListN.{get_or}
use Rattle.lists.specs.Lists.{All}
use Rattle.lists.proofs.Tests.{true_not_false, none_not_some, eqb-true, and_left, and_right, or_true}
use Rattle.lists.proofs.All.{all_head}
use Rattle.machine.specs.Work.{to_send}
use Rattle.rules.specs.State.{Message, letter, Entry, State, history_at, entry_at}
use Rattle.rules.specs.Flight.{taken}
use Rattle.rules.specs.Sound.{SentTo, Sound}
use Rattle.rules.specs.SoundSentences.{Clause, sizes_pass, module_passes, place_0, pool_ends, no_queue_elsewhere, history_fits, controls, controls_before, check_numbers, sends_said, born, born_once, place_0_unborn, children_in_pool, targets_in_pool, once, nothing_else, prefixes, Holds, Breaks, Example, state, five, of_sizes, two, spawns, good, guarded, SoundSentences}
use Rattle.rules.proofs.ExampleTests.{test, holds, tested}

-- ---- all clauses together

of_sound : (s : State) → Sound s → (c : Clause) → Holds s c
unfolding Holds
of_sound s h sizes_pass = h.sizes_pass
of_sound s h module_passes = h.module_passes
of_sound s h place_0 = h.place_0
of_sound s h pool_ends = h.pool_ends
of_sound s h no_queue_elsewhere = h.no_queue_elsewhere
of_sound s h history_fits = h.history_fits
of_sound s h controls = h.controls
of_sound s h controls_before = h.controls_before
of_sound s h check_numbers = h.check_numbers
of_sound s h sends_said = h.sends_said
of_sound s h born = h.born
of_sound s h born_once = h.born_once
of_sound s h place_0_unborn = h.place_0_unborn
of_sound s h children_in_pool = h.children_in_pool
of_sound s h targets_in_pool = h.targets_in_pool
of_sound s h once = h.once
of_sound s h nothing_else = h.nothing_else
of_sound s h prefixes = h.prefixes

to_sound : (s : State) → ((c : Clause) → Holds s c) → Sound s
unfolding Holds
to_sound s h = record {
  sizes_pass = h sizes_pass;
  module_passes = h module_passes;
  place_0 = h place_0;
  pool_ends = h pool_ends;
  no_queue_elsewhere = h no_queue_elsewhere;
  history_fits = h history_fits;
  controls = h controls;
  controls_before = h controls_before;
  check_numbers = h check_numbers;
  sends_said = h sends_said;
  born = h born;
  born_once = h born_once;
  place_0_unborn = h place_0_unborn;
  children_in_pool = h children_in_pool;
  targets_in_pool = h targets_in_pool;
  once = h once;
  nothing_else = h nothing_else;
  prefixes = h prefixes;
}

-- ---- clauses by number

abbrev pub clauses : List Clause
clauses = sizes_pass ∷ module_passes ∷ place_0 ∷ pool_ends ∷ no_queue_elsewhere ∷ history_fits ∷ controls ∷ controls_before ∷ check_numbers ∷ sends_said ∷ born ∷ born_once ∷ place_0_unborn ∷ children_in_pool ∷ targets_in_pool ∷ once ∷ nothing_else ∷ prefixes ∷ []

unfoldable number : Clause → ℕ
number sizes_pass = 0
number module_passes = 1
number place_0 = 2
number pool_ends = 3
number no_queue_elsewhere = 4
number history_fits = 5
number controls = 6
number controls_before = 7
number check_numbers = 8
number sends_said = 9
number born = 10
number born_once = 11
number place_0_unborn = 12
number children_in_pool = 13
number targets_in_pool = 14
number once = 15
number nothing_else = 16
number prefixes = 17

abbrev numbered : ℕ → Clause
numbered n = get_or clauses n sizes_pass

numbered_back : (c : Clause) → numbered (number c) ≡ c
unfolding number
numbered_back sizes_pass = refl
numbered_back module_passes = refl
numbered_back place_0 = refl
numbered_back pool_ends = refl
numbered_back no_queue_elsewhere = refl
numbered_back history_fits = refl
numbered_back controls = refl
numbered_back controls_before = refl
numbered_back check_numbers = refl
numbered_back sends_said = refl
numbered_back born = refl
numbered_back born_once = refl
numbered_back place_0_unborn = refl
numbered_back children_in_pool = refl
numbered_back targets_in_pool = refl
numbered_back once = refl
numbered_back nothing_else = refl
numbered_back prefixes = refl

unfoldable pub every : (Clause → Bool) → List Clause → Bool
every f [] = true
every f (c ∷ cs) = f c && every f cs

every_at : (f : Clause → Bool) (z : Clause) (cs : List Clause) (n : ℕ) → every f cs ≡ true → f z ≡ true → f (get_or cs n z) ≡ true
unfolding every
every_at f z [] n t e = e
every_at f z (c ∷ cs) zero t e = and_left (f c) (every f cs) t
every_at f z (c ∷ cs) (suc n) t e = every_at f z cs n (and_right (f c) (every f cs) t) e

every_clause : (f : Clause → Bool) → every f clauses ≡ true → (c : Clause) → f c ≡ true
unfolding every
every_clause f t c = subst (λ c. f c ≡ true) (numbered_back c) (every_at f sizes_pass clauses (number c) t (and_left (f sizes_pass) _ t))

-- every clause passes its test
pub sound_by : (x : Example) → every (test x) clauses ≡ true → Sound (state x)
sound_by x t = to_sound (state x) (λ c. holds x c (every_clause (test x) t c))

-- every clause but one
unfoldable all_but : Clause → Example → Bool
all_but c x = every (λ d. eqb (number d) (number c) || test x d) clauses

breaks : (c : Clause) (x : Example) → all_but c x ≡ true → ¬ Holds (state x) c → Breaks c x
unfolding all_but
breaks c x t n = record { broken = n; others = others; not_sound = λ h. n (of_sound (state x) h c) }
  where
    others : (d : Clause) → d ≢ c → Holds (state x) d
    others d apart = elim (or_true (eqb (number d) (number c)) (test x d) (every_clause (λ d. eqb (number d) (number c) || test x d) t d)) [
      | inl e ↦ absurd (apart (sym (numbered_back d) ∙ ap numbered (eqb-true (number d) (number c) e) ∙ numbered_back c))
      | inr e ↦ holds x d e
    ]

-- ---- the table

same_send : {t u : ℕ} {v w m n : List ℕ} → to_send t v m ≡ to_send u w n → (t ≡ u) × (v ≡ w)
same_send e = (cc, cc)

same_letter_lem : {t u : ℕ} {v w : List ℕ} → some (letter t v) ≡ some (letter u w) → (t ≡ u) × (v ≡ w)
same_letter_lem e = (cc, cc)

five_six : {A : Type 0} → ◌≡◌ {A = List ℕ} (0x02000005 ∷ []) (0x02000006 ∷ []) → A
five_six e = let z : ◌≡◌ {A = ℕ} 0x02000005 0x02000006 = cc in absurd (omega arith)

-- the count of the first message
unfoldable first_count : List Message → ℕ
first_count [] = 0
first_count (m ∷ ms) = m.count

queue_follows : (s : State) → Holds s nothing_else → Holds s targets_in_pool → Holds s no_queue_elsewhere
unfolding Holds SentTo All
queue_follows s sent in_pool_lem p free = go (s.queues p) refl (sent p)
  where
    go : (queue : List Message) → s.queues p ≡ queue → All (SentTo s p) (s.queues p ++ taken (history_at s p)) → s.queues p ≡ []
    go [] e a = e
    go (m ∷ queue) e a = true_not_false (in_pool_lem m.sender m.count p m.value (all_head (SentTo s p) m (queue ++ taken (history_at s p)) (rw e at a))) free

pub sound_sentences : SoundSentences
unfolding tested every all_but number first_count
sound_sentences = record {
  together = λ s. (of_sound s, to_sound s);
  sound = sound_by good refl;
  least = sound_by (of_sizes 1 1 16) refl;
  largest = sound_by (of_sizes 16 64 255) refl;
  places_17 = breaks sizes_pass _ refl (λ h. true_not_false h refl);
  entries_0 = breaks sizes_pass _ refl (λ h. true_not_false h refl);
  entries_65 = breaks sizes_pass _ refl (λ h. true_not_false h refl);
  words_256 = breaks sizes_pass _ refl (λ h. true_not_false h refl);
  words_15 = breaks sizes_pass _ refl (λ h. true_not_false h refl);
  bad_module = breaks module_passes _ refl (λ h. none_not_some (sym h));
  nobody = breaks place_0 _ refl (λ h. true_not_false h refl);
  place_P = breaks pool_ends _ refl (λ h. true_not_false refl (h 1 (omega arith)));
  queue_follows = queue_follows;
  five_entries = breaks history_fits _ refl (λ h. let z : 5 ≤ 4 = h 0 in omega arith);
  too_long = breaks controls _ refl (λ h. let z : 17 ≤ 16 = (h 0 _ refl).fits in omega arith);
  too_long_before = breaks controls_before _ refl (λ h. let z : 17 ≤ 16 = (h 0 0 _ refl).fits in omega arith);
  open_control = breaks controls _ refl (λ h. true_not_false (h 0 _ refl).good refl);
  open_before = breaks controls_before _ refl (λ h. true_not_false (h 0 0 _ refl).good refl);
  no_words = breaks controls _ refl (λ h. true_not_false (h 0 _ refl).good refl);
  two_terms = breaks controls _ refl (λ h. true_not_false (h 0 _ refl).good refl);
  a_clause = breaks controls _ refl (λ h. true_not_false (h 0 _ refl).good refl);
  far_pid = breaks controls _ refl (λ h. true_not_false (h 0 _ refl).good refl);
  bound_again = breaks controls _ refl (λ h. true_not_false (h 0 _ refl).good refl);
  pid_in_pattern = breaks controls _ refl (λ h. true_not_false (h 0 _ refl).good refl);
  pid_and_guard = sound_by guarded refl;
  no_function = breaks controls _ refl (λ h. true_not_false (h 0 _ refl).good refl);
  wrong_count = breaks controls _ refl (λ h. true_not_false (h 0 _ refl).good refl);
  check_256 = breaks check_numbers _ refl (λ h. let z : 256 ≤ 255 = h 0 0 256 _ refl refl in omega arith);
  other_target = breaks sends_said _ refl (λ h. let z = (same_send (h 0 1 0 five _ refl refl).sends).0 in omega arith);
  other_value = breaks sends_said _ refl (λ h. five_six (same_send (h 0 1 1 (0x02000006 ∷ []) _ refl refl).sends).1);
  no_send = breaks sends_said _ refl (λ h. let e = (h 0 1 1 five _ refl refl).sends in let z : ◌≡◌ {A = ℕ} 0 1 = cc in omega arith);
  unborn = breaks born _ refl unborn;
  born_twice = breaks born_once _ refl (λ h. let z = (h 1 0 0 0 1 (record { entry = spawns; stands = refl; spawns = refl }) (record { entry = spawns; stands = refl; spawns = refl })).1 in omega arith);
  place_0_born = breaks place_0_unborn _ refl (λ h. h 0 0 (record { entry = _; stands = refl; spawns = refl }));
  child_gone = breaks children_in_pool _ refl (λ h. true_not_false (h 1 0 0 (record { entry = spawns; stands = refl; spawns = refl })) refl);
  target_gone = breaks targets_in_pool _ refl (λ h. true_not_false (h 0 0 1 five refl) refl);
  twice_queued = breaks once _ refl (λ h. true_not_false (h 1) refl);
  queued_and_taken = breaks once _ refl (λ h. true_not_false (h 1) refl);
  taken_twice = breaks once _ refl (λ h. true_not_false (h 1) refl);
  never_sent = breaks nothing_else _ refl (λ h. none_not_some (h 1).0);
  not_that_value = breaks nothing_else _ refl (λ h. five_six (same_letter_lem (h 1).0).1);
  never_sent_taken = breaks nothing_else _ refl (λ h. none_not_some (h 1).0);
  not_its_target = breaks nothing_else _ refl (λ h. let z = (same_letter_lem (h 0).0).0 in omega arith);
  not_in_current = breaks prefixes _ refl (λ h. let e = (h 1).0.whole in let z : ◌≡◌ {A = ℕ} 0 1 = cc in omega arith);
  not_in_next = breaks prefixes _ refl (λ h. let e : ◌≡◌ {A = ℕ} 2 1 = ap first_count (h 1).1.0.whole in omega arith);
}
  where
    unborn : ¬ Holds (state (two [] [] [])) born
    unborn h = let (p, i, b) = h 1 refl (λ e. omega arith) in nowhere p i b.stands
      where
        nowhere : {A : Type 0} {e : Entry} (p i : ℕ) → entry_at (history_at (state (two [] [] [])) p) i ≡ some e → A
        nowhere zero i e = none_not_some e
        nowhere (suc zero) i e = none_not_some e
        nowhere (suc (suc p)) i e = none_not_some e
