-- A load is sound.
use Prim.Native.Nat.{ℕ, ◌≤◌}
use mathlib.Core.Path.{◌≡◌, refl, sym, ◌∙◌, ap, subst}
use mathlib.Core.Logic.{◌⊎◌, inl, inr}
use mathlib.Core.Bool.{Bool, true, false, ◌&&◌}
use mathlib.Core.Option.{Option, none, some}
use mathlib.Core.List.{List, []}
use native.Mathlib.Decide.{ℕ_discrete}
use native.Mathlib.Omega.{arith}
use lib.Dec.{leb}
use Rattle.lists.specs.Lists.{All}
use Rattle.lists.proofs.Tables.{put_same, put_other}
use Rattle.lists.proofs.Tests.{true_not_false, none_not_some, some_injective, leb-true, and_left, and_right}
use Rattle.term.specs.Module.{check_module}
use Rattle.machine.specs.Laws.{Good, WorkLaws}
use Rattle.rules.specs.Answers.{bad_module, bad_sizes}
use Rattle.rules.specs.State.{Sizes, Entry, State, history_of, history_at, entry_at, is_process, in_pool}
use Rattle.rules.specs.Flight.{sent, taken}
use Rattle.rules.specs.Load.{good_sizes, new_process, first_control, loaded, Load, refused, loads, load}
use Rattle.rules.specs.Sound.{SoundControl, distinct, Flows, Sound}
use Rattle.demands.proofs.Histories.{no_suffix, entry_suffix}
use Rattle.demands.proofs.Frame.{in_pool_lem, not_in_pool}
use Rattle.demands.proofs.Positions.{Had, now, past}

-- what sizes that pass say: a place at least, no more than 16, and room for the first control
pub record SizesSay (sizes : Sizes) : Type 0 where
  pub some_place : 1 ≤ sizes.places
  pub few_places : sizes.places ≤ 16
  pub enough_words : 16 ≤ sizes.words

pub sizes_say : (sizes : Sizes) → good_sizes sizes ≡ true → SizesSay sizes
unfolding good_sizes
sizes_say sizes e =
    let some_place = leb 1 sizes.places in
    let few_places = leb sizes.places 16 in
    let some_entry = leb 1 sizes.entries in
    let few_entries = leb sizes.entries 64 in
    let enough_words = leb 16 sizes.words in
    let five = and_left (some_place && few_places && some_entry && few_entries && enough_words) (leb sizes.words 255) e in
    let four = and_left (some_place && few_places && some_entry && few_entries) enough_words five in
    let three = and_left (some_place && few_places && some_entry) few_entries four in
    let two = and_left (some_place && few_places) some_entry three in
    record {
      some_place = leb-true 1 sizes.places (and_left some_place few_places two);
      few_places = leb-true sizes.places 16 (and_right some_place few_places two);
      enough_words = leb-true 16 sizes.words (and_right (some_place && few_places && some_entry && few_entries) enough_words five);
    }

-- what an accepted load says
pub record Loads (module' : List ℕ) (sizes : Sizes) (s : State) : Type 0 where
  pub sizes_pass : good_sizes sizes ≡ true
  pub module_passes : check_module module' ≡ none
  pub is : loaded module' sizes ≡ s

pub loads_of : (module' : List ℕ) (sizes : Sizes) {s : State} → load module' sizes ≡ loads s → Loads module' sizes s
unfolding load
loads_of module' sizes {s} e = go (good_sizes sizes) (check_module module') refl refl e
  where
    go : (b : Bool) (o : Option ℕ) → good_sizes sizes ≡ b → check_module module' ≡ o
        → (elim b as (λ x. Load) [ false ↦ refused bad_sizes 0 | true ↦ elim o as (λ x. Load) [ some at ↦ refused bad_module at | none ↦ loads (loaded module' sizes) ] ]) ≡ loads s → Loads module' sizes s
    go false o i j e = let z : ◌≡◌ {A = ℕ} 0 1 = cc in absurd (omega arith)
    go true (some at) i j e = let z : ◌≡◌ {A = ℕ} 0 1 = cc in absurd (omega arith)
    go true none i j e = record { sizes_pass = i; module_passes = j; is = cc }

module _ (module' : List ℕ) (sizes : Sizes) where
  pub load_place : (x : ℕ) → Dec (0 ≡ x) → ((loaded module' sizes).processes x ≡ some (new_process first_control)) ⊎ ((loaded module' sizes).processes x ≡ none)
  unfolding loaded
  load_place x (yes e) = inl (put_same 0 (some (new_process first_control)) (λ p. none) x e)
  load_place x (no n) = inr (put_other 0 (some (new_process first_control)) (λ p. none) x n)

  pub load_history : (x : ℕ) → history_at (loaded module' sizes) x ≡ []
  unfolding history_at history_of
  load_history x = elim (load_place x (ℕ_discrete 0 x)) [ inl e ↦ ap history_of e | inr e ↦ ap history_of e ]

  pub load_had : {x : ℕ} {control : List ℕ} {g : List Entry} → Had (loaded module' sizes) x control g → (control ≡ first_control) × (g ≡ [])
  load_had {x} {control} {g} (now i) = elim (load_place x (ℕ_discrete 0 x)) [
    | inl e ↦ let z = some_injective (sym i ∙ e) in (ap (λ a. a.control) z, ap (λ a. a.history) z)
    | inr e ↦ none_not_some (sym e ∙ i)
  ]
  load_had {x} (past st) = no_suffix st (load_history x)

  no_entry : {e : Entry} {B : Type 0} (p i : ℕ) → entry_at (history_at (loaded module' sizes) p) i ≡ some e → B
  no_entry p i stands = let (g, st, n) = entry_suffix (history_at (loaded module' sizes) p) i stands in no_suffix st (load_history p)

  other_free : (p : ℕ) → ¬ (0 ≡ p) → in_pool (loaded module' sizes) p ≡ false
  unfolding loaded
  other_free p n = not_in_pool (loaded module' sizes) p (put_other 0 (some (new_process first_control)) (λ p. none) p n)

  pub loaded_sound : good_sizes sizes ≡ true → check_module module' ≡ none → WorkLaws module' sizes.places → Sound (loaded module' sizes)
  unfolding loaded Good in_pool is_process sent taken Flows distinct All
  loaded_sound good passes laws = record {
    sizes_pass = good;
    module_passes = passes;
    place_0 = in_pool_lem (loaded module' sizes) 0 (put_same 0 (some (new_process first_control)) (λ p. none) 0 refl);
    pool_ends = λ p h. other_free p (λ e. omega (arith, (sizes_say sizes good).some_place, e, h));
    no_queue_elsewhere = λ p n. refl;
    history_fits = λ p. rw (load_history p) (omega arith);
    controls = λ p a i. first (load_had {x = p} {control = a.control} {g = a.history} (now i)).0;
    controls_before = λ p i e stands. no_entry p i stands;
    check_numbers = λ p i number e stands is. no_entry p i stands;
    sends_said = λ p i target value e stands is. no_entry p i stands;
    born = λ q live n. true_not_false live (other_free q (λ e. n (sym e)));
    born_once = λ q p i p' i' b b'. no_entry p i b.stands;
    place_0_unborn = λ p i b. no_entry p i b.stands;
    children_in_pool = λ q p i b. no_entry p i b.stands;
    targets_in_pool = λ p k target value e. none_not_some (ap (λ h. sent h k) (sym (load_history p)) ∙ e);
    once = λ t. rw (load_history t) refl;
    nothing_else = λ t. rw (load_history t) tt;
    prefixes = λ p. rw (load_history p) tt;
  }
    where
      first : {control : List ℕ} → control ≡ first_control → SoundControl (loaded module' sizes) control
      first e = rw e (record { good = laws.first_good; fits = omega (arith, (sizes_say sizes good).enough_words) })

pub load_sound : (module' : List ℕ) (sizes : Sizes) {s : State} → load module' sizes ≡ loads s → WorkLaws module' sizes.places → Sound s
load_sound module' sizes e laws = let l = loads_of module' sizes e in subst Sound l.is (loaded_sound module' sizes l.sizes_pass l.module_passes laws)
