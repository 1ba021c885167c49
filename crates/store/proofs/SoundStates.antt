-- Sound states can be stored: they fit their sizes, their messages were sent, and no queue, present or before a rec, holds more than P-as-H.
use Prim.Native.Nat.{ℕ, ◌+◌, ◌≤◌, ◌<◌}
use mathlib.Core.Path.{◌≡◌, refl, sym, ◌∙◌, ap, subst}
use mathlib.Core.Logic.{◌⊎◌, inl, inr}
use mathlib.Core.Bool.{true, false, ◌&&◌}
use mathlib.Core.Option.{Option, none, some}
use mathlib.Core.List.{List, [], ◌∷◌, ◌++◌, map-append}
use native.Mathlib.Omega.{arith}
use lib.Dec.{leb, ltb}
use lib.ListN.{length}
use Rattle.lists.specs.Lists.{All}
use Rattle.lists.proofs.Tests.{none_not_some, true_or_false, true_not_false, leb-true, ltb-true, ltb_false, and_left, and_right}
use Rattle.lists.proofs.All.{all_so, all_left, all_right, all_head, all_tail, all_append, all_middle, all_both}
use Rattle.lists.proofs.Counts.{occurs, occurs_append}
use Rattle.term.specs.Module.{longest_module, check_module}
use Rattle.rules.specs.State.{Sizes, Message, letter, Taking, taking, as_send, as_rec, Entry, Process, State, history_of, history_at, is_process, in_pool}
use Rattle.rules.specs.Flight.{sends, also_taken, taken}
use Rattle.rules.specs.Load.{good_sizes}
use Rattle.rules.specs.Sound.{SoundControl, AboutToSend, SentTo, Prefix, Flows, Sound}
use Rattle.rules.specs.Depends.{queue_before}
use Rattle.store.specs.Layout.{most_places, most_entries, most_words}
use Rattle.store.proofs.Restoring.{Kept, KeptQueue, KeptEntry}
use Rattle.store.proofs.Decoding.{Storable}
use Rattle.store.proofs.Histories.{all_entries, sends_few, sent_below}
use Rattle.store.proofs.Names.{Numbered, name_number, name_numbers, names_once, few_names}

-- ---- sizes and module

pub record SizesIn (sizes : Sizes) : Type 0 where
  pub places_low : 1 ≤ sizes.places
  pub places_high : sizes.places ≤ most_places
  pub entries_low : 1 ≤ sizes.entries
  pub entries_high : sizes.entries ≤ most_entries
  pub words_low : 16 ≤ sizes.words
  pub words_high : sizes.words ≤ most_words

pub sizes_in_lem : (sizes : Sizes) → good_sizes sizes ≡ true → SizesIn sizes
unfolding good_sizes
sizes_in_lem sizes e =
    let a = leb 1 sizes.places in
    let b = leb sizes.places 16 in
    let c = leb 1 sizes.entries in
    let d = leb sizes.entries 64 in
    let f = leb 16 sizes.words in
    let g = leb sizes.words 255 in
    let e₅ = and_left (a && b && c && d && f) g e in
    let e₄ = and_left (a && b && c && d) f e₅ in
    let e₃ = and_left (a && b && c) d e₄ in
    let e₂ = and_left (a && b) c e₃ in
    record {
      places_low = leb-true 1 sizes.places (and_left a b e₂);
      places_high = leb-true sizes.places 16 (and_right a b e₂);
      entries_low = leb-true 1 sizes.entries (and_right (a && b) c e₃);
      entries_high = leb-true sizes.entries 64 (and_right (a && b && c) d e₄);
      words_low = leb-true 16 sizes.words (and_right (a && b && c && d) f e₅);
      words_high = leb-true sizes.words 255 (and_right (a && b && c && d && f) g e);
    }

long_refused : (l : List ℕ) → ltb longest_module (length l) ≡ true → check_module l ≡ some longest_module
unfolding check_module
long_refused l e = rw (e, check_module) refl

pub module_short : (l : List ℕ) → check_module l ≡ none → length l ≤ longest_module
module_short l e = elim (true_or_false (ltb longest_module (length l))) [
  | inl t ↦ none_not_some (sym e ∙ long_refused l t)
  | inr f ↦ ltb_false longest_module (length l) f
]

-- ---- the pool

pub outside : (s : State) (p : ℕ) → in_pool s p ≡ false → s.processes p ≡ none
unfolding in_pool is_process
outside s p e = go (s.processes p) e
  where
    go : (o : Option Process) → is_process o ≡ false → o ≡ none
    go none e = refl
    go (some process) e = true_not_false refl e

pub not_in_pool : (s : State) (p : ℕ) → s.processes p ≡ none → in_pool s p ≡ false
unfolding in_pool is_process
not_in_pool s p e = ap is_process e

-- the pool has no more than P places
pub in_places : (s : State) → Sound s → (p : ℕ) → in_pool s p ≡ true → p < s.sizes.places
in_places s sound p e = elim (true_or_false (ltb p s.sizes.places)) [
  | inl t ↦ ltb-true p s.sizes.places t
  | inr f ↦ true_not_false e (sound.pool_ends p (ltb_false p s.sizes.places f))
]

no_history : (s : State) (p : ℕ) → s.processes p ≡ none → history_at s p ≡ []
unfolding history_at history_of
no_history s p e = ap history_of e

-- the rule of Flows by what an entry is
abbrev pub FlowsBy : Option Taking → List Entry → List Message → Type 0
FlowsBy o older queue = elim o as (λ x. Type 0) [
  | none ↦ Flows older queue
  | some (taking before m after) ↦ Prefix (before ++ after) queue × Flows older (before ++ (m ∷ after))
]

module _ (s : State) (sound : Sound s) where
  -- who sent is in the pool, and has sent no more than its history holds
  pub numbered : (t : ℕ) (m : Message) → SentTo s t m → Numbered s.sizes.places s.sizes.entries m
  unfolding SentTo
  numbered t m e =
      let below : m.count < sends (history_at s m.sender) = sent_below (history_at s m.sender) m.count e in
      let few = sends_few (history_at s m.sender) in
      let fits = sound.history_fits m.sender in
      record { sender_below = go (true_or_false (ltb m.sender s.sizes.places)) (omega arith); count_below = omega arith }
    where
      go : (ltb m.sender s.sizes.places ≡ true) ⊎ (ltb m.sender s.sizes.places ≡ false) → 0 < length (history_at s m.sender) → m.sender < s.sizes.places
      go (inl h) some_entry = ltb-true m.sender s.sizes.places h
      go (inr h) some_entry =
          let empty = no_history s m.sender (outside s m.sender (sound.pool_ends m.sender (ltb_false m.sender s.sizes.places h))) in
          absurd (omega (arith, ap length empty))

  pub kept : (t : ℕ) (m : Message) → SentTo s t m → Kept s m
  unfolding SentTo
  kept t m e =
      let n = (numbered t m e).count_below in
      let few = (sizes_in_lem s.sizes sound.sizes_pass).entries_high in
      record { target = t; said = e; small = omega arith }

  -- no two messages of a list have one name's number
  abbrev pub Once : List Message → Type 0
  Once ms = (c : ℕ) → occurs c (name_numbers s.sizes.entries ms) ≤ 1

  -- how often a name's number stands in a list of messages
  abbrev pub often : ℕ → List Message → ℕ
  often c ms = occurs c (name_numbers s.sizes.entries ms)

  pub often_append : (c : ℕ) (xs ys : List Message) → often c (xs ++ ys) ≡ often c xs + often c ys
  often_append c xs ys =
      ap (occurs c) (map-append (name_number s.sizes.entries) xs ys) ∙ occurs_append c (name_numbers s.sizes.entries xs) (name_numbers s.sizes.entries ys)

  kept_queue : (t : ℕ) (queue others : List Message) → Once (queue ++ others) → All (SentTo s t) (queue ++ others) → KeptQueue s queue
  kept_queue t queue others once a =
      let own = all_left (SentTo s t) queue others a in
      record {
        each = all_so (kept t) queue own;
        fits = few_names s.sizes.places s.sizes.entries queue (all_so (numbered t) queue own) (λ c. omega (arith, often_append c queue others, once c));
      }

  -- the queue before a rec and what was taken before it hold nothing but what the queue after it and what was taken hold
  once_before : (before : List Message) (m : Message) (after others older : List Message) → Once (((before ++ after) ++ others) ++ (m ∷ older)) → Once ((before ++ (m ∷ after)) ++ older)
  once_before before m after others older once c =
      omega (
        arith,
        once c,
        often_append c ((before ++ after) ++ others) (m ∷ older),
        often_append c (before ++ after) others,
        often_append c before after,
        often_append c (m ∷ []) older,
        often_append c (before ++ (m ∷ after)) older,
        often_append c before (m ∷ after),
        often_append c (m ∷ []) after,
      )

  all_before : (P : Message → Type 0) (before : List Message) (m : Message) (after others older : List Message) → All P (((before ++ after) ++ others) ++ (m ∷ older)) → All P ((before ++ (m ∷ after)) ++ older)
  all_before P before m after others older a =
      let front = all_left P (before ++ after) others (all_left P ((before ++ after) ++ others) (m ∷ older) a) in
      let back = all_right P ((before ++ after) ++ others) (m ∷ older) a in
      all_append P (before ++ (m ∷ after)) older (all_middle P before m after front (all_head P m older back)) (all_tail P m older back)

  queues_kept : (t : ℕ) (h : List Entry) (queue : List Message) → Flows h queue → Once (queue ++ taken h) → All (SentTo s t) (queue ++ taken h) → All (λ e. KeptQueue s (queue_before (as_rec e.kind))) h
  unfolding Flows taken also_taken queue_before All
  queues_kept t [] queue f once a = tt
  queues_kept t (e ∷ older) queue f once a = go (as_rec e.kind) f once a (queues_kept t older)
    where
      go : (o : Option Taking) → FlowsBy o older queue → Once (queue ++ also_taken o (taken older)) → All (SentTo s t) (queue ++ also_taken o (taken older))
          → ((q : List Message) → Flows older q → Once (q ++ taken older) → All (SentTo s t) (q ++ taken older) → All (λ x. KeptQueue s (queue_before (as_rec x.kind))) older)
          → KeptQueue s (queue_before o) × All (λ x. KeptQueue s (queue_before (as_rec x.kind))) older
      go none f once a r = (record { each = tt; fits = omega arith }, r queue f once a)
      go (some (taking before m after)) f once a r =
          let split = ap (λ (q : List Message). q ++ (m ∷ taken older)) f.0.whole in
          let once' = once_before before m after f.0.others (taken older) (subst Once split once) in
          let all' = all_before (SentTo s t) before m after f.0.others (taken older) (subst (All (SentTo s t)) split a) in
          (kept_queue t (before ++ (m ∷ after)) (taken older) once' all', r (before ++ (m ∷ after)) f.1 once' all')

  pub once_at : (t : ℕ) → Once (s.queues t ++ taken (history_at s t))
  once_at t = names_once s.sizes.places s.sizes.entries (s.queues t ++ taken (history_at s t)) (all_so (numbered t) (s.queues t ++ taken (history_at s t)) (sound.nothing_else t)) (sound.once t)

  -- what is said of each entry by itself
  abbrev Alone : Entry → Type 0
  Alone e = SoundControl s e.before × ((target : ℕ) (value : List ℕ) → as_send e.kind ≡ some (letter target value) → AboutToSend s e.before target value)

  abbrev QueueKept : Entry → Type 0
  QueueKept e = KeptQueue s (queue_before (as_rec e.kind))

  kept_entry : (e : Entry) → Alone e → QueueKept e → KeptEntry s e
  kept_entry e x y = record { before_fits = x.0.fits; sends_said = x.1; queue = y }

  entries_kept : (p : ℕ) → All (KeptEntry s) (history_at s p)
  entries_kept p = all_both {P = Alone} {Q = QueueKept} kept_entry (history_at s p)
      (all_entries (history_at s p) (λ i e stands. (sound.controls_before p i e stands, λ target value says. sound.sends_said p i target value e stands says)))
      (queues_kept p (history_at s p) (s.queues p) (sound.prefixes p) (once_at p) (sound.nothing_else p))

  pub storable : Storable s
  storable = record {
    module_fits = module_short s.module' sound.module_passes;
    pool_ends = λ p h. outside s p (sound.pool_ends p h);
    no_queue = λ p e. sound.no_queue_elsewhere p (not_in_pool s p e);
    history_fits = sound.history_fits;
    control_fits = λ p process e. (sound.controls p process e).fits;
    entries = entries_kept;
    queue = λ p. kept_queue p (s.queues p) (taken (history_at s p)) (once_at p) (sound.nothing_else p);
  }
