-- Undoing on cuts alone: when the undo of a line's newest event is accepted, in numbers of the state at the start, so that nothing need be
-- written before it is known whether a set can be removed.
use Prim.Native.Nat.{ℕ, suc, ◌<◌, ◌≤◌, ◌+◌}
use mathlib.Core.Path.{◌≡◌, refl, sym, ◌∙◌, ap, subst, subst₂, fun_ext}
use mathlib.Core.Logic.{◌≢◌, inl, inr, ◌↔◌}
use mathlib.Core.Bool.{true, false}
use mathlib.Core.Option.{Option, none, some}
use mathlib.Core.List.{List, [], ◌∷◌, ◌++◌, append_assoc, append-nil}
use native.Mathlib.Decide.{dec_lt}
use native.Mathlib.Omega.{arith}
use lib.ListN.{length, length-append}
use Rattle.lists.specs.Lists.{but_last}
use Rattle.lists.proofs.Lists.{last_of}
use Rattle.lists.proofs.Tests.{true_or_false, none_not_some, some_injective}
use Rattle.rules.specs.State.{Message, letter, Taking, taking, Kind, seq, send, rec, spawn, self, check, as_send, as_rec, as_spawn, Entry, Process, State, history_of, history_at, in_pool}
use Rattle.rules.specs.Flight.{sends, taken, left_or, left}
use Rattle.rules.specs.Load.{new_process}
use Rattle.rules.specs.Commands.{Deed, undelivers, Beside, nothing, own_queue, other, Move, post, entry_with, run_state}
use Rattle.rules.specs.Rules.{process, InFlight}
use Rattle.rules.specs.Sound.{Flows, Sound}
use Rattle.rules.specs.Depends.{arrivals, Series, entries_of, deliveries_to, level, Event}
use Rattle.rules.specs.Standing.{Suffix, whole, older, Stands, Arrives, come, seen}
use Rattle.rules.specs.Rollback.{Cut, Removes, undo_of}
use Rattle.demands.proofs.Does.{Alone, Undoes, undo_alone, undo_send, undo_receive, undo_spawn, Does, forward, backward, sched, unsched}
use Rattle.demands.proofs.Messages.{Any, here, there, any_append, any_left, any_right, any_middle, any_none, Named}
use Rattle.demands.proofs.Histories.{suffix_length, suffix_top, suffix_sent, sent_suffix}
use Rattle.demands.proofs.Frame.{process_of, no_process_lem, history_of_lem}
use Rattle.demands.proofs.Questions.{Came, flight_of, flight_fresh}
use Rattle.demands.proofs.Undo.{Backward}
use Rattle.demands.proofs.SoundFacts.{child_lives}
use Rattle.demands.proofs.Arrival.{come_nil, taken_nil, length_come, come_none, come_more, flows_none, flows_rec, flows_long, swapped, any_come}
use Rattle.demands.proofs.Event.{line_of, line?, come_at, come_taken, arrivals_at, Under, under_refl, under_trans, suffix_trans, Down}
use Rattle.demands.proofs.EventSound.{sound_undone}
use Rattle.demands.proofs.EventDepends.{arrives_low}
use Rattle.demands.proofs.Removal.{Undone, undone_of, of_undone, Back, halt, took, lower, back_under, sound_back, removes_run, lost, through}
use Rattle.demands.proofs.Cut.{IsCut}
use Rattle.demands.proofs.Rollback.{cut_removes, removes_cut}
use Rattle.demands.proofs.CutNumbers.{seen_first}

-- ---- the undo of the newest event that k keeps on a line
pub data Can (s : State) (k : Cut) : Series → Type 0 where
  can_alone : {p i : ℕ} {e : Entry} {g : List Entry} → Stands s p i e g → Alone e.kind → k (entries_of p) ≡ suc i → Can s k (entries_of p)
  -- its message has not come
  can_send : {p i t : ℕ} {v : List ℕ} {e : Entry} {g : List Entry} → Stands s p i e g → as_send e.kind ≡ some (letter t v) → k (entries_of p) ≡ suc i
      → ((j : ℕ) (n : Message) → Arrives s t j n → Named p (sends g) n → k (deliveries_to t) ≤ j) → Can s k (entries_of p)
  -- nothing has come since
  can_rec : {p i : ℕ} {e : Entry} {g : List Entry} {a d : List Message} {m : Message} → Stands s p i e g → as_rec e.kind ≡ some (taking a m d) → k (entries_of p) ≡ suc i
      → k (deliveries_to p) ≡ seen a m d g → Can s k (entries_of p)
  -- its child has done and got nothing, and nothing was sent to it
  can_spawn : {p i q : ℕ} {e : Entry} {g : List Entry} → Stands s p i e g → as_spawn e.kind ≡ some q → k (entries_of p) ≡ suc i → k (entries_of q) ≡ 0 → k (deliveries_to q) ≡ 0
      → ((u j : ℕ) (v : List ℕ) (f : Entry) (h : List Entry) → Stands s u j f h → as_send f.kind ≡ some (letter q v) → k (entries_of u) ≤ j) → Can s k (entries_of p)
  -- no rec has seen it
  can_undeliver : {q j : ℕ} → k (deliveries_to q) ≡ suc j
      → ((i : ℕ) (a : List Message) (m : Message) (d : List Message) (e : Entry) (g : List Entry) → Stands s q i e g → as_rec e.kind ≡ some (taking a m d) → i < k (entries_of q) → seen a m d g ≤ j)
      → Can s k (deliveries_to q)

-- ---- seen from a state or from one under it
suffix_cut : {e : Entry} {g f h : List Entry} → Suffix (e ∷ g) h → Suffix f h → length g < length f → Suffix (e ∷ g) f
suffix_cut s whole h = s
suffix_cut whole (older r) h = let z = suffix_length r in absurd (omega arith)
suffix_cut (older s) (older r) h = suffix_cut s r h

first_cut : (x t : List Message) (n : Message) (z y : List Message) → x ++ (n ∷ z) ≡ t ++ y → length x < length t → (r : List Message) × (t ≡ x ++ (n ∷ r))
first_cut [] [] n z y e h = absurd (omega arith)
first_cut [] (v ∷ t) n z y e h = (t, cc)
first_cut (u ∷ x) [] n z y e h = absurd (omega arith)
first_cut (u ∷ x) (v ∷ t) n z y e h = let i : x ++ (n ∷ z) ≡ t ++ y = cc in let (r, j) = first_cut x t n z y i (omega arith) in (r, cc)

or_below : {a b : ℕ} → (a < b → b ≤ a) → b ≤ a
or_below {a} {b} f = elim (dec_lt a b) [ yes h ↦ f h | no h ↦ omega arith ]

module _ {t s : State} (under : Under t s) where
  pub stands_under : {p i : ℕ} {e : Entry} {g : List Entry} → Stands t p i e g → Stands s p i e g
  stands_under {p} st = record { at = suffix_trans st.at (under.suffixes p); index = st.index }

  pub arrives_under : {q j : ℕ} {m : Message} → Arrives t q j m → Arrives s q j m
  arrives_under {q} {j} {m} r =
      let y = under.firsts q in
      record { before = r.before; after = r.after ++ y.0; at = y.1 ∙ ap (λ z. z ++ y.0) r.at ∙ append_assoc r.before (m ∷ r.after) y.0; index = r.index }

  pub stands_cut : {p i : ℕ} {e : Entry} {g : List Entry} → Stands s p i e g → i < level t (entries_of p) → Stands t p i e g
  unfolding level
  stands_cut {p} st h = record { at = suffix_cut st.at (under.suffixes p) (omega (arith, st.index)); index = st.index }

  pub arrives_cut : {q j : ℕ} {n : Message} → Arrives s q j n → j < level t (deliveries_to q) → Arrives t q j n
  unfolding level
  arrives_cut {q} {n = n} r h =
      let (y, e) = under.firsts q in
      let (z, i) = first_cut r.before (arrivals t q) n r.after y (sym r.at ∙ e) (omega (arith, r.index)) in
      record { before = r.before; after = z; at = i; index = r.index }

  pub can_under : {x : Series} → Can s (level t) x ↔ Can t (level t) x
  can_under = (to, from)
    where
      to : {x : Series} → Can s (level t) x → Can t (level t) x
      to (can_alone st a e) = can_alone (stands_cut st (omega arith)) a e
      to (can_send st is e f) = can_send (stands_cut st (omega arith)) is e λ j n r m. f j n (arrives_under r) m
      to (can_rec st is e f) = can_rec (stands_cut st (omega arith)) is e f
      to (can_spawn st is e x y f) = can_spawn (stands_cut st (omega arith)) is e x y λ u j v g h r i. f u j v g h (stands_under r) i
      to (can_undeliver e f) = can_undeliver e λ i a m d g h st is l. f i a m d g h (stands_under st) is l

      from : {x : Series} → Can t (level t) x → Can s (level t) x
      from (can_alone st a e) = can_alone (stands_under st) a e
      from (can_send st is e f) = can_send (stands_under st) is e λ j n r m. or_below λ h. f j n (arrives_cut r h) m
      from (can_rec st is e f) = can_rec (stands_under st) is e f
      from (can_spawn st is e x y f) = can_spawn (stands_under st) is e x y λ u j v g h r i. or_below λ l. f u j v g h (stands_cut r l) i
      from (can_undeliver e f) = can_undeliver e λ i a m d g h st is l. f i a m d g h (stands_cut st l) is l

-- ---- and it is what the rules ask
kind_send_lem : (kind : Kind) {t : ℕ} {v : List ℕ} → as_send kind ≡ some (letter t v) → kind ≡ send t v
unfolding as_send
kind_send_lem seq i = none_not_some i
kind_send_lem (send _ _) i = let z = some_injective i in cc
kind_send_lem (rec _ _ _) i = none_not_some i
kind_send_lem (spawn _) i = none_not_some i
kind_send_lem self i = none_not_some i
kind_send_lem (check _) i = none_not_some i

kind_rec : (kind : Kind) {a d : List Message} {m : Message} → as_rec kind ≡ some (taking a m d) → kind ≡ rec a m d
unfolding as_rec
kind_rec seq i = none_not_some i
kind_rec (send _ _) i = none_not_some i
kind_rec (rec _ _ _) i = let z = some_injective i in cc
kind_rec (spawn _) i = none_not_some i
kind_rec self i = none_not_some i
kind_rec (check _) i = none_not_some i

kind_spawn : (kind : Kind) {q : ℕ} → as_spawn kind ≡ some q → kind ≡ spawn q
unfolding as_spawn
kind_spawn seq i = none_not_some i
kind_spawn (send _ _) i = none_not_some i
kind_spawn (rec _ _ _) i = none_not_some i
kind_spawn (spawn _) i = ap spawn (some_injective i)
kind_spawn self i = none_not_some i
kind_spawn (check _) i = none_not_some i

suffix_full : {f h : List Entry} → Suffix f h → length h ≤ length f → h ≡ f
suffix_full whole h = refl
suffix_full (older s) h = let z = suffix_length s in absurd (omega arith)

nil_if : {A : Type 0} (l : List A) → length l ≤ 0 → l ≡ []
nil_if [] h = refl
nil_if (x ∷ l) h = absurd (omega arith)

-- a process with its newest entry; one without entries
process_top : (s : State) (p : ℕ) {e : Entry} {g : List Entry} → history_at s p ≡ e ∷ g → (c : List ℕ) × (s.processes p ≡ some (process c (e ∷ g)))
unfolding history_at history_of
process_top s p {e} {g} i = go (s.processes p) refl i
  where
    go : (o : Option Process) → s.processes p ≡ o → history_of o ≡ e ∷ g → (c : List ℕ) × (s.processes p ≡ some (process c (e ∷ g)))
    go none j i = let z : ◌≡◌ {A = ℕ} 0 1 = cc in absurd (omega arith)
    go (some a) j i = (a.control, j ∙ (λ l. some (process a.control (i l))))

process_new : (s : State) (q : ℕ) → in_pool s q ≡ true → length (history_at s q) ≡ 0 → (c : List ℕ) × (s.processes q ≡ some (new_process c))
process_new s q live h =
    let (a, i) = process_of s q live in
    (a.control, i ∙ (λ l. some (process a.control (nil_if a.history (omega (arith, h, ap length (history_of_lem s q i))) l))))

any_place : {P : Message → Type 0} {l : List Message} → Any P l → (x : List Message) × (n : Message) × (y : List Message) × (l ≡ x ++ (n ∷ y)) × P n
any_place (here {m} {b} p) = ([], m, b, refl, p)
any_place (there {m} a) = let (x, n, y, e, p) = any_place a in (m ∷ x, n, y, ap (λ z. m ∷ z) e, p)

last_message : (l : List Message) → 0 < length l → (queue : List Message) × (m : Message) × (l ≡ queue ++ (m ∷ []))
last_message [] h = absurd (omega arith)
last_message (x ∷ l) h = let (m, e) = last_of x l in (but_last (x ∷ l), m, e)

-- where no rec has seen the newest arrival, the queue is longer than the newest rec left it
left_less : (h : List Entry) (queue : List Message) → Flows h queue → 0 < length (come h queue)
    → ((a : List Message) (m : Message) (d : List Message) (e : Entry) (g : List Entry) → Suffix (e ∷ g) h → as_rec e.kind ≡ some (taking a m d) → seen a m d g < length (come h queue))
    → length (left h) < length queue
unfolding left left_or
left_less [] queue f z r = omega (arith, z, ap length (come_nil queue))
left_less (e ∷ h) queue f z r = go (as_rec e.kind) refl (left_less h)
  where
    left_rec : {a d : List Message} {m : Message} → as_rec e.kind ≡ some (taking a m d) → left (e ∷ h) ≡ a ++ d
    left_rec i = ap (λ o. left_or o (left h)) i

    left_none : as_rec e.kind ≡ none → left (e ∷ h) ≡ left h
    left_none i = ap (λ o. left_or o (left h)) i

    go : (o : Option Taking) → as_rec e.kind ≡ o
        → ((q : List Message) → Flows h q → 0 < length (come h q) → ((a : List Message) (m : Message) (d : List Message) (e : Entry) (g : List Entry) → Suffix (e ∷ g) h → as_rec e.kind ≡ some (taking a m d) → seen a m d g < length (come h q)) → length (left h) < length q)
        → length (left (e ∷ h)) < length queue
    go none i ih =
        let same = ap length (come_none e h queue i) in
        let less = ih queue (flows_none e h queue i f) (omega (arith, z, same)) (λ a m d x g st is. omega (arith, r a m d x g (older st) is, same)) in
        omega (arith, less, ap length (left_none i))
    go (some (taking a m d)) i ih =
        let (y, q, c, g) = swapped e h queue i f in
        let more = come_more h (a ++ (m ∷ d)) y (flows_long h (a ++ (m ∷ d)) (flows_rec e h queue i f).1) in
        omega (arith, r a m d e h whole i, ap length (c ∙ more), length-append (come h (a ++ (m ∷ d))) y, ap length q, length-append (a ++ d) y, ap length (left_rec i))

away_history : (s : State) (q : ℕ) → in_pool s q ≡ false → history_at s q ≡ []
unfolding history_at history_of
away_history s q e = ap history_of (no_process_lem s q e)

undelivers_back : (q : ℕ) → Backward (undelivers q)
unfolding Backward
undelivers_back q = tt

undelivers_line : (q : ℕ) → line_of (undelivers q) ≡ deliveries_to q
unfolding line_of
undelivers_line q = refl

module _ {t : State} (sound : Sound t) where
  top_is : {p i : ℕ} {e : Entry} {g : List Entry} → Stands t p i e g → level t (entries_of p) ≡ suc i → (c : List ℕ) × (t.processes p ≡ some (process c (e ∷ g)))
  unfolding level
  top_is {p} st e = process_top t p (suffix_full st.at (omega (arith, st.index)))

  came_place : {sender k q : ℕ} → Came t sender k q → (j : ℕ) × (n : Message) × Arrives t q j n × Named sender k n × (j < level t (deliveries_to q))
  came_place {sender} {k} {q} x =
      let (a, n, b, e, m) = any_place ((any_come {P = Named sender k} (history_at t q) (t.queues q) (sound.prefixes q)).1 (elim x [ inl y ↦ any_left _ y | inr y ↦ any_right (t.queues q) y ])) in
      let r : Arrives t q (length a) n = record { before = a; after = b; at = arrivals_at sound q ∙ e; index = refl } in
      (length a, n, r, m, arrives_low r)

  place_came : {sender k q j : ℕ} {n : Message} → Arrives t q j n → Named sender k n → Came t sender k q
  place_came {sender} {k} {q} {n = n} r m =
      any_append (t.queues q) ((any_come {P = Named sender k} (history_at t q) (t.queues q) (sound.prefixes q)).0 (subst (Any (Named sender k)) (sym r.at ∙ arrivals_at sound q) (any_middle r.before n r.after m)))

  pub level_come : (q : ℕ) → level t (deliveries_to q) ≡ length (t.queues q) + length (taken (history_at t q))
  unfolding level
  level_come q = ap length (arrivals_at sound q) ∙ length_come (history_at t q) (t.queues q) (sound.prefixes q)

  level_at : (q : ℕ) → level t (deliveries_to q) ≡ length (come_at t q)
  unfolding level
  level_at q = ap length (arrivals_at sound q)

  level_history : (p : ℕ) → length (history_at t p) ≡ level t (entries_of p)
  unfolding level
  level_history p = refl

  came_live : (q : ℕ) → 0 < level t (deliveries_to q) → in_pool t q ≡ true
  came_live q h = elim (true_or_false (in_pool t q)) [
    | inl live ↦ live
    | inr away ↦ absurd (omega (arith, h, level_come q, ap length (sound.no_queue_elsewhere q away), ap (λ z. length (taken z)) (away_history t q away), ap length taken_nil))
  ]

  top_at : {p : ℕ} {c : List ℕ} {e : Entry} {g : List Entry} → t.processes p ≡ some (process c (e ∷ g)) → Stands t p (length g) e g
  top_at {p} i = record { at = suffix_top (history_of_lem t p i); index = refl }

  top_level : {p : ℕ} {c : List ℕ} {e : Entry} {g : List Entry} → t.processes p ≡ some (process c (e ∷ g)) → level t (entries_of p) ≡ suc (length g)
  top_level {p} i = sym (level_history p) ∙ ap length (history_of_lem t p i)

  abbrev Undoable : Series → Type 0
  Undoable x = (m : State) × Undone t m x

  undoable : {p : ℕ} {e : Entry} {g : List Entry} {c : List ℕ} {beside : Beside} → t.processes p ≡ some (process c (e ∷ g)) → Undoes t p (sends g) e.kind beside → Undoable (entries_of p)
  unfolding line_of Backward
  undoable i un = (_, record { deed = _; move = _; does = backward i un; undoes_it = tt; on = refl; gives = refl })

  quiet : {q : ℕ} → ((u j : ℕ) (v : List ℕ) (f : Entry) (h : List Entry) → Stands t u j f h → as_send f.kind ≡ some (letter q v) → level t (entries_of u) ≤ j)
      → (sender k : ℕ) (v : List ℕ) → ¬ InFlight t sender k q v
  unfolding level
  quiet f sender k v fl =
      let r = sent_suffix (history_at t sender) k fl.out in
      let z = f sender (length r.before) v r.entry r.before (record { at = r.stands; index = refl }) r.sends_it in
      let l = suffix_length r.stands in
      omega arith

  pub can_does : {x : Series} → Can t (level t) x → Undoable x
  can_does (can_alone st a e) = let (c, i) = top_is st e in undoable i (undo_alone a)
  can_does (can_send {p} {t = to} {v} {e = en} {g} st is e f) =
      let (c, i) = top_is st e in
      let out = suffix_sent st.at is in
      let fl : InFlight t p (sends g) to v = flight_of t p (sends g) to out (sound.targets_in_pool p (sends g) to v out) (λ x. let (j, n, r, m, h) = came_place x in let z = f j n r m in omega arith) in
      undoable i (subst (λ kind. Undoes t p (sends g) kind nothing) (sym (kind_send_lem en.kind is)) (undo_send fl))
  can_does (can_rec {p} {e = en} {g} {a} {d} {m} st is e f) =
      let (c, i) = top_is st e in
      undoable i (subst (λ kind. Undoes t p (sends g) kind (own_queue (a ++ (m ∷ d)))) (sym (kind_rec en.kind is)) (undo_receive (queue_is (history_of_lem t p i))))
    where
      queue_is : history_at t p ≡ en ∷ g → t.queues p ≡ a ++ d
      queue_is h =
          let flows : Flows (en ∷ g) (t.queues p) = subst (λ z. Flows z (t.queues p)) h (sound.prefixes p) in
          let (y, q, c, fl) = swapped en g (t.queues p) is flows in
          let more = come_more g (a ++ (m ∷ d)) y (flows_long g (a ++ (m ∷ d)) (flows_rec en g (t.queues p) is flows).1) in
          let none_since = nil_if y (omega (arith, f, level_at p, ap (λ z. length (come z (t.queues p))) h, ap length (c ∙ more), length-append (come g (a ++ (m ∷ d))) y)) in
          q ∙ ap (λ z. (a ++ d) ++ z) none_since ∙ append-nil (a ++ d)
  can_does (can_spawn {p} {q = q} {e = en} {g} st is e x y f) =
      let (c, i) = top_is st e in
      let (first, new) = process_new t q (child_lives sound p st.at is) (level_history q ∙ x) in
      undoable i (subst (λ kind. Undoes t p (sends g) kind (other q none)) (sym (kind_spawn en.kind is)) (undo_spawn new (nil_if (t.queues q) (omega (arith, y, level_come q))) (quiet f)))
  can_does (can_undeliver {q} {j} e f) =
      let live = came_live q (omega (arith, e)) in
      let longer = left_less (history_at t q) (t.queues q) (sound.prefixes q) (omega (arith, e, level_at q)) (λ a m d x g st is. unseen a m d x g st is) in
      let (queue, m, i) = last_message (t.queues q) (omega (arith, longer)) in
      (_, record { deed = undelivers q; move = post q queue; does = unsched m live i (subst (λ z. length (left (history_at t q)) < length z) i longer); undoes_it = undelivers_back q; on = undelivers_line q; gives = refl })
    where
      unseen : (a : List Message) (m : Message) (d : List Message) (x : Entry) (g : List Entry) → Suffix (x ∷ g) (history_at t q) → as_rec x.kind ≡ some (taking a m d) → seen a m d g < length (come_at t q)
      unseen a m d x g st is =
          let z = suffix_length st in
          let u = f (length g) a m d x g (record { at = st; index = refl }) is (omega (arith, z, level_history q)) in
          omega (arith, u, e, level_at q)

  pub does_can : {d : Deed} {w : Move} → Does t d w → Backward d → Can t (level t) (line_of d)
  unfolding Backward line_of as_send as_rec as_spawn
  does_can (forward _ _ _ _) x = absurd x
  does_can (backward {p} i (undo_alone a)) x = can_alone (top_at i) a (top_level i)
  does_can (backward {p} i (undo_send f)) x = can_send (top_at i) refl (top_level i) λ j n r m. absurd (flight_fresh f (place_came r m))
  does_can (backward {p} {before} {older = h} i (undo_receive {m} {older = a} {newer = b} e)) x =
      can_rec (top_at i) refl (top_level i) (level_at p ∙ ap length (ap (λ z. come z (t.queues p)) (history_of_lem t p i) ∙ ap (come (entry_with (rec a m b) before ∷ h)) e ∙ come_taken a m b before h))
  does_can (backward {p} i (undo_spawn {q} j e n)) x =
      can_spawn (top_at i) refl (top_level i) (sym (level_history q) ∙ ap length (history_of_lem t q j)) (omega (arith, level_come q, ap length e, ap (λ z. length (taken z)) (history_of_lem t q j), ap length taken_nil))
      λ u k v f h st is.
      let out = suffix_sent st.at is in
      absurd (n u (sends h) v (flight_of t u (sends h) q out (sound.targets_in_pool u (sends h) q v out) (λ c. elim c [ inl y ↦ any_none y e | inr y ↦ any_none y (ap taken (history_of_lem t q j) ∙ taken_nil) ])))
  does_can (sched _ _) x = absurd x
  does_can (unsched {t = q} m {queue} v i g) x =
      can_undeliver {q = q} {j = length (come (history_at t q) queue)} (omega (
        arith,
        level_at q,
        ap (λ z. length (come (history_at t q) z)) i,
        ap length (come_more (history_at t q) queue (m ∷ []) (omega (arith, g, length-append queue (m ∷ [])))),
        length-append (come (history_at t q) queue) (m ∷ []),
      ))
      λ k a n d f h st is l. let (y, z) = seen_first queue st.at is in omega (arith, ap length z, length-append (come h (a ++ (n ∷ d))) y)

-- ---- the simulation: a cut is lowered by one
pub record Less (k : Cut) (x : Series) (k' : Cut) : Type 0 where
  pub at : k x ≡ suc (k' x)
  pub off : (y : Series) → x ≢ y → k' y ≡ k y

pub data Cuts (s : State) : Cut → Cut → ℕ → Type 0 where
  end : {k : Cut} → Cuts s k k 0
  take : {k k' k'' : Cut} {x : Series} {n : ℕ} → Can s k x → Less k x k' → Cuts s k' k'' n → Cuts s k k'' (suc n)

-- one more
pub cuts_more : {s : State} {k k' k'' : Cut} {x : Series} {n : ℕ} → Cuts s k k' n → Can s k' x → Less k' x k'' → Cuts s k k'' (suc n)
cuts_more end c l = take c l end
cuts_more (take d m r) c l = take d m (cuts_more r c l)

less_one : {k k' k'' : Cut} {x : Series} → Less k x k' → Less k x k'' → k' ≡ k''
less_one {x = x} l m = fun_ext λ y. elim (line? x y) [ yes e ↦ rw (← e) (omega (arith, l.at, m.at)) | no n ↦ l.off y n ∙ sym (m.off y n) ]

less_down : {s t : State} {x : Series} → Down s t x → Less (level s) x (level t)
less_down d = record { at = d.at; off = d.off }

undone_less : {s t : State} {x : Series} → Sound s → Undone s t x → Less (level s) x (level t)
undone_less {s} sound u = subst₂ (λ x t. Less (level s) x (level t)) u.on u.gives (less_down (lower sound u.does u.undoes_it))

undone_under : {s t : State} {x : Series} → Sound s → Undone s t x → Under t s
undone_under {s} sound u = subst (λ t. Under t s) u.gives (lower sound u.does u.undoes_it).under

undone_sound : {s t : State} {x : Series} → Sound s → Undone s t x → Sound t
undone_sound sound u = subst Sound u.gives (sound_undone sound u.does u.undoes_it)

-- what the numbers allow the rules allow, and the other way round
pub cuts_run : {s t : State} {k k' : Cut} {n : ℕ} → Sound t → Under t s → level t ≡ k → Cuts s k k' n → (t' : State) × Back t t' n × (level t' ≡ k')
cuts_run {t = t} sound under e end = (t, halt, e)
cuts_run {s} {t} sound under e (take {k} {k'} {x = x} {n} c l r) =
    let (m, u) = can_does sound ((can_under under).0 (subst (λ k. Can s k x) (sym e) c)) in
    let (t', q, i) = cuts_run {t = m} (undone_sound sound u) (under_trans (undone_under sound u) under) (less_one (subst (λ k. Less k x (level m)) e (undone_less sound u)) l) r in
    (t', took u.does u.undoes_it (subst (λ z. Back z t' n) (sym u.gives) q), i)

pub run_cuts : {s t t' : State} {n : ℕ} → Sound t → Under t s → Back t t' n → Cuts s (level t) (level t') n
run_cuts sound under halt = end
run_cuts sound under (took a b r) =
    take ((can_under under).1 (does_can sound a b)) (less_down (lower sound a b)) (run_cuts (sound_undone sound a b) (under_trans (lower sound a b).under under) r)

-- the conditions in numbers are acceptance after the undos so far
pub can_accepted : {s t : State} {n : ℕ} (x : Series) → Sound s → Back s t n → Can s (level t) x ↔ ((m : State) × (run_state (undo_of x) t ≡ some m))
can_accepted {s} {t} x sound r =
    let t-sound = sound_back sound r in
    let under = back_under sound r in (
      λ c. let (m, u) = can_does t-sound ((can_under under).0 c) in (m, of_undone u),
      λ (m, e). let u = undone_of x t-sound e in (can_under under).1 (subst (Can t (level t)) u.on (does_can t-sound u.does u.undoes_it)),
    )

-- ---- a search on numbers that answers whether a set can be removed: it ends at the set's cut, or at one where no line can be lowered
module _ {s : State} {set : Event → Type 0} {k : Cut} (sound : Sound s) (cut : IsCut s set k) (below : (x : Series) → k x ≤ level s x) where
  pub cuts_removed : {n : ℕ} → Cuts s (level s) k n → (t : State) × Removes s t set n × (level t ≡ k)
  cuts_removed r = let (t, q, e) = cuts_run sound under_refl refl r in (t, cut_removes sound cut below q (λ x. ap (λ j. j x) e), e)

  pub cuts_held : {j : Cut} {m : ℕ} (x : Series) → Cuts s (level s) j m → ((y : Series) → k y ≤ j y) → k x < j x → ((y : Series) → k y < j y → ¬ Can s j y) → (t : State) (n : ℕ) → ¬ Removes s t set n
  cuts_held {j} x r above h none-can t n removes =
      let (mid, q, e) = cuts_run sound under_refl refl r in
      let reached = removes_cut sound cut below removes in
      let at : (y : Series) → level mid y ≡ j y = λ y. ap (λ c. c y) e in
      let (_, rest, _) = through sound q (removes_run sound removes) (λ y. omega (arith, above y, reached y, at y)) in
      stuck q e at reached rest
    where
      stuck : {mid : State} {m l : ℕ} → Back s mid m → level mid ≡ j → ((y : Series) → level mid y ≡ j y) → ((y : Series) → level t y ≡ k y) → Back mid t l → ⊥
      stuck q e at reached halt = omega (arith, h, at x, reached x)
      stuck {mid} q e at reached (took {d} a b rest) =
          none-can (line_of d) (omega (arith, at (line_of d), reached (line_of d), lost (sound_back sound q) a b rest))
          (subst (λ c. Can s c (line_of d)) e ((can_under (back_under sound q)).1 (does_can (sound_back sound q) a b)))
