-- The state that is read of slots: its pool, histories, queues, sends, what its recs took, and how its queues flow.
use Prim.Native.Nat.{ℕ, zero, suc, ◌<◌}
use mathlib.Core.Path.{◌≡◌, refl, sym, ◌∙◌, ap, subst}
use mathlib.Core.Bool.{Bool, true, false, cond}
use mathlib.Core.Option.{Option, none, some}
use mathlib.Core.List.{List, [], ◌∷◌, ◌++◌, map, map-append, reverse, reverse-cons, tail}
use native.Mathlib.Omega.{arith}
use lib.Dec.{eqb, eqb-suc-suc}
use lib.ListN.{length, take, drop, get_elem?, length-append}
use Rattle.lists.specs.Lists.{All}
use Rattle.lists.proofs.Tests.{eqb_of, eqb_apart, cond_false}
use Rattle.lists.proofs.All.{all_any, map_take, map_drop}
use Rattle.machine.specs.Work.{work}
use Rattle.rules.specs.State.{Sizes, Message, Kind, seq, send, spawn, self, check, Taking, taking, as_send, as_rec, Entry, State, history_of, history_at, entry_at, is_process, in_pool}
use Rattle.rules.specs.Flight.{sent, also_taken, taken}
use Rattle.rules.specs.Sound.{Prefix, Flows}
use Rattle.store.specs.Layout.{name_word, kind_send, kind_rec, kind_spawn, kind_self, kind_check, Slot}
use Rattle.store.proofs.Restoring.{send_kind, rec_of, read_send, read_sends, read_message, read_kind, read_entry, read_process, read_queue, alike_sent}
use Rattle.store.proofs.Decoding.{restored}
use Rattle.store.proofs.SoundStates.{FlowsBy}
use Rattle.store.proofs.SlotViews.{EntryShape, seq_slot, send_slot, rec_slot, spawn_slot, self_slot, check_slot, messages_of, older_of, taken_of, newer_of, names_read, queue_split, read_seq, read_send_lem, read_rec, read_spawn, read_self, read_check}
use Rattle.store.proofs.SoundSlots.{is_live, names_in, taken_name, left_names, taken_if, taken_names, Begins, SlotFlows, newest_first, sent_by}

-- ---- the entry of a number in a history read of slots, oldest first

abbrev pub mapped : {A B : Type 0} → (A → B) → Option A → Option B
mapped f none = none
mapped f (some a) = some (f a)

entry_first : (h : List Entry) (e : Entry) → entry_at (h ++ (e ∷ [])) 0 ≡ some e
unfolding entry_at
entry_first [] e = refl
entry_first (x ∷ h) e =
    cond_false (some x) (entry_at (h ++ (e ∷ [])) 0) (eqb_apart (length (h ++ (e ∷ []))) 0 (λ z. omega (arith, length-append h (e ∷ [])))) ∙ entry_first h e

entry_later : (h : List Entry) (e : Entry) (i : ℕ) → entry_at (h ++ (e ∷ [])) (suc i) ≡ entry_at h i
unfolding entry_at
entry_later [] e i = cond_false (some e) none (eqb_apart 0 (suc i) (λ z. omega arith))
entry_later (x ∷ h) e i =
    let long : length (h ++ (e ∷ [])) ≡ suc (length h) = length-append h (e ∷ []) ∙ omega arith in
    let same : eqb (length (h ++ (e ∷ []))) (suc i) ≡ eqb (length h) i = ap (λ (n : ℕ). eqb n (suc i)) long ∙ eqb-suc-suc (length h) i in
    λ j. cond (same j) (some x) (entry_later h e i j)

pub entry_slot : (f : Slot → Entry) (xs : List Slot) (i : ℕ) → entry_at (map f (reverse xs)) i ≡ mapped f (get_elem? xs i)
unfolding entry_at
entry_slot f [] i = refl
entry_slot f (x ∷ xs) zero = ap (λ (h : List Entry). entry_at h 0) (ap (map f) (reverse-cons x xs) ∙ map-append f (reverse xs) (x ∷ [])) ∙ entry_first (map f (reverse xs)) (f x)
entry_slot f (x ∷ xs) (suc i) = ap (λ (h : List Entry). entry_at h (suc i)) (ap (map f) (reverse-cons x xs) ∙ map-append f (reverse xs) (x ∷ [])) ∙ entry_later (map f (reverse xs)) (f x) i ∙ entry_slot f xs i

-- ---- a rec by its slot

pub data RecView (module' : List ℕ) (places : ℕ → List Slot) (x : Slot) : Type 0 where
  a_rec : eqb x.kind kind_rec ≡ true → x.number < length x.names
      → as_rec (read_entry module' places x).kind ≡ some (taking (older_of module' places x) (taken_of module' places x) (newer_of module' places x)) → RecView module' places x
  no_rec : eqb x.kind kind_rec ≡ false → as_rec (read_entry module' places x).kind ≡ none → RecView module' places x

module _ (module' : List ℕ) (places : ℕ → List Slot) where
  other_kind : {n : ℕ} (x : Slot) (kind : Kind) → x.kind ≡ n → eqb n kind_rec ≡ false → (read_entry module' places x).kind ≡ kind → as_rec kind ≡ none → RecView module' places x
  other_kind x kind k f e r = no_rec (ap (λ (n : ℕ). eqb n kind_rec) k ∙ f) (ap as_rec e ∙ r)

  rec_view : (x : Slot) → EntryShape module' x → RecView module' places x
  unfolding as_rec
  rec_view x (seq_slot k n names) = other_kind x seq k refl (read_seq module' places x k) refl
  rec_view x (send_slot k n names target value next w) = other_kind x (send target value) k refl (read_send_lem module' places x k target value next w) refl
  rec_view x (rec_slot k h) = a_rec (eqb_of x.kind kind_rec k) h (ap as_rec (read_rec module' places x k h))
  rec_view x (spawn_slot k names) = other_kind x (spawn x.number) k refl (read_spawn module' places x k) refl
  rec_view x (self_slot k n names) = other_kind x self k refl (read_self module' places x k) refl
  rec_view x (check_slot k h names) = other_kind x (check x.number) k refl (read_check module' places x k) refl

  -- what the recs took
  pub taken_read : (xs : List Slot) → All (EntryShape module') xs → taken (map (read_entry module' places) xs) ≡ messages_of module' places (taken_names xs)
  unfolding taken taken_names All also_taken taken_if
  taken_read [] a = refl
  taken_read (x ∷ xs) a = go (rec_view x a.0) (taken_read xs a.1)
    where
      go : RecView module' places x → taken (map (read_entry module' places) xs) ≡ messages_of module' places (taken_names xs)
          → also_taken (as_rec (read_entry module' places x).kind) (taken (map (read_entry module' places) xs)) ≡ messages_of module' places (taken_if (eqb x.kind kind_rec) (taken_name x) (taken_names xs))
      go (a_rec t h e) r = (λ i. also_taken (e i) (r i)) ∙ sym (ap (λ (b : Bool). messages_of module' places (taken_if b (taken_name x) (taken_names xs))) t)
      go (no_rec f e) r = (λ i. also_taken (e i) (r i)) ∙ sym (ap (λ (b : Bool). messages_of module' places (taken_if b (taken_name x) (taken_names xs))) f)

  -- what a rec left
  left_read : (x : Slot) → messages_of module' places (left_names x) ≡ older_of module' places x ++ newer_of module' places x
  left_read x =
      map-append (read_message module' places) (take x.number x.names) (drop (suc x.number) x.names)
      ∙ (λ i. map_take (read_message module' places) x.number x.names i ++ map_drop (read_message module' places) (suc x.number) x.names i)

  -- how queues flow
  abbrev SlotFlowsBy : Bool → Slot → List Slot → List ℕ → Type 0
  SlotFlowsBy b x older names = elim b as (λ y. Type 0) [ false ↦ SlotFlows older names | true ↦ Begins (left_names x) names × SlotFlows older x.names ]

  pub flows_read : (xs : List Slot) (names : List ℕ) → All (EntryShape module') xs → SlotFlows xs names → Flows (map (read_entry module' places) xs) (messages_of module' places names)
  unfolding SlotFlows Flows All
  flows_read [] names a f = tt
  flows_read (x ∷ xs) names a f = go (rec_view x a.0) f (λ ws. flows_read xs ws a.1)
    where
      go : RecView module' places x → SlotFlowsBy (eqb x.kind kind_rec) x xs names → ((ws : List ℕ) → SlotFlows xs ws → Flows (map (read_entry module' places) xs) (messages_of module' places ws))
          → FlowsBy (as_rec (read_entry module' places x).kind) (map (read_entry module' places) xs) (messages_of module' places names)
      go (a_rec t h e) f r =
          let g : Begins (left_names x) names × SlotFlows xs x.names = subst (λ (b : Bool). SlotFlowsBy b x xs names) t f in
          let begins : Prefix (older_of module' places x ++ newer_of module' places x) (messages_of module' places names) = record {
            others = messages_of module' places g.0.others;
            whole =
                ap (messages_of module' places) g.0.whole ∙ map-append (read_message module' places) (left_names x) g.0.others
                ∙ ap (λ (q : List Message). q ++ messages_of module' places g.0.others) (left_read x);
          } in
          subst (λ (o : Option Taking). FlowsBy o (map (read_entry module' places) xs) (messages_of module' places names)) (sym e)
          (begins, subst (Flows (map (read_entry module' places) xs)) (queue_split module' places x h) (r x.names g.1))
      go (no_rec n e) f r =
          let g : SlotFlows xs names = subst (λ (b : Bool). SlotFlowsBy b x xs names) n f in
          subst (λ (o : Option Taking). FlowsBy o (map (read_entry module' places) xs) (messages_of module' places names)) (sym e) (r names g)

  pub flows_back : (xs : List Slot) (names : List ℕ) → All (EntryShape module') xs → Flows (map (read_entry module' places) xs) (messages_of module' places names) → SlotFlows xs names
  unfolding SlotFlows Flows All
  flows_back [] names a f = tt
  flows_back (x ∷ xs) names a f = go (rec_view x a.0) f (λ ws. flows_back xs ws a.1)
    where
      go : RecView module' places x → FlowsBy (as_rec (read_entry module' places x).kind) (map (read_entry module' places) xs) (messages_of module' places names)
          → ((ws : List ℕ) → Flows (map (read_entry module' places) xs) (messages_of module' places ws) → SlotFlows xs ws) → SlotFlowsBy (eqb x.kind kind_rec) x xs names
      go (a_rec t h e) f r =
          let older = map (read_entry module' places) xs in
          let g : FlowsBy (some (taking (older_of module' places x) (taken_of module' places x) (newer_of module' places x))) older (messages_of module' places names) =
          subst (λ (o : Option Taking). FlowsBy o older (messages_of module' places names)) e f in
          let begins : Begins (left_names x) names = record {
            others = map name_word g.0.others;
            whole =
                sym (names_read module' places names)
                ∙ ap (map name_word) (g.0.whole ∙ ap (λ (q : List Message). q ++ g.0.others) (sym (left_read x)))
                ∙ map-append name_word (messages_of module' places (left_names x)) g.0.others
                ∙ ap (λ (ws : List ℕ). ws ++ map name_word g.0.others) (names_read module' places (left_names x));
          } in
          subst (λ (b : Bool). SlotFlowsBy b x xs names) (sym t) (begins, r x.names (subst (Flows older) (sym (queue_split module' places x h)) g.1))
      go (no_rec n e) f r =
          let g : Flows (map (read_entry module' places) xs) (messages_of module' places names) = subst (λ (o : Option Taking). FlowsBy o (map (read_entry module' places) xs) (messages_of module' places names)) e f in
          subst (λ (b : Bool). SlotFlowsBy b x xs names) (sym n) (r names g)

-- ---- sends by slots

no_send_either : (b : Bool) (k l : Kind) → as_send k ≡ none → as_send l ≡ none → as_send (cond b k l) ≡ none
no_send_either true k l e f = e
no_send_either false k l e f = f

no_send_rec : (older queue : List Message) → as_send (rec_of older queue) ≡ none
unfolding as_send rec_of
no_send_rec older [] = refl
no_send_rec older (m ∷ newer) = refl

-- an entry read whole says the same send as one read for its send alone
send_alike : (module' : List ℕ) (places : ℕ → List Slot) (x : Slot) → as_send (read_entry module' places x).kind ≡ as_send (read_send module' x).kind
unfolding read_entry read_send read_kind as_send
send_alike module' places x = go (eqb x.kind kind_send) _ (no_send_either (eqb x.kind kind_rec) _ _ (no_send_rec (older_at x) (from_at x)) (no_send_either (eqb x.kind kind_spawn) _ _ refl (no_send_either (eqb x.kind kind_self) _ _ refl (no_send_either (eqb x.kind kind_check) _ _ refl refl))))
  where
    older_at : Slot → List Message
    older_at y = take y.number (messages_of module' places y.names)

    from_at : Slot → List Message
    from_at y = drop y.number (messages_of module' places y.names)

    go : (b : Bool) (k : Kind) → as_send k ≡ none → as_send (cond b (send_kind (work module' x.control)) k) ≡ as_send (cond b (send_kind (work module' x.control)) seq)
    go true k e = refl
    go false k e = e

-- ---- the state that is read

module _ (module' : List ℕ) (sizes : Sizes) (places : ℕ → List Slot) where
  abbrev pub read_state : State
  read_state = restored module' sizes places

  pub history_read : (p : ℕ) → history_at read_state p ≡ map (read_entry module' places) (newest_first places p)
  unfolding restored history_at history_of read_process
  history_read p = go (places p)
    where
      go : (xs : List Slot) → history_of (read_process module' places xs) ≡ map (read_entry module' places) (reverse (tail xs))
      go [] = refl
      go (x ∷ xs) = refl

  pub pool_read : (p : ℕ) → in_pool read_state p ≡ is_live (places p)
  unfolding restored in_pool is_process read_process is_live
  pool_read p = go (places p)
    where
      go : (xs : List Slot) → is_process (read_process module' places xs) ≡ is_live xs
      go [] = refl
      go (x ∷ xs) = refl

  pub queue_read : (p : ℕ) → read_state.queues p ≡ messages_of module' places (names_in (places p))
  unfolding restored read_queue names_in
  queue_read p = go (places p)
    where
      go : (xs : List Slot) → read_queue module' places xs ≡ messages_of module' places (names_in xs)
      go [] = refl
      go (x ∷ xs) = refl

  pub sent_read : (p k : ℕ) → sent (history_at read_state p) k ≡ sent_by module' places p k
  unfolding read_sends
  sent_read p k =
      ap (λ (h : List Entry). sent h k) (history_read p)
      ∙ alike_sent (read_entry module' places) (read_send module') (newest_first places p) k (all_any (send_alike module' places) (newest_first places p))
