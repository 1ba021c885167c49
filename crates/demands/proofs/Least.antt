-- Nothing depends at once on what an accepted undo takes. So accepted undos that take an event take all that depend on it.
use Prim.Native.Nat.{ℕ, suc, ◌<◌, ◌≤◌, ◌+◌}
use mathlib.Core.Path.{◌≡◌, refl, sym, ◌∙◌, ap, subst}
use mathlib.Core.Logic.{◌⊎◌, inl, inr}
use mathlib.Core.Bool.{true, false}
use mathlib.Core.Option.{Option, none, some}
use mathlib.Core.List.{List, ◌∷◌, ◌++◌}
use native.Mathlib.Decide.{ℕ_discrete, dec_lt}
use native.Mathlib.Omega.{arith}
use lib.ListN.{length}
use Rattle.lists.proofs.Tests.{none_not_some, some_injective}
use Rattle.rules.specs.State.{Message, letter, taking, Kind, seq, send, rec, spawn, self, check, as_send, as_rec, as_spawn, Entry, State}
use Rattle.rules.specs.Flight.{sends, taken}
use Rattle.rules.specs.Sound.{Sound}
use Rattle.rules.specs.Depends.{Series, entries_of, deliveries_to, level, happened, depends_at_once, WithDependents, event, Event}
use Rattle.rules.specs.Standing.{Stands, Arrives, come, seen}
use Rattle.rules.specs.Rollback.{Undos, Removes, Cut}
use Rattle.demands.specs.Demands.{Reachable}
use Rattle.demands.specs.Least.{LeastRemoval}
use Rattle.demands.proofs.Views.{alone_send, alone_rec, alone_spawn}
use Rattle.demands.proofs.Messages.{any_append, any_left, Named}
use Rattle.demands.proofs.Event.{line?, under_refl, low}
use Rattle.demands.proofs.EventDepends.{stands_entry, stands_older}
use Rattle.demands.proofs.Removal.{Back, undos_back, back_undos, back_under, through, over_level, level_over, removes_run, gone_in}
use Rattle.demands.proofs.Cut.{depends_on, depends_happened, Closed, gone_with}
use Rattle.demands.proofs.CutNumbers.{sees, saw, On, later, of_spawn_entry, of_spawn_delivery, of_queue, of_since, of_send, on_of, sent_to}
use Rattle.demands.proofs.SearchNumbers.{Can, can_alone, can_send, can_rec, can_spawn, can_undeliver, Less, Cuts, end as no_more, take, run_cuts}
use Rattle.demands.proofs.Consequences.{consequences}
use Rattle.demands.proofs.RollbackDemands.{rollback_demands}

-- ---- an entry is at most one of send, rec and spawn
record OneView (kind : Kind) : Type 0 where
  send_rec : (as_send kind ≡ none) ⊎ (as_rec kind ≡ none)
  send_spawn : (as_send kind ≡ none) ⊎ (as_spawn kind ≡ none)
  rec_spawn : (as_rec kind ≡ none) ⊎ (as_spawn kind ≡ none)

one_view : (kind : Kind) → OneView kind
unfolding as_send as_rec as_spawn
one_view seq = record { send_rec = inl refl; send_spawn = inl refl; rec_spawn = inl refl }
one_view (send target value) = record { send_rec = inr refl; send_spawn = inr refl; rec_spawn = inl refl }
one_view (rec older m newer) = record { send_rec = inl refl; send_spawn = inl refl; rec_spawn = inr refl }
one_view (spawn child) = record { send_rec = inl refl; send_spawn = inl refl; rec_spawn = inl refl }
one_view self = record { send_rec = inl refl; send_spawn = inl refl; rec_spawn = inl refl }
one_view (check number) = record { send_rec = inl refl; send_spawn = inl refl; rec_spawn = inl refl }

not_both : {A B C : Type 0} {o : Option A} {u : Option B} {a : A} {b : B} → (o ≡ none) ⊎ (u ≡ none) → o ≡ some a → u ≡ some b → C
not_both (inl e) i j = none_not_some (sym e ∙ i)
not_both (inr e) i j = none_not_some (sym e ∙ j)

-- ---- the newest event that k keeps on a line, where its undo is accepted
module _ {s : State} (k : Cut) {p j : ℕ} {e : Entry} {g : List Entry} (top : k (entries_of p) ≡ suc j) (st : Stands s p j e g) where
  -- it is that entry
  same_entry : {i : ℕ} {f : Entry} {h : List Entry} → k (entries_of p) ≡ suc i → Stands s p i f h → (f ≡ e) × (h ≡ g)
  same_entry {i} {f} {h} n at =
      let there : Stands s p j f h = subst (λ i. Stands s p i f h) (omega arith) at in
      (some_injective (sym (stands_entry there) ∙ stands_entry st), sym (stands_older there) ∙ stands_older st)

  view : {A : Type 0} {i : ℕ} {f : Entry} {h : List Entry} {o : Option A} (look : Kind → Option A) → k (entries_of p) ≡ suc i → Stands s p i f h → look e.kind ≡ o → look f.kind ≡ o
  view look n at is = ap (λ f. look f.kind) (same_entry n at).0 ∙ is

  -- a spawn: nothing of its child stays
  idle_child : {q : ℕ} → as_spawn e.kind ≡ some q → Can s k (entries_of p) → (k (entries_of q) ≡ 0) × (k (deliveries_to q) ≡ 0)
  idle_child is (can_alone at a n) = none_not_some (sym (alone_spawn a) ∙ view as_spawn n at is)
  idle_child is (can_send {e = f} at u n _) = not_both (one_view f.kind).send_spawn u (view as_spawn n at is)
  idle_child is (can_rec {e = f} at u n _) = not_both (one_view f.kind).rec_spawn u (view as_spawn n at is)
  idle_child is (can_spawn at u n x y _) = subst (λ q. (k (entries_of q) ≡ 0) × (k (deliveries_to q) ≡ 0)) (some_injective (sym u ∙ view as_spawn n at is)) (x, y)

  -- a rec: nothing has come since
  none_since : {a d : List Message} {m : Message} → as_rec e.kind ≡ some (taking a m d) → Can s k (entries_of p) → k (deliveries_to p) ≡ seen a m d g
  none_since is (can_alone at a n) = none_not_some (sym (alone_rec a) ∙ view as_rec n at is)
  none_since is (can_send {e = f} at u n _) = not_both (one_view f.kind).send_rec u (view as_rec n at is)
  none_since {a} {d} {m} is (can_rec {a = b} {d = c} {m = o} at u n x) = x ∙ (λ l. length (come ((same_entry n at).1 l) (queues (some_injective (sym u ∙ view as_rec n at is)) l)))
    where
      queues : taking b o c ≡ taking a m d → b ++ (o ∷ c) ≡ a ++ (m ∷ d)
      queues e = cc
  none_since is (can_spawn {e = f} at u n _ _ _) = not_both (one_view f.kind).rec_spawn (view as_rec n at is) u

  -- a send: its message has not come
  not_come : {t : ℕ} {v : List ℕ} → as_send e.kind ≡ some (letter t v) → Can s k (entries_of p) → (i : ℕ) (n : Message) → Arrives s t i n → Named p (sends g) n → k (deliveries_to t) ≤ i
  not_come is (can_alone at a n) i m r name = none_not_some (sym (alone_send a) ∙ view as_send n at is)
  not_come {t} {v} is (can_send {t = u} {v = w} at w-is n f) i m r name =
      let same : u ≡ t = target (some_injective (sym w-is ∙ view as_send n at is)) in
      subst (λ t. k (deliveries_to t) ≤ i) same (f i m (subst (λ t. Arrives s t i m) (sym same) r) (subst (λ h. Named p (sends h) m) (sym (same_entry n at).1) name))
    where
      target : letter u w ≡ letter t v → u ≡ t
      target e = cc
  not_come is (can_rec {e = f} at u n _) i m r name = not_both (one_view f.kind).send_rec (view as_send n at is) u
  not_come is (can_spawn {e = f} at u n _ _ _) i m r name = not_both (one_view f.kind).send_spawn (view as_send n at is) u

-- a delivery: no rec that stays has seen it
unseen : {s : State} (k : Cut) {q i j : ℕ} {e : Entry} {g : List Entry} {a d : List Message} {m : Message} → k (deliveries_to q) ≡ suc j → Stands s q i e g → as_rec e.kind ≡ some (taking a m d)
    → i < k (entries_of q) → Can s k (deliveries_to q) → seen a m d g ≤ j
unseen k {i = i} {e = e} {g} {a} {d} {m} top st is h (can_undeliver n f) = let z = f i a m d e g st is h in omega arith

-- ---- nothing that stays depends at once on it
module _ {s : State} (sound : Sound s) where
  none_on : {k : Cut} {x y : Series} {i j : ℕ} → Can s k x → k x ≡ suc j → i < k y → ¬ On s y i x j
  none_on {k} c top h (later l) = omega arith
  none_on {k} c top h (of_spawn_entry st is) = omega (arith, h, (idle_child k top st is c).0)
  none_on {k} c top h (of_spawn_delivery st is) = omega (arith, h, (idle_child k top st is c).1)
  none_on {k} c top h (of_queue {g} st is r x) = omega (arith, unseen k top st is h c, saw sound st is r (any_left (taken g) x))
  none_on {k} c top h (of_since {a} {d} {m} r st is x y) = elim (any_append (a ++ (m ∷ d)) (sees sound st is r (omega (arith, h, none_since k top st is c)))) [ inl z ↦ x z | inr z ↦ y z ]
  none_on {k} c top h (of_send {i = i} {n} {l = letter t v} r st is name) =
      let same = sent_to sound r st is name in
      omega (arith, h, not_come k top st is c i n (subst (λ t. Arrives s t i n) (sym same) r) name, ap (λ t. k (deliveries_to t)) same)

  -- so what stays after it is closed, where what stood was
  lowered : {k k' : Cut} {x : Series} → Can s k x → Less k x k' → Closed s k → Closed s k'
  lowered {k} {k'} {x} c l closed = record { keeps = keeps }
    where
      fewer : (y : Series) → k' y ≤ k y
      fewer y = elim (line? x y) [ yes e ↦ subst (λ y. k' y ≤ k y) e (omega (arith, l.at)) | no n ↦ omega (arith, l.off y n) ]

      keeps : (y z : Series) (i j : ℕ) → depends_at_once s (event y i) (event z j) ≡ true → i < k' y → j < k' z
      keeps y z i j e h = go (line? x z)
        where
          stood : i < k y
          stood = omega (arith, h, fewer y)

          go : Dec (x ≡ z) → j < k' z
          go (no n) = omega (arith, closed.keeps y z i j e stood, l.off z n)
          go (yes u) = subst (λ z. j < k' z) u (newest (ℕ_discrete j (k' x)))
            where
              newest : Dec (j ≡ k' x) → j < k' x
              newest (yes v) = absurd (none_on c (omega (arith, l.at, v)) stood (on_of s y x i j (subst (λ z. depends_at_once s (event y i) (event z j) ≡ true) (sym u) e)))
              newest (no v) = omega (arith, l.at, v, closed.keeps y x i j (subst (λ z. depends_at_once s (event y i) (event z j) ≡ true) (sym u) e) stood)

  cuts_closed : {k k' : Cut} {n : ℕ} → Cuts s k k' n → Closed s k → Closed s k'
  cuts_closed no_more closed = closed
  cuts_closed (take c l r) closed = cuts_closed r (lowered c l closed)

  -- what accepted undos leave is closed
  pub left_closed : {t : State} {n : ℕ} → Back s t n → Closed s (level t)
  left_closed r = cuts_closed (run_cuts sound under_refl r) (record { keeps = λ x y i j e h. depends_on s x y i j e })

-- a dependent has happened
dependent_happened : (s : State) (x y : Series) (i j : ℕ) → happened s (event x i) ≡ true → WithDependents s (event x i) (event y j) → happened s (event y j) ≡ true
unfolding WithDependents
dependent_happened s x y i j h (inl u) = subst (λ e. happened s e ≡ true) u h
dependent_happened s x y i j h (inr d) = depends_happened d

module _ {s : State} (sound : Sound s) where
  pub taken_with : {end : State} {n : ℕ} (x y : Series) (i j : ℕ) → Undos s end n → happened end (event x i) ≡ false → WithDependents s (event x i) (event y j) → happened end (event y j) ≡ false
  taken_with {end} x y i j u g d = level_over end y (gone_with (left_closed sound (undos_back sound u)) x i (over_level end x g) y j d)

  removed_with : {end : State} {set : Event → Type 0} {n : ℕ} (x y : Series) (i j : ℕ) → Removes s end set n → happened s (event x i) ≡ true → set (event x i) → WithDependents s (event x i) (event y j) → set (event y j)
  removed_with x y i j r h inside d = (r.exactly (event y j) (dependent_happened s x y i j h d)).0 (taken_with x y i j r.undos ((r.exactly (event x i) h).1 inside) d)

  begins_with : {end after : State} {m n : ℕ} (x : Series) (i : ℕ) → Removes s end (WithDependents s (event x i)) m → Undos s after n → happened after (event x i) ≡ false → (k : ℕ) × Undos end after k × (n ≡ m + k)
  begins_with {end} {after} x i r u g =
      let (k, rest, e) = through sound (removes_run sound r) (undos_back sound u) further in
      (k, back_undos rest, e)
    where
      further : (y : Series) → level after y ≤ level end y
      further y = elim (dec_lt (level end y) (level after y)) [
        | no h ↦ omega arith
        | yes h ↦
            let inside = gone_in r y (level end y) (omega (arith, h, low (back_under sound (undos_back sound u)) y)) (omega arith) in
            over_level after y (taken_with x y i (level end y) u g inside)
      ]

pub least_removal : LeastRemoval
least_removal = record { least = least; within = within; begins = begins; smallest = smallest }
  where
    least : (s end : State) (n : ℕ) (d e : Event) → Sound s → Undos s end n → happened s d ≡ true → happened end d ≡ false → WithDependents s d e → happened end e ≡ false
    least s end n (event x i) (event y j) sound u h g d = taken_with sound x y i j u g d

    within : (s end : State) (set : Event → Type 0) (n : ℕ) (d e : Event) → Sound s → Removes s end set n → happened s d ≡ true → set d → WithDependents s d e → set e
    within s end set n (event x i) (event y j) sound r h inside d = removed_with sound x y i j r h inside d

    begins : (s end after : State) (d : Event) (m n : ℕ) → Sound s → Removes s end (WithDependents s d) m → Undos s after n → happened after d ≡ false → (k : ℕ) × Undos end after k × (n ≡ m + k)
    begins s end after (event x i) m n sound r u g = begins_with sound x i r u g

    smallest : (s : State) (d : Event) → Reachable s → happened s d ≡ true
        → (end : State) × (m : ℕ) × Removes s end (WithDependents s d) m × ((after : State) (n : ℕ) → Undos s after n → happened after d ≡ false → m ≤ n)
    smallest s d reach h =
        let (end, m, r) = rollback_demands.never.removable s d reach h in
        (end, m, r, λ after n u g. let (k, rest, e) = begins s end after d m n (consequences.sound.reached s reach) r u g in omega arith)
