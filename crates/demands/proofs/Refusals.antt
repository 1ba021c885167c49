-- `run` refuses exactly where 01 says so, with 01's number.
use Prim.Native.Nat.{ℕ, ◌<◌, ◌≤◌}
use mathlib.Core.Path.{◌≡◌, refl, sym, ◌∙◌, ap, subst}
use mathlib.Core.Logic.{◌≢◌, ◌⊎◌, inl, inr, ◌↔◌}
use mathlib.Core.Bool.{Bool, true, false, not, ◌&&◌}
use mathlib.Core.Option.{Option, none, some}
use mathlib.Core.List.{List, [], ◌∷◌, ◌++◌}
use native.Mathlib.Omega.{arith}
use lib.Dec.{leb, ltb}
use lib.ListN.{length}
use Rattle.lists.proofs.Tests.{true_not_false, true_or_false, none_not_some, leb_false, leb_over, leb_of, leb-true, ltb_false, ltb_over, ltb_of, ltb-true, not_true, not_false}
use Rattle.machine.specs.Work.{Work, to_seq, to_send, to_receive, to_spawn, to_self, to_check, work}
use Rattle.rules.specs.Answers.{no_process, finished, stuck, wrong_command, place_taken, too_large, history_full, no_message, held}
use Rattle.rules.specs.State.{Message, Letter, letter, Kind, seq, send, rec, spawn, self, check, Entry, Process, State, history_at, in_pool, same_queue}
use Rattle.rules.specs.Flight.{sends, sent, left, flies, awaited}
use Rattle.rules.specs.Load.{new_process}
use Rattle.rules.specs.Commands.{Command, step, spawn_into, deliver, back, undeliver, Deed, makes, Beside, nothing, other, Move, turn, Plan, refuse, accept, need, Picked, picked, pick, entry_with, making, receiving, stepping, spawning, undone, is_new, untouched, undoing, backing, undelivering, delivering, at_process, run}
use Rattle.rules.specs.Rules.{process, About, making_of, command_of}
use Rattle.rules.specs.Rules
use Rattle.rules.specs.Refusals.{For, for_step, for_spawn, for_back, for_undeliver, Goes, goes_step, goes_spawn, Refused, not_in_pool, is_finished, step_at_spawn, spawn_elsewhere, nothing_matches, is_stuck, target_missing, beyond_places, place_in_pool, too_large_lem, history_full_lem, NoSpawn, not_in_flight, no_entry, no_message_queued, entry_held, message_held}
use Rattle.rules.specs.Reverse.{is_forward}
use Rattle.demands.proofs.Does.{by_seq, by_self, by_check, Makes, alone, by_send, by_receive, by_spawn, Undoes, Does, forward, backward, sched, unsched}
use Rattle.demands.proofs.Deeds.{process_history}
use Rattle.demands.proofs.Reached.{makes_forward}
use Rattle.demands.proofs.Frame.{no_process_lem, not_in_pool as place_free, process_of, in_pool_lem, history_of_lem}
use Rattle.demands.proofs.Plans.{refused, need_true, PoolEnds}
use Rattle.demands.proofs.Allowed.{makes_so, written, undoes_so, restored}
use Rattle.rules.proofs.Oldest.{picked_none, none_picked}
use Rattle.demands.proofs.RunSound.{run_sound}
use Rattle.demands.proofs.RunComplete.{run_making, run_complete}

pub refuse_same : {m n : ℕ} → refuse m ≡ refuse n → m ≡ n
refuse_same e = cc

accept_not_refuse : {B : Type 0} {d : Deed} {w : Move} {n : ℕ} → accept d w ≡ refuse n → B
accept_not_refuse e = refused (sym e)

-- a test that is needed and fails gives its number, or it holds and the rest is refused
pub need_refuses : {plan : Plan} {n : ℕ} (b : Bool) (m : ℕ) → need b m plan ≡ refuse n → ((b ≡ false) × (m ≡ n)) ⊎ ((b ≡ true) × (plan ≡ refuse n))
unfolding need
need_refuses true m e = inr (refl, e)
need_refuses false m e = inl (refl, refuse_same e)

need_number : {n : ℕ} (d : Deed) (w : Move) (b : Bool) (m : ℕ) → need b m (accept d w) ≡ refuse n → (b ≡ false) × (m ≡ n)
need_number d w b m e = elim (need_refuses b m e) [ inl z ↦ z | inr z ↦ accept_not_refuse z.1 ]

need_false : {b : Bool} (n : ℕ) (plan : Plan) → b ≡ false → need b n plan ≡ refuse n
unfolding need
need_false n plan e = rw e refl

-- ---- what is refused, is refused for 01's reason
module _ (s : State) (p : ℕ) (control : List ℕ) (h : List Entry) {n : ℕ} (i : s.processes p ≡ some (process control h)) where
  not_made : {kind : Kind} {next : List ℕ} {beside : Beside} → Makes s p control kind next beside → making s p (process control h) kind next beside ≡ refuse n → Refused s (making_of p kind) n
  unfolding making
  not_made {kind} {next} {beside} mk e = go (need_refuses (leb (length next) s.sizes.words) too_large e)
    where
      rest : Plan
      rest = accept (makes p kind) (turn p (process next (entry_with kind control ∷ h)) beside)

      full : length next ≤ s.sizes.words → ((ltb (length h) s.sizes.entries ≡ false) × (history_full ≡ n)) ⊎ ((ltb (length h) s.sizes.entries ≡ true) × (rest ≡ refuse n)) → Refused s (making_of p kind) n
      full fits (inl (f, m)) = subst (Refused s (making_of p kind)) m (history_full_lem (makes_so i mk) fits (ltb_false (length h) s.sizes.entries f))
      full fits (inr (t, e)) = accept_not_refuse e

      go : ((leb (length next) s.sizes.words ≡ false) × (too_large ≡ n)) ⊎ ((leb (length next) s.sizes.words ≡ true) × (need (ltb (length h) s.sizes.entries) history_full rest ≡ refuse n)) → Refused s (making_of p kind) n
      go (inl (f, m)) = subst (Refused s (making_of p kind)) m (too_large_lem (makes_so i mk) (leb_false (length next) s.sizes.words f))
      go (inr (t, e)) = full (leb-true (length next) s.sizes.words t) (need_refuses (ltb (length h) s.sizes.entries) history_full e)

  not_stepped : (o : Work) → work s.module' control ≡ o → stepping s p (process control h) o ≡ refuse n → Refused s (step p) n
  unfolding stepping receiving making_of
  not_stepped Work.finished u e = subst (Refused s (step p)) (refuse_same e) (is_finished goes_step (record { stands = i; is = u }))
  not_stepped Work.stuck u e = subst (Refused s (step p)) (refuse_same e) (is_stuck (record { stands = i; is = u }))
  not_stepped (to_seq next) u e = not_made (alone (by_seq u)) e
  not_stepped (to_send target value next) u e = go (need_refuses (in_pool s target) stuck e)
    where
      go : ((in_pool s target ≡ false) × (stuck ≡ n)) ⊎ ((in_pool s target ≡ true) × (making s p (process control h) (send target value) next nothing ≡ refuse n)) → Refused s (step p) n
      go (inl (f, m)) = subst (Refused s (step p)) m (target_missing (record { stands = i; is = u }) f)
      go (inr (t, e)) = not_made (by_send u t) e
  not_stepped (to_receive takes) u e = take (pick takes (s.queues p)) refl e
    where
      take : (o : Option Picked) → pick takes (s.queues p) ≡ o → receiving s p (process control h) o ≡ refuse n → Refused s (step p) n
      take none j e = subst (Refused s (step p)) (refuse_same e) (nothing_matches (record { stands = i; is = u }) (picked_none takes (s.queues p) j))
      take (some (picked older m newer next)) j e = not_made (by_receive u j) e
  not_stepped (to_spawn child next) u e = subst (Refused s (step p)) (refuse_same e) (step_at_spawn (record { stands = i; is = u }))
  not_stepped (to_self next) u e = not_made (alone (by_self u)) e
  not_stepped (to_check number next) u e = not_made (alone (by_check u)) e

  elsewhere : (f : ℕ) {o : Work} → work s.module' control ≡ o → o ≢ Work.finished → NoSpawn o → refuse wrong_command ≡ refuse n → Refused s (spawn_into p f) n
  elsewhere f u unfinished no_spawn e = subst (Refused s (spawn_into p f)) (refuse_same e) (spawn_elsewhere (record { stands = i; is = u }) unfinished no_spawn)

  not_spawned : (f : ℕ) (o : Work) → work s.module' control ≡ o → spawning s p (process control h) f o ≡ refuse n → Refused s (spawn_into p f) n
  unfolding spawning making_of NoSpawn
  not_spawned f Work.finished u e = subst (Refused s (spawn_into p f)) (refuse_same e) (is_finished goes_spawn (record { stands = i; is = u }))
  not_spawned f Work.stuck u e = elsewhere f u (λ z. let n : ◌≡◌ {A = ℕ} 0 1 = cc in omega arith) (λ child next z. let n : ◌≡◌ {A = ℕ} 0 1 = cc in omega arith) e
  not_spawned f (to_seq next) u e = elsewhere f u (λ z. let n : ◌≡◌ {A = ℕ} 0 1 = cc in omega arith) (λ child next z. let n : ◌≡◌ {A = ℕ} 0 1 = cc in omega arith) e
  not_spawned f (to_send target value next) u e = elsewhere f u (λ z. let n : ◌≡◌ {A = ℕ} 0 1 = cc in omega arith) (λ child next z. let n : ◌≡◌ {A = ℕ} 0 1 = cc in omega arith) e
  not_spawned f (to_receive takes) u e = elsewhere f u (λ z. let n : ◌≡◌ {A = ℕ} 0 1 = cc in omega arith) (λ child next z. let n : ◌≡◌ {A = ℕ} 0 1 = cc in omega arith) e
  not_spawned f (to_spawn child next) u e = go (need_refuses (ltb f s.sizes.places) place_taken e)
    where
      rest : Plan
      rest = making s p (process control h) (spawn f) (next f) (other f (some (new_process child)))

      into : f < s.sizes.places → ((not (in_pool s f) ≡ false) × (place_taken ≡ n)) ⊎ ((not (in_pool s f) ≡ true) × (rest ≡ refuse n)) → Refused s (spawn_into p f) n
      into below (inl (b, m)) = subst (Refused s (spawn_into p f)) m (place_in_pool (record { stands = i; is = u }) below (not_false (in_pool s f) b))
      into below (inr (b, e)) = not_made (by_spawn u below (not_true (in_pool s f) b)) e

      go : ((ltb f s.sizes.places ≡ false) × (place_taken ≡ n)) ⊎ ((ltb f s.sizes.places ≡ true) × (need (not (in_pool s f)) place_taken rest ≡ refuse n)) → Refused s (spawn_into p f) n
      go (inl (b, m)) = subst (Refused s (spawn_into p f)) m (beyond_places (record { stands = i; is = u }) (ltb_false f s.sizes.places b))
      go (inr (b, e)) = into (ltb-true f s.sizes.places b) (need_refuses (not (in_pool s f)) place_taken e)
  not_spawned f (to_self next) u e = elsewhere f u (λ z. let n : ◌≡◌ {A = ℕ} 0 1 = cc in omega arith) (λ child next z. let n : ◌≡◌ {A = ℕ} 0 1 = cc in omega arith) e
  not_spawned f (to_check number next) u e = elsewhere f u (λ z. let n : ◌≡◌ {A = ℕ} 0 1 = cc in omega arith) (λ child next z. let n : ◌≡◌ {A = ℕ} 0 1 = cc in omega arith) e

-- ---- undoing
undoing_number : {n : ℕ} (s : State) (p : ℕ) (e : Entry) (older : List Entry) (kind : Kind) → undoing s p e older kind ≡ refuse n → held ≡ n
unfolding undoing undone untouched
undoing_number s p e older seq r = accept_not_refuse r
undoing_number s p e older (send target value) r = (need_number _ _ (flies s p (sends older) target) held r).1
undoing_number s p e older (rec before m after) r = (need_number _ _ (same_queue (s.queues p) (before ++ after)) held r).1
undoing_number s p e older (spawn child) r = (need_number _ _ (is_new (s.processes child) && same_queue (s.queues child) [] && not (awaited s child)) held r).1
undoing_number s p e older self r = accept_not_refuse r
undoing_number s p e older (check number) r = accept_not_refuse r

module _ (s : State) {n : ℕ} where
  -- an entry that the rules let be undone would be accepted
  not_backed : {p : ℕ} {control : List ℕ} (h : List Entry) → s.processes p ≡ some (process control h) → backing s p h ≡ refuse n → run (back p) s ≡ refuse n → Refused s (back p) n
  unfolding backing command_of
  not_backed {p} [] i e r = subst (Refused s (back p)) (refuse_same e) (no_entry i)
  not_backed {p} (x ∷ older) i e r =
      subst (Refused s (back p)) (undoing_number s p x older x.kind e) (entry_held i (λ after un. accept_not_refuse (sym (run_complete (backward i (restored un).undoes)) ∙ r)))

  not_undelivered : {p : ℕ} {control : List ℕ} {h : List Entry} (queue : List Message) → s.processes p ≡ some (process control h) → s.queues p ≡ queue
      → undelivering s p (process control h) queue ≡ refuse n → Refused s (undeliver p) n
  unfolding undelivering
  not_undelivered {p} [] i j e = subst (Refused s (undeliver p)) (refuse_same e) (no_message_queued (in_pool_lem s p i) j)
  not_undelivered {p} {h} (m ∷ queue) i j e =
      let (short, is_held_lem) = need_number _ _ (ltb (length (left h)) (length (m ∷ queue))) held e in
      let no_longer = ltb_false (length (left h)) (length (m ∷ queue)) short in
      subst (Refused s (undeliver p)) is_held_lem (message_held (in_pool_lem s p i) some_queue (omega (arith, no_longer, ap length j, ap (λ x. length (left x)) (history_of_lem s p i))))
    where
      some_queue : s.queues p ≢ []
      some_queue z = let both : m ∷ queue ≡ [] = sym j ∙ z in let o : ◌≡◌ {A = ℕ} 0 1 = cc in omega arith

  not_delivered : {sender k : ℕ} (o : Option Letter) → sent (history_at s sender) k ≡ o → delivering s sender k o ≡ refuse n → Refused s (deliver sender k) n
  unfolding delivering
  not_delivered {sender} {k} none i e = subst (Refused s (deliver sender k)) (refuse_same e) (not_in_flight (λ t v f. none_not_some (sym i ∙ f.out)))
  not_delivered {sender} {k} (some (letter t value)) i e =
      let (down, is_number) = need_number _ _ (flies s sender k t) no_message e in
      subst (Refused s (deliver sender k)) is_number (not_in_flight (λ u v f. true_not_false f.up (rw (same_target u v f.out) down)))
    where
      same_target : (u : ℕ) (v : List ℕ) → sent (history_at s sender) k ≡ some (letter u v) → u ≡ t
      same_target u v f =
          let both : some (letter u v) ≡ some (letter t value) = sym f ∙ i in
          cc

  pub refused_as : (c : Command) → run c s ≡ refuse n → Refused s c n
  unfolding run at_process
  refused_as (step p) e = go (s.processes p) refl e
    where
      go : (o : Option Process) → s.processes p ≡ o → at_process o (λ a. stepping s p a (work s.module' a.control)) ≡ refuse n → Refused s (step p) n
      go none i e = subst (Refused s (step p)) (refuse_same e) (not_in_pool for_step (place_free s p i))
      go (some a) i e = not_stepped s p a.control a.history i (work s.module' a.control) refl e
  refused_as (spawn_into p f) e = go (s.processes p) refl e
    where
      go : (o : Option Process) → s.processes p ≡ o → at_process o (λ a. spawning s p a f (work s.module' a.control)) ≡ refuse n → Refused s (spawn_into p f) n
      go none i e = subst (Refused s (spawn_into p f)) (refuse_same e) (not_in_pool for_spawn (place_free s p i))
      go (some a) i e = not_spawned s p a.control a.history i f (work s.module' a.control) refl e
  refused_as (deliver sender k) e = not_delivered (sent (history_at s sender) k) refl e
  refused_as (back p) e = go (s.processes p) refl e
    where
      go : (o : Option Process) → s.processes p ≡ o → at_process o (λ a. backing s p a.history) ≡ refuse n → Refused s (back p) n
      go none i r = subst (Refused s (back p)) (refuse_same r) (not_in_pool for_back (place_free s p i))
      go (some a) i r = not_backed a.history i r e
  refused_as (undeliver p) e = go (s.processes p) refl e
    where
      go : (o : Option Process) → s.processes p ≡ o → at_process o (λ a. undelivering s p a (s.queues p)) ≡ refuse n → Refused s (undeliver p) n
      go none i e = subst (Refused s (undeliver p)) (refuse_same e) (not_in_pool for_undeliver (place_free s p i))
      go (some a) i e = not_undelivered (s.queues p) i refl e

-- ---- and where 01 gives a reason, `run` refuses with its number
module _ (s : State) (ends : PoolEnds s) where
  at_finished : {p : ℕ} {control : List ℕ} {h : List Entry} {c : Command} → Goes p c → About s p control h Work.finished → run c s ≡ refuse finished
  unfolding run at_process stepping spawning
  at_finished goes_step a = rw (a.stands, a.is) refl
  at_finished goes_spawn a = rw (a.stands, a.is) refl

  off_pool : {p : ℕ} {c : Command} → For p c → s.processes p ≡ none → run c s ≡ refuse no_process
  unfolding run at_process
  off_pool for_step i = rw i refl
  off_pool for_spawn i = rw i refl
  off_pool for_back i = rw i refl
  off_pool for_undeliver i = rw i refl

  spawns_elsewhere : (p f : ℕ) {control : List ℕ} {h : List Entry} (o : Work) → About s p control h o → o ≢ Work.finished → NoSpawn o → run (spawn_into p f) s ≡ refuse wrong_command
  unfolding run at_process spawning NoSpawn
  spawns_elsewhere p f Work.finished a unfinished no_spawn = absurd (unfinished refl)
  spawns_elsewhere p f Work.stuck a unfinished no_spawn = rw (a.stands, a.is) refl
  spawns_elsewhere p f (to_seq next) a unfinished no_spawn = rw (a.stands, a.is) refl
  spawns_elsewhere p f (to_send target value next) a unfinished no_spawn = rw (a.stands, a.is) refl
  spawns_elsewhere p f (to_receive takes) a unfinished no_spawn = rw (a.stands, a.is) refl
  spawns_elsewhere p f (to_spawn child next) a unfinished no_spawn = absurd (no_spawn child next refl)
  spawns_elsewhere p f (to_self next) a unfinished no_spawn = rw (a.stands, a.is) refl
  spawns_elsewhere p f (to_check number next) a unfinished no_spawn = rw (a.stands, a.is) refl

  holds_entry : (p : ℕ) {control before : List ℕ} {older : List Entry} {kind : Kind} → s.processes p ≡ some (process control (entry_with kind before ∷ older))
      → ((after : State) → ¬ Rules.Undoes s p before older kind after) → run (back p) s ≡ refuse held
  unfolding run at_process backing command_of is_forward
  holds_entry p {control} {before} {older} {kind} i none-undoes = go (run (back p) s) refl
    where
      ran : run (back p) s ≡ undoing s p (entry_with kind before) older kind
      ran = rw i refl

      undone_anyway : {d : Deed} {w : Move} → Does s d w → command_of d ≡ back p → ⊥
      undone_anyway (forward {p = p'} {kind = kind'} _ _ _ _) is = true_not_false (sym (ap is_forward is) ∙ makes_forward p' kind') refl
      undone_anyway (backward {p = p'} {before = before'} {older = older'} {kind = kind'} {beside} j un) is =
          let place : p' ≡ p = cc in
          let entries : entry_with kind' before' ∷ older' ≡ entry_with kind before ∷ older = process_history (sym j ∙ ap s.processes place ∙ i) in
          let tops : entry_with kind' before' ≡ entry_with kind before = cc in
          let rests : older' ≡ older = cc in
          none-undoes _ (undoes_so (subst (λ x. x) (λ l. Undoes s (place l) (sends (rests l)) (tops l).kind beside) un))
      undone_anyway (sched _ _) is = let z : ◌≡◌ {A = ℕ} 0 1 = cc in omega arith
      undone_anyway (unsched _ _ _ _) is = let z : ◌≡◌ {A = ℕ} 0 1 = cc in omega arith

      go : (plan : Plan) → run (back p) s ≡ plan → run (back p) s ≡ refuse held
      go (refuse number) e = e ∙ ap refuse (sym (undoing_number s p (entry_with kind before) older kind (sym ran ∙ e)))
      go (accept d w) e = let (does, is) = run_sound s ends (back p) e in absurd (undone_anyway does is)

  message_stays : (p : ℕ) → in_pool s p ≡ true → s.queues p ≢ [] → length (s.queues p) ≤ length (left (history_at s p)) → run (undeliver p) s ≡ refuse held
  unfolding run at_process undelivering
  message_stays p live some_queue short = let (a, i) = process_of s p live in rw i (go a i (s.queues p) refl)
    where
      go : (a : Process) → s.processes p ≡ some a → (queue : List Message) → s.queues p ≡ queue → undelivering s p a queue ≡ refuse held
      go a i [] j = absurd (some_queue j)
      go a i (m ∷ queue) j = need_false held _ (ltb_over (length (left a.history)) (length (m ∷ queue)) (omega (arith, short, ap length j, ap (λ x. length (left x)) (history_of_lem s p i))))

  pub refuses : {c : Command} {n : ℕ} → Refused s c n → run c s ≡ refuse n
  unfolding run at_process stepping receiving spawning backing undelivering delivering making
  refuses (not_in_pool {p} f i) = off_pool f (no_process_lem s p i)
  refuses (is_finished g a) = at_finished g a
  refuses (step_at_spawn a) = rw (a.stands, a.is) refl
  refuses (spawn_elsewhere {p} {f} {doing} a unfinished no_spawn) = spawns_elsewhere p f doing a unfinished no_spawn
  refuses (nothing_matches {p} {takes} a idle) = rw (a.stands, a.is, none_picked takes (s.queues p) idle) refl
  refuses (is_stuck a) = rw (a.stands, a.is) refl
  refuses (target_missing a f) = rw (a.stands, a.is) (need_false stuck _ f)
  refuses (beyond_places {f} a h) = rw (a.stands, a.is) (need_false place_taken _ (ltb_over f s.sizes.places h))
  refuses (place_in_pool {f} a below live) = rw (a.stands, a.is) (need_true place_taken _ (ltb_of f s.sizes.places below) ∙ need_false place_taken _ (ap not live))
  refuses (too_large_lem {next} mk long) = let w = written mk in run_making w.stands w.makes ∙ need_false too_large _ (leb_over (length next) s.sizes.words long)
  refuses (history_full_lem {next} {history} mk fits full) =
      let w = written mk in
      run_making w.stands w.makes ∙ need_true too_large _ (leb_of (length next) s.sizes.words fits) ∙ need_false history_full _ (ltb_over (length history) s.sizes.entries full)
  refuses (not_in_flight {sender} {k} f) = go (sent (history_at s sender) k) refl
    where
      go : (o : Option Letter) → sent (history_at s sender) k ≡ o → delivering s sender k o ≡ refuse no_message
      go none i = refl
      go (some (letter t v)) i = need_false no_message _ (elim (true_or_false (flies s sender k t)) [ inl e ↦ absurd (f t v (record { out = i; up = e })) | inr e ↦ e ])
  refuses (no_entry i) = rw i refl
  refuses (no_message_queued {p} live j) = let (a, i) = process_of s p live in rw (i, j) refl
  refuses (entry_held {p} i f) = holds_entry p i f
  refuses (message_held {p} live q short) = message_stays p live q short

  -- exactly so
  pub refusals : (c : Command) (n : ℕ) → (run c s ≡ refuse n) ↔ Refused s c n
  refusals c n = (λ e. refused_as s c e, λ r. refuses r)
