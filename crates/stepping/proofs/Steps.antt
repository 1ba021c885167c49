-- Each thing that a process may be about to do: what the code knows of it makes `run`'s answer.
use Prim.Native.Nat.{ℕ, ◌≤◌, ◌<◌}
use mathlib.Core.Path.{◌≡◌, refl, sym, ◌∙◌, ap, subst}
use mathlib.Core.Bool.{Bool, true, false}
use mathlib.Core.Option.{Option, none, some}
use mathlib.Core.List.{List, ◌∷◌, ◌++◌}
use native.Mathlib.Omega.{arith}
use lib.ListN.{length, length-append}
use Rattle.std.specs.Prelude.{Ok, Err}
use Rattle.term.specs.Words.{word, tag_atom, tag_pid}
use Rattle.machine.specs.Work.{Work, finished, stuck, to_seq, to_send, to_receive, to_spawn, to_self, to_check, work}
use Rattle.step.specs.Steps.{Next, WroteNext}
use Rattle.step.specs.Controls.{doing_of}
use Rattle.step.specs.declared.work.Doing.{Doing}
use Rattle.step.specs.declared.work.Doing.TheVariants.{Finished, Stuck, Seq, Send, Receive, Spawn, Own, Check}
use Rattle.step.specs.declared.step.NoNext.TheVariants.{Nothing, TooLarge}
use Rattle.rules.specs.State.{Kind, seq, send, rec, self, check, as_rec, Process, State, in_pool}
use Rattle.rules.specs.Sound.{Sound}
use Rattle.rules.specs.Answers.{stuck as stuck_number}
use Rattle.rules.specs.Commands.{step, spawn_into, Beside, nothing, own_queue, refuse, need, Picked, picked, pick, making, receiving, stepping, spawning, at_process, run}
use Rattle.rules.specs.Replies.{perform}
use Rattle.rules.proofs.Oldest.{pick_is}
use Rattle.store.specs.Layout.{kind_seq, kind_send, kind_self, kind_check, kind_number, number_in, image}
use Rattle.store.specs.Image.{IsImage}
use Rattle.calls.specs.Numbers.{Answer, number_of, value_of}
use Rattle.calls.specs.declared.answers.Refusal.TheVariants.{Finished as FinishedAnswer, Waiting, Stuck as StuckAnswer, WrongCommand, TooLarge as LargeAnswer}
use Rattle.reading.specs.Reads.{Holds, OfState, Lives}
use Rattle.writing.specs.Writes.{CanTake}
use Rattle.calls.specs.Answering.{Answers, Does, Obeys}
use Rattle.making.specs.Making.{about, Sized, SeqRow, SendRow, WordRow, PickIs, PickedRow, Within, process_at, Made, MakesEntry, MakesRec}
use Rattle.stepping.specs.Stepping.{About}
use Rattle.making.specs.declared.picking.Picked.{Picked as Told}
use Rattle.calls.proofs.Answering.{obeys_refused, obeys_same, does_refused}
use Rattle.reading.proofs.Holding.{at_image}
use Rattle.making.proofs.Living.{process_is, place_is, control_good, laws_of, sizes_of}
use Rattle.making.proofs.Made.{fitted_nothing, fitted_row, wrote_drawn, wrote_length, wrote_within, made_large}

-- ---- what a process that does so is about to do

unfoldable pub WorkFor : Doing → Work → Type 0
WorkFor Finished w = w ≡ finished
WorkFor Stuck w = w ≡ stuck
WorkFor Seq w = (row : List ℕ) × (w ≡ to_seq row)
WorkFor (Send t) w = (value : List ℕ) × (row : List ℕ) × (w ≡ to_send t value row)
WorkFor Receive w = (takes : (List ℕ → Option (List ℕ))) × (w ≡ to_receive takes)
WorkFor Spawn w = (first : List ℕ) × (rows : (ℕ → List ℕ)) × (w ≡ to_spawn first rows)
WorkFor Own w = (rows : (ℕ → List ℕ)) × (w ≡ to_self rows)
WorkFor (Check k) w = (row : List ℕ) × (w ≡ to_check k row)

work_for : (w : Work) → WorkFor (doing_of w) w
unfolding WorkFor doing_of
work_for finished = refl
work_for stuck = refl
work_for (to_seq row) = (row, refl)
work_for (to_send t value row) = (value, row, refl)
work_for (to_receive takes) = (takes, refl)
work_for (to_spawn first rows) = (first, rows, refl)
work_for (to_self rows) = (rows, refl)
work_for (to_check k row) = (row, refl)

pub for_doing : (w : Work) (d : Doing) → d ≡ doing_of w → WorkFor d w
for_doing w d e = subst (λ (x : Doing). WorkFor x w) (sym e) (work_for w)

-- ---- how `run` answers a living process

module _ (s : State) (sound : Sound s) (p : ℕ) (lives : in_pool s p ≡ true) {w : Work} (e : about s p ≡ w) where
  pub step_runs : run (step p) s ≡ stepping s p (process_at s p) w
  unfolding run at_process about
  step_runs =
      ap (λ (o : Option Process). at_process o (λ process. stepping s p process (work s.module' process.control))) (process_is s sound p lives)
      ∙ ap (stepping s p (process_at s p)) e

  pub spawn_runs : (f : ℕ) → run (spawn_into p f) s ≡ spawning s p (process_at s p) f w
  unfolding run at_process about
  spawn_runs f =
      ap (λ (o : Option Process). at_process o (λ process. spawning s p process f (work s.module' process.control))) (process_is s sound p lives)
      ∙ ap (spawning s p (process_at s p) f) e

-- ---- what the code knows

-- p lives, and it does so
abbrev pub Doings : ℕ → Doing → State → Type 0
Doings p d s = d ≡ doing_of (about s p)

pub about_ready : (l : List ℕ) (p : ℕ) (d told : Doing) → OfState l (Lives p) → OfState l (Doings p d) → d ≡ told → OfState l (About p told)
unfolding OfState
about_ready l p d told lives is e s rest h = record { lives = lives s rest h; is = sym e ∙ is s rest h }

pub about_lives : (l : List ℕ) (p : ℕ) (d : Doing) → OfState l (About p d) → OfState l (Lives p)
unfolding OfState
about_lives l p d a s rest h = (a s rest h).lives

-- a refusal that `stepping` or `spawning` gives at once
module _ (entry : List ℕ) (p : ℕ) (d : Doing) (lives : OfState entry (Lives p)) (is : OfState entry (Doings p d)) where
  step_refused : (told : Doing) (r : Answer) → d ≡ told → value_of r ≡ 0 → ((s : State) (w : Work) → WorkFor told w → stepping s p (process_at s p) w ≡ refuse (number_of r)) → Does (step p) entry entry r
  unfolding OfState
  step_refused told r e v f = does_refused (step p) entry r v (λ s rest h.
      step_runs s h.sound p (lives s rest h) refl ∙ f s (about s p) (for_doing _ told (sym e ∙ is s rest h)))

  spawn_refused : (f : ℕ) (told : Doing) (r : Answer) → d ≡ told → value_of r ≡ 0 → ((s : State) (w : Work) → WorkFor told w → spawning s p (process_at s p) f w ≡ refuse (number_of r)) → Does (spawn_into p f) entry entry r
  unfolding OfState
  spawn_refused f told r e v g = does_refused (spawn_into p f) entry r v (λ s rest h.
      spawn_runs s h.sound p (lives s rest h) refl f ∙ g s (about s p) (for_doing _ told (sym e ∙ is s rest h)))

  pub step_finished : d ≡ Finished → Does (step p) entry entry (Err FinishedAnswer)
  unfolding WorkFor stepping number_of value_of
  step_finished e = step_refused Finished (Err FinishedAnswer) e refl (λ s w x. ap (stepping s p (process_at s p)) x)

  pub step_stuck : d ≡ Stuck → Does (step p) entry entry (Err StuckAnswer)
  unfolding WorkFor stepping number_of value_of
  step_stuck e = step_refused Stuck (Err StuckAnswer) e refl (λ s w x. ap (stepping s p (process_at s p)) x)

  pub step_at_spawn : d ≡ Spawn → Does (step p) entry entry (Err WrongCommand)
  unfolding WorkFor stepping number_of value_of
  step_at_spawn e = step_refused Spawn (Err WrongCommand) e refl (λ s w x. ap (stepping s p (process_at s p)) x.2)

  pub spawn_finished : (f : ℕ) → d ≡ Finished → Does (spawn_into p f) entry entry (Err FinishedAnswer)
  unfolding WorkFor spawning number_of value_of
  spawn_finished f e = spawn_refused f Finished (Err FinishedAnswer) e refl (λ s w x. ap (spawning s p (process_at s p) f) x)

  spawn_stuck : (f : ℕ) → d ≡ Stuck → Does (spawn_into p f) entry entry (Err WrongCommand)
  unfolding WorkFor spawning number_of value_of
  spawn_stuck f e = spawn_refused f Stuck (Err WrongCommand) e refl (λ s w x. ap (spawning s p (process_at s p) f) x)

  spawn_seq : (f : ℕ) → d ≡ Seq → Does (spawn_into p f) entry entry (Err WrongCommand)
  unfolding WorkFor spawning number_of value_of
  spawn_seq f e = spawn_refused f Seq (Err WrongCommand) e refl (λ s w x. ap (spawning s p (process_at s p) f) x.1)

  spawn_send : (f t : ℕ) → d ≡ Send t → Does (spawn_into p f) entry entry (Err WrongCommand)
  unfolding WorkFor spawning number_of value_of
  spawn_send f t e = spawn_refused f (Send t) (Err WrongCommand) e refl (λ s w x. ap (spawning s p (process_at s p) f) x.2)

  spawn_receive : (f : ℕ) → d ≡ Receive → Does (spawn_into p f) entry entry (Err WrongCommand)
  unfolding WorkFor spawning number_of value_of
  spawn_receive f e = spawn_refused f Receive (Err WrongCommand) e refl (λ s w x. ap (spawning s p (process_at s p) f) x.1)

  spawn_own : (f : ℕ) → d ≡ Own → Does (spawn_into p f) entry entry (Err WrongCommand)
  unfolding WorkFor spawning number_of value_of
  spawn_own f e = spawn_refused f Own (Err WrongCommand) e refl (λ s w x. ap (spawning s p (process_at s p) f) x.1)

  spawn_check : (f k : ℕ) → d ≡ Check k → Does (spawn_into p f) entry entry (Err WrongCommand)
  unfolding WorkFor spawning number_of value_of
  spawn_check f k e = spawn_refused f (Check k) (Err WrongCommand) e refl (λ s w x. ap (spawning s p (process_at s p) f) x.1)

  -- whatever else it is about to do
  pub spawn_elsewhere : (f : ℕ) → ¬ (d ≡ Finished) → ¬ (d ≡ Spawn) → Does (spawn_into p f) entry entry (Err WrongCommand)
  spawn_elsewhere f unfinished no_spawn = go d refl
    where
      go : (told : Doing) → d ≡ told → Does (spawn_into p f) entry entry (Err WrongCommand)
      go Finished e = absurd (unfinished e)
      go Spawn e = absurd (no_spawn e)
      go Stuck e = spawn_stuck f e
      go Seq e = spawn_seq f e
      go (Send t) e = spawn_send f t e
      go Receive e = spawn_receive f e
      go Own e = spawn_own f e
      go (Check k) e = spawn_check f k e

-- ---- the next control of each

module _ (entry old row : List ℕ) (p : ℕ) (next : Next) (sized : OfState entry (Sized old)) where
  -- what `make` asks for, where some control was written
  make_ready : (d : Doing) → IsImage entry → OfState entry (About p d) → (whole : List ℕ) × WroteNext whole old row next
      → IsImage entry × OfState entry (Lives p) × OfState entry (Sized row) × Within next (length row)
  unfolding OfState
  make_ready d i a (whole, w) = (i, about_lives entry p d a, λ s rest h. wrote_length whole old row next w ∙ sized s rest h, wrote_within whole old row next w)

  -- what is made of a next control that was written
  made_so : (s : State) (rest exit : List ℕ) (r : Answer) (what : Kind) (beside : Beside) (whole : List ℕ) → Holds entry s rest → WroteNext whole old row next → Made p what beside next row s rest exit r
      → Obeys (making s p (process_at s p) what whole beside) s rest exit r
  unfolding OfState Made
  made_so s rest exit r what beside whole h w m = m whole (wrote_drawn s.sizes.words whole old row next w (sized s rest h))

  module _ (about-seq : OfState entry (About p Seq)) (wrote : OfState entry (SeqRow p old row next)) where
    pub seq_ready : IsImage entry → IsImage entry × OfState entry (Lives p) × OfState entry (Sized row) × Within next (length row)
    unfolding WorkFor SeqRow
    seq_ready i =
        let x = for_doing _ Seq (at_image (About p Seq) i about-seq).is in
        make_ready Seq i about-seq (x.0, at_image (SeqRow p old row next) i wrote x.0 x.1)

    pub seq_does : (exit : List ℕ) (r : Answer) → MakesEntry p kind_seq 0 next row entry exit r → Does (step p) entry exit r
    unfolding WorkFor SeqRow Answers perform OfState MakesEntry stepping kind_number number_in as_rec
    seq_does exit r m s rest h =
        let a = about-seq s rest h in
        let x = for_doing _ Seq a.is in
        obeys_same _ _ s rest exit r (step_runs s h.sound p a.lives x.1) (made_so s rest exit r seq nothing x.0 h (wrote s rest h x.0 x.1) (m s rest seq h refl refl refl))

  module _ (t : ℕ) (b : Bool) (about-send : OfState entry (About p (Send t))) (pool : OfState entry (λ s. b ≡ in_pool s t)) where
    pub send_ready : IsImage entry → OfState entry (SendRow p old row next) → IsImage entry × OfState entry (Lives p) × OfState entry (Sized row) × Within next (length row)
    unfolding WorkFor SendRow
    send_ready i wrote =
        let x = for_doing _ (Send t) (at_image (About p (Send t)) i about-send).is in
        make_ready (Send t) i about-send (x.1, at_image (SendRow p old row next) i wrote t x.0 x.1 x.2)

    pub send_does : (exit : List ℕ) (r : Answer) → b ≡ true → OfState entry (SendRow p old row next) → MakesEntry p kind_send 0 next row entry exit r → Does (step p) entry exit r
    unfolding WorkFor SendRow Answers perform OfState MakesEntry stepping need kind_number number_in as_rec
    send_does exit r live wrote m s rest h =
        let a = about-send s rest h in
        let x = for_doing _ (Send t) a.is in
        obeys_same _ _ s rest exit r
        (step_runs s h.sound p a.lives x.2 ∙ ap (λ (y : Bool). need y 6 (making s p (process_at s p) (send t x.0) x.1 nothing)) (sym (pool s rest h) ∙ live))
        (made_so s rest exit r (send t x.0) nothing x.1 h (wrote s rest h t x.0 x.1 x.2) (m s rest (send t x.0) h refl refl refl))

  module _ (w : ℕ) (wrote : OfState entry (WordRow p w old row next)) where
    pub self_ready : IsImage entry → OfState entry (About p Own) → w ≡ word tag_pid 0 p → IsImage entry × OfState entry (Lives p) × OfState entry (Sized row) × Within next (length row)
    unfolding WorkFor
    self_ready i about-self e =
        let x = for_doing _ Own (at_image (About p Own) i about-self).is in
        make_ready Own i about-self (x.0 p, (at_image (WordRow p w old row next) i wrote).of_self x.0 p x.1 e)

    pub self_does : (exit : List ℕ) (r : Answer) → OfState entry (About p Own) → w ≡ word tag_pid 0 p → MakesEntry p kind_self 0 next row entry exit r → Does (step p) entry exit r
    unfolding WorkFor Answers perform OfState MakesEntry stepping kind_number number_in as_rec
    self_does exit r about-self e m s rest h =
        let a = about-self s rest h in
        let x = for_doing _ Own a.is in
        obeys_same _ _ s rest exit r (step_runs s h.sound p a.lives x.1) (made_so s rest exit r self nothing (x.0 p) h ((wrote s rest h).of_self x.0 p x.1 e) (m s rest self h refl refl refl))

    pub check_ready : (k : ℕ) → IsImage entry → OfState entry (About p (Check k)) → w ≡ word tag_atom 0 k → IsImage entry × OfState entry (Lives p) × OfState entry (Sized row) × Within next (length row)
    unfolding WorkFor
    check_ready k i about-check e =
        let x = for_doing _ (Check k) (at_image (About p (Check k)) i about-check).is in
        make_ready (Check k) i about-check (x.0, (at_image (WordRow p w old row next) i wrote).of_check k x.0 x.1 e)

    pub check_does : (k : ℕ) (exit : List ℕ) (r : Answer) → OfState entry (About p (Check k)) → w ≡ word tag_atom 0 k → MakesEntry p kind_check k next row entry exit r → Does (step p) entry exit r
    unfolding WorkFor Answers perform OfState MakesEntry stepping kind_number number_in as_rec
    check_does k exit r about-check e m s rest h =
        let a = about-check s rest h in
        let x = for_doing _ (Check k) a.is in
        obeys_same _ _ s rest exit r (step_runs s h.sound p a.lives x.1) (made_so s rest exit r (check k) nothing x.0 h ((wrote s rest h).of_check k x.0 x.1 e) (m s rest (check k) h refl refl refl))

-- a target that is not in the pool
pub send_stuck : (entry : List ℕ) (p t : ℕ) (b : Bool) → OfState entry (About p (Send t)) → OfState entry (λ s. b ≡ in_pool s t) → b ≡ false → Does (step p) entry entry (Err StuckAnswer)
unfolding WorkFor OfState stepping need number_of value_of
send_stuck entry p t b about-send pool gone = does_refused (step p) entry (Err StuckAnswer) refl (λ s rest h.
    let a = about-send s rest h in
    let x = for_doing _ (Send t) a.is in
    step_runs s h.sound p a.lives x.2 ∙ ap (λ (y : Bool). need y stuck_number (making s p (process_at s p) (send t x.0) x.1 nothing)) (sym (pool s rest h) ∙ gone))

-- the parts of a word fit their places
pub own_small : (l : List ℕ) (p : ℕ) (d : Doing) → IsImage l → OfState l (About p d) → p < 65536
own_small l p d i a =
    let below = place_is i.state i.sound p (at_image (About p d) i a).lives in
    let few = (sizes_of i.state i.sound).places_high in
    omega arith

pub check_small : (l : List ℕ) (p k : ℕ) → IsImage l → OfState l (About p (Check k)) → k < 65536
unfolding WorkFor about
check_small l p k i a =
    let b = at_image (About p (Check k)) i a in
    let x = for_doing _ (Check k) b.is in
    let few = ((laws_of i.state i.sound).check (control_good i.state i.sound p b.lives) x.1).1 in
    omega arith

-- ---- receive

module _ (entry old row : List ℕ) (p : ℕ) (r : Told) (about-receive : OfState entry (About p Receive)) (told : OfState entry (PickedRow p old row r)) where
  module _ (s : State) (rest : List ℕ) (h : Holds entry s rest) where
    taking : (takes : (List ℕ → Option (List ℕ))) × (about s p ≡ to_receive takes)
    unfolding WorkFor OfState
    taking = for_doing _ Receive (about-receive s rest h).is

    receive_runs : run (step p) s ≡ receiving s p (process_at s p) (pick taking.0 (s.queues p))
    unfolding stepping OfState
    receive_runs = step_runs s h.sound p (about-receive s rest h).lives taking.1

    pick_told : PickIs (pick taking.0 (s.queues p)) old row r
    unfolding PickedRow OfState
    pick_told = told s rest h taking.0 taking.1

  waits : (s : State) (rest : List ℕ) (o : Option Picked) → entry ≡ image s ++ rest → PickIs o old row r → r.next ≡ Err Nothing → Obeys (receiving s p (process_at s p) o) s rest entry (Err Waiting)
  unfolding PickIs receiving number_of value_of
  waits s rest none e k f = obeys_refused _ s rest entry (Err Waiting) e refl refl
  waits s rest (some (picked older m newer whole)) e k f = absurd (fitted_nothing (length whole) (length old) (sym f ∙ k.1.answer))

  pub receive_waits : r.next ≡ Err Nothing → Does (step p) entry entry (Err Waiting)
  unfolding Answers perform
  receive_waits f s rest h = obeys_same _ _ s rest entry (Err Waiting) (receive_runs s rest h) (waits s rest (pick (taking s rest h).0 (s.queues p)) h.words (pick_told s rest h) f)

  module _ (sized : OfState entry (Sized old)) where
    -- some message is taken
    too_large_lem : (s : State) (rest : List ℕ) (o : Option Picked) → Holds entry s rest → PickIs o old row r → r.next ≡ Err TooLarge → Obeys (receiving s p (process_at s p) o) s rest entry (Err LargeAnswer)
    unfolding PickIs receiving
    too_large_lem s rest none h k f = let z : ◌≡◌ {A = ℕ} 0 1 = cc in absurd (omega arith)
    too_large_lem s rest (some (picked older m newer whole)) h k f =
        made_so entry old row p (Err TooLarge) sized s rest entry (Err LargeAnswer) (rec older m newer) (own_queue (older ++ newer)) whole h (subst (WroteNext whole old row) f k.1)
        (made_large s p (rec older m newer) (own_queue (older ++ newer)) rest entry row h.words)

    pub receive_large : r.next ≡ Err TooLarge → Does (step p) entry entry (Err LargeAnswer)
    unfolding Answers perform
    receive_large f s rest h = obeys_same _ _ s rest entry (Err LargeAnswer) (receive_runs s rest h) (too_large_lem s rest (pick (taking s rest h).0 (s.queues p)) h (pick_told s rest h) f)

    takes_one : (s : State) (rest exit : List ℕ) (a : Answer) (n : ℕ) (takes : (List ℕ → Option (List ℕ))) (o : Option Picked) → pick takes (s.queues p) ≡ o → Holds entry s rest → PickIs o old row r → r.next ≡ Ok n
        → MakesRec p r.place n row entry exit a → Obeys (receiving s p (process_at s p) o) s rest exit a
    unfolding PickIs receiving MakesRec
    takes_one s rest exit a n takes none q h k f m = let z : ◌≡◌ {A = ℕ} 0 1 = cc in absurd (omega arith)
    takes_one s rest exit a n takes (some (picked older x newer whole)) q h k f m =
        made_so entry old row p (Ok n) sized s rest exit a (rec older x newer) (own_queue (older ++ newer)) whole h (subst (WroteNext whole old row) f k.1)
        (m s rest older x newer h (pick_is takes (s.queues p) q) k.0)

    pub receive_does : (n : ℕ) (exit : List ℕ) (a : Answer) → r.next ≡ Ok n → MakesRec p r.place n row entry exit a → Does (step p) entry exit a
    unfolding Answers perform
    receive_does n exit a f m s rest h =
        obeys_same _ _ s rest exit a (receive_runs s rest h) (takes_one s rest exit a n (taking s rest h).0 (pick (taking s rest h).0 (s.queues p)) refl h (pick_told s rest h) f m)

    -- what `make_rec` asks for
    can_take : (s : State) (n : ℕ) (takes : (List ℕ → Option (List ℕ))) (o : Option Picked) → pick takes (s.queues p) ≡ o → PickIs o old row r → r.next ≡ Ok n
        → (r.place < length (s.queues p)) × (length row ≡ length old) × (n ≤ length row)
    unfolding PickIs
    can_take s n takes none q k f = let z : ◌≡◌ {A = ℕ} 0 1 = cc in absurd (omega arith)
    can_take s n takes (some (picked older x newer whole)) q k f =
        let same = wrote_length whole old row r.next k.1 in
        let t = fitted_row n (length whole) (length old) (sym f ∙ k.1.answer) in
        (omega (arith, ap length (pick_is takes (s.queues p) q), length-append older (x ∷ newer), k.0), same, omega (arith, t.0, t.1))

    taken_at : (s : State) (rest : List ℕ) (n : ℕ) → Holds entry s rest → r.next ≡ Ok n → (r.place < length (s.queues p)) × (length row ≡ length old) × (n ≤ length row)
    taken_at s rest n h f = can_take s n (taking s rest h).0 (pick (taking s rest h).0 (s.queues p)) refl (pick_told s rest h) f

    pub receive_ready : (n : ℕ) → IsImage entry → r.next ≡ Ok n
        → IsImage entry × OfState entry (Lives p) × OfState entry (Sized row) × (n ≤ length row) × OfState entry (CanTake p r.place)
    unfolding OfState
    receive_ready n i f = (
      i,
      about_lives entry p Receive about-receive,
      λ s rest h. (taken_at s rest n h f).1 ∙ sized s rest h,
      (taken_at i.state i.rest n (record { sound = i.sound; words = i.words }) f).2,
      λ s rest h. (taken_at s rest n h f).0,
    )
