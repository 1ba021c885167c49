-- The end of every forward step: 9 where the next control is too large, 10 where the history is full, else an entry more.
use Prim.Native.Nat.{ℕ, ◌≤◌}
use mathlib.Core.Path.{◌≡◌, refl, sym, ◌∙◌, ap, subst}
use mathlib.Core.Logic.{inl, inr}
use mathlib.Core.Bool.{Bool, true, false}
use mathlib.Core.Option.{some}
use mathlib.Core.List.{List, ◌++◌}
use native.Mathlib.Omega.{arith}
use lib.Dec.{leb, ltb}
use lib.ListN.{length, take, length-take}
use lib.Seq.{sets-eq, length-sets, length-take-le, take-append_seam}
use Rattle.std.specs.Prelude.{Ok, Err}
use Rattle.lists.proofs.Tests.{leb-true, leb_of, ltb-true, true_or_false, cond_true, cond_false}
use Rattle.step.specs.Steps.{Next, fitted_of, WroteNext}
use Rattle.step.specs.declared.step.NoNext.TheVariants.{Nothing, TooLarge}
use Rattle.rules.specs.Answers.{too_large, history_full}
use Rattle.rules.specs.State.{Kind, rec, spawn, State, history_at}
use Rattle.rules.specs.Load.{new_process}
use Rattle.rules.specs.Commands.{Beside, nothing, own_queue, other, makes, turn, refuse, accept, need, apply, making}
use Rattle.store.specs.Layout.{image}
use Rattle.calls.specs.Numbers.{number_of, value_of}
use Rattle.calls.specs.declared.answers.Refusal.TheVariants.{TooLarge as LargeAnswer, HistoryFull}
use Rattle.reading.specs.Reads.{OfState, Lives}
use Rattle.calls.proofs.Answering.{obeys_refused, obeys_done}
use Rattle.writing.specs.Writes.{Leads}
use Rattle.entering.specs.Entering.{grown, Enters, Takes, Spawns, CanGrow}
use Rattle.making.specs.Making.{Sized, Within, Drawn, process_at, Made, MakesEntry, MakesRec, MakesSpawn}

-- ---- what is told of a next control's length

pub fitted_large : (m most : ℕ) → Err TooLarge ≡ fitted_of m most → leb m most ≡ false
unfolding fitted_of
fitted_large m most e = elim (true_or_false (leb m most)) [
  | inl t ↦ (let f = cond_true (Ok m) (Err TooLarge) t in let z : ◌≡◌ {A = ℕ} 0 1 = cc in absurd (omega arith))
  | inr t ↦ t
]

pub fitted_nothing : (m most : ℕ) → Err Nothing ≡ fitted_of m most → ⊥
unfolding fitted_of
fitted_nothing m most e = elim (true_or_false (leb m most)) [
  | inl t ↦ (let f = cond_true (Ok m) (Err TooLarge) t in let z : ◌≡◌ {A = ℕ} 0 1 = cc in omega arith)
  | inr t ↦ (let f = cond_false (Ok m) (Err TooLarge) t in let z : ◌≡◌ {A = ℕ} 0 1 = cc in omega arith)
]

-- no row: the next control is too large
abbrev pub NoLength : Next → Type 0
NoLength next = (n : ℕ) → ¬ (next ≡ Ok n)

pub fitted_else : (next : Next) (m most : ℕ) → NoLength next → next ≡ fitted_of m most → leb m most ≡ false
unfolding fitted_of
fitted_else next m most k e = elim (true_or_false (leb m most)) [
  | inl t ↦ absurd (k m (e ∙ cond_true (Ok m) (Err TooLarge) t))
  | inr t ↦ t
]

pub fitted_row : (n m most : ℕ) → Ok n ≡ fitted_of m most → (m ≡ n) × (m ≤ most)
unfolding fitted_of
fitted_row n m most e = elim (true_or_false (leb m most)) [
  | inl t ↦ (let f = cond_true (Ok m) (Err TooLarge) t in (cc, leb-true m most t))
  | inr t ↦ (let f = cond_false (Ok m) (Err TooLarge) t in let z : ◌≡◌ {A = ℕ} 0 1 = cc in absurd (omega arith))
]

-- ---- what was written

wrote_told : (most : ℕ) (whole old new : List ℕ) (r : Next) → WroteNext whole old new r → length old ≡ most → r ≡ fitted_of (length whole) most
wrote_told most whole old new r w e = w.answer ∙ ap (fitted_of (length whole)) e

pub wrote_drawn : (most : ℕ) (whole old new : List ℕ) (r : Next) → WroteNext whole old new r → length old ≡ most → Drawn most whole new r
wrote_drawn most whole old new r w e = record {
  told = wrote_told most whole old new r w e;
  stands = λ fits. ap (take (length whole)) (w.new_is ∙ sets-eq whole old 0 (omega arith)) ∙ take-append_seam whole _;
}

pub wrote_length : (whole old new : List ℕ) (r : Next) → WroteNext whole old new r → length new ≡ length old
wrote_length whole old new r w = ap length w.new_is ∙ length-sets old 0 whole

within_of : (m size : ℕ) (r : Next) → r ≡ fitted_of m size → Within r size
unfolding Within
within_of m size (Err why) e = tt
within_of m size (Ok n) e = let f = fitted_row n m size e in omega (arith, f.0, f.1)

pub wrote_within : (whole old new : List ℕ) (r : Next) → WroteNext whole old new r → Within r (length new)
wrote_within whole old new r w = within_of (length whole) (length new) r (w.answer ∙ ap (fitted_of (length whole)) (sym (wrote_length whole old new r w)))

-- ---- making

module _ (s : State) (p : ℕ) (what : Kind) (beside : Beside) (whole : List ℕ) where
  making_large : leb (length whole) s.sizes.words ≡ false → making s p (process_at s p) what whole beside ≡ refuse too_large
  unfolding making need
  making_large e = rw e refl

  making_full : leb (length whole) s.sizes.words ≡ true → ltb (length (history_at s p)) s.sizes.entries ≡ false → making s p (process_at s p) what whole beside ≡ refuse history_full
  unfolding making need
  making_full e f = rw (e, f) refl

  making_done : leb (length whole) s.sizes.words ≡ true → ltb (length (history_at s p)) s.sizes.entries ≡ true
      → making s p (process_at s p) what whole beside ≡ accept (makes p what) (turn p (grown s p what whole) beside)
  unfolding making need grown
  making_done e f = rw (e, f) refl

module _ (s : State) (p : ℕ) (what : Kind) (beside : Beside) (rest exit row : List ℕ) where
  pub made_else : (next : Next) → NoLength next → exit ≡ image s ++ rest → Made p what beside next row s rest exit (Err LargeAnswer)
  unfolding Made number_of value_of
  made_else next k e whole d =
      obeys_refused _ s rest exit (Err LargeAnswer) e refl (making_large s p what beside whole (fitted_else next (length whole) s.sizes.words k d.told))

  pub made_large : exit ≡ image s ++ rest → Made p what beside (Err TooLarge) row s rest exit (Err LargeAnswer)
  unfolding Made number_of value_of
  made_large e whole d = obeys_refused _ s rest exit (Err LargeAnswer) e refl (making_large s p what beside whole (fitted_large (length whole) s.sizes.words d.told))

  pub made_full : (n : ℕ) → exit ≡ image s ++ rest → ltb (length (history_at s p)) s.sizes.entries ≡ false → Made p what beside (Ok n) row s rest exit (Err HistoryFull)
  unfolding Made number_of value_of
  made_full n e f whole d =
      let fits = (fitted_row n (length whole) s.sizes.words d.told).1 in
      obeys_refused _ s rest exit (Err HistoryFull) e refl (making_full s p what beside whole (leb_of (length whole) s.sizes.words fits) f)

  pub made_done : (n : ℕ) → exit ≡ image (apply (turn p (grown s p what (take n row)) beside) s) ++ rest → ltb (length (history_at s p)) s.sizes.entries ≡ true
      → Made p what beside (Ok n) row s rest exit (Ok 0)
  unfolding Made
  made_done n e f whole d =
      let t = fitted_row n (length whole) s.sizes.words d.told in
      let same : take n row ≡ whole = ap (λ (x : ℕ). take x row) (sym t.0) ∙ d.stands t.1 in
      obeys_done _ (makes p what) (turn p (grown s p what whole) beside) s rest exit
      (e ∙ ap (λ (x : List ℕ). image (apply (turn p (grown s p what x) beside) s) ++ rest) same)
      (making_done s p what beside whole (leb_of (length whole) s.sizes.words t.1) f)

-- ---- what the code knows before it writes

abbrev pub Room : ℕ → Bool → State → Type 0
Room p b s = b ≡ ltb (length (history_at s p)) s.sizes.entries

pub grow_ready : (l row : List ℕ) (p n : ℕ) (b : Bool) → OfState l (Lives p) → OfState l (Sized row) → OfState l (Room p b) → b ≡ true → OfState l (CanGrow p (take n row))
unfolding OfState
grow_ready l row p n b lives sized room e s rest h = record {
  lives = lives s rest h;
  has_room = ltb-true (length (history_at s p)) s.sizes.entries (sym (room s rest h) ∙ e);
  next_fits = let z = sized s rest h in simp length-take (omega arith);
}

-- ---- entries

module _ (p kind number : ℕ) (row entry : List ℕ) where
  pub entry_else : (next : Next) → NoLength next → MakesEntry p kind number next row entry entry (Err LargeAnswer)
  unfolding MakesEntry
  entry_else next k s rest what h a b d = made_else s p what nothing rest entry row next k h.words

  pub entry_full : (next : Next) (n : ℕ) (b : Bool) → next ≡ Ok n → OfState entry (Room p b) → b ≡ false → MakesEntry p kind number next row entry entry (Err HistoryFull)
  unfolding MakesEntry OfState
  entry_full next n b e room f s rest what h a b' d =
      subst (λ (x : Next). Made p what nothing x row s rest entry (Err HistoryFull)) (sym e) (made_full s p what nothing rest entry row n h.words (sym (room s rest h) ∙ f))

  pub entry_done : (next : Next) (n : ℕ) (b : Bool) (exit : List ℕ) → next ≡ Ok n → OfState entry (Room p b) → b ≡ true → Leads entry exit (Enters p kind number (take n row))
      → MakesEntry p kind number next row entry exit (Ok 0)
  unfolding MakesEntry OfState Leads
  entry_done next n b exit e room f leads s rest what h a b' d =
      subst (λ (x : Next). Made p what nothing x row s rest exit (Ok 0)) (sym e)
      (made_done s p what nothing rest exit row n
      (leads s (apply (turn p (grown s p what (take n row)) nothing) s) rest h (record { what = what; of_kind = a; of_number = b'; no_queue = d; after = refl }))
      (sym (room s rest h) ∙ f))

module _ (p place n : ℕ) (row entry : List ℕ) where
  pub rec_full : (b : Bool) → OfState entry (Room p b) → b ≡ false → MakesRec p place n row entry entry (Err HistoryFull)
  unfolding MakesRec OfState
  rec_full b room f s rest older m newer h q at = made_full s p (rec older m newer) (own_queue (older ++ newer)) rest entry row n h.words (sym (room s rest h) ∙ f)

  pub rec_done : (b : Bool) (exit : List ℕ) → OfState entry (Room p b) → b ≡ true → Leads entry exit (Takes p place (take n row)) → MakesRec p place n row entry exit (Ok 0)
  unfolding MakesRec OfState Leads
  rec_done b exit room f leads s rest older m newer h q at =
      made_done s p (rec older m newer) (own_queue (older ++ newer)) rest exit row n
      (leads s (apply (turn p (grown s p (rec older m newer) (take n row)) (own_queue (older ++ newer))) s) rest h (record { older = older; message = m; newer = newer; queue = q; at = at; after = refl }))
      (sym (room s rest h) ∙ f)

module _ (p f : ℕ) (row first entry : List ℕ) where
  pub spawn_else : (next : Next) → NoLength next → MakesSpawn p f next row first entry entry (Err LargeAnswer)
  unfolding MakesSpawn
  spawn_else next k s rest h = made_else s p (spawn f) (other f (some (new_process first))) rest entry row next k h.words

  pub spawn_full : (next : Next) (n : ℕ) (b : Bool) → next ≡ Ok n → OfState entry (Room p b) → b ≡ false → MakesSpawn p f next row first entry entry (Err HistoryFull)
  unfolding MakesSpawn OfState
  spawn_full next n b e room g s rest h =
      subst (λ (x : Next). Made p (spawn f) (other f (some (new_process first))) x row s rest entry (Err HistoryFull)) (sym e)
      (made_full s p (spawn f) (other f (some (new_process first))) rest entry row n h.words (sym (room s rest h) ∙ g))

  pub spawn_done : (next : Next) (n : ℕ) (b : Bool) (exit : List ℕ) → next ≡ Ok n → OfState entry (Room p b) → b ≡ true → Leads entry exit (Spawns p f (take n row) first)
      → MakesSpawn p f next row first entry exit (Ok 0)
  unfolding MakesSpawn OfState Leads Spawns
  spawn_done next n b exit e room g leads s rest h =
      subst (λ (x : Next). Made p (spawn f) (other f (some (new_process first))) x row s rest exit (Ok 0)) (sym e)
      (made_done s p (spawn f) (other f (some (new_process first))) rest exit row n
      (leads s (apply (turn p (grown s p (spawn f) (take n row)) (other f (some (new_process first)))) s) rest h refl)
      (sym (room s rest h) ∙ g))

-- a told length is that of the part which is lent
pub within_row : (next : Next) (n size : ℕ) → Within next size → next ≡ Ok n → n ≤ size
unfolding Within
within_row next n size w e = subst (λ (x : Next). Within x size) e w

pub part_length : (next : Next) (n : ℕ) (row : List ℕ) → Within next (length row) → next ≡ Ok n → n ≡ length (take n row)
part_length next n row w e = sym (length-take-le n row (within_row next n (length row) w e))
