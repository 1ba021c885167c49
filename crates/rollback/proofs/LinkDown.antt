-- Undoing in a store: each turn leaves the image of a state with one event less, and where it ends that is the rollback's.
use Prim.Native.Nat.{ℕ, suc, ◌-◌, ◌/◌, ◌%◌, ◌<◌}
use mathlib.Core.Path.{◌≡◌, refl, sym, ◌∙◌, ap, subst, subst₂, fun_ext}
use mathlib.Core.Bool.{Bool, true, false}
use mathlib.Core.Option.{Option, none, some}
use mathlib.Core.List.{List, [], ◌∷◌, ◌++◌}
use native.Mathlib.Omega.{arith}
use native.Mathlib.Decide.{dec_lt}
use lib.Dec.{eqb, ltb}
use lib.ListN.{length, get_or, set}
use Rattle.std.specs.Prelude.{Some, None, Ok, Err}
use Rattle.lists.specs.Lists.{but_last}
use Rattle.lists.proofs.Tests.{none_not_some, some_injective, eqb-true, eqb-false}
use Rattle.rules.specs.Answers.{held}
use Rattle.rules.specs.State.{Message, Process, State}
use Rattle.rules.specs.Flight.{left}
use Rattle.rules.specs.Sound.{Sound}
use Rattle.rules.specs.Commands.{undeliver, undelivers, post, accept, need, at_process, undelivering, after_plan, apply, run, run_state}
use Rattle.rules.specs.Depends.{Series, entries_of, deliveries_to, level, happened, event}
use Rattle.rules.specs.Rollback.{cut_to, cut_before, undo_of, RolledBack, rolled, undo_to, rolled_state}
use Rattle.demands.proofs.Event.{line?, Down}
use Rattle.demands.proofs.Removal.{undone_of, lower, back_under, sound_back}
use Rattle.demands.proofs.Cut.{cut_at, cut_off}
use Rattle.demands.proofs.SearchNumbers.{Can, can_accepted}
use Rattle.demands.proofs.SearchLoop.{Writing, write_start, write_take, write_on, write_done}
use Rattle.store.specs.Layout.{image}
use Rattle.store.specs.Image.{IsImage}
use Rattle.store.proofs.Laws.{image_laws}
use Rattle.calls.specs.declared.answers.Refusal.TheVariants.{Held}
use Rattle.reading.specs.Reads.{Holds, OfState}
use Rattle.writing.specs.Writes.{Leads, Undoes, Unposts, CanUndo, CanTake}
use Rattle.cuts.specs.Bounds.{line_count}
use Rattle.cuts.specs.declared.link.Link.{Link}
use Rattle.cuts.specs.Links.{line_number, cut_in}
use Rattle.cuts.specs.Going.{Free, FindsFree, Ready, Foretells, foretells_done, foretells_held, Seeks}
use Rattle.rollback.specs.Undone.{Reaches, Tells, tells_done, tells_held, CanUndoLine, UndoesLine, OfWords, Leaves, TakesBack}
use Rattle.cuts.proofs.Lines.{line_of, same_line, cut_set}
use Rattle.cuts.proofs.LinkSearch.{levels_same, free_top, free_over, free_line, none_free}

-- ---- one line
pub even_line : (y : Series) (x : ℕ) → line_number y ≡ x → x % 2 ≡ 0 → y ≡ entries_of (x / 2)
even_line (entries_of p) x e h = ap entries_of (omega (arith, e, h))
even_line (deliveries_to q) x e h = absurd (omega (arith, e, h))

pub odd_line : (y : Series) (x : ℕ) → line_number y ≡ x → ¬ (x % 2 ≡ 0) → y ≡ deliveries_to (x / 2)
odd_line (entries_of p) x e h = absurd (h (omega (arith, e)))
odd_line (deliveries_to q) x e h = ap deliveries_to (omega (arith, e))

even_number : (x : ℕ) → x % 2 ≡ 0 → line_number (entries_of (x / 2)) ≡ x
even_number x h = omega (arith, h)

odd_number : (x : ℕ) → ¬ (x % 2 ≡ 0) → line_number (deliveries_to (x / 2)) ≡ x
odd_number x h = omega (arith, h)

module _ (s : State) (q : ℕ) {s' : State} where
  longer_test : (b : Bool) (m : Message) (l : List Message) → after_plan (need b held (accept (undelivers q) (post q (but_last (m ∷ l))))) s ≡ some s' → s' ≡ apply (post q (but_last (m ∷ l))) s
  unfolding after_plan need
  longer_test true m l e = sym (some_injective e)
  longer_test false m l e = none_not_some e

  undelivered_by : (o : Option Process) (l : List Message) → after_plan (at_process o (λ process. undelivering s q process l)) s ≡ some s' → (0 < length l) × (s' ≡ apply (post q (but_last l)) s)
  unfolding after_plan at_process undelivering
  undelivered_by none l e = none_not_some e
  undelivered_by (some process) [] e = none_not_some e
  undelivered_by (some process) (m ∷ l) e = (omega arith, longer_test (ltb (length (left process.history)) (length (m ∷ l))) m l e)

  undelivered : run_state (undeliver q) s ≡ some s' → (0 < length (s.queues q)) × (s' ≡ apply (post q (but_last (s.queues q))) s)
  unfolding run_state run
  undelivered e = undelivered_by (s.processes q) (s.queues q) e

-- the line of a number: by whether it is even, and by its half
module _ (x : ℕ) (even : Bool) (test : even ≡ eqb (x % 2) 0) where
  is_even : even ≡ true → x % 2 ≡ 0
  is_even t = eqb-true (x % 2) 0 (sym test ∙ t)

  is_odd : even ≡ false → ¬ (x % 2 ≡ 0)
  is_odd f = eqb-false (x % 2) 0 (sym test ∙ f)

  module _ (store : List ℕ) (can : OfState store (CanUndoLine x)) (p : ℕ) (half : p ≡ x / 2) where
    pub even_can : even ≡ true → OfState store (CanUndo p)
    unfolding OfState undo_of
    even_can t s rest holds =
        let c = can s rest holds in
        record { after = c.after; accepted = subst (λ y. run_state (undo_of y) s ≡ some c.after) (even_line c.line x c.numbered (is_even t) ∙ ap entries_of (sym half)) c.accepted }

    pub odd_can : even ≡ false → OfState store (CanTake p 0)
    unfolding OfState undo_of
    odd_can f s rest holds =
        let c = can s rest holds in
        (undelivered s p (subst (λ y. run_state (undo_of y) s ≡ some c.after) (odd_line c.line x c.numbered (is_odd f) ∙ ap deliveries_to (sym half)) c.accepted)).0

  module _ (store exit : List ℕ) (p : ℕ) (half : p ≡ x / 2) where
    pub even_leads : even ≡ true → Leads store exit (Undoes p) → Leads store exit (UndoesLine x)
    unfolding Leads Undoes UndoesLine undo_of
    even_leads t leads s s' rest holds f = leads s s' rest holds (f (entries_of p) (ap (λ q. line_number (entries_of q)) half ∙ even_number x (is_even t)))

    pub odd_leads : even ≡ false → Leads store exit (Unposts p) → Leads store exit (UndoesLine x)
    unfolding Leads Unposts UndoesLine undo_of
    odd_leads g leads s s' rest holds f = leads s s' rest holds (undelivered s p (f (deliveries_to p) (ap (λ q. line_number (deliveries_to q)) half ∙ odd_number x (is_odd g)))).1

-- ---- where the loop stands
pub record Standing {s : State} (sound : Sound s) (x : Series) (i : ℕ) (happens : happened s (event x i) ≡ true) (rest store lv : List ℕ) : Type 0 where
  pub state : State
  pub done : ℕ
  pub writing : Writing sound x i happens state done
  pub words : store ≡ image state ++ rest
  pub levels : level state ≡ cut_in lv

unfoldable pub Undoing : (before : List ℕ) (links : List Link) (cut levels store lv : List ℕ) → Type 0
Undoing before links cut levels store lv =
    (s : State) (rest : List ℕ) (holds : Holds before s rest) (r : Ready s links cut levels) → Standing holds.sound r.line r.index r.happens rest store lv

-- the undo of a line lowers its level by one
level_down : {s m : State} (y : Series) {c : ℕ} → Sound s → run_state (undo_of y) s ≡ some m → level s y ≡ suc c → level m ≡ cut_to y c (level s)
level_down {s} {m} y {c} sound e top =
    let u = undone_of y sound e in
    let d : Down s m y = subst₂ (λ z t. Down s t z) u.on u.gives (lower sound u.does u.undoes_it) in
    fun_ext λ z. elim (line? y z) [
      | yes i ↦ subst (λ w. level m w ≡ cut_to y c (level s) w) i (omega (arith, d.at, top, cut_at y c (level s)))
      | no n ↦ d.off z n ∙ sym (cut_off y z c (level s) n)
    ]

module _ (before : List ℕ) (links : List Link) (cut levels : List ℕ) where
  pub undoing_start : Undoing before links cut levels before levels
  unfolding Undoing
  undoing_start s rest holds r = record { state = s; done = 0; writing = write_start holds.sound r.line r.index r.happens; words = holds.words; levels = sym (levels_same holds.sound r) }

  module _ (store lv : List ℕ) (undoing : Undoing before links cut levels store lv) (is_image : IsImage before) (ready : OfState before (λ s. Ready s links cut levels)) where
    holds_one : Holds before is_image.state is_image.rest
    holds_one = record { sound = is_image.sound; words = is_image.words }

    ready_one : Ready is_image.state links cut levels
    unfolding OfState
    ready_one = ready is_image.state is_image.rest holds_one

    standing_one : Standing holds_one.sound ready_one.line ready_one.index ready_one.happens is_image.rest store lv
    unfolding Undoing
    standing_one = undoing is_image.state is_image.rest holds_one ready_one

    pub undoing_image : IsImage store
    undoing_image = record { state = standing_one.state; rest = is_image.rest; sound = sound_back holds_one.sound standing_one.writing.run; words = standing_one.words }

    module _ (x : ℕ) (f : Free links cut lv x) where
      accepted : {s : State} (sound : Sound s) (r : Ready s links cut levels) {rest : List ℕ} (st : Standing sound r.line r.index r.happens rest store lv) (y : Series) → line_number y ≡ x
          → (m : State) × (run_state (undo_of y) st.state ≡ some m)
      accepted {s} sound r st y e =
          let back-run = st.writing.run in
          (can_accepted y sound back-run).0 (subst (λ k. Can s k y) (sym st.levels) (free_line f y e r.linked (sound_back sound back-run) (back_under sound back-run) st.levels))

      can_undo : OfState store (CanUndoLine x)
      unfolding OfState
      can_undo s' rest' holds' =
          let (y, e) = line_of x in
          let (m, a) = accepted holds_one.sound ready_one standing_one y e in
          let one = image_laws.one_state standing_one.state s' is_image.rest rest' (sound_back holds_one.sound standing_one.writing.run) holds'.sound (sym standing_one.words ∙ holds'.words) in
          subst (CanUndoLine x) one.0 (record { line = y; numbered = e; after = m; accepted = a })

      pub undoing_on : (exit : List ℕ) → length lv ≡ line_count → Leads store exit (UndoesLine x) → Undoing before links cut levels exit (set lv x (get_or lv x 0 - 1))
      unfolding Undoing Leads UndoesLine
      undoing_on exit long leads s rest holds r =
          let st = undoing s rest holds r in
          let (y, e) = line_of x in
          let sound = holds.sound in
          let st-sound = sound_back sound st.writing.run in
          let (m, a) = accepted sound r st y e in
          let at : (z : Series) → level st.state z ≡ cut_in lv z = λ z. ap (λ k. k z) st.levels in
          record {
            state = m;
            done = suc st.done;
            writing = write_take sound r.line r.index r.happens y st.writing (omega (arith, free_over f y e, at y, ap (λ k. k y) r.cut_is)) a;
            words = leads st.state m rest (record { sound = st-sound; words = st.words }) (λ z i. subst (λ w. run_state (undo_of w) st.state ≡ some m) (same_line y z (e ∙ sym i)) a);
            levels = level_down y st-sound a (at y ∙ free_top f y e) ∙ ap (cut_to y (get_or lv x 0 - 1)) st.levels ∙ sym (cut_set lv y (get_or lv x 0 - 1) (sym e) (omega (arith, f.line, long)));
          }

    pub undoing_can : (x : ℕ) → FindsFree links cut lv (Some x) → IsImage store × OfState store (CanUndoLine x)
    undoing_can x f = (undoing_image, can_undo x f)

    pub undoing_next : (x : ℕ) (exit : List ℕ) → FindsFree links cut lv (Some x) → length lv ≡ line_count → Leads store exit (UndoesLine x) → Undoing before links cut levels exit (set lv x (get_or lv x 0 - 1))
    undoing_next x exit f long leads = undoing_on x f exit long leads

    -- no line above the cut can be undone: the cut is reached
    pub undoing_done : length lv ≡ line_count → FindsFree links cut lv None → OfState before (λ s. Reaches s (cut_in cut)) → OfWords before (λ s rest. Leaves s (cut_in cut) rest store)
    unfolding OfWords OfState Undoing rolled_state
    undoing_done long nowhere reaches s rest holds =
        let r = ready s rest holds in
        let st = undoing s rest holds r in
        let sound = holds.sound in
        let known = reaches s rest holds in
        let known_at : undo_to s (cut_before s (event r.line r.index)) ≡ rolled known.count known.end = ap (undo_to s) (sym r.cut_is) ∙ known.known in
        let at : (z : Series) → level st.state z ≡ cut_in lv z = λ z. ap (λ k. k z) st.levels in
        let cut_at_line : (z : Series) → cut_in cut z ≡ cut_before s (event r.line r.index) z = λ z. ap (λ k. k z) r.cut_is in
        let there : (y : Series) → level st.state y ≡ cut_before s (event r.line r.index) y = λ y. elim (dec_lt (cut_before s (event r.line r.index) y) (level st.state y)) [
          | no h ↦ omega (arith, h, st.writing.above y)
          | yes h ↦ absurd (
              let (z, m, above, a) = write_on sound r.line r.index r.happens known_at y st.writing h in
              none_free cut lv r.linked long nowhere z (omega (arith, above, at z, cut_at_line z)) (subst (λ k. Can s k z) st.levels ((can_accepted z sound st.writing.run).1 (m, a))))
        ] in
        let same : st.state ≡ known.end = (write_done sound r.line r.index r.happens known_at st.writing there).0 in
        record { leaves = st.words ∙ ap (λ z. image z ++ rest) (same ∙ sym (ap (rolled_state s) known.known)) }

pub ready_long : (store : List ℕ) (links : List Link) (cut levels : List ℕ) → IsImage store → OfState store (λ s. Ready s links cut levels) → length levels ≡ line_count
unfolding OfState
ready_long store links cut levels is_image ready = (ready is_image.state is_image.rest (record { sound = is_image.sound; words = is_image.words })).levels_are.long

-- ---- the answer
module _ (before : List ℕ) (links : List Link) (cut levels : List ℕ) (ready : OfState before (λ s. Ready s links cut levels)) where
  reaches_of : {back : RolledBack} {n : ℕ} → Foretells back (Some n) → (end : State) × (back ≡ rolled n end)
  reaches_of (foretells_done n end) = (end, refl)

  held_of : {back : RolledBack} → Foretells back None → Tells back (Err Held) × ((s : State) → rolled_state s back ≡ s)
  unfolding rolled_state
  held_of foretells_held = (tells_held, λ s. refl)

  done_of : {back : RolledBack} {n : ℕ} → Foretells back (Some n) → Tells back (Ok n)
  done_of (foretells_done n end) = tells_done n end

  pub seek_reaches : (n : ℕ) → Seeks links cut levels (Some n) → OfState before (λ s. Reaches s (cut_in cut))
  unfolding Seeks OfState
  seek_reaches n seeks s rest holds = let (end, e) = reaches_of (seeks s holds.sound (ready s rest holds)) in record { count = n; end = end; known = e }

  pub seek_holds : Seeks links cut levels None → OfWords before (λ s rest. TakesBack s rest before (undo_to s (cut_in cut)) (Err Held))
  unfolding Seeks OfState OfWords
  seek_holds seeks s rest holds =
      let (tells, same) = held_of (seeks s holds.sound (ready s rest holds)) in
      record { tells = tells; leaves = holds.words ∙ ap (λ z. image z ++ rest) (sym (same s)) }

  pub seek_leaves : (exit : List ℕ) (n : ℕ) → Seeks links cut levels (Some n) → OfWords before (λ s rest. Leaves s (cut_in cut) rest exit)
      → OfWords before (λ s rest. TakesBack s rest exit (undo_to s (cut_in cut)) (Ok n))
  unfolding Seeks OfState OfWords
  seek_leaves exit n seeks leaves s rest holds = record { tells = done_of (seeks s holds.sound (ready s rest holds)); leaves = (leaves s rest holds).leaves }
