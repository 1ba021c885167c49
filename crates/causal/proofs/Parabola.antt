-- The parabolic lemma: each sequence turns into a backward one followed by a forward one, not longer.
use mathlib.Core.Path.{◌≡◌, refl, sym, ap, ◌∙◌}
use mathlib.Core.Bool.{Bool, true, false, not, true≢false}
use mathlib.Core.Logic.{◌≢◌}
use mathlib.Core.List.{List, [], ◌∷◌, ◌++◌, append_assoc, append-nil}
use Prim.Native.Nat.{ℕ}
use native.Mathlib.Omega.{arith}
use lib.ListN.{length-append}
use Rattle.causal.specs.Paths.{Run, done, more, exchange, remove, Turns, unchanged, changed}
use Rattle.causal.specs.Directed.{Directed, stay, go}
use Rattle.causal.specs.Laws.{Laws}
use Rattle.causal.specs.Causal.{Parabola}
use Rattle.causal.proofs.Runs.{run_append, directed_run, directed_append}
use Rattle.causal.proofs.Changes.{turns_join, turns_later, turns_append}

module _ {State Command : Type 0} {Step : State → Command → State → Type 0} {reverse : State → Command → Command} {Independent : State → Command → Command → Type 0}
    {forward : Command → Bool} {measure : State → ℕ} {Good : State → Type 0} {root : State} (laws : Laws Step reverse Independent forward measure Good root) where
  pub reverse_backward : {s a : State} {t : Command} → Good s → Step s t a → forward t ≡ true → forward (reverse s t) ≡ false
  reverse_backward good p f = laws.opposite good p ∙ ap not f

  -- A backward step that is not the reverse of the forward step before it may go first.
  overtake : {s a d : State} {t u : Command} → Good s → Step s t a → forward t ≡ true → Step a u d → forward u ≡ false → u ≢ reverse s t
      → (b : State) × Step s u b × Step b t d × (t ≢ u) × Independent s t u
  overtake {s} {a} {d} {t} {u} good p f q g other =
      let undo = laws.reversible good p in
      let other' : reverse s t ≢ u = λ x. other (sym x) in
      let apart = laws.backward_independent (laws.good_step good p) undo q (reverse_backward good p f) g other' in
      let (b, first, _) = laws.square (laws.good_step good p) undo q other' apart in
      let different : t ≢ u = λ x. true≢false (sym f ∙ ap forward x ∙ g) in
      let independent = laws.corner good p first q f g apart in
      let (d', q', second) = laws.square good p first different independent in
      let end : d' ≡ d = laws.deterministic {a = d'} q' q in
      (b, first, rw end at second, different, independent)

  -- A forward step moves behind a backward sequence, or meets its own reverse there and goes with it.
  push : {s a e : State} {t : Command} {us : List Command} → Good s → Step s t a → forward t ≡ true → Directed Step forward false a us e
      → Parabola Step reverse Independent forward s (t ∷ us) e
  push {s} {t} good p f stay = record {
    down = [];
    up = t ∷ [];
    lowest = s;
    backward_part = stay;
    forward_part = go p f stay;
    turns = unchanged;
    not_longer = omega arith;
  }
  push {s} {a} {e} {t} good p f (go {a = d} {t = u} {ts = us} q g r) = elim (laws.equal? u (reverse s t)) [
    | yes same ↦
        let home : d ≡ s = laws.deterministic (rw same at q) (laws.reversible good p) in
        let rest : Directed Step forward false s us e = rw home at r in
        let removed = changed (remove p) (e, directed_run rest) unchanged in
        let turns : Turns Step reverse Independent s (t ∷ u ∷ us) (us ++ []) = rw (same, append-nil) removed in
        record { down = us; up = []; lowest = e; backward_part = rest; forward_part = stay; turns = turns; not_longer = omega arith }
    | no other ↦
        let (b, first, second, different, independent) = overtake good p f q g other in
        let rest = push {s = b} (laws.good_step good first) second f r in
        record {
          down = u ∷ rest.down;
          up = rest.up;
          lowest = rest.lowest;
          backward_part = go first g rest.backward_part;
          forward_part = rest.forward_part;
          turns = changed (exchange p first different independent) (e, more first (more second (directed_run r))) (turns_later first rest.turns);
          not_longer = omega arith;
        }
  ]

  parabola_more : {s a e : State} {t : Command} {ts : List Command} → Good s → Step s t a → (way : Bool) → forward t ≡ way
      → Parabola Step reverse Independent forward a ts e → Parabola Step reverse Independent forward s (t ∷ ts) e
  parabola_more {t} good p false f rest = record {
    down = t ∷ rest.down;
    up = rest.up;
    lowest = rest.lowest;
    backward_part = go p f rest.backward_part;
    forward_part = rest.forward_part;
    turns = turns_later p rest.turns;
    not_longer = omega arith;
  }
  parabola_more {s} {e} {t} {ts} good p true f rest =
      let x = push good p f rest.backward_part in
      let accepted : Run Step s (t ∷ (rest.down ++ rest.up)) e = more p (run_append (directed_run rest.backward_part) (directed_run rest.forward_part)) in
      let joined = turns_join (turns_later p rest.turns) (turns_append laws rest.up good accepted x.turns) in
      let turns : Turns Step reverse Independent s (t ∷ ts) (x.down ++ (x.up ++ rest.up)) = rw (← append_assoc) joined in
      record {
        down = x.down;
        up = x.up ++ rest.up;
        lowest = x.lowest;
        backward_part = x.backward_part;
        forward_part = directed_append x.forward_part rest.forward_part;
        turns = turns;
        not_longer = simp length-append (omega arith);
      }

  pub parabolic : {s e : State} {ts : List Command} → Good s → Run Step s ts e → Parabola Step reverse Independent forward s ts e
  parabolic {s} good done = record {
    down = [];
    up = [];
    lowest = s;
    backward_part = stay;
    forward_part = stay;
    turns = unchanged;
    not_longer = omega arith;
  }
  parabolic good (more {t} p r) = parabola_more good p (forward t) refl (parabolic (laws.good_step good p) r)
