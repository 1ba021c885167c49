-- Changes and chains of changes: what they keep, and how they are turned round, put together and moved along a sequence.
use mathlib.Core.Path.{sym}
use mathlib.Core.Logic.Iff
use mathlib.Core.Logic.{◌↔◌}
use mathlib.Core.Bool.{Bool}
use mathlib.Core.List.{List, ◌∷◌, ◌++◌}
use Prim.Native.Nat.{ℕ}
use Rattle.causal.specs.Paths.{Run, done, more, Change, exchange, remove, insert, later, Turns, unchanged, changed}
use Rattle.causal.specs.Laws.{Laws}
use Rattle.causal.proofs.Runs.{run_tail}

module _ {State Command : Type 0} {Step : State → Command → State → Type 0} {reverse : State → Command → Command}
    {Independent : State → Command → Command → Type 0} where
  change_append : {s : State} {ts us : List Command} → Change Step reverse Independent s ts us → (vs : List Command)
      → Change Step reverse Independent s (ts ++ vs) (us ++ vs)
  change_append (exchange p q n i) vs = exchange p q n i
  change_append (remove p) vs = remove p
  change_append (insert p) vs = insert p
  change_append (later p c) vs = later p (change_append c vs)

  pub turns_join : {s : State} {ts us vs : List Command} → Turns Step reverse Independent s ts us → Turns Step reverse Independent s us vs
      → Turns Step reverse Independent s ts vs
  turns_join unchanged y = y
  turns_join (changed c a x) y = changed c a (turns_join x y)

  pub turns_later : {s a : State} {t : Command} {ts us : List Command} → Step s t a → Turns Step reverse Independent a ts us
      → Turns Step reverse Independent s (t ∷ ts) (t ∷ us)
  turns_later p unchanged = unchanged
  turns_later p (changed c (e, r) x) = changed (later p c) (e, more p r) (turns_later p x)

  pub turns_after : {s a : State} {ts us vs : List Command} → Run Step s ts a → Turns Step reverse Independent a us vs
      → Turns Step reverse Independent s (ts ++ us) (ts ++ vs)
  turns_after done x = x
  turns_after (more p r) x = turns_later p (turns_after r x)

module _ {State Command : Type 0} {Step : State → Command → State → Type 0} {reverse : State → Command → Command} {Independent : State → Command → Command → Type 0}
    {forward : Command → Bool} {measure : State → ℕ} {Good : State → Type 0} {root : State} (laws : Laws Step reverse Independent forward measure Good root) where
  with_loop : {s a e : State} {t : Command} {ts : List Command} → Good s → Step s t a → Run Step s ts e → Run Step s (t ∷ reverse s t ∷ ts) e
  with_loop good p r = more p (more (laws.reversible good p) r)

  without_loop : {s a e : State} {t : Command} {ts : List Command} → Good s → Step s t a → Run Step s (t ∷ reverse s t ∷ ts) e → Run Step s ts e
  without_loop good p r = run_tail laws (laws.reversible good p) (run_tail laws p r)

  pub change_keeps : {s : State} {ts us : List Command} → Good s → Change Step reverse Independent s ts us → (e : State) → Run Step s ts e ↔ Run Step s us e
  change_keeps good (exchange p q n i) e =
      let (d, q', p') = laws.square good p q n i in
      (λ r. more q (more p' (run_tail laws q' (run_tail laws p r))), λ r. more p (more q' (run_tail laws p' (run_tail laws q r))))
  change_keeps good (remove p) e = (without_loop good p, with_loop good p)
  change_keeps good (insert p) e = (with_loop good p, without_loop good p)
  change_keeps good (later p c) e =
      let i = change_keeps (laws.good_step good p) c e in
      (λ r. more p (i.0 (run_tail laws p r)), λ r. more p (i.1 (run_tail laws p r)))

  change_back : {s : State} {ts us : List Command} → Change Step reverse Independent s ts us → Change Step reverse Independent s us ts
  change_back (exchange p q n i) = exchange q p (λ e. n (sym e)) (laws.symmetric i)
  change_back (remove p) = insert p
  change_back (insert p) = remove p
  change_back (later p c) = later p (change_back c)

  pub turns_keeps : {s : State} {ts us : List Command} → Good s → Turns Step reverse Independent s ts us → (e : State) → Run Step s ts e ↔ Run Step s us e
  turns_keeps good unchanged e = Iff.rfl
  turns_keeps good (changed c a x) e = Iff.trans (change_keeps good c e) (turns_keeps good x e)

  pub turns_back : {s e : State} {ts us : List Command} → Run Step s ts e → Turns Step reverse Independent s ts us → Turns Step reverse Independent s us ts
  turns_back r unchanged = unchanged
  turns_back {e} r (changed c (m, q) x) = turns_join (turns_back {e = m} q x) (changed (change_back c) (e, r) unchanged)

  pub turns_append : {s e : State} {ts us : List Command} (vs : List Command) → Good s → Run Step s (ts ++ vs) e
      → Turns Step reverse Independent s ts us → Turns Step reverse Independent s (ts ++ vs) (us ++ vs)
  turns_append vs good r unchanged = unchanged
  turns_append {e} vs good r (changed c a x) =
      let d = change_append c vs in
      let q = (change_keeps good d e).0 r in
      changed d (e, q) (turns_append vs good q x)
