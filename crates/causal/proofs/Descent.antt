-- Ways down to the root: each sequence that ends there turns into a backward one, and all backward ones turn into each other.
use mathlib.Core.Path.{◌≡◌, refl, sym, ap, ◌∙◌}
use mathlib.Core.Bool.{Bool, true, false, not, true≢false}
use mathlib.Core.List.{List, [], ◌∷◌, append-nil}
use Prim.Native.Nat.{ℕ, zero, suc, ◌≤◌, ◌<◌}
use native.Mathlib.Omega.{arith}
use Rattle.causal.specs.Paths.{Run, more, exchange, Turns, unchanged, changed}
use Rattle.causal.specs.Directed.{Directed, stay, go}
use Rattle.causal.specs.Laws.{Laws}
use Rattle.causal.proofs.Runs.{directed_run, good_run}
use Rattle.causal.proofs.Changes.{turns_join, turns_later, turns_back}
use Rattle.causal.proofs.Parabola.{reverse_backward, parabolic}

module _ {State Command : Type 0} {Step : State → Command → State → Type 0} {reverse : State → Command → Command} {Independent : State → Command → Command → Type 0}
    {forward : Command → Bool} {measure : State → ℕ} {Good : State → Type 0} {root : State} (laws : Laws Step reverse Independent forward measure Good root) where
  -- No backward step leaves the root.
  root_is_lowest : {A : Type 0} {s a : State} {t : Command} → s ≡ root → Step s t a → forward t ≡ false → A
  root_is_lowest {a} {t} home p f = let q : Step root t a = rw home at p in absurd (true≢false (sym (laws.start q) ∙ f))

  -- No backward sequence leaves the root but the empty one.
  pub no_way_down : {s e : State} {ts : List Command} → s ≡ root → Directed Step forward false s ts e → (ts ≡ []) × (s ≡ e)
  no_way_down home stay = (refl, refl)
  no_way_down home (go p f r) = root_is_lowest home p f

  -- No forward sequence ends in the root but the empty one.
  no_way_up : {s e : State} {us : List Command} → Good s → e ≡ root → Directed Step forward true s us e → (us ≡ []) × (s ≡ root)
  no_way_up good home stay = (refl, home)
  no_way_up good home (go p f r) = root_is_lowest (no_way_up (laws.good_step good p) home r).1 (laws.reversible good p) (reverse_backward laws good p f)

  descend : {s : State} {ts : List Command} → Good s → Run Step s ts root
      → (down : List Command) × Directed Step forward false s down root × Turns Step reverse Independent s ts down
  descend {s} {ts} good r =
      let x = parabolic laws good r in
      let (empty, home) = no_way_up (good_run laws good (directed_run x.backward_part)) refl x.forward_part in
      let turns : Turns Step reverse Independent s ts x.down = rw (empty, append-nil) at x.turns in
      (x.down, rw home at x.backward_part, turns)

  shrinks : {s a : State} {t : Command} → Good s → Step s t a → forward t ≡ false → measure s ≡ suc (measure a)
  shrinks good p f = laws.grows (laws.good_step good p) (laws.reversible good p) (laws.opposite good p ∙ ap not f)

  -- The backward sequences from `s` to the root turn into each other.
  abbrev OneDescent : State → Type 0
  OneDescent s = (ts us : List Command) → Directed Step forward false s ts root → Directed Step forward false s us root → Turns Step reverse Independent s ts us

  -- They do, if those from the states below do. (`a` and `b` are variables, so that the two can be matched.)
  meet : {s a b : State} {ts us : List Command} → Good s → ((x : State) → Good x → measure x < measure s → OneDescent x) → a ≡ root → b ≡ root
      → Directed Step forward false s ts a → Directed Step forward false s us b → Turns Step reverse Independent s ts us
  meet good below home home' stay stay = unchanged
  meet good below home home' stay (go q g y) = root_is_lowest home q g
  meet good below home home' (go p f x) stay = root_is_lowest home' p f
  meet {s} good below home home' (go {a = a} {t = t} {ts = ts} p f x) (go {a = b} {t = u} {ts = us} q g y) =
      let less = shrinks good p f in
      let less' = shrinks good q g in
      let good-a = laws.good_step good p in
      let good-b = laws.good_step good q in
      let x_root : Directed Step forward false a ts root = rw home at x in
      let y_root : Directed Step forward false b us root = rw home' at y in
      elim (laws.equal? t u) [
        | yes same ↦
            let at_a : b ≡ a = laws.deterministic q (rw same at p) in
            rw (← same) (turns_later p (below a good-a (omega arith) _ _ x_root (rw at_a at y_root)))
        | no different ↦
            let independent = laws.backward_independent good p q f g different in
            let (d, q', p') = laws.square good p q different independent in
            let (down, z, _) = descend (laws.good_step good-a q') (more (laws.reversible good-a q') (directed_run x_root)) in
            let left : Turns Step reverse Independent a ts (u ∷ down) = below a good-a (omega arith) _ _ x_root (go q' g z) in
            let right : Turns Step reverse Independent b (t ∷ down) us = below b good-b (omega arith) _ _ (go p' f z) y_root in
            turns_join (turns_later p left) (changed (exchange p q different independent) (root, more q (more p' (directed_run z))) (turns_later q right))
      ]

  one_descent : (n : ℕ) {s : State} → Good s → measure s ≤ n → OneDescent s
  one_descent zero good bound ts us = meet good (λ x good-x less. absurd (omega arith)) refl refl
  one_descent (suc n) good bound ts us = meet good (λ x good-x less. one_descent n good-x (omega arith)) refl refl

  -- Two sequences from one state to the root turn into each other.
  pub to_root_alike : {s : State} {ts us : List Command} → Good s → Run Step s ts root → Run Step s us root → Turns Step reverse Independent s ts us
  to_root_alike {s} good p q =
      let (down, x, turns) = descend good p in
      let (down', x', turns') = descend good q in
      turns_join turns (turns_join (one_descent (measure s) good (omega arith) down down' x x') (turns_back laws q turns'))
