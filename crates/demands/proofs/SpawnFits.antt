-- A spawn is never answered 9.
use Prim.Native.Nat.{ℕ, ◌<◌, ◌≤◌}
use mathlib.Core.Path.{◌≡◌, refl}
use mathlib.Core.Logic.{◌≢◌, inl, inr}
use mathlib.Core.Bool.{not}
use mathlib.Core.Option.{Option, none, some}
use mathlib.Core.List.{List}
use native.Mathlib.Omega.{arith}
use lib.Dec.{ltb}
use lib.ListN.{length}
use Rattle.lists.proofs.Tests.{ltb-true}
use Rattle.machine.specs.Work.{Work, to_seq, to_send, to_receive, to_spawn, to_self, to_check, work}
use Rattle.machine.specs.Laws.{Good, WorkLaws}
use Rattle.machine.proofs.WorkLaws.{work_laws}
use Rattle.rules.specs.Answers.{too_large}
use Rattle.rules.specs.State.{Process, State, in_pool}
use Rattle.rules.specs.Commands.{spawn_into, refuse, spawning, at_process, run}
use Rattle.rules.specs.Sound.{Sound}
use Rattle.demands.specs.SpawnFits.{SpawnFits}
use Rattle.demands.proofs.SoundLoad.{sizes_say}
use Rattle.demands.proofs.Refusals.{refuse_same}
use Rattle.demands.proofs.Refusing.{need_past, made_not}

module _ {s : State} (sound : Sound s) where
  laws : WorkLaws s.module' s.sizes.places
  laws = let say = sizes_say s.sizes sound.sizes_pass in work_laws s.module' s.sizes.places sound.module_passes say.some_place (omega (arith, say.few_places))

  module _ {p : ℕ} (a : Process) (i : s.processes p ≡ some a) where
    good : Good s.module' s.sizes.places a.control
    unfolding Good
    good = (sound.controls p a i).good

    child_short : {child : List ℕ} {next : ℕ → List ℕ} → work s.module' a.control ≡ to_spawn child next → length child ≤ s.sizes.words
    child_short u = let c = laws.spawn good u in omega (arith, c.fits, (sound.controls p a i).fits)

    next_short : {child : List ℕ} {next : ℕ → List ℕ} (f : ℕ) → f < s.sizes.places → work s.module' a.control ≡ to_spawn child next → length (next f) ≤ s.sizes.words
    next_short f h u = let c = laws.spawn_next f h good u in omega (arith, c.fits, (sound.controls p a i).fits)

    not_nine : (f : ℕ) (o : Work) → work s.module' a.control ≡ o → spawning s p a f o ≢ refuse too_large
    unfolding spawning
    not_nine f Work.finished u e = let z = refuse_same e in omega arith
    not_nine f Work.stuck u e = let z = refuse_same e in omega arith
    not_nine f (to_seq next) u e = let z = refuse_same e in omega arith
    not_nine f (to_send target value next) u e = let z = refuse_same e in omega arith
    not_nine f (to_receive takes) u e = let z = refuse_same e in omega arith
    not_nine f (to_spawn child next) u e =
        let (below, e₁) = need_past (ltb f s.sizes.places) (inl (λ z. omega arith)) e in
        let (_, e₂) = need_past (not (in_pool s f)) (inl (λ z. omega arith)) e₁ in
        made_not s p a _ (next f) _ (inr (next_short f (ltb-true f s.sizes.places below) u)) (λ z. omega arith) e₂
    not_nine f (to_self next) u e = let z = refuse_same e in omega arith
    not_nine f (to_check number next) u e = let z = refuse_same e in omega arith

  never_nine : (p f : ℕ) → run (spawn_into p f) s ≢ refuse too_large
  unfolding run at_process
  never_nine p f e = go (s.processes p) refl e
    where
      go : (o : Option Process) → s.processes p ≡ o → at_process o (λ a. spawning s p a f (work s.module' a.control)) ≢ refuse too_large
      go none i e = let z = refuse_same e in omega arith
      go (some a) i e = not_nine a i f (work s.module' a.control) refl e

pub spawn_fits : SpawnFits
spawn_fits = record { never_too_large = λ s p f sound. never_nine sound p f; child_fits = λ s p a child next sound i u. child_short sound a i u }
