-- A store after a load and any calls is met by a load and forward calls alone.
use Prim.Native.Nat.{ℕ}
use mathlib.Core.Path.{◌≡◌, refl, sym, ◌∙◌, ap, subst}
use mathlib.Core.Bool.{true}
use mathlib.Core.List.{List, ◌++◌}
use native.Mathlib.Omega.{arith}
use lib.Dec.{leb}
use lib.ListN.{length, drop, length-append}
use lib.Seq.{drop_at}
use Rattle.lists.proofs.Tests.{leb_of}
use Rattle.causal.specs.Paths.{Run, done as run_done, more}
use Rattle.causal.specs.Exec.{Step}
use Rattle.causal.proofs.Exec.{of_run, to_run}
use Rattle.rules.specs.Answers.{done}
use Rattle.rules.specs.State.{State}
use Rattle.rules.specs.Load.{loads, load, loaded}
use Rattle.rules.specs.Commands.{Command, run_state}
use Rattle.rules.specs.Sound.{Sound}
use Rattle.rules.specs.Line.{single}
use Rattle.rules.specs.Reverse.{amount_done}
use Rattle.rules.specs.Replies.{perform}
use Rattle.demands.specs.ForwardAlone.{ForwardAlone}
use Rattle.demands.proofs.SoundLoad.{loads_of}
use Rattle.demands.proofs.Consequences.{consequences}
use Rattle.demands.proofs.Forward.{forward_demands}
use Rattle.store.specs.Layout.{needed, image}
use Rattle.store.specs.Loading.{Outcome, after_load, load_into}
use Rattle.store.proofs.Laws.{image_laws}
use Rattle.calls.specs.Calls.{outcome, stored, LoadCall}
use Rattle.calls.specs.Promises.{ReachedStore}
use Rattle.calls.specs.WordsAgree.{Accepted, no_call, call}
use Rattle.calls.specs.ForwardMeets.{ForwardCalls, ForwardMeets}
use Rattle.calls.proofs.Determined.{possible}
use Rattle.calls.proofs.Accepted.{accepted_stored}
use Rattle.calls.proofs.Loads.{reached_store}
use Rattle.calls.proofs.WordsAgree.{ran}

-- accepted commands as calls, each answered 0
called : {s e : State} {cs : List Command} (rest : List ℕ) → Sound s → Run (Step run_state) s cs e → Accepted (image s ++ rest) cs (image e ++ rest)
called rest sound run_done = no_call
called {s} {e} rest sound (more {a} {t} {ts} p r) =
    let same : stored (perform (single t) s) rest ≡ outcome done 0 (image a ++ rest) = accepted_stored t s a rest p.accepted in
    let others = called rest (consequences.sound.stepped s a t sound p.accepted) r in
    call (stored (perform (single t) s) rest) (possible.on_image (single t) s rest sound) (ap (λ (o : Outcome). o.number) same)
    (subst (λ l. Accepted l ts (image e ++ rest)) (sym (ap (λ (o : Outcome). o.left) same)) others)

-- a load of a state's own module and sizes into its store
module _ (s root : State) (rest l : List ℕ) (words : l ≡ image s ++ rest) (is : load s.module' s.sizes ≡ loads root) where
  long : leb (needed s.sizes) (length l) ≡ true
  long = leb_of (needed s.sizes) (length l) (omega (arith, ap length words, length-append (image s) rest, image_laws.image_length s))

  same_needed : needed root.sizes ≡ needed s.sizes
  unfolding loaded
  same_needed = ap (λ (x : State). needed x.sizes) (sym (loads_of s.module' s.sizes is).is)

  past : drop (needed root.sizes) l ≡ rest
  past = ap (drop (needed root.sizes)) words ∙ drop_at (image s) rest (needed root.sizes) (image_laws.image_length s ∙ sym same_needed)

  loads_again : load_into s.module' s.sizes l ≡ outcome done 0 (image root ++ rest)
  unfolding load_into after_load
  loads_again = rw (long, load_into) (ap (after_load l) is ∙ ap (λ x. outcome done 0 (image root ++ x)) past)

meets_at : (l : List ℕ) (x : ReachedStore l) → ForwardCalls l x.state
unfolding LoadCall
meets_at l x =
    let s = x.state in
    let f = (forward_demands.meets s x.reached).0 in
    let same = loads_again s f.root x.rest l x.words f.is_load in
    let sound = consequences.sound.loaded s.module' s.sizes f.root f.is_load in
    let run : Accepted (image f.root ++ x.rest) f.commands (image s ++ x.rest) = called x.rest sound (of_run run_state f.commands f.lead) in
    record {
      loads = load_into s.module' s.sizes l;
      is_load = refl;
      answered = ap (λ (o : Outcome). o.number) same;
      commands = f.commands;
      all_forward = f.all_forward;
      lead = subst (λ z. Accepted z f.commands l) (sym (ap (λ (o : Outcome). o.left) same)) (subst (Accepted (image f.root ++ x.rest) f.commands) (sym x.words) run);
    }

counted_at : (l : List ℕ) (x : ReachedStore l) (f : ForwardCalls l x.state) → length f.commands ≡ amount_done x.state
unfolding LoadCall
counted_at l x f =
    let s = x.state in
    let from = (forward_demands.meets s x.reached).0 in
    let same = f.is_load ∙ loads_again s from.root x.rest l x.words from.is_load in
    let sound = consequences.sound.loaded s.module' s.sizes from.root from.is_load in
    let r = ran from.root x.rest sound (ap (λ (o : Outcome). o.left) same) f.lead in
    let ends = (image_laws.one_state r.end s x.rest x.rest r.sound (consequences.sound.reached s x.reached) (sym r.words ∙ x.words)).0 in
    let forward : ForwardAlone s = record {
      root = from.root;
      is_load = from.is_load;
      commands = f.commands;
      all_forward = f.all_forward;
      lead = to_run run_state (subst (λ (e : State). Run (Step run_state) from.root f.commands e) ends r.run);
    } in
    forward_demands.counted s forward

pub forward_meets : ForwardMeets
forward_meets = record { meets = λ l served. (reached_store l served, meets_at l (reached_store l served)); counted = counted_at }
