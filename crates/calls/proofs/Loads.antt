-- After a load and any calls the store is the image of a state reached from a load: no answer is 15, and no rollback is held.
use Prim.Native.Nat.{ℕ}
use mathlib.Core.Path.{◌≡◌, refl, sym, ◌∙◌, ap, subst}
use mathlib.Core.Logic.{◌≢◌, inl, inr}
use mathlib.Core.Bool.{true, ◌&&◌}
use mathlib.Core.Option.{Option, none, some}
use mathlib.Core.List.{List, []}
use native.Mathlib.Omega.{arith}
use lib.Dec.{leb}
use lib.ListN.{length, drop}
use Rattle.lists.proofs.Tests.{true_or_false, and_left}
use Rattle.causal.specs.Exec.{run_all}
use Rattle.term.specs.Module.{check_module}
use Rattle.rules.specs.Answers.{done, bad_module, bad_sizes, held, not_a_state, bad_line}
use Rattle.rules.specs.State.{Sizes, State}
use Rattle.rules.specs.Load.{good_sizes, loaded, Load, refused, loads, load}
use Rattle.rules.specs.Sound.{Sound}
use Rattle.rules.specs.Line.{Request, rollback_to, parse_line}
use Rattle.rules.specs.Listing.{listing}
use Rattle.rules.specs.Replies.{perform}
use Rattle.demands.specs.Demands.{Reachable}
use Rattle.demands.proofs.Consequences.{consequences}
use Rattle.demands.proofs.RollbackDemands.{rollback_demands}
use Rattle.store.specs.Layout.{needed}
use Rattle.store.specs.Loading.{Outcome, after_load, load_into}
use Rattle.store.proofs.LoadCodeAnswers.{into_short, into_load}
use Rattle.store.proofs.LoadCodeSound.{goes}
use Rattle.store.proofs.LoadCodeSound
use Rattle.calls.specs.Calls.{stored, RequestCall, AskedCall, LineCall, written, ListingCall, LoadCall}
use Rattle.calls.specs.Promises.{Served, by_load, by_refused_load, by_request, by_line, ReachedStore, AfterALoad}
use Rattle.calls.proofs.Accepted.{reach_request, below_request, rollback_outcome}

-- a load that is answered 0 leaves the image of the loaded state
loaded_store : (module' : List ℕ) (sizes : Sizes) (entry : List ℕ) (checked : Option ℕ) → good_sizes sizes ≡ true → check_module module' ≡ checked
    → (after_load entry (load module' sizes)).number ≡ done → ReachedStore (after_load entry (load module' sizes)).left
unfolding load after_load run_all loaded
loaded_store module' sizes entry none good e h =
    let l : load module' sizes ≡ loads (loaded module' sizes) = rw (good, load) (rw (e, load) refl) in
    let r : Reachable (loaded module' sizes) = record { module' = module'; sizes = sizes; root = loaded module' sizes; is_load = l; commands = []; lead = refl } in
    record { state = loaded module' sizes; rest = drop (needed sizes) entry; reached = r; words = ap (λ (x : Load). (after_load entry x).left) l }
loaded_store module' sizes entry (some at) good e h =
    let l : load module' sizes ≡ refused bad_module at = rw (good, load) (rw (e, load) refl) in
    let one : ◌≡◌ {A = ℕ} bad_module done = sym (ap (λ (x : Load). (after_load entry x).number) l) ∙ h in
    absurd (omega (arith, one))

load_into_lem : (module' : List ℕ) (sizes : Sizes) (entry : List ℕ) → (load_into module' sizes entry).number ≡ done → ReachedStore (load_into module' sizes entry).left
load_into_lem module' sizes entry h = elim (true_or_false (good_sizes sizes && leb (needed sizes) (length entry))) [
  | inl good ↦
      let same = into_load module' sizes entry good in
      subst (λ (o : Outcome). ReachedStore o.left) (sym same) (loaded_store module' sizes entry (check_module module') (and_left _ _ good) refl (ap (λ (o : Outcome). o.number) (sym same) ∙ h))
  | inr bad ↦ let two : ◌≡◌ {A = ℕ} bad_sizes done = ap (λ (o : Outcome). o.number) (sym (into_short module' sizes entry bad)) ∙ h in absurd (omega (arith, two))
]

-- a refused load leaves the words as they were
kept_load : (module' : List ℕ) (sizes : Sizes) (entry : List ℕ) (o : Outcome) → LoadCall module' sizes entry o → o.number ≢ done → o.left ≡ entry
unfolding LoadCall
kept_load module' sizes entry o call n = elim (goes module' sizes entry) [
  | LoadCodeSound.short e ↦ ap (λ (y : Outcome). y.left) (call ∙ e)
  | LoadCodeSound.bad at e ↦ ap (λ (y : Outcome). y.left) (call ∙ e)
  | LoadCodeSound.good it e ↦ absurd (n (ap (λ (y : Outcome). y.number) (call ∙ e)))
]

reached_sound : (s : State) → Reachable s → Sound s
reached_sound s r = consequences.sound.reached s r

of_request : (request : Request) (l : List ℕ) (o : Outcome) (x : ReachedStore l) → RequestCall request l o → o ≡ stored (perform request x.state) x.rest
unfolding RequestCall
of_request request l o x call = call.on_image x.state x.rest (reached_sound x.state x.reached) x.words

request_reached : (request : Request) (l : List ℕ) (o : Outcome) → ReachedStore l → RequestCall request l o → ReachedStore o.left
unfolding stored
request_reached request l o x call = record {
  state = (perform request x.state).after;
  rest = x.rest;
  reached = reach_request request x.state x.reached;
  words = ap (λ (y : Outcome). y.left) (of_request request l o x call);
}

asked_reached : (asked : Option Request) (l : List ℕ) (o : Outcome) → ReachedStore l → AskedCall asked l o → ReachedStore o.left
unfolding AskedCall
asked_reached none l o x call = subst ReachedStore (sym (ap (λ (y : Outcome). y.left) call)) x
asked_reached (some request) l o x call = request_reached request l o x call

pub reached_store : (l : List ℕ) → Served l → ReachedStore l
unfolding LoadCall LineCall
reached_store l (by_load module' entry sizes o call h) =
    subst (λ (y : Outcome). ReachedStore y.left) (sym call) (load_into_lem module' sizes entry (sym (ap (λ (y : Outcome). y.number) call) ∙ h))
reached_store l (by_refused_load module' entry sizes o before call n) = subst ReachedStore (sym (kept_load module' sizes entry o call n)) (reached_store entry before)
reached_store l (by_request entry request o before call) = request_reached request entry o (reached_store entry before) call
reached_store l (by_line entry line o before call) = asked_reached (parse_line line) entry o (reached_store entry before) call

request_answers : (request : Request) (l : List ℕ) (o : Outcome) → ReachedStore l → RequestCall request l o → o.number ≢ not_a_state
request_answers request l o x call e =
    let below = below_request request x.state x.rest (reached_sound x.state x.reached) in
    let same = ap (λ (y : Outcome). y.number) (of_request request l o x call) in
    absurd (omega (arith, below, same, e))

asked_answers : (asked : Option Request) (l : List ℕ) (o : Outcome) → ReachedStore l → AskedCall asked l o → o.number ≢ not_a_state
unfolding AskedCall
asked_answers none l o x call e = let same : o.number ≡ bad_line = ap (λ (y : Outcome). y.number) call in absurd (omega (arith, same, e))
asked_answers (some request) l o x call e = request_answers request l o x call e

line_answers : (line l : List ℕ) (o : Outcome) → ReachedStore l → LineCall line l o → o.number ≢ not_a_state
unfolding LineCall
line_answers line l o x call = asked_answers (parse_line line) l o x call

pub written_answers : (text out : List ℕ) → (written text out).number ≢ not_a_state
unfolding written
written_answers text out e = elim (true_or_false (leb (length text) (length out))) [
  | inl fits ↦ let zero' : ◌≡◌ {A = ℕ} 0 15 = rw (fits, written) at e in absurd (omega (arith, zero'))
  | inr short ↦ let sixteen : ◌≡◌ {A = ℕ} 16 15 = rw (short, written) at e in absurd (omega (arith, sixteen))
]

listing_answers : (l out : List ℕ) (o : Outcome) → ReachedStore l → ListingCall l out o → o.number ≢ not_a_state
unfolding ListingCall
listing_answers l out o x call e =
    let same = call.on_image x.state x.rest (reached_sound x.state x.reached) x.words in
    written_answers (listing x.state) out (sym (ap (λ (y : Outcome). y.number) same) ∙ e)

rollback_answers : (p t : ℕ) (l : List ℕ) (o : Outcome) → ReachedStore l → RequestCall (rollback_to p t) l o → o.number ≢ held
rollback_answers p t l o x call e =
    let same = ap (λ (y : Outcome). y.number) (of_request (rollback_to p t) l o x call ∙ rollback_outcome x.state x.rest p t) in
    rollback_demands.never.answers x.state p t x.reached (sym same ∙ e)

pub after_a_load : AfterALoad
after_a_load = record {
  reached = reached_store;
  request = λ request l o h call. request_answers request l o (reached_store l h) call;
  line = λ line l o h call. line_answers line l o (reached_store l h) call;
  listing = λ l out o h call. listing_answers l out o (reached_store l h) call;
  rollback = λ p t l o h call. rollback_answers p t l o (reached_store l h) call;
}
