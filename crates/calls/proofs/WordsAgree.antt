-- Accepted calls from one store leave equal words exactly when the lists of their commands turn into each other.
use Prim.Native.Nat.{ℕ}
use mathlib.Core.Path.{◌≡◌, refl, sym, ◌∙◌, ap, subst}
use mathlib.Core.Logic.{◌↔◌}
use mathlib.Core.List.{List, ◌++◌}
use Rattle.causal.specs.Paths.{Run, done as run_done, more, Turns}
use Rattle.causal.specs.Exec.{Step}
use Rattle.causal.proofs.Exec.{to_run}
use Rattle.rules.specs.State.{State}
use Rattle.rules.specs.Commands.{Command, run_state}
use Rattle.rules.specs.Sound.{Sound}
use Rattle.rules.specs.Independent.{Independent}
use Rattle.rules.specs.Reverse.{reverse}
use Rattle.demands.specs.Demands.{Reachable}
use Rattle.demands.proofs.Consequences.{consequences}
use Rattle.demands.proofs.Demands.{demand3}
use Rattle.store.specs.Layout.{image}
use Rattle.store.specs.Loading.{Outcome}
use Rattle.store.proofs.Laws.{image_laws}
use Rattle.calls.specs.Calls.{RequestCall}
use Rattle.calls.specs.WordsAgree.{Accepted, no_call, call, WordsAgree}
use Rattle.calls.proofs.Accepted.{done_accepted}
use Rattle.calls.proofs.Loads.{reached_store}
use Rattle.calls.proofs.Returns.{accepted_call}

-- the commands of accepted calls run, and the image of the state where they end is left
pub record Ran (s : State) (rest : List ℕ) (cs : List Command) (last : List ℕ) : Type 0 where
  pub end : State
  pub run : Run (Step run_state) s cs end
  pub sound : Sound end
  pub words : last ≡ image end ++ rest

pub ran : {l last : List ℕ} {cs : List Command} (s : State) (rest : List ℕ) → Sound s → l ≡ image s ++ rest → Accepted l cs last → Ran s rest cs last
unfolding RequestCall
ran s rest sound at no_call = record { end = s; run = run_done; sound = sound; words = at }
ran {l} s rest sound at (call {c} o called h others) =
    let (m, e) = done_accepted s c rest sound (sym (ap (λ (y : Outcome). y.number) (called.on_image s rest sound at)) ∙ h) in
    let left = ap (λ (y : Outcome). y.left) (accepted_call s m rest l c o sound at e called) in
    let r = ran m rest (consequences.sound.stepped s m c sound e) left others in
    record { end = r.end; run = more (record { accepted = e }) r.run; sound = r.sound; words = r.words }

agree : (s : State) (rest a b : List ℕ) (ts us : List Command) → Reachable s → Accepted (image s ++ rest) ts a → Accepted (image s ++ rest) us b
    → (a ≡ b) ↔ Turns (Step run_state) reverse Independent s ts us
agree s rest a b ts us reached p q =
    let sound = consequences.sound.reached s reached in
    let x = ran s rest sound refl p in
    let y = ran s rest sound refl q in
    let ends = demand3.consistent s x.end y.end ts us reached (to_run run_state x.run) (to_run run_state y.run) in (
      λ same. ends.0 (image_laws.one_state x.end y.end rest rest x.sound y.sound (sym x.words ∙ same ∙ y.words)).0,
      λ turns. x.words ∙ ap (λ (s : State). image s ++ rest) (ends.1 turns) ∙ sym y.words,
    )

pub words_agree : WordsAgree
words_agree = record {
  reached = agree;
  after_a_load = λ l a b ts us held p q.
      let x = reached_store l held in
      let at : (last : List ℕ) (cs : List Command) → Accepted l cs last → Accepted (image x.state ++ x.rest) cs last = λ last cs. subst (λ z. Accepted z cs last) x.words in
      (x.state, x.rest, x.reached, x.words, agree x.state x.rest a b ts us x.reached (at a ts p) (at b us q));
}
