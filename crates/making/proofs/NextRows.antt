-- What a process is about to do, and the next controls that the code writes, are those of `work`.
use Prim.Native.Nat.{ℕ}
use mathlib.Core.Path.{◌≡◌, sym, ◌∙◌, ap, subst, subst₂}
use mathlib.Core.List.{List, [], ◌∷◌}
use Rattle.term.specs.Read.{term_of, terms_of}
use Rattle.machine.specs.Value.{atom, pid}
use Rattle.machine.specs.Work.{Work, work}
use Rattle.step.specs.Steps.{Next, WroteNext}
use Rattle.step.specs.Controls.{ControlIs, doing_of, DoingOf}
use Rattle.step.specs.Becomes.{BecomesWord, SeqIs, SeqNext, SendNext, ChildNext}
use Rattle.step.specs.declared.work.Doing.{Doing}
use Rattle.reading.specs.Reads.{OfState, control_at, Lives}
use Rattle.making.specs.Making.{about, SeqRow, SendRow, WordRow, ChildRow}
use Rattle.step.proofs.Ready.{module_ready}
use Rattle.making.proofs.Living.{ready}
use Rattle.making.proofs.Becoming.{self_becomes, spawn_becomes, check_becomes, pid_word, atom_word}

module _ (l c : List ℕ) (p : ℕ) (lives : OfState l (Lives p)) (is : OfState l (λ s. c ≡ control_at s p)) where
  pub doing_is : (d : Doing) → DoingOf c d → OfState l (λ s. d ≡ doing_of (about s p))
  unfolding OfState DoingOf about
  doing_is d f s rest h =
      subst (λ (x : List ℕ). (t : _) → ControlIs (terms_of s.module') x t → d ≡ doing_of (work s.module' x)) (is s rest h) (f s.module') (term_of (control_at s p)) (ready s h.sound p (lives s rest h))

  pub seq_row_is : (m old new : List ℕ) (r : Next) → OfState l (λ s. m ≡ s.module') → SeqNext m c old new r → OfState l (SeqRow p old new r)
  unfolding OfState SeqNext SeqRow about SeqIs
  seq_row_is m old new r em f s rest h row a =
      let g = subst₂ (λ (x y : List ℕ). SeqNext x y old new r) (em s rest h) (is s rest h) f in
      subst (λ (w : Work). SeqIs w old new r) a (g (terms_of s.module') (term_of (control_at s p)) (module_ready s.module' h.sound.module_passes) (ready s h.sound p (lives s rest h)))

  pub send_row_is : (old new : List ℕ) (r : Next) → SendNext c old new r → OfState l (SendRow p old new r)
  unfolding OfState SendNext SendRow about
  send_row_is old new r f s rest h target value row a =
      subst (λ (x : List ℕ). SendNext x old new r) (is s rest h) f s.module' (term_of (control_at s p)) target value row (ready s h.sound p (lives s rest h)) a

  pub child_row_is : (old new : List ℕ) (r : Next) → ChildNext c old new r → OfState l (ChildRow p old new r)
  unfolding OfState ChildNext ChildRow about
  child_row_is old new r f s rest h first rows a =
      subst (λ (x : List ℕ). ChildNext x old new r) (is s rest h) f s.module' (term_of (control_at s p)) first rows (ready s h.sound p (lives s rest h)) a

  pub word_row_is : (w : ℕ) (old new : List ℕ) (r : Next) → BecomesWord c w old new r → OfState l (WordRow p w old new r)
  unfolding OfState BecomesWord about
  word_row_is w old new r f s rest h =
      let g = subst (λ (x : List ℕ). BecomesWord x w old new r) (is s rest h) f (terms_of s.module') (term_of (control_at s p)) in
      let i = ready s h.sound p (lives s rest h) in
      record {
        of_self = λ rows q a e.
            let b = self_becomes s.module' (control_at s p) rows a in
            subst (λ (row : List ℕ). WroteNext row old new r) (sym (b.1 q)) (g (pid q) i b.0 (pid_word q ∙ ap (λ (x : ℕ). x ∷ []) (sym e)));
        of_spawn = λ first rows q a e.
            let b = spawn_becomes s.module' (control_at s p) first rows a in
            subst (λ (row : List ℕ). WroteNext row old new r) (sym (b.1 q)) (g (pid q) i b.0 (pid_word q ∙ ap (λ (x : ℕ). x ∷ []) (sym e)));
        of_check = λ number row a e.
            let b = check_becomes s.module' (control_at s p) number row a in
            subst (λ (row : List ℕ). WroteNext row old new r) (sym b.1) (g (atom number) i b.0 (atom_word number ∙ ap (λ (x : ℕ). x ∷ []) (sym e)));
      }
