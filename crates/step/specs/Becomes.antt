-- What the functions that write the next control promise, in the words of `work`.
use Rattle.std.specs.Prelude.{ℕ, ◌-◌, ◌≡◌, true, false, List, [], ◌∷◌, drop, take, Err}
use Rattle.std.proofs.Math.Option.{Option, none, some}
use Rattle.term.specs.Tree.{Term, Terms, words}
use Rattle.term.specs.Read.{term_of, terms_of}
use Rattle.term.specs.Value.{is_value}
use Rattle.machine.specs.Work.{Work, finished, stuck, to_seq, to_send, to_receive, to_spawn, to_self, to_check, work, next}
use Rattle.row_laws.specs.Rows.{Plain}
use Rattle.step.specs.Steps.{Next, WroteNext, ModuleIs}
use Rattle.step.specs.Controls.{ControlIs}
use Rattle.step.specs.declared.control.Extent.{Extent}
use Rattle.step.specs.declared.step.NoNext.TheVariants.{Nothing}

-- a message's row, which is one value
pub record ValueIs (row : List ℕ) (u : Term) : Type 0 where
  pub same_words : words u ≡ row
  pub read_as : term_of row ≡ u
  pub plain : Plain u
  pub value : is_value u ≡ true

-- the row of `work`'s answer was written, where there is one
unfoldable pub RowIs : Option (List ℕ) → (old new : List ℕ) → Next → Type 0
RowIs none old new r = (r ≡ Err Nothing) × (new ≡ old)
RowIs (some row) old new r = WroteNext row old new r

-- a term of one word in the working place
unfoldable pub BecomesWord : (c : List ℕ) (w : ℕ) (old new : List ℕ) → Next → Type 0
BecomesWord c w old new r = (functions : Terms) (t u : Term) → ControlIs functions c t → is_value t ≡ false → words u ≡ w ∷ [] → WroteNext (next t u) old new r

-- what a receive makes of a message's row
unfoldable pub Receives : (c v old new : List ℕ) → Next → Type 0
Receives c v old new r =
    (module' : List ℕ) (t u : Term) (takes : List ℕ → Option (List ℕ)) → ControlIs (terms_of module') c t → ValueIs v u → work module' c ≡ to_receive takes → RowIs (takes v) old new r

-- the row of a seq step was written; where the control is stuck, nothing was
unfoldable pub SeqIs : Work → (old new : List ℕ) → Next → Type 0
SeqIs finished old new r = Unit {0}
SeqIs stuck old new r = (r ≡ Err Nothing) × (new ≡ old)
SeqIs (to_seq row) old new r = WroteNext row old new r
SeqIs (to_send target value row) old new r = Unit {0}
SeqIs (to_receive takes) old new r = Unit {0}
SeqIs (to_spawn child rows) old new r = Unit {0}
SeqIs (to_self rows) old new r = Unit {0}
SeqIs (to_check number row) old new r = Unit {0}

unfoldable pub SeqNext : (module' c old new : List ℕ) → Next → Type 0
SeqNext module' c old new r = (functions : Terms) (t : Term) → ModuleIs module' functions → ControlIs (terms_of module') c t → SeqIs (work module' c) old new r

-- the value's extent in the control
unfoldable pub Sent : (c : List ℕ) → Extent → Type 0
Sent c r =
    (module' : List ℕ) (t : Term) (target : ℕ) (value row : List ℕ) → ControlIs (terms_of module') c t → work module' c ≡ to_send target value row
    → take (r.to - r.from) (drop r.from c) ≡ value

unfoldable pub SendNext : (c old new : List ℕ) → Next → Type 0
SendNext c old new r =
    (module' : List ℕ) (t : Term) (target : ℕ) (value row : List ℕ) → ControlIs (terms_of module') c t → work module' c ≡ to_send target value row → WroteNext row old new r

-- the first control of a spawn's child
unfoldable pub ChildNext : (c old new : List ℕ) → Next → Type 0
ChildNext c old new r =
    (module' : List ℕ) (t : Term) (first : List ℕ) (rows : ℕ → List ℕ) → ControlIs (terms_of module') c t → work module' c ≡ to_spawn first rows → WroteNext first old new r
