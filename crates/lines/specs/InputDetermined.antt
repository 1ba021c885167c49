-- The contracts of the program's input determine what comes of it. `input_determined` of proofs/ shows it.
use Rattle.std.specs.Prelude.{ℕ, ◌≡◌, List, Option}
use Rattle.lines.specs.Input.{Kept, Hears, Ends}
use Rattle.lines.specs.declared.input.Heard.{Heard}

-- for all that is lent, two outcomes that a contract allows are equal
pub record InputDetermined : Type 0 where
  pub keep : (line : List ℕ) (count b : ℕ) (after after' : List ℕ) (kept kept' : ℕ) → Kept line count b after kept → Kept line count b after' kept' → (after ≡ after') × (kept ≡ kept')
  pub block : (entry line : List ℕ) (count : ℕ) (input old exit exit' after after' new new' : List ℕ) (r r' : Option Heard)
      → Hears entry line count input old exit after new r → Hears entry line count input old exit' after' new' r' → (exit ≡ exit') × (after ≡ after') × (new ≡ new') × (r ≡ r')
  pub last : (entry begun old exit exit' new new' : List ℕ) (end end' : ℕ) → Ends entry begun old exit new end → Ends entry begun old exit' new' end'
      → (exit ≡ exit') × (new ≡ new') × (end ≡ end')
