-- Demand 3 in words of stores: "Take two sequences of accepted single steps, forward and back, from one state reached from a load. They
-- end in equal states exactly when the first can be turned into the second by finitely many changes of two kinds: exchange two
-- neighbouring steps that 01 calls independent, or remove or insert a step, forward or back, followed at once by the step that reverses
-- it. All sequences on the way must be accepted too." Shown by `words_agree` of proofs/WordsAgree.
use Rattle.std.specs.Prelude.{ℕ, ◌≡◌, ◌↔◌, List, [], ◌∷◌, ◌++◌}
use Rattle.rules.specs.Answers.{done}
use Rattle.rules.specs.State.{State}
use Rattle.rules.specs.Commands.{Command}
use Rattle.rules.specs.Line.{single}
use Rattle.demands.specs.Demands.{Reachable, TurnsInto}
use Rattle.store.specs.Layout.{image}
use Rattle.store.specs.Loading.{Outcome}
use Rattle.calls.specs.Calls.{RequestCall}
use Rattle.calls.specs.Promises.{Served}

-- the calls of a list of commands, each answered 0 and each on the words that the one before left: the words at first, and at last
pub data Accepted : List ℕ → List Command → List ℕ → Type 0 where
  no_call : {l : List ℕ} → Accepted l [] l
  call : {l last : List ℕ} {c : Command} {cs : List Command} (o : Outcome) → RequestCall (single c) l o → o.number ≡ done → Accepted o.left cs last → Accepted l (c ∷ cs) last

pub record WordsAgree : Type 0 where
  -- from the store of a state reached from a load they leave equal words exactly when the one list turns into the other
  pub reached : (s : State) (rest a b : List ℕ) (ts us : List Command) → Reachable s → Accepted (image s ++ rest) ts a → Accepted (image s ++ rest) us b
      → (a ≡ b) ↔ TurnsInto s ts us
  -- and so they do from every store after a load and any calls, which holds the image of such a state
  pub after_a_load : (l a b : List ℕ) (ts us : List Command) → Served l → Accepted l ts a → Accepted l us b
      → (s : State) × (rest : List ℕ) × Reachable s × (l ≡ image s ++ rest) × ((a ≡ b) ↔ TurnsInto s ts us)
