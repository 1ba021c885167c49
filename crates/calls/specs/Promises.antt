-- What follows from the contracts of the calls, and nothing else. Each statement is shown by its name in proofs/.
use Rattle.std.specs.Prelude.{ℕ, ◌≡◌, ◌≢◌, true, List, [], ◌++◌, length}
use Rattle.rules.specs.Answers.{done, held, not_a_state}
use Rattle.rules.specs.State.{Sizes, State}
use Rattle.rules.specs.Load.{loaded}
use Rattle.rules.specs.Commands.{Command, step}
use Rattle.rules.specs.Sound.{Sound}
use Rattle.rules.specs.Line.{Request, single, rollback_to}
use Rattle.rules.specs.Reverse.{reverse, is_forward}
use Rattle.demands.specs.Demands.{Reachable}
use Rattle.rules.specs.Replies.{perform}
use Rattle.rules.specs.Rollback.{Rollback}
use Rattle.rules.specs.Bench.{bench_module, bench_sizes}
use Rattle.store.specs.Layout.{needed, image}
use Rattle.store.specs.Image.{IsImage}
use Rattle.store.specs.Loading.{Outcome}
use Rattle.calls.specs.Calls.{outcome, refused_store, stored, RequestCall, LineCall, ListingCall, LoadCall}
use Rattle.calls.specs.Numbers.{Answer, Performs, TextCall, Lists}

-- "any two outcomes allowed by it are proved equal"
pub record Determined : Type 0 where
  pub load : (module' : List ℕ) (sizes : Sizes) (entry : List ℕ) (o o' : Outcome) → LoadCall module' sizes entry o → LoadCall module' sizes entry o' → o ≡ o'
  pub request : (request : Request) (entry : List ℕ) (o o' : Outcome) → RequestCall request entry o → RequestCall request entry o' → o ≡ o'
  pub line : (line entry : List ℕ) (o o' : Outcome) → LineCall line entry o → LineCall line entry o' → o ≡ o'
  pub listing : (store out : List ℕ) (o o' : Outcome) → ListingCall store out o → ListingCall store out o' → o ≡ o'

-- and so are the answers of the code, and what it leaves
abbrev pub OneAnswer : (List ℕ → Answer → Type 0) → Type 0
OneAnswer Allowed = (exit exit' : List ℕ) (r r' : Answer) → Allowed exit r → Allowed exit' r' → (r ≡ r') × (exit ≡ exit')

pub record AnswersDetermined : Type 0 where
  -- step, spawn, deliver, back, undeliver, rollback
  pub request : (request : Request) (entry : List ℕ) → OneAnswer (Performs request entry)
  pub line : (line entry : List ℕ) → OneAnswer (TextCall line entry)
  pub listing : (store out : List ℕ) → OneAnswer (Lists store out)

-- "Words past it are neither read nor written": whatever stands past the needed words, the answer is the same and what stood there stays
pub record PastIsLeft : Type 0 where
  pub request : (request : Request) (s : State) (rest rest' : List ℕ) (o o' : Outcome) → Sound s → RequestCall request (image s ++ rest) o → RequestCall request (image s ++ rest') o'
      → (end : State) × (o.left ≡ image end ++ rest) × (o' ≡ outcome o.number o.value (image end ++ rest'))
  pub listing : (s : State) (rest rest' out : List ℕ) (o o' : Outcome) → Sound s → ListingCall (image s ++ rest) out o → ListingCall (image s ++ rest') out o' → o ≡ o'
  pub load : (module' : List ℕ) (sizes : Sizes) (l rest : List ℕ) (o o' : Outcome) → length l ≡ needed sizes → LoadCall module' sizes l o → LoadCall module' sizes (l ++ rest) o'
      → o' ≡ outcome o.number o.value (o.left ++ rest)

-- No contract asks for two things at once: what it says of a state is allowed, since a store is the image of one state; and 15 elsewhere.
pub record Possible : Type 0 where
  pub on_image : (request : Request) (s : State) (rest : List ℕ) → Sound s → RequestCall request (image s ++ rest) (stored (perform request s) rest)
  pub elsewhere : (request : Request) (entry : List ℕ) → ¬ IsImage entry → RequestCall request entry (refused_store entry)

-- what an accepted or refused rollback leaves is what 01's words allow of the state in the store
pub record RollbackStored : Type 0 where
  pub allowed : (s : State) (rest : List ℕ) (p t : ℕ) (o : Outcome) → Sound s → RequestCall (rollback_to p t) (image s ++ rest) o
      → (end : State) × Rollback s p t o.number o.value end × (o.left ≡ image end ++ rest)

-- a store after a load and any calls
pub data Served : List ℕ → Type 0 where
  by_load : (module' entry : List ℕ) (sizes : Sizes) (o : Outcome) → LoadCall module' sizes entry o → o.number ≡ done → Served o.left
  by_refused_load : (module' entry : List ℕ) (sizes : Sizes) (o : Outcome) → Served entry → LoadCall module' sizes entry o → o.number ≢ done → Served o.left
  by_request : (entry : List ℕ) (request : Request) (o : Outcome) → Served entry → RequestCall request entry o → Served o.left
  by_line : (entry line : List ℕ) (o : Outcome) → Served entry → LineCall line entry o → Served o.left

-- it is the image of a state reached from a load
pub record ReachedStore (l : List ℕ) : Type 0 where
  pub state : State
  pub rest : List ℕ
  pub reached : Reachable state
  pub words : l ≡ image state ++ rest

pub record AfterALoad : Type 0 where
  pub reached : (l : List ℕ) → Served l → ReachedStore l
  -- no call is answered 15
  pub request : (request : Request) (l : List ℕ) (o : Outcome) → Served l → RequestCall request l o → o.number ≢ not_a_state
  pub line : (line l : List ℕ) (o : Outcome) → Served l → LineCall line l o → o.number ≢ not_a_state
  pub listing : (l out : List ℕ) (o : Outcome) → Served l → ListingCall l out o → o.number ≢ not_a_state
  -- "After a load, rollback never gives 13."
  pub rollback : (p t : ℕ) (l : List ℕ) (o : Outcome) → Served l → RequestCall (rollback_to p t) l o → o.number ≢ held

-- "undoing the step just taken .. gives the earlier state exactly": the same words, in every store of a sound state
pub record WordsReturn : Type 0 where
  pub undone : (s : State) (rest : List ℕ) (c : Command) (o o' : Outcome) → Sound s → is_forward c ≡ true → RequestCall (single c) (image s ++ rest) o → o.number ≡ done
      → RequestCall (single (reverse s c)) o.left o' → (o'.number ≡ done) × (o'.left ≡ image s ++ rest)
  -- and of every command in a store of a state reached from a load
  pub retaken : (s : State) (rest : List ℕ) (c : Command) (o o' : Outcome) → Reachable s → RequestCall (single c) (image s ++ rest) o → o.number ≡ done
      → RequestCall (single (reverse s c)) o.left o' → (o'.number ≡ done) × (o'.left ≡ image s ++ rest)

-- a bench, true or sham: what it makes of each request and store
abbrev pub Bench : Type 0
Bench = Request → List ℕ → Outcome

unfoldable pub Meets : Bench → Type 0
Meets bench = (request : Request) (entry : List ℕ) → RequestCall request entry (bench request entry)

-- the store of the program bench after its load, and its first command
abbrev pub loaded_bench : State
loaded_bench = loaded bench_module bench_sizes

abbrev pub loaded_store : List ℕ
loaded_store = image loaded_bench ++ []

abbrev pub first_step : Request
first_step = single (step 0)

-- "Four sham benches have to be caught": each fails on the loaded store
pub record ShamsCaught : Type 0 where
  -- "one refusing everything"
  pub refuses_everything : (bench : Bench) → Meets bench → (bench first_step loaded_store).number ≡ done
  -- "one with a constant answer"
  pub constant_answer : (bench : Bench) (number : ℕ) → Meets bench → ¬ ((request : Request) (l : List ℕ) → (bench request l).number ≡ number)
  -- "one storing nothing"
  pub stores_nothing : (bench : Bench) → Meets bench → (bench first_step loaded_store).left ≢ loaded_store
  -- "one that steps truly once and then only says so"
  pub true_once : (bench : Bench) → Meets bench → (bench first_step (bench first_step loaded_store).left).left ≢ (bench first_step loaded_store).left

pub record Promises : Type 0 where
  pub determined : Determined
  pub answers_determined : AnswersDetermined
  pub past_is_left : PastIsLeft
  pub possible : Possible
  pub rollback_stored : RollbackStored
  pub after_a_load : AfterALoad
  pub words_return : WordsReturn
  pub shams_caught : ShamsCaught
