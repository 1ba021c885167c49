-- What the control check says of a control and of the term at its working place, and what the functions on controls promise.
--
use Rattle.std.specs.Prelude.{ℕ, ◌≤◌, ◌<◌, ◌≡◌, true, false, List}
use Rattle.std.proofs.Math.Option.{Option, none, some}
use Rattle.term.specs.Words.{tag_call, tag_apply, tag_case, tag_let, tag_receive, tag_send}
use Rattle.term.specs.Tree.{Term, Terms, node, end, ◌then◌, words, count}
use Rattle.term.specs.Read.{term_of, terms_of}
use Rattle.term.specs.Value.{is_value}
use Rattle.term.specs.Module.{function_of}
use Rattle.machine.specs.Operator.{operate}
use Rattle.machine.specs.Clauses.{first_clause}
use Rattle.machine.specs.Place.{working}
use Rattle.machine.specs.Work.{Work, finished, stuck, to_seq, to_send, to_receive, to_spawn, to_self, to_check, send_to, work_at, work}
use Rattle.row_laws.specs.Rows.{Stands, Plain}
use Rattle.choosing.specs.Clausal.{AreClauses}
use Rattle.step.specs.declared.work.Doing.{Doing}
use Rattle.step.specs.declared.work.Doing.TheVariants.{Finished, Stuck, Seq, Send, Receive, Spawn, Own, Check}

-- two children
pub record Pair (ts : Terms) : Type 0 where
  pub one : Term
  pub two : Term
  pub are : ts ≡ one then (two then end)

-- an apply names a function of the module, with as many values as it says
pub record Applied (functions : Terms) (n k : ℕ) (children : Terms) : Type 0 where
  pub tag : ℕ
  pub m : ℕ
  pub j : ℕ
  pub body : Term
  pub function_is : function_of functions k ≡ some (node tag m j (body then end))
  pub all : count children ≡ n
  pub few : n ≤ 64

-- the term at the working place: its children that may be gone into are values, and it has the form that its tag asks for
pub record Redex (functions : Terms) (w : Term) : Type 0 where
  pub tag : ℕ
  pub n : ℕ
  pub k : ℕ
  pub children : Terms
  pub is : w ≡ node tag n k children
  pub of_call : tag ≡ tag_call → (p : Pair children) × (is_value p.one ≡ true) × (is_value p.two ≡ true)
  pub of_apply : tag ≡ tag_apply → Applied functions n k children
  pub of_case : tag ≡ tag_case → (subject : Term) × (clauses : Terms) × (children ≡ subject then clauses) × (is_value subject ≡ true) × AreClauses clauses × (count clauses ≡ n)
  pub of_let : tag ≡ tag_let → (p : Pair children) × (is_value p.one ≡ true) × (k < 64)
  pub of_receive : tag ≡ tag_receive → AreClauses children × (count children ≡ n)
  pub of_send : tag ≡ tag_send → Pair children

-- a row that is a control, in a module with these functions
pub record ControlIs (functions : Terms) (control : List ℕ) (t : Term) : Type 0 where
  pub same_words : words t ≡ control
  pub read_as : term_of control ≡ t
  pub plain : Plain t
  pub redex : is_value t ≡ false → Redex functions (working t)

-- the kind of step, with a send's target and a check's number
unfoldable pub doing_of : Work → Doing
doing_of finished = Finished
doing_of stuck = Stuck
doing_of (to_seq next) = Seq
doing_of (to_send target value next) = Send target
doing_of (to_receive takes) = Receive
doing_of (to_spawn child next) = Spawn
doing_of (to_self next) = Own
doing_of (to_check number next) = Check number

unfoldable pub doing_seq : Option Term → Doing
doing_seq none = Stuck
doing_seq (some t) = Seq

unfoldable pub CallDoing : (c : List ℕ) (at : ℕ) → Doing → Type 0
CallDoing c at r = (n k : ℕ) (a b : Term) → Stands c at (node tag_call n k (a then (b then end))) → is_value a ≡ true → is_value b ≡ true → r ≡ doing_seq (operate k a b)

unfoldable pub CaseDoing : (c : List ℕ) (at : ℕ) → Doing → Type 0
CaseDoing c at r =
    (n k : ℕ) (subject : Term) (clauses : Terms) → Stands c at (node tag_case n k (subject then clauses)) → is_value subject ≡ true → AreClauses clauses → count clauses ≡ n
    → r ≡ doing_seq (first_clause subject clauses)

unfoldable pub SendDoing : (c : List ℕ) (at : ℕ) → Doing → Type 0
SendDoing c at r = (n k : ℕ) (target v whole : Term) → Stands c at (node tag_send n k (target then (v then end))) → r ≡ doing_of (send_to whole target v)

unfoldable pub DoingAt : (c : List ℕ) (at : ℕ) → Doing → Type 0
DoingAt c at r = (functions : Terms) (whole w : Term) → Stands c at w → Redex functions w → r ≡ doing_of (work_at functions whole w)

-- what a control is about to do, in any module in which it is one
unfoldable pub DoingOf : (c : List ℕ) → Doing → Type 0
DoingOf c r = (module' : List ℕ) (t : Term) → ControlIs (terms_of module') c t → r ≡ doing_of (work module' c)
