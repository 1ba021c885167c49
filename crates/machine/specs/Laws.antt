-- What a step makes of a good control: the next control is good, and its pids come from the control, the message taken, the new child or
-- the process itself. `WorkLaws` is shown of every good module, for 1 to 65536 places (a pid's number has 16 bits), by `work_laws` of
-- proofs/WorkLaws.
use Rattle.std.specs.Prelude.{ℕ, ◌≤◌, ◌<◌, ◌≡◌, ◌⊎◌, true, List, [], ◌∷◌, length}
use Rattle.std.proofs.Math.Option.{Option, none, some}
use Rattle.term.specs.Words.{word, tag_apply, tag_pid}
use Rattle.term.specs.Table.{spot_value}
use Rattle.term.specs.Tree.{Term, Terms, int, node, end, ◌then◌}
use Rattle.term.specs.Read.{term_of}
use Rattle.term.specs.Shape.{shape}
use Rattle.term.specs.Control.{good_control, module_arities}
use Rattle.machine.specs.Work.{to_seq, to_send, to_receive, to_spawn, to_self, to_check, work}

-- the pid of q stands in a term
unfoldable mutual
  pub PidIn : ℕ → Term → Type 0
  PidIn q (int x) = ⊥
  PidIn q (node tag n k ts) = ((tag ≡ tag_pid) × (k ≡ q)) ⊎ PidAmong q ts

  pub PidAmong : ℕ → Terms → Type 0
  PidAmong q end = ⊥
  PidAmong q (t then ts) = PidIn q t ⊎ PidAmong q ts

-- the pid of q stands in the term of a row
unfoldable pub Holds : List ℕ → ℕ → Type 0
Holds row q = PidIn q (term_of row)

module _ (module' : List ℕ) (places : ℕ) where
  -- a control that passes the control check
  unfoldable pub Good : List ℕ → Type 0
  Good row = good_control places (module_arities module') row ≡ true

  -- a row that is one value
  unfoldable pub GoodValue : List ℕ → Type 0
  GoodValue row = shape places [] row (spot_value ∷ []) 0 ≡ none

  pub record AfterSeq (control next : List ℕ) : Type 0 where
    pub good : Good next
    pub pids : (q : ℕ) → Holds next q → Holds control q

  pub record AfterSend (control : List ℕ) (target : ℕ) (value next : List ℕ) : Type 0 where
    pub good : Good next
    pub good_value : GoodValue value
    pub pids : (q : ℕ) → Holds next q → Holds control q
    pub value_pids : (q : ℕ) → Holds value q → Holds control q
    pub target_pid : Holds control target
    pub target_place : target < places

  pub record AfterReceive (control value next : List ℕ) : Type 0 where
    pub good : Good next
    pub pids : (q : ℕ) → Holds next q → Holds control q ⊎ Holds value q

  -- the control with the pid of p in the working place
  pub record AfterPid (control next : List ℕ) (p : ℕ) : Type 0 where
    pub good : Good next
    pub fits : length next ≤ length control
    pub pids : (q : ℕ) → Holds next q → Holds control q ⊎ (q ≡ p)

  pub record AsChild (control child : List ℕ) : Type 0 where
    pub good : Good child
    pub fits : length child ≤ length control
    pub pids : (q : ℕ) → Holds child q → Holds control q

  pub record WorkLaws : Type 0 where
    pub first_good : Good (word tag_apply 0 0 ∷ [])
    pub first_pids : (q : ℕ) → ¬ Holds (word tag_apply 0 0 ∷ []) q
    pub seq : {control next : List ℕ} → Good control → work module' control ≡ to_seq next → AfterSeq control next
    pub send : {control value next : List ℕ} {target : ℕ} → Good control → work module' control ≡ to_send target value next → AfterSend control target value next
    pub receive : {control value next : List ℕ} {takes : List ℕ → Option (List ℕ)} → Good control → GoodValue value → work module' control ≡ to_receive takes → takes value ≡ some next → AfterReceive control value next
    pub spawn : {control child : List ℕ} {next : ℕ → List ℕ} → Good control → work module' control ≡ to_spawn child next → AsChild control child
    pub spawn_next : {control child : List ℕ} {next : ℕ → List ℕ} (p : ℕ) → p < places → Good control → work module' control ≡ to_spawn child next → AfterPid control (next p) p
    pub self : {control : List ℕ} {next : ℕ → List ℕ} (p : ℕ) → p < places → Good control → work module' control ≡ to_self next → AfterPid control (next p) p
    pub check : {control next : List ℕ} {number : ℕ} → Good control → work module' control ≡ to_check number next → AfterSeq control next × (number ≤ 255)
