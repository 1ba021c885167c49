-- 01's cases on operators, computed; and one for each sentence of 'One process step' that could be read otherwise.
use Rattle.std.specs.Prelude.{ℕ, ◌≡◌, refl, List, [], ◌∷◌, ℤ, pos, neg_ℤ}
use Rattle.std.proofs.Math.Option.{none, some}
use Rattle.term.specs.Tree.{Term, int, node, end}
use Rattle.machine.specs.Operator.{operate, unsigned, op_multiply, op_div, op_rem, op_less}
use Rattle.machine.specs.Work.{finished, stuck, to_seq, to_send, to_check, work}
use Rattle.machine.specs.Opened.{opened}

abbrev pub integer : ℤ → Term
integer z = int (unsigned z)

abbrev pub minus : ℕ → Term
minus n = integer (neg_ℤ (pos n))

abbrev pub plus : ℕ → Term
plus n = integer (pos n)

pub record OperatorCases : Type 0 where
  -- "P: -7 div 2 is -3; -7 rem 2 is -1."
  pub div_to_zero : operate op_div (minus 7) (plus 2) ≡ some (minus 3)
  pub rem_of_dividend : operate op_rem (minus 7) (plus 2) ≡ some (minus 1)
  -- "P: 46340 × 46340 is 2147395600; 46341 × 46341 is stuck; -2147483648 div -1 is stuck."
  pub in_range : operate op_multiply (plus 46340) (plus 46340) ≡ some (plus 2147395600)
  pub out_of_range : operate op_multiply (plus 46341) (plus 46341) ≡ none
  pub least_div : operate op_div (minus 2147483648) (minus 1) ≡ none

pub operator_cases : OperatorCases
unfolding opened
operator_cases = record { div_to_zero = refl; rem_of_dividend = refl; in_range = refl; out_of_range = refl; least_div = refl }

-- one function that is never called in the controls below
abbrev some_module : List ℕ
some_module = 0x12000000 ∷ 0x05000000 ∷ []

pub record StepSentences : Type 0 where
  -- the remainder of the least number by -1 is 0, which is in range
  pub least_rem : operate op_rem (minus 2147483648) (minus 1) ≡ some (plus 0)
  pub zero_divisor : operate op_rem (plus 1) (plus 0) ≡ none
  -- "The first five and the last two need integers"
  pub needs_integers : operate op_less (node 2 0 0 end) (plus 1) ≡ none
  -- "Values use tags 2 to 7.": {nil, [] of pid 1} is a value
  pub value : work some_module (0x07020000 ∷ 0x05000000 ∷ 0x06020000 ∷ 0x04000001 ∷ 0x05000000 ∷ []) ≡ finished
  -- "go into the leftmost non-value child": of {check 1, check 2} the first is worked on
  pub leftmost : work some_module (0x07020000 ∷ 0x10000001 ∷ 0x10000002 ∷ []) ≡ to_check 1 (0x07020000 ∷ 0x02000001 ∷ 0x10000002 ∷ [])
  -- "Clauses and a let's body wait": let 0 = nil in check 2
  pub body_waits : work some_module (0x0B020000 ∷ 0x05000000 ∷ 0x10000002 ∷ []) ≡ to_seq (0x10000002 ∷ [])
  -- "Case takes the first clause whose pattern matches and whose guard gives atom 0": both clauses match
  pub first_clause : work some_module (0x0A020000 ∷ 0x05000000 ∷ 0x11030000 ∷ 0x01000000 ∷ 0x02000000 ∷ 0x02000007 ∷ 0x11030000 ∷ 0x01000000 ∷ 0x02000000 ∷ 0x02000008 ∷ []) ≡ to_seq (0x02000007 ∷ [])
  -- "a guard that is stuck counts as false": 1 < nil is stuck, and the second clause is taken
  pub stuck_guard : work some_module (0x0A020000 ∷ 0x05000000 ∷ 0x11030000 ∷ 0x01000000 ∷ 0x08020007 ∷ 0x03000000 ∷ 1 ∷ 0x01000000 ∷ 0x02000007 ∷ 0x11030000 ∷ 0x01000000 ∷ 0x02000000 ∷ 0x02000008 ∷ []) ≡ to_seq (0x02000008 ∷ [])
  -- no clause: stuck
  pub no_clause : work some_module (0x0A010000 ∷ 0x05000000 ∷ 0x11030000 ∷ 0x02000000 ∷ 0x02000000 ∷ 0x05000000 ∷ []) ≡ stuck
  -- "Send gives its value": pid 1 ! nil
  pub send_gives : work some_module (0x0E020000 ∷ 0x04000001 ∷ 0x05000000 ∷ []) ≡ to_send 1 (0x05000000 ∷ []) (0x05000000 ∷ [])
  -- "A send to a non-pid .. is stuck."
  pub send_stuck : work some_module (0x0E020000 ∷ 0x02000001 ∷ 0x05000000 ∷ []) ≡ stuck
  -- "Binding puts the value in place of the variable": in the inner clause's guard and body too, not in its pattern
  pub binding : work some_module (0x0B020000 ∷ 0x05000000 ∷ 0x0C010000 ∷ 0x11030000 ∷ 0x01000001 ∷ 0x08020005 ∷ 0x01000000 ∷ 0x01000001 ∷ 0x01000000 ∷ []) ≡ to_seq (0x0C010000 ∷ 0x11030000 ∷ 0x01000001 ∷ 0x08020005 ∷ 0x05000000 ∷ 0x01000001 ∷ 0x05000000 ∷ [])

pub step_sentences : StepSentences
unfolding opened
step_sentences = record {
  least_rem = refl;
  zero_divisor = refl;
  needs_integers = refl;
  value = refl;
  leftmost = refl;
  body_waits = refl;
  first_clause = refl;
  stuck_guard = refl;
  no_clause = refl;
  send_gives = refl;
  send_stuck = refl;
  binding = refl;
}
