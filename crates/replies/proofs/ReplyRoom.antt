-- No reply is longer than the room that the programs lend.
use Prim.Native.Nat.{ℕ, zero, suc, ◌+◌, ◌*◌, ◌/◌, ◌%◌, ◌<◌, ◌≤◌}
use mathlib.Core.Path.{◌≡◌, refl, sym, ◌∙◌, ap, subst}
use mathlib.Core.Logic.{inl, inr}
use mathlib.Core.Option.{Option, none, some}
use mathlib.Core.List.{List, [], ◌∷◌, ◌++◌}
use native.Mathlib.Omega.{arith}
use lib.Dec.{ltb}
use lib.ListN.{length, take, drop, length-append}
use lib.Seq.{take_at}
use Rattle.lists.proofs.Tests.{true_or_false, ltb_false}
use Rattle.rules.specs.Text.{bytes, line_feed, digit, decimal_in, decimal, line}
use Rattle.rules.specs.Line.{Request}
use Rattle.rules.specs.Replies.{answer_line, undone_line}
use Rattle.text.specs.Written.{Wrote}
use Rattle.text.proofs.WritingLaws.{wrote_fits}
use Rattle.calls.specs.Numbers.{Answer, number_of, value_place}
use Rattle.calls.proofs.AnswerNumbers.{number_below}
use Rattle.replies.specs.Replied.{undone_by, reply_text, reply_room}

-- ---- the length of a number

abbrev tens : ℕ → ℕ
tens zero = 1
tens (suc k) = 10 * tens k

decimal_short : (rounds k n : ℕ) → n < tens (suc k) → length (decimal_in rounds n) ≤ suc k
unfolding decimal_in
decimal_short zero k n h = omega arith
decimal_short (suc rounds) k n h = elim (true_or_false (ltb n 10)) [
  | inl few ↦ rw (few, decimal_in) (omega arith)
  | inr many ↦ rw (many, decimal_in) (next k h (ltb_false n 10 many) (λ j. decimal_short rounds j (n / 10)))
]
  where
    next : (k : ℕ) → n < tens (suc k) → 10 ≤ n → ((j : ℕ) → n / 10 < tens (suc j) → length (decimal_in rounds (n / 10)) ≤ suc j)
        → length (decimal_in rounds (n / 10) ++ (digit (n % 10) ∷ [])) ≤ suc k
    next zero h g before = absurd (omega arith)
    next (suc k) h g before =
        let l = length-append (decimal_in rounds (n / 10)) (digit (n % 10) ∷ []) in
        let s = before k (omega arith) in
        omega arith

number_length : (key n k : ℕ) (text : List ℕ) → length text ≡ key → n < tens (suc k) → length (text ++ (decimal n ++ (line_feed ∷ []))) ≤ key + suc k + 1
unfolding decimal
number_length key n k text e h =
    let a = length-append text (decimal n ++ (line_feed ∷ [])) in
    let b = length-append (decimal n) (line_feed ∷ []) in
    let c : length (decimal n) ≤ suc k = decimal_short (suc n) k n h in
    omega (arith, a, b, c, e)

-- ---- the length of a reply

answer_length : (a : Answer) → length (answer_line (number_of a)) ≤ 10
unfolding answer_line line bytes
answer_length a = number_length 7 (number_of a) 1 (bytes "answer=") refl (number_below a)

-- a count that a u32 holds
abbrev pub Small : Option ℕ → Type 0
Small none = Unit {0}
Small (some count) = count < value_place

undone_length : (undone : Option ℕ) → Small undone → length (undone_line undone) ≤ 18
unfolding undone_line line bytes
undone_length none small = omega arith
undone_length (some count) small = number_length 7 count 9 (bytes "undone=") refl (omega (arith, small))

pub reply_short : (request : Option Request) (a : Answer) (undone : Option ℕ) → undone_by request a ≡ undone → Small undone → length (reply_text request a) ≤ reply_room
unfolding reply_text
reply_short request a undone e small =
    let l = length-append (answer_line (number_of a)) (undone_line (undone_by request a)) in
    let x = answer_length a in
    let y = undone_length (undone_by request a) (subst Small (sym e) small) in
    omega arith

-- ---- a text in an output with room for it stands whole before its end

pub text_taken : {ws old new : List ℕ} {end : ℕ} → Wrote ws 0 old new end → length ws ≤ length old → (end ≡ length ws) × (take end new ≡ ws)
text_taken {ws} {old} {new} {end} w room =
    let (e, n) = wrote_fits w (let x = w.end_is in omega arith) in
    let l : end ≡ length ws = omega (arith, e) in
    (l, ap (take end) n ∙ take_at ws (drop end old) end (sym l))
