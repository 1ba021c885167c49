-- The lines of an input that comes in parts, and what is printed for them.
use Prim.Native.Nat.{ℕ, ◌+◌, ◌<◌, min}
use mathlib.Core.Path.{◌≡◌, refl, sym, ◌∙◌, ap, subst}
use mathlib.Core.List.{List, [], ◌∷◌, ◌++◌, append-nil, append_assoc}
use native.Mathlib.Omega.{arith}
use native.Mathlib.Numerals.{add-one}
use native.Mathlib.Decide.{dec_le, ℕ_discrete}
use lib.ListN.{length, take, set, length-append, length-set}
use lib.Seq.{take_all, take-suc-set, take-append-le, length-take-le, append_snoc, set_out}
use Rattle.lists.proofs.Tests.{eqb_apart}
use Rattle.rules.specs.State.{State}
use Rattle.rules.specs.Text.{line_feed}
use Rattle.rules.specs.Line.{onto_first, split, without_empty_last, lines_of, parse_line}
use Rattle.rules.specs.Replies.{replies, without_state}
use Rattle.parsing.proofs.LongLines.{parse_long}
use Rattle.calls.specs.Numbers.{Answer, TextCall}
use Rattle.replies.specs.Replied.{reply_text}
use Rattle.lines.specs.Performed.{Performed, no_line, one_line}
use Rattle.lines.specs.Input.{Gathered, ended, gather, longest_good}
use Rattle.lines.proofs.PrintsLaws.{Prints, line_prints}
use Rattle.lines.proofs.GatherLaws.{gather_feed, gather_byte}

-- ---- the lines of an input

-- those of an input whose first line has begun
unfoldable pub onto_pieces : List ℕ → List (List ℕ) → List (List ℕ)
onto_pieces begun [] = begun ∷ []
onto_pieces begun (piece ∷ pieces) = (begun ++ piece) ∷ pieces

unfoldable pub lines_from : (begun input : List ℕ) → List (List ℕ)
lines_from begun input = without_empty_last (onto_pieces begun (split line_feed input))

split_feed : (more : List ℕ) → split line_feed (line_feed ∷ more) ≡ [] ∷ split line_feed more
unfolding split
split_feed more = refl

split_byte : (b : ℕ) (more x : List ℕ) (xs : List (List ℕ)) → ¬ (b ≡ line_feed) → split line_feed more ≡ x ∷ xs → split line_feed (b ∷ more) ≡ (b ∷ x) ∷ xs
unfolding split onto_first
split_byte b more x xs other e = rw (eqb_apart b line_feed other, split) (ap (onto_first b) e)

-- there is always a first piece
pieces : (input : List ℕ) → (x : List ℕ) × (xs : List (List ℕ)) × (split line_feed input ≡ x ∷ xs)
unfolding split
pieces [] = ([], [], refl)
pieces (b ∷ bs) = elim (ℕ_discrete b line_feed) [
  | yes same ↦ ([], split line_feed bs, ap (λ (x : ℕ). split line_feed (x ∷ bs)) same ∙ split_feed bs)
  | no other ↦ let (x, xs, e) = pieces bs in (b ∷ x, xs, split_byte b bs x xs other e)
]

from_pieces : (begun input x : List ℕ) (xs : List (List ℕ)) → split line_feed input ≡ x ∷ xs → lines_from begun input ≡ without_empty_last ((begun ++ x) ∷ xs)
unfolding lines_from onto_pieces
from_pieces begun input x xs e = ap (λ (ps : List (List ℕ)). without_empty_last (onto_pieces begun ps)) e

-- a first piece that is not empty is a line
first_line : (x : List ℕ) (xs : List (List ℕ)) → 0 < length x → without_empty_last (x ∷ xs) ≡ x ∷ without_empty_last xs
unfolding without_empty_last
first_line [] xs h = absurd (omega arith)
first_line (b ∷ bs) [] h = refl
first_line (b ∷ bs) (y ∷ ys) h = refl

-- nothing has begun at the start
pub from_start : (input : List ℕ) → lines_from [] input ≡ lines_of input
unfolding lines_of
from_start input = let (x, xs, e) = pieces input in from_pieces [] input x xs e ∙ sym (ap without_empty_last e)

-- LF ends the line that has begun
from_feed : (begun more : List ℕ) → lines_from begun (line_feed ∷ more) ≡ begun ∷ lines_from [] more
unfolding without_empty_last
from_feed begun more =
    let (x, xs, e) = pieces more in
    from_pieces begun (line_feed ∷ more) [] (x ∷ xs) (split_feed more ∙ ap (λ (ps : List (List ℕ)). [] ∷ ps) e)
    ∙ (λ i. append-nil begun i ∷ sym (from_pieces [] more x xs e) i)

-- any other byte belongs to it
from_byte : (begun more : List ℕ) (b : ℕ) → ¬ (b ≡ line_feed) → lines_from begun (b ∷ more) ≡ lines_from (begun ++ (b ∷ [])) more
from_byte begun more b other =
    let (x, xs, e) = pieces more in
    from_pieces begun (b ∷ more) (b ∷ x) xs (split_byte b more x xs other e)
    ∙ ap (λ (l : List ℕ). without_empty_last (l ∷ xs)) (sym (append_snoc begun b x))
    ∙ sym (from_pieces (begun ++ (b ∷ [])) more x xs e)

-- the end of the input ends it
pub from_end : (begun : List ℕ) → lines_from begun [] ≡ without_empty_last (begun ∷ [])
unfolding split
from_end begun = from_pieces begun [] [] [] refl ∙ ap (λ (l : List ℕ). without_empty_last (l ∷ [])) (append-nil begun)

-- ---- of a long line the first bytes are enough

replies_same : (s : State) (x y : List ℕ) (lines : List (List ℕ)) → parse_line x ≡ parse_line y → replies s (x ∷ lines) ≡ replies s (y ∷ lines)
unfolding replies
replies_same s x y lines e = rw (e, replies) refl

without_same : (x y : List ℕ) (lines : List (List ℕ)) → parse_line x ≡ parse_line y → without_state (x ∷ lines) ≡ without_state (y ∷ lines)
unfolding without_state
without_same x y lines e = rw (e, without_state) refl

prints_same : (store text x y : List ℕ) (lines : List (List ℕ)) → parse_line x ≡ parse_line y → Prints store (x ∷ lines) text → Prints store (y ∷ lines) text
prints_same store text x y lines e p = record {
  on_image = λ s rest sound at. p.on_image s rest sound at ∙ replies_same s x y lines e;
  elsewhere = λ empty. p.elsewhere empty ∙ without_same x y lines e;
}

cut_long : (store text begun more : List ℕ) (n : ℕ) → longest_good < n → n < length begun → Prints store (lines_from (take n begun) more) text → Prints store (lines_from begun more) text
cut_long store text begun more n h g p =
    let (x, xs, e) = pieces more in
    let l = length-take-le n begun (omega arith) in
    let a = length-append (take n begun) x in
    let b = length-append begun x in
    let short = from_pieces (take n begun) more x xs e ∙ first_line (take n begun ++ x) xs (omega arith) in
    let long = from_pieces begun more x xs e ∙ first_line (begun ++ x) xs (omega arith) in
    let same = parse_long (take n begun ++ x) (omega arith) ∙ sym (parse_long (begun ++ x) (omega arith)) in
    subst (λ (ls : List (List ℕ)). Prints store ls text) (sym long)
    (prints_same store text (take n begun ++ x) (begun ++ x) (without_empty_last xs) same (subst (λ (ls : List (List ℕ)). Prints store ls text) short p))

cut_prints : (store text begun more : List ℕ) (n : ℕ) → longest_good < n → Prints store (lines_from (take n begun) more) text → Prints store (lines_from begun more) text
cut_prints store text begun more n h p = elim (dec_le (length begun) n) [
  | yes l ↦ subst (λ (x : List ℕ). Prints store (lines_from x more) text) (take_all n begun l) p
  | no g ↦ cut_long store text begun more n h (omega arith) p
]

-- one byte more, of which so much is kept
kept_is : (line : List ℕ) (count b : ℕ) → take (min (count + 1) (length line)) (set line count b) ≡ take (length line) (take count line ++ (b ∷ []))
kept_is line count b = elim (dec_le (length line) count) [
  | yes full ↦
      let n : min (count + 1) (length line) ≡ length line = omega arith in
      (λ i. take (n i) (set_out line count b full i)) ∙ take_all (length line) line (omega arith)
      ∙ sym (ap (λ (l : List ℕ). take (length line) (l ++ (b ∷ []))) (take_all count line full) ∙ take-append-le (length line) line (b ∷ []) (omega arith) ∙ take_all (length line) line (omega arith))
  | no more ↦
      let n : min (count + 1) (length line) ≡ count + 1 = omega arith in
      let h : count < length line = omega arith in
      let l = length-take-le count line (omega arith) in
      let m = length-append (take count line) (b ∷ []) in
      ap (λ (k : ℕ). take k (set line count b)) (n ∙ add-one count) ∙ take-suc-set line count b h ∙ sym (take_all (length line) (take count line ++ (b ∷ [])) (omega arith))
]

-- ---- what is printed for the lines that are gathered, and then for what follows, is what is printed for all

-- a line that is performed stands before those that are still to come
one_prints : (line entry mid : List ℕ) (answer : Answer) → TextCall line entry mid answer → (later : List (List ℕ)) (rest text : List ℕ) → Prints mid later (rest ++ text)
    → Prints entry (line ∷ later) ((reply_text (parse_line line) answer ++ rest) ++ text)
one_prints line entry mid answer call later rest text p =
    subst (Prints entry (line ∷ later)) (sym (append_assoc (reply_text (parse_line line) answer) rest text)) (line_prints line entry mid answer call later (rest ++ text) p)

first_prints : {line entry exit said text : List ℕ} {lines later : List (List ℕ)} → Performed entry (line ∷ lines) exit said
    → ((mid rest : List ℕ) → Performed mid lines exit rest → Prints mid later (rest ++ text)) → Prints entry (line ∷ later) (said ++ text)
first_prints {line} {entry} {text = text} {later = later} (one_line {mid = mid} {said = rest} answer call p) tell = one_prints line entry mid answer call later rest text (tell mid rest p)

-- what has begun since
unfoldable pub since : Gathered → List ℕ
since g = take g.count g.line

pub gathered_prints : (input line : List ℕ) (count : ℕ) → longest_good < length line → (entry exit said more text : List ℕ) → Performed entry (gather line count input).lines exit said
    → Prints exit (lines_from (since (gather line count input)) more) text → Prints entry (lines_from (take count line) (input ++ more)) (said ++ text)
unfolding gather ended since
gathered_prints [] line count h entry exit said more text no_line p = p
gathered_prints (b ∷ input) line count h entry exit said more text performed p = elim (ℕ_discrete b line_feed) [
  | yes e ↦
      let g = gather_feed line count b input e in
      let later : (mid rest : List ℕ) → Performed mid (gather line 0 input).lines exit rest → Prints mid (lines_from [] (input ++ more)) (rest ++ text) =
      λ mid rest q. gathered_prints input line 0 h mid exit rest more text q (subst (λ (x : Gathered). Prints exit (lines_from (since x) more) text) g p) in
      subst (λ (ls : List (List ℕ)). Prints entry ls (said ++ text)) (sym (ap (λ (x : ℕ). lines_from (take count line) (x ∷ (input ++ more))) e ∙ from_feed (take count line) (input ++ more)))
      (first_prints (subst (λ (x : Gathered). Performed entry x.lines exit said) g performed) later)
  | no other ↦
      let g = gather_byte line count b input other in
      let l = length-set line count b in
      let later = gathered_prints input (set line count b) (min (count + 1) (length line)) (omega arith) entry exit said more text
      (subst (λ (x : Gathered). Performed entry x.lines exit said) g performed) (subst (λ (x : Gathered). Prints exit (lines_from (since x) more) text) g p) in
      let whole = cut_prints entry (said ++ text) (take count line ++ (b ∷ [])) (input ++ more) (length line) h (subst (λ (x : List ℕ). Prints entry (lines_from x (input ++ more)) (said ++ text)) (kept_is line count b) later) in
      subst (λ (ls : List (List ℕ)). Prints entry ls (said ++ text)) (sym (from_byte (take count line) (input ++ more) b other)) whole
]

-- lines that are performed, and then nothing but the listing
pub performed_prints : {entry exit said : List ℕ} {lines : List (List ℕ)} (text : List ℕ) → Performed entry lines exit said → Prints exit [] text → Prints entry lines (said ++ text)
performed_prints text no_line p = p
performed_prints {entry} text (one_line {line = line} {mid = mid} {said = rest} {lines = lines} answer call q) p = one_prints line entry mid answer call lines rest text (performed_prints text q p)
