-- Two outcomes that a contract allows are equal: of `reply`, and of the input's functions.
use Prim.Native.Nat.{ℕ}
use mathlib.Core.Path.{◌≡◌, refl, sym, ◌∙◌, subst}
use mathlib.Core.List.{List, ◌++◌}
use Rattle.rules.specs.Line.{parse_line}
use Rattle.text.specs.Written.{Wrote}
use Rattle.text.proofs.WritingLaws.{wrote_same}
use Rattle.calls.specs.Numbers.{Answer}
use Rattle.calls.proofs.OneAnswer.{answers_determined}
use Rattle.replies.specs.Replied.{reply_text, Replied}
use Rattle.lines.specs.Performed.{Performed, no_line, one_line, Says}
use Rattle.lines.specs.Input.{Hears, takes, refuses, Ends}
use Rattle.lines.specs.InputDetermined.{InputDetermined}
use Rattle.lines.specs.declared.input.Heard.{Heard}
use Rattle.std.specs.Prelude.{Option, Some}

pub reply_determined : (line entry exit exit' : List ℕ) (at : ℕ) (old new new' : List ℕ) (end end' : ℕ) → Replied line entry exit at old new end → Replied line entry exit' at old new' end'
    → (exit ≡ exit') × ((new ≡ new') × (end ≡ end'))
reply_determined line entry exit exit' at old new new' end end' a b =
    let (same, left) = answers_determined.line line entry exit exit' a.answer b.answer a.call b.call in
    (left, wrote_same (subst (λ (r : Answer). Wrote (reply_text (parse_line line) r) at old new end) same a.text) b.text)

-- ---- lines performed

performed_same : {entry exit exit' said said' : List ℕ} {lines : List (List ℕ)} → Performed entry lines exit said → Performed entry lines exit' said' → (exit ≡ exit') × (said ≡ said')
performed_same no_line no_line = (refl, refl)
performed_same {entry} {exit' = exit'} (one_line {line = line} {mid = mid} {lines = lines} answer call p) (one_line {mid = mid'} {said = rest'} answer' call' q) =
    let (same, left) = answers_determined.line line entry mid mid' answer answer' call call' in
    let (e, s) = performed_same p (subst (λ (x : List ℕ). Performed x lines exit' rest') (sym left) q) in
    (e, λ i. reply_text (parse_line line) (same i) ++ s i)

says_same : {entry old exit exit' new new' : List ℕ} {lines : List (List ℕ)} {at end end' : ℕ} → Says entry lines at old exit new end → Says entry lines at old exit' new' end'
    → (exit ≡ exit') × (new ≡ new') × (end ≡ end')
says_same {old = old} {new = new} {at = at} {end = end} t u =
    let (e, s) = performed_same t.performed u.performed in
    let w = wrote_same (subst (λ (x : List ℕ). Wrote x at old new end) s t.text) u.text in
    (e, w.0, w.1)

block_same : {entry line input old exit exit' after after' new new' : List ℕ} {count : ℕ} {r r' : Option Heard} → Hears entry line count input old exit after new r
    → Hears entry line count input old exit' after' new' r' → (exit ≡ exit') × (after ≡ after') × (new ≡ new') × (r ≡ r')
block_same (takes room t) (takes room' u) =
    let (e, n, z) = says_same t.says u.says in
    let k = t.count_is ∙ sym u.count_is in
    (e, t.line_is ∙ sym u.line_is, n, λ i. Some (record { count = k i; end = z i }))
block_same (takes room t) (refuses none_there) = absurd (none_there room)
block_same (refuses none_there) (takes room u) = absurd (none_there room)
block_same (refuses none_there) (refuses also) = (refl, refl, refl, refl)

pub input_determined : InputDetermined
unfolding Ends
input_determined = record {
  keep = λ line count b after after' kept kept' p q. (p.line_is ∙ sym q.line_is, p.count_is ∙ sym q.count_is);
  block = λ entry line count input old exit exit' after after' new new' r r' p q. block_same p q;
  last = λ entry begun old exit exit' new new' end end' p q. says_same p q;
}
