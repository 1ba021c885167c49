-- Laws of input that is taken byte by byte: what it gathers, and what is performed and said for it.
use Prim.Native.Nat.{ℕ, ◌+◌, ◌<◌, ◌≤◌, min}
use mathlib.Core.Path.{◌≡◌, refl, sym, ◌∙◌, ap, subst}
use mathlib.Core.List.{List, [], ◌∷◌, ◌++◌, append-nil, append_assoc}
use native.Mathlib.Omega.{arith}
use native.Mathlib.Numerals.{add-one}
use native.Mathlib.Decide.{ℕ_discrete}
use lib.ListN.{length, take, get_or, set, length-append, length-set}
use lib.Seq.{take_all, take-suc, set_out}
use Rattle.lists.proofs.Tests.{eqb_apart}
use Rattle.rules.specs.Text.{line_feed}
use Rattle.rules.specs.Line.{without_empty_last, parse_line}
use Rattle.text.specs.Written.{far, onward}
use Rattle.text.proofs.WritingLaws.{wrote_then, wrote_none}
use Rattle.replies.specs.Replied.{reply_text, Replied}
use Rattle.lines.specs.Performed.{Performed, no_line, one_line, Says}
use Rattle.lines.specs.Input.{Kept, Gathered, ended, gather, Took, HasRoom, Hears, takes, refuses, Ends}
use Rattle.lines.specs.declared.input.Heard.{Heard}
use Rattle.std.specs.Prelude.{Option, Some}

-- ---- what a byte gathers

pub gather_feed : (line : List ℕ) (count b : ℕ) (more : List ℕ) → b ≡ line_feed → gather line count (b ∷ more) ≡ ended (take count line) (gather line 0 more)
unfolding gather
gather_feed line count b more e = ap (λ (x : ℕ). gather line count (x ∷ more)) e

pub gather_byte : (line : List ℕ) (count b : ℕ) (more : List ℕ) → ¬ (b ≡ line_feed) → gather line count (b ∷ more) ≡ gather (set line count b) (min (count + 1) (length line)) more
unfolding gather
gather_byte line count b more other = rw (eqb_apart b line_feed other, gather) refl

-- ---- some input, and then more

unfoldable before : List (List ℕ) → Gathered → Gathered
before lines g = record { lines = lines ++ g.lines; line = g.line; count = g.count }

-- what is gathered of j after i
unfoldable onward_from : Gathered → List ℕ → Gathered
onward_from g j = before g.lines (gather g.line g.count j)

gather_then : (i j line : List ℕ) (count : ℕ) → gather line count (i ++ j) ≡ onward_from (gather line count i) j
unfolding gather ended before onward_from
gather_then [] j line count = refl
gather_then (b ∷ i) j line count = elim (ℕ_discrete b line_feed) [
  | yes e ↦ gather_feed line count b (i ++ j) e ∙ ap (ended (take count line)) (gather_then i j line 0) ∙ ap (λ (g : Gathered). onward_from g j) (sym (gather_feed line count b i e))
  | no other ↦
      gather_byte line count b (i ++ j) other ∙ gather_then i j (set line count b) (min (count + 1) (length line)) ∙ ap (λ (g : Gathered). onward_from g j) (sym (gather_byte line count b i other))
]

-- ---- how much is gathered

-- no more lines than bytes, and a line within the bytes that are lent for it
pub record Within (line input : List ℕ) (g : Gathered) : Type 0 where
  pub few : length g.lines ≤ length input
  pub same : length g.line ≡ length line
  pub within : g.count ≤ length line

pub gather_within : (input line : List ℕ) (count : ℕ) → count ≤ length line → Within line input (gather line count input)
unfolding gather ended
gather_within [] line count h = record { few = omega arith; same = refl; within = h }
gather_within (b ∷ input) line count h = elim (ℕ_discrete b line_feed) [
  | yes e ↦
      let w = gather_within input line 0 (omega arith) in
      let f = w.few in
      subst (Within line (b ∷ input)) (sym (gather_feed line count b input e)) (record { few = omega arith; same = w.same; within = w.within })
  | no other ↦
      let l = length-set line count b in
      let w = gather_within input (set line count b) (min (count + 1) (length line)) (omega arith) in
      let f = w.few in
      let k = w.within in
      subst (Within line (b ∷ input)) (sym (gather_byte line count b input other)) (record { few = omega arith; same = w.same ∙ l; within = omega arith })
]

-- ---- lines performed

performed_then : {entry mid exit s t : List ℕ} {ls ms : List (List ℕ)} → Performed entry ls mid s → Performed mid ms exit t → Performed entry (ls ++ ms) exit (s ++ t)
performed_then no_line q = q
performed_then {t = t} (one_line {line = line} {said = said} answer call p) q =
    subst (Performed _ _ _) (sym (append_assoc (reply_text (parse_line line) answer) said t)) (one_line answer call (performed_then p q))

says_none : (store out : List ℕ) (at end : ℕ) → end ≡ onward (at + 0) → length out < far → Says store [] at out store out end
says_none store out at end e short = record { said = []; performed = no_line; text = wrote_none out at end e short; fits = omega arith }

says_one : (line entry old exit new : List ℕ) (at end : ℕ) → Replied line entry exit at old new end → Says entry (line ∷ []) at old exit new end
says_one line entry old exit new at end r =
    let f = r.fits in
    record {
      said = reply_text (parse_line line) r.answer;
      performed = subst (Performed entry (line ∷ []) exit) (append-nil (reply_text (parse_line line) r.answer)) (one_line r.answer r.call no_line);
      text = r.text;
      fits = omega arith;
    }

says_then : {entry old mid between exit new : List ℕ} {ls ms : List (List ℕ)} {at a end : ℕ} → Says entry ls at old mid between a → Says mid ms a between exit new end
    → Says entry (ls ++ ms) at old exit new end
says_then {ls = ls} {ms = ms} t u =
    let f = t.fits in
    let g = u.fits in
    let l = length-append t.said u.said in
    let m = length-append ls ms in
    record { said = t.said ++ u.said; performed = performed_then t.performed u.performed; text = wrote_then t.text u.text; fits = omega arith }

-- ---- one byte of a line is kept

pub kept_full : (line : List ℕ) (count b : ℕ) → length line ≤ count → Kept line count b line (length line)
kept_full line count b h = record { line_is = sym (set_out line count b h); count_is = omega arith }

pub kept_more : (line : List ℕ) (count b : ℕ) → count < length line → Kept line count b (set line count b) (count + 1)
kept_more line count b h = record { line_is = refl; count_is = omega arith }

pub kept_within : {line : List ℕ} {count b : ℕ} {after : List ℕ} {kept : ℕ} → Kept line count b after kept → kept ≤ length line
kept_within k = let e = k.count_is in omega arith

-- ---- input is taken

-- LF: the line is answered
pub took_feed : (entry line : List ℕ) (count b at : ℕ) (old exit new : List ℕ) (kept end : ℕ) → b ≡ line_feed → kept ≡ 0 → Replied (take count line) entry exit at old new end
    → Took entry line count (b ∷ []) at old exit line kept new end
unfolding gather ended
took_feed entry line count b at old exit new kept end e none_kept r =
    let g = gather_feed line count b [] e in
    record {
      says = subst (λ (x : Gathered). Says entry x.lines at old exit new end) (sym g) (says_one (take count line) entry old exit new at end r);
      line_is = sym (ap (λ (x : Gathered). x.line) g);
      count_is = none_kept ∙ sym (ap (λ (x : Gathered). x.count) g);
    }

-- any other byte is kept
pub took_byte : (store line : List ℕ) (count b at : ℕ) (out after : List ℕ) (kept end : ℕ) → ¬ (b ≡ line_feed) → Kept line count b after kept → end ≡ onward (at + 0) → length out < far
    → Took store line count (b ∷ []) at out store after kept out end
unfolding gather
took_byte store line count b at out after kept end other k e short =
    let g = gather_byte line count b [] other in
    record {
      says = subst (λ (x : Gathered). Says store x.lines at out store out end) (sym g) (says_none store out at end e short);
      line_is = k.line_is ∙ sym (ap (λ (x : Gathered). x.line) g);
      count_is = k.count_is ∙ sym (ap (λ (x : Gathered). x.count) g);
    }

pub took_none : (store line : List ℕ) (count : ℕ) (out : List ℕ) → length out < far → Took store line count [] 0 out store line count out 0
unfolding gather
took_none store line count out short = record { says = says_none store out 0 0 (omega arith) short; line_is = refl; count_is = refl }

took_then : {entry line i old mid then between j exit after new : List ℕ} {count at n a kept end : ℕ} → Took entry line count i at old mid then n between a → Took mid then n j a between exit after kept new end
    → Took entry line count (i ++ j) at old exit after kept new end
unfolding before onward_from
took_then {entry} {line} {i} {old} {then = then} {j = j} {exit = exit} {new = new} {count = count} {at = at} {n = n} {end = end} t u =
    let all : onward_from (gather line count i) j ≡ gather line count (i ++ j) = sym (gather_then i j line count) in
    let same : gather then n j ≡ gather (gather line count i).line (gather line count i).count j = λ k. gather (t.line_is k) (t.count_is k) j in
    record {
      says = subst (λ (ls : List (List ℕ)). Says entry ls at old exit new end) (ap (λ (x : Gathered). (gather line count i).lines ++ x.lines) same ∙ ap (λ (x : Gathered). x.lines) all) (says_then t.says u.says);
      line_is = u.line_is ∙ ap (λ (x : Gathered). x.line) same ∙ ap (λ (x : Gathered). x.line) all;
      count_is = u.count_is ∙ ap (λ (x : Gathered). x.count) same ∙ ap (λ (x : Gathered). x.count) all;
    }

pub took_more : (l : List ℕ) (i : ℕ) {entry line old mid then between exit after new : List ℕ} {count at n a kept end : ℕ} → i < length l → Took entry line count (take i l) at old mid then n between a
    → Took mid then n (get_or l i 0 ∷ []) a between exit after kept new end → Took entry line count (take (i + 1) l) at old exit after kept new end
took_more l i h t u = rw (add-one i, take-suc l i 0 h) (took_then t u)

pub took_all : (l : List ℕ) (i : ℕ) {entry line old exit after new : List ℕ} {count at kept end : ℕ} → length l ≤ i → Took entry line count (take i l) at old exit after kept new end
    → Took entry line count l at old exit after kept new end
took_all l i h t = rw (take_all i l h) at t

-- ---- a block is taken

pub hears_taken : {entry line input old exit after new : List ℕ} {count : ℕ} {r : Option Heard} {heard : Heard} → Hears entry line count input old exit after new r → r ≡ Some heard
    → HasRoom line count × Took entry line count input 0 old exit after heard.count new heard.end
hears_taken {entry} {line} {input} {old} {exit} {after} {new} {count} {heard = heard} (takes {heard = h} room t) same =
    let e : h ≡ heard = cc in
    (room, subst (λ (x : Heard). Took entry line count input 0 old exit after x.count new x.end) e t)
hears_taken (refuses none_there) same = let z : ◌≡◌ {A = ℕ} 0 1 = cc in absurd (omega arith)

-- ---- the input ends

pub ends_empty : (store begun out : List ℕ) → length begun ≡ 0 → length out < far → Ends store begun out store out 0
unfolding Ends without_empty_last
ends_empty store [] out h short = says_none store out 0 0 (omega arith) short
ends_empty store (b ∷ bs) out h short = absurd (omega arith)

pub ends_line : (entry begun old exit new : List ℕ) (end : ℕ) → ¬ (length begun ≡ 0) → Replied begun entry exit 0 old new end → Ends entry begun old exit new end
unfolding Ends without_empty_last
ends_line entry [] old exit new end h r = absurd (h refl)
ends_line entry (b ∷ bs) old exit new end h r = says_one (b ∷ bs) entry old exit new 0 end r

-- at most one line
pub last_few : (begun : List ℕ) → length (without_empty_last (begun ∷ [])) ≤ 1
unfolding without_empty_last
last_few [] = omega arith
last_few (b ∷ bs) = omega arith
