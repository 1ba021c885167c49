-- Laws of the listing's lines.
use mathlib.Core.Path.{◌≡◌, refl}
use mathlib.Core.List.{List, map}
use Prim.Native.Nat.{ℕ, ◌+◌, ◌*◌, ◌/◌, ◌%◌, ◌<◌}
use native.Mathlib.Omega.{arith}
use native.Mathlib.Numerals.{add-one}
use Rattle.lists.proofs.Lists.{joined_next}
use Rattle.lists.specs.Lists.{joined, up_to}
use mathlib.Core.Option.{some}
use lib.ListN.{length}
use Rattle.rules.specs.State.{Message, name_base, Process}
use Rattle.rules.specs.Listing.{name_text, message_text, newest_name, process_lines}
use Rattle.std.proofs.Common.{Option, None, Some}
use Rattle.kinds.specs.declared.Kind.{Kind}
use Rattle.text.specs.Written.{Wrote}
use Rattle.text.proofs.WritingLaws.{wrote_then}
use Rattle.text.specs.Lines.{name_in, newest_text, newest_bytes, pid_line, history_line, newest_line, queue_line, words_line, process_text}

-- the newest entry's kind is known
pub kind_known : (newest : Option Kind) (kind known : Kind) → newest ≡ Some kind → kind ≡ known → newest_bytes (Some known) ≡ newest_bytes newest
kind_known newest kind known i j = rw (i, j) refl

pub none_known : (newest : Option Kind) → newest ≡ None → newest_bytes None ≡ newest_bytes newest
none_known newest i = rw i refl

-- a name in a word
pub name_in_lem : (s k : ℕ) → k < name_base → name_in (s * name_base + k) ≡ name_text s k
unfolding name_in
name_in_lem s k h =
    let q : (s * name_base + k) / name_base ≡ s = omega arith in
    let r : (s * name_base + k) % name_base ≡ k = omega arith in
    rw (q, r)

-- the five lines of a process
pub process_lines_lem : (p : ℕ) (process : Process) (queue : List Message) (entries : ℕ) (newest : Option Kind) (names words : List ℕ)
    → entries ≡ length process.history → newest_text newest ≡ newest_name process.history → map name_in names ≡ map message_text queue → words ≡ process.control
    → process_text p entries newest names words ≡ process_lines p queue (some process)
unfolding process_text pid_line history_line newest_bytes newest_line queue_line words_line process_lines
process_lines_lem p process queue entries newest names words e n q w = rw (e, n, q, w)

-- the texts of all places below one, and of that one too
module _ (text : ℕ → List ℕ) where
  pub wrote_place : (n : ℕ) {old mid new : List ℕ} {at b e : ℕ} → Wrote (joined (map text (up_to n))) at old mid b → Wrote (text n) b mid new e → Wrote (joined (map text (up_to (n + 1)))) at old new e
  wrote_place n w v = rw (add-one n, joined_next text n) (wrote_then w v)
