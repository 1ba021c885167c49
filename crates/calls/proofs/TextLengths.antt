-- How long the texts of a listing can be: numbers of two digits, names, words, lines, and texts one after another.
use Prim.Native.Nat.{ℕ, zero, suc, ◌+◌, ◌*◌, ◌≤◌, ◌<◌, ◌/◌, ◌%◌}
use Prim.Native.String.{String}
use mathlib.Core.Path.{◌≡◌, refl, sym, ◌∙◌, ap, subst}
use mathlib.Core.Logic.{inl, inr}
use mathlib.Core.Bool.{Bool}
use mathlib.Core.List.{List, [], ◌∷◌, ◌++◌, map}
use native.Mathlib.Decide.{dec_le}
use native.Mathlib.Nat.{suc-mul}
use native.Mathlib.Omega.{arith}
use lib.ListN.{length, length-append, length-map}
use Rattle.lists.specs.Lists.{All, keep, joined, up_to}
use Rattle.lists.proofs.Tests.{true_or_false, ltb_of, ltb_over}
use Rattle.lists.proofs.Lists.{keep_nil, keep_true, keep_false, joined_next}
use Rattle.lists.proofs.All.{all_append, all_map}
use Rattle.rules.specs.State.{Kind, seq, send, rec, spawn, self, check, Entry}
use Rattle.rules.specs.Text.{bytes, line_feed, space, point, digit, decimal_in, decimal, hex_in, hex, spaced, line}
use Rattle.rules.specs.Listing.{kind_name, newest_name, name_text}

-- ---- numbers, names and words

one_digit : (rounds n : ℕ) → n < 10 → length (decimal_in (suc rounds) n) ≡ 1
unfolding decimal_in
one_digit rounds n h = rw (ltb_of n 10 h, decimal_in) refl

pub two_digits : (n : ℕ) → n < 100 → length (decimal n) ≤ 2
unfolding decimal decimal_in
two_digits zero h = omega (arith, one_digit 0 0 (omega arith))
two_digits (suc m) h = elim (dec_le 10 (suc m)) [
  | yes g ↦
      let n = suc m in
      let split : decimal_in (suc n) n ≡ decimal_in n (n / 10) ++ (digit (n % 10) ∷ []) = rw (ltb_over n 10 g, decimal_in) refl in
      omega (arith, ap length split, length-append (decimal_in n (n / 10)) (digit (n % 10) ∷ []), one_digit m (n / 10) (omega arith))
  | no g ↦ omega (arith, one_digit (suc m) (suc m) (omega arith))
]

hex_digits : (digits n : ℕ) → length (hex_in digits n) ≡ digits
unfolding hex_in
hex_digits zero n = refl
hex_digits (suc digits) n = length-append (hex_in digits (n / 16)) _ ∙ (let r = hex_digits digits (n / 16) in omega arith)

-- texts of this length at most
abbrev pub AtMost : ℕ → List ℕ → Type 0
AtMost k text = length text ≤ k

-- a name: two numbers of two digits and a point
abbrev pub name_room : ℕ
name_room = 5

pub name_most : (s k : ℕ) → s < 100 → k < 100 → AtMost name_room (name_text s k)
unfolding name_text
name_most s k h g = omega (arith, length-append (decimal s) (point ∷ decimal k), two_digits s h, two_digits k g)

-- a word: eight digits
abbrev pub word_room : ℕ
word_room = 8

pub word_most : (w : ℕ) → AtMost word_room (hex w)
unfolding hex
word_most w = omega (arith, hex_digits word_room w)

-- each text with a space
spaced_most : (k : ℕ) (texts : List (List ℕ)) → All (AtMost k) texts → length (spaced texts) ≤ length texts * suc k
unfolding spaced All
spaced_most k [] a = omega arith
spaced_most k (x ∷ []) a = omega (arith, a.0, suc-mul 0 (suc k))
spaced_most k (x ∷ (y ∷ ys)) a =
    let rest = spaced_most k (y ∷ ys) a.1 in
    omega (arith, a.0, rest, length-append x (space ∷ spaced (y ∷ ys)), suc-mul (length (y ∷ ys)) (suc k))

pub mapped_most : {A : Type 0} (k : ℕ) (text : A → List ℕ) (xs : List A) → All (λ x. AtMost k (text x)) xs → length (spaced (map text xs)) ≤ length xs * suc k
mapped_most k text xs a = subst (λ n. length (spaced (map text xs)) ≤ n * suc k) (length-map xs text) (spaced_most k (map text xs) (all_map (AtMost k) text xs a))

-- a line: its key, its text, LF
pub line_most : (key : String) (text : List ℕ) (k n : ℕ) → length (bytes key) ≡ k → AtMost n text → AtMost (k + n + 1) (line key text)
unfolding line
line_most key text k n e h = omega (arith, length-append (bytes key ++ text) (line_feed ∷ []), length-append (bytes key) text, e, h)

-- ---- kinds

kind_most : (kind : Kind) → length (bytes (kind_name kind)) ≤ 5
unfolding kind_name bytes
kind_most seq = omega arith
kind_most (send target value) = omega arith
kind_most (rec older m newer) = omega arith
kind_most (spawn child) = omega arith
kind_most self = omega arith
kind_most (check number) = omega arith

pub newest_most : (h : List Entry) → length (bytes (newest_name h)) ≤ 5
unfolding newest_name bytes
newest_most [] = omega arith
newest_most (e ∷ h) = kind_most e.kind

-- ---- lists one after another

pub five_append : (a b c d e : List ℕ) → length (a ++ b ++ c ++ d ++ e) ≡ length a + length b + length c + length d + length e
five_append a b c d e = omega (arith, length-append (a ++ b ++ c ++ d) e, length-append (a ++ b ++ c) d, length-append (a ++ b) c, length-append a b)

-- by a bound for those below each number
pub sums : {A : Type 0} (f : ℕ → List A) (most : ℕ → ℕ) (n : ℕ) → ((p : ℕ) → p < n → most p + length (f p) ≤ most (suc p)) → length (joined (map f (up_to n))) ≤ most n
unfolding up_to joined
sums f most zero h = omega arith
sums f most (suc n) h =
    omega (arith, ap length (joined_next f n), length-append (joined (map f (up_to n))) (f n), sums f most n (λ p g. h p (omega arith)), h n (omega arith))

pub below : (Q : ℕ → Type 0) (n : ℕ) → ((p : ℕ) → p < n → Q p) → All Q (up_to n)
unfolding up_to All
below Q zero h = tt
below Q (suc n) h = all_append Q (up_to n) (n ∷ []) (below Q n (λ p g. h p (omega arith))) (h n (omega arith), tt)

pub all_kept : {A : Type 0} (Q : A → Type 0) (test : A → Bool) (xs : List A) → All Q xs → All Q (keep test xs)
unfolding All
all_kept Q test [] a = subst (All Q) (sym (keep_nil test)) tt
all_kept Q test (x ∷ xs) a = elim (true_or_false (test x)) [
  | inl e ↦ subst (All Q) (sym (keep_true test x xs e)) (a.0, all_kept Q test xs a.1)
  | inr e ↦ subst (All Q) (sym (keep_false test x xs e)) (all_kept Q test xs a.1)
]
