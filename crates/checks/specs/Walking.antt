-- What the code's walks for the rules promise.
use Rattle.std.specs.Prelude.{ℕ, ◌+◌, ◌≤◌, ◌<◌, ◌≡◌, ◌⊎◌, Bool, true, false, List, ◌++◌, length, drop, get_or, Option, MatchOption, Result, Ok, Err}
use Rattle.lists.specs.Lists.{member}
use Rattle.rows.specs.declared.terms.BadWord.{BadWord}
use Rattle.rows.specs.declared.terms.Run.{Run}
use Rattle.rows.specs.declared.terms.Run.TheVariants.{Ends, Turns}
use Rattle.checks.specs.declared.binding.Light.{Light}
use Rattle.term.specs.Words.{tag_of, n_of, k_of, tag_atom, tag_integer, tag_call, tag_let, tag_clause}
use Rattle.term.specs.Table.{fits}
use Rattle.term.specs.Tree.{Terms, words_of, count}
use Rattle.term.specs.Fit.{FitAll}
use Rattle.term.specs.Binding.{Walk, breaks, passes, and_then, binds_all, keeps_rule, keeps_all}

-- how many variables and how many check numbers there are
abbrev pub variables : ℕ
variables = 64

abbrev pub check_numbers : ℕ
check_numbers = 256

-- a row of marks says which numbers below its size stand in a list
pub record Marks (size : ℕ) (marks : List Bool) (numbers : List ℕ) : Type 0 where
  pub long : length marks ≡ size
  pub told : (k : ℕ) → k < size → get_or marks k false ≡ member k numbers

-- well-shaped terms stand at a position, so many of them
pub record Stands (l : List ℕ) (at owed : ℕ) (ts : Terms) : Type 0 where
  pub places : ℕ
  pub spots : List ℕ
  pub rest : List ℕ
  pub fit : FitAll places ts spots
  pub many : count ts ≡ owed
  pub row : drop at l ≡ words_of ts ++ rest

-- a walk of the code says what a walk of the definitions does; where both pass, they stop there, and what is left is as said
unfoldable pub Agrees : (stop : ℕ) → (List ℕ → List ℕ → Type 0) → Walk → Result ℕ BadWord → Type 0
Agrees stop left (breaks p) (Err bad) = p ≡ bad.0
Agrees stop left (breaks p) (Ok b) = ⊥
Agrees stop left (passes a scope checks) (Err bad) = ⊥
Agrees stop left (passes a scope checks) (Ok b) = (a ≡ b) × (b ≡ stop) × left scope checks

unfoldable pub Onward : ℕ → Result ℕ BadWord → Type 0
Onward at (Ok b) = at ≤ b
Onward at (Err bad) = Unit {0}

-- the variables of patterns come into a scope
pub record Binds (l : List ℕ) (at owed : ℕ) (before after : List Bool) (r : Result ℕ BadWord) : Type 0 where
  pub answer : (ts : Terms) (scope checks : List ℕ) → Stands l at owed ts → Marks variables before scope
      → Agrees (at + length (words_of ts)) (λ scope' checks'. Marks variables after scope' × (checks' ≡ checks)) (binds_all scope ts at checks) r
  pub onward : Onward at r

-- whether a word keeps its rule
pub record Rules (w : ℕ) (marks : List Bool) (arities : List ℕ) (unique : Bool) (met : List Bool) (r : Bool) : Type 0 where
  pub answer : (places spot : ℕ) (scope checks : List ℕ) → fits places spot w ≡ true → Marks variables marks scope → Marks check_numbers met checks
      → r ≡ keeps_rule arities unique scope checks (tag_of w) (n_of w) (k_of w)

-- a word that has no rule and opens no scope: an integer takes two words, a tag from atom to call one word with n terms below it
pub record IsLight (w : ℕ) (g : Light) : Type 0 where
  pub some : 0 < g.words
  pub few : g.words ≤ 2
  pub few_below : g.below ≤ 256
  pub integer : tag_of w ≡ tag_integer → (g.words ≡ 2) × (g.below ≡ 0)
  pub plain : ¬ (tag_of w ≡ tag_integer) → (tag_atom ≤ tag_of w) × (tag_of w ≤ tag_call) × (g.words ≡ 1) × (g.below ≡ n_of w)

-- what is told to be light is so; an integer is always told
abbrev pub LightWord : (w : ℕ) → Option Light → Type 0
LightWord w r = MatchOption r (¬ (tag_of w ≡ tag_integer)) (IsLight w)

-- terms outside patterns, all in one scope
pub record Keeps (l : List ℕ) (at owed : ℕ) (marks : List Bool) (arities : List ℕ) (unique : Bool) (before after : List Bool) (r : Result ℕ BadWord) : Type 0 where
  pub answer : (ts : Terms) (scope checks : List ℕ) → Stands l at owed ts → Marks variables marks scope → Marks check_numbers before checks
      → Agrees (at + length (words_of ts)) (λ scope' checks'. Marks check_numbers after checks') (keeps_all arities unique scope ts at checks) r
  pub onward : Onward at r

-- a walk has come to a, where so many terms are still to come: what answers for those answers for all
pub record Gets (l : List ℕ) (at owed : ℕ) (marks : List Bool) (arities : List ℕ) (unique : Bool) (before : List Bool) (a left : ℕ) (met : List Bool) : Type 0 where
  pub goes : (after : List Bool) (r : Result ℕ BadWord) → Keeps l a left marks arities unique met after r → Keeps l at owed marks arities unique before after r
  pub no_less : at ≤ a

-- it has come to a let or a clause, which keeps its rule
pub record Opened (l : List ℕ) (at owed : ℕ) (marks : List Bool) (arities : List ℕ) (unique : Bool) (before : List Bool) (a left : ℕ) (met : List Bool) : Type 0 where
  pub gets : Gets l at owed marks arities unique before a left met
  pub more : ¬ (left ≡ 0)
  pub inside : a < length l
  pub rule : Rules (get_or l a 0) marks arities unique met true
  pub opens : (tag_of (get_or l a 0) ≡ tag_let) ⊎ (tag_of (get_or l a 0) ≡ tag_clause)

-- terms outside patterns, as far as words open no scope
unfoldable pub KeepsPlain : (l : List ℕ) (at owed : ℕ) (marks : List Bool) (arities : List ℕ) (unique : Bool) (before after : List Bool) → Result Run BadWord → Type 0
KeepsPlain l at owed marks arities unique before after (Ok (Ends a)) = Keeps l at owed marks arities unique before after (Ok a)
KeepsPlain l at owed marks arities unique before after (Ok (Turns turn)) = Opened l at owed marks arities unique before turn.at turn.owed after
KeepsPlain l at owed marks arities unique before after (Err bad) = Keeps l at owed marks arities unique before after (Err bad)

-- terms in one scope, then terms in another
pub record KeepsBoth (l : List ℕ) (at first second : ℕ) (inner outer : List Bool) (arities : List ℕ) (unique : Bool) (before after : List Bool) (r : Result ℕ BadWord) : Type 0 where
  pub answer : (ts us : Terms) (scope scope' checks : List ℕ) → Stands l at first ts → Stands l (at + length (words_of ts)) second us → Marks variables inner scope → Marks variables outer scope' → Marks check_numbers before checks
      → Agrees (at + length (words_of ts) + length (words_of us)) (λ scope'' checks''. Marks check_numbers after checks'')
      (and_then (keeps_all arities unique scope ts at checks) (λ at' scope'' checks'. keeps_all arities unique scope' us at' checks')) r
  pub onward : Onward at r
