-- 01's cases on modules, computed; and one for each part of the module check.
use Rattle.std.specs.Prelude.{◌≡◌, refl, [], ◌∷◌, replicate}
use Rattle.std.proofs.Math.Option.{none, some}
use Rattle.term.specs.Module.{check_module}

-- "P: module 12000000 alone: 1 at 1. 12010000 01000000: 1 at 0. 12000000 01000000: 1 at 1."
pub record ModuleCases : Type 0 where
  pub alone : check_module (0x12000000 ∷ []) ≡ some 1
  pub parameter : check_module (0x12010000 ∷ 0x01000000 ∷ []) ≡ some 0
  pub unbound : check_module (0x12000000 ∷ 0x01000000 ∷ []) ≡ some 1

pub module_cases : ModuleCases
unfolding check_module
module_cases = record { alone = refl; parameter = refl; unbound = refl }

-- 01's sentences on modules, each with a module that turns on it
pub record ModuleSentences : Type 0 where
  -- the bench's own module is good
  pub good : check_module (0x12000000 ∷ 0x0B020000 ∷ 0x10000007 ∷ 0x01000000 ∷ []) ≡ none
  -- "A module longer than 512 gives 512."
  pub long : check_module (replicate 513 0) ≡ some 512
  -- "the length if words run out": nothing, and an integer without its two's complement
  pub empty : check_module [] ≡ some 0
  pub no_payload : check_module (0x12000000 ∷ 0x03000000 ∷ []) ≡ some 2
  -- "pid (never in a module)"
  pub pid : check_module (0x12000000 ∷ 0x04000000 ∷ []) ≡ some 1
  -- "Clauses stand only in case and receive."
  pub clause : check_module (0x12000000 ∷ 0x11030000 ∷ 0x02000000 ∷ 0x02000000 ∷ 0x02000000 ∷ []) ≡ some 1
  -- "Guards use 1, 2, 3, 5, 8": a tuple is none of them
  pub guard_tags : check_module (0x12000000 ∷ 0x0C010000 ∷ 0x11030000 ∷ 0x01000000 ∷ 0x07000000 ∷ 0x02000000 ∷ []) ≡ some 4
  -- "shape comes first": the unbound variable at 3 is not looked at, since the shape fails at 4
  pub shape_first : check_module (0x12000000 ∷ 0x06020000 ∷ 0x10000000 ∷ 0x01000000 ∷ 0x11030000 ∷ []) ≡ some 4
  -- "of two equal numbers or binders the later breaks it"
  pub check_twice : check_module (0x12000000 ∷ 0x06020000 ∷ 0x10000003 ∷ 0x10000003 ∷ []) ≡ some 3
  pub bound_again : check_module (0x12000000 ∷ 0x0B020000 ∷ 0x02000000 ∷ 0x0B020000 ∷ 0x02000000 ∷ 0x01000000 ∷ []) ≡ some 3
  -- "no variable twice" in a pattern
  pub variable_twice : check_module (0x12000000 ∷ 0x0C010000 ∷ 0x11030000 ∷ 0x06020000 ∷ 0x01000000 ∷ 0x01000000 ∷ 0x02000000 ∷ 0x02000000 ∷ []) ≡ some 5
  -- a let's variable is bound in its body alone
  pub not_in_bound : check_module (0x12000000 ∷ 0x0B020000 ∷ 0x01000000 ∷ 0x01000000 ∷ []) ≡ some 2
  pub bound_beside : check_module (0x12000000 ∷ 0x0B020000 ∷ 0x0B020000 ∷ 0x02000000 ∷ 0x01000000 ∷ 0x01000000 ∷ []) ≡ none
  -- "Apply and spawn name an existing function with its parameter count."
  pub no_function : check_module (0x12000000 ∷ 0x09000001 ∷ []) ≡ some 1
  pub wrong_count : check_module (0x12000000 ∷ 0x0D010000 ∷ 0x05000000 ∷ []) ≡ some 1

pub module_sentences : ModuleSentences
unfolding check_module
module_sentences = record {
  good = refl;
  long = refl;
  empty = refl;
  no_payload = refl;
  pid = refl;
  clause = refl;
  guard_tags = refl;
  shape_first = refl;
  check_twice = refl;
  bound_again = refl;
  variable_twice = refl;
  not_in_bound = refl;
  bound_beside = refl;
  no_function = refl;
  wrong_count = refl;
}
