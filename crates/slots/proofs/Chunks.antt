-- Going over blocks of one size by `chunks_exact`: those that are ahead, the first of them, and the others.
use Prim.Native.Nat.{ℕ, zero, suc, ◌-◌, ◌*◌, ◌<◌}
use mathlib.Core.Path.{◌≡◌, refl, sym, ◌∙◌, ap, subst}
use mathlib.Core.List.{List, [], ◌∷◌, ◌++◌, append-nil}
use native.Mathlib.Omega.{arith}
use denote.Ref.{Bor}
use lib.ListN.{length, take, drop, length-append, drop_of_length-le}
use lib.Seq.{take_at, drop_at}
use Rattle.std.specs.Prelude.{Some, None}
use Rattle.std.specs.Slice.Iter.{chunks_exact_rest, chunks_exact_size, chunks_exact_steps}
use Rattle.std.specs.declared.slice.ChunksExact.{ChunksExact}
use Rattle.lists.specs.Lists.{All, joined}
use Rattle.lists.proofs.Blocks.{chop, chop_again, each_chop}
use Rattle.slots.proofs.SoundTestWalk.{behind}

-- what an iterator has left are these blocks
record Ahead (s : ChunksExact ℕ) (blocks : List (List ℕ)) : Type 0 where
  some : 0 < chunks_exact_size s
  joins : joined blocks ≡ chunks_exact_rest s
  long : All (λ b. length b ≡ chunks_exact_size s) blocks

-- the first of them
record First (s t : ChunksExact ℕ) (b : List ℕ) (blocks : List (List ℕ)) : Type 0 where
  others : List (List ℕ)
  is : blocks ≡ b ∷ others
  ahead : Ahead t others

first_of : (s t : ChunksExact ℕ) (x : Bor (List ℕ)) (blocks : List (List ℕ)) → Ahead s blocks → chunks_exact_steps s (Some x) t → First s t x.now blocks
unfolding joined All
first_of s t x [] a h = absurd (let e = ap length a.joins in let l = ap length h.1.0 in omega (arith, e, l, h.1.1, a.some, length-append x.now (chunks_exact_rest t)))
first_of s t x (b ∷ others) a h =
    let whole : b ++ joined others ≡ x.now ++ chunks_exact_rest t = a.joins ∙ h.1.0 in
    let size = chunks_exact_size s in
    let front : b ≡ x.now = sym (take_at b (joined others) size a.long.0) ∙ ap (take size) whole ∙ take_at x.now (chunks_exact_rest t) size h.1.1 in
    let behind : joined others ≡ chunks_exact_rest t = sym (drop_at b (joined others) size a.long.0) ∙ ap (drop size) whole ∙ drop_at x.now (chunks_exact_rest t) size h.1.1 in
    record {
      others = others;
      is = ap (λ (c : List ℕ). c ∷ others) front;
      ahead = record { some = omega (arith, a.some, h.0); joins = behind; long = subst (λ (n : ℕ). All (λ c. length c ≡ n) others) (sym h.0) a.long.1 };
    }

none_of : (s t : ChunksExact ℕ) (blocks : List (List ℕ)) → Ahead s blocks → chunks_exact_steps s None t → blocks ≡ []
unfolding joined All
none_of s t [] a h = refl
none_of s t (b ∷ others) a h = absurd (let e = ap length a.joins in omega (arith, e, length-append b (joined others), a.long.0, h.1.0))

-- blocks of which nothing is asked
abbrev pub Any : List ℕ → Type 0
Any b = Unit {0}

pub any_all : (blocks : List (List ℕ)) → All Any blocks
unfolding All
any_all [] = tt
any_all (b ∷ blocks) = (tt, any_all blocks)

-- where there are blocks, and none is empty, their size is not 0
pub size_some : (P : List ℕ → Type 0) → ((b : List ℕ) → P b → 0 < length b) → (n size : ℕ) (l : List ℕ) → All P (chop n size l) → ¬ (n ≡ 0) → 0 < size
unfolding chop All
size_some P full zero size l each some = absurd (some refl)
size_some P full (suc n) zero l each some = full [] each.0
size_some P full (suc n) (suc size) l each some = omega arith

-- nor is that of the slots in a block that is not empty: one, and so many behind it
pub slot_some : (size n : ℕ) (b : List ℕ) → 0 < length b → length (drop size b) ≡ n * size → 0 < size
slot_some zero n b full long = omega (arith, full, long)
slot_some (suc size) n b full long = omega arith

-- a loop over blocks of a size, each with a property P, that M is said of those ahead
module _ (size : ℕ) (P : List ℕ → Type 0) where
  pub record Going (M : List (List ℕ) → Type 0) (s : ChunksExact ℕ) : Type 0 where
    sized : chunks_exact_size s ≡ size
    blocks : List (List ℕ)
    ahead : Ahead s blocks
    each : All P blocks
    said : M blocks

  pub going_start : (M : List (List ℕ) → Type 0) (n : ℕ) (l : List ℕ) (s : ChunksExact ℕ) → chunks_exact_rest s ≡ l → chunks_exact_size s ≡ size → 0 < size → length l ≡ n * size
      → All P (chop n size l) → M (chop n size l) → Going M s
  going_start M n l s er es some long each said =
      let all : joined (chop n size l) ≡ l =
      sym (append-nil (joined (chop n size l))) ∙ ap (λ (r : List ℕ). joined (chop n size l) ++ r) (sym (drop_of_length-le l {i = n * size} (omega (arith, long)))) ∙ chop_again n size l in
      record {
        sized = es;
        blocks = chop n size l;
        ahead = record { some = omega (arith, some, es); joins = all ∙ sym er; long = subst (λ (k : ℕ). All (λ b. length b ≡ k) (chop n size l)) (sym es) (each_chop n size l (omega (arith, long))) };
        each = each;
        said = said;
      }

  -- the same behind the first part of a block
  pub going_behind : (M : List (List ℕ) → Type 0) (n : ℕ) (l : List ℕ) (s : ChunksExact ℕ) → chunks_exact_rest s ≡ take (length l - size) (drop size l) → chunks_exact_size s ≡ size → 0 < size → length (drop size l) ≡ n * size
      → All P (chop n size (drop size l)) → M (chop n size (drop size l)) → Going M s
  going_behind M n l s er = going_start M n (drop size l) s (er ∙ behind size l)

  module _ (M : List (List ℕ) → Type 0) (s t : ChunksExact ℕ) (at : Going M s) where
    pub going_done : chunks_exact_steps s None t → M []
    going_done h = subst M (none_of s t at.blocks at.ahead h) at.said

    module _ (x : Bor (List ℕ)) (h : chunks_exact_steps s (Some x) t) where
      first : First s t x.now at.blocks
      first = first_of s t x at.blocks at.ahead h

      each_of : P x.now × All P first.others
      unfolding All
      each_of = subst (All P) first.is at.each

      pub going_first : P x.now
      going_first = each_of.0

      pub first_long : length x.now ≡ size
      first_long = h.1.1 ∙ at.sized

      -- a turn that goes on, and what one that leaves stands on
      pub going_next : (N : List (List ℕ) → Type 0) → ((others : List (List ℕ)) → M (x.now ∷ others) → N others) → Going N t
      going_next N law = record { sized = h.0 ∙ at.sized; blocks = first.others; ahead = first.ahead; each = each_of.1; said = law first.others (subst M first.is at.said) }

      pub going_out : (V : Type 0) → ((others : List (List ℕ)) → M (x.now ∷ others) → V) → V
      going_out V law = law first.others (subst M first.is at.said)
