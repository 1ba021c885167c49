-- What is shown of images: their length, that no two sound states share one, and that they are made of words. `image_laws` of proofs/ shows them.
use Rattle.std.specs.Prelude.{ℕ, ◌+◌, ◌*◌, ◌≤◌, ◌<◌, ◌≡◌, List, ◌++◌, length}
use Rattle.std.proofs.Math.Option.{some}
use Rattle.lists.specs.Lists.{All}
use Rattle.rules.specs.State.{Sizes, Entry, Process, State, history_at, entry_at}
use Rattle.rules.specs.Sound.{Sound}
use Rattle.rules.specs.Bench.{bench_sizes, bench_store}
use Rattle.store.specs.Layout.{needed, image}

-- "The store is a lent slice of 32-bit words."
abbrev pub word_limit : ℕ
word_limit = 4294967296

abbrev pub IsWord : ℕ → Type 0
IsWord w = w < word_limit

-- the module and all controls are made of 32-bit words
pub record Worded (s : State) : Type 0 where
  pub module_words : All IsWord s.module'
  pub control_words : (p : ℕ) (process : Process) → s.processes p ≡ some process → All IsWord process.control
  pub before_words : (p i : ℕ) (e : Entry) → entry_at (history_at s p) i ≡ some e → All IsWord e.before

-- 01: "at most 1,024 + P(H+2)(W + PH + 8)"
unfoldable pub most_needed : Sizes → ℕ
most_needed sizes = 1024 + sizes.places * ((sizes.entries + 2) * (sizes.words + sizes.places * sizes.entries + 8))

pub record ImageLaws : Type 0 where
  -- an image has the length that its sizes need, which 01 bounds
  pub image_length : (s : State) → length (image s) ≡ needed s.sizes
  pub needed_most : (sizes : Sizes) → needed sizes ≤ most_needed sizes
  pub bench_fits : needed bench_sizes ≤ bench_store
  -- "Each sound state has exactly one store image": `image` is a function, and no other sound state has that image
  pub one_state : (s s' : State) (rest rest' : List ℕ) → Sound s → Sound s' → image s ++ rest ≡ image s' ++ rest' → (s ≡ s') × (rest ≡ rest')
  -- it is made of 32-bit words, where the module and the controls are
  pub image_words : (s : State) → Sound s → Worded s → All IsWord (image s)
  -- which they are wherever the image stands in a store
  pub stored_words : (s : State) (rest : List ℕ) → Sound s → All IsWord (image s ++ rest) → Worded s
