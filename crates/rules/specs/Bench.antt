-- The program bench: what it prints.
use Rattle.std.specs.Prelude.{ℕ, List, [], ◌∷◌}
use Rattle.rules.specs.State.{Sizes}
use Rattle.rules.specs.Load.{load}
use Rattle.rules.specs.Line.{lines_of}
use Rattle.rules.specs.Replies.{after_load}
use Rattle.rules.specs.Opened.{opened}

-- the module's words, P, H, W and the input's bytes give the output's bytes
unfoldable pub bench : (module' : List ℕ) (places entries words : ℕ) (input : List ℕ) → List ℕ
unfolding opened
bench module' places entries words input = after_load (load module' (record { places = places; entries = entries; words = words })) (lines_of input)

-- "keeps a store of 10,816 words, zero at start (P 4, H 16, W 64), holds the module 12000000 0B020000 10000007 01000000"
abbrev pub bench_module : List ℕ
bench_module = 0x12000000 ∷ 0x0B020000 ∷ 0x10000007 ∷ 0x01000000 ∷ []

abbrev pub bench_sizes : Sizes
bench_sizes = record { places = 4; entries = 16; words = 64 }

abbrev pub bench_store : ℕ
bench_store = 10816
