-- Bounds within which the code's counts and places fit its numbers.
use Rattle.std.specs.Prelude.{ℕ}

-- no word has more children
abbrev pub most_children : ℕ
most_children = 256

-- terms still to be passed are fewer, 2^63 ..
abbrev pub pending_limit : ℕ
pending_limit = 9223372036854775808

-- .. in rows of fewer words than 2^48
abbrev pub walk_limit : ℕ
walk_limit = 281474976710656

-- a place in a shorter row, and the place after it, fit a word
abbrev pub place_limit : ℕ
place_limit = 4294967295
