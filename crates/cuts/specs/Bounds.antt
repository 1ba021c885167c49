-- How many numbers a rollback goes by, at most. 01: "P process places, 1 to 16; H history entries for each process, 1 to 64".
use Rattle.std.specs.Prelude.{ℕ, ◌+◌, ◌*◌}
pub use Rattle.store.specs.Layout.{most_places, most_entries}

-- a place has two lines of events: its entries, and the deliveries to it
abbrev pub line_count : ℕ
line_count = 2 * most_places

-- an entry has at most two links of a sort: a rec with the arrivals before and after it, a spawn with its child's first events
abbrev pub links_each : ℕ
links_each = 2

abbrev pub links_of_place : ℕ
links_of_place = most_entries * links_each

abbrev pub links_of_sort : ℕ
links_of_sort = most_places * links_of_place

-- the links of both sorts
abbrev pub most_links : ℕ
most_links = 2 * links_of_sort

-- a queue holds no more messages than there are entries that could have sent them
abbrev pub most_queued : ℕ
most_queued = most_places * most_entries

-- and the recs of a place took one each
abbrev pub most_come : ℕ
most_come = most_queued + most_entries

-- no line has more events than that
abbrev pub most_events : ℕ
most_events = line_count * most_come
