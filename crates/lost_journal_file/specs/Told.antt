-- A call as its numbers and its bytes say it. (Own.)
use Rattle.std.specs.Prelude.{ℕ, List, ◌++◌, drop, slice_index, ◌==◌}
use Rattle.sqlite_disk.specs.Events.{Event}

-- Numbers behind the fourth stand before the bytes.
abbrev pub event_of : List ℕ → List ℕ → Event
event_of numbers bytes = (slice_index numbers 0, slice_index numbers 1, slice_index numbers 2, slice_index numbers 3 == 1, drop 4 numbers ++ bytes)
