-- Parts of the code, cited within the library alone, on which the promise of `record` does not rest: the sort of
-- stops as the table that the code keeps.
use Rattle.std.specs.Prelude.{List, ◌++◌, ℕ, ◌-◌, replicate, Float}
use Rattle.stops_sort.specs.Sorted.{sorted_stops}

-- the numbers below n, sorted, as a table of 64, with zeros past the end
abbrev pub sorted_table : List Float → ℕ → List ℕ
sorted_table stops n = sorted_stops stops n ++ replicate (64 - n) 0
