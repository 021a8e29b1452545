-- `move_turn::sort::SortedStops::count_up_to` meets its contract: those at most the threshold stand first in the
-- sort, so the partition point is how many they are. Assumes nothing.
use Rattle.std.proofs.Common.{rules, ℕ, min}
use lib.Ieee.{le}
use Rattle.std.proofs.lemmas.List.Sorted.{IsPartitionPoint-from_clause}
use Rattle.world.specs.World.{stop_position}
use Rattle.stops_sort.specs.Sorted.{sorted_stops}
use Rattle.move_turn.specs.Passing.{start_of}
use Rattle.move_turn.proofs.Counting.{start_split, parted, point_is_count}
use Rattle.move_turn.proofs.sort.SortedStops.count_up_to.Goals as goal

pub returns : goal.returns
unfolding start_of
returns c =
    let v = c.args.self.now in
    let is = λ (s : ℕ). le (stop_position v.items s) c.args.threshold in
    let xs = sorted_stops v.items (min v.count 64) in
    let split = start_split v.items (min v.count 64) c.args.threshold in
    let p = rw c.sorted.ensures at c.partition_point.ensures in
    point_is_count is xs split _ p.bound (IsPartitionPoint-from_clause is xs _ p.partitioned (parted is xs split) (λ s r f k. search rules))
