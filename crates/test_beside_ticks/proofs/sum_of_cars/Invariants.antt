-- The cars so far are in the sum.
use Rattle.std.proofs.Common.{◌≡◌}
use Rattle.test_beside_ticks.specs.Bench.{cars_sum_to}
use Rattle.test_beside_ticks.proofs.sum_of_cars.Given as goal

abbrev pub invariant-loop-car : goal.invariant-loop-car
invariant-loop-car l = l.total ≡ cars_sum_to l.cars l.car-index
