-- `world_sound_rows::is_car_broken` meets its contract: past the test of its length the queue's slice has all its
-- stops, so the fold over it is the definition's search by number. Assumes nothing.
use Rattle.std.proofs.Common.{◌∙◌}
use borrow.Author.Tests.{le-ltb}
use Rattle.world_sound_rows.specs.Rows.{is_car_broken, is_unloaded}
use Rattle.world_sound_rows.proofs.AnyTo.{fold_of_table}
use Rattle.world_sound_rows.proofs.is_car_broken.Goals as goal

pub returns-else-queue-gt8 : goal.returns-else-queue-gt8
unfolding is_car_broken
returns-else-queue-gt8 c =
    let few = c.if-queue-gt8.false in
    let queue = c.has_unloaded.ensures ∙ fold_of_table (is_unloaded c.args.stops) c.args.car.destination_queue 0 c.as_slice.ensures.items c.as_slice.ensures.len few in
    rw (le-ltb 8 c.args.car.destination_queue.count few, queue, c.is_option_unloaded.ensures, c.is_phase_unloaded.ensures, c.is_unloaded.ensures)
