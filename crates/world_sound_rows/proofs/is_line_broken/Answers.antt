-- `world_sound_rows::is_line_broken` meets its contract: past the test of its length the list's slice has all its
-- stops, so the fold over it is the definition's search by number. Assumes nothing.
use Rattle.std.proofs.Common.{◌∙◌}
use borrow.Author.Tests.{le-ltb}
use Rattle.world_sound_rows.specs.Rows.{is_line_broken, is_unloaded}
use Rattle.world_sound_rows.proofs.AnyTo.{fold_of_table}
use Rattle.world_sound_rows.proofs.is_line_broken.Goals as goal

pub returns-else-listed-gt64 : goal.returns-else-listed-gt64
unfolding is_line_broken
returns-else-listed-gt64 c =
    let few = c.if-listed-gt64.false in
    rw (le-ltb 64 c.args.line.serves.stops.count few)
    (c.has_unloaded.ensures ∙ fold_of_table (is_unloaded c.args.stops) c.args.line.serves.stops 0 c.as_slice.ensures.items c.as_slice.ensures.len few)
