-- `world_sound::is_broken` meets its contract: past the test of the counts each table's slice has all its rows, so
-- `any` over it is the definition's search of the rows by number. Assumes nothing.
use Rattle.std.proofs.Common.{◌∙◌, sym, rules}
use borrow.Author.Tests.{tests}
use Rattle.std.proofs.lemmas.Iterator.{YieldsList-from_slice}
use Rattle.std.proofs.lemmas.Iterator.Search.{any_from_yields_List}
use Rattle.world.specs.World.{no_line, no_car, no_rider}
use Rattle.world_sound_rows.specs.Rows.{is_line_broken, is_car_broken, is_rider_broken}
use Rattle.world_sound_rows.proofs.AnyTo.{any_of_table}
use Rattle.world_sound.specs.Sound.{is_broken}
use Rattle.world_sound.proofs.Unbroken.{Counts, counts_fit}
use Rattle.world_sound.proofs.is_broken.Goals as goal
use Rattle.world_sound.proofs.is_broken.Goals.{Else-has_broken_count}

-- past the first test the counts fit their tables
fits : (c : Else-has_broken_count) → Counts c.args.world.now
fits c = counts_fit c.args.world.now (sym c.has_broken_count.ensures ∙ c.if-has_broken_count.false)

pub returns-then-has_broken_count : goal.returns-then-has_broken_count
unfolding is_broken
returns-then-has_broken_count c = rw (← c.has_broken_count.ensures, c.if-has_broken_count.true)

pub returns-else-has_broken_count : goal.returns-else-has_broken_count
unfolding is_broken
returns-else-has_broken_count c =
    let w = c.args.world.now in
    let f = fits (goal.at.returns-else-has_broken_count c).Else-has_broken_count in
    let line = is_line_broken w.stops.count in
    let car = is_car_broken w.lines.count w.stops.count in
    let rider = is_rider_broken w.stops.count w.cars.count in
    let lines =
    any_from_yields_List line _ _ _ c.any.ensures.ran (YieldsList-from_slice c.as_slice.result.now cc) (λ x b q k. search (rules, tests))
    ∙ any_of_table line w.lines no_line c.as_slice.ensures.items c.as_slice.ensures.len f.lines in
    let cars =
    any_from_yields_List car _ _ _ c.any-else-has_broken_count.ensures.ran (YieldsList-from_slice c.as_slice-else-has_broken_count.result.now cc) (λ x b q k. search (rules, tests))
    ∙ any_of_table car w.cars no_car c.as_slice-else-has_broken_count.ensures.items c.as_slice-else-has_broken_count.ensures.len f.cars in
    let riders =
    any_from_yields_List rider _ _ _ c.any-else-has_broken_count-2.ensures.ran (YieldsList-from_slice c.as_slice-else-has_broken_count-2.result.now cc) (λ x b q k. search (rules, tests))
    ∙ any_of_table rider w.riders no_rider c.as_slice-else-has_broken_count-2.ensures.items c.as_slice-else-has_broken_count-2.ensures.len f.riders in
    rw (← c.has_broken_count.ensures, c.if-has_broken_count.false, ← lines, ← cars, ← riders, ← c.has_unloaded_call.ensures, ← c.has_unloaded_call-else-has_broken_count.ensures)
