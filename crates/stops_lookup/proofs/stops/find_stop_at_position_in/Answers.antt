-- What `find` gives over the list's stops is the first that stands there. Assumes nothing.
use mathlib.Core.Path.{sym, ◌∙◌}
use borrow.Author.Tests.{tests}
use Rattle.std.proofs.Common.{rules}
use Rattle.std.proofs.lemmas.Iterator.{YieldsList-from_slice}
use Rattle.std.proofs.lemmas.Iterator.Adapters.{option_map_id}
use Rattle.std.proofs.lemmas.Iterator.Consumers.{YieldsList-from_copied}
use Rattle.std.proofs.lemmas.Iterator.Search.{find_from_yields_List}
use Rattle.world.specs.World.{stop_position}
use Rattle.stops_lookup.specs.Stops.{is_standing_at}
use Rattle.stops_lookup.proofs.Standing.{listed_found}
use Rattle.stops_lookup.proofs.stops.find_stop_at_position_in.Goals as goal

pub returns : goal.returns
returns c =
    listed_found c.args.stops.now c.args.position c.args.serves.now c.as_slice.result.now c.find.result c.as_slice.ensures.items c.as_slice.ensures.len
    (sym (option_map_id _)
    ∙ find_from_yields_List (λ s. is_standing_at (stop_position c.args.stops.now s) c.args.position) _ _ c.find.result c.find.ensures.ran
    (YieldsList-from_copied (YieldsList-from_slice c.as_slice.result.now cc))
    (λ x b q k. search (rules, tests)))
