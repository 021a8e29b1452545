-- What `position` gives over the table's stops is the first that stands there. Assumes nothing.
use mathlib.Core.Path.{◌≡◌}
use native.Mathlib.Omega.{arith}
use borrow.Author.Tests.{tests}
use Rattle.std.proofs.Common.{rules}
use Rattle.std.proofs.lemmas.Iterator.{YieldsList-from_slice}
use Rattle.std.proofs.lemmas.Iterator.Search.{position_from_yields_List}
use Rattle.std.specs.List.{position}
use Rattle.stops_lookup.specs.Stops.{is_standing_at}
use Rattle.stops_lookup.proofs.Standing.{place_found}
use Rattle.stops_lookup.proofs.stops.find_stop_at_position.Goals as goal

pub returns : goal.returns
returns c =
    let e : c.position.result ≡ position (λ stop. is_standing_at stop c.args.position) c.as_slice.result.now =
    position_from_yields_List _ _ _ _ c.position.ensures.ran (YieldsList-from_slice c.as_slice.result.now cc) (λ x b q k. search (rules, tests))
    in
    place_found c.args.stops.now c.args.position c.as_slice.result.now c.map.result c.as_slice.ensures.items c.as_slice.ensures.len (grind (arith, e))
