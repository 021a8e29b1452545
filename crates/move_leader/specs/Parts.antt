-- Parts of the code, cited within the library alone, on which the promise of `record` does not rest: the leader so
-- far in its search, as its distance and its position.
use Rattle.std.specs.Prelude.{cond, Float}
use Rattle.float.specs.Float.{is_total_before}
use Rattle.std.specs.declared.option.Option.{Option}
use Rattle.std.specs.declared.option.Option.TheVariants.{None, Some}

-- the nearer of two with their distances, the earlier where neither is
abbrev pub nearer_leader : Option (Float × Float) → Float → Float → Option (Float × Float)
nearer_leader None distance position = Some (distance, position)
nearer_leader (Some (nearest, place)) distance position =
    cond (is_total_before distance nearest) (Some (distance, position)) (Some (nearest, place))
