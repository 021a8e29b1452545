-- Parts of the code, cited within the library alone, on which the promise of `record` does not rest: a door whose
-- phase has one tick fewer to go.
use Rattle.std.specs.Prelude.{◌-◌}
use Rattle.door.specs.declared.DoorState.{DoorState}
use Rattle.door.specs.declared.DoorState.TheVariants.{Closed, Opening, Open, Closing}

-- one tick fewer remains of its phase
abbrev pub one_less : DoorState → DoorState
one_less Closed = Closed
one_less (Opening ticks od cd) = Opening (ticks - 1) od cd
one_less (Open ticks cd) = Open (ticks - 1) cd
one_less (Closing ticks) = Closing (ticks - 1)
