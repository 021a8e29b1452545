-- A car's turn, put together of its parts: words written before it come before its own. Assumes nothing.
use mathlib.Core.List.{List}
use Prim.Native.Nat.{ℕ}
use Rattle.world.specs.declared.Car.{Car}
use Rattle.log_writes.specs.Parts.{Written, Log}
use Rattle.log_writes.proofs.Written.{written_also}
use Rattle.turn.specs.declared.JustOpened.{JustOpened}
use Rattle.std.specs.declared.option.Option.{Option}
use Rattle.doors_tick.specs.Ticks.{DoorTurn, after_words}
use Rattle.doors_tick.specs.Parts.{DoorTurnMade}

-- words, then a turn
pub then : {words : List ℕ} {l l' l'' : Log} {t : DoorTurn} {c : Car} {o : Option JustOpened} → Written l words l'
    → DoorTurnMade t l' l'' c o → DoorTurnMade (after_words words t) l l'' c o
then w h = record { car = h.car; written = written_also w h.written; opens = h.opens }
