-- The examples that document 01 marks (m), in its order: a list of what each formula gives and what it is to give.
use Rattle.std.specs.Prelude.{◌≡◌, true, false, List, [], ◌∷◌, ℕ, length, Float}
use Rattle.std.specs.Float.{binary64}
use Rattle.std.specs.Float.Ieee.{of_bits}
use Rattle.float.specs.Float.{zero, one, two}
use Rattle.motion.specs.Cyclic.{wrap_position, forward_distance}
use Rattle.motion.specs.Movement.{tick_movement, headway_clamp_target}
use Rattle.motion.specs.declared.movement.MovementResult.{MovementResult}
use Rattle.door.specs.Door.{request_open}
use Rattle.door.specs.Phases.{transition_at}
use Rattle.door.specs.declared.DoorTransition.{DoorTransition}
use Rattle.door.specs.declared.DoorTransition.TheVariants.{FinishedOpening, FinishedOpen, FinishedClosing}
use Rattle.stops_next.specs.NextStop.{loop_next_stop_forward}
use Rattle.std.specs.declared.option.Option.{Option}
use Rattle.std.specs.declared.option.Option.TheVariants.{None, Some}

-- ---- the numbers

abbrev minus_one : Float
minus_one = of_bits binary64 0xbff0_0000_0000_0000

abbrev half : Float
half = of_bits binary64 0x3fe0_0000_0000_0000

abbrev minus_half : Float
minus_half = of_bits binary64 0xbfe0_0000_0000_0000

abbrev quarter : Float
quarter = of_bits binary64 0x3fd0_0000_0000_0000

abbrev minus_quarter : Float
minus_quarter = of_bits binary64 0xbfd0_0000_0000_0000

abbrev three : Float
three = of_bits binary64 0x4008_0000_0000_0000

abbrev four : Float
four = of_bits binary64 0x4010_0000_0000_0000

abbrev seven : Float
seven = of_bits binary64 0x401c_0000_0000_0000

abbrev nine : Float
nine = of_bits binary64 0x4022_0000_0000_0000

-- 9.75
abbrev nine¾ : Float
nine¾ = of_bits binary64 0x4023_8000_0000_0000

abbrev ten : Float
ten = of_bits binary64 0x4024_0000_0000_0000

-- 1e-20
abbrev tiny : Float
tiny = of_bits binary64 0x3bc7_9ca1_0c92_4223

abbrev minus_tiny : Float
minus_tiny = of_bits binary64 0xbbc7_9ca1_0c92_4223

-- ---- the list

-- what a formula gives
pub data FormulaAnswer : Type 0 where
  moved : MovementResult → FormulaAnswer
  place : Float → FormulaAnswer
  next : Option ℕ → FormulaAnswer
  transition : DoorTransition → FormulaAnswer

pub record Example : Type 0 where
  pub gives : FormulaAnswer
  pub expected : FormulaAnswer

abbrev example : FormulaAnswer → FormulaAnswer → Example
example g e = record { gives = g; expected = e }

-- tick_movement with max 2, rates 1, dt 0.5
abbrev tick_moved : Float → Float → Float → FormulaAnswer
tick_moved position velocity target = moved (tick_movement position velocity target two one one half)

abbrev moving : Float → Float → FormulaAnswer
moving position velocity = moved (record { position = position; velocity = velocity; arrived = false })

abbrev arrived : Float → FormulaAnswer
arrived position = moved (record { position = position; velocity = zero; arrived = true })

-- stop 0 at 0, 1 at 4 and 2 at 7 on a circle of 10: the next stop from 4 of a line that serves these
abbrev next_from_four : List ℕ → FormulaAnswer
next_from_four serves =
    next
    (loop_next_stop_forward (zero ∷ four ∷ seven ∷ []) ten (record { items = serves; count = length serves }) four)

abbrev pub examples : List Example
examples =
    -- (0, 0, to 10) gives 0.25, 0.5, moving
    example (tick_moved zero zero ten) (moving quarter half)
    -- (9.75, 0.5, to 10) gives 10, 0, arrived
    ∷ example (tick_moved nine¾ half ten) (arrived ten)
    -- (0, -1, to 10) gives -0.25, -0.5, moving
    ∷ example (tick_moved zero minus_one ten) (moving minus_quarter minus_half)
    -- wrap(-1, 10) = 9
    ∷ example (place (wrap_position minus_one ten)) (place nine)
    -- wrap(10, 10) = 0
    ∷ example (place (wrap_position ten ten)) (place zero)
    -- wrap(-1e-20, 10) = 0
    ∷ example (place (wrap_position minus_tiny ten)) (place zero)
    -- forward(1e-20, 0, 10) = 10, the whole circle
    ∷ example (place (forward_distance tiny zero ten)) (place ten)
    -- headway (trailer 0, leader 4, target 9, headway 3, circle 10) = 1
    ∷ example (place (headway_clamp_target zero four nine three ten)) (place one)
    -- leader 2 gives 0
    ∷ example (place (headway_clamp_target zero two nine three ten)) (place zero)
    -- next from 4 among 0, 4, 7 on 10 is 7
    ∷ example (next_from_four (0 ∷ 1 ∷ 2 ∷ [])) (next (Some 2))
    -- among 4 only, 4
    ∷ example (next_from_four (1 ∷ [])) (next (Some 1))
    -- request_open(0, 0) ends phases at ticks 1, 2, 3
    ∷ example (transition (transition_at 1 (request_open 0 0))) (transition FinishedOpening)
    ∷ example (transition (transition_at 2 (request_open 0 0))) (transition FinishedOpen)
    ∷ example (transition (transition_at 3 (request_open 0 0))) (transition FinishedClosing)
    ∷ []

-- each of a list gives what is expected
unfoldable pub Hold : List Example → Type 0
Hold [] = Unit {0}
Hold (e ∷ es) = (e.gives ≡ e.expected) × Hold es

unfoldable pub Marked : Type 0
unfolding Hold
Marked = Hold examples
