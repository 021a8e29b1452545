-- The leader on a loop: systems/movement.rs, loop_leader_pos.
use Rattle.std.specs.Prelude.{◌≡◌, Bool, false, not, ◌&&◌, cond, List, ℕ, zero, suc, min, ◌<◌, ◌≤◌, eqb, Float}
use Rattle.float.specs.Float.{is_total_before}
use Rattle.motion.specs.Cyclic.{forward_distance}
use Rattle.world.specs.World.{car_at}
use Rattle.world.specs.declared.Car.{Car}
use Rattle.world.specs.declared.Table.{Table}
use Rattle.std.specs.declared.option.Option.{Option}
use Rattle.std.specs.declared.option.Option.TheVariants.{None, Some}

-- the position of car i
abbrev pub car_position : List Car → ℕ → Float
car_position cars i = (car_at cars i).motion.position

-- "the other car of the line, disabled or not": car i for car me
abbrev pub is_other_car : Car → ℕ → ℕ → ℕ → Bool
is_other_car car me line i = not (eqb i me) && eqb car.line line

abbrev pub is_other : List Car → ℕ → ℕ → ℕ → Bool
is_other cars me line i = is_other_car (car_at cars i) me line i

-- how far car i is ahead
abbrev pub distance_to_car : List Car → Float → Float → ℕ → Float
distance_to_car cars pos circumference i = forward_distance pos (car_position cars i) circumference

-- car i in place of the leader so far where it is nearer: "with least `forward_distance` by total_cmp (-0 before +0),
-- lower number on a tie"
abbrev pub leader_or : List Car → Float → Float → Option ℕ → ℕ → Option ℕ
leader_or cars pos circumference None i = Some i
leader_or cars pos circumference (Some j) i =
    cond
    (is_total_before (distance_to_car cars pos circumference i) (distance_to_car cars pos circumference j))
    (Some i)
    (Some j)

-- the leader among the first i cars
unfoldable pub leader_to : List Car → ℕ → ℕ → Float → Float → ℕ → Option ℕ
leader_to cars me line pos circumference zero = None
leader_to cars me line pos circumference (suc i) =
    let leader = leader_to cars me line pos circumference i in
    cond (is_other cars me line i) (leader_or cars pos circumference leader i) leader

-- its position
abbrev pub leader_pos : List Car → Option ℕ → Option Float
leader_pos cars None = None
leader_pos cars (Some j) = Some (car_position cars j)

-- systems/movement.rs, loop_leader_pos
unfoldable pub loop_leader_pos : Table Car 16 → ℕ → ℕ → Float → Float → Option Float
loop_leader_pos cars me line pos circumference =
    leader_pos cars.items (leader_to cars.items me line pos circumference (min cars.count 16))

-- ---- a claim about the definition: it gives the position of the leader as the paper has it, and no leader only
-- where there is none

-- car i is loaded and another car of the line
abbrev pub IsOther : List Car → ℕ → ℕ → ℕ → ℕ → Type 0
IsOther cars count me line i = (i < min count 16) × ((i ≡ me → ⊥) × ((car_at cars i).line ≡ line))

-- car j is the leader
pub record IsLeader (cars : List Car) (count me line : ℕ) (pos circumference : Float) (j : ℕ) : Type 0 where
  pub other : IsOther cars count me line j
  pub least :
      (k : ℕ) → IsOther cars count me line k
      → is_total_before (distance_to_car cars pos circumference k) (distance_to_car cars pos circumference j) ≡ false
  pub lower :
      (k : ℕ) → IsOther cars count me line k
      → distance_to_car cars pos circumference k ≡ distance_to_car cars pos circumference j → j ≤ k

-- what an answer says of the cars
abbrev pub Led : List Car → ℕ → ℕ → ℕ → Float → Float → Option Float → Type 0
Led cars count me line pos circumference None = (k : ℕ) → IsOther cars count me line k → ⊥
Led cars count me line pos circumference (Some position) =
    (j : ℕ) × (IsLeader cars count me line pos circumference j × (position ≡ car_position cars j))

-- whatever the cars, the circle and the position
unfoldable pub LeaderIsNearest : Type 0
LeaderIsNearest =
    (cars : Table Car 16) (me line : ℕ) (pos circumference : Float)
    → Led cars.items cars.count me line pos circumference (loop_leader_pos cars me line pos circumference)
