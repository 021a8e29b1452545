-- The paper's number of each refusal, a refusal's condition as data, and the first that holds.
use Rattle.std.specs.Prelude.{Bool, cond, List, [], ◌∷◌, ℕ}
use Rattle.world.specs.declared.refusal.Refusal.{Refusal}
use Rattle.world.specs.declared.refusal.Refusal.TheVariants.{BrokenWorld, CutShort, UnknownKind, FieldOutside, FloatOutside, LogKind, NotNow, NotNext, NotLoaded, CannotGo, QueueFull, LastTick, LogShort}

abbrev pub refusal_number : Refusal → ℕ
refusal_number BrokenWorld = 0
refusal_number CutShort = 1
refusal_number UnknownKind = 2
refusal_number FieldOutside = 3
refusal_number FloatOutside = 4
refusal_number LogKind = 5
refusal_number NotNow = 6
refusal_number NotNext = 7
refusal_number NotLoaded = 8
refusal_number CannotGo = 9
refusal_number QueueFull = 10
refusal_number LastTick = 11
refusal_number LogShort = 12

-- a refusal, and whether its condition holds: "a refusal is given on its condition and on no other"
pub record Check : Type 0 where
  pub refusal : Refusal
  pub holds : Bool

abbrev pub check : Refusal → Bool → Check
check r b = record { refusal = r; holds = b }

-- "Checked in the order of the numbers": what is made of the first refusal whose condition holds, else what follows
abbrev pub unless : {A : Type 0} → List Check → (Refusal → A) → A → A
unless [] refused next = next
unless (c ∷ cs) refused next = cond c.holds (refused c.refusal) (unless cs refused next)
