-- Tables of a fixed size, and queues: their items, and how many of them are there.
use Rattle.std.specs.Prelude.{Float, ℕ, set, replicate}
use Rattle.world.specs.declared.Table.{Table}

-- a car's queue of destinations, or of door commands
abbrev pub Queue : Type 0 → Type 0
Queue A = Table A 8

-- the positions of the stops
abbrev pub Stops : Type 0
Stops = Table Float 64

-- a table of which no item is there
abbrev pub of_none : {A : Type 0} → (n : ℕ) → A → Table A n
of_none n a = record { items = replicate n a; count = 0 }

-- with an item written, and so many there
abbrev pub with_item : {A : Type 0} → {n : ℕ} → Table A n → ℕ → A → ℕ → Table A n
with_item t at a count = record { items = set t.items at a; count = count }
