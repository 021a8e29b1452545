-- Lists of record calls: what each is given, what it answers, the worlds on the way.
use Rattle.std.specs.Prelude.{◌≡◌, ℕ, Bool, false, ◌&&◌, List, [], ◌∷◌, length, ◌==◌, slice_index}
use Rattle.world.specs.declared.World.{World}
use Rattle.layout.specs.Layout.{kind_of}
use Rattle.record.specs.Record.{Outcome, record_of, is_accepted}

-- "An empty world has nothing loaded or queued, no hall call, no start, no tick made and every counter 0." What lies
-- in its tables, past their counts, may be anything.
pub record Empty (w : World) : Type 0 where
  pub stops : w.stops.count ≡ 0
  pub lines : w.lines.count ≡ 0
  pub cars : w.cars.count ≡ 0
  pub riders : w.riders.count ≡ 0
  pub up : w.calls.up ≡ 0
  pub down : w.calls.down ≡ 0
  pub started : w.started ≡ false
  pub ticks : w.ticks ≡ 0
  pub moves : w.total_moves ≡ 0
  -- the table of cars has its 16 places, as in every world of the code
  pub places : length w.cars.items ≡ 16

-- one call: its words and its log. "A call's log may have any length and hold anything before."
pub record RecordCall : Type 0 where
  pub words : List ℕ
  pub log : List ℕ

-- what the call gives in a world
unfoldable pub outcome : World → RecordCall → Outcome
outcome w c = record_of w c.words c.log

-- the world that it leaves
unfoldable pub next_world : World → RecordCall → World
next_world w c = (outcome w c).world

-- the call's head word
abbrev pub head_word : RecordCall → ℕ
head_word c = slice_index c.words 0

-- an accepted record of that kind
abbrev pub is_accepted_kind : ℕ → World → RecordCall → Bool
is_accepted_kind k w c = is_accepted (outcome w c).answer && kind_of (head_word c) == k

-- the world as the list leaves it
unfoldable pub world_after : World → List RecordCall → World
world_after w [] = w
world_after w (c ∷ cs) = world_after (next_world w c) cs
