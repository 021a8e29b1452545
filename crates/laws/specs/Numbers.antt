-- Numbers, as machine words have them.
use Rattle.std.specs.Prelude.{Bool, cond, ℕ, ◌+◌, ◌%◌, ◌^◌}

-- `+` of u64. Where it is used nothing comes near its end: `NothingWraps` of `tick` for counters, `Counting` of
-- `report` for a log's counts.
unfoldable pub plus : ℕ → ℕ → ℕ
plus a b = (a + b) % 2 ^ 64

-- a number for a truth value: 1 where it holds
abbrev pub bit : Bool → ℕ
bit b = cond b 1 0
