-- What a run of the bench answers: the first records of a tape from the empty world on, and a sum over what they leave.
use Rattle.std.specs.Prelude.{ℕ, zero, suc, ◌+◌, List, drop, replicate}
use Rattle.float.specs.Float.{number_bits}
use Rattle.world.specs.World.{car_at, empty_world}
use Rattle.world.specs.declared.World.{World}
use Rattle.world.specs.declared.Car.{Car}
use Rattle.record.specs.Record.{Outcome, record_of, used_of, written_of}
use Rattle.laws.specs.Numbers.{plus}

-- ---- the records

-- where they stand: the world and the log, the words of the tape that they used, the log words that they wrote
pub record Progress : Type 0 where
  pub world : World
  pub log : List ℕ
  pub used : ℕ
  pub written : ℕ

abbrev pub progress_after : Progress → Outcome → Progress
progress_after p o = record {
  world = o.world;
  log = o.log;
  used = p.used + used_of o.answer;
  written = plus p.written (written_of o.answer);
}

-- each record call is given what the ones before have left of the tape; one that is refused is made again
unfoldable pub played_to : List ℕ → List ℕ → ℕ → Progress
played_to words log zero = record { world = empty_world; log = log; used = 0; written = 0 }
played_to words log (suc n) =
    let p = played_to words log n in
    progress_after p (record_of p.world (drop p.used words) p.log)

-- ---- the sum

unfoldable pub cars_sum_to : List Car → ℕ → ℕ
cars_sum_to cars zero = 0
cars_sum_to cars (suc i) =
    let m = (car_at cars i).motion in
    plus (cars_sum_to cars i) (plus (number_bits m.position) (number_bits m.velocity))

-- of the cars' places and speeds, the moves and the log words
unfoldable pub sum_of : World → ℕ → ℕ
sum_of w written = plus (cars_sum_to w.cars.items 16) (plus w.total_moves written)

unfoldable pub bench_records : List ℕ → ℕ → ℕ
bench_records words records = let p = played_to words (replicate 2048 0) records in sum_of p.world p.written
