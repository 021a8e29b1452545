-- How long the texts are, and the words behind some bytes. Assumes nothing.
use mathlib.Core.Path.{◌≡◌, refl, ap}
use mathlib.Core.Bool.{Bool, true, false, cond}
use mathlib.Core.List.{List, [], ◌∷◌, ◌++◌}
use Prim.Native.Nat.{ℕ, zero, suc, ◌*◌, ◌/◌, ◌%◌, ◌≤◌, min}
use native.Mathlib.Omega.{arith}
use lib.Dec.{ltb}
use lib.ListN.{length, take, drop, length-append, length-take}
use Rattle.io.specs.Digits.{hex_digit_ascii}
use Rattle.world.specs.declared.World.{World}
use Rattle.world.specs.Refusal.{refusal_number}
use Rattle.world.specs.declared.refusal.Refusal.{Refusal}
use Rattle.world.specs.declared.refusal.Refusal.TheVariants.{BrokenWorld, CutShort, UnknownKind, FieldOutside, FloatOutside, LogKind, NotNow, NotNext, NotLoaded, CannotGo, QueueFull, LastTick, LogShort}
use Rattle.laws.specs.Numbers.{plus}
use Rattle.record.specs.Record.{Answer}
use Rattle.std.specs.Prelude.{Ok, Err}
use Rattle.report.specs.declared.Counts.{Counts}
use Rattle.report.specs.declared.Totals.{Totals}
use Rattle.report.specs.Report.{Reported}
use Rattle.report.specs.Report.{counted_report}
use Rattle.study_text.specs.Text.{words_of, report_line, refused_line, meaning, place_line}
use Rattle.study_text.specs.declared.Place.{Place}
use Rattle.study_numbers.specs.NumberText.{word_line, word_lines, decimal_to}
use Rattle.study_numbers.proofs.Digits.{word_line_length}
use Rattle.study_play.specs.Play.{answer_text, last_line, ending}

-- ---- words

pub words_drop : (b : List ℕ) (k m : ℕ) → m ≡ 4 * k → words_of (drop m b) ≡ drop k (words_of b)
unfolding words_of
words_drop b zero m e = ap (λ (i : ℕ). words_of (drop i b)) (zero_of m e)
  where
    zero_of : (m : ℕ) → m ≡ 4 * zero → m ≡ 0
    zero_of m e = omega arith
words_drop b (suc k) zero e = absurd (omega arith)
words_drop b (suc k) (suc zero) e = absurd (omega arith)
words_drop b (suc k) (suc (suc zero)) e = absurd (omega arith)
words_drop b (suc k) (suc (suc (suc zero))) e = absurd (omega arith)
words_drop [] (suc k) (suc (suc (suc (suc m)))) e = refl
words_drop (x ∷ []) (suc k) (suc (suc (suc (suc m)))) e = refl
words_drop (x ∷ y ∷ []) (suc k) (suc (suc (suc (suc m)))) e = refl
words_drop (x ∷ y ∷ z ∷ []) (suc k) (suc (suc (suc (suc m)))) e = refl
words_drop (x ∷ y ∷ z ∷ u ∷ b) (suc k) (suc (suc (suc (suc m)))) e = words_drop b k m (omega arith)

pub words_few : (b : List ℕ) → 4 * length (words_of b) ≤ length b
unfolding words_of
words_few [] = omega arith
words_few (x ∷ []) = omega arith
words_few (x ∷ y ∷ []) = omega arith
words_few (x ∷ y ∷ z ∷ []) = omega arith
words_few (x ∷ y ∷ z ∷ u ∷ b) = omega (arith, words_few b)

-- of a buffer's first bytes
pub taken_few : (n : ℕ) (b : List ℕ) → 4 * length (words_of (take n b)) ≤ min n (length b)
taken_few n b = omega (arith, words_few (take n b), length-take n b)

-- ---- texts

lines_length : (ws : List ℕ) → length (word_lines ws) ≡ 9 * length ws
unfolding word_lines
lines_length [] = refl
lines_length (w ∷ ws) = omega (arith, length-append (word_line w) (word_lines ws), word_line_length w, lines_length ws)

decimal_length : (more n : ℕ) → length (decimal_to more n) ≤ suc more
unfolding decimal_to
decimal_length zero n = omega arith
decimal_length (suc more) n = go (ltb n 10) (decimal_length more (n / 10))
  where
    go : (b : Bool) → length (decimal_to more (n / 10)) ≤ suc more → length (cond b (hex_digit_ascii n ∷ []) (decimal_to more (n / 10) ++ (hex_digit_ascii (n % 10) ∷ []))) ≤ suc (suc more)
    go true h = omega arith
    go false h = simp length-append (omega arith)

pub refused_length : (r : Refusal) → length (refused_line r) ≤ 29
unfolding refused_line
refused_length r = simp length-append (omega (arith, decimal_length 19 (refusal_number r)))

report_length : (t : Totals) → length (report_line t) ≤ 231
unfolding report_line
report_length t =
    simp length-append
    (omega (
      arith,
      decimal_length 19 t.ticks,
      decimal_length 19 t.moves,
      decimal_length 19 t.passing,
      decimal_length 19 t.arrived,
      decimal_length 19 t.repositioned,
      decimal_length 19 t.opened,
      decimal_length 19 t.closed,
      decimal_length 19 t.waiting,
    ))

-- a record's text: a line of 9 bytes for each of the log's words at most
pub told_length : (a : Answer) (log : List ℕ) → length log ≡ 2048 → length (answer_text a log) ≤ 18432
told_length (Ok a) log h = rw lines_length (simp length-take (omega arith))
told_length (Err r) log h = omega (arith, refused_length r)

pub ending_length : (w : World) (c : Counts) (left : ℕ) → length (ending w c left) ≤ 231
unfolding ending
ending_length w c zero = go (counted_report w c)
  where
    go : (r : Reported) → length (last_line r) ≤ 231
    go (Ok t) = report_length t
    go (Err r) = omega (arith, refused_length r)
ending_length w c (suc left) = omega (arith, refused_length CutShort)

-- on standard error
meaning_length : (r : Refusal) → length (meaning r) ≤ 110
meaning_length BrokenWorld = omega arith
meaning_length CutShort = omega arith
meaning_length UnknownKind = omega arith
meaning_length FieldOutside = omega arith
meaning_length FloatOutside = omega arith
meaning_length LogKind = omega arith
meaning_length NotNow = omega arith
meaning_length NotNext = omega arith
meaning_length NotLoaded = omega arith
meaning_length CannotGo = omega arith
meaning_length QueueFull = omega arith
meaning_length LastTick = omega arith
meaning_length LogShort = omega arith

pub place_length : (p : Place) (r : Refusal) → length (place_line p r) ≤ 210
unfolding place_line
place_length p r =
    simp length-append
    (omega (
      arith,
      decimal_length 19 (plus p.records 1),
      decimal_length 19 p.words,
      decimal_length 19 (refusal_number r),
      meaning_length r,
    ))
