-- The last line that is printed counts the lines above it: they are the joined log's words, each with its kind first,
-- and the report's totals hold of that log. Assumes nothing.
use mathlib.Core.Path.{◌≡◌, refl, sym, ap, ◌∙◌}
use mathlib.Core.Bool.{false}
use mathlib.Core.List.{List, [], ◌∷◌, ◌++◌, map}
use Prim.Native.Nat.{ℕ}
use native.Mathlib.Omega.{arith}
use Rattle.std.specs.Prelude.{Ok}
use Rattle.world_sound.specs.Sound.{is_broken}
use Rattle.world.specs.World.{empty_world}
use Rattle.world.specs.declared.World.{World}
use Rattle.report.specs.Report.{has_unknown, counts_of, waiting_in, totals_of, counted_report, report_of}
use Rattle.report.proofs.Standing as Standing
use Rattle.record.specs.Calls.{RecordCall, world_after}
use Rattle.claim_certificate.specs.Certificate.{joined, TotalsHold}
use Rattle.claim_certificate.specs.Manual.{WithManual}
use Rattle.claim_certificate.specs.Joined.{JoinedLog}
use Rattle.claim_certificate.proofs.Computed.{examples}
use Rattle.claim_certificate.proofs.Reading.{Unbroken, unbroken}
use Rattle.claim_certificate.proofs.Proved.{holds_with_manual, joined_log}
use Rattle.claim_unbroken.specs.NeverBroken.{NeverBroken}
use Rattle.claim_unbroken.proofs.Proved.{never_broken}
use Rattle.study_numbers.specs.NumberText.{newline, word_lines, decimal_to}
use Rattle.study_text.specs.Text.{words_of, refused_line}
use Rattle.study_play.specs.Play.{ending, last_line}
use Rattle.study_whole.specs.Study.{calls_made, calls_of, printed_of, study_text}
use Rattle.study_whole.specs.Certified.{AllAccepted, Certified}
use Rattle.study_whole.specs.PrintedTotals.{split_at_newlines, totals_line, calls_standing, PrintedTotals, OneByte}
use Rattle.study_whole.proofs.Certifying.{certified}
use Rattle.study_whole.proofs.Lines.{digits, lines_words, eight_digits, lines_kind, last_line_split, Counted, report_is}

-- ---- the world that is left

-- the count of ones is that of the stops with a call, where no other has one
waits : (w : World) → is_broken w ≡ false → waiting_in w ≡ calls_standing w
unfolding waiting_in
waits w h =
    let k : Unbroken w = unbroken w h in
    rw (Standing.standing w.stops.count w.calls.up k.up, Standing.standing w.stops.count w.calls.down k.down)

-- ---- any calls from the empty world

module _ (calls : List RecordCall) where
  abbrev last : World
  last = world_after empty_world calls

  abbrev log : List ℕ
  log = joined empty_world calls

  known : has_unknown log ≡ false
  unfolding JoinedLog
  known = (joined_log empty_world examples.empty calls).known

  whole : is_broken last ≡ false
  unfolding NeverBroken
  whole = (never_broken empty_world examples.empty calls).world

  totals : TotalsHold last log
  unfolding WithManual
  totals = (holds_with_manual empty_world examples.empty calls).totals

  -- the report is not refused
  pub reported : report_of last log ≡ Ok (totals_of last (counts_of log))
  unfolding report_of counted_report counts_of
  reported = rw (whole, known) refl

  counted : Counted (totals_of last (counts_of log)) (map digits log) (calls_standing last)
  unfolding counts_of
  counted = record {
    ticks = sym (lines_kind "0" 0 (omega arith) refl log known);
    moves = totals.words
        ∙ rw (← lines_kind "1" 1 (omega arith) refl log known, ← lines_kind "2" 2 (omega arith) refl log known, ← lines_kind "3" 3 (omega arith) refl log known);
    passing = sym (lines_kind "1" 1 (omega arith) refl log known);
    arrived = sym (lines_kind "2" 2 (omega arith) refl log known);
    repositioned = sym (lines_kind "3" 3 (omega arith) refl log known);
    opened = sym (lines_kind "6" 6 (omega arith) refl log known);
    closed = sym (lines_kind "7" 7 (omega arith) refl log known);
    waiting = waits last whole;
  }

  -- the lines of the joined log and of its report
  split : split_at_newlines (word_lines log ++ last_line (report_of last log)) ≡ map digits log ++ (totals_line (map digits log) (calls_standing last) ∷ [] ∷ [])
  split =
      rw (reported, report_is (totals_of last (counts_of log)) (map digits log) (calls_standing last) counted)
      (lines_words log (totals_line (map digits log) (calls_standing last) ++ newline)
      ∙ ap (λ (ls : List (List ℕ)). map digits log ++ ls) (last_line_split (map digits log) (calls_standing last)))

pub printed_totals : PrintedTotals
unfolding PrintedTotals Certified
printed_totals tape a = record {
  above = map digits (joined empty_world (calls_of tape).calls);
  words = eight_digits (joined empty_world (calls_of tape).calls);
  lines = ap split_at_newlines (certified tape a.accepted a.none) ∙ split (calls_of tape).calls;
}

pub one_byte : OneByte
unfolding AllAccepted study_text calls_made printed_of ending words_of refused_line decimal_to
one_byte = record { accepted = tt; refused = refl }
