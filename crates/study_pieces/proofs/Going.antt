-- The loop over a piece's records: what it still does is what the definition still does. Assumes nothing.
use mathlib.Core.Path.{◌≡◌, refl, ap, ◌∙◌}
use mathlib.Core.Bool.{Bool, true, false, not, cond}
use Rattle.std.specs.Prelude.{Option, None, Result, is_err, Ok, Err}
use Rattle.std.specs.Result.{result_err, result_unwrap_or}
use mathlib.Core.List.{List, [], ◌∷◌, ◌++◌, append-nil}
use Prim.Native.Nat.{ℕ, zero, suc, ◌+◌, ◌-◌, ◌*◌, ◌/◌, ◌<◌, ◌≤◌, min}
use native.Mathlib.Omega.{arith}
use borrow.Author.Tests.{ltb-true, not-true}
use lib.Dec.{ltb, eqb}
use lib.ListN.{length, take, drop, length-append, length-drop, length-take}
use lib.Seq.{take_all, drop-drop}
use Rattle.laws.proofs.Bools.{and_left, and_right}
use Rattle.laws.proofs.Counting.{bit_small}
use Rattle.log_writes.specs.Log.{Wrote}
use Rattle.log_writes.specs.Parts.{Written as Prints}
use Rattle.log_writes.specs.declared.Writer.{Writer}
use Rattle.log_writes.proofs.Writing.{wrote_length, wrote_fits}
use Rattle.log_writes.proofs.Written.{written_none, written_also}
use Rattle.world.specs.declared.World.{World}
use Rattle.world.specs.declared.refusal.Refusal.{Refusal}
use Rattle.record.specs.Record.{Answer, Outcome, record_of, is_accepted, used_of}
use Rattle.record_lent.specs.Lent.{Lent}
use Rattle.claim_conditions.specs.Conditions.{Kept, FirstCondition}
use Rattle.claim_conditions.proofs.Answering.{first_condition}
use Rattle.laws.specs.Numbers.{bit}
use Rattle.report.specs.declared.Counts.{Counts}
use Rattle.study_text.specs.Text.{words_of}
use Rattle.study_text.specs.declared.Place.{Place}
use Rattle.study_text.proofs.Keeping.{take_min}
use Rattle.study_play.specs.Play.{answer_text, counts_after, place_after, ending, ending_refusal}
use Rattle.study_play.specs.Parts.{uses, PutsAnswer}
use Rattle.study_pieces.specs.Pieces.{StudyState, study_state}
use Rattle.study_pieces.specs.Parts.{next_record, is_ready, has_next_record, play_to, is_at_end, with_ending, close, advanced, PieceOutcome, IsEmpty, Reached, ClosesBy, Closes}
use Rattle.study_pieces.specs.declared.Played.{Played}
use Rattle.study_pieces.specs.declared.Study.{Study}
use Rattle.study_pieces.specs.declared.Advanced.{Advanced}
use Rattle.study_pieces.proofs.Sizes.{words_drop, words_few, told_length, ending_length}

-- the study at a place of the piece
abbrev pub here : Study → List ℕ → List ℕ → ℕ → List ℕ → Option Refusal → StudyState
here s log piece from text refusal = record {
  world = s.world;
  counts = s.counts;
  place = s.place;
  log = log;
  bytes = drop (4 * from) piece;
  text = text;
  over = s.over;
  refusal = refusal;
}

-- what is left to do, in words, and in one more turn where no refusal was met
abbrev pub left : List ℕ → ℕ → Bool → ℕ
left piece from over = (length (words_of piece) - from) + bit (not over)

pub record Going (ended : Bool) (p₀ : StudyState) (piece : List ℕ) (out₀ : Writer ℕ) (log : List ℕ) (out : Writer ℕ)
    (s : Study) (from : ℕ) (refusal : Option Refusal) : Type 0 where
  pub text : List ℕ
  pub written : Prints out₀ text out
  pub at : out.at ≡ length text
  pub room : out.at ≤ 51200
  pub within : from ≤ length (words_of piece)
  pub lent : length log ≡ 2048
  pub buffer : length out₀.items.now ≡ 65536
  pub fuel : ℕ
  pub enough : left piece from s.over < fuel
  pub same : play_to (2 + length piece) ended p₀ ≡ play_to fuel ended (here s log piece from text refusal)

pub going : (ended : Bool) (piece log : List ℕ) (out : Writer ℕ) (s : Study) → IsEmpty out → length log ≡ 2048
    → Going ended (here s log piece 0 [] None) piece out log out s 0 None
going ended piece log out s e l = record {
  text = [];
  written = written_none;
  at = e.start;
  room = omega (arith, e.start);
  within = omega arith;
  lent = l;
  buffer = e.room;
  fuel = 2 + length piece;
  enough = omega (arith, words_few piece, bit_small (not s.over));
  same = refl;
}

-- ---- one more record

-- after a call that gives this outcome, which used so many words: its text is printed
pub record Stepped (o : Outcome) (c : Counts) (pl : Place) (out : Writer ℕ) (s : Study) (n : ℕ) (r : Option Refusal)
    (out' : Writer ℕ) : Type 0 where
  pub world : s.world ≡ o.world
  pub counts : s.counts ≡ counts_after o.answer o.log c
  pub place : s.place ≡ place_after o.answer pl
  pub refusal : r ≡ result_err o.answer
  pub used : n ≡ used_of o.answer
  pub over : s.over ≡ not (is_accepted o.answer)
  pub text : Prints out (answer_text o.answer o.log) out'

-- by what the lent call gave, and what is printed of its answer
used_words : (a : Answer) → result_unwrap_or (uses a) 0 ≡ used_of a
used_words (Ok a) = refl
used_words (Err r) = refl

over_is : (a : Answer) → is_err (uses a) ≡ not (is_accepted a)
over_is (Ok a) = refl
over_is (Err r) = refl

refusal_is : (a : Answer) → result_err (uses a) ≡ result_err a
refusal_is (Ok a) = refl
refusal_is (Err r) = refl

pub stepped : {w w' : World} {words lent log' : List ℕ} {answer : Answer} {used : Result ℕ Refusal}
    {out out' : Writer ℕ} {c c' : Counts} {pl pl' : Place} {over : Bool} {n : ℕ} {r : Option Refusal}
    → Lent w words lent answer w' log'
    → PutsAnswer answer log' c pl out used c' pl' out'
    → over ≡ is_err used
    → r ≡ result_err used
    → n ≡ result_unwrap_or used 0
    → Stepped (record_of w words lent) c pl out (record { world = w'; counts = c'; place = pl'; over = over }) n r out'
stepped {answer = a} l k e g f = record {
  world = l.world;
  counts = rw (← l.answer, ← l.log) k.counts;
  place = rw (← l.answer) k.place;
  refusal = rw (← l.answer, g, k.used) (refusal_is a);
  used = rw (← l.answer, f, k.used) (used_words a);
  over = rw (← l.answer, e, k.used) (over_is a);
  text = rw (← l.answer, ← l.log) k.text;
}

-- the words behind a place of the piece, and how many
words_from : (piece : List ℕ) (from : ℕ) → words_of (drop (4 * from) piece) ≡ drop from (words_of piece)
words_from piece from = words_drop piece from (4 * from) refl

count_from : (piece : List ℕ) (from : ℕ) → length (words_of (drop (4 * from) piece)) ≡ length (words_of piece) - from
count_from piece from = ap length (words_from piece from) ∙ length-drop from (words_of piece)

-- the definition goes on as the code does
play_goes : (ended : Bool) (fuel : ℕ) (p : StudyState) → has_next_record ended p.over (length (words_of p.bytes)) (length p.text) ≡ true
    → play_to (suc fuel) ended p ≡ play_to fuel ended (next_record p)
unfolding play_to
play_goes ended fuel p e = rw e

pub play_stops : (ended : Bool) (fuel : ℕ) (p : StudyState)
    → has_next_record ended p.over (length (words_of p.bytes)) (length p.text) ≡ false → play_to fuel ended p ≡ p
unfolding play_to
play_stops ended zero p e = refl
play_stops ended (suc fuel) p e = rw e

drop_on : (piece : List ℕ) (from used : ℕ) → drop (4 * used) (drop (4 * from) piece) ≡ drop (4 * (from + used)) piece
drop_on piece from used = drop-drop (4 * used) (4 * from) piece ∙ ap (λ (n : ℕ). drop n piece) (sum from used)
  where
    sum : (a b : ℕ) → 4 * a + 4 * b ≡ 4 * (a + b)
    sum a b = omega arith

-- the next record, by what the code's step gives
next_here : (s s' : Study) (log log' : List ℕ) (out out' : Writer ℕ) (piece text : List ℕ) (from used : ℕ)
    (r r' : Option Refusal)
    → log' ≡ (record_of s.world (drop from (words_of piece)) log).log
    → Stepped (record_of s.world (drop from (words_of piece)) log) s.counts s.place out s' used r' out'
    → next_record (here s log piece from text r)
    ≡ here s' log' piece (from + used) (text ++ answer_text (record_of s.world (drop from (words_of piece)) log).answer (record_of s.world (drop from (words_of piece)) log).log) r'
unfolding next_record
next_here s s' log log' out out' piece text from used r r' el st =
    rw (words_from, el, st.world, st.counts, st.place, st.over, st.refusal, st.used, drop_on)

module _ (ended : Bool) (piece log : List ℕ) (s : Study) (from at : ℕ) where
  -- the record call's answer there
  abbrev met : Outcome
  met = record_of s.world (drop from (words_of piece)) log

  kept_there : Kept s.world (drop from (words_of piece)) log met
  unfolding FirstCondition
  kept_there = first_condition s.world (drop from (words_of piece)) log

  stands : has_next_record ended s.over (length (words_of piece) - from) at ≡ true → s.over ≡ false
  stands e = not-true s.over (and_left (not s.over) _ e)

  -- fewer words are left, or the turn was the last
  pub fewer : (s' : Study) (used : ℕ) (r : Option Refusal) (out out' : Writer ℕ)
      → has_next_record ended s.over (length (words_of piece) - from) at ≡ true
      → from ≤ length (words_of piece)
      → Stepped met s.counts s.place out s' used r out'
      → left piece (from + used) s'.over < left piece from s.over
  fewer s' used r out out' e h st = rw (stands e, st.over, st.used) (go (is_accepted met.answer) refl)
    where
      bound : used_of met.answer ≤ length (words_of piece) - from
      bound = rw length-drop at kept_there.used

      go : (b : Bool) → is_accepted met.answer ≡ b → left piece (from + used_of met.answer) (not b) < left piece from false
      go true k = omega (arith, kept_there.some k, bound, h)
      go false k = omega arith

module _ (ended : Bool) (piece log : List ℕ) (s : Study) (from : ℕ) (r : Option Refusal) where
  pub turn : (p₀ : StudyState) (out₀ out : Writer ℕ) (log' : List ℕ) (out' : Writer ℕ) (s' : Study) (used : ℕ)
      (r' : Option Refusal)
      → Going ended p₀ piece out₀ log out s from r
      → has_next_record ended s.over (length (words_of piece) - from) out.at ≡ true
      → log' ≡ (met ended piece log s from out.at).log
      → Stepped (met ended piece log s from out.at) s.counts s.place out s' used r' out'
      → Going ended p₀ piece out₀ log' out' s' (from + used) r'
  turn p₀ out₀ out log' out' s' used r' g e el st =
      let o = met ended piece log s from out.at in
      let kept = kept_there ended piece log s from out.at in
      let place : out.at < 32768 = ltb-true out.at 32768 (and_right (is_ready ended (length (words_of piece) - from)) (ltb out.at 32768) (and_right (not s.over) _ e)) in
      let lent : length o.log ≡ 2048 = kept.size ∙ g.lent in
      let short : length (answer_text o.answer o.log) ≤ 18432 = told_length o.answer o.log lent in
      let buffer : length out.items.now ≡ 65536 = wrote_length g.written.wrote ∙ g.buffer in
      let last : g.fuel ≡ suc (g.fuel - 1) = omega (arith, g.enough) in
      let at : out'.at ≡ length (g.text ++ answer_text o.answer o.log) =
      wrote_fits st.text.wrote (omega (arith, place, short, buffer)) ∙ rw (length-append, g.at) in
      let goes_on_lem : has_next_record ended s.over (length (words_of (drop (4 * from) piece))) (length g.text) ≡ true = rw (count_from piece from, ← g.at) e in
      record {
        text = g.text ++ answer_text o.answer o.log;
        written = written_also g.written st.text;
        at = at;
        room = omega (arith, at, place, short, g.at, length-append g.text (answer_text o.answer o.log));
        within = rw st.used (omega (arith, g.within, rw length-drop at kept.used));
        lent = ap length el ∙ lent;
        buffer = g.buffer;
        fuel = g.fuel - 1;
        enough = omega (arith, g.enough, fewer ended piece log s from out.at s' used r' out out' e g.within st);
        same = g.same
            ∙ ap (λ (n : ℕ). play_to n ended (here s log piece from g.text r)) last
            ∙ play_goes ended (g.fuel - 1) (here s log piece from g.text r) goes_on_lem
            ∙ ap (play_to (g.fuel - 1) ended) (next_here s s' log log' out out' piece g.text from used r r' el st);
      }

-- the loop's end
stopped : (ended : Bool) (p₀ : StudyState) (piece : List ℕ) (out₀ : Writer ℕ) (log : List ℕ) (out : Writer ℕ) (s : Study) (from : ℕ)
    (r : Option Refusal) (g : Going ended p₀ piece out₀ log out s from r)
    → has_next_record ended s.over (length (words_of piece) - from) out.at ≡ false
    → play_to (2 + length piece) ended p₀ ≡ here s log piece from g.text r
stopped ended p₀ piece out₀ log out s from r g e =
    g.same ∙ play_stops ended g.fuel (here s log piece from g.text r) (rw (count_from piece from, ← g.at) e)

-- the code's words from a place on
pub rest_of : (piece words : List ℕ) (from : ℕ) → words ≡ words_of piece
    → take (length words - from) (drop from words) ≡ drop from (words_of piece)
rest_of piece words from e = take_all (length words - from) (drop from words) (rw length-drop (omega arith)) ∙ rw e

pub reached : (ended : Bool) (p₀ : StudyState) (piece : List ℕ) (out₀ : Writer ℕ) (log : List ℕ) (out : Writer ℕ)
    (s : Study) (from : ℕ) (r : Option Refusal)
    → Going ended p₀ piece out₀ log out s from r
    → has_next_record ended s.over (length (words_of piece) - from) out.at ≡ false
    → Reached s (record { from = from; refusal = r }) piece out₀ log out (play_to (2 + length piece) ended p₀)
reached ended p₀ piece out₀ log out s from r g e =
    rw (stopped ended p₀ piece out₀ log out s from r g e)
    (record {
      world = refl;
      counts = refl;
      place = refl;
      over = refl;
      refusal = refl;
      log = refl;
      bytes = refl;
      within = g.within;
      text = g.written;
      at = g.at;
      room = omega (arith, g.room, g.at);
    })

-- ---- a piece

pub words_of_count : (b : List ℕ) → length (words_of b) ≡ length b / 4
unfolding words_of
words_of_count [] = refl
words_of_count (x ∷ []) = omega arith
words_of_count (x ∷ y ∷ []) = omega arith
words_of_count (x ∷ y ∷ z ∷ []) = omega arith
words_of_count (x ∷ y ∷ z ∷ u ∷ b) = omega (arith, words_of_count b)

-- the tape's end, by the code's test
abbrev over_now : Study → Study
over_now s = record { world = s.world; counts = s.counts; place = s.place; over = true }

pub at_end_lem : (e : Bool) (s : Study) (left : ℕ) (r r' : Option Refusal) (out out' : Writer ℕ) → e ≡ true
    → Prints out (ending s.world s.counts left) out' → r' ≡ ending_refusal s.world s.counts left
    → ClosesBy e s left r out (over_now s) r' out'
at_end_lem e s left r r' out out' t w k = rw t (record { study = refl; refusal = k; text = w })

pub not_at_end : (e : Bool) (s : Study) (left : ℕ) (r : Option Refusal) (out : Writer ℕ) → e ≡ false
    → ClosesBy e s left r out s r out
not_at_end e s left r out t = rw t (record { study = refl; refusal = refl; text = written_none })

-- the records, then the tape's end, then the bytes that are kept: a writer of the whole buffer `out`, after the
-- records, and at the end, when the buffer is `out'`
module _ (piece out lent' out' piece' : List ℕ) (w w₁ w₂ : Writer ℕ) (opened : w.items.now ≡ out) (start : w.at ≡ 0)
    (shut : w₂.items.now ≡ out') (end : ℕ) (ended : Bool) (s : Study) (m : Played) (s' : Study) (r' : Option Refusal)
    (kept : ℕ) where
  -- what the code makes of them
  abbrev made : Advanced
  made = record { held = kept; at = w₂.at; refusal = r' }

  closes : (p : StudyState)
      → length out ≡ 65536
      → end ≤ length piece
      → Reached s m (take end piece) w lent' w₁ p
      → Closes s ended (end - 4 * m.from) m.refusal w₁ s' r' w₂
      → Wrote piece 0 (drop (4 * m.from) (take end piece)) piece' kept
      → PieceOutcome s' made piece out piece' lent' out' (close ended p)
  unfolding close
  closes p o h g k keeps =
      rw same_test
      (go (is_at_end ended s.over ((end - 4 * m.from) / 4) w₁.at) refl k)
    where
      left_is : length p.bytes ≡ end - 4 * m.from
      left_is = rw (← g.bytes) (simp (length-drop, length-take) (omega arith))

      same_test : is_at_end ended p.over (length (words_of p.bytes)) (length p.text) ≡ is_at_end ended s.over ((end - 4 * m.from) / 4) w₁.at
      same_test = rw (← g.over, ← g.at, words_of_count p.bytes, left_is)

      held_is : Wrote piece 0 p.bytes piece' kept
      held_is = rw (← g.bytes) keeps

      stands_there : (text : List ℕ) → Prints w text w₂ → Wrote out 0 text out' w₂.at
      stands_there text t = rw (opened, start, shut) at t.wrote

      bytes_fit : length p.bytes ≤ length piece
      bytes_fit = rw left_is (omega (arith, h))

      go : (e : Bool) → is_at_end ended s.over ((end - 4 * m.from) / 4) w₁.at ≡ e
          → ClosesBy e s (end - 4 * m.from) m.refusal w₁ s' r' w₂
          → PieceOutcome s' made piece out piece' lent' out' (cond e (with_ending p) p)
      go true e k =
          let small : w₁.at < 32768 = ltb-true w₁.at 32768 (and_right (eqb ((end - 4 * m.from) / 4) 0) _ (and_right (not s.over) _ (and_right ended _ e))) in
          record {
            study = rw (k.study, g.world, g.counts, g.place);
            log = g.log;
            kept = held_is;
            text = stands_there _ (written_also g.text (rw (← g.world, ← g.counts, left_is) k.text));
            refusal = rw (← g.world, ← g.counts, left_is) k.refusal;
            kept_fits = bytes_fit;
            text_fits = rw length-append (omega (arith, small, g.at, ending_length p.world p.counts (length p.bytes)));
          }
      go false e k = record {
        study = rw (k.study, g.world, g.counts, g.place, g.over);
        log = g.log;
        kept = held_is;
        text = stands_there p.text (rw append-nil at (written_also g.text k.text));
        refusal = k.refusal ∙ g.refusal;
        kept_fits = bytes_fit;
        text_fits = g.room;
      }

  pub advances : (study : Study) (log : List ℕ) (held : ℕ)
      → length out ≡ 65536
      → end ≡ min held (length piece)
      → Reached s m (take end piece) w lent' w₁
      (play_to (2 + length (take end piece)) ended (study_state study log (take end piece)))
      → Closes s ended (end - 4 * m.from) m.refusal w₁ s' r' w₂
      → Wrote piece 0 (drop (4 * m.from) (take end piece)) piece' kept
      → PieceOutcome s' made piece out piece' lent' out' (advanced ended (study_state study log (take held piece)))
  unfolding advanced
  advances study log held o e g k keeps =
      let same_bytes : take held piece ≡ take end piece = rw (e, take_min) in
      rw same_bytes (closes (play_to (2 + length (take end piece)) ended (study_state study log (take end piece))) o (omega arith) g k keeps)
