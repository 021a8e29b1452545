-- A study at its input's end ends: where no more input is wanted a record uses bytes or is refused, or no word is left
-- and the tape is closed. Assumes nothing.
use mathlib.Core.Path.{◌≡◌, refl}
use mathlib.Core.Logic.{◌⊎◌, inl, inr, ⊎_elim}
use mathlib.Core.Bool.{Bool, true, false, not, cond, or-true}
use mathlib.Core.List.{[]}
use Prim.Native.Nat.{ℕ, zero, suc, ◌+◌, ◌*◌, ◌<◌, ◌≤◌}
use native.Mathlib.Omega.{arith}
use lib.Dec.{ltb}
use lib.ListN.{length, drop, length-drop}
use borrow.Author.Tests.{ltb-false, le-leb}
use Rattle.record.specs.Record.{record_of, is_accepted, used_of}
use Rattle.study_text.specs.Text.{words_of}
use Rattle.study_pieces.specs.Pieces.{StudyState}
use Rattle.study_pieces.specs.Parts.{next_record, is_ready, has_next_record, play_to, is_at_end, with_ending, close, advanced}
use Rattle.study_pieces.proofs.Sizes.{words_few}
use Rattle.study_pieces.proofs.Going.{play_stops, words_of_count}
use Rattle.study_step.specs.Step.{is_read_wanted}
use Rattle.study_whole.proofs.Joining.{kept}

-- ---- bytes only go, and what is over stays so

goes_not : (ended : Bool) (p : StudyState) → p.over ≡ true → has_next_record ended p.over (length (words_of p.bytes)) (length p.text) ≡ false
goes_not ended p o = rw o

pub play_over : (n : ℕ) (ended : Bool) (p : StudyState) → p.over ≡ true → play_to n ended p ≡ p
unfolding play_to
play_over zero ended p o = refl
play_over (suc n) ended p o = rw (goes_not ended p o)

next_few : (p : StudyState) → length (next_record p).bytes ≤ length p.bytes
unfolding next_record
next_few p = rw length-drop (omega arith)

play_few : (n : ℕ) (ended : Bool) (p : StudyState) → length (play_to n ended p).bytes ≤ length p.bytes
unfolding play_to
play_few zero ended p = omega arith
play_few (suc n) ended p = go (has_next_record ended p.over (length (words_of p.bytes)) (length p.text)) (play_few n ended (next_record p))
  where
    go : (b : Bool) → length (play_to n ended (next_record p)).bytes ≤ length (next_record p).bytes → length (cond b (play_to n ended (next_record p)) p).bytes ≤ length p.bytes
    go true h = omega (arith, h, next_few p)
    go false h = omega arith

close_bytes : (ended : Bool) (p : StudyState) → (close ended p).bytes ≡ p.bytes
unfolding close
close_bytes ended p = go (is_at_end ended p.over (length (words_of p.bytes)) (length p.text))
  where
    go : (b : Bool) → (cond b (with_ending p) p).bytes ≡ p.bytes
    go true = refl
    go false = refl

pub advanced_few : (ended : Bool) (p : StudyState) → length (advanced ended p).bytes ≤ length p.bytes
unfolding advanced
advanced_few ended p = rw close_bytes (play_few (2 + length p.bytes) ended p)

close_over : (ended : Bool) (p : StudyState) → p.over ≡ true → close ended p ≡ p
unfolding close
close_over true p o = rw o
close_over false p o = refl

pub advanced_over : (ended : Bool) (p : StudyState) → p.over ≡ true → advanced ended p ≡ p
unfolding advanced
advanced_over ended p o = rw (play_over (2 + length p.bytes) ended p o) (close_over ended p o)

-- ---- a record takes some bytes, or is refused

next_goes : (p : StudyState) → ((next_record p).over ≡ true) ⊎ (length (next_record p).bytes < length p.bytes)
unfolding next_record
next_goes p = go (is_accepted (record_of p.world (words_of p.bytes) p.log).answer) refl
  where
    go : (b : Bool) → is_accepted (record_of p.world (words_of p.bytes) p.log).answer ≡ b
        → (not (is_accepted (record_of p.world (words_of p.bytes) p.log).answer) ≡ true)
        ⊎ (length (drop (4 * used_of (record_of p.world (words_of p.bytes) p.log).answer) p.bytes) < length p.bytes)
    go true e = let k = kept p.world (words_of p.bytes) p.log in inr (rw length-drop (omega (arith, k.some e, k.used, words_few p.bytes)))
    go false e = inl (rw e)

-- what is played of a study that goes on
played : (ended : Bool) (n : ℕ) (p : StudyState) → has_next_record ended p.over (length (words_of p.bytes)) (length p.text) ≡ true
    → ((close ended (play_to (suc n) ended p)).over ≡ true) ⊎ (length (close ended (play_to (suc n) ended p)).bytes < length p.bytes)
unfolding play_to
played ended n p e =
    rw (e, close_bytes)
    (⊎_elim
    (λ o.
    let same = play_over n ended (next_record p) o in
    inl (rw (same, close_over ended (next_record p) o) o))
    (λ l. inr (omega (arith, l, play_few n ended (next_record p))))
    (next_goes p))

two_more : (n : ℕ) → 2 + n ≡ suc (suc n)
two_more n = omega arith

gets_on : (ended : Bool) (p : StudyState) → p.text ≡ [] → p.over ≡ false → is_ready ended (length (words_of p.bytes)) ≡ true
    → ((advanced ended p).over ≡ true) ⊎ (length (advanced ended p).bytes < length p.bytes)
unfolding advanced
gets_on ended p t o w = rw two_more (played ended (suc (length p.bytes)) p (rw (o, w, t)))

-- no word is left: the report, or a refusal
closes : (p : StudyState) → p.text ≡ [] → p.over ≡ false → length (words_of p.bytes) ≡ 0 → (advanced true p).over ≡ true
unfolding advanced close
closes p t o e = rw (play_stops true (2 + length p.bytes) p (rw (o, e)), o, e, t)

-- where no more input is wanted, a record is used, or the study ends
module _ (p : StudyState) (none : p.text ≡ []) where
  abbrev GetsOn : Bool → Type 0
  GetsOn ended = ((advanced ended p).over ≡ true) ⊎ (length (advanced ended p).bytes < length p.bytes)

  at_end : p.over ≡ false → (b : Bool) → ltb 0 (length (words_of p.bytes)) ≡ b → GetsOn true
  at_end o true e = gets_on true p none o (rw (e, or-true))
  at_end o false e = inl (closes p none o (omega (arith, ltb-false 0 (length (words_of p.bytes)) e)))

  stands : (ended : Bool) → p.over ≡ false → is_read_wanted ended (length p.bytes) ≡ false → GetsOn ended
  stands true o e = at_end o (ltb 0 (length (words_of p.bytes))) refl
  stands false o e = gets_on false p none o (rw (le-leb 69 (length (words_of p.bytes)) (omega (arith, words_of_count p.bytes, ltb-false (length p.bytes) 276 e))))

  pub unasked : (ended : Bool) → is_read_wanted ended (length p.bytes) ≡ false → GetsOn ended
  unasked ended e = go p.over refl
    where
      go : (o : Bool) → p.over ≡ o → GetsOn ended
      go true o = inl (rw (advanced_over ended p o) o)
      go false o = stands ended o e
