-- What is done with the bytes at hand, one record after the other and then the tape's end: what each of these keeps,
-- it keeps. Assumes nothing.
use Rattle.std.proofs.Common.{◌≡◌, Bool, true, false, cond, ℕ, zero, suc, ◌+◌, length, refl}
use Rattle.study_text.specs.Text.{words_of}
use Rattle.study_pieces.specs.Pieces.{StudyState}
use Rattle.study_pieces.specs.Parts.{has_next_record, next_record, play_to, is_at_end, with_ending, close, advanced}

module _ (Q : StudyState → Type 0) (ended : Bool) where
  after_records : ((p : StudyState) → has_next_record ended p.over (length (words_of p.bytes)) (length p.text) ≡ true → Q p → Q (next_record p))
      → (n : ℕ) (p : StudyState) → Q p → Q (play_to n ended p)
  unfolding play_to
  after_records kept zero p q = q
  after_records kept (suc n) p q = go (has_next_record ended p.over (length (words_of p.bytes)) (length p.text)) refl (λ r. after_records kept n (next_record p) r)
    where
      go : (b : Bool) → has_next_record ended p.over (length (words_of p.bytes)) (length p.text) ≡ b → (Q (next_record p) → Q (play_to n ended (next_record p)))
          → Q (cond b (play_to n ended (next_record p)) p)
      go true e later = later (kept p e q)
      go false e later = q

  at_end : ((p : StudyState) → is_at_end ended p.over (length (words_of p.bytes)) (length p.text) ≡ true → Q p → Q (with_ending p))
      → (p : StudyState) → Q p → Q (close ended p)
  unfolding close
  at_end kept p q = go (is_at_end ended p.over (length (words_of p.bytes)) (length p.text)) refl
    where
      go : (b : Bool) → is_at_end ended p.over (length (words_of p.bytes)) (length p.text) ≡ b → Q (cond b (with_ending p) p)
      go true e = kept p e q
      go false e = q

  pub by_records : ((p : StudyState) → has_next_record ended p.over (length (words_of p.bytes)) (length p.text) ≡ true
      → Q p → Q (next_record p))
      → ((p : StudyState) → is_at_end ended p.over (length (words_of p.bytes)) (length p.text) ≡ true → Q p → Q (with_ending p))
      → (p : StudyState) → Q p → Q (advanced ended p)
  unfolding advanced
  by_records record_kept end_kept p q = at_end end_kept (play_to (2 + length p.bytes) ended p) (after_records record_kept (2 + length p.bytes) p q)
