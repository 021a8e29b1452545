-- Bytes as words, and the bytes that are kept. Assumes nothing.
use Rattle.std.proofs.Common.{◌≡◌, ℕ, zero, suc, ◌+◌, ◌-◌, ◌/◌, ◌<◌, ◌≤◌, min, List, [], ◌∷◌, length, take, drop, map, w32, sym, refl, ap, ◌∙◌, ⊎_elim, arith, length-take, length-drop}
use Rattle.std.proofs.lemmas.List.{drop-take, drop_all}
use Rattle.std.proofs.str.Laws.{order}
use Rattle.std.specs.Int.{from_le_bytes}
use Rattle.std.specs.Simd.{first_chunks}
use native.Mathlib.Nat.{zero-min, min-zero, suc-min-suc}
use lib.Seq.{sets-eq}
use Rattle.std.specs.List.{copy_within}
use Rattle.log_writes.specs.Log.{Wrote}
use Rattle.study_text.specs.Text.{word_of_bytes, words_of}

-- ---- words

-- the whole words, four bytes at a time
pub words_are : (bytes : List ℕ) → map (from_le_bytes w32) (first_chunks 4 (length bytes / 4) bytes) ≡ words_of bytes
unfolding words_of
words_are [] = refl
words_are (a ∷ []) = refl
words_are (a ∷ b ∷ []) = refl
words_are (a ∷ b ∷ c ∷ []) = refl
words_are (a ∷ b ∷ c ∷ d ∷ bytes) = rw (one_more (length bytes)) (ap (λ (ws : List ℕ). word_of_bytes a b c d ∷ ws) (words_are bytes))
  where
    one_more : (n : ℕ) → suc (suc (suc (suc n))) / 4 ≡ suc (n / 4)
    one_more n = omega arith

-- ---- the bytes that are kept

pub take_min : (n : ℕ) (l : List ℕ) → take (min n (length l)) l ≡ take n l
take_min zero l = rw zero-min
take_min (suc n) [] = rw min-zero
take_min (suc n) (x ∷ l) = rw suc-min-suc (ap (λ (t : List ℕ). x ∷ t) (take_min n l))

module _ (l : List ℕ) (from end stop start : ℕ) (stops : stop ≡ min end (length l)) (starts : start ≡ min from stop) where
  -- they are a part of the buffer, an empty one where they would begin after their end
  part : drop from (take end l) ≡ take (stop - start) (drop start l)
  part = rw (← take_min end l, ← stops) (⊎_elim (λ h. some (omega arith) h) (λ h. none (omega arith) h) (order from stop))
    where
      some : start ≡ from → from < stop → drop from (take stop l) ≡ take (stop - start) (drop start l)
      some s h = let whole : from + (stop - from) ≡ stop = omega arith in rw s (rw whole at (drop-take from (stop - from) l))

      none : stop - start ≡ 0 → stop ≤ from → drop from (take stop l) ≡ take (stop - start) (drop start l)
      none z h = rw z (drop_all from (take stop l) (simp length-take (omega arith)))

  part_length : length (drop from (take end l)) ≡ stop - start
  part_length = rw part (simp (length-take, length-drop) (omega arith))

  pub moved : (l' : List ℕ) → l' ≡ copy_within l start stop 0 → Wrote l 0 (drop from (take end l)) l' (stop - start)
  moved l' e = record {
    next = omega (arith, part_length);
    list = e ∙ sym (sets-eq (drop from (take end l)) l 0 (omega (arith, part_length)) ∙ rw (part_length, part) refl);
  }
