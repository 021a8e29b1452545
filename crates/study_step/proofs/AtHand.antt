-- The bytes at hand: those that are kept, and behind them those that were read. Assumes nothing.
use Rattle.std.proofs.Common.{◌≡◌, Bool, ℕ, zero, suc, ◌+◌, ◌-◌, min, List, [], ◌∷◌, ◌++◌, length, take, drop, sym, refl, ap, ◌∙◌, arith, length-take, length-drop}
use Rattle.std.proofs.lemmas.List.{take-append-drop}
use lib.Dec.{eqb}
use lib.Seq.{sets-eq}
use Rattle.log_writes.specs.Log.{Wrote}
use Rattle.study_pieces.specs.declared.Study.{Study}
use Rattle.study_step.specs.Step.{ProgramState}
use Rattle.study_text.proofs.Keeping.{take_min}

none_more : (n : ℕ) → 0 + n ≡ n
none_more n = omega arith

one_more : (m n : ℕ) → suc m + n ≡ suc (m + n)
one_more m n = omega arith

take_sum : (held n : ℕ) (l : List ℕ) → take (held + n) l ≡ take held l ++ take n (drop held l)
take_sum zero n l = rw none_more refl
take_sum (suc held) zero [] = rw one_more refl
take_sum (suc held) (suc n) [] = rw one_more refl
take_sum (suc held) n (x ∷ l) = rw one_more (ap (λ (t : List ℕ). x ∷ t) (take_sum held n l))

-- as many as there is room for
module _ (piece : List ℕ) (held n count : ℕ) (clipped : count ≡ min n (length piece - held)) where
  read_there : take count (drop held piece) ≡ take n (drop held piece)
  read_there = rw (clipped, ← length-drop held piece) (take_min n (drop held piece))

  pub at_hand : take (held + count) piece ≡ take held piece ++ take n (drop held piece)
  at_hand = take_sum held count piece ∙ ap (λ (t : List ℕ). take held piece ++ t) read_there

  pub how_many_read : eqb (length (take n (drop held piece))) 0 ≡ eqb count 0
  how_many_read = ap (λ (k : ℕ). eqb k 0) (rw (length-take, length-drop) (sym clipped))

-- what is kept stays where it is
drop_taken : (n : ℕ) (l : List ℕ) → drop (length (take n l)) l ≡ drop n l
drop_taken zero l = refl
drop_taken (suc n) [] = refl
drop_taken (suc n) (x ∷ l) = drop_taken n l

pub kept_there : (piece : List ℕ) (held kept : ℕ) → kept ≡ min held (length piece)
    → Wrote piece 0 (take held piece) piece kept
kept_there piece held kept e = record {
  next = simp length-take (omega arith);
  list = sym (sets-eq (take held piece) piece 0 (simp length-take (omega arith)) ∙ ap (λ (t : List ℕ). take held piece ++ t) (rw none_more (drop_taken held piece)) ∙ take-append-drop held piece);
}

-- and is what the next round begins with
pub kept_again : (piece : List ℕ) (held kept : ℕ) → kept ≡ min held (length piece) → take kept piece ≡ take held piece
kept_again piece held kept e = rw e (take_min held piece)

-- the next round's start, part by part
pub leaves : {s s' : Study} {log log' kept kept' : List ℕ} {ended : Bool} → s ≡ s' → log ≡ log' → kept ≡ kept'
    → ◌≡◌ {A = ProgramState}
    (record { study = s; log = log; kept = kept; ended = ended })
    (record { study = s'; log = log'; kept = kept'; ended = ended })
leaves s l k = rw (s, l, k)
