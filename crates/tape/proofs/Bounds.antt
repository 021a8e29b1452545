-- A refusal is 1 to 4; a record takes no more words than there are, and its kind is its head's: kind by kind, from its
-- checks. Assumes nothing.
use mathlib.Core.Path.{◌≡◌, refl}
use mathlib.Core.Bool.{Bool, true, false, ◌&&◌}
use mathlib.Core.List.{List, [], ◌∷◌}
use Prim.Native.Nat.{ℕ, ◌+◌, ◌<◌, ◌≤◌}
use native.Mathlib.Omega.{arith}
use lib.Dec.{ltb, leb, eqb}
use lib.ListN.{length, get_or}
use borrow.Author.Tests.{ltb-false, leb-true, eqb-true, eqb-false}
use Rattle.world.specs.Refusal.{refusal_number}
use Rattle.world.specs.declared.refusal.Refusal.{Refusal}
use Rattle.world.specs.declared.refusal.Refusal.TheVariants.{CutShort, UnknownKind}
use Rattle.laws.proofs.Bools.{and_left, and_right}
use Rattle.laws.proofs.Choices.{cases}
use Rattle.world.proofs.Checks.{Passed, all, first_of, unless_has}
use Rattle.std.specs.Prelude.{Result, Ok, Err}
use Rattle.tape_records.specs.declared.Read.{Read}
use Rattle.tape_records.specs.Answers.{CheckedRead, read_checked}
use Rattle.tape.specs.Tape.{KindEntry, kind_in, kinds, decoded_by, decoded}
use Rattle.tape_loads.specs.LoadRecords.{serves_count, line_record, stop_record, car_record, rider_record}
use Rattle.tape_orders.specs.OrderRecords.{send_record, mode_record, manual_speed_record, door_command_record, hall_call_record, destination_record, enable_record, tick_record, start_record}
use Rattle.layout.specs.Layout.{kind_of, fields_of}
use Rattle.tape.specs.Facts.{InBounds, ReadsInBounds}

-- a refusal that a tape's words bring: 1 to 4
abbrev of_words : Refusal → Bool
of_words r = leb 1 (refusal_number r) && leb (refusal_number r) 4

module _ (ws : List ℕ) where
  abbrev Fine : Result Read Refusal → Type 0
  Fine = InBounds ws

  refused_in : (r : Refusal) → of_words r ≡ true → Fine (Err r)
  refused_in r e =
      (leb-true 1 (refusal_number r) (and_left (leb 1 (refusal_number r)) (leb (refusal_number r) 4) e), leb-true (refusal_number r) 4 (and_right (leb 1 (refusal_number r)) (leb (refusal_number r) 4) e))

  -- the answer of a kind, where the head is of that kind
  infixr 5 ◌and◌
  data AllFine : List KindEntry → Type 0 where
    end : AllFine []
    ◌and◌ : {t : KindEntry} {ts : List KindEntry} → (kind_of (get_or ws 0 0) ≡ t.number → Fine (read_checked t.deed)) → AllFine ts → AllFine (t ∷ ts)

  kind_in_lem : (ts : List KindEntry) → AllFine ts → Fine (kind_in (kind_of (get_or ws 0 0)) ts)
  kind_in_lem [] end = refused_in UnknownKind refl
  kind_in_lem (t ∷ ts) (p and u) =
      cases Fine (eqb (kind_of (get_or ws 0 0)) t.number) (λ e. p (eqb-true (kind_of (get_or ws 0 0)) t.number e)) (λ e. kind_in_lem ts u)

  -- a record of so many words
  enough : (used : ℕ) → 0 < used → ltb (length ws) used ≡ false → (0 < used) × (used ≤ length ws)
  enough used p e = (p, ltb-false (length ws) used e)

  record_in : 0 < length ws → Fine (decoded_by (fields_of (get_or ws 0 0)) ws)
  unfolding decoded_by line_record
  record_in p =
      let h = fields_of (get_or ws 0 0) in
      kind_in_lem (kinds h ws)
      ((λ e. deed (line_record h ws) refl (λ q. let n = enough (5 + serves_count h.v) (omega arith) q.1.0 in (n.0, n.1, e)))
      and (λ e. deed (stop_record h ws) refl (λ q. let n = enough 3 (omega arith) q.0 in (n.0, n.1, e)))
      and (λ e. deed (car_record h ws) refl (λ q. let n = enough 15 (omega arith) q.0 in (n.0, n.1, e)))
      and (λ e. deed (rider_record h ws) refl (λ q. let n = enough 2 (omega arith) q.0 in (n.0, n.1, e)))
      and (λ e. deed (send_record h) refl (λ q. (omega arith, p, e)))
      and (λ e. deed (mode_record h) refl (λ q. (omega arith, p, e)))
      and (λ e. deed (manual_speed_record h ws) refl (λ q. let n = enough 3 (omega arith) q.0 in (n.0, n.1, e)))
      and (λ e. deed (door_command_record h) refl (λ q. (omega arith, p, e)))
      and (λ e. deed (hall_call_record h) refl (λ q. (omega arith, p, e)))
      and (λ e. deed (destination_record h) refl (λ q. (omega arith, p, e)))
      and (λ e. deed (enable_record h) refl (λ q. (omega arith, p, e)))
      and (λ e. deed (tick_record h ws) refl (λ q. let n = enough 3 (omega arith) q.0 in (n.0, n.1, e)))
      and (λ e. deed (start_record h) refl (λ q. (omega arith, p, e)))
      and end)
    where
      deed : (d : CheckedRead) → all of_words d.checks ≡ true → (Passed d.checks → Fine (Ok d.done)) → Fine (read_checked d)
      deed d e = unless_has Fine d.checks Err (Ok d.done) (λ r q. refused_in r (first_of of_words d.checks e q))

pub in_bounds : ReadsInBounds
unfolding ReadsInBounds decoded
in_bounds ws =
    cases (Fine ws) (eqb (length ws) 0) (λ e. refused_in ws CutShort refl)
    (λ e. let n : (length ws ≡ 0) → ⊥ = eqb-false (length ws) 0 e in record_in ws (omega arith))
