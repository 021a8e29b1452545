-- The lines of what is printed: a word's line has eight digits, its kind first, and no line has a newline in it.
-- Assumes nothing.
use mathlib.Core.Path.{◌≡◌, refl, ap, ◌∙◌}
use mathlib.Core.Bool.{Bool, true, false, not}
use mathlib.Core.List.{List, [], ◌∷◌, ◌++◌, map, append_assoc}
use Prim.Native.Nat.{ℕ, zero, suc, ◌+◌, ◌/◌, ◌%◌, ◌^◌, ◌<◌, ◌≤◌}
use Prim.Native.Char.{Char, code}
use native.Mathlib.Nat.{mod-lt}
use native.Mathlib.Omega.{arith}
use lib.Dec.{eqb, ltb}
use borrow.Author.Tests.{leb-false, ltb-true, ltb-false, eqb-true, eqb-false, eq-eqb, ne_eqb, not-true, le-leb, lt-leb}
use Rattle.io.specs.Digits.{hex_digit_ascii, last_digits}
use Rattle.std.specs.List.{All, AllPass, list_all}
use Rattle.std.proofs.lemmas.List.Elements.{All-push}
use Rattle.std.proofs.lemmas.List.Folds.{list_all-append}
use Rattle.std.proofs.lemmas.List.Splits.{slice_split_at}
use Rattle.std.proofs.lemmas.List.Sums.{AllPass-from_list_all}
use Rattle.laws.specs.Counting.{how_many}
use Rattle.laws.proofs.Bools.{no, or_left, or_right}
use Rattle.laws.proofs.Choices.{cases}
use Rattle.layout.specs.Layout.{kind_of}
use Rattle.log_read_back.specs.ReadBack.{is_kind}
use Rattle.report.specs.Report.{is_unknown, has_unknown}
use Rattle.report.specs.declared.Totals.{Totals}
use Rattle.study_numbers.specs.NumberText.{newline, word_line, word_lines, decimal_to}
use Rattle.study_text.specs.Text.{field, report_line}
use Rattle.study_whole.specs.PrintedTotals.{split_at_newlines, is_hex_digit, EightDigits, has_first_digit, lines_with, totals_line}

-- ---- digits

hex : (d : ℕ) → d < 16 → is_hex_digit (hex_digit_ascii d) ≡ true
hex d h =
    cases (λ (c : ℕ). is_hex_digit c ≡ true) (ltb d 10)
    (λ e. rw (le-leb 48 (48 + d) (omega arith), le-leb (48 + d) 57 (omega (arith, ltb-true d 10 e))) refl)
    (λ e. rw (le-leb 48 (87 + d) (omega arith), lt-leb (87 + d) 57 (omega (arith, ltb-false d 10 e)), le-leb 97 (87 + d) (omega (arith, ltb-false d 10 e)), le-leb (87 + d) 102 (omega arith)) refl)

-- no digit is a newline
inside : (c : ℕ) → is_hex_digit c ≡ true → eqb c 10 ≡ false
inside c h = ne_eqb c 10 (λ (e : c ≡ 10). no (rw e at h))

hex_digits : (k w : ℕ) → AllPass is_hex_digit (last_digits 16 k w)
hex_digits zero w = λ k d h. absurd (omega (arith, h))
hex_digits (suc k) w =
    All-push (λ (c : ℕ). is_hex_digit c ≡ true) (last_digits 16 k (w / 16)) (hex_digit_ascii (w % 16)) (hex_digits k (w / 16)) (hex (w % 16) (mod-lt w (omega arith)))

-- ---- the words' lines

-- a word's line, without its newline
abbrev pub digits : ℕ → List ℕ
digits w = last_digits 16 8 w

pub lines_words : (ws text : List ℕ)
    → split_at_newlines (word_lines ws ++ text) ≡ map digits ws ++ split_at_newlines text
unfolding word_lines word_line
lines_words [] text = refl
lines_words (w ∷ ws) text =
    slice_split_at (λ (c : ℕ). eqb c 10) (digits w) 10 (word_lines ws ++ text) (λ k d h. inside _ (hex_digits 8 w k d h)) refl
    ∙ ap (λ (ls : List (List ℕ)). digits w ∷ ls) (lines_words ws text)

pub eight_digits : (ws : List ℕ) → All EightDigits (map digits ws)
eight_digits [] k d h = absurd (omega (arith, h))
eight_digits (w ∷ ws) zero d h = record { eight = refl; digits = hex_digits 8 w }
eight_digits (w ∷ ws) (suc k) d h = eight_digits ws k d (omega (arith, h))

-- ---- a word's first digit is its kind

same_digit : (m k : ℕ) → k < 10 → eqb (hex_digit_ascii m) (48 + k) ≡ eqb m k
same_digit m k l =
    cases (λ (c : ℕ). eqb c (48 + k) ≡ eqb m k) (ltb m 10)
    (λ e. by (eqb m k) refl)
    (λ e. let far : 10 ≤ m = ltb-false m 10 e in rw (ne_eqb (87 + m) (48 + k) (λ q. omega (arith, q)), ne_eqb m k (λ q. omega (arith, q))) refl)
  where
    by : (b : Bool) → eqb m k ≡ b → eqb (48 + m) (48 + k) ≡ b
    by true e = eq-eqb (48 + m) (48 + k) (omega (arith, eqb-true m k e))
    by false e = ne_eqb (48 + m) (48 + k) (λ q. eqb-false m k e (omega (arith, q)))

module _ (digit : Char) (k : ℕ) (low : k < 10) (is : code digit ≡ 48 + k) where
  first_digit_kind : (w : ℕ) → is_unknown w ≡ false → has_first_digit digit (digits w) ≡ is_kind k w
  unfolding kind_of
  first_digit_kind w u = rw (is, same_digit (w / 16 / 16 / 16 / 16 / 16 / 16 / 16 % 16) k low, top (leb-false 11 (w / 2 ^ 28) u)) refl
    where
      top : w / 2 ^ 28 < 11 → w / 16 / 16 / 16 / 16 / 16 / 16 / 16 % 16 ≡ w / 2 ^ 28
      top h = omega arith

  pub lines_kind : (ws : List ℕ) → has_unknown ws ≡ false → lines_with digit (map digits ws) ≡ how_many (is_kind k) ws
  unfolding how_many has_unknown
  lines_kind [] u = refl
  lines_kind (w ∷ ws) u =
      rw (first_digit_kind w (or_left (is_unknown w) (has_unknown ws) u), lines_kind ws (or_right (is_unknown w) (has_unknown ws) u)) refl

-- ---- the last line

abbrev plain : ℕ → Bool
plain c = not (eqb c 10)

plain_digit : (d : ℕ) → d < 16 → plain (hex_digit_ascii d) ≡ true
plain_digit d h = rw (inside (hex_digit_ascii d) (hex d h)) refl

plain_last : (n : ℕ) → plain (hex_digit_ascii (n % 10)) ≡ true
plain_last n = plain_digit (n % 10) (omega arith)

plain_decimal : (more n : ℕ) → list_all plain (decimal_to more n) ≡ true
unfolding decimal_to
plain_decimal zero n = rw (plain_last n) refl
plain_decimal (suc more) n =
    cases (λ (l : List ℕ). list_all plain l ≡ true) (ltb n 10)
    (λ e. rw (plain_digit n (omega (arith, ltb-true n 10 e))) refl)
    (λ e. rw (list_all-append plain (decimal_to more (n / 10)) (hex_digit_ascii (n % 10) ∷ []), plain_decimal more (n / 10), plain_last n) refl)

plain_line : (above : List (List ℕ)) (standing : ℕ) → list_all plain (totals_line above standing) ≡ true
unfolding totals_line
plain_line above standing = simp (list_all-append, plain_decimal)

pub last_line_split : (above : List (List ℕ)) (standing : ℕ)
    → split_at_newlines (totals_line above standing ++ newline) ≡ totals_line above standing ∷ [] ∷ []
last_line_split above standing =
    slice_split_at (λ (c : ℕ). eqb c 10) (totals_line above standing) 10 []
    (λ k d h. not-true _ (AllPass-from_list_all plain (totals_line above standing) (plain_line above standing) k d h)) refl

-- it is the report's, where the totals are those counts
pub record Counted (t : Totals) (above : List (List ℕ)) (standing : ℕ) : Type 0 where
  pub ticks : t.ticks ≡ lines_with "0" above
  pub moves : t.moves ≡ lines_with "1" above + lines_with "2" above + lines_with "3" above
  pub passing : t.passing ≡ lines_with "1" above
  pub arrived : t.arrived ≡ lines_with "2" above
  pub repositioned : t.repositioned ≡ lines_with "3" above
  pub opened : t.opened ≡ lines_with "6" above
  pub closed : t.closed ≡ lines_with "7" above
  pub waiting : t.waiting ≡ standing

before_newline : (a b c d e f g h n : List ℕ) → a ++ b ++ c ++ d ++ e ++ f ++ g ++ h ++ n ≡ (a ++ b ++ c ++ d ++ e ++ f ++ g ++ h) ++ n
before_newline a b c d e f g h n = simp append_assoc

pub report_is : (t : Totals) (above : List (List ℕ)) (standing : ℕ) → Counted t above standing
    → report_line t ≡ totals_line above standing ++ newline
unfolding report_line totals_line
report_is t above standing c =
    rw (c.ticks, c.moves, c.passing, c.arrived, c.repositioned, c.opened, c.closed, c.waiting)
    (before_newline (field "ticks " (lines_with "0" above)) (field " moves " (lines_with "1" above + lines_with "2" above + lines_with "3" above))
    (field " passing " (lines_with "1" above)) (field " arrived " (lines_with "2" above)) (field " repositioned " (lines_with "3" above))
    (field " opened " (lines_with "6" above)) (field " closed " (lines_with "7" above)) (field " waiting " standing) newline)
