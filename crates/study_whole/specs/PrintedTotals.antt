-- What is printed of a tape that the study accepts whole, by its lines alone: the last line counts the lines above it.
use Rattle.std.specs.Prelude.{◌≡◌, Bool, false, ◌&&◌, ◌||◌, List, [], ◌∷◌, ◌++◌, ℕ, ◌+◌, eqb, leb, length}
use Rattle.std.specs.List.{All, AllPass, slice_split}
use Prim.Native.Char.{Char, code}
use Rattle.laws.specs.Counting.{how_many}
use Rattle.world.specs.World.{empty_world}
use Rattle.world.specs.declared.World.{World}
use Rattle.report.specs.Counting.{called_below}
use Rattle.record.specs.Calls.{world_after}
use Rattle.study_numbers.specs.NumberText.{text, newline, decimal}
use Rattle.study_whole.specs.Study.{calls_of, study_text}
use Rattle.study_whole.specs.Certified.{AllAccepted}

-- no record is refused, and no byte is left
pub record AcceptsWhole (tape : List ℕ) : Type 0 where
  pub accepted : AllAccepted empty_world (calls_of tape).calls
  pub none : (calls_of tape).left ≡ []

-- ---- lines

-- a text split at its newlines: its lines, and what follows the last newline
abbrev pub split_at_newlines : List ℕ → List (List ℕ)
split_at_newlines printed = slice_split (λ c. eqb c (code "\n")) printed

abbrev pub is_hex_digit : ℕ → Bool
is_hex_digit c = (leb (code "0") c && leb c (code "9")) || (leb (code "a") c && leb c (code "f"))

-- "8 lower-case hexadecimal digits a line"
pub record EightDigits (line : List ℕ) : Type 0 where
  pub eight : length line ≡ 8
  pub digits : AllPass is_hex_digit line

abbrev pub has_first_digit : Char → List ℕ → Bool
has_first_digit digit [] = false
has_first_digit digit (c ∷ line) = eqb c (code digit)

-- how many lines have that first digit
abbrev pub lines_with : Char → List (List ℕ) → ℕ
lines_with digit above = how_many (has_first_digit digit) above

-- ---- the last line

-- by the lines above it and the number of calls that stand
unfoldable pub totals_line : List (List ℕ) → ℕ → List ℕ
totals_line above standing =
    (text "ticks " ++ decimal (lines_with "0" above))
    ++ (text " moves " ++ decimal (lines_with "1" above + lines_with "2" above + lines_with "3" above))
    ++ (text " passing " ++ decimal (lines_with "1" above))
    ++ (text " arrived " ++ decimal (lines_with "2" above))
    ++ (text " repositioned " ++ decimal (lines_with "3" above))
    ++ (text " opened " ++ decimal (lines_with "6" above))
    ++ (text " closed " ++ decimal (lines_with "7" above))
    ++ (text " waiting " ++ decimal standing)

-- "hall calls standing, both directions": the world's stops with a call up, and those with a call down
abbrev pub calls_standing : World → ℕ
calls_standing w = called_below w.calls.up w.stops.count + called_below w.calls.down w.stops.count

-- ---- the claim

pub record Printed (tape : List ℕ) : Type 0 where
  pub above : List (List ℕ)
  pub words : All EightDigits above
  -- nothing follows the last newline
  pub lines :
      split_at_newlines (study_text tape)
      ≡ above ++ (totals_line above (calls_standing (world_after empty_world (calls_of tape).calls)) ∷ [] ∷ [])

-- of every tape that is accepted whole, Manual mode included. Document 01's is one: `PaperCalls`.
unfoldable pub PrintedTotals : Type 0
PrintedTotals = (tape : List ℕ) → AcceptsWhole tape → Printed tape

-- a tape of one byte is not: no record is refused, and no totals are printed
pub record OneByte : Type 0 where
  pub accepted : AllAccepted empty_world (calls_of (0 ∷ [])).calls
  pub refused : study_text (0 ∷ []) ≡ text "refused 1" ++ newline
