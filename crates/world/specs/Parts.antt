-- Parts of the code, cited within the library alone, on which the promise of `record` does not rest: what a table
-- gives and takes, and the mode of a code.
use Rattle.std.specs.Prelude.{ℕ, List, leb, cond, min, take, ◌+◌, ◌≡◌, Result, Ok, Err, ltb}
use Rattle.std.specs.declared.option.Option.{Option}
use Rattle.std.specs.declared.option.Option.TheVariants.{None, Some}
use Rattle.world.specs.declared.Table.{Table}
use Rattle.world.specs.Tables.{with_item}
use Rattle.world.specs.declared.refusal.Refusal.{Refusal}
use Rattle.world.specs.declared.refusal.Refusal.TheVariants.{FieldOutside}
use Rattle.world.specs.declared.ServiceMode.{ServiceMode}
use Rattle.world.specs.Modes.{mode_of}

-- the items that are there; a count above the size is taken as the size
abbrev pub listed : {A : Type 0} → {n : ℕ} → Table A n → List A
listed {A} {n} t = take (min t.count n) t.items

-- with one more item at its end; none where it is full
abbrev pub pushed : {A : Type 0} → {n : ℕ} → Table A n → A → Option (Table A n)
pushed {A} {n} t a = cond (leb n t.count) None (Some (with_item t t.count a (t.count + 1)))

-- the result is the mode of that code, or refusal 3 where no mode has it
abbrev pub ModeOf : ℕ → Result ServiceMode Refusal → Type 0
ModeOf code result = result ≡ cond (ltb 4 code) (Err FieldOutside) (Ok (mode_of code))
