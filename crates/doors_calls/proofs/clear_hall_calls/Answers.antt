-- `doors_calls::clear_hall_calls` meets its contract: where no call stands none is cleared and no word written; else a
-- turn is the definition's step for car n, its words behind those before. Assumes nothing.
use mathlib.Core.Path.{◌≡◌, refl}
use Prim.Native.Nat.{◌<◌}
use native.Mathlib.Numerals.{add-one}
use native.Mathlib.Omega.{arith}
use Rattle.std.proofs.lemmas.List.{get_or-take, length-take}
use Rattle.log_writes.proofs.Written.{written_none, written_also}
use Rattle.turn.specs.Steps.{not_opened}
use Rattle.doors_calls.specs.Clearing.{clear_to, clear_words_to}
use Rattle.doors_calls.proofs.NoCalls.{none, no_calls}
use borrow.Author.Rules.{rules}
use Rattle.doors_calls.proofs.clear_hall_calls.Goals as goal

pub returns-then-eq : goal.returns-then-eq
returns-then-eq c =
    let e : c.args.calls ≡ none = search (rules, c.eq.ensures, c.if-eq.true) in
    no_calls _ _ c.args.calls e

pub loop-n-init : goal.loop-n-init
unfolding clear_to clear_words_to
loop-n-init c = (search rules, record { calls = refl; written = written_none })

pub loop-n-preserved : goal.loop-n-preserved
unfolding clear_to clear_words_to
loop-n-preserved c =
    let w = c.loop-n.invariant.1 in
    let h = c.clear_matching_hall_calls-calls.ensures in
    let few : c.loop-n.n < c.min-cars.result = omega (arith, simp length-take at c.loop-n-test.true) in
    let q = get_or-take c.min-cars.result c.args.just_opened.now c.loop-n.n not_opened few in
    (search rules, rw (add-one, ← w.calls, ← q) (record { calls = h.calls; written = written_also w.written h.written }))
