-- `move_turn::sort::SortedStops::between` meets its contract: those below a threshold stand first in the sort,
-- so from the start on the run of them is as long as the end's count less the start's. Assumes nothing.
use Rattle.std.proofs.Common.{arith, rules, ◌≡◌, ◌-◌, ℕ, min, take, drop, length, ◌∙◌}
use Rattle.std.proofs.lemmas.List.{take_all, length-drop}
use borrow.Author.Tests.{tests}
use lib.Ieee.{lt}
use Rattle.std.specs.List.{prefix_len}
use Rattle.std.proofs.lemmas.Iterator.{YieldsList-from_slice}
use Rattle.std.proofs.lemmas.Iterator.Consumers.{count_from_yields_List}
use Rattle.std.proofs.lemmas.Iterator.Search.{YieldsList-from_take_while}
use Rattle.std.proofs.lemmas.List.Folds.{length-prefix_len}
use Rattle.world.specs.World.{stop_position}
use Rattle.move_turn.specs.Passing.{end_of, between}
use Rattle.move_turn.proofs.Counting.{end_split, first_are}
use Rattle.move_turn.proofs.Emitting.{start_within}
use Rattle.move_turn.proofs.sort.SortedStops.between.Goals as goal

pub returns : goal.returns
unfolding end_of between
returns c =
    let v = c.args.self.now in
    let n = min v.count 64 in
    let is = λ (s : ℕ). lt (stop_position v.items s) c.args.to in
    let start = c.count_up_to.result in
    let xs = c.sorted.result.now in
    let rest = take (length xs - start) (drop start xs) in
    let all = take_all (length xs - start) (drop start xs) (omega (arith, length-drop start xs)) in
    let count : c.count.result ≡ prefix_len is rest = count_from_yields_List c.take_while.result _ c.count.ensures.ran
    (YieldsList-from_take_while _ is (YieldsList-from_slice rest (cc)) c.take_while.ensures.closure c.take_while.ensures.done (λ x b q k. search (rules, tests)))
    ∙ length-prefix_len is rest in
    rw (count, all, c.sorted.ensures, c.count_up_to.ensures, first_are is _ (end_split v.items n c.args.to) _ (start_within v.items n c.args.from))
