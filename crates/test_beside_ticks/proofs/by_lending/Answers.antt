-- `test_beside_ticks::by_lending` meets its contract: a turn is the definition's next record, by what the lent call
-- gives; it uses no more words than are left, so the place stays within the tape. Assumes nothing.
use Rattle.std.proofs.Common.{◌∙◌, arith, rules}
use Rattle.laws.specs.Numbers.{plus}
use Rattle.test_beside_ticks.proofs.Playing.{within, stays, again}
use Rattle.test_beside_ticks.proofs.by_lending.Goals as goal

pub overflow_add-used : goal.overflow_add-used
overflow_add-used c = omega (arith, within _ _ _ _ c.record_in_place.ensures.answer c.loop.invariant.1 c.told_by-told.ensures.0)

pub loop-preserved : goal.loop-preserved
unfolding plus
loop-preserved c =
    let l = c.loop in
    let o = c.record_in_place.ensures in
    let t = c.told_by-told.ensures in (
      search rules,
      within _ _ _ _ o.answer l.invariant.1 t.0,
      stays _ c.args.words.now _ l.used o.log ∙ l.invariant.2,
      again _ _ _ _ _ _ l.invariant.3 o.answer o.world o.log t.0 t.1,
    )
