-- `float::remainder::reduced` meets its contract: a below b is its own remainder; else it is that by b + b, or that
-- less b where b still fits. The measure falls: b + b is more units than b, or infinite. Assumes nothing.
use mathlib.Core.Path.{subst, ◌∙◌}
use Prim.Native.Nat.{ℕ, ◌<◌}
use lib.Ieee.{binary64, add}
use Rattle.float.proofs.Division.{need, less_plain, twice_above, less_need, keep, take}
use Rattle.float.proofs.remainder.+reduced.Goals as goal

pub returns-then-a-b : goal.returns-then-a-b
returns-then-a-b t c = less_plain c.args.a c.args.b c.well_formed.0.1 c.requires.unsigned c.requires.above_zero c.if-a-b.true

pub reduced-r-requires : goal.reduced-r-requires
reduced-r-requires t c =
    let a = c.args.a in
    let b = c.args.b in
    let q = c.requires in
    let l = c.if-a-b.false in
    let A = c.well_formed.0.1 in
    let B = c.well_formed.1.0.1 in (
      subst (λ (n : ℕ). need a (add binary64 b b) < n) (c.decreases) (less_need a b A B q.unsigned q.finite q.above_zero l),
      (q.unsigned, (q.finite, twice_above a b A B q.unsigned q.finite q.above_zero l)),
    )

pub returns-then-r-b : goal.returns-then-r-b
returns-then-r-b t c =
    let q = c.requires in
    let e = c.reduced-r.ensures in
    e ∙ keep c.args.a c.args.b c.well_formed.0.1 c.well_formed.1.0.1 q.unsigned q.finite q.above_zero c.if-a-b.false (rw e at c.if-r-b.true)

pub returns-else-r-b : goal.returns-else-r-b
returns-else-r-b t c =
    let q = c.requires in
    let e = c.reduced-r.ensures in
    rw e (take c.args.a c.args.b c.well_formed.0.1 c.well_formed.1.0.1 q.unsigned q.finite q.above_zero c.if-a-b.false (rw e at c.if-r-b.false))
