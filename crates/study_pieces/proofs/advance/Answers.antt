-- `study_pieces::advance` meets its contract: the records, the tape's end and the bytes kept are the definition's,
-- each by its function's contract; the tape's end by the same test, and its line has room. Assumes nothing.
use Rattle.std.proofs.Common.{rules, ℕ, min, ap, sym, ◌∙◌}
use Rattle.study_pieces.proofs.Going.{advances}
use Rattle.study_pieces.proofs.advance.Goals as goal

pub returns : goal.returns
returns c =
    let a = c.args in
    let m = c.min-end in
    let w = c.new-text in
    let r = c.play_bytes-played in
    let k = c.close-refusal in
    let t = c.keep in
    advances a.piece.now a.out.now r.new.log _ t.new.bytes w.result r.new.out k.new.out w.ensures.items w.ensures.at (search rules) m.result a.ended r.new.study r.result k.new.study k.result t.result
    a.study.now
    a.log.now
    a.held
    c.told-out
    (m.ensures ∙ ap (λ (n : ℕ). min a.held n) (sym c.told-piece))
    r.ensures
    k.ensures
    t.ensures
