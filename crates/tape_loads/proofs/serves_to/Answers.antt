-- `tape_loads::serves_to` meets its contract: the word at which the loop is left is one of the served and no stop's
-- number, so the definition has the list outside too. Assumes nothing.
use Rattle.std.proofs.Common.{rules}
use Rattle.tape_loads.proofs.Serves.{served_outside}
use Rattle.tape_loads.proofs.serves_to.Goals as goal

pub returns-in_err-serves : goal.returns-in_err-serves
returns-in_err-serves c = search (rules, served_outside c.args.words.now c.args.count c.loop-i.i c.loop-i-test.true)
