use Rattle.std.proofs.Common.{◌∙◌, rules, tests, arith}
use Rattle.std.proofs.lemmas.Iterator.Search.{all_from_yields_List}
use Rattle.rules.specs.Check.{slot_fine}
use Rattle.checking.proofs.Inclusive.{YieldsList-from_inclusive, all_slots}
use Rattle.checking.proofs.checks.slots_fine.Goals as goal

pub returns : goal.returns
returns c =
    let n = c.args.n in
    let test = slot_fine n c.args.board.now in
    let range = c.new.ensures in
    all_from_yields_List test _ _ _ c.all.ensures.ran (YieldsList-from_inclusive 1 n n range.start range.end range.exhausted (omega arith)) (λ x b q k. search (rules, tests)) ∙ all_slots test n
