use Rattle.std.proofs.Common.{ℕ, ◌∙◌, rules, tests, eqb}
use Rattle.std.proofs.lemmas.Iterator.{YieldsList-from_slice}
use Rattle.std.proofs.lemmas.Iterator.Search.{all_from_yields_List}
use Rattle.checking.proofs.Tests.{all_same}
use Rattle.checking.proofs.slots.all_zero.Goals as goal

pub returns : goal.returns
returns c =
    let xs = c.args.words.now in
    let test = λ (t : ℕ). eqb t 0 in
    all_from_yields_List test _ _ _ c.all.ensures.ran (YieldsList-from_slice xs cc) (λ x b q k. search (rules, tests)) ∙ all_same test xs
