use Rattle.std.proofs.Common.{ℕ, ◌-◌, ◌∙◌, rules, tests, leb}
use Rattle.std.proofs.lemmas.Iterator.{YieldsList-from_slice}
use Rattle.std.proofs.lemmas.Iterator.Search.{all_from_yields_List}
use Rattle.rules.specs.Layout.{label_at}
use Rattle.checking.proofs.Tests.{low_same}
use Rattle.checking.proofs.slots.labels_low.Goals as goal

pub returns : goal.returns
returns c =
    let w = c.args.board.now in
    let s = c.args.s in
    let xs = c.args.choices.now in
    let test = λ (t : ℕ). leb (label_at w s - 1) (label_at w t) in
    all_from_yields_List test _ _ _ c.all.ensures.ran (YieldsList-from_slice xs cc) (λ x b q k. search (rules, tests)) ∙ low_same w s xs
