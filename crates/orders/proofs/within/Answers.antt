use Rattle.std.proofs.Common.{ℕ, ◌∙◌, rules, tests, leb, ◌&&◌, refl}
use Rattle.std.specs.List.{list_all}
use Rattle.std.proofs.lemmas.Iterator.{YieldsList-from_slice}
use Rattle.std.proofs.lemmas.Iterator.Search.{all_from_yields_List}
use Rattle.std.proofs.lemmas.List.Recursion.{same_from_clauses}
use Rattle.matching.specs.Lists.{all}
use Rattle.orders.proofs.within.Goals as goal

pub returns : goal.returns
returns c =
    let xs = c.args.list.now in
    let test = λ (t : ℕ). leb 1 t && leb t c.args.n in
    all_from_yields_List test _ _ _ c.all.ensures.ran (YieldsList-from_slice xs cc) (λ x b q k. search (rules, tests))
    ∙ same_from_clauses (list_all test) (all test) (λ t b. test t && b) refl (λ _ _. refl) (λ _ _. refl) xs
