use Rattle.std.proofs.Common.{◌∙◌, ◌<◌, ℕ, List, cond, rules, tests, of_calls, arith}
use Rattle.std.specs.List.{count_by}
use Rattle.std.proofs.lemmas.Iterator.{YieldsList-from_slice, YieldsList-from_map}
use Rattle.std.proofs.lemmas.Iterator.Consumers.{sum_by_from_yields_List, fits_by_from_yields_list}
use Rattle.checking.specs.Slots.{whole}
use Rattle.checking.proofs.HeldOrders.{holds, held-few, held_counted}
use Rattle.checking.proofs.checks.count_held.Goals as goal

abbrev one : List ℕ → ℕ
one slot = cond (holds slot) 1 0

pub sum-requires : goal.sum-requires
sum-requires c =
    let w = c.args.board.now in
    let n = c.args.n in
    let slots = c.slots_of-slots.result.now in
    let e = c.slots_of-slots.ensures in
    let few : count_by holds slots < 65536 = omega (arith, held_counted w n slots e.words e.many, held-few w (whole n w)) in
    record { can = search of_calls; finite = search of_calls; fits = fits_by_from_yields_list one slots c.map.result _ (YieldsList-from_map _ one (YieldsList-from_slice slots cc) c.map.ensures.closure (λ x r q k. search (rules, tests))) few }

pub returns : goal.returns
returns c =
    let slots = c.slots_of-slots.result.now in
    let e = c.slots_of-slots.ensures in
    sum_by_from_yields_List one slots c.map.result _ c.sum.ensures.ran (YieldsList-from_map _ one (YieldsList-from_slice slots cc) c.map.ensures.closure (λ x r q k. search (rules, tests)))
    ∙ held_counted c.args.board.now c.args.n slots e.words e.many
