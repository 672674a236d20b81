use Rattle.std.proofs.Common.{◌≡◌, ℕ, ◌*◌, length, get_or, ltb, ap, ◌∙◌, arith, rules, tests}
use Rattle.std.specs.Int.{from_bool}
use Rattle.rules.specs.Layout.{row8}
use Rattle.storing.proofs.Rows.{each_made, padded}
use Rattle.storing.proofs.padded.Goals as goal

pub returns : goal.returns
returns c =
    let row = c.args.order.now.row in
    let l = c.list.result.now in
    let each = each_made _ _ c.from_fn.result (λ (i y : ℕ). y ≡ get_or row i 0 * from_bool (ltb i (length l))) (λ i y q j. search (rules, tests)) 0 8 c.from_fn.ensures.items.each in
    padded row l c.from_fn.result c.args.order.now.count (search rules) c.list.ensures c.from_fn.ensures.items.long (λ k lt. each k (omega arith) lt 0) ∙ ap row8 c.list.ensures
