use Rattle.std.proofs.Common.{◌≡◌, ◌∙◌, ◌-◌, ◌≤◌, ap, take, drop, length, arith}
use Rattle.std.proofs.lemmas.Bool.Decides.{nat_tests}
use Rattle.matching.specs.Lists.{member}
use Rattle.rules.specs.Check.{zeros}
use Rattle.checking.proofs.Tests.{member_same, unused_same}
use Rattle.checking.proofs.slots.list_fine.Goals as goal

pub returns-then-all_zero : goal.returns-then-all_zero
returns-then-all_zero c =
    let row = c.args.order.now.row in
    let count = c.args.order.now.count in
    let list = c.list-list.result.now in
    let m : c.contains-then-all_zero.result ≡ member c.args.s list = c.contains-then-all_zero.ensures.value ∙ member_same c.args.s list in
    let u : count ≤ 8 → zeros (take (8 - length list) (drop (length list) row)) ≡ zeros (drop count row) = λ h. ap zeros (unused_same count (length list) row (omega arith) (ap length c.list-list.ensures) h) in
    grind (arith, nat_tests)
