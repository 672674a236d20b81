use Rattle.std.proofs.Common.{rules, ◌≡◌, ◌∙◌}
use Rattle.words.specs.Carried.{key_of}
use Rattle.answers.specs.Numbers.{code, gate_number}
use Rattle.accepting.proofs.Gate.{early, last-held, last_new}
use Rattle.accepting.proofs.gate_order.Goals as goal

pub returns-in_err-judge : goal.returns-in_err-judge
returns-in_err-judge c =
    let o = c.args.order.now in
    let r = c.in_err-judge.field-0.0 in
    let up : gate_number c.from_residual.result ≡ code r = search rules in
    up ∙ early (key_of o.key) o.count o.row c.args.board.now c.size_of-n.result c.size_of-n.ensures r c.in_err-judge.ensures

pub returns-in-Some : goal.returns-in-Some
returns-in-Some c =
    let o = c.args.order.now in
    last-held (key_of o.key) o.count o.row c.args.board.now c.size_of-n.result c.size_of-n.ensures c.in_ok-judge.ensures c.find.result _ c.find.ensures c.in-Some.is

pub returns-in-None : goal.returns-in-None
returns-in-None c =
    let o = c.args.order.now in
    last_new (key_of o.key) o.count o.row c.args.board.now c.size_of-n.result c.size_of-n.ensures c.in_ok-judge.ensures c.find.result c.find.ensures c.in-None.is
