use Rattle.std.proofs.Common.{◌≡◌, ℕ, cond, eqb, [], ◌∷◌, ◌++◌, length, ap, ◌∙◌, arith}
use Rattle.std.proofs.lemmas.List.Edits.{sets}
use Rattle.rules.specs.Layout.{base, started_mark, count_word_of, row8}
use Rattle.rules.proofs.WordLaws.{length-row8}
use Rattle.words.specs.Carried.{carried}
use Rattle.storing.proofs.Stores.{sets-three}
use Rattle.storing.proofs.displace.Goals as goal

pub returns-then-end-board-clause-stored : goal.returns-then-end-board-clause-stored
returns-then-end-board-clause-stored c =
    let b = c.args.board.now in
    let o = c.args.order.now in
    let front = c.copy_from_slice.new.self in
    let back = c.copy_from_slice-then-end-board.new.self in
    let count = length c.list.result.now in
    let at = c.start_of-start.result in
    let none : cond (eqb o.fixed 0) 0 started_mark ≡ 0 = ap (λ (f : ℕ). cond (eqb f 0) 0 started_mark) c.if-order-eq-NO_SLOT.true in
    let counted : count ≡ count_word_of (carried o) = ap length c.list.ensures ∙ omega (arith, none) in
    let head : front ≡ o.key.code ∷ o.key.number ∷ c.args.label ∷ [] = c.copy_from_slice.ensures.after in
    let row : back ≡ row8 (carried o).list = c.copy_from_slice-then-end-board.ensures.after ∙ c.padded-choices.ensures in
    let three : length front ≡ 3 = ap length head in
    let eight : length back ≡ 8 = ap length row ∙ length-row8 (carried o).list in
    let place : at ≡ base c.args.s = cc c.start_of-start.ensures in
    sets-three b front back count at _ _ _ _ (omega arith) (omega arith) (omega arith) (omega arith) (omega arith)
    ∙ (λ i. sets b (place i) (head i ++ (counted i ∷ row i)))
