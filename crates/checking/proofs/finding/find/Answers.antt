use Rattle.std.proofs.Common.{◌≡◌, ◌∙◌, sym, ap, subst, ℕ, List, take, false, ◌+◌, ◌-◌, ◌*◌, rules, tests, arith}
use Rattle.std.specs.List.{list_any}
use Rattle.std.proofs.lemmas.Iterator.Search.{find_from_yields_List}
use Rattle.std.proofs.lemmas.Iterator.Adapters.{option_map_id}
use Rattle.checking.proofs.Inclusive.{YieldsList-from_inclusive}
use Rattle.words.specs.Carried.{key_of}
use Rattle.checking.specs.Slots.{has_key}
use Rattle.checking.proofs.Looking.{has, answer, find-zero, found_past}
use Rattle.checking.proofs.finding.find.Goals as goal

pub returns-then-key-eq-NO_ORDER : goal.returns-then-key-eq-NO_ORDER
returns-then-key-eq-NO_ORDER c = sym (ap answer (find-zero c.args.board.now (key_of c.args.key) c.if-key-eq-NO_ORDER.true c.args.n 1))

pub returns : goal.returns
returns c =
    let w = c.args.board.now in
    let n = c.args.n in
    let k = key_of c.args.key in
    let past = 8 * c.eights_before.result in
    let lack = subst (λ (l : List (List ℕ)). list_any (has_key k) (take past l) ≡ false) c.slots_of.ensures.words c.eights_before.ensures.lacking in
    sym (option_map_id c.find.result)
    ∙ find_from_yields_List (has w k) _ _ c.find.result c.find.ensures.ran (YieldsList-from_inclusive (past + 1) n (n - past) (omega arith) (omega arith) c.new.ensures.exhausted (omega arith)) (λ x b q k. search (rules, tests))
    ∙ found_past w k n past (omega arith) (omega arith) (omega arith) lack
