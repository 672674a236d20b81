use Rattle.std.proofs.Common.{◌≡◌, ◌∙◌, ap, ℕ, not, ◌*◌, ◌/◌, length, take, rules, tests}
use Rattle.std.specs.Option.{unwrap_or}
use Rattle.std.specs.List.{list_any, position_or_len}
use Rattle.std.specs.Simd.{first_chunks}
use Rattle.std.proofs.lemmas.Iterator.{YieldsList-from_slice}
use Rattle.std.proofs.lemmas.Iterator.Search.{position_from_yields_List}
use Rattle.std.proofs.lemmas.List.Sums.{prefix_len-le-length}
use Rattle.checking.specs.Slots.{has_key}
use Rattle.words.specs.Carried.{key_of}
use Rattle.checking.proofs.Looking.{none_before, unwrapped}
use Rattle.checking.proofs.finding.eights_before.Goals as goal

pub returns-clause-lacking : goal.returns-clause-lacking
returns-clause-lacking c =
    let slots = c.args.slots.now in
    let eights = c.as_chunks.result.0.now in
    let has = has_key (key_of c.args.key) in
    let place = position_from_yields_List (list_any has) _ _ c.position.result c.position.ensures.ran (YieldsList-from_slice eights cc) (λ x b q k. search (rules, tests)) in
    let e : c.unwrap_or.result ≡ position_or_len (list_any has) (first_chunks 8 (length slots / 8) slots) =
    c.unwrap_or.ensures ∙ ap (λ o. unwrap_or o (length eights)) place ∙ unwrapped _ _ (prefix_len-le-length (λ l. not (list_any has l)) eights) ∙ ap (position_or_len (list_any has)) c.as_chunks.ensures.front in
    ap (λ (i : ℕ). list_any has (take (8 * i) slots)) e ∙ none_before has 8 (length slots / 8) slots
