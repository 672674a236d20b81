use Rattle.std.proofs.Common.{◌≡◌, ◌∙◌, ap, ℕ, length, take, min}
use Rattle.std.proofs.lemmas.List.FromFn.{length-map-range_with_len}
use Rattle.rules.specs.Layout.{reads, base, slot_words}
use Rattle.checking.specs.Slots.{whole, whole_slots}
use Rattle.checking.proofs.Chunks.{whole_are}
use Rattle.checking.proofs.slots.slots_of.Goals as goal
use Rattle.checking.proofs.slots.slots_of.Goals.{After-min}

words : (c : After-min) → take c.min.result c.as_chunks.result.0.now ≡ whole_slots c.args.n c.args.board.now
words c =
    let a = c.as_chunks.ensures in
    ap (take c.min.result) a.front ∙ whole_are c.args.board.now _ c.args.n c.min.result c.words_from.ensures (c.min.ensures ∙ λ i. min (a.front_len i) (c.from.ensures i))

pub returns-clause-words : goal.returns-clause-words
returns-clause-words c = words c

pub returns-clause-many : goal.returns-clause-many
returns-clause-many c = ap length (words c) ∙ length-map-range_with_len (λ (s : ℕ). reads c.args.board.now (base s) slot_words) 1 (whole c.args.n c.args.board.now)
