use Rattle.std.proofs.Common.{arith, ◌+◌, ◌∷◌, drop, ◌≡◌, None}
use Rattle.trial_kit.specs.Texts.{numbers_of}
use Rattle.trial_kit.proofs.Found.{stored_next, numbers_next}
use Rattle.trial_kit.proofs.texts.numbers.Goals as goal
use Rattle.trial_kit.proofs.texts.numbers.Goals.{then-is_ascii_digit, else-is_ascii_digit+in-Some, else-is_ascii_digit+in_default}

pub loop-byte-preserved : goal.loop-byte-preserved
loop-byte-preserved c =
    let l = c.loop-byte in
    let text = c.args.text.now in
    let after = drop (l.byte-index + 1) text in
    let rest = numbers_of l.value (drop l.byte-index text) in
    let next = numbers_next l.value text l.byte-index c.loop-byte-test.true in
    elim c.if-is_ascii_digit.branch [
      | then-is_ascii_digit w ↦
          let same : rest ≡ numbers_of c.if-is_ascii_digit.value after = grind (arith, next) in
          rw (w.found-is, w.count-is, ← same) l.invariant
      | else-is_ascii_digit+in-Some w ↦
          let same : rest ≡ w.in-Some.number ∷ numbers_of None after = grind (arith, next) in
          let gone : c.if-is_ascii_digit.value ≡ None = grind arith in
          rw (w.found-is, w.count-is, gone, w.store-count.ensures.next, w.store-count.ensures.stored)
          (stored_next l.found c.args.found.now l.count w.in-Some.number rest (numbers_of None after) (numbers_of None text) same l.invariant)
      | else-is_ascii_digit+in_default w ↦
          let same : rest ≡ numbers_of c.if-is_ascii_digit.value after = grind (arith, next) in
          rw (w.found-is, w.count-is, ← same) l.invariant
    ]
