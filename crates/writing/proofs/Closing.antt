-- The N line, put at the start of a room.
use Rattle.std.proofs.Common.{◌≡◌, [], ◌∷◌, length}
use Rattle.std.proofs.lemmas.Bool.Decides.{nat_tests}
use Rattle.rules.specs.Letters.{byte_n}
use Rattle.rules.specs.Runs.{Counts, tally_line}
use Rattle.rules.specs.AnswerLines.{answer_bytes}
use Rattle.rules.proofs.TextLaws.{length-text_line}
use Rattle.writing.specs.Writing.{tally_line_bytes}
use Rattle.writing.proofs.Texts.{sets-start}

pub length-tally_line : (t : Counts) → length (tally_line t) ≡ tally_line_bytes
unfolding tally_line
length-tally_line t = length-text_line answer_bytes byte_n (t.lines ∷ t.accepted ∷ t.refused ∷ [])

pub ruleset closes = (nat_tests, sets-start, length-tally_line)
