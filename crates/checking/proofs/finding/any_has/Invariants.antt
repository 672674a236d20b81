use Rattle.std.proofs.Common.{◌≡◌, ◌||◌, drop}
use Rattle.std.specs.List.{list_any}
use Rattle.checking.specs.Slots.{has_key}
use Rattle.words.specs.Carried.{key_of}
use Rattle.checking.proofs.finding.any_has.Given as goal

-- what was met, or what is left, has the key
abbrev pub invariant-loop-slot : goal.invariant-loop-slot
invariant-loop-slot l = l.found || list_any (has_key (key_of l.key)) (drop l.slot-index l.slots) ≡ list_any (has_key (key_of l.key)) l.slots
