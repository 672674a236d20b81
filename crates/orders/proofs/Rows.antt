-- A row of eight numbers.
use Rattle.std.proofs.Common.{◌≡◌, ℕ, List, length, take, ap}
use Rattle.std.proofs.lemmas.Bool.Decides.{nat_tests}
use Rattle.rules.specs.Layout.{most_choices, row8}
use Rattle.rules.proofs.WordLaws.{row8-same}

-- the list that an order's row has is the one that the checks are of
pub own_list : (c : ℕ) (row : List ℕ) → length row ≡ most_choices → take c (row8 row) ≡ take c row
own_list c row eight = ap (take c) (row8-same row eight)

pub ruleset verdicts = (own_list, nat_tests)
