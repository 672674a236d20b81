-- Counts of comparisons, each of 32 bits. Assumes nothing.
use Rattle.std.specs.Prelude.{Bool, cond, ℕ, ◌+◌, ◌%◌}
use Rattle.trial_kit.specs.declared.tallies.Score.{Score}
use Rattle.trial_kit.specs.declared.tallies.Tally.{Tally}

abbrev pub more : ℕ → ℕ → ℕ
more n k = (n + k) % 4294967296

-- one comparison more, and one more that is wrong where it is not right
abbrev pub counted : Bool → Score → Score
counted right s = record { tried = more s.tried 1; wrong = cond right s.wrong (more s.wrong 1) }

abbrev pub added : Score → Score → Score
added s t = record { tried = more s.tried t.tried; wrong = more s.wrong t.wrong }

abbrev pub none : Score
none = record { tried = 0; wrong = 0 }

abbrev pub next_case : Tally → Tally
next_case t = record t { case = more t.case 1 }

abbrev pub noted : Bool → Tally → Tally
noted right t = record t { group = counted right t.group }

-- a group's comparisons are added to those of all groups, and begin anew
abbrev pub told : Tally → Tally
told t = record t { group = none; all = added t.all t.group }
