-- Numbers drawn from a seed. Assumes nothing.
use Rattle.std.specs.Prelude.{cond, ℕ, ◌+◌, ◌*◌, ◌/◌, ◌%◌, eqb}

-- the seed after this one
abbrev pub next_seed : ℕ → ℕ
next_seed x = (x * 1664525 + 1013904223) % 4294967296

-- a number below k out of a seed's upper half; 0 where k is 0
abbrev pub drawn : ℕ → ℕ → ℕ
drawn x k = cond (eqb k 0) 0 (x / 65536 % k)
