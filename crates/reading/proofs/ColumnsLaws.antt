-- Columns one after another: the next one is read, or there the reading stops. Assumes nothing.
use Rattle.std.proofs.Common.{◌≡◌, ℕ, suc, ◌+◌, ◌-◌, ◌≤◌, true, List, [], ◌∷◌, ◌++◌, map, Some, None, length, take, drop, replicate, sym, ap, ◌∙◌, arith, append_assoc, append-nil, ◌<◌, set}
use Rattle.std.proofs.lemmas.Bool.Decides.{nat_tests}
use Rattle.std.proofs.Math.Seq.{take-append-add}
use Rattle.std.specs.Option.{is_some}
use Rattle.std.proofs.lemmas.List.{take_more_set, take_all, take-replicate, drop-replicate}
use Rattle.rules.specs.InputLines.{column_bytes, most_columns, is_column, column_value}
use Rattle.reading.specs.Reading.{all_columns}
use Rattle.reading.specs.Reader.{past_columns}
use Rattle.reading.specs.Machine.{cell_of, columns_at, gathered}

-- ---- what a cell says of its column

column-some : (t : List ℕ) (v : ℕ) → cell_of t ≡ Some v → (is_column t ≡ true) × (column_value t ≡ v)
column-some t v e = grind (arith, nat_tests)

-- i of n columns were read, and stored in front of what stands behind them
module _ (s : List ℕ) (p n i : ℕ) (low : i < n) where
  left : n - i ≡ suc (n - (i + 1))
  left = omega arith

  pub past_more : is_some (cell_of (take column_bytes (drop p s))) ≡ true → past_columns s (past_columns s p 1) (n - (i + 1)) ≡ past_columns s p (n - i)
  past_more cell = rw left (grind (arith, nat_tests))

  pub past_stop : cell_of (take column_bytes (drop p s)) ≡ None → past_columns s p (n - i) ≡ p
  past_stop cell = rw left (grind (arith, nat_tests))

  module _ (vs : List ℕ) where
    pub gathered_more : (v : ℕ) → cell_of (take column_bytes (drop p s)) ≡ Some v → i < length vs
        → gathered (take (i + 1) (set vs i v)) (columns_at s (past_columns s p 1) (n - (i + 1))) ≡ gathered (take i vs) (columns_at s p (n - i))
    gathered_more v cell low =
        rw (take_more_set vs i v low, append_assoc (take i vs) (v ∷ []) (map column_value (columns_at s (past_columns s p 1) (n - (i + 1)))), left, (column-some _ v cell).0, (column-some _ v cell).1)

    pub gathered_stop : cell_of (take column_bytes (drop p s)) ≡ None → gathered (take i vs) (columns_at s p (n - i)) ≡ None
    gathered_stop cell = rw left (grind (arith, nat_tests))

-- as they are stored
pub stored-columns : (vs : List ℕ) → length vs ≤ most_columns → vs ++ drop (length vs) (replicate most_columns 0) ≡ all_columns vs
stored-columns vs h =
    let k = most_columns - length vs in
    let all : length vs + k ≡ most_columns = omega arith in
    ap (λ (l : List ℕ). vs ++ l) (drop-replicate (length vs) most_columns 0 ∙ sym (take-replicate k most_columns 0 (omega arith)))
    ∙ sym (take-append-add vs (replicate most_columns 0) k) ∙ ap (λ (j : ℕ). take j (vs ++ replicate most_columns 0)) all

pub gathered_all : (s vs : List ℕ) (p n i : ℕ) → n ≤ most_columns → length vs ≡ n → n ≤ i → gathered (take i vs) (columns_at s p (n - i)) ≡ Some (vs ++ drop n (replicate most_columns 0))
gathered_all s vs p n i few long end =
    let none : n - i ≡ 0 = omega arith in
    rw (none, take_all i vs (omega arith), append-nil, ← long) (ap Some (sym (stored-columns vs (omega arith))))

pub ruleset gathers = (past_more, past_stop, gathered_more, gathered_stop, gathered_all)
