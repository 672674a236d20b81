-- Whether a list has a number that no word holds. Assumes nothing.
use Rattle.std.proofs.Common.{◌≡◌, ℕ, zero, suc, ◌≤◌, ◌<◌, true, false, List, [], ◌∷◌, ◌++◌, ◌-◌, replicate, sym, ◌∙◌, Some, None, ltb, length, get_or, refl, ap, arith}
use Rattle.std.proofs.lemmas.Bool.{lt-ltb, le-ltb}
use Rattle.std.proofs.lemmas.Grind.{same_number_lists}
use Rattle.std.proofs.lemmas.List.{drop-replicate}
use Rattle.matching.specs.Lists.{any}
use Rattle.rules.proofs.Cutting.{either}
use Rattle.rules.specs.InputLines.{most_columns}
use Rattle.reading.specs.Reading.{all_columns}
use Rattle.reading.specs.Machine.{narrowed}
use Rattle.reading.proofs.ColumnsLaws.{stored-columns}

any-large : (vs : List ℕ) (i : ℕ) → i < length vs → 65535 < get_or vs i 0 → any (ltb 65535) vs ≡ true
any-large [] i low large = absurd (omega arith)
any-large (v ∷ vs) zero low large = rw (lt-ltb 65535 v large)
any-large (v ∷ vs) (suc i) low large = either (ltb 65535 v) (λ e. rw e) (λ e. rw e (any-large vs i (omega arith) large))

any-none : (vs : List ℕ) → ((i : ℕ) → i < length vs → get_or vs i 0 ≤ 65535) → any (ltb 65535) vs ≡ false
any-none [] h = refl
any-none (v ∷ vs) h = rw (le-ltb 65535 v (h 0 (omega arith))) (any-none vs (λ i low. h (suc i) (omega arith)))

pub narrowed_none : (vs : List ℕ) (i : ℕ) → i < length vs → 65535 < get_or vs i 0 → None ≡ narrowed vs
narrowed_none vs i low large = rw (any-large vs i low large)

pub narrowed_some : (vs ws : List ℕ) → length ws ≡ length vs → ((i : ℕ) → i < length vs → get_or vs i 0 ≤ 65535) → ((i : ℕ) → i < length vs → get_or ws i 0 ≡ get_or vs i 0) → Some ws ≡ narrowed vs
narrowed_some vs ws long small same = rw (any-none vs small) (ap Some (same_number_lists ws vs long (λ k low. same k (omega arith))))

any-zeros : (n : ℕ) → any (ltb 65535) (replicate n 0) ≡ false
any-zeros zero = refl
any-zeros (suc n) = any-zeros n

any-before_zeros : (vs : List ℕ) (n : ℕ) → any (ltb 65535) (vs ++ replicate n 0) ≡ any (ltb 65535) vs
any-before_zeros [] n = any-zeros n
any-before_zeros (v ∷ vs) n = either (ltb 65535 v) (λ e. rw e) (λ e. rw e (any-before_zeros vs n))

-- the zeros behind a line's numbers are none
pub any-columns : (vs : List ℕ) → length vs ≤ most_columns → any (ltb 65535) (all_columns vs) ≡ any (ltb 65535) vs
any-columns vs h =
    ap (any (ltb 65535)) (sym (stored-columns vs h) ∙ ap (λ (l : List ℕ). vs ++ l) (drop-replicate {X = ℕ} (length vs) most_columns 0))
    ∙ any-before_zeros vs (most_columns - length vs)

pub ruleset narrows = (narrowed_none, narrowed_some)
