-- The column's states read what the document's definitions say. Assumes nothing.
use Rattle.std.proofs.Common.{◌≡◌, ℕ, ◌+◌, ◌-◌, ◌*◌, true, false, cond, List, [], ◌∷◌, Some, None, eqb, ◌<◌, length, take, drop, length-take, length-drop, refl, ap, ◌∙◌, arith}
use Rattle.std.proofs.lemmas.Bool.Decides.{nat_tests}
use Rattle.std.proofs.lemmas.Bool.{eqb-true, ne_eqb}
use Rattle.matching.specs.Lists.{all}
use Rattle.rules.specs.InputLines.{is_digit, after_spaces, is_numeral, numeral_from, column_bytes, is_column, column_value}
use Rattle.rules.specs.Text.{space}
use Rattle.rules.proofs.Cutting.{either}
use Rattle.reading.specs.declared.State.TheVariants.{Blank, Zero, Number}
use Rattle.reading.specs.Machine.{ended_after, cell_of}

-- after a number, digits
number-reads : (v : ℕ) (t : List ℕ) → ended_after (Number v) t ≡ cond (all is_digit t) (Some (numeral_from v t)) None
number-reads v [] = refl
number-reads v (b ∷ bs) = grind (arith, nat_tests, number-reads (v * 10 + (b - 48)) bs)

zero-reads : (t : List ℕ) → ended_after Zero t ≡ cond (is_numeral (48 ∷ t)) (Some (numeral_from 0 (48 ∷ t))) None
zero-reads [] = refl
zero-reads (b ∷ bs) = refl

-- a first digit that is not 0
first-reads : (b : ℕ) (t : List ℕ) → is_digit b ≡ true → eqb b 48 ≡ false → ended_after (Number (b - 48)) t ≡ cond (is_numeral (b ∷ t)) (Some (numeral_from 0 (b ∷ t))) None
first-reads b [] e n = rw e (ap Some (omega arith))
first-reads b (c ∷ t) e n =
    let whole : b - 48 ≡ 0 * 10 + (b - 48) = omega arith in
    rw (e, n) (number-reads (b - 48) (c ∷ t) ∙ ap (λ (v : ℕ). cond (all is_digit (c ∷ t)) (Some (numeral_from v (c ∷ t))) None) whole)

-- and what begins no number
none-reads : (b : ℕ) (t : List ℕ) → is_digit b ≡ false → is_numeral (b ∷ t) ≡ false
none-reads b [] e = e
none-reads b (c ∷ t) e = rw e

blank-reads : (t : List ℕ) → ended_after Blank t ≡ cond (is_numeral (after_spaces t)) (Some (numeral_from 0 (after_spaces t))) None
blank-reads [] = refl
blank-reads (b ∷ bs) =
    either (eqb b space) (λ e. rw e (blank-reads bs))
    (λ f. either (eqb b 48) (λ e. rw (eqb-true b 48 e) (zero-reads bs))
    (λ n. either (is_digit b) (λ e. rw (f, n, e) (first-reads b bs e n)) (λ e. rw (f, n, e, none-reads b bs e))))

pub column_reads : (t : List ℕ) → length t ≡ 6 → ended_after Blank t ≡ cell_of t
unfolding is_column column_value
column_reads t h = rw h (blank-reads t)

-- where the bytes end before the column does
pub column_short : (s : List ℕ) (at : ℕ) → length s < at + 6 → is_column (take column_bytes (drop at s)) ≡ false
unfolding is_column
column_short s at h = rw (ne_eqb (length (take 6 (drop at s))) 6 (λ e. omega (arith, length-take 6 (drop at s), length-drop at s)))
