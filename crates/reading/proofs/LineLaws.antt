-- What a line is, by its letter and the columns that stand from a position on, and where its reader stands then: the tests of the code, in their
-- order. Assumes nothing.
use Rattle.std.proofs.Common.{◌≡◌, ℕ, zero, suc, ◌+◌, ◌-◌, ◌*◌, ◌/◌, ◌%◌, ◌≤◌, true, false, ◌&&◌, List, [], ◌∷◌, map, Some, None, Ok, Err, eqb, ltb, leb, length, take, drop, refl, sym, ap, ap₂, ◌∙◌, arith, length-drop}
use Rattle.std.specs.List.{slice_get}
use Rattle.std.specs.Option.{is_some}
use Rattle.std.proofs.Math.Seq.{drop-drop}
use Rattle.std.proofs.lemmas.Bool.Decides.{nat_tests}
use Rattle.std.proofs.lemmas.Bool.{le-leb, eq-eqb, ne_eqb, leb-true, eqb-true, and_parts, and_from, and_left, and_right}
use Rattle.std.proofs.lemmas.List.{length-map}
use Rattle.matching.specs.Lists.{all, any}
use Rattle.rules.specs.InputLines.{column_bytes, is_column, column_value, letter_of, column_count, columns_from, most_columns, allowed, most_bytes, well_formed, values, line_refusal}
use Rattle.rules.specs.Letters.{Letter, letter_s, letter_a, letter_w, letter_f, letter_p, letter_z, letter_x, letter_named}
use Rattle.answers.specs.declared.Refusal.TheVariants.{Malformed, TooLarge}
use Rattle.reading.specs.declared.Kind.{Kind}
use Rattle.reading.specs.Reading.{kind_of, class_of, all_columns, line_read, line_of}
use Rattle.reading.specs.Reader.{readable, past_columns, after_columns}
use Rattle.reading.specs.Machine.{columns_at, gathered, narrowed}
use Rattle.reading.proofs.NumberLaws.{any-columns}

-- ---- a line's answer, by its form and its numbers

line-malformed : (l : List ℕ) → well_formed l ≡ false → line_of l ≡ Err Malformed
unfolding line_of line_refusal
line-malformed l h = rw h

line-large : (l : List ℕ) → well_formed l ≡ true → any (ltb 65535) (values l) ≡ true → line_of l ≡ Err TooLarge
unfolding line_of line_refusal
line-large l h g = rw (h, g)

line-fine : (l : List ℕ) (kind : Kind) → well_formed l ≡ true → any (ltb 65535) (values l) ≡ false → kind_of (letter_of l) ≡ Some kind → line_of l ≡ Ok (line_read l kind)
unfolding line_of line_refusal
line-fine l kind h g k = rw (h, g, k)

-- ---- tests

eqb-more : (a b : ℕ) → eqb (1 + a) (1 + b) ≡ eqb a b
eqb-more a b = grind (arith, nat_tests)

-- ---- the letters

-- a letter that may have so many columns is known, and they are not too many
pub allowed-known : (x : Letter) (c : ℕ) → allowed x c ≡ true → kind_of x ≡ None → ⊥
allowed-known letter_s c h e = cc
allowed-known letter_a c h e = cc
allowed-known letter_w c h e = cc
allowed-known letter_f c h e = cc
allowed-known letter_p c h e = cc
allowed-known letter_z c h e = cc
allowed-known letter_x c h e = cc

allowed-few : (x : Letter) (c : ℕ) → allowed x c ≡ true → c ≤ most_columns
allowed-few letter_s c h = omega (arith, eqb-true c 1 h)
allowed-few letter_a c h = leb-true c most_columns (and_parts (leb 2 c) (leb c most_columns) h).1
allowed-few letter_w c h = omega (arith, eqb-true c 2 h)
allowed-few letter_f c h = omega (arith, eqb-true c 2 h)
allowed-few letter_p c h = omega (arith, eqb-true c 0 h)
allowed-few letter_z c h = omega (arith, eqb-true c 2 h)
allowed-few letter_x c h = absurd cc

-- ---- the columns from a position on are the line's

columns-are : (x : ℕ) (s : List ℕ) (at i k : ℕ) → columns_from (x ∷ drop at s) i k ≡ columns_at s (at + 6 * i) k
columns-are x s at i zero = refl
columns-are x s at i (suc k) =
    let past : 1 + 6 * i ≡ suc (6 * i) = omega arith in
    let next : at + 6 * (i + 1) ≡ at + 6 * i + 6 = omega arith in
    ap₂ (λ (t : List ℕ) (ts : List (List ℕ)). t ∷ ts)
    (ap (λ (n : ℕ). take 6 (drop n (x ∷ drop at s))) past ∙ ap (take 6) (drop-drop (6 * i) at s))
    (columns-are x s at (i + 1) k ∙ ap (λ (p : ℕ). columns_at s p k) next)

length-columns_at : (s : List ℕ) (at k : ℕ) → length (columns_at s at k) ≡ k
length-columns_at s at zero = refl
length-columns_at s at (suc k) = ap suc (length-columns_at s (at + column_bytes) k)

module _ (x : ℕ) (s : List ℕ) (at left : ℕ) (measured : left ≡ length s - at) where
  abbrev count : ℕ
  count = left / 6

  abbrev line : List ℕ
  line = x ∷ drop at s

  long : length (drop at s) ≡ left
  long = length-drop at s ∙ sym measured

  count-is : column_count line ≡ count
  count-is = omega (arith, long)

  columns : columns_from line 0 count ≡ columns_at s at count
  columns = let none : at + 6 * 0 ≡ at = omega arith in columns-are x s at 0 count ∙ ap (λ (p : ℕ). columns_at s p count) none

  -- the line is well formed where its reader reads columns, and all of them are
  formed-is : well_formed line ≡ (readable x left && all is_column (columns_at s at count))
  unfolding well_formed
  formed-is =
      let size : suc left ≡ 1 + left = omega arith in
      rw (count-is, columns, long, size, eqb-more left (6 * count))

  values-are : values line ≡ map column_value (columns_at s at count)
  unfolding values
  values-are = rw (count-is, columns)

  -- ---- no columns are read

  module _ (h : readable x left ≡ false) where
    unread-line : line_of line ≡ Err Malformed
    unread-line = line-malformed line (formed-is ∙ and_left _ _ h)

    unread-at : after_columns x s at ≡ at
    unfolding after_columns
    unread-at = rw (← measured, h)

  module _ (h : left % 6 ≡ 0 → ⊥) where
    uneven : readable x left ≡ false
    uneven = and_left _ _ (and_right _ _ (ne_eqb left (6 * count) (λ e. h (omega arith))))

    pub uneven_line : line_of line ≡ Err Malformed
    uneven_line = unread-line uneven

    pub uneven_at : after_columns x s at ≡ at
    uneven_at = unread-at uneven

  module _ (h : class_of (letter_named x) count ≡ None) where
    unknown : readable x left ≡ false
    unknown = let none : allowed (letter_named x) count ≡ false = grind (arith, nat_tests, allowed-known (letter_named x) count) in and_right _ _ none

    pub unknown_line : line_of line ≡ Err Malformed
    unknown_line = unread-line unknown

    pub unknown_at : after_columns x s at ≡ at
    unknown_at = unread-at unknown

  -- ---- columns are read

  module _ (even : left % 6 ≡ 0) (h : is_some (class_of (letter_named x) count) ≡ true) where
    known : allowed (letter_named x) count ≡ true
    known = grind (arith, nat_tests)

    few : count ≤ most_columns
    few = allowed-few (letter_named x) count known

    read : readable x left ≡ true
    read = and_from _ _ (and_from _ _ (le-leb (1 + left) most_bytes (omega (arith, few))) (eq-eqb left (6 * count) (omega arith))) known

    formed : well_formed line ≡ all is_column (columns_at s at count)
    formed = formed-is ∙ rw read

    pub known_at : after_columns x s at ≡ past_columns s at count
    unfolding after_columns
    known_at = rw (← measured, read)

    pub spoilt_line : gathered [] (columns_at s at count) ≡ None → line_of line ≡ Err Malformed
    spoilt_line e = line-malformed line (grind (arith, nat_tests, formed))

    module _ (vs : List ℕ) (g : gathered [] (columns_at s at count) ≡ Some vs) where
      whole : well_formed line ≡ true
      whole = grind (arith, nat_tests, formed)

      all-read : all_columns (values line) ≡ vs
      all-read = grind (arith, nat_tests, values-are)

      large-is : any (ltb 65535) vs ≡ any (ltb 65535) (values line)
      large-is = ap (any (ltb 65535)) (sym all-read) ∙ any-columns (values line) (rw values-are (simp (length-map, length-columns_at) few))

      pub large_line : narrowed vs ≡ None → line_of line ≡ Err TooLarge
      large_line e = line-large line whole (grind (arith, nat_tests, large-is))

      pub fine_line : (kind : Kind) (ws : List ℕ) → class_of (letter_named x) count ≡ Some kind → narrowed vs ≡ Some ws → line_of line ≡ Ok (record { kind = kind; count = count; columns = ws })
      fine_line kind ws k e =
          let small : any (ltb 65535) (values line) ≡ false = grind (arith, nat_tests, large-is) in
          let named : kind_of (letter_named x) ≡ Some kind = grind (arith, nat_tests) in
          let same : vs ≡ ws = grind (arith, nat_tests) in
          line-fine line kind whole small named ∙ ap₂ (λ (m : ℕ) (us : List ℕ). Ok (record { kind = kind; count = m; columns = us })) count-is (all-read ∙ same)

-- ---- a line without a letter
pub empty_line : (l : List ℕ) → slice_get l 0 ≡ None → line_of l ≡ Err Malformed
unfolding well_formed letter_named
empty_line [] h = line-malformed [] refl
empty_line (x ∷ l) h = absurd cc

pub ruleset lines = (uneven_line, uneven_at, unknown_line, unknown_at, known_at, spoilt_line, large_line, fine_line)
