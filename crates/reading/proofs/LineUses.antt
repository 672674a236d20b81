-- What a caller of `read_line` gets from its line. Assumes nothing.
use Rattle.std.proofs.Common.{◌≡◌, ℕ, zero, suc, ◌+◌, ◌-◌, ◌≤◌, true, List, [], ◌∷◌, ◌++◌, Some, Ok, Err, eqb, leb, length, take, drop, get_or, replicate, min, refl, sym, ap, subst, ◌∙◌, arith, take-take}
use Rattle.std.specs.Option.{ok_or, option_map}
use Rattle.std.proofs.lemmas.Bool.Decides.{nat_tests}
use Rattle.std.proofs.lemmas.Bool.{leb-true, eqb-true, eqb-false, and_parts}
use Rattle.std.proofs.lemmas.List.{length-map, take-replicate, get_or-take, get_or-drop}
use Rattle.rules.specs.Layout.{most_choices, reads, row8}
use Rattle.rules.specs.InputLines.{column_value, letter_of, column_count, columns_from, most_columns, most_bytes, allowed, well_formed, values, line_refusal}
use Rattle.rules.specs.Letters.{Letter, letter_s, letter_a, letter_w, letter_f, letter_p, letter_z, letter_x}
use Rattle.rules.proofs.Cutting.{either}
use Rattle.rules.proofs.WordLaws.{reads-is, length-row8}
use Rattle.answers.specs.Numbers.{code}
use Rattle.answers.specs.declared.Refusal.{Refusal}
use Rattle.answers.specs.declared.Refusal.TheVariants.{Malformed}
use Rattle.reading.specs.declared.Kind.{Kind}
use Rattle.reading.proofs.LineLaws.{allowed-known}
use Rattle.reading.specs.declared.Kind.TheVariants.{Open, Accept, Withdraw, Start, Print, Total}
use Rattle.reading.specs.declared.Line.{Line}
use Rattle.reading.specs.Reading.{kind_letter, kind_of, refused_as, all_columns, line_read, line_of, line_order}

-- ---- a line that is not refused is well formed, and its numbers fit

fine-line : (l : List ℕ) → line_refusal l ≡ 0 → well_formed l ≡ true
unfolding line_refusal
fine-line l h = grind (arith, nat_tests)

module _ (l : List ℕ) (h : line_refusal l ≡ 0) where
  form : (leb (length l) most_bytes ≡ true) × (allowed (letter_of l) (column_count l) ≡ true)
  unfolding well_formed
  form = let three = (and_parts _ _ (fine-line l h)).0 in let two = and_parts _ _ three in ((and_parts _ _ two.0).0, two.1)

  pub few-columns : column_count l ≤ most_columns
  few-columns = let short : length l ≤ most_bytes = leb-true (length l) most_bytes form.0 in omega arith

-- ---- a line that is taken, and one that is refused

pub line_taken : (l : List ℕ) (kind : Kind) → line_refusal l ≡ 0 → kind_of (letter_of l) ≡ Some kind → line_of l ≡ Ok (line_read l kind)
unfolding line_of
line_taken l kind h k = rw (h, k)

-- how many numbers a line has
pub value-count : (l : List ℕ) → length (values l) ≡ column_count l
unfolding values
value-count l = length-map (columns_from l 0 (column_count l)) column_value ∙ counted l 0 (column_count l)
  where
    counted : (l : List ℕ) (i k : ℕ) → length (columns_from l i k) ≡ k
    counted l i zero = refl
    counted l i (suc k) = ap suc (counted l (i + 1) k)

-- of all columns, the first two numbers, and the eight after them as an order's row
pub first-column : (vs : List ℕ) → get_or (all_columns vs) 0 0 ≡ get_or vs 0 0
first-column [] = refl
first-column (v ∷ vs) = refl

pub second-column : (vs : List ℕ) → get_or (all_columns vs) 1 0 ≡ get_or vs 1 0
second-column [] = refl
second-column (v ∷ []) = refl
second-column (v ∷ u ∷ vs) = refl

more-zeros : (k a b : ℕ) (vs : List ℕ) → k ≤ a → k ≤ b → take k (vs ++ replicate a 0) ≡ take k (vs ++ replicate b 0)
more-zeros k a b [] h g = take-replicate {X = ℕ} k a 0 h ∙ sym (take-replicate {X = ℕ} k b 0 g)
more-zeros zero a b (v ∷ vs) h g = refl
more-zeros (suc k) a b (v ∷ vs) h g = ap (λ (l : List ℕ). v ∷ l) (more-zeros k a b vs (omega arith) (omega arith))

slot_row : (vs : List ℕ) → take most_choices (drop 2 (all_columns vs)) ≡ row8 (drop 2 vs)
slot_row [] = refl
slot_row (v ∷ []) = refl
slot_row (v ∷ u ∷ vs) =
    take-take most_choices (most_columns - 2) (vs ++ replicate most_columns 0) (omega arith)
    ∙ more-zeros most_choices most_columns most_choices vs (omega arith) (omega arith)

columns-row : (vs : List ℕ) → reads (all_columns vs) 2 most_choices ≡ row8 (drop 2 vs)
columns-row vs =
    subst (λ (k : ℕ). reads (all_columns vs) 2 k ≡ row8 (drop 2 vs)) (length-row8 (drop 2 vs))
    (reads-is (all_columns vs) 2 (row8 (drop 2 vs)) (λ j low. sym (ap (λ (us : List ℕ). get_or us j 0) (sym (slot_row vs)) ∙ get_or-take most_choices (drop 2 (all_columns vs)) j 0 (omega (arith, length-row8 (drop 2 vs))) ∙ get_or-drop 2 (all_columns vs) j 0)))

-- ---- what a line that was read says

pub record ReadsAs (l : List ℕ) (line : Line) : Type 0 where
  pub taken : line_refusal l ≡ 0
  pub letter : kind_letter line.kind ≡ letter_of l
  pub columns : line.columns ≡ all_columns (values l)
  -- the order of a line that is taken is that of its numbers
  pub order : line_order line ≡ record { key = record { code = get_or (values l) 0 0; number = get_or (values l) 1 0 }; count = length (values l) - 2; row = row8 (drop 2 (values l)); fixed = 0 }

by-letter : (x : Letter) (l : List ℕ) (line : Line) → ok_or (option_map (line_read l) (kind_of x)) Malformed ≡ Ok line → (kind : Kind) × (kind_letter kind ≡ x) × (line_read l kind ≡ line)
by-letter letter_s l line e = (Open, refl, cc)
by-letter letter_a l line e = (Accept, refl, cc)
by-letter letter_w l line e = (Withdraw, refl, cc)
by-letter letter_f l line e = (Start, refl, cc)
by-letter letter_p l line e = (Print, refl, cc)
by-letter letter_z l line e = (Total, refl, cc)
by-letter letter_x l line e = absurd cc

pub reads-as : (l : List ℕ) (line : Line) → line_of l ≡ Ok line → ReadsAs l line
unfolding line_of
reads-as l line e = either (eqb (line_refusal l) 0) (λ z. taken (eqb-true (line_refusal l) 0 z) (let k = rw z at e in k)) (λ n. absurd (let k = rw n at e in cc))
  where
    taken : line_refusal l ≡ 0 → ok_or (option_map (line_read l) (kind_of (letter_of l))) Malformed ≡ Ok line → ReadsAs l line
    taken h k =
        let read = by-letter (letter_of l) l line k in
        let is = sym read.2 in
        let few : min (column_count l) most_columns - 2 ≡ length (values l) - 2 = omega (arith, few-columns l h, value-count l) in
        record {
          taken = h;
          letter = ap (λ (t : Line). kind_letter t.kind) is ∙ read.1;
          columns = ap (λ (t : Line). t.columns) is;
          order = ap line_order is ∙ (λ i. record { key = record { code = first-column (values l) i; number = second-column (values l) i }; count = few i; row = columns-row (values l) i; fixed = 0 });
        }

refusals : (l : List ℕ) → line_refusal l ≤ 2
unfolding line_refusal
refusals l = grind (arith, nat_tests)

numbered : (n : ℕ) → n ≤ 2 → (n ≡ 0 → ⊥) → code (refused_as n) ≡ n
numbered n h some = grind (arith, nat_tests)

known-letter : (x : Letter) (c : ℕ) (l : List ℕ) (why : Refusal) → allowed x c ≡ true → ok_or (option_map (line_read l) (kind_of x)) Malformed ≡ Err why → ⊥
known-letter x c l why a e = grind (arith, allowed-known x c a)

-- the refusal of a line that was not read is the document's
pub refused-as : (l : List ℕ) (why : Refusal) → line_of l ≡ Err why → line_refusal l ≡ code why
unfolding line_of
refused-as l why e =
    either (eqb (line_refusal l) 0)
    (λ z. absurd (known-letter (letter_of l) (column_count l) l why (form l (eqb-true (line_refusal l) 0 z)).1 (let k = rw z at e in k)))
    (λ n. let k = rw n at e in let is : refused_as (line_refusal l) ≡ why = cc in sym (numbered (line_refusal l) (refusals l) (eqb-false (line_refusal l) 0 n)) ∙ ap code is)
