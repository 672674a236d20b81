-- The numbers of `a..=b`.
use Rattle.std.proofs.Common.{◌≡◌, ◌∙◌, ap, sym, subst, add-one, ℕ, zero, suc, ◌+◌, ◌-◌, Bool, true, false, ◌&&◌, List, [], ◌∷◌, ◌++◌, refl, arith}
use Rattle.std.specs.List.{range_with_len, list_all}
use Rattle.std.proofs.lemmas.List.Folds.{list_all-append}
use Rattle.std.proofs.Math.Bool.{and-true, and_comm}
use Rattle.matching.specs.Lists.{all, slots}
use Rattle.std.specs.Range.{range_inclusive_len, range_inclusive_start, range_inclusive_end, range_inclusive_exhausted}
use Rattle.std.specs.declared.ops.RangeInclusive.{RangeInclusive}
use Rattle.std.proofs.iter.runs.Sources.{nat_range_inclusive_steps}
use Rattle.std.proofs.lemmas.List.FromFn.{length-range_with_len}
use Rattle.std.proofs.lemmas.Iterator.{YieldsList}
use Rattle.std.proofs.lemmas.Iterator.Consumers.{YieldsList-from_shown}

abbrev left : ℕ → ℕ → Bool → ℕ
left a b e = range_inclusive_len (λ x y. y - x) a b e

abbrev rest : RangeInclusive ℕ → List ℕ
rest s = range_with_len (range_inclusive_start s) (left (range_inclusive_start s) (range_inclusive_end s) (range_inclusive_exhausted s))

next : (e : Bool) (a x n b m : ℕ) → x ≡ a → m + 1 ≡ n → (e ≡ false → b ≡ a + 1) → (e ≡ true → m ≡ 0) → range_with_len a n ≡ x ∷ range_with_len b m
next true a x n b m ex en more last =
    let z = last refl in
    let e : n ≡ 1 = omega arith in
    ap (range_with_len a) e ∙ (λ i. sym ex i ∷ range_with_len b (sym z i))
next false a x n b m ex en more last = ap (range_with_len a) (sym en ∙ add-one m) ∙ (λ i. sym ex i ∷ range_with_len (sym (more refl) i) m)

pub YieldsList-from_inclusive : {s : RangeInclusive ℕ} (a b n : ℕ) → range_inclusive_start s ≡ a → range_inclusive_end s ≡ b → range_inclusive_exhausted s ≡ false → b + 1 - a ≡ n
    → YieldsList nat_range_inclusive_steps (λ x. x) s (range_with_len a n)
YieldsList-from_inclusive {s} a b n ea eb ee en =
    subst (YieldsList nat_range_inclusive_steps (λ x. x) s)
    ((λ i. range_with_len (ea i) (left (ea i) (eb i) (ee i))) ∙ ap (range_with_len a) (omega arith))
    (YieldsList-from_shown nat_range_inclusive_steps (λ x. x) rest
    (λ s t p. length-range_with_len _ _ ∙ p.1.0)
    (λ s x t p. next (range_inclusive_exhausted t) _ x _ _ _ p.1.0 p.1.1 p.1.2 (λ z. ap (left (range_inclusive_start t) (range_inclusive_end t)) z)) s)

-- one more
range_more : (a n : ℕ) → range_with_len a (suc n) ≡ range_with_len a n ++ (a + n) ∷ []
range_more a zero = let e : a ≡ a + 0 = omega arith in ap (λ (x : ℕ). x ∷ []) e
range_more a (suc n) =
    let e : a + 1 + n ≡ a + suc n = omega arith in
    ap (λ (l : List ℕ). a ∷ l) (range_more (a + 1) n ∙ ap (λ (x : ℕ). range_with_len (a + 1) n ++ x ∷ []) e)

-- upward or downward
pub all_slots : (P : ℕ → Bool) (n : ℕ) → list_all P (range_with_len 1 n) ≡ all P (slots n)
all_slots P zero = refl
all_slots P (suc n) =
    let e : 1 + n ≡ suc n = omega arith in
    ap (list_all P) (range_more 1 n) ∙ list_all-append P (range_with_len 1 n) ((1 + n) ∷ []) ∙ ap (λ (b : Bool). list_all P (range_with_len 1 n) && b) (and-true (P (1 + n)))
    ∙ and_comm (list_all P (range_with_len 1 n)) (P (1 + n)) ∙ λ i. P (e i) && all_slots P n i
