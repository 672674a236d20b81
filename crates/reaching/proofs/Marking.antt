-- A slot is marked and goes into the queue.
use Rattle.std.proofs.Common.{◌≡◌, ℕ, zero, suc, ◌≤◌, ◌<◌, Bool, true, false, not, ◌||◌, eqb, List, [], ◌∷◌, ◌++◌, length, set, replicate, refl, sym, subst, arith}
use Rattle.std.proofs.Math.Dec.{T, eqb_refl}
use Rattle.std.proofs.lemmas.Bool.Decides.{nat_tests}
use Rattle.std.proofs.lemmas.Grind.{common_steps}
use Rattle.std.proofs.lemmas.List.Folds.{list_any-append}
use Rattle.matching.specs.Lists.{count_if, slots}
use Rattle.matching.proofs.Counting.{count_if-le, count_if-strict, length-slots, or_l, or_r}
use Rattle.matching.proofs.Seated.{in-slots}
use Rattle.reaching.specs.Found.{Listed, seen}

-- no more slots are marked than there are
pub few : (marked : List Bool) (n : ℕ) → count_if (seen marked) (slots n) ≤ n
few marked n = omega (arith, count_if-le (seen marked) (slots n), length-slots n)

unmarked : (m t : ℕ) → seen (replicate m false) t ≡ false
unmarked zero t = refl
unmarked (suc m) zero = refl
unmarked (suc m) (suc t) = unmarked m t

-- nothing is marked at first
pub none_listed : (m : ℕ) → Listed (replicate m false) []
none_listed m = record { at = unmarked m }

marks : (marked : List Bool) (t s : ℕ) → t < length marked → seen (set marked t true) s ≡ (seen marked s || eqb s t)
marks marked t s long = grind (arith, nat_tests, common_steps)

-- t was not marked
pub counts : (n t : ℕ) (marked : List Bool) → 1 ≤ t → t ≤ n → t < length marked → seen marked t ≡ false → count_if (seen marked) (slots n) < count_if (seen (set marked t true)) (slots n)
counts n t marked lo hi long new =
    let still : (s : ℕ) → T (seen marked s || eqb s t) → T (seen (set marked t true) s) = λ s. subst T (sym (marks marked t s long)) in
    count_if-strict (seen marked) (seen (set marked t true)) (λ s m h. still s (or_l _ _ h)) (in-slots n t lo hi) (subst (λ b. T (not b)) (sym new) tt) (still t (or_r _ _ (eqb_refl t)))

pub one_listed : (marked : List Bool) (q : List ℕ) (t : ℕ) → Listed marked q → t < length marked → Listed (set marked t true) (q ++ t ∷ [])
one_listed marked q t h long = record { at = λ s. rw (marks marked t s long, list_any-append (eqb s) q (t ∷ [])) (grind (arith, nat_tests, h.at s)) }

pub ruleset marking = (few, counts, one_listed, nat_tests)
