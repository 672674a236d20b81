-- The front of a row: its first c numbers, as walks over them meet them.
use mathlib.Core.List.Memᴰ.{head as here}
use mathlib.Core.List.Memᴰ.{tail as there}
use mathlib.Core.List.{List, [], ◌∷◌, ◌++◌, Memᴰ as Mem}
use mathlib.Core.Path.{◌≡◌, refl, sym, ap, ap₂, ◌∙◌, subst}
use Prim.Native.Nat.{ℕ, zero, suc, ◌+◌, ◌≤◌, ◌<◌, min}
use native.Mathlib.Decide.{dec_le}
use native.Mathlib.Numerals.{add-one}
use native.Mathlib.Omega.{arith}
use lib.ListN.{length, get_or, take, drop, drop_of_length-le}
use lib.Seq.{drop-cons, length-take-le, get_or-take, take_all, take-suc}

module _ (row : List ℕ) (c i : ℕ) where
  pub rest_more : i < c → c ≤ length row → drop i (take c row) ≡ get_or row i 0 ∷ drop (i + 1) (take c row)
  rest_more h k =
      drop-cons (take c row) i 0 (omega (arith, length-take-le c row k))
      ∙ ap₂ (λ (u j : ℕ). u ∷ drop j (take c row)) (get_or-take c row i 0 h) (sym (add-one i))

  pub rest-done : c ≤ i → c ≤ length row → drop i (take c row) ≡ []
  rest-done h k = drop_of_length-le (take c row) {i = i} (omega (arith, length-take-le c row k))

-- beyond its length a list has no more to take
pub take_places : (row : List ℕ) (c m : ℕ) → length row ≡ m → take (min c m) row ≡ take c row
take_places row c m h = go (dec_le c m)
  where
    go : Dec (c ≤ m) → take (min c m) row ≡ take c row
    go (yes l) = let e : min c m ≡ c = omega arith in ap (λ (j : ℕ). take j row) e
    go (no l) = let e : min c m ≡ m = omega arith in ap (λ (j : ℕ). take j row) e ∙ take_all m row (omega arith) ∙ sym (take_all c row (omega arith))

pub take_more : (row : List ℕ) (i : ℕ) → i < length row → take (i + 1) row ≡ take i row ++ (get_or row i 0 ∷ [])
take_more row i h = ap (λ (j : ℕ). take j row) (add-one i) ∙ take-suc row i 0 h

member-at : (l : List ℕ) (j : ℕ) → j < length l → Mem (get_or l j 0) l
member-at [] j h = absurd (omega arith)
member-at (a ∷ l) zero h = here refl
member-at (a ∷ l) (suc j) h = there (member-at l j (omega arith))

pub member-take : (row : List ℕ) (c j : ℕ) → j < c → c ≤ length row → Mem (get_or row j 0) (take c row)
member-take row c j h k = subst (λ (t : ℕ). Mem t (take c row)) (get_or-take c row j 0 h) (member-at (take c row) j (omega (arith, length-take-le c row k)))
