-- The document's tests over lists are those of the library.
use mathlib.Core.List.{Memᴰ as Mem}
use Rattle.std.proofs.Common.{◌≡◌, ◌∙◌, ap, subst, T, ℕ, ◌-◌, ◌≤◌, Bool, true, false, ◌&&◌, ◌||◌, eqb, leb, suc, List, length, take, drop, refl, arith}
use Rattle.std.proofs.lemmas.List.{length-take-le, length-drop, take_all}
use Rattle.std.specs.List.{list_all, list_any}
use Rattle.std.proofs.lemmas.List.Recursion.{same_from_clauses}
use Rattle.std.proofs.lemmas.Bool.Decides.{nat_tests}
use Rattle.matching.specs.Lists.{all, member}
use Rattle.matching.proofs.Sets.{all-at}
use Rattle.rules.proofs.Bools.{of-true}
use Rattle.rules.specs.Check.{low_label}
use Rattle.rules.specs.Layout.{label_at}

pub all_same : {A : Type 0} (P : A → Bool) (l : List A) → list_all P l ≡ all P l
all_same P l = same_from_clauses (list_all P) (all P) (λ t b. P t && b) refl (λ _ _. refl) (λ _ _. refl) l

eqb_swap : (s t : ℕ) → eqb t s ≡ eqb s t
eqb_swap s t = grind (arith, nat_tests)

pub member_same : (s : ℕ) (l : List ℕ) → list_any (λ t. eqb t s) l ≡ member s l
member_same s l = same_from_clauses (list_any (λ t. eqb t s)) (member s) (λ t b. eqb s t || b) refl (λ t r. ap (λ (b : Bool). b || list_any (λ t. eqb t s) r) (eqb_swap s t)) (λ _ _. refl) l

-- slot s itself passes
label_test : (w : List ℕ) (s t : ℕ) → leb (label_at w s - 1) (label_at w t) ≡ eqb t s || leb (label_at w s) (suc (label_at w t))
label_test w s t = grind (arith, nat_tests)

pub low_same : (w : List ℕ) (s : ℕ) (l : List ℕ) → list_all (λ t. leb (label_at w s - 1) (label_at w t)) l ≡ low_label w s l
low_same w s l =
    all_same (λ t. leb (label_at w s - 1) (label_at w t)) l ∙ ap (λ (P : ℕ → Bool). all P l) (λ i t. label_test w s t i)

-- a row of eight, of which c are used
pub unused_same : (c k : ℕ) (row : List ℕ) → length row ≡ 8 → k ≡ length (take c row) → c ≤ 8 → take (8 - k) (drop k row) ≡ drop c row
unused_same c k row e f h =
    let g : k ≡ c = f ∙ length-take-le c row (omega arith) in
    take_all (8 - k) (drop k row) (omega (arith, length-drop k row)) ∙ ap (λ (i : ℕ). drop i row) g

pub all-false : {A : Type 0} (P : A → Bool) (l : List A) {a : A} → Mem a l → P a ≡ false → all P l ≡ false
all-false P l {a} m e = go (all P l) refl
  where
    go : (b : Bool) → all P l ≡ b → all P l ≡ false
    go true q = absurd (subst (λ (c : Bool). T c) e (all-at P l (of-true (all P l) q) m))
    go false q = q
