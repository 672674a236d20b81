-- The pick and the least label of the others in one walk that takes each slot once, of whatever list: one that names a slot twice too.
use mathlib.Core.Bool.{Bool, true, false, not, cond}
use mathlib.Core.List.Memᴰ.{head as here}
use mathlib.Core.List.{List, [], ◌∷◌}
use mathlib.Core.Logic.{◌⊎◌, inl, inr, ◌≢◌}
use mathlib.Core.Path.{◌≡◌, refl, sym, ap, ◌∙◌, subst}
use Prim.Native.Nat.{ℕ, ◌≤◌, ◌<◌, min}
use native.Mathlib.Omega.{arith}
use lib.Dec.{T, eqb, lt→ltb, ltb→lt, nltb→le, eqb→eq, not_T, T_not, eqb_refl}
use borrow.Author.Tests.{eq-eqb, ne_eqb}
use Rattle.matching.specs.Placing.{better, pick_from, least_other}
use Rattle.matching.proofs.Counting.{cond_yes, cond_no}
use Rattle.matching.proofs.Pick.{pick_from-le}

-- u is the best so far, m the least label of the others so far: a better slot sends u to the others, a slot that is not better joins them, and u itself, met again, does not
unfoldable pub walk : (ℕ → ℕ) → ℕ → ℕ → List ℕ → ℕ × ℕ
walk lab u m [] = (u, m)
walk lab u m (t ∷ l) = cond (better lab t u) (walk lab t (min m (lab u)) l) (walk lab u (cond (eqb t u) m (min m (lab t))) l)

-- ---- a step of the walk

module _ (lab : ℕ → ℕ) (u m t : ℕ) (l : List ℕ) where
  pub walk-better : lab t < lab u → walk lab t (min m (lab u)) l ≡ walk lab u m (t ∷ l)
  unfolding walk
  walk-better lt = sym (cond_yes (better lab t u) _ _ (lt→ltb (lab t) (lab u) lt))

  walk-not : lab u ≤ lab t → walk lab u (cond (eqb t u) m (min m (lab t))) l ≡ walk lab u m (t ∷ l)
  unfolding walk
  walk-not le = sym (cond_no (better lab t u) _ _ (not_T (better lab t u) (λ b. omega (arith, ltb→lt (lab t) (lab u) b))))

  pub walk-other : lab u ≤ lab t → t ≢ u → walk lab u (min m (lab t)) l ≡ walk lab u m (t ∷ l)
  walk-other le ne = ap (λ (b : Bool). walk lab u (cond b m (min m (lab t))) l) (sym (ne_eqb t u ne)) ∙ walk-not le

  pub walk-again : t ≡ u → walk lab u m l ≡ walk lab u m (t ∷ l)
  walk-again e = ap (λ (b : Bool). walk lab u (cond b m (min m (lab t))) l) (sym (eq-eqb t u e)) ∙ walk-not (omega (arith, ap lab e))

-- ---- what the walk gives

-- the pick is the best so far, or its label is below that one's
pick-below : (lab : ℕ → ℕ) (u : ℕ) (l : List ℕ) → (pick_from lab u l ≡ u) ⊎ (lab (pick_from lab u l) < lab u)
unfolding pick_from
pick-below lab u [] = inl refl
pick-below lab u (t ∷ l) = go (better lab t u) (ltb→lt (lab t) (lab u)) (pick_from-le lab t l (here refl)) (pick-below lab u l)
  where
    go : (b : Bool) → (T b → lab t < lab u) → lab (pick_from lab t l) ≤ lab t → (pick_from lab u l ≡ u) ⊎ (lab (pick_from lab u l) < lab u)
        → (pick_from lab (cond b t u) l ≡ u) ⊎ (lab (pick_from lab (cond b t u) l) < lab u)
    go true lt le same = inr (omega (arith, lt tt))
    go false lt le same = same

module _ (lab : ℕ → ℕ) (v m u t : ℕ) (l : List ℕ) where
  abbrev least : ℕ → List ℕ → ℕ
  least = least_other lab v

  abbrev joined : ℕ → ℕ → ℕ
  joined k s = cond (eqb s v) k (min k (lab s))

  other-first : u ≢ v → least (min m (lab u)) (t ∷ l) ≡ least m (u ∷ t ∷ l)
  unfolding least_other
  other-first ne = ap (λ (b : Bool). least (cond b m (min m (lab u))) (t ∷ l)) (sym (ne_eqb u v ne))

  other-second : t ≢ v → least (min m (lab t)) (u ∷ l) ≡ least m (u ∷ t ∷ l)
  unfolding least_other
  other-second ne =
      ap (λ (k : ℕ). least k l) (go (eqb u v))
      ∙ sym (ap (λ (b : Bool). least (cond b (joined m u) (min (joined m u) (lab t))) l) (ne_eqb t v ne))
    where
      go : (b : Bool) → cond b (min m (lab t)) (min (min m (lab t)) (lab u)) ≡ min (cond b m (min m (lab u))) (lab t)
      go true = refl
      go false = omega arith

  met-again : t ≡ u → least m (u ∷ l) ≡ least m (u ∷ t ∷ l)
  unfolding least_other
  met-again e = ap (λ (k : ℕ). least k l) (go (eqb u v)) ∙ ap (λ (s : ℕ). least (joined (joined m u) s) l) (sym e)
    where
      go : (b : Bool) → cond b m (min m (lab u)) ≡ cond b (cond b m (min m (lab u))) (min (cond b m (min m (lab u))) (lab u))
      go true = refl
      go false = omega arith

-- what the walk gives of this list, in the words of the two
abbrev Gives : (ℕ → ℕ) → ℕ → ℕ → List ℕ → ℕ × ℕ → Type 0
Gives lab u m l r = r ≡ (pick_from lab u l, least_other lab (pick_from lab u l) m (u ∷ l))

module _ (lab : ℕ → ℕ) (u m t : ℕ) (l : List ℕ) where
  better-met : lab t < lab u → (r : ℕ × ℕ) → Gives lab t (min m (lab u)) l r → r ≡ (pick_from lab t l, least_other lab (pick_from lab t l) m (u ∷ t ∷ l))
  better-met lt r h = h ∙ (λ i. (pick_from lab t l, other-first lab (pick_from lab t l) m u t l (λ e. omega (arith, lt, ap lab e, pick_from-le lab t l (here refl))) i))

  other-met : lab u ≤ lab t → t ≢ u → (r : ℕ × ℕ) → Gives lab u (min m (lab t)) l r → r ≡ (pick_from lab u l, least_other lab (pick_from lab u l) m (u ∷ t ∷ l))
  other-met le apart r h = h ∙ (λ i. (pick_from lab u l, other-second lab (pick_from lab u l) m u t l (not-pick (pick-below lab u l)) i))
    where
      not-pick : (pick_from lab u l ≡ u) ⊎ (lab (pick_from lab u l) < lab u) → t ≢ pick_from lab u l
      not-pick (inl e) q = apart (q ∙ e)
      not-pick (inr lt) q = omega (arith, le, ap lab q)

  best-met : t ≡ u → (r : ℕ × ℕ) → Gives lab u m l r → r ≡ (pick_from lab u l, least_other lab (pick_from lab u l) m (u ∷ t ∷ l))
  best-met e r h = h ∙ (λ i. (pick_from lab u l, met-again lab (pick_from lab u l) m u t l e i))

-- "It is proved to give what the two walks gave, ties and a list of one included"
pub one-walk : (lab : ℕ → ℕ) (u m : ℕ) (l : List ℕ) → Gives lab u m l (walk lab u m l)
unfolding walk pick_from least_other
one-walk lab u m [] = λ i. (u, sym (cond_yes (eqb u u) m (min m (lab u)) (eqb_refl u)) i)
one-walk lab u m (t ∷ l) = go (better lab t u) (eqb t u) (ltb→lt (lab t) (lab u)) (nltb→le (lab t) (lab u)) (eqb→eq t u) (λ h e. T_not (eqb t u) h (subst (λ (s : ℕ). T (eqb t s)) e (eqb_refl t))) (one-walk lab t (min m (lab u)) l) (λ k. one-walk lab u k l)
  where
    go : (b c : Bool) → (T b → lab t < lab u) → (T (not b) → lab u ≤ lab t) → (T c → t ≡ u) → (T (not c) → t ≢ u)
        → Gives lab t (min m (lab u)) l (walk lab t (min m (lab u)) l) → ((k : ℕ) → Gives lab u k l (walk lab u k l))
        → cond b (walk lab t (min m (lab u)) l) (walk lab u (cond c m (min m (lab t))) l) ≡ (pick_from lab (cond b t u) l, least_other lab (pick_from lab (cond b t u) l) m (u ∷ t ∷ l))
    go true c lt ge same apart new old = better-met lab u m t l (lt tt) _ new
    go false true lt ge same apart new old = best-met lab u m t l (same tt) _ (old m)
    go false false lt ge same apart new old = other-met lab u m t l (ge tt) (apart tt) _ (old (min m (lab t)))
