-- A test, and that it is true or false.
use mathlib.Core.Bool.{Bool, true, false}
use mathlib.Core.Path.{◌≡◌, refl, sym, subst}
use lib.Dec.{T}

pub no_true : ◌≡◌ {A = Bool} true false → ⊥
no_true e = subst (λ (b : Bool). T b) e tt

pub is_true : (b : Bool) → T b → b ≡ true
is_true true t = refl
is_true false t = absurd t

pub is_false : (b : Bool) → (T b → ⊥) → b ≡ false
is_false true f = absurd (f tt)
is_false false f = refl

pub of-true : (b : Bool) → b ≡ true → T b
of-true b e = subst (λ (c : Bool). T c) (sym e) tt
