-- The test on keys against their equality.
use mathlib.Core.Bool.{not}
use mathlib.Core.Logic.{◌≢◌}
use mathlib.Core.Path.{◌≡◌, ap₂, subst}
use Prim.Native.Nat.{ℕ}
use lib.Dec.{T, eqb, eqb→eq, eqb_refl, not_T}
use Rattle.matching.specs.Orders.{Key, Order, same_order}
use Rattle.matching.proofs.Counting.{and_l, and_r, and_i}

pub same-key : (k : Key) (o : Order) → T (same_order k o) → o.key ≡ k
same-key k o t =
    let code = eqb→eq o.key.code k.code (and_l (eqb o.key.code k.code) (eqb o.key.number k.number) t) in
    let number = eqb→eq o.key.number k.number (and_r (eqb o.key.code k.code) (eqb o.key.number k.number) t) in
    ap₂ (λ (c j : ℕ). record { code = c; number = j }) code number

pub same-self : (o : Order) → T (same_order o.key o)
same-self o = and_i (eqb o.key.code o.key.code) (eqb o.key.number o.key.number) (eqb_refl o.key.code) (eqb_refl o.key.number)

pub same-of : (k : Key) (o : Order) → o.key ≡ k → T (same_order k o)
same-of k o e = subst (λ (j : Key). T (same_order j o)) e (same-self o)

pub other-of : (k : Key) (o : Order) → o.key ≢ k → T (not (same_order k o))
other-of k o ne = not_T (same_order k o) (λ t. ne (same-key k o t))
