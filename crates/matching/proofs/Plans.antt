-- A plan, which is a function from orders to slots, against a plan as a list of seats: each gives the other where no order stands twice.
use mathlib.Core.Path.{◌≡◌, sym, ap, ◌∙◌, subst}
use mathlib.Core.Bool.{Bool, not, cond, true, false}
use mathlib.Core.Logic.{◌⊎◌, inl, inr}
use mathlib.Core.List.Memᴰ
use mathlib.Core.List.Memᴰ.{head as here}
use mathlib.Core.List.Memᴰ.{tail as there}
use mathlib.Core.List.{List, [], ◌∷◌, map, Memᴰ as Mem}
use Prim.Native.Nat.{ℕ, ◌≤◌}
use native.Mathlib.Omega.{arith}
use lib.Dec.{T, eqb, not_T, T_not}
use Rattle.matching.specs.Lists.{count_if, member, all}
use Rattle.matching.specs.Orders.{Key, Order, open_slots, started, Seat, seat, SameOrders, orders, same_order, Plan}
use Rattle.matching.proofs.Counting.{indicator-of, dec-T, cond_yes, cond_no, count_if-map, count_if-mono, count_if-none, member_of, of-member}
use Rattle.matching.proofs.Keys.{same-self}
use Rattle.matching.proofs.Seats.{sits_in, SeatPlan}
use Rattle.matching.proofs.Sets.{all-at, all_of}

pub to-seats : (c : ℕ) (os : List Order) → Plan c os → SeatPlan c os
to-seats c os p = record {
  seats = map f os;
  fair = record {
    own = λ q m.
        let w = Memᴰ.of_map f os m in
        subst (λ (r : Seat). Mem r.slot (open_slots r.who)) w.2 (of-member (p.slot_of w.0) (open_slots w.0) (all-at (λ o. member (p.slot_of o) (open_slots o)) os p.own w.1));
    room = λ s. omega (arith, count_if-map f (sits_in s) os, p.apart s);
  };
  each = λ P. count_if-map (λ (q : Seat). q.who) P (map f os) ∙ count_if-map f (λ q. P q.who) os;
}
  where
    f : Order → Seat
    f o = seat o (p.slot_of o)

-- ---- and back: an order's slot is that of the seat with its key

pub seat_of : List Seat → Key → ℕ
seat_of [] k = 0
seat_of (p ∷ ps) k = let rest = seat_of ps k in cond (same_order k p.who) p.slot rest

pub count_if-pos : {A : Type 0} (P : A → Bool) {a : A} {l : List A} → Mem a l → T (P a) → 1 ≤ count_if P l
count_if-pos P (here {x = b} e) t = omega (arith, indicator-of (P b) (subst (λ c. T (P c)) e t))
count_if-pos P (there m) t = omega (arith, count_if-pos P m t)

slot-found : (ss : List Seat) → ((k : Key) → count_if (λ (p : Seat). same_order k p.who) ss ≤ 1) → (p : Seat) → Mem p ss → seat_of ss p.who.key ≡ p.slot
unfolding seat_of
slot-found [] u p m = elim m [ ]
slot-found (q ∷ ss) u p (here e) =
    cond_yes (same_order p.who.key q.who) q.slot (seat_of ss p.who.key) (subst (λ (r : Seat). T (same_order p.who.key r.who)) e (same-self p.who))
    ∙ sym (ap (λ (r : Seat). r.slot) e)
slot-found (q ∷ ss) u p (there m) =
    cond_no (same_order p.who.key q.who) q.slot (seat_of ss p.who.key)
    (not_T (same_order p.who.key q.who) (λ t. omega (
      arith,
      u p.who.key,
      indicator-of (same_order p.who.key q.who) t,
      count_if-pos (λ (r : Seat). same_order p.who.key r.who) m (same-self p.who),
    )))
    ∙ slot-found ss (λ k. omega (arith, u k)) p m

pub same-all : (os os' : List Order) (P : Order → Bool) → SameOrders os os' → T (all P os) → T (all P os')
same-all os os' P s t = all_of P os' (λ o m. go o m (dec-T (P o)))
  where
    go : (o : Order) → Mem o os' → T (P o) ⊎ T (not (P o)) → T (P o)
    go o m (inl p) = p
    go o m (inr n) = absurd (omega (
      arith,
      s (λ q. not (P q)),
      count_if-pos (λ q. not (P q)) m n,
      count_if-none (λ q. not (P q)) os (λ q k. not_T (not (P q)) (λ f. T_not (P q) f (all-at P os t k))),
    ))

pub to_function : (c : ℕ) (os : List Order) → ((k : Key) → count_if (same_order k) os ≤ 1) → SeatPlan c os → Plan c os
to_function c os u p = record {
  slot_of = f;
  own = same-all (orders ss) os (λ o. member (f o) (open_slots o)) p.each (all_of (λ o. member (f o) (open_slots o)) (orders ss) own');
  apart = λ s. omega (
    arith,
    p.each (λ o. eqb (f o) s),
    count_if-map (λ (q : Seat). q.who) (λ o. eqb (f o) s) ss,
    p.fair.room s,
    count_if-mono (λ (q : Seat). eqb (f q.who) s) (sits_in s) ss (λ q m t. subst (λ (i : ℕ). T (eqb i s)) (at q m) t),
  );
}
  where
    ss : List Seat
    ss = p.seats

    f : Order → ℕ
    f o = seat_of ss o.key

    once : (k : Key) → count_if (λ (q : Seat). same_order k q.who) ss ≤ 1
    once k = omega (arith, count_if-map (λ (q : Seat). q.who) (same_order k) ss, p.each (same_order k), u k)

    at : (q : Seat) → Mem q ss → f q.who ≡ q.slot
    at q m = slot-found ss once q m

    own' : (o : Order) → Mem o (orders ss) → T (member (f o) (open_slots o))
    own' o m =
        let w = Memᴰ.of_map (λ (q : Seat). q.who) ss m in
        subst (λ (r : Order). T (member (f r) (open_slots r))) w.2 (subst (λ (i : ℕ). T (member i (open_slots w.0.who))) (sym (at w.0 w.1)) (member_of (p.fair.own w.0 w.1)))

-- ---- started orders

-- "only its own slot is open to it": of a started order nothing else is
pub open_started : (o : Order) → T (started o) → open_slots o ≡ o.fixed ∷ []
unfolding open_slots
open_started o t = cond_no (eqb o.fixed 0) o.list (o.fixed ∷ []) t

-- an order that is not started has its whole list
pub open-unstarted : (o : Order) → T (not (started o)) → open_slots o ≡ o.list
unfolding open_slots
open-unstarted o t = cond_yes (eqb o.fixed 0) o.list (o.fixed ∷ []) (of_not_not (eqb o.fixed 0) t)
  where
    of_not_not : (b : Bool) → T (not (not b)) → T b
    of_not_not true t = tt
    of_not_not false t = absurd t

-- "A plan now has to keep each started order in its slot."
pub keeps-started : (c : ℕ) (os : List Order) (p : Plan c os) {o : Order} → Mem o os → T (started o) → p.slot_of o ≡ o.fixed
keeps-started c os p {o} m t =
    Memᴰ.eq_of_singleton (of-member (p.slot_of o) (o.fixed ∷ [])
    (subst (λ (l : List ℕ). T (member (p.slot_of o) l)) (open_started o t) (all-at (λ q. member (p.slot_of q) (open_slots q)) os p.own m)))
