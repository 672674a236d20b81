-- Orders, who sits where, and plans. `c` is how many orders a slot may hold; document 01 has 1.
use Rattle.std.specs.Prelude.{◌≡◌, Bool, not, ◌&&◌, cond, List, [], ◌∷◌, ◌++◌, map, ℕ, ◌*◌, ◌≤◌, ◌<◌, T, eqb, leb, length}
use Rattle.matching.specs.Lists.{count_if, all, member, within, slots}

-- What tells an order from all others: "Order 100 from one printer and order 100 from another are two orders" (P3), so the code of the customer and the
-- order's number.
pub record Key : Type 0 where
  pub code : ℕ
  pub number : ℕ

-- "16, code not 1 to 999" (P3)
abbrev pub most_code : ℕ
most_code = 999

abbrev pub good_code : ℕ → Bool
good_code c = leb 1 c && leb c most_code

-- "An order has a number, 1 to 65,535, and a list of 1 to 8 different slots in rising order." Its code is 1 to 999 (P3). `fixed` is the slot in which a
-- started order stays (P1), 0 where the order is not started.
pub record Order : Type 0 where
  pub key : Key
  pub list : List ℕ
  pub fixed : ℕ

abbrev pub started : Order → Bool
started o = not (eqb o.fixed 0)

-- The slots open to an order: its whole list; of a started order, "its list stays written, but only its own slot is open to it" (P1).
unfoldable pub open_slots : Order → List ℕ
open_slots o = cond (eqb o.fixed 0) o.list (o.fixed ∷ [])

-- "Two orders are the same only if code and number both agree" (P3): what "held already", "not held" and "no order .. stands twice" go by.
abbrev pub same_order : Key → Order → Bool
same_order k o = eqb o.key.code k.code && eqb o.key.number k.number

-- order k is started in slot s; every other order stays as it is
abbrev pub started_in : Key → ℕ → Order → Order
started_in k s o = record { key = o.key; list = o.list; fixed = cond (same_order k o) s o.fixed }

-- These lists hold the same orders, each as often: every test passes as many of the one as of the other.
abbrev pub SameOrders : List Order → List Order → Type 0
SameOrders xs ys = (P : Order → Bool) → count_if P xs ≡ count_if P ys

-- 01's term: "An order is confined to a set of slots if every slot open to it .. is in the set."
abbrev pub confined : List ℕ → Order → Bool
confined S o = within (open_slots o) S

-- More of the orders are confined to S than S has places. (A slot that S lists twice counts twice: such a list claims no less.)
abbrev pub Crowded : ℕ → List ℕ → List Order → Type 0
Crowded c S os = c * length S < count_if (confined S) os

-- 01's term: "A plan gives the new order and every held one a slot of its own list, no two the same." For c = 1 "at most one of them in each slot".
-- "A plan now has to keep each started order in its slot" (P1): no other is open to it.
pub record Plan (c : ℕ) (os : List Order) : Type 0 where
  pub slot_of : Order → ℕ
  pub own : T (all (λ o. member (slot_of o) (open_slots o)) os)
  pub apart : (s : ℕ) → count_if (λ o. eqb (slot_of o) s) os ≤ c

-- ---- who sits where

pub record Seat : Type 0 where
  pub who : Order
  pub slot : ℕ

abbrev pub seat : Order → ℕ → Seat
seat o s = record { who = o; slot = s }

-- A board as the rules see it: the orders that each slot holds, and each slot's label.
pub record Board : Type 0 where
  pub held : ℕ → List Order
  pub label : ℕ → ℕ

-- the seats of the slots of a list, and of the slots 1 .. n
abbrev pub seats_of : (ℕ → List Order) → List ℕ → List Seat
seats_of h [] = []
seats_of h (s ∷ l) = map (λ (o : Order). seat o s) (h s) ++ seats_of h l

abbrev pub seats : ℕ → Board → List Seat
seats n b = seats_of b.held (slots n)

abbrev pub orders : List Seat → List Order
orders ss = map (λ (p : Seat). p.who) ss
