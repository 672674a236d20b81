-- The look for an order: `slot_of` is a slot that the order sits in, and 0 where it is not held.
use mathlib.Core.Bool.{Bool, not}
use mathlib.Core.List.Memᴰ
use mathlib.Core.List.{List, Memᴰ as Mem}
use mathlib.Core.Logic.{◌⊎◌, inl, inr}
use mathlib.Core.Path.{◌≡◌, refl, sym, ap, ◌∙◌, subst}
use Prim.Native.Nat.{ℕ, zero, suc, ◌+◌, ◌≤◌, ◌<◌}
use native.Mathlib.Decide.{ℕ_discrete}
use native.Mathlib.Omega.{arith}
use lib.Dec.{T, eqb, T_not}
use borrow.Author.Tests.{eq-eqb, ne_eqb}
use Rattle.matching.specs.Lists.{any, slots}
use Rattle.matching.specs.Orders.{Key, Order, Seat, orders, same_order, seats}
use Rattle.matching.proofs.Counting.{cond_yes, cond_no, dec-T}
use Rattle.matching.proofs.Seated.{seat-in, of-seat, in-slots, slots-range}
use Rattle.matching.proofs.Sets.{any_of, of-any}
use Rattle.rules.specs.Calls.{is_held, find_from, slot_of}
use Rattle.rules.specs.Layout.{size, number_at, order_at, held_at, view}
use Rattle.rules.proofs.Bools.{is_true, is_false}
use Rattle.rules.proofs.CheckLaws.{held_one}

module _ (k : Key) (w : List ℕ) where
  -- order k sits in slot s
  abbrev pub sits : ℕ → Bool
  sits s = any (same_order k) (held_at w s)

  -- ---- the look, a slot at a time

  pub find_none : (s : ℕ) → find_from w k 0 s ≡ 0
  unfolding find_from
  find_none s = refl

  pub find-here : (m s : ℕ) → T (sits s) → find_from w k (suc m) s ≡ s
  unfolding find_from
  find-here m s t = cond_yes (sits s) s (find_from w k m (s + 1)) t

  pub find-next : (m s : ℕ) → T (not (sits s)) → find_from w k (suc m) s ≡ find_from w k m (s + 1)
  unfolding find_from
  find-next m s t = cond_no (sits s) s (find_from w k m (s + 1)) t

  -- ---- what it finds

  abbrev Found : ℕ → ℕ → ℕ → Type 0
  Found m s f = (s ≤ f) × (f < s + m) × T (sits f)

  found : (m s : ℕ) → (find_from w k m s ≡ 0 → ⊥) → Found m s (find_from w k m s)
  found zero s ne = absurd (ne (find_none s))
  found (suc m) s ne = go (dec-T (sits s)) (λ f. found m (s + 1) f)
    where
      go : T (sits s) ⊎ T (not (sits s)) → ((find_from w k m (s + 1) ≡ 0 → ⊥) → Found m (s + 1) (find_from w k m (s + 1))) → Found (suc m) s (find_from w k (suc m) s)
      go (inl y) rest = subst (Found (suc m) s) (sym (find-here m s y)) (omega arith, omega arith, y)
      go (inr n) rest = let r = rest (λ z. ne (find-next m s n ∙ z)) in subst (Found (suc m) s) (sym (find-next m s n)) (omega arith, omega arith, r.2)

  -- where it finds none, none of the slots holds the order
  missed : (m s : ℕ) → 1 ≤ s → find_from w k m s ≡ 0 → (t : ℕ) → s ≤ t → t < s + m → T (not (sits t))
  missed zero s low e t lo hi = absurd (omega arith)
  missed (suc m) s low e t lo hi = go (dec-T (sits s)) (ℕ_discrete t s) (λ f. missed m (s + 1) (omega arith) f t)
    where
      go : T (sits s) ⊎ T (not (sits s)) → Dec (t ≡ s) → (find_from w k m (s + 1) ≡ 0 → s + 1 ≤ t → t < (s + 1) + m → T (not (sits t))) → T (not (sits t))
      go (inl y) d rest = absurd (omega (arith, find-here m s y))
      go (inr n) (yes q) rest = subst (λ (j : ℕ). T (not (sits j))) (sym q) n
      go (inr n) (no q) rest = rest (sym (find-next m s n) ∙ e) (omega arith) (omega arith)

  -- ---- and who is held, in the slots 1 .. n

  module _ (n : ℕ) where
    abbrev among : Bool
    among = any (same_order k) (orders (seats n (view w)))

    held_in : (s : ℕ) → 1 ≤ s → s ≤ n → T (sits s) → T among
    held_in s lo hi t =
        let o = of-any (same_order k) (held_at w s) t in
        any_of (same_order k) (Memᴰ.map (λ (p : Seat). p.who) (seat-in (held_at w) (in-slots n s lo hi) o.1)) o.2

    sits-somewhere : T among → (s : ℕ) × Mem s (slots n) × T (sits s)
    sits-somewhere t =
        let o = of-any (same_order k) _ t in
        let p = Memᴰ.of_map (λ (p : Seat). p.who) (seats n (view w)) o.1 in
        let q = of-seat (held_at w) (slots n) p.1 in
        (p.0.slot, q.0, any_of (same_order k) q.1 (subst (λ (x : Order). T (same_order k x)) (sym p.2) o.2))

    not-zero : T among → find_from w k n 1 ≡ 0 → ⊥
    not-zero t e =
        let s = sits-somewhere t in
        let r = slots-range n s.1 in
        T_not (sits s.0) (missed n 1 (omega arith) e s.0 r.0 (omega arith)) s.2

    pub look_found : any (same_order k) (orders (seats n (view w))) ≡ not (eqb (find_from w k n 1) 0)
    look_found = go (dec-T among) (ℕ_discrete (find_from w k n 1) 0)
      where
        go : T among ⊎ T (not among) → Dec (find_from w k n 1 ≡ 0) → among ≡ not (eqb (find_from w k n 1) 0)
        go (inl t) (yes z) = absurd (not-zero t z)
        go (inl t) (no z) = is_true among t ∙ sym (ap not (ne_eqb (find_from w k n 1) 0 z))
        go (inr m) (yes z) = is_false among (T_not among m) ∙ sym (ap not (eq-eqb (find_from w k n 1) 0 z))
        go (inr m) (no z) = let f = found n 1 z in absurd (T_not among m (held_in (find_from w k n 1) f.0 (omega arith) f.2))

  pub held_found : is_held k w ≡ not (eqb (slot_of k w) 0)
  held_found = look_found (size w)

  -- "the slot that order k sits in"
  pub found_at : T (is_held k w) → (1 ≤ slot_of k w) × (slot_of k w ≤ size w) × T (same_order k (order_at w (slot_of k w))) × (number_at w (slot_of k w) ≡ 0 → ⊥)
  found_at t =
      let f = found (size w) 1 (not-zero (size w) t) in
      let o = of-any (same_order k) (held_at w (slot_of k w)) f.2 in
      let h = held_one w (slot_of k w) o.0 o.1 in
      (f.0, omega arith, subst (λ (x : Order). T (same_order k x)) h.1 o.2, λ z. omega (arith, h.0))
