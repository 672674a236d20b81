-- On a board that passes the check the reach decides what the search would answer: to bring an order in is to search, as `finished` says.
use mathlib.Core.Bool.{Bool, true, false, cond, ◌||◌}
use mathlib.Core.List.{List, [], ◌∷◌, ◌++◌, map, Memᴰ as Mem}
use mathlib.Core.Path.{◌≡◌, refl, sym, ap, ◌∙◌, subst}
use Prim.Native.Nat.{ℕ, zero, suc, ◌*◌, ◌≤◌, min}
use native.Mathlib.Nat.{zero-add}
use native.Mathlib.Omega.{arith}
use lib.Dec.{T, eqb, eqb→eq, ltb}
use lib.ListN.{length, set, replicate, drop, length-append, length-replicate, length-drop}
use lib.Seq.{sets, sets-eq}
use borrow.Author.Tests.{le-ltb}
use Rattle.matching.specs.Blocking.{rounds, blocked}
use Rattle.matching.specs.Lists.{filter, upward, count_if}
use Rattle.matching.specs.Orders.{Order, Seat, seat, seats, orders, same_order}
use Rattle.matching.specs.Placing.{Result, refused, Ended, found, none, spent, outcome, follow, place}
use Rattle.matching.proofs.Closure.{rounds-reach, whole}
use Rattle.matching.proofs.Follow.{follows}
use Rattle.matching.proofs.Moves.{Ready}
use Rattle.matching.proofs.Search.{Blocked}
use Rattle.matching.proofs.Seated.{slots-range}
use Rattle.matching.proofs.Sets.{any_of, of-any, of-filter, filter-of, in-upward}
use Rattle.rules.specs.Bringing.{reach_of, free_in, answer, searched, bring_in}
use Rattle.rules.specs.Calls.{cleared, finished}
use Rattle.rules.specs.Layout.{most_slots, work_words, word, number_at, order_at, is_free, held_at, view, write_at, held}
use Rattle.rules.proofs.Accept.{never}
use Rattle.rules.proofs.CheckLaws.{Passed, held_none, held-some}
use Rattle.rules.proofs.Decide.{in-board, finds, shuts}

length-cleared : (n : ℕ) (w : List ℕ) → work_words n ≤ length w → length (cleared n w) ≡ length w
length-cleared n w h = omega (arith, length-append (replicate (work_words n) 0) (drop (work_words n) w), length-replicate {A = ℕ} (work_words n) 0, length-drop (work_words n) w)

filter-few : (P : ℕ → Bool) (i k : ℕ) → length (filter P (upward i k)) ≤ k
filter-few P i zero = omega arith
filter-few P i (suc k) = go (P (suc i)) (filter-few P (suc i) k)
  where
    go : (q : Bool) → length (filter P (upward (suc i) k)) ≤ k → length (cond q (suc i ∷ filter P (upward (suc i) k)) (filter P (upward (suc i) k))) ≤ suc k
    go true h = omega arith
    go false h = omega arith

few-held : (w : List ℕ) (k : ℕ) → length (orders (seats k (view w))) ≤ k
few-held w zero = omega arith
few-held w (suc k) = go (eqb (number_at w (suc k)) 0) (few-held w k)
  where
    go : (b : Bool) → length (orders (seats k (view w))) ≤ k
        → length (orders (map (λ (o : Order). seat o (suc k)) (cond b [] (order_at w (suc k) ∷ [])) ++ seats k (view w))) ≤ suc k
    go true h = omega arith
    go false h = omega arith

module _ (w work : List ℕ) (x : Order) (p : Passed w) (r : Ready (word w 0) x) (room : work_words (word w 0) ≤ length work) where
  abbrev n : ℕ
  n = word w 0

  abbrev ss : List Seat
  ss = seats n (view w)

  abbrev R : List ℕ
  R = reach_of n w x

  abbrev clean : List ℕ
  clean = cleared n work

  abbrev search : Result (List ℕ)
  search = place view (write_at n) n w x

  few : length R ≤ n
  unfolding blocked
  few = filter-few (rounds ss x n) 0 n

  -- a free slot in the reach: the search finds one
  found_of : T (free_in n w x) → search ≡ refused → ⊥
  unfolding blocked
  found_of h =
      let a = of-any (is_free w) R h in
      let f = of-filter (rounds ss x n) (upward 0 n) a.1 in
      finds w x p r a.0 (rounds-reach ss x n a.0 f.1) (held_none w a.0 (eqb→eq (number_at w a.0) 0 a.2))

  -- none: every slot that is reached is held
  full-of : (T (free_in n w x) → ⊥) → Blocked n (view w) x
  unfolding blocked
  full-of h t k = go (number_at w t) refl
    where
      inside : Mem t R
      inside = let m = slots-range n (in-board w x p r t k) in filter-of (rounds ss x n) (in-upward 0 n t (omega arith) (omega arith)) (whole n ss x (in-board w x p r) k)

      go : (m : ℕ) → number_at w t ≡ m → 1 ≤ length (held_at w t)
      go zero e = absurd (h (any_of (is_free w) inside (subst (λ (j : ℕ). T (eqb j 0)) (sym e) tt)))
      go (suc m) e = omega (arith, ap length (held-some w t (omega arith)))

  fits : (ltb most_slots n || ltb (length clean) n) ≡ false
  fits = rw (le-ltb most_slots n p.big, le-ltb (length clean) n (omega (arith, length-cleared n work room)))

  module _ (fresh : count_if (same_order x.key) (held w) ≡ 0) where
    accepts : (e : Ended (List ℕ)) → outcome e ≡ search → (search ≡ refused → ⊥) → searched w clean e ≡ finished w work x search
    unfolding finished
    accepts (found w' k) e f =
        ap (λ (m : ℕ). answer 0 k (set w' 1 m) clean) one ∙ ap (finished w work x) e
      where
        one : ◌≡◌ {A = ℕ} (min 65535 (suc (word w 1))) (suc (word w 1))
        one = omega (arith, p.tally, p.big, few-held w n)
    accepts (none w') e f = absurd (f (sym e))
    accepts (spent w') e f = absurd (never w x p r (sym e))

    shows : answer 12 (length R) w (sets clean 0 R) ≡ finished w work x refused
    unfolding finished
    shows = ap (answer 12 (length R) w) (sets-eq R clean 0 (omega (arith, few, length-cleared n work room)) ∙ ap (λ (k : ℕ). R ++ drop k clean) (zero-add (length R)))

    pub brings : bring_in w clean x ≡ finished w work x search
    unfolding bring_in place
    brings = go (free_in n w x) refl
      where
        whole-search : outcome (follow view (write_at n) n (suc (n * n)) w x 0) ≡ search
        whole-search = follows view (write_at n) n (suc (n * n)) w x 0

        go : (b : Bool) → free_in n w x ≡ b → bring_in w clean x ≡ finished w work x search
        go true e = rw (fits, e) (accepts (follow view (write_at n) n (suc (n * n)) w x 0) whole-search (found_of (subst (λ (b : Bool). T b) (sym e) tt)))
        go false e = rw (fits, e) (shows ∙ ap (finished w work x) (sym (shuts w x p r fresh (full-of (λ t. subst (λ (b : Bool). T b) e t)))))
