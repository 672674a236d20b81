-- The look for an order.
use Rattle.std.proofs.Common.{◌≡◌, ◌∙◌, sym, ap, ℕ, zero, suc, ◌+◌, ◌-◌, ◌*◌, ◌≤◌, ◌<◌, ◌||◌, not, Bool, true, false, cond, Option, None, Some, List, [], ◌∷◌, map, take, drop, eqb, ltb, ◌&&◌, ◌≢◌, T_not, refl, arith}
use Rattle.std.proofs.Math.Decide.{ℕ_discrete, dec_lt}
use Rattle.std.proofs.lemmas.Bool.{eq-eqb, ne_eqb, lt-ltb, le-ltb}
use Rattle.std.proofs.lemmas.Bool.Decides.{nat_tests}
use Rattle.std.specs.Option.{is_some, unwrap_or}
use Rattle.std.specs.Simd.{first_chunks}
use Rattle.std.specs.List.{list_any, find, range_with_len, position_or_len}
use Rattle.std.proofs.Math.Seq.{take-add}
use Rattle.std.proofs.lemmas.List.FromFn.{take-map-range_with_len}
use Rattle.std.proofs.lemmas.List.Folds.{list_any-append}
use Rattle.matching.specs.Orders.{Key, same_order}
use Rattle.matching.proofs.Keys.{other-of}
use Rattle.rules.specs.Calls.{find_from}
use Rattle.rules.specs.Layout.{word, slot_words, reads, base, number_word, code_at, number_at, key_at, order_at}
use Rattle.checking.specs.Found.{found}
use Rattle.checking.specs.Slots.{has_key, whole, whole_slots}
use Rattle.rules.proofs.Bools.{no_true, is_false, of-true}
use Rattle.rules.proofs.Finding.{sits, find_none, find-here, find-next}

or_no : (a b : Bool) → (a || b) ≡ false → (a ≡ false) × (b ≡ false)
or_no true b e = absurd (no_true e)
or_no false b e = (refl, e)

-- ---- chunk by chunk

-- the chunks before the first that has one lack it
pub none_before : {A : Type 0} (p : A → Bool) (c k : ℕ) (xs : List A) → list_any p (take (c * position_or_len (list_any p) (first_chunks c k xs)) xs) ≡ false
none_before p c zero xs = let e : c * 0 ≡ 0 = omega arith in ap (λ (j : ℕ). list_any p (take j xs)) e
none_before {A} p c (suc k) xs = go (list_any p (take c xs)) refl (none_before p c k (drop c xs))
  where
    go : (b : Bool) → list_any p (take c xs) ≡ b → list_any p (take (c * position_or_len (list_any p) (first_chunks c k (drop c xs))) (drop c xs)) ≡ false
        → list_any p (take (c * cond (not b) (1 + position_or_len (list_any p) (first_chunks c k (drop c xs))) 0) xs) ≡ false
    go true e h = let z : c * 0 ≡ 0 = omega arith in ap (λ (j : ℕ). list_any p (take j xs)) z
    go false e h =
        let r = position_or_len (list_any p) (first_chunks c k (drop c xs)) in
        let z : c * (1 + r) ≡ c + c * r = omega arith in
        ap (λ (j : ℕ). list_any p (take j xs)) z ∙ ap (list_any p) (take-add c (c * r) xs) ∙ list_any-append p (take c xs) (take (c * r) (drop c xs)) ∙ λ i. e i || h i

-- what `unwrap_or` makes of the place
pub unwrapped : (i n : ℕ) → i ≤ n → unwrap_or (cond (ltb i n) (Some i) None) n ≡ i
unwrapped i n h = go (dec_lt i n)
  where
    go : Dec (i < n) → unwrap_or (cond (ltb i n) (Some i) None) n ≡ i
    go (yes l) = rw (lt-ltb i n l)
    go (no g) = rw (le-ltb i n (omega arith)) (omega arith)

-- ---- a key as one number

-- code and number agree exactly where the numbers made of them do
pub joined_same : (c k d j : ℕ) → c < 65536 → d < 65536 → eqb (k * 65536 + c) (j * 65536 + d) ≡ (eqb k j && eqb c d)
joined_same c k d j low high = grind (arith, nat_tests)

-- ---- slot by slot

-- 0 is no order's number
pub find-zero : (w : List ℕ) (k : Key) → k.number ≡ 0 → (m s : ℕ) → find_from w k m s ≡ 0
find-zero w k none zero s = find_none k w s
find-zero w k none (suc m) s = go (ℕ_discrete (number_at w s) 0) ∙ find-zero w k none m (s + 1)
  where
    go : Dec (number_at w s ≡ 0) → find_from w k (suc m) s ≡ find_from w k m (s + 1)
    go (yes z) = find-next k w m s (rw (eq-eqb (number_at w s) 0 z) tt)
    go (no z) =
        let other : key_at w s ≢ k = λ e. z (ap (λ (j : Key). j.number) e ∙ none) in
        find-next k w m s (rw (ne_eqb (number_at w s) 0 z, is_false (same_order k (order_at w s)) (T_not (same_order k (order_at w s)) (other-of k (order_at w s) other))) tt)

-- the slot of a look, where 0 is none
abbrev pub answer : ℕ → Option ℕ
answer s = cond (eqb s 0) None (Some s)

answer-some : (s : ℕ) → 1 ≤ s → answer s ≡ Some s
answer-some s h = rw (ne_eqb s 0 (λ z. omega arith))

module _ (w : List ℕ) (k : Key) where
  abbrev pub has : ℕ → Bool
  has s = eqb (number_at w s) k.number && eqb (code_at w s) k.code

  has-same : (s : ℕ) → has s ≡ same_order k (order_at w s)
  has-same s = go (eqb (number_at w s) k.number) (eqb (code_at w s) k.code)
    where
      go : (a b : Bool) → (a && b) ≡ (b && a)
      go true true = refl
      go true false = refl
      go false true = refl
      go false false = refl

  -- slots that lack the key are passed over
  pub find-past : (past m s : ℕ) → list_any has (range_with_len s past) ≡ false → find has (range_with_len s (past + m)) ≡ find has (range_with_len (s + past) m)
  find-past zero m s h = λ i. find has (range_with_len (s_is i) (m_is i))
    where
      s_is : s ≡ s + 0
      s_is = omega arith

      m_is : 0 + m ≡ m
      m_is = omega arith
  find-past (suc p) m s h =
      let o = or_no (has s) (list_any has (range_with_len (s + 1) p)) h in
      let e : suc p + m ≡ suc (p + m) = omega arith in
      let f : s + 1 + p ≡ s + suc p = omega arith in
      ap (λ (j : ℕ). find has (range_with_len s j)) e ∙ ap (λ (b : Bool). cond b (Some s) (find has (range_with_len (s + 1) (p + m)))) o.0 ∙ find-past p m (s + 1) o.1
      ∙ ap (λ (j : ℕ). find has (range_with_len j m)) f

  module _ (some : 1 ≤ k.number) where
    -- the test is that of the look: with the number 0 it fails
    sits-has : (s : ℕ) → sits k w s ≡ has s
    sits-has s = go (ℕ_discrete (number_at w s) 0)
      where
        go : Dec (number_at w s ≡ 0) → sits k w s ≡ has s
        go (yes z) =
            let other : key_at w s ≢ k = λ e. omega (arith, some, ap (λ (j : Key). j.number) e) in
            rw (eq-eqb (number_at w s) 0 z) (sym (has-same s ∙ is_false (same_order k (order_at w s)) (T_not (same_order k (order_at w s)) (other-of k (order_at w s) other))))
        go (no z) = rw (ne_eqb (number_at w s) 0 z) (or-false (same_order k (order_at w s)) ∙ sym (has-same s))
          where
            or-false : (b : Bool) → (b || false) ≡ b
            or-false true = refl
            or-false false = refl

    pub find_is : (m s : ℕ) → 1 ≤ s → find has (range_with_len s m) ≡ answer (find_from w k m s)
    find_is zero s h = sym (ap answer (find_none k w s))
    find_is (suc m) s h = go (has s) refl (find_is m (s + 1) (omega arith))
      where
        go : (b : Bool) → has s ≡ b → find has (range_with_len (s + 1) m) ≡ answer (find_from w k m (s + 1)) → cond b (Some s) (find has (range_with_len (s + 1) m)) ≡ answer (find_from w k (suc m) s)
        go true e r = sym (ap answer (find-here k w m s (of-true (sits k w s) (sits-has s ∙ e))) ∙ answer-some s h)
        go false e r = r ∙ sym (ap answer (find-next k w m s (of-true (not (sits k w s)) (ap not (sits-has s ∙ e)))))

-- a test of what stands in the places
list_any-map : {A B : Type 0} (p : B → Bool) (f : A → B) (l : List A) → list_any p (map f l) ≡ list_any (λ a. p (f a)) l
list_any-map p f [] = refl
list_any-map p f (a ∷ l) = ap (λ (b : Bool). p (f a) || b) (list_any-map p f l)

-- what is left to look at, where the first `past` slots were passed over
pub found_past : (w : List ℕ) (k : Key) (n past : ℕ) → 1 ≤ k.number → past ≤ n → past ≤ whole n w → list_any (has_key k) (take past (whole_slots n w)) ≡ false
    → find (has w k) (range_with_len (past + 1) (n - past)) ≡ found w n k
found_past w k n past some le few lack =
    let words = λ (s : ℕ). reads w (base s) slot_words in
    let second : (s : ℕ) → number_word s ≡ suc (base s) = λ s. omega arith in
    let test : has w k ≡ (λ (s : ℕ). has_key k (words s)) = λ i s. eqb (word w (second s i)) k.number && eqb (code_at w s) k.code in
    let lacking : list_any (has w k) (range_with_len 1 past) ≡ false =
    ap (λ (p : ℕ → Bool). list_any p (range_with_len 1 past)) test ∙ sym (list_any-map (has_key k) words (range_with_len 1 past)) ∙ ap (list_any (has_key k)) (sym (take-map-range_with_len words 1 (whole n w) past few)) ∙ lack in
    let next : past + 1 ≡ 1 + past = omega arith in
    let all : past + (n - past) ≡ n = omega arith in
    ap (λ (s : ℕ). find (has w k) (range_with_len s (n - past))) next ∙ sym (find-past w k past (n - past) 1 lacking) ∙ ap (λ (m : ℕ). find (has w k) (range_with_len 1 m)) all
    ∙ find_is w k some n 1 (omega arith)

-- found, or not, as the look says
pub said-found : (w : List ℕ) (n : ℕ) (k : Key) → is_some (found w n k) ≡ not (eqb (find_from w k n 1) 0)
said-found w n k = go (eqb (find_from w k n 1) 0)
  where
    go : (b : Bool) → is_some (cond b None (Some (find_from w k n 1))) ≡ not b
    go true = refl
    go false = refl
