-- Laws of where a line ends: within the bytes, at a line feed, and at the first one.
use Rattle.std.proofs.Common.{◌≡◌, ℕ, zero, suc, ◌+◌, ◌≤◌, ◌<◌, false, true, List, [], ◌∷◌, None, Some, eqb, length, get_or, take, drop, refl, sym, ap, ◌∙◌, arith, length-drop}
use Rattle.std.specs.List.{slice_range}
use Rattle.std.proofs.Math.Seq.{get_or-drop, take-length}
use Rattle.std.proofs.lemmas.Bool.{eq-eqb, ne_eqb, eqb-true, eqb-false, lt-ltb, le-ltb}
use Rattle.memchr.specs.Find.{Nowhere, NoneBefore, Passes, is_byte}
use Rattle.rules.specs.Text.{line_feed}
use Rattle.rules.proofs.Cutting.{either}
use Rattle.framing.specs.Ends.{before_feed, line_end, feed_from}

before-within : (l : List ℕ) → before_feed l ≤ length l
before-within [] = omega arith
before-within (b ∷ l) =
    either (eqb b line_feed) (λ e. rw e (omega arith)) (λ e. rw e (omega (arith, before-within l)))

before-found : (l : List ℕ) → before_feed l < length l → get_or l (before_feed l) 0 ≡ line_feed
before-found [] = λ h. absurd (omega arith)
before-found (b ∷ l) =
    either (eqb b line_feed) (λ e. rw e (λ _. eqb-true b line_feed e)) (λ e. rw e (λ h. before-found l (omega arith)))

later-none : (b : ℕ) (l : List ℕ) → eqb b line_feed ≡ false → ((k : ℕ) → k < before_feed l → get_or l k 0 ≡ line_feed → ⊥)
    → (k : ℕ) → k < suc (before_feed l) → get_or (b ∷ l) k 0 ≡ line_feed → ⊥
later-none b l e f zero h q = eqb-false b line_feed e q
later-none b l e f (suc k) h q = f k (omega arith) q

before-none : (l : List ℕ) (k : ℕ) → k < before_feed l → get_or l k 0 ≡ line_feed → ⊥
before-none [] k = λ h _. omega arith
before-none (b ∷ l) k =
    either (eqb b line_feed) (λ e. rw e (λ h _. omega arith)) (λ e. rw e (later-none b l e (before-none l) k))

before-all : (l : List ℕ) → ((k : ℕ) → k < length l → get_or l k 0 ≡ line_feed → ⊥) → before_feed l ≡ length l
before-all [] h = refl
before-all (b ∷ l) h = rw (ne_eqb b line_feed (h 0 (omega arith))) (ap suc (before-all l (λ k low. h (suc k) (omega arith))))

before-is : (l : List ℕ) (k : ℕ) → k < length l → get_or l k 0 ≡ line_feed → ((j : ℕ) → j < k → get_or l j 0 ≡ line_feed → ⊥) → before_feed l ≡ k
before-is [] k low e h = absurd (omega arith)
before-is (b ∷ l) zero low e h = rw (eq-eqb b line_feed e)
before-is (b ∷ l) (suc k) low e h = rw (ne_eqb b line_feed (h 0 (omega arith))) (ap suc (before-is l k (omega arith) e (λ j under. h (suc j) (omega arith))))

module _ (s : List ℕ) (i : ℕ) where
  pub end-past : length s ≤ i → line_end s i ≡ i
  end-past h = omega (arith, before-within (drop i s), length-drop i s)

  pub end-within : i ≤ length s → line_end s i ≤ length s
  end-within h = omega (arith, before-within (drop i s), length-drop i s)

  pub end-found : line_end s i < length s → get_or s (line_end s i) 0 ≡ line_feed
  end-found h = sym (get_or-drop i s (before_feed (drop i s)) 0) ∙ before-found (drop i s) (omega (arith, length-drop i s))

  -- the bytes from i to before the end are no line feed
  pub end-first : (k : ℕ) → i + k < line_end s i → get_or s (i + k) 0 ≡ line_feed → ⊥
  end-first k h e = before-none (drop i s) k (omega arith) (get_or-drop i s k 0 ∙ e)

  -- what a search of the bytes from i on answers
  module _ (l : List ℕ) (rest : l ≡ slice_range s i (length s)) (within : i ≤ length s) where
    bytes : l ≡ drop i s
    bytes = rest ∙ ap (λ (k : ℕ). take k (drop i s)) (sym (length-drop i s)) ∙ take-length (drop i s)

    pub feed_none : Nowhere (Passes (is_byte line_feed) l) 0 (length l) → None ≡ feed_from s i
    feed_none h =
        let all : before_feed (drop i s) ≡ length (drop i s) = rw (← bytes) (before-all l (λ k low e. h k (omega arith) low (eq-eqb (get_or l k 0) line_feed e))) in
        rw (le-ltb (line_end s i) (length s) (omega (arith, length-drop i s)))

    pub feed_some : (k : ℕ) → NoneBefore (Passes (is_byte line_feed) l) 0 (length l) k → is_byte line_feed (get_or l k 0) ≡ true → Some (i + k) ≡ feed_from s i
    feed_some k h e =
        let below = h.high in
        let first : before_feed (drop i s) ≡ k = rw (← bytes) (before-is l k below (eqb-true (get_or l k 0) line_feed e) (λ j low f. h.before j (omega arith) low (eq-eqb (get_or l j 0) line_feed f))) in
        let low : i + k < length s = omega (arith, length-drop i s, ap length bytes) in
        rw (first, lt-ltb (i + k) (length s) low)
