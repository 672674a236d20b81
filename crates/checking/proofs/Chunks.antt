-- The words of slots, cut out of a board.
use Rattle.std.proofs.Common.{◌≡◌, ◌∙◌, sym, ap, ℕ, zero, suc, ◌+◌, ◌-◌, ◌*◌, ◌/◌, ◌≤◌, ◌<◌, ◌&&◌, Bool, true, List, [], ◌∷◌, map, length, take, drop, get_or, min, eqb, refl, arith}
use Rattle.std.proofs.Math.Decide.{dec_lt}
use Rattle.std.specs.Simd.{first_chunks}
use Rattle.std.specs.List.{range_with_len}
use Rattle.std.proofs.lemmas.List.FromFn.{get_or-map-range_with_len, length-map-range_with_len}
use Rattle.std.proofs.lemmas.List.{take_min, drop_all, length-drop, drop-drop}
use Rattle.std.proofs.Math.Seq.{drop-cons}
use Rattle.std.proofs.Math.Nat.{min_comm}
use Rattle.std.proofs.Math.ListN.{get_or-eq_default}
use Rattle.matching.specs.Orders.{Key}
use Rattle.rules.specs.Check.{zeros}
use Rattle.rules.specs.Layout.{word, reads, head_words, slot_words, base, number_at, key_at, board_words}
use Rattle.checking.specs.Slots.{whole, whole_slots}

reads-slice : (w : List ℕ) (i k : ℕ) → i + k ≤ length w → take k (drop i w) ≡ reads w i k
reads-slice w i zero h = refl
reads-slice w i (suc k) h = ap (take (suc k)) (drop-cons w i 0 (omega arith)) ∙ ap (λ (l : List ℕ). word w i ∷ l) (reads-slice w (suc i) k (omega arith))

-- ---- slot after slot

chunks : (w : List ℕ) (i k : ℕ) → slot_words * (i + k) ≤ length w - head_words
    → first_chunks slot_words k (drop (head_words + slot_words * i) w) ≡ map (λ s. reads w (base s) slot_words) (range_with_len (i + 1) k)
chunks w i zero h = refl
chunks w i (suc k) h =
    let at = head_words + slot_words * i in
    let here : take slot_words (drop at w) ≡ reads w (base (i + 1)) slot_words = reads-slice w at slot_words (omega arith) ∙ ap (λ (j : ℕ). reads w j slot_words) (omega arith) in
    let next : drop slot_words (drop at w) ≡ drop (head_words + slot_words * (i + 1)) w = drop-drop slot_words at w ∙ ap (λ (j : ℕ). drop j w) (omega arith) in
    let rest = ap (first_chunks slot_words k) next ∙ chunks w (i + 1) k (omega arith) in
    λ e. here e ∷ rest e

fewer : (c m k : ℕ) (xs : List ℕ) → m ≤ k → take m (first_chunks c k xs) ≡ first_chunks c m xs
fewer c zero k xs h = refl
fewer c (suc m) zero xs h = absurd (omega arith)
fewer c (suc m) (suc k) xs h = ap (λ (l : List (List ℕ)). take c xs ∷ l) (fewer c m k (drop c xs) (omega arith))

pub whole_are : (w from : List ℕ) (n m : ℕ) → from ≡ drop head_words w → m ≡ min (length from / slot_words) n
    → take m (first_chunks slot_words (length from / slot_words) from) ≡ whole_slots n w
whole_are w from n m ef em =
    fewer slot_words m (length from / slot_words) from (omega (arith, em)) ∙ ap (first_chunks slot_words m) ef ∙ chunks w 0 m (omega (arith, many))
    ∙ ap (λ (k : ℕ). map (λ s. reads w (base s) slot_words) (range_with_len 1 k)) many
  where
    many : m ≡ whole n w
    many = omega (arith, em, ap length ef, length-drop head_words w)

-- the words of the slot in a place
words-in : (w : List ℕ) (n i : ℕ) (slots : List (List ℕ)) → slots ≡ whole_slots n w → i < length slots → get_or slots i [] ≡ reads w (base (suc i)) slot_words
words-in w n i slots e h =
    let words = λ (s : ℕ). reads w (base s) slot_words in
    let lt : i < whole n w = omega (arith, ap length e, length-map-range_with_len words 1 (whole n w)) in
    ap (λ (l : List (List ℕ)). get_or l i []) e ∙ get_or-map-range_with_len words 1 (whole n w) i (suc i) [] lt (omega arith)

-- its number, and its key
pub number-in : (w : List ℕ) (n i : ℕ) (slots : List (List ℕ)) → slots ≡ whole_slots n w → i < length slots → get_or (get_or slots i []) 1 0 ≡ number_at w (suc i)
number-in w n i slots e h = ap (λ (l : List ℕ). get_or l 1 0) (words-in w n i slots e h) ∙ ap (word w) (omega arith)

abbrev pub key_in : List (List ℕ) → ℕ → Key
key_in slots i = record { code = get_or (get_or slots i []) 0 0; number = get_or (get_or slots i []) 1 0 }

pub key-in : (w : List ℕ) (n i : ℕ) (slots : List (List ℕ)) → slots ≡ whole_slots n w → i < length slots → key_in slots i ≡ key_at w (suc i)
key-in w n i slots e h =
    let number = number-in w n i slots e h in
    λ j. record { code = get_or (words-in w n i slots e h j) 0 0; number = number j }

-- ---- the words of one slot

zeros-none : (m : ℕ) → zeros (take m []) ≡ true
zeros-none zero = refl
zeros-none (suc m) = refl

zeros-take : (w : List ℕ) (a m : ℕ) → zeros (take m (drop a w)) ≡ zeros (reads w a m)
zeros-take w a zero = refl
zeros-take w a (suc m) = go (dec_lt a (length w)) (zeros-take w (suc a) m)
  where
    go : Dec (a < length w) → zeros (take m (drop (suc a) w)) ≡ zeros (reads w (suc a) m) → zeros (take (suc m) (drop a w)) ≡ zeros (reads w a (suc m))
    go (yes h) e = ap (λ (l : List ℕ). zeros (take (suc m) l)) (drop-cons w a 0 h) ∙ ap (λ (b : Bool). eqb (word w a) 0 && b) e
    go (no h) e =
        let none : word w a ≡ 0 = get_or-eq_default w 0 (omega arith) in
        let rest : true ≡ zeros (reads w (suc a) m) = sym (zeros-none m) ∙ ap (λ (l : List ℕ). zeros (take m l)) (sym (drop_all (suc a) w (omega arith))) ∙ e in
        ap (λ (l : List ℕ). zeros (take (suc m) l)) (drop_all a w (omega arith)) ∙ λ i. eqb (sym none i) 0 && rest i

-- a word that is not there reads as 0
pub zeros_there : (w from : List ℕ) (a k m : ℕ) → from ≡ drop a w → k ≡ min (length from) m → zeros (take k from) ≡ zeros (reads w a m)
zeros_there w from a k m ef ek = ap (λ (j : ℕ). zeros (take j from)) (ek ∙ min_comm (length from) m) ∙ ap zeros (take_min m from) ∙ ap (λ (l : List ℕ). zeros (take m l)) ef ∙ zeros-take w a m

-- ---- how many slots

pub all_whole : (n : ℕ) (w : List ℕ) → board_words n ≤ length w → whole n w ≡ n
all_whole n w h = omega arith
