-- An order is marked as started (P1), on a board that passes the check.
use mathlib.Core.Path.{◌≡◌, refl, sym, ap, ap₂, ◌∙◌, subst}
use mathlib.Core.Bool.{Bool, true, false, not, cond}
use mathlib.Core.Logic.{◌⊎◌, inl, inr, ◌≢◌, ◌↔◌}
use mathlib.Core.List.Memᴰ.{head as here}
use mathlib.Core.List.Memᴰ.{tail as there}
use mathlib.Core.List.{List, [], ◌∷◌, map, Memᴰ as Mem}
use Prim.Native.Nat.{ℕ, zero, suc, ◌+◌, ◌-◌, ◌≤◌, ◌<◌}
use native.Mathlib.Omega.{arith}
use native.Mathlib.Decide.{ℕ_discrete, dec_lt}
use borrow.Author.Tests.{lt-ltb, le-ltb, eq-eqb, ne_eqb}
use lib.Dec.{T, eqb, eqb→eq, T_not}
use lib.ListN.{length, take, drop, set, length-set}
use lib.Seq.{get_or-set_same, get_or-set_other}
use Rattle.matching.specs.Lists.{count_if, slots}
use Rattle.matching.specs.Orders.{Key, Order, open_slots, started, started_in, SameOrders, orders, seats, seats_of, same_order}
use Rattle.matching.proofs.Counting.{count_if-map, count_if-all}
use Rattle.matching.proofs.Keys.{same-key, same-of, other-of}
use Rattle.matching.proofs.Moves.{Ready, Good, total, sum}
use Rattle.matching.proofs.Seated.{slots-range, in-slots}
use Rattle.rules.specs.Calls.{is_held, is_started, slot_of, marked}
use Rattle.rules.specs.Check.{zeros}
use Rattle.rules.specs.Layout.{word, base, code_word, number_word, number_at, key_at, label_at, count_word, label_word, row_word, most_choices, started_mark, is_marked, choice_count, count_word_at, marked_at, count_at, row_at, list_at, order_at, held_at, view, held}
use Rattle.rules.proofs.Bools.{is_true, is_false}
use Rattle.rules.proofs.CheckLaws.{Agree, Tidy, tidy-same, held_same, label_same, held_one, held_none, held-some, Sound, Passed, open_own}
use Rattle.rules.proofs.Finding.{found_at}
use Rattle.rules.proofs.WordLaws.{reads_same}
use Rattle.rules.proofs.Withdraw.{count_if-orders, count-two}

-- where the order sits: there alone
record Found (k : Key) (w : List ℕ) (s : ℕ) : Type 0 where
  inside : Mem s (slots (word w 0))
  key : key_at w s ≡ k
  only : (t : ℕ) → Mem t (slots (word w 0)) → key_at w t ≡ k → t ≡ s

found : (k : Key) (w : List ℕ) → 1 ≤ k.number → Passed w → T (is_held k w) → Found k w (slot_of k w)
found k w kp p has = record { inside = mine; key = its; only = λ t m e. go t m e (ℕ_discrete t (slot_of k w)) }
  where
    at : (1 ≤ slot_of k w) × (slot_of k w ≤ word w 0) × T (same_order k (order_at w (slot_of k w))) × (number_at w (slot_of k w) ≡ 0 → ⊥)
    at = found_at k w has

    mine : Mem (slot_of k w) (slots (word w 0))
    mine = in-slots (word w 0) (slot_of k w) at.0 at.1

    its : key_at w (slot_of k w) ≡ k
    its = same-key k (order_at w (slot_of k w)) at.2

    go : (t : ℕ) → Mem t (slots (word w 0)) → key_at w t ≡ k → Dec (t ≡ slot_of k w) → t ≡ slot_of k w
    go t m e (yes q) = q
    go t m e (no ne) = absurd (omega (arith, p.unique k, count-two k w kp (word w 0) t (slot_of k w) m mine ne e its))

pub record Begun (k : Key) (s : ℕ) (w w' : List ℕ) : Type 0 where
  pub passed : Passed w'
  pub size : word w' 0 ≡ word w 0
  pub all : SameOrders (held w') (map (started_in k s) (held w))
  pub labels : total (word w 0) (view w') ≡ total (word w 0) (view w)

module _ (k : Key) (w : List ℕ) (s : ℕ) (kp : 1 ≤ k.number) (p : Passed w) (f : Found k w s) (free : marked_at w s ≡ false) where
  abbrev n : ℕ
  n = word w 0

  abbrev w' : List ℕ
  w' = set w (count_word s) (count_word_at w s + started_mark)

  s-range : (1 ≤ s) × (s ≤ n)
  s-range = slots-range n f.inside

  numbered : 1 ≤ number_at w s
  numbered = omega (arith, kp, ap (λ (j : Key). j.number) f.key)

  there-o : Mem (order_at w s) (held_at w s)
  there-o = subst (λ (l : List Order). Mem (order_at w s) l) (sym (held-some w s numbered)) (here refl)

  rdy : Ready n (order_at w s)
  rdy = p.sound.good.ready s (order_at w s) f.inside there-o

  own : Mem s (list_at w s)
  own = rdy.listed s (p.sound.good.own s (order_at w s) f.inside there-o)

  same_count : count_at w s ≡ count_word_at w s
  same_count = ap (λ (b : Bool). cond b (count_word_at w s - started_mark) (count_word_at w s)) free

  some : (c : ℕ) → Mem s (take c (row_at w s)) → 1 ≤ c
  some zero i = elim i [ ]
  some (suc c) i = omega arith

  else : (j : ℕ) → j ≢ count_word s → word w' j ≡ word w j
  else j h = get_or-set_other w (count_word s) j (count_word_at w s + started_mark) 0 h

  agree : (t : ℕ) → Mem t (slots n) → t ≢ s → Agree w w' t
  agree t m ne j lo hi = else j (λ e. ne (omega (arith, slots-range n m, s-range)))

  now : count_word_at w' s ≡ count_word_at w s + started_mark
  now = get_or-set_same w (count_word s) (count_word_at w s + started_mark) 0 (omega (arith, p.sound.fits, s-range))

  marks : marked_at w' s ≡ true
  marks = ap is_marked now ∙ lt-ltb 16 (count_word_at w s + 16) (omega (arith, same_count, some (count_at w s) own))

  count' : count_at w' s ≡ count_at w s
  count' = ap (λ (b : Bool). cond b (count_word_at w' s - started_mark) (count_word_at w' s)) marks ∙ omega (arith, now, same_count)

  number' : number_at w' s ≡ number_at w s
  number' = else (number_word s) (omega arith)

  key' : key_at w' s ≡ key_at w s
  key' = λ i. record { code = else (code_word s) (omega arith) i; number = number' i }

  its : same_order k (order_at w s) ≡ true
  its = is_true (same_order k (order_at w s)) (same-of k (order_at w s) f.key)

  row' : row_at w' s ≡ row_at w s
  row' = reads_same w w' (row_word s) most_choices (λ j lo hi. else j (omega arith))

  label' : (t : ℕ) → Mem t (slots n) → label_at w' t ≡ label_at w t
  label' t m = go (ℕ_discrete t s)
    where
      go : Dec (t ≡ s) → label_at w' t ≡ label_at w t
      go (yes e) = else (label_word t) (omega arith)
      go (no ne) = label_same w w' t (agree t m ne)

  order' : order_at w' s ≡ started_in k s (order_at w s)
  order' = λ i. record { key = key' i; list = take (count' i) (row' i); fixed = (ap (λ (b : Bool). cond b s 0) marks ∙ sym (ap (λ (b : Bool). cond b s (cond (marked_at w s) s 0)) its)) i }

  held' : (t : ℕ) → Mem t (slots n) → held_at w' t ≡ map (started_in k s) (held_at w t)
  held' t m = go (ℕ_discrete t s) (number_at w t) refl
    where
      at-s : held_at w' s ≡ map (started_in k s) (held_at w s)
      at-s = held-some w' s (omega (arith, number', numbered)) ∙ ap (λ (o : Order). o ∷ []) order' ∙ sym (ap (map (started_in k s)) (held-some w s numbered))

      stays : (ne : key_at w t ≢ k) → started_in k s (order_at w t) ≡ order_at w t
      stays ne = λ i. record { key = key_at w t; list = list_at w t; fixed = ap (λ (b : Bool). cond b s (cond (marked_at w t) t 0)) (is_false (same_order k (order_at w t)) (T_not (same_order k (order_at w t)) (other-of k (order_at w t) ne))) i }

      go : Dec (t ≡ s) → (j : ℕ) → number_at w t ≡ j → held_at w' t ≡ map (started_in k s) (held_at w t)
      go (yes e) j q = subst (λ (i : ℕ). held_at w' i ≡ map (started_in k s) (held_at w i)) (sym e) at-s
      go (no ne) zero q = held_same w w' t (agree t m ne) ∙ held_none w t q ∙ sym (ap (map (started_in k s)) (held_none w t q))
      go (no ne) (suc j) q =
          held_same w w' t (agree t m ne) ∙ held-some w t (omega arith)
          ∙ ap (λ (o : Order). o ∷ []) (sym (stays (λ e. ne (f.only t m e)))) ∙ sym (ap (map (started_in k s)) (held-some w t (omega arith)))

  open-s : (t : ℕ) → Mem t (open_slots (started_in k s (order_at w s))) → t ≡ s
  unfolding open_slots
  open-s t m = go (subst (λ (b : Bool). Mem t (cond (eqb (cond b s (cond (marked_at w s) s 0)) 0) (list_at w s) (cond b s (cond (marked_at w s) s 0) ∷ []))) its m)
    where
      one : Mem t (s ∷ []) → t ≡ s
      one (here e) = e
      one (there i) = elim i [ ]

      go : Mem t (cond (eqb s 0) (list_at w s) (s ∷ [])) → t ≡ s
      go i = one (subst (λ (b : Bool). Mem t (cond b (list_at w s) (s ∷ []))) (ne_eqb s 0 (λ z. omega (arith, s-range))) i)

  ready' : Ready n (started_in k s (order_at w s))
  ready' = record {
    coded = rdy.coded;
    named = rdy.named;
    few = rdy.few;
    rises = rdy.rises;
    some = s;
    has = subst (λ (o : Order). Mem s (open_slots o)) order' (open_own w' s (subst (λ (l : List ℕ). Mem s l) (sym (ap₂ take count' row')) own));
    inside = λ t m. subst (λ (i : ℕ). Mem i (slots n)) (sym (open-s t m)) f.inside;
    listed = λ t m. subst (λ (i : ℕ). Mem i (list_at w s)) (sym (open-s t m)) own;
  }

  -- an order on the new board is the started one, in s, or was there
  data Whose (t : ℕ) (o : Order) : Type 0 where
    it : t ≡ s → o ≡ started_in k s (order_at w s) → Whose t o
    was : t ≢ s → Mem o (held_at w t) → Whose t o

  whose : (t : ℕ) (o : Order) → Mem t (slots n) → Mem o (held_at w' t) → Whose t o
  whose t o m i = go (ℕ_discrete t s)
    where
      go : Dec (t ≡ s) → Whose t o
      go (yes e) = it e ((held_one w' t o i).1 ∙ ap (order_at w') e ∙ order')
      go (no ne) = was ne (subst (λ (l : List Order). Mem o l) (held_same w w' t (agree t m ne)) i)

  length-held : (t : ℕ) → Mem t (slots n) → length (held_at w' t) ≡ length (held_at w t)
  length-held t m = ap length (held' t m) ∙ go (held_at w t)
    where
      go : (l : List Order) → length (map (started_in k s) l) ≡ length l
      go [] = refl
      go (o ∷ l) = ap suc (go l)

  good' : Good n (view w')
  unfolding ready'
  good' = record {
    own = λ t o m i. own' t o m (whose t o m i);
    ready = λ t o m i. rd t o m (whose t o m i);
    room = λ t m. omega (arith, length-held t m, g.room t m);
    empty = λ t m e. label' t m ∙ g.empty t m (sym (length-held t m) ∙ e);
    busy = λ t m e. omega (arith, label' t m, g.busy t m (omega (arith, length-held t m)));
    small = λ t m. omega (arith, label' t m, g.small t m);
    gentle = λ t o m i u j. gentle' t o m (whose t o m i) u j;
  }
    where
      g : Good n (view w)
      g = p.sound.good

      own' : (t : ℕ) (o : Order) → Mem t (slots n) → Whose t o → Mem t (open_slots o)
      own' t o m (it e q) = subst (λ (x : Order). Mem t (open_slots x)) (sym q) (subst (λ (i : ℕ). Mem i (open_slots (started_in k s (order_at w s)))) (sym e) ready'.has)
      own' t o m (was ne i) = g.own t o m i

      rd : (t : ℕ) (o : Order) → Mem t (slots n) → Whose t o → Ready n o
      rd t o m (it e q) = subst (λ (x : Order). Ready n x) (sym q) ready'
      rd t o m (was ne i) = g.ready t o m i

      gentle' : (t : ℕ) (o : Order) → Mem t (slots n) → Whose t o → (u : ℕ) → Mem u (open_slots o) → label_at w' t ≤ suc (label_at w' u)
      gentle' t o m (it e q) u j = let z : u ≡ s = open-s u (subst (λ (x : Order). Mem u (open_slots x)) q j) in omega (arith, ap (label_at w') e, ap (label_at w') z)
      gentle' t o m (was ne i) u j = omega (arith, label' t m, label' u ((g.ready t o m i).inside u j), g.gentle t o m i u j)

  tidy' : (t : ℕ) → Mem t (slots n) → Tidy w' t
  tidy' t m = go (ℕ_discrete t s)
    where
      old : Tidy w s
      old = p.sound.tidy s f.inside

      at-s : Tidy w' s
      at-s = record {
        free = λ e. absurd (omega (arith, number', numbered));
        eight = λ h. omega (arith, count', old.eight numbered);
        rest = λ h. subst (λ (l : List ℕ). T (zeros l)) (sym (λ i. drop (count' i) (row' i))) (old.rest numbered);
      }

      go : Dec (t ≡ s) → Tidy w' t
      go (yes e) = subst (λ (i : ℕ). Tidy w' i) (sym e) at-s
      go (no ne) = tidy-same w w' t (agree t m ne) (p.sound.tidy t m)

  size' : word w' 0 ≡ n
  size' = else 0 (omega arith)

  every : SameOrders (held w') (map (started_in k s) (held w))
  every P = ap (λ (i : ℕ). count_if P (orders (seats i (view w')))) size' ∙ go (slots n) (λ t m. held' t m)
    where
      go : (l : List ℕ) → ((t : ℕ) → Mem t l → held_at w' t ≡ map (started_in k s) (held_at w t)) → count_if P (orders (seats_of (held_at w') l)) ≡ count_if P (map (started_in k s) (orders (seats_of (held_at w) l)))
      go [] e = refl
      go (t ∷ l) e =
          omega (
            arith,
            count_if-orders P (held_at w') t l,
            count_if-map (started_in k s) P (orders (seats_of (held_at w) (t ∷ l))),
            count_if-orders (λ o. P (started_in k s o)) (held_at w) t l,
            count_if-map (started_in k s) P (orders (seats_of (held_at w) l)),
            ap (count_if P) (e t (here refl)),
            count_if-map (started_in k s) P (held_at w t),
            go l (λ u m. e u (there m)),
          )

  sum_same : (l : List ℕ) → ((t : ℕ) → Mem t l → label_at w' t ≡ label_at w t) → sum (label_at w') l ≡ sum (label_at w) l
  sum_same [] e = refl
  sum_same (t ∷ l) e = omega (arith, e t (here refl), sum_same l (λ u m. e u (there m)))

  begun : Begun k s w w'
  begun = record {
    passed = record {
      size = omega (arith, size', p.size);
      big = omega (arith, size', p.big);
      tally = omega (arith, else 1 (omega arith), p.tally, every (λ o. true), count_if-map (started_in k s) (λ o. true) (held w), count_if-all {A = Order} true tt (held w'), count_if-all {A = Order} true tt (held w));
      sound = subst (λ (i : ℕ). Sound i w') (sym size') (record { fits = omega (arith, length-set w (count_word s) (count_word_at w s + started_mark), p.sound.fits); tidy = tidy'; good = good' });
      unique = λ j. omega (arith, every (same_order j), count_if-map (started_in k s) (same_order j) (held w), p.unique j);
    };
    size = size';
    all = every;
    labels = sum_same (slots n) label';
  }

pub mark : (k : Key) (w : List ℕ) → 1 ≤ k.number → T (is_held k w) → T (not (is_started k w)) → Passed w → Begun k (slot_of k w) w (marked k w)
mark k w kp has not_yet p = begun k w (slot_of k w) kp p (found k w kp p has) (is_false (marked_at w (slot_of k w)) (T_not (marked_at w (slot_of k w)) not_yet))

-- ---- the mark, in the words of the request

-- "(17 to 24 also pass the board check)": the count words that pass are 1 to 8 and 17 to 24
pub count-words : (c : ℕ) → ((1 ≤ choice_count c) × (choice_count c ≤ most_choices)) ↔ (((1 ≤ c) × (c ≤ 8)) ⊎ ((17 ≤ c) × (c ≤ 24)))
count-words c = go (dec_lt 16 c)
  where
    above : 16 < c → choice_count c ≡ c - 16
    above h = rw (lt-ltb 16 c h)

    below : c ≤ 16 → choice_count c ≡ c
    below h = rw (le-ltb 16 c h)

    go : Dec (16 < c) → ((1 ≤ choice_count c) × (choice_count c ≤ most_choices)) ↔ (((1 ≤ c) × (c ≤ 8)) ⊎ ((17 ≤ c) × (c ≤ 24)))
    go (yes h) = (λ p. inr (omega arith, omega (arith, above h, p.1)), back)
      where
        back : ((1 ≤ c) × (c ≤ 8)) ⊎ ((17 ≤ c) × (c ≤ 24)) → (1 ≤ choice_count c) × (choice_count c ≤ most_choices)
        back (inl p) = absurd (omega (arith, p.1))
        back (inr p) = (omega (arith, above h, p.0), omega (arith, above h, p.1))
    go (no h) = (λ p. inl (omega (arith, below (omega arith), p.0), omega (arith, below (omega arith), p.1)), back)
      where
        back : ((1 ≤ c) × (c ≤ 8)) ⊎ ((17 ≤ c) × (c ≤ 24)) → (1 ≤ choice_count c) × (choice_count c ≤ most_choices)
        back (inl p) = (omega (arith, below (omega arith), p.0), omega (arith, below (omega arith), p.1))
        back (inr p) = absurd (omega (arith, p.0))

-- "14, W or F on a started order": where a held order's slot is marked, that order is started, and where it is not, it is not
pub started-as : (k : Key) (w : List ℕ) → T (is_held k w) → started (order_at w (slot_of k w)) ≡ is_started k w
started-as k w has = go (is_started k w)
  where
    s : ℕ
    s = slot_of k w

    go : (b : Bool) → not (eqb (cond b s 0) 0) ≡ b
    go true = ap not (ne_eqb s 0 (λ z. omega (arith, (found_at k w has).0)))
    go false = refl
