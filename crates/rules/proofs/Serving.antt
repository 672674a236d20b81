-- Laws of reading piece by piece: a block of lines is a part of the way, and what waits stands for all that was read before it.
use Prim.Native.Nat.{ℕ, ◌-◌, ◌≤◌}
use mathlib.Core.Path.{◌≡◌, refl, sym, ap, ◌∙◌}
use mathlib.Core.List.{List, [], ◌∷◌, ◌++◌, append_assoc, append-nil}
use mathlib.Core.Bool.{Bool, true, false}
use native.Mathlib.Omega.{arith}
use lib.ListN.{length, drop, length-drop}
use lib.Dec.{leb}
use borrow.Author.Tests.{leb-true, leb-false}
use Rattle.rules.specs.Text.{line_feed}
use Rattle.rules.specs.Runs.{State, Out, Item, lines_from, rest_from, framed, items, handle, run}
use Rattle.rules.specs.Chunks.{reply_room, waiting, trimmed, block}
use Rattle.rules.specs.Serving.{answered_of, waits_of, Served}
use Rattle.rules.proofs.Cutting.{Clean, Cut, tail, cons, cut, either, clean_drop, lines-all, lines-line, rest-line, lines_none, rest-none, items-line, items-nil, lines-trim, rest-trim, items-trim, trim-short, trim-twice}
use Rattle.rules.proofs.Streams.{block-line, block-full, block-rest, block-lines, run_join, drop-line}
use Rattle.rules.proofs.Days.{kept-by-lines}

-- ---- a line at the front

module _ (l ys : List ℕ) (c : Clean l) where
  answered-line : (ended : Bool) → answered_of ended (l ++ (line_feed ∷ ys)) ≡ framed l ∷ answered_of ended ys
  answered-line true = items-line l ys c
  answered-line false = rw (lines-line l ys c)

  waits-line : (ended : Bool) → waits_of ended (l ++ (line_feed ∷ ys)) ≡ waits_of ended ys
  waits-line true = refl
  waits-line false = rw (rest-line l ys c)

-- ---- a block: its lines are the first that have an answer, and what waits stays what waits

pub block-answered : (room : ℕ) (ended : Bool) (s : State) (x : List ℕ)
    → answered_of ended x ≡ (block room ended s x).lines ++ answered_of ended (drop (block room ended s x).used x)
block-answered room true s x =
    let p = block room true s x in
    ap items (sym (append-nil x)) ∙ block-lines room true s x [] (λ e. refl) ∙ ap (λ (z : List ℕ). p.lines ++ items z) (append-nil (drop p.used x))
block-answered room false s x = from_cut room s x (cut x)
  where
    from_cut : (room : ℕ) (s : State) (x : List ℕ) → Cut x → answered_of false x ≡ (block room false s x).lines ++ answered_of false (drop (block room false s x).used x)
    from_cut room s x (tail r c) =
        rw (block-rest room false s r c, lines_none r c, lines_none (trimmed r) (clean_drop (length r - waiting) r c))
    from_cut room s x (cons l ys c d) =
        let o = handle s (framed l) in
        let p = block (room - length o.text) false o.state ys in
        either (leb reply_room room)
        (λ e. rw (block-line room false s l ys c (leb-true reply_room room e), answered-line l ys c false, drop-line l ys p.used)
        (ap (λ (is : List Item). framed l ∷ is) (from_cut (room - length o.text) o.state ys d)))
        (λ e. rw (block-full room false s l ys c (leb-false reply_room room e)))

pub block-waits : (room : ℕ) (ended : Bool) (s : State) (x : List ℕ) → waits_of ended (drop (block room ended s x).used x) ≡ waits_of ended x
block-waits room true s x = refl
block-waits room false s x = from_cut room s x (cut x)
  where
    from_cut : (room : ℕ) (s : State) (x : List ℕ) → Cut x → waits_of false (drop (block room false s x).used x) ≡ waits_of false x
    from_cut room s x (tail r c) =
        rw (block-rest room false s r c, rest-none r c, rest-none (trimmed r) (clean_drop (length r - waiting) r c)) (trim-twice r)
    from_cut room s x (cons l ys c d) =
        let o = handle s (framed l) in
        let p = block (room - length o.text) false o.state ys in
        either (leb reply_room room)
        (λ e. rw (block-line room false s l ys c (leb-true reply_room room e), waits-line l ys c false, drop-line l ys p.used) (from_cut (room - length o.text) o.state ys d))
        (λ e. rw (block-full room false s l ys c (leb-false reply_room room e)))

-- where no whole line is left and little else, what is left is what waits
module _ (ended : Bool) (x : List ℕ) (all : ended ≡ true → x ≡ []) (none : lines_from [] x ≡ []) (few : length x ≤ waiting) where
  pub answered-none : answered_of ended x ≡ []
  answered-none = go ended all
    where
      go : (e : Bool) → (e ≡ true → x ≡ []) → answered_of e x ≡ []
      go true f = rw (f refl) items-nil
      go false f = rw none

  pub waits-all : x ≡ waits_of ended x
  waits-all = go ended all
    where
      rest : rest_from [] x ≡ x
      rest = rw none at (lines-all x)

      go : (e : Bool) → (e ≡ true → x ≡ []) → x ≡ waits_of e x
      go true f = f refl
      go false f = rw rest (sym (trim-short x few))

-- it is never more than shows that a line is too long
pub waits-few : (ended : Bool) (x : List ℕ) → length (waits_of ended x) ≤ waiting
waits-few true x = omega arith
waits-few false x = omega (arith, length-drop (length (rest_from [] x) - waiting) (rest_from [] x))

-- ---- one read after another

module _ (x y : List ℕ) where
  pub answered-join : (ended : Bool) → answered_of ended (x ++ y) ≡ answered_of false x ++ answered_of ended (waits_of false x ++ y)
  answered-join ended = from_cut x (cut x) ended
    where
      from_cut : (x : List ℕ) → Cut x → (ended : Bool) → answered_of ended (x ++ y) ≡ answered_of false x ++ answered_of ended (waits_of false x ++ y)
      from_cut x (tail r c) true = rw (lines_none r c, rest-none r c) (items-trim r y c)
      from_cut x (tail r c) false = rw (lines_none r c, rest-none r c) (lines-trim r y c)
      from_cut x (cons l ys c d) ended =
          rw (append_assoc l (line_feed ∷ ys) y, answered-line l (ys ++ y) c ended, answered-line l ys c false, waits-line l ys c false)
          (ap (λ (is : List Item). framed l ∷ is) (from_cut ys d ended))

  pub waits-join : (ended : Bool) → waits_of ended (x ++ y) ≡ waits_of ended (waits_of false x ++ y)
  waits-join ended = from_cut x (cut x) ended
    where
      from_cut : (x : List ℕ) → Cut x → (ended : Bool) → waits_of ended (x ++ y) ≡ waits_of ended (waits_of false x ++ y)
      from_cut x d true = refl
      from_cut x (tail r c) false = rw (rest-none r c) (rest-trim r y c)
      from_cut x (cons l ys c d) false =
          rw (append_assoc l (line_feed ∷ ys) y, waits-line l (ys ++ y) c false, waits-line l ys c false) (from_cut ys d false)

-- demand 3 comes with the state
pub serves : (s : State) (x : List ℕ) (ended : Bool) (s' : State) (wait : List ℕ) → s' ≡ (run s (answered_of ended x)).state → wait ≡ waits_of ended x → Served s x ended s' wait
serves s x ended s' wait e w = record {
  state = e;
  waits = w;
  kept = rw e (kept-by-lines s (answered_of ended x));
}

-- before the first read
pub serves-none : (s : State) → Served s [] false s []
unfolding run lines_from rest_from
serves-none s = serves s [] false s [] refl refl

-- The law of cutting, for whatever comes next: what was read before the bytes y, and then these after what waits, is all of it read at once.
pub serves_on : {s s' s'' : State} {x wait wait' : List ℕ} {ended : Bool} (y : List ℕ)
    → Served s x false s' wait → Served s' (wait ++ y) ended s'' wait' → Served s (x ++ y) ended s'' wait'
serves_on {s} {s'} {s''} {x} {wait} {wait'} {ended} y f g =
    let first = answered_of false x in
    let second = answered_of ended (waits_of false x ++ y) in
    serves s (x ++ y) ended s'' wait'
    (g.state ∙ ap (λ (t : State). (run t (answered_of ended (wait ++ y))).state) f.state ∙ ap (λ (w : List ℕ). (run (run s first).state (answered_of ended (w ++ y))).state) f.waits
    ∙ ap (λ (o : Out). o.state) (sym (run_join s first second)) ∙ ap (λ (is : List Item). (run s is).state) (sym (answered-join x y ended)))
    (g.waits ∙ ap (λ (w : List ℕ). waits_of ended (w ++ y)) f.waits ∙ sym (waits-join x y ended))
