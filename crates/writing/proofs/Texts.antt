-- Text stored from a cursor on, one piece after the other.
use Rattle.std.proofs.Common.{◌≡◌, ℕ, zero, suc, ◌+◌, ◌-◌, ◌≤◌, ◌<◌, List, [], ◌∷◌, ◌++◌, length, take, drop, replicate, get_or, refl, sym, ap, ◌∙◌, arith, append_assoc, append-nil, length-append, length-take-le, length-drop}
use borrow.Rule.Slice.PartMut.{put_mid, mid_of}
use Rattle.std.proofs.lemmas.Grind.{common_steps}
use Rattle.std.proofs.lemmas.List.{drop_more, length-replicate}
use Rattle.std.proofs.lemmas.List.Edits.{sets, sets-eq}
use Rattle.std.proofs.Math.Seq.{length-sets}
use Rattle.rules.specs.Text.{space, line_feed, column, columns, text_line}
use Rattle.rules.proofs.TextLaws.{length-column, column-spaced}
use Rattle.rules.proofs.WordLaws.{sets-append}
use Rattle.writing.specs.declared.text.Cursor.{Cursor}
use Rattle.writing.specs.Storing.{Room, Stores}

-- stored at the start
pub sets-start : (l a : List ℕ) → length a ≤ length l → sets l 0 a ≡ a ++ drop (length a) l
sets-start l a h = grind (arith, sets-eq a l 0 (omega arith))

-- stored after a, from an end that is known
pub sets-next : (l : List ℕ) (i n : ℕ) (a b : List ℕ) → n ≡ i + length a → sets (sets l i a) n b ≡ sets l i (a ++ b)
sets-next l i n a b e = grind (arith, sets-append)

-- a text in the place of as many bytes
pub in_place : (out : List ℕ) (at k : ℕ) (t : List ℕ) → length t ≡ k → at + k ≤ length out → take at out ++ (t ++ drop k (drop at out)) ≡ sets out at t
in_place out at k t e h = grind (arith, common_steps, sets-eq t out at (omega arith))

-- a number of at most five digits in n places: spaces, and its last five places
pub spaced : (n v : ℕ) → v < 100000 → replicate (n - 5) space ++ column (n - (n - 5)) v ≡ column n v
spaced n v h = go (n - 5) refl
  where
    go : (j : ℕ) → n - 5 ≡ j → replicate j space ++ column (n - j) v ≡ column n v
    go zero e = let all : n - 0 ≡ n = omega arith in ap (λ (k : ℕ). column k v) all
    go (suc j) e =
        let five : n - suc j ≡ 5 = omega arith in
        let whole : suc j + 5 ≡ n = omega arith in
        ap (λ (k : ℕ). replicate (suc j) space ++ column k v) five ∙ sym (column-spaced (suc j) 4 v h) ∙ ap (λ (k : ℕ). column k v) whole

-- the places before the last five became spaces, and the last five v's own
module _ (places front back : List ℕ) (n v : ℕ) (five : n ≡ length places - 5) (h : v < 100000) (f : front ≡ replicate (length (take n places)) space) where
  abbrev half : List ℕ
  half = front ++ drop n places

  pub fronted : back ≡ column (length (mid_of n (length half - n) half)) v → put_mid n (length half - n) half back ≡ column (length places) v
  fronted b =
      let spaces : front ≡ replicate n space = f ∙ ap (λ (k : ℕ). replicate k space) (length-take-le n places (omega arith)) in
      let long : length front ≡ n = ap length spaces ∙ length-replicate n space in
      let all : length half ≡ length places = length-append front (drop n places) ∙ omega (arith, long, length-drop n places) in
      grind (arith, common_steps, spaced, spaces, long, all, b)

pub ruleset placed = (in_place, length-column)

-- the buffer stays as long as it was
pub same-length : (a b : Cursor) (t : List ℕ) → Stores a t b → length b.out.now ≡ length a.out.now
same-length a b t s = ap length s.text ∙ length-sets a.out.now a.at t

-- one text after the other
pub stores-append : (a b c : Cursor) (t u : List ℕ) → Stores a t b → Stores b u c → Stores a (t ++ u) c
stores-append a b c t u p q = record {
  same = q.same ∙ p.same;
  end = omega (arith, p.end, q.end, length-append t u);
  text = q.text ∙ ap (λ (l : List ℕ). sets l b.at u) p.text ∙ sets-next a.out.now a.at b.at t u p.end;
}

-- ---- in a loop: `left` is still to be stored of the whole

pub record Leaves (start : Cursor) (whole : List ℕ) (here : Cursor) (left : List ℕ) : Type 0 where
  pub done : List ℕ
  pub stored : Stores start done here
  pub parts : done ++ left ≡ whole

pub leaves-all : (start : Cursor) (whole : List ℕ) → Leaves start whole start whole
leaves-all start whole = record { done = []; stored = record { same = refl; end = omega arith; text = refl }; parts = refl }

module _ (start : Cursor) (whole : List ℕ) (here : Cursor) (left : List ℕ) (l : Leaves start whole here left) where
  pub leaves-none : left ≡ [] → Stores start whole here
  leaves-none e = grind (arith, append-nil, l.stored, l.parts)

  module _ (t more : List ℕ) (e : left ≡ t ++ more) where
    pub leaves-room : Room start (length whole) → Room here (length t)
    leaves-room h = omega (arith, same-length _ _ _ l.stored, l.stored.end, ap length l.parts, ap length e, length-append l.done left, length-append t more)

    pub leaves-more : (next : Cursor) → Stores here t next → Leaves start whole next more
    leaves-more next s = record {
      done = l.done ++ t;
      stored = stores-append start here next l.done t l.stored s;
      parts = grind (arith, append_assoc, l.parts);
    }

-- ---- the columns of a list: those from value i on are left

module _ (start : Cursor) (width : ℕ) (vs : List ℕ) (here : Cursor) (i : ℕ) (l : Leaves start (columns width vs) here (columns width (drop i vs))) (h : i < length vs) where
  next_column : columns width (drop i vs) ≡ column width (get_or vs i 0) ++ columns width (drop (i + 1) vs)
  next_column = ap (columns width) (drop_more vs i 0 h)

  pub columns-room : Room start (length (columns width vs)) → Room here width
  columns-room room = omega (arith, leaves-room _ _ _ _ l (column width (get_or vs i 0)) (columns width (drop (i + 1) vs)) next_column room, length-column width (get_or vs i 0))

  pub columns-more : (next : Cursor) → Stores here (column width (get_or vs i 0)) next → Leaves start (columns width vs) next (columns width (drop (i + 1) vs))
  columns-more next s = leaves-more _ _ _ _ l (column width (get_or vs i 0)) (columns width (drop (i + 1) vs)) next_column next s

pub ruleset line = (sets-next, length-column, length-append, append_assoc, append-nil, length-sets)

-- ---- a line: its letter, its columns, its line feed

module _ (start first : Cursor) (letter : ℕ) (l : Stores start (letter ∷ []) first) (width : ℕ) (vs : List ℕ) (last : Cursor) (s : Stores first (columns width vs) last) where
  pub feed-room : Room start (length (text_line width letter vs)) → Room last 1
  unfolding text_line
  feed-room room = omega (arith, same-length _ _ _ l, l.end, same-length _ _ _ s, s.end, length-append (letter ∷ columns width vs) (line_feed ∷ []))

  pub line-stored : (end : Cursor) → Stores last (line_feed ∷ []) end → Stores start (text_line width letter vs) end
  unfolding text_line
  line-stored end f = stores-append start last end (letter ∷ columns width vs) (line_feed ∷ []) (stores-append start first last (letter ∷ []) (columns width vs) l s) f
