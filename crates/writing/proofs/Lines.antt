-- K lines and L lines in a loop: those of the slots that are left are still to be stored. An order's line.
use Rattle.std.proofs.Common.{◌≡◌, ℕ, suc, ◌+◌, ◌-◌, ◌≤◌, ◌<◌, min, List, [], ◌∷◌, ◌++◌, length, take, drop, ap, ap₂, ◌∙◌, subst, arith}
use Rattle.std.proofs.lemmas.Grind.{common_steps}
use Rattle.rules.specs.AnswerLines.{answer_bytes, printed, answer_line_bytes, slots_per_line, blocked_lines, slots_from}
use Rattle.rules.specs.Letters.{byte_k, byte_l}
use Rattle.rules.specs.Layout.{code_at, number_at, label_at}
use Rattle.rules.specs.InputLines.{column_bytes, order_line}
use Rattle.rules.specs.Text.{line_feed, column, columns}
use Rattle.rules.proofs.TextLaws.{length-text_line, length-blocked_lines, blocked-none, blocked-more}
use Rattle.rules.proofs.ReplyLengths.{length-slots}
use Rattle.writing.specs.declared.text.Cursor.{Cursor}
use Rattle.writing.specs.Storing.{Room, Stores, slot_line}
use Rattle.writing.proofs.Texts.{Leaves, leaves-none, leaves-room, leaves-more, stores-append, feed-room, line-stored}

pub length_four : (letter a b c d : ℕ) → length (printed letter (a ∷ b ∷ c ∷ d ∷ [])) ≡ answer_line_bytes
length_four letter a b c d = length-text_line answer_bytes letter (a ∷ b ∷ c ∷ d ∷ [])

-- ---- K lines

first : (n : ℕ) (rest line more : List ℕ) → rest ≡ line ++ more → length line ≡ min n (length rest) → take n rest ≡ line
first n rest line more parts long = grind (arith, common_steps)

others : (n : ℕ) (rest line more : List ℕ) → rest ≡ line ++ more → length line ≡ min n (length rest) → drop n rest ≡ more
others n rest line more parts long = grind (arith, common_steps)

module _ (start : Cursor) (slots : List ℕ) (here : Cursor) (rest : List ℕ) (l : Leaves start (blocked_lines slots) here (blocked_lines rest)) where
  pub k-none : length rest ≡ 0 → Stores start (blocked_lines slots) here
  k-none e = leaves-none _ _ _ _ l (blocked-none rest e)

  module _ (size : ℕ) (eight : size ≡ slots_per_line) (line more : List ℕ) (parts : rest ≡ line ++ more) (long : length line ≡ min size (length rest)) (some : 0 < length rest) where
    next_line : blocked_lines rest ≡ printed byte_k line ++ blocked_lines more
    next_line =
        let up_to : length line ≡ min slots_per_line (length rest) = long ∙ ap (λ (n : ℕ). min n (length rest)) eight in
        blocked-more rest some
        ∙ ap₂ (λ (x y : List ℕ). printed byte_k x ++ blocked_lines y) (first slots_per_line rest line more parts up_to) (others slots_per_line rest line more parts up_to)

    pub k-room : Room start (length (blocked_lines slots)) → Room here (length (printed byte_k line))
    k-room = leaves-room _ _ _ _ l (printed byte_k line) (blocked_lines more) next_line

    pub k-more : (next : Cursor) → Stores here (printed byte_k line) next → Leaves start (blocked_lines slots) next (blocked_lines more)
    k-more = leaves-more _ _ _ _ l (printed byte_k line) (blocked_lines more) next_line

-- ---- L lines

module _ (start : Cursor) (whole : List ℕ) (here : Cursor) (board : List ℕ) (n s : ℕ) (l : Leaves start whole here (slots_from board (n + 1 - s) s)) where
  pub l-none : n < s → Stores start whole here
  unfolding slots_from
  l-none h = let none : n + 1 - s ≡ 0 = omega arith in leaves-none _ _ _ _ l (ap (λ (k : ℕ). slots_from board k s) none)

  module _ (h : s ≤ n) where
    next_slot : slots_from board (n + 1 - s) s ≡ slot_line board s ++ slots_from board (n + 1 - (s + 1)) (s + 1)
    unfolding slots_from
    next_slot = let more : n + 1 - s ≡ suc (n + 1 - (s + 1)) = omega arith in ap (λ (k : ℕ). slots_from board k s) more

    pub l-room : Room start (length whole) → Room here answer_line_bytes
    l-room room =
        omega (arith, leaves-room _ _ _ _ l (slot_line board s) (slots_from board (n + 1 - (s + 1)) (s + 1)) next_slot room, length_four byte_l s (code_at board s) (number_at board s) (label_at board s))

    pub l-more : (next : Cursor) → Stores here (slot_line board s) next → Leaves start whole next (slots_from board (n + 1 - (s + 1)) (s + 1))
    l-more = leaves-more _ _ _ _ l (slot_line board s) (slots_from board (n + 1 - (s + 1)) (s + 1)) next_slot

    pub l-last : n ≤ s → (next : Cursor) → Stores here (slot_line board s) next → Stores start whole next
    unfolding slots_from
    l-last e next t =
        let none : n + 1 - (s + 1) ≡ 0 = omega arith in
        leaves-none _ _ _ _ (l-more next t) (ap (λ (k : ℕ). slots_from board k (s + 1)) none)

-- ---- an order's line

module _ (a b c d e : Cursor) (m n code number : ℕ) (list l : List ℕ) (same-code : m ≡ code) (same : n ≡ number) (own : l ≡ list) (p : Stores a (65 ∷ []) b) (q : Stores b (column column_bytes m) c) (r : Stores c (column column_bytes n) d) (s : Stores d (columns column_bytes l) e) where
  abbrev numbers : List ℕ
  numbers = code ∷ number ∷ list

  order_columns : Stores b (columns column_bytes numbers) e
  order_columns =
      subst (λ (x : List ℕ). Stores b (columns column_bytes x) e) (λ i. same-code i ∷ same i ∷ own i)
      (stores-append b c e (column column_bytes m) (columns column_bytes (n ∷ l)) q (stores-append c d e (column column_bytes n) (columns column_bytes l) r s))

  pub order-room : Room a (length (order_line (record { code = code; number = number }) list)) → Room e 1
  order-room = feed-room a b 65 p column_bytes numbers e order_columns

  pub order-stored : (f : Cursor) → Stores e (line_feed ∷ []) f → Stores a (order_line (record { code = code; number = number }) list) f
  order-stored = line-stored a b 65 p column_bytes numbers e order_columns

-- ---- how many bytes they have

pub ruleset sizes = (length-blocked_lines, length-slots)
