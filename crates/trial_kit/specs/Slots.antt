-- Where a board's words stand. Assumes nothing.
use Rattle.std.specs.Prelude.{Bool, cond, List, [], ◌∷◌, ℕ, ◌+◌, ◌-◌, ◌*◌, eqb, ltb, Some, None, slice_index}
use Rattle.words.specs.declared.Key.{Key}
use Rattle.words.specs.declared.Order.{Order}
use Rattle.trial_kit.specs.declared.slots.Slot.{Slot}

abbrev pub board_size : ℕ → ℕ
board_size n = 2 + 12 * n

abbrev pub slot_start : ℕ → ℕ
slot_start s = 12 * s - 10

-- word k of slot s; 0 where the board has none
abbrev pub slot_word : List ℕ → ℕ → ℕ → ℕ
slot_word w s k = slice_index w (slot_start s + k)

-- what stands in it; eight choices
abbrev pub row_at : List ℕ → ℕ → List ℕ
row_at w s =
    slot_word w s 4 ∷ slot_word w s 5 ∷ slot_word w s 6 ∷ slot_word w s 7 ∷ slot_word w s 8 ∷ slot_word w s 9 ∷ slot_word w s 10 ∷ slot_word w s 11 ∷ []

-- the count word of a started order is its count of slots and 16 more
abbrev pub is_started : List ℕ → ℕ → Bool
is_started w s = ltb 16 (slot_word w s 3)

abbrev pub count_at : List ℕ → ℕ → ℕ
count_at w s = cond (is_started w s) (slot_word w s 3 - 16) (slot_word w s 3)

-- the code and the number by which an order is known
abbrev pub key_at : List ℕ → ℕ → Key
key_at w s = record { code = slot_word w s 0; number = slot_word w s 1 }

-- a started order stays in the slot in which it stands
abbrev pub order_at : List ℕ → ℕ → Order
order_at w s = record { key = key_at w s; count = count_at w s; row = row_at w s; fixed = cond (is_started w s) s 0 }

-- a slot with number 0 is free
abbrev pub slot_at : List ℕ → ℕ → Slot
slot_at w s = record { label = slot_word w s 2; order = cond (eqb (slot_word w s 1) 0) None (Some (order_at w s)) }
