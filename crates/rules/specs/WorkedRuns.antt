-- Worked runs beside document 01's example, with the line Z (P2) and with two printers (P3): each line as it is sent, and what is printed for it.
-- Proof: `worked-runs-hold` in proofs/WorkedRuns.antt.
use Rattle.std.specs.Prelude.{Bool, List, [], ◌∷◌, ◌++◌, ℕ, replicate}
use Rattle.rules.specs.AnswerLines.{printed}
use Rattle.rules.specs.Cases.{same}
use Rattle.rules.specs.InputLines.{column_bytes}
use Rattle.rules.specs.Letters.{Letter, letter_s, letter_a, letter_w, letter_f, letter_p, letter_z, letter_x, byte_of, byte_k, byte_l, byte_n}
use Rattle.rules.specs.Runs.{State, new_day, file_text, start}
use Rattle.rules.specs.Text.{line_feed, text_line}

pub record Told : Type 0 where
  pub sent : List ℕ
  pub printed : List ℕ

pub record Run : Type 0 where
  pub start : State
  pub lines : List Told
  -- the N line
  pub last : List ℕ

abbrev pub all_sent : List Told → List ℕ
all_sent [] = []
all_sent (t ∷ ts) = t.sent ++ all_sent ts

abbrev pub all_printed : List Told → List ℕ → List ℕ
all_printed [] last = last
all_printed (t ∷ ts) last = t.printed ++ all_printed ts last

unfoldable pub run_holds : Run → Bool
unfolding file_text
run_holds r = same (file_text r.start (all_sent r.lines)) (all_printed r.lines r.last)

-- ---- how a line is written here

-- the line of this letter and these numbers, and its answer: the code, the number, the refusal or 0, the count
abbrev pub at : Letter → List ℕ → ℕ → ℕ → ℕ → ℕ → Told
at x vs code number refusal count = record {
  sent = text_line column_bytes (byte_of x) vs;
  printed = printed (byte_of x) (code ∷ number ∷ refusal ∷ count ∷ []);
}

-- the same of a line that is not read
abbrev pub spoilt_at : Letter → List ℕ → ℕ → Told
spoilt_at x vs refusal = record { sent = text_line column_bytes (byte_of x) vs; printed = printed (byte_of letter_x) (0 ∷ 0 ∷ refusal ∷ 0 ∷ []) }

-- one more printed line
abbrev pub with : Told → ℕ → List ℕ → Told
with t letter vs = record { sent = t.sent; printed = t.printed ++ printed letter vs }

-- of the order k of printer c
abbrev pub A-of : ℕ → ℕ → List ℕ → ℕ → ℕ → Told
A-of c k l refusal count = at letter_a (c ∷ k ∷ l) c k refusal count

abbrev pub A : ℕ → List ℕ → ℕ → ℕ → Told
A k l refusal count = A-of 1 k l refusal count

abbrev pub W-of : ℕ → ℕ → ℕ → Told
W-of c k refusal = at letter_w (c ∷ k ∷ []) c k refusal 0

abbrev pub F-of : ℕ → ℕ → ℕ → Told
F-of c k refusal = at letter_f (c ∷ k ∷ []) c k refusal 0

abbrev pub S : ℕ → Told
S n = at letter_s (n ∷ []) 0 n 0 0

abbrev pub P : ℕ → ℕ → Told
P n held = at letter_p [] 0 held 0 n

abbrev pub Z : ℕ → ℕ → ℕ → Told
Z orders numbers refusal = at letter_z (orders ∷ numbers ∷ []) 0 orders refusal 0

-- ---- the runs

-- the control total, on the program's board
abbrev pub on_board : Run
on_board = record {
  start = start;
  lines =
      -- 5: no board is open yet
      A 7 (1 ∷ []) 5 0
      -- document 01's example, but for its P
      ∷ S 2
      ∷ A 1 (1 ∷ 2 ∷ []) 0 1
      ∷ A 2 (1 ∷ []) 0 2
      ∷ with (A 3 (1 ∷ 2 ∷ []) 12 2) byte_k (1 ∷ 2 ∷ [])
      -- 1 and 2 are left out, and start nothing again: no letter, too large an order number, Z with one column and with too large a figure
      ∷ record { sent = 81 ∷ line_feed ∷ []; printed = printed (byte_of letter_x) (0 ∷ 0 ∷ 1 ∷ 0 ∷ []) }
      ∷ spoilt_at letter_a (1 ∷ 65536 ∷ []) 2
      ∷ spoilt_at letter_z (4 ∷ []) 1
      ∷ spoilt_at letter_z (4 ∷ 65536 ∷ []) 2
      -- a withdrawal is no A line
      ∷ W-of 1 9 13
      -- 7, 1, 2, 3
      ∷ Z 4 13 0
      -- accepted, it started again: nothing since
      ∷ Z 4 13 15
      ∷ Z 0 0 0
      -- 16 and 7 to 11 count, the number 0 too, and the sum passes 65,536: 6, 0, 65535, 3, 4, 1
      ∷ A-of 0 6 (1 ∷ []) 16 0
      ∷ A 0 (1 ∷ []) 7 0
      ∷ A 65535 [] 8 0
      ∷ A 3 (3 ∷ []) 9 0
      ∷ A 4 (2 ∷ 1 ∷ []) 10 0
      ∷ A 1 (2 ∷ []) 11 0
      ∷ Z 6 13 0
      -- either figure alone turns Z down, and it starts again all the same
      ∷ with (A 5 (1 ∷ []) 12 1) byte_k (1 ∷ [])
      ∷ Z 1 6 15
      ∷ Z 0 0 0
      ∷ A 65535 [] 8 0
      ∷ A 2 (1 ∷ []) 11 0
      ∷ Z 3 1 15
      ∷ A 65535 [] 8 0
      ∷ A 2 (1 ∷ []) 11 0
      ∷ Z 2 1 0
      -- the orders are where they were
      ∷ with (with (P 2 2) byte_l (1 ∷ 1 ∷ 2 ∷ 2 ∷ [])) byte_l (2 ∷ 1 ∷ 1 ∷ 2 ∷ [])
      ∷ [];
  last = printed byte_n (30 ∷ 9 ∷ 21 ∷ []);
}

-- so many board words and work words
abbrev pub small : List ℕ → ℕ → State
small board work = record { board = board; work = replicate work 7; tally = new_day }

-- 4 counts: a slot, and a board word less than it needs
abbrev pub short_board : Run
short_board = record { start = small (1 ∷ replicate 12 0) 18; lines = A 9 (1 ∷ []) 4 0 ∷ Z 1 9 0 ∷ []; last = printed byte_n (2 ∷ 1 ∷ 1 ∷ []) }

-- 6 counts: a slot, and a work word less than it needs
abbrev pub short_work : Run
short_work = record { start = small (1 ∷ replicate 13 0) 17; lines = A 9 (1 ∷ []) 6 0 ∷ Z 1 9 0 ∷ []; last = printed byte_n (2 ∷ 1 ∷ 1 ∷ []) }

-- order 100 of two printers, on one board
abbrev pub two_printers : Run
two_printers = record {
  start = start;
  lines =
      S 2
      ∷ A-of 1 100 (1 ∷ 2 ∷ []) 0 1
      ∷ A-of 2 100 (1 ∷ []) 0 2
      -- the same code and number twice
      ∷ A-of 2 100 (2 ∷ []) 11 0
      ∷ A-of 1 100 (2 ∷ []) 11 0
      ∷ with (A-of 3 100 (1 ∷ 2 ∷ []) 12 2) byte_k (1 ∷ 2 ∷ [])
      ∷ with (with (P 2 2) byte_l (1 ∷ 2 ∷ 100 ∷ 2 ∷ [])) byte_l (2 ∷ 1 ∷ 100 ∷ 2 ∷ [])
      -- started and withdrawn one by one
      ∷ F-of 3 100 13
      ∷ F-of 1 100 0
      ∷ W-of 1 100 14
      ∷ W-of 2 100 0
      ∷ W-of 2 100 13
      ∷ with (with (P 2 1) byte_l (1 ∷ 0 ∷ 0 ∷ 0 ∷ [])) byte_l (2 ∷ 1 ∷ 100 ∷ 1 ∷ [])
      -- no code, and the largest
      ∷ A-of 0 100 (1 ∷ []) 16 0
      ∷ W-of 1000 100 16
      ∷ F-of 65535 0 16
      ∷ A-of 999 100 (1 ∷ []) 0 1
      ∷ with (with (P 2 2) byte_l (1 ∷ 999 ∷ 100 ∷ 2 ∷ [])) byte_l (2 ∷ 1 ∷ 100 ∷ 1 ∷ [])
      ∷ W-of 999 100 0
      -- a line with too few columns, and one with too many, of 73 bytes
      ∷ spoilt_at letter_a (1 ∷ []) 1
      ∷ spoilt_at letter_w (100 ∷ []) 1
      ∷ spoilt_at letter_f (1 ∷ 100 ∷ 1 ∷ []) 1
      ∷ spoilt_at letter_a (1 ∷ 101 ∷ replicate 10 1) 1
      -- nine slots are a line, of 67 bytes
      ∷ A-of 1 101 (replicate 9 1) 8 0
      -- the sum is of the numbers, whatever the codes: 100 seven times, and 101
      ∷ Z 8 801 0
      ∷ [];
  last = printed byte_n (25 ∷ 11 ∷ 14 ∷ []);
}

abbrev pub worked_runs : List Run
worked_runs = on_board ∷ short_board ∷ short_work ∷ two_printers ∷ []
