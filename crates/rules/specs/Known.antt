-- What is known of a lent board and lent work words, as plain data; a call that relies on it; and what is known after the call. Of whatever words:
-- where what is known is true, the call is `step`, and what is known after it is true again (`performs`, proofs/Known.antt; `after`, proofs/Knowing.antt).
use Rattle.std.specs.Prelude.{cond, List, ◌≡◌, ℕ, ◌≤◌, ◌<◌, min, eqb, ltb, leb, length, replicate}
use Rattle.std.proofs.lemmas.List.Edits.{sets}
use Rattle.rules.specs.Bringing.{answer, bring_in}
use Rattle.rules.specs.Calls.{Call, open-board, accept, withdraw, start-order, print, Answer, order, first, open_checks, board_checks, late, opened, withdrawn, marked}
use Rattle.rules.specs.Layout.{word, size, work_words}

-- `gate`: the first of the checks 4 to 6 that turns a call down, or 0. `few`: so many of the first work words may be something else than 0.
pub record Known : Type 0 where
  pub gate : ℕ
  pub few : ℕ

-- the words from index a up to index b are 0
abbrev pub Zeros : ℕ → ℕ → List ℕ → Type 0
Zeros a b work = (i : ℕ) → a ≤ i → i < b → word work i ≡ 0

-- k is true of the board w and the work words
pub record Knows (k : Known) (w work : List ℕ) : Type 0 where
  pub gate : first (board_checks w work) ≡ k.gate
  pub few : k.few ≤ work_words (size w)
  pub zeros : Zeros k.few (work_words (size w)) work

-- ---- a call by what is known

-- the first of its early checks that turns a call down, or 0: what is known of 4 to 6. An opening has its own, and looks at nothing that is known.
abbrev pub gate_of : Known → Call → List ℕ → ℕ
gate_of k (open-board n) w = first (open_checks n w)
gate_of k (accept j c row) w = k.gate
gate_of k (withdraw j) w = k.gate
gate_of k (start-order j) w = k.gate
gate_of k print w = k.gate

-- so many work words are cleared: none by an opening
abbrev pub few_of : Known → Call → ℕ
few_of k (open-board n) = 0
few_of k (accept j c row) = k.few
few_of k (withdraw j) = k.few
few_of k (start-order j) = k.few
few_of k print = k.few

abbrev pub tidied : ℕ → List ℕ → List ℕ
tidied few work = sets work 0 (replicate few 0)

-- what a call does that no check turned down, with work words that are tidied
unfoldable pub act_tidied : Call → List ℕ → List ℕ → Answer
unfolding bring_in
act_tidied (open-board n) w t = answer 0 0 (opened n w) t
act_tidied (accept j c row) w t = bring_in w t (order j c row)
act_tidied (withdraw j) w t = answer 0 0 (withdrawn j w) t
act_tidied (start-order j) w t = answer 0 0 (marked j w) t
act_tidied print w t = answer 0 (size w) w t

-- its late checks first
unfoldable pub past_gate : Call → List ℕ → List ℕ → Answer
unfolding act_tidied
past_gate q w t =
    let done : Answer = act_tidied q w t in
    cond (eqb (first (late q w)) 0) done (answer (first (late q w)) 0 w t)

unfoldable pub perform_known : Known → Call → List ℕ → List ℕ → Answer
unfolding past_gate
perform_known k q w work =
    let past : Answer = past_gate q w (tidied (few_of k q) work) in
    cond (eqb (gate_of k q w) 0) past (answer (gate_of k q w) 0 w work)

-- ---- what is known after a call

-- a sound board with enough work words
abbrev pub swept : ℕ → Known
swept few = record { gate = 0; few = few }

-- a board of m slots was opened where one of n was: it passes the check, and the work words are as they were
abbrev pub known_opened : Known → ℕ → ℕ → ℕ → Known
known_opened k m n len = record {
  gate = cond (ltb len (work_words m)) 6 0;
  few = cond (leb m n) (min k.few (work_words m)) (work_words m);
}

-- so many work words an answer shows: "at 12 they begin with the blocked slots"
abbrev pub shown_by : Answer → ℕ
shown_by r = cond (eqb r.refusal 12) r.count 0

-- past the gate, with the answer r, on a board that had n slots, with `len` work words
abbrev pub known_past : Known → Call → ℕ → Answer → ℕ → Known
known_past k (open-board m) n r len = known_opened k m n len
known_past k (accept j c row) n r len = swept (shown_by r)
known_past k (withdraw j) n r len = swept (shown_by r)
known_past k (start-order j) n r len = swept (shown_by r)
known_past k print n r len = swept (shown_by r)

-- a call that is turned down at the gate leaves all as it was
unfoldable pub known_after : Known → Call → List ℕ → List ℕ → Known
unfolding past_gate
known_after k q w work =
    let past : Known = known_past k q (size w) (past_gate q w (tidied (few_of k q) work)) (length work) in
    cond (eqb (gate_of k q w) 0) past k
