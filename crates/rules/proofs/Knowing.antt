-- What is known of board and work words stays true: after a call, and after a line.
use mathlib.Core.Bool.{Bool, true, false, cond}
use mathlib.Core.List.{List}
use mathlib.Core.Path.{◌≡◌, refl, sym, ap, ◌∙◌, subst}
use Prim.Native.Nat.{ℕ, zero, suc, ◌≤◌, min}
use native.Mathlib.Decide.{dec_le}
use native.Mathlib.Omega.{arith}
use lib.Dec.{eqb, ltb, leb}
use lib.ListN.{length, set}
use borrow.Author.Tests.{le-leb, lt-leb, le-ltb, ne_eqb}
use Rattle.std.specs.Prelude.{Option, Some, None}
use Rattle.matching.specs.Blocking.{blocked}
use Rattle.matching.specs.Orders.{Key, Order, seats}
use Rattle.matching.specs.Placing.{Result, accepted, refused, unfinished, place}
use Rattle.rules.specs.Calls.{Call, Answer, order, open-board, accept, withdraw, start-order, print, first, early, late, checks, board_checks, open_checks, cleared, shown, refused_late, undecided, finished, act, step}
use Rattle.rules.specs.Check.{passes}
use Rattle.rules.specs.Known.{Known, Knows, Zeros, perform_known, swept, shown_by, known_opened, known_after}
use Rattle.rules.specs.KnownLines.{asked, handle_known, known_by, known_line}
use Rattle.rules.specs.Layout.{word, size, held_word, held_count, most_slots, board_words, work_words, view, write_at}
use Rattle.rules.specs.Ledger.{ledger_of}
use Rattle.rules.specs.InputLines.{letter_of, values, line_refusal}
use Rattle.rules.specs.Runs as R
use Rattle.rules.proofs.Accept.{take_in}
use Rattle.rules.proofs.Bools.{is_true}
use Rattle.rules.proofs.CheckLaws.{Passed, passed-of, of-passed}
use Rattle.rules.proofs.Checks.{ready, fresh}
use Rattle.rules.proofs.Known.{gate-facts, gate-is, past, performs}
use Rattle.rules.proofs.ReplyLengths.{inv-start, few-named}
use Rattle.rules.proofs.Steps.{stops-early, stops-late, goes, acts, acts-open}
use Rattle.rules.proofs.WorkWords.{cleared-zero, length-cleared, length_front, after_list}

-- ---- what is true of a sound board

-- of a sound board only 6 is left to ask
pub gate-sound : (w work : List ℕ) → Passed w → first (board_checks w work) ≡ cond (ltb (length work) (work_words (word w 0))) 6 0
gate-sound w work p =
    rw (
      le-ltb (length w) 2 (omega (arith, p.sound.fits)),
      le-leb 1 (word w 0) p.size,
      le-leb (word w 0) most_slots p.big,
      le-ltb (length w) (board_words (word w 0)) p.sound.fits,
      is_true (passes w) (of-passed w p),
    )

-- a sound board and work words that are 0 from index `few` on
knows-swept : (few : ℕ) (w work : List ℕ) → Passed w → work_words (size w) ≤ length work → few ≤ work_words (size w) → Zeros few (work_words (size w)) work → Knows (swept few) w work
knows-swept few w work p room h z = record {
  gate = gate-sound w work p ∙ rw (le-ltb (length work) (work_words (word w 0)) room);
  few = h;
  zeros = z;
}

module _ (k : Known) (w work : List ℕ) (know : Knows k w work) where
  abbrev n : ℕ
  n = size w

  -- what the call q leaves
  abbrev After : Call → Type 0
  After q = Knows (known_after k q w work) (step q w work).board (step q w work).work

  module _ (pass : first (board_checks w work) ≡ 0) where
    sound : Passed w
    sound = passed-of w (gate-facts w work pass).0

    room : work_words n ≤ length work
    room = (gate-facts w work pass).1

    -- the work words are cleared for a board of the same size
    clean : (w' : List ℕ) → Passed w' → size w' ≡ n → Knows (swept 0) w' (cleared n work)
    clean w' p e = knows-swept 0 w' (cleared n work) p (rw (e, length-cleared n work room) room) (omega arith) (rw e (cleared-zero n work room))

    -- what the answer r shows stands before zeros, and the board is sound
    abbrev Swept : Answer → Type 0
    Swept r = Knows (swept (shown_by r)) r.board r.work

    swept-late : (code : ℕ) → Swept (refused_late code w work)
    swept-late code = go (eqb code 12)
      where
        go : (b : Bool) → Knows (swept (cond b 0 0)) w (cleared n work)
        go true = clean w sound refl
        go false = clean w sound refl

    swept-blocked : (x : Order) → Swept (finished w work x refused)
    unfolding finished
    swept-blocked x =
        let R = blocked n (seats n (view w)) x in
        knows-swept (length R) w (shown n work R) sound
        (rw (length_front R (cleared n work) (omega (arith, few-named n (seats n (view w)) x, length-cleared n work room, room)), length-cleared n work room) room)
        (omega (arith, few-named n (seats n (view w)) x))
        (λ i low high. after_list R (cleared n work) i low ∙ cleared-zero n work room i (omega arith) high)

    swept-finished : (x : Order) (q : Result (List ℕ)) → ((w' : List ℕ) (m : ℕ) → q ≡ accepted w' m → Passed (set w' held_word (suc (held_count w))) × (size (set w' held_word (suc (held_count w))) ≡ n))
        → Swept (finished w work x q)
    unfolding finished
    swept-finished x (accepted w' m) f = clean (set w' held_word (suc (held_count w))) (f w' m refl).0 (f w' m refl).1
    swept-finished x refused f = swept-blocked x
    swept-finished x unfinished f = swept-late undecided

    -- each call that reads the board, once none of its checks turns it down
    swept-accept : (j : Key) (c : ℕ) (row : List ℕ) → first (checks (accept j c row) w work) ≡ 0 → Swept (act (accept j c row) w work)
    unfolding act
    swept-accept j c row e =
        swept-finished (order j c row) (place view (write_at n) n w (order j c row))
        (λ w' m h. let t = take_in w (order j c row) sound (ready j c row w work e) (fresh j c row w work e) w' m h in (t.passed, t.size))

    swept-withdraw : (j : Key) → first (checks (withdraw j) w work) ≡ 0 → Swept (act (withdraw j) w work)
    unfolding act
    swept-withdraw j e = let i = (acts (withdraw j) w work (ledger_of w) (inv-start w (gate-facts w work pass).0) e).inv in clean _ i.passed i.size

    swept-start : (j : Key) → first (checks (start-order j) w work) ≡ 0 → Swept (act (start-order j) w work)
    unfolding act
    swept-start j e = let i = (acts (start-order j) w work (ledger_of w) (inv-start w (gate-facts w work pass).0) e).inv in clean _ i.passed i.size

    swept-print : Swept (act print w work)
    unfolding act
    swept-print = clean w sound refl

    swept_step : (q : Call) → first (early q w work) ≡ 0 → (first (checks q w work) ≡ 0 → Swept (act q w work)) → Swept (step q w work)
    swept_step q pass₁ f = go (first (late q w)) refl
      where
        go : (m : ℕ) → first (late q w) ≡ m → Swept (step q w work)
        go zero e = let g = goes q w work pass₁ e in subst (λ (r : Answer). Swept r) (sym g.1) (f g.0)
        go (suc code) e = subst (λ (r : Answer). Swept r) (sym (stops-late q w work pass₁ code e).1) (swept-late (suc code))

  -- ---- at the gate, and past it

  turned_down : (q : Call) (code : ℕ) → first (early q w work) ≡ suc code → After q
  unfolding known_after
  turned_down q code e = rw (gate-is k w work know q ∙ e, ne_eqb (suc code) 0 (λ z. omega arith), (stops-early q w work code e).1) know

  -- ---- opening

  opens : (m : ℕ) (w' : List ℕ) → Passed w' → size w' ≡ m → Knows (known_opened k m n (length work)) w' work
  opens m w' p e = record {
    gate = gate-sound w' work p ∙ ap (λ (j : ℕ). cond (ltb (length work) (work_words j)) 6 0) e;
    few = rw e (few-of (dec_le m n));
    zeros = rw e (zeros_of (dec_le m n));
  }
    where
      few-of : Dec (m ≤ n) → cond (leb m n) (min k.few (work_words m)) (work_words m) ≤ work_words m
      few-of (yes h) = rw (le-leb m n h) (omega arith)
      few-of (no h) = rw (lt-leb m n (omega arith)) (omega arith)

      zeros_of : Dec (m ≤ n) → Zeros (cond (leb m n) (min k.few (work_words m)) (work_words m)) (work_words m) work
      zeros_of (yes h) = rw (le-leb m n h) (λ i low high. know.zeros i (omega arith) (omega arith))
      zeros_of (no h) = rw (lt-leb m n (omega arith)) (λ i low high. absurd (omega arith))

  open-past : (m : ℕ) → first (open_checks m w) ≡ 0 → After (open-board m)
  unfolding known_after act
  open-past m e = rw (e, (goes (open-board m) w work e refl).1) (let i = (acts-open m w work (ledger_of w) e).inv in opens m _ i.passed i.size)

  accept-past : (j : Key) (c : ℕ) (row : List ℕ) → first (board_checks w work) ≡ 0 → After (accept j c row)
  unfolding known_after
  accept-past j c row pass = rw (sym know.gate ∙ pass, past k w work know (accept j c row) pass) (swept_step pass (accept j c row) pass (swept-accept pass j c row))

  withdraw-past : (j : Key) → first (board_checks w work) ≡ 0 → After (withdraw j)
  unfolding known_after
  withdraw-past j pass = rw (sym know.gate ∙ pass, past k w work know (withdraw j) pass) (swept_step pass (withdraw j) pass (swept-withdraw pass j))

  start-past : (j : Key) → first (board_checks w work) ≡ 0 → After (start-order j)
  unfolding known_after
  start-past j pass = rw (sym know.gate ∙ pass, past k w work know (start-order j) pass) (swept_step pass (start-order j) pass (swept-start pass j))

  print-past : first (board_checks w work) ≡ 0 → After print
  unfolding known_after act
  print-past pass = rw (sym know.gate ∙ pass, (goes print w work pass refl).1) (swept-print pass)

  past-gate : (q : Call) → first (early q w work) ≡ 0 → After q
  past-gate (open-board m) e = open-past m e
  past-gate (accept j c row) e = accept-past j c row e
  past-gate (withdraw j) e = withdraw-past j e
  past-gate (start-order j) e = start-past j e
  past-gate print e = print-past e

  -- (b) what is known after a call is true
  pub after : (q : Call) → After q
  after q = go (first (early q w work)) refl
    where
      go : (m : ℕ) → first (early q w work) ≡ m → After q
      go zero e = past-gate q e
      go (suc code) e = turned_down q code e

-- ---- a line

pub record Lines (k : Known) (l : List ℕ) (s : R.State) : Type 0 where
  pub same : handle_known k l s ≡ R.handle_line l s
  pub known : Knows (known_line k l s) (R.handle_line l s).state.board (R.handle_line l s).state.work

pub lines : (k : Known) (l : List ℕ) (s : R.State) → Knows k s.board s.work → Lines k l s
unfolding handle_known known_line R.handle_line
lines k l s know = record {
  same = ap (λ (r : Answer). let read : R.Handled = R.answered (letter_of l) (values l) s r in cond (eqb (line_refusal l) 0) read (R.unread (line_refusal l) s)) (performed (asked l));
  known = go (eqb (line_refusal l) 0);
}
  where
    by_step : Option Call → Answer
    by_step o = R.answer_by (λ q. step q s.board s.work) o (values l) s

    performed : (o : Option Call) → R.answer_by (λ q. perform_known k q s.board s.work) o (values l) s ≡ by_step o
    performed (Some q) = performs k s.board s.work know q
    performed None = refl

    stays : (o : Option Call) → Knows (known_by k o s) (by_step o).board (by_step o).work
    stays (Some q) = after k s.board s.work know q
    stays None = know

    go : (b : Bool) → let h : R.Handled = cond b (R.answered (letter_of l) (values l) s (by_step (asked l))) (R.unread (line_refusal l) s) in
        Knows (cond b (known_by k (asked l) s) k) h.state.board h.state.work
    go true = stays (asked l)
    go false = know
