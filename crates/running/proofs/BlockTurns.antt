-- The block's loop: what is left to do is the block of the input that is left, in the room that is left.
use Rattle.std.proofs.Common.{◌≡◌, ℕ, suc, ◌+◌, ◌-◌, ◌≤◌, ◌<◌, Bool, true, false, leb, ltb, Option, is_some, List, [], ◌∷◌, ◌++◌, length, get_or, take, drop, refl, sym, ap, ◌∙◌, arith, append-nil, length-append, zero-add}
use Rattle.std.proofs.Math.Nat.{sub-zero}
use Rattle.std.proofs.Math.Seq.{length-sets, take-append_seam, split_at}
use Rattle.std.proofs.lemmas.Bool.{le-leb, leb-true, eq-eqb, eqb-true, ltb-true, ltb-false}
use Rattle.std.proofs.lemmas.Bool.Decides.{nat_tests}
use Rattle.std.proofs.lemmas.List.{length-take, length-drop, get_or-take, get_or-drop, drop-drop}
use Rattle.std.proofs.lemmas.List.Edits.{sets}
use Rattle.memchr.specs.Find.{is_byte}
use Rattle.memchr.proofs.lemmas.PlaceLemmas.{places_between-first, places_between-none}
use Rattle.rules.specs.Text.{line_feed}
use Rattle.rules.specs.Runs.{State, Out, spoilt, framed, handle, run}
use Rattle.rules.specs.Chunks.{reply_room, waiting, Portion, nothing, joined, last_portion, ending, block}
use Rattle.rules.proofs.Cutting.{Clean, either}
use Rattle.rules.proofs.Streams.{block-line, block-full, block-rest, block-lines, block_run, block-step, block-idle}
use Rattle.rules.proofs.ReplyLengths.{handle-fits}
use Rattle.rules.proofs.Days.{kept-by-lines}
use Rattle.framing.specs.Ends.{line_end, feed_from}
use Rattle.framing.proofs.EndLaws.{end-within, end-found, end-first}
use Rattle.writing.proofs.Texts.{sets-start, sets-next}
use Rattle.answers.specs.declared.Tally.{Tally}
use Rattle.running.specs.BlockPromise.{Leaves}
use Rattle.running.specs.declared.Answering.{Answering}
use Rattle.running.specs.declared.Block.{Block}
use Rattle.running.specs.BlockLoop.{LineEnd, feeds, state_at, Answered, todo, Turning, Ends}

-- ---- where a line ends, by the look for a line feed

module _ (s : List ℕ) (from : ℕ) (start : from ≤ length s) where
  line-ends : LineEnd s from (line_end s from)
  line-ends = record {
    after = omega arith;
    within = end-within s from start;
    found = end-found s from;
    none = λ k p f q. let back : from + (k - from) ≡ k = omega arith in end-first s from (k - from) (omega arith) (rw back q);
  }

  -- the iterator gives this end, if it is a line feed, and then those after it
  by_feeds : {P : Type 0} → (feeds s from ≡ line_end s from ∷ feeds s (line_end s from + 1) → line_end s from < length s → P) → (feeds s from ≡ [] → line_end s from ≡ length s → P) → P
  by_feeds f g = either (ltb (line_end s from) (length s))
      (λ t. let lt = ltb-true _ _ t in f (places_between-first (is_byte line_feed) s from _ _ (record { low = omega arith; high = lt; before = λ k low high p. line-ends.none k high low (eqb-true _ _ p) }) (eq-eqb _ _ (line-ends.found lt))) lt)
      (λ q. let le = ltb-false _ _ q in g (places_between-none (is_byte line_feed) s from _ start (λ k low high p. line-ends.none k (omega arith) low (eqb-true _ _ p))) (omega (arith, line-ends.within)))

  line-of : {rest : List ℕ} → feeds s from ≡ rest → LineEnd s from (get_or rest 0 (length s))
  line-of is = by_feeds (λ some _. rw (← is, some) line-ends) (λ none same. rw (← is, none, ← same) line-ends)

  next-feed : {e : ℕ} {rest : List ℕ} → feeds s from ≡ e ∷ rest → (e < length s) × (feeds s (e + 1) ≡ rest)
  next-feed is = by_feeds (λ some lt. grind (arith, nat_tests)) (λ none same. grind (arith, nat_tests))

pub no-feed : (s : List ℕ) (o : Option ℕ) → o ≡ feed_from s 0 → is_some o ≡ false → feeds s 0 ≡ []
no-feed s o is is-none = by_feeds s 0 (omega arith) (λ some lt. grind (arith, nat_tests)) (λ none _. none)

-- ---- the turns

-- the end of the input: nothing is done with no byte left or too little room, else one refusal for the bytes that are left
idle : (room : ℕ) (s : State) (r : List ℕ) → (reply_room ≤ room → length r ≡ 0) → last_portion room s r ≡ nothing s
idle room s [] h = refl
idle room s (b ∷ r) h = either (leb reply_room room) (λ e. absurd (omega (arith, h (leb-true reply_room room e)))) (λ e. rw e)

refused : (room : ℕ) (s : State) (r : List ℕ) → reply_room ≤ room → (length r ≡ 0 → ⊥) → last_portion room s r ≡ joined (length r) spoilt (handle s spoilt) (nothing (handle s spoilt).state)
refused room s [] h n = absurd (n refl)
refused room s (b ∷ r) h n = rw (le-leb reply_room room h)

pub start : {input rest : List ℕ} {ended : Bool} {a : Answering} → feeds input 0 ≡ rest → a.written ≡ 0 → Turning input ended (state_at a) a.out.now a 0 rest
start {input} is z =
    record { ahead = is; line = line-of input 0 (omega arith) is; fits = omega arith; same = refl; left = rw (z, sub-zero) (record { used = zero-add _; long = zero-add _; stored = refl; state = refl }) }

module _ {input rest : List ℕ} {ended : Bool} {s₀ : State} {out₀ : List ℕ} {a : Answering} {at : ℕ} (h : Turning input ended s₀ out₀ a at rest) where
  -- where the function returns: what is left to do comes to the portion p, and it is done
  leave : {r : Block} {p : Portion} (a₁ : Answering) → todo input ended out₀ a at ≡ p → r.consumed ≡ at + p.used → r.written ≡ a.written + length p.text → state_at a₁ ≡ p.state
      → a₁.out.now ≡ sets a.out.now a.written p.text → r.consumed ≤ length input → r.written ≤ length out₀ → Ends input ended s₀ out₀ r a₁
  leave {r} {p} a₁ one u w s o i f =
      let q = block (length out₀) ended s₀ input in
      let left = rw one at h.left in
      let used : r.consumed ≡ q.used = omega (arith, left.used) in
      let written : r.written ≡ length q.text = omega (arith, left.long) in
      let state : state_at a₁ ≡ q.state = s ∙ left.state in
      let output : a₁.out.now ≡ q.text ++ drop (length q.text) out₀ = o ∙ left.stored ∙ sets-start out₀ q.text (omega arith) in
      let wrote : take r.written a₁.out.now ≡ q.text = rw (written, output) (take-append_seam q.text _) in
      let ran : run s₀ q.lines ≡ record { text = q.text; state = q.state } = block_run (length out₀) ended s₀ input in
      record {
        consumed = used;
        written = written;
        state = state;
        output = output;
        inside = i;
        fits = f;
        lines = λ y n. rw used (block-lines (length out₀) ended s₀ input y n);
        answers = rw (wrote, state) ran;
        kept = rw (ap (λ (s : State). s.board) state, ← ap (λ (o : Out). o.state.board) ran) (kept-by-lines s₀ q.lines);
        onward = λ y n. rw (wrote, used, state) (block-step (length out₀) ended s₀ input y n);
        idle = λ room none. block-idle (length out₀) ended s₀ input room (sym used ∙ none);
      }

  -- nothing more is written
  stays : {r : Block} (n : ℕ) → todo input ended out₀ a at ≡ record { used = n; lines = []; text = []; state = state_at a } → r.consumed ≡ at + n → r.written ≡ a.written → at + n ≤ length input
      → Ends input ended s₀ out₀ r a
  stays n one u w i = leave a one u (omega arith) refl refl (omega arith) (omega (arith, h.fits))

module _ {input rest : List ℕ} {ended : Bool} {s₀ : State} {out₀ : List ℕ} {a : Answering} {at e : ℕ} (h : Turning input ended s₀ out₀ a at (e ∷ rest)) where
  next : (e < length input) × (feeds input (e + 1) ≡ rest)
  next = next-feed input at (omega (arith, h.line.after, h.line.within)) h.ahead

  abbrev line : List ℕ
  line = take (e - at) (drop at input)

  line-clean : Clean line
  line-clean k p q =
      let lt : k < e - at = omega (arith, length-take (e - at) (drop at input)) in
      h.line.none (at + k) (omega arith) (omega arith) (rw (get_or-take (e - at) (drop at input) k 0 lt, get_or-drop at input k 0) at q)

  split : drop at input ≡ line ++ (line_feed ∷ drop (e + 1) input)
  split =
      let back : at + (e - at) ≡ e = omega (arith, h.line.after) in
      let after : at + suc (e - at) ≡ e + 1 = omega (arith, h.line.after) in
      rw (get_or-drop at input (e - at) 0, back, h.line.found next.0, drop-drop (suc (e - at)) at input, after) at (split_at (drop at input) (e - at) 0 (omega (arith, length-drop at input, h.line.after, next.0)))

  -- a line with room for its answer
  pub turn : {a₁ : Answering} → reply_room ≤ length a.out.now - a.written
      → Answered a (handle (state_at a) (framed line)) a₁ → Turning input ended s₀ out₀ a₁ (e + 1) rest
  turn {a₁} room x =
      let o = handle (state_at a) (framed line) in
      let less : length out₀ - a.written - length o.text ≡ length out₀ - a₁.written = omega (arith, x.end) in
      let later = todo input ended out₀ a₁ (e + 1) in
      let one : todo input ended out₀ a at ≡ joined (length line + 1) (framed line) o later =
      rw (x.state, ← less)
      (ap (block (length out₀ - a.written) ended (state_at a)) split
      ∙ block-line (length out₀ - a.written) ended (state_at a) line (drop (e + 1) input) line-clean (omega (arith, h.same))) in
      let left = rw one at h.left in
      record {
        ahead = next.1;
        line = line-of input (e + 1) (omega (arith, next.0)) next.1;
        fits = omega (arith, x.end, h.same, handle-fits (state_at a) (framed line));
        same = ap length x.output ∙ length-sets a.out.now a.written o.text ∙ h.same;
        left = record {
          used = omega (arith, left.used, length-take (e - at) (drop at input), length-drop at input, h.line.after);
          long = omega (arith, left.long, x.end, length-append o.text later.text);
          stored = rw x.output (sets-next a.out.now a.written a₁.written o.text _ x.end ∙ left.stored);
          state = left.state;
        };
      }

  pub no-room-left : {r : Block} → length a.out.now - a.written < reply_room → r.consumed ≡ at → r.written ≡ a.written → Ends input ended s₀ out₀ r a
  no-room-left room u w =
      stays h 0
      (ap (block (length out₀ - a.written) ended (state_at a)) split
      ∙ block-full (length out₀ - a.written) ended (state_at a) line (drop (e + 1) input) line-clean (omega (arith, h.same)))
      (omega arith) w (omega (arith, h.line.after))

module _ {input : List ℕ} {ended : Bool} {s₀ : State} {out₀ : List ℕ} {a : Answering} {at : ℕ} (h : Turning input ended s₀ out₀ a at []) where
  long : length (drop at input) ≡ length input - at
  long = omega (arith, length-drop at input, h.line.within)

  at_rest : todo input ended out₀ a at ≡ ending (length out₀ - a.written) ended (state_at a) (drop at input)
  at_rest = block-rest (length out₀ - a.written) ended (state_at a) (drop at input) (λ k p q. h.line.none (at + k) (omega (arith, length-drop at input)) (omega arith) (rw (get_or-drop at input k 0) at q))

  pub waits : {r : Block} → ended ≡ false → r.consumed ≡ at + (length input - at - waiting) → r.written ≡ a.written → Ends input ended s₀ out₀ r a
  waits is u w = stays h (length input - at - waiting) (at_rest ∙ rw (is, long)) u w (omega (arith, h.line.after, h.line.within))

  pub rests : {r : Block} → ended ≡ true → (reply_room ≤ length a.out.now - a.written → length input - at ≡ 0) → r.consumed ≡ at → r.written ≡ a.written → Ends input ended s₀ out₀ r a
  rests is none u w = stays h 0 (at_rest ∙ rw is (idle _ _ (drop at input) (λ room. long ∙ none (omega (arith, h.same))))) (omega arith) w (omega (arith, h.line.after, h.line.within))

  pub refuses : {r : Block} {a₁ : Answering} → ended ≡ true → reply_room ≤ length a.out.now - a.written → (length input - at ≡ 0 → ⊥) → Answered a (handle (state_at a) spoilt) a₁
      → r.consumed ≡ length input → r.written ≡ a₁.written → Ends input ended s₀ out₀ r a₁
  refuses {a₁ = a₁} is room some x u w =
      let o = handle (state_at a) spoilt in
      leave h {p = joined (length (drop at input)) spoilt o (nothing o.state)} a₁
      (at_rest ∙ rw is (refused _ (state_at a) (drop at input) (omega (arith, h.same)) (λ z. some (sym long ∙ z)))) (omega (arith, long, h.line.after)) (omega (arith, x.end, length-append o.text [])) x.state
      (rw append-nil x.output) (omega (arith, h.line.within)) (omega (arith, x.end, h.same, handle-fits (state_at a) spoilt))

-- what the references of the block's caller show at the end
pub handed : {input : List ℕ} {ended : Bool} {s : State} {out b' w' out' : List ℕ} {r : Block} {t' : Tally} (a : Answering)
    → Ends input ended s out r a → (t' ≡ a.tally.now) × (b' ≡ a.board.now) × (w' ≡ a.work.now) × (out' ≡ a.out.now) → Leaves input ended s out r t' b' w' out'
handed a h (t, b, w, o) = rw (t, b, w, o) h
