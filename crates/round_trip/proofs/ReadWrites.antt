-- A line that was read, and what is written of it.
use Rattle.std.proofs.Common.{◌≡◌, ℕ, ◌+◌, ◌-◌, ◌≤◌, List, [], Option, Some, Result, Ok, Err, length, get_or, drop, refl, sym, ap, ◌∙◌, arith}
use Rattle.std.proofs.lemmas.Bool.{ne_eqb}
use Rattle.matching.specs.Orders.{Key}
use Rattle.rules.specs.Calls.{Call, accept, first, order_checks}
use Rattle.rules.specs.InputLines.{letter_of, values, line_refusal, call_of}
use Rattle.rules.specs.Layout.{most_slots, row8}
use Rattle.rules.specs.Letters.{Letter, letter_a}
use Rattle.rules.specs.RoundTrip.{line_written, WritesBack, AcceptedOrder, AcceptedWritesBack}
use Rattle.rules.specs.Runs.{State}
use Rattle.rules.proofs.RoundTrip.{writes-back, accepted-writes-back}
use Rattle.answers.specs.Numbers.{code}
use Rattle.answers.proofs.NumberLaws.{code-some}
use Rattle.answers.specs.declared.Refusal.{Refusal}
use Rattle.words.specs.declared.Order.{Order}
use Rattle.reading.specs.Reading.{kind_letter, line_of}
use Rattle.reading.specs.declared.Kind.{Kind}
use Rattle.reading.specs.declared.Kind.TheVariants.{Open, Accept, Withdraw, Start, Print, Total}
use Rattle.reading.specs.declared.Line.{Line}
use Rattle.reading.proofs.LineUses.{reads-as, refused-as}
use Rattle.round_trip.specs.ReadWrite.{unwritten, call_written, rewritten, kind_written, read_written}

module _ (l buffer : List ℕ) where
  call-written : line_refusal l ≡ 0 → rewritten l buffer ≡ call_written (call_of (letter_of l) (values l)) buffer
  unfolding rewritten
  call-written taken = rw taken

  -- not read
  refused-written : (why : Refusal) → line_of l ≡ Err why → unwritten (code why) buffer ≡ rewritten l buffer
  unfolding rewritten
  refused-written why e = rw (refused-as l why e, ne_eqb (code why) 0 (λ z. omega (arith, code-some why)))

  -- read
  by_kind : (x : Kind) (vs : List ℕ) → kind_written x (record { key = record { code = get_or vs 0 0; number = get_or vs 1 0 }; count = length vs - 2; row = row8 (drop 2 vs); fixed = 0 }) buffer ≡ call_written (call_of (kind_letter x) vs) buffer
  unfolding call_of
  by_kind Open vs = refl
  by_kind Accept vs = refl
  by_kind Withdraw vs = refl
  by_kind Start vs = refl
  by_kind Print vs = refl
  by_kind Total vs = refl

  taken-written : (line : Line) → line_of l ≡ Ok line → read_written (Ok line) buffer ≡ rewritten l buffer
  taken-written line e =
      let read = reads-as l line e in
      ap (λ (o : Order). kind_written line.kind o buffer) read.order ∙ by_kind line.kind (values l)
      ∙ ap (λ (x : Letter). call_written (call_of x (values l)) buffer) read.letter ∙ sym (call-written read.taken)

  pub line_rewritten : read_written (line_of l) buffer ≡ rewritten l buffer
  line_rewritten = go (line_of l) refl
    where
      go : (r : Result Line Refusal) → line_of l ≡ r → read_written r buffer ≡ rewritten l buffer
      go (Ok line) e = taken-written line e
      go (Err why) e = refused-written why e

  -- an A line whose order passes 16 and 7 to 10, and one that is accepted
  pub line_back : (line : Line) (k : Key) (c : ℕ) (row : List ℕ) → line_of l ≡ Ok line → line.kind ≡ Accept → call_of (letter_of l) (values l) ≡ Some (accept k c row) → first (order_checks most_slots k c row []) ≡ 0 → length l + 1 ≤ length buffer
      → rewritten l buffer ≡ line_written l buffer
  unfolding WritesBack
  line_back line k c row e kind call clear room =
      let read = reads-as l line e in
      let letter : letter_of l ≡ letter_a = sym read.letter ∙ ap kind_letter kind in
      call-written read.taken ∙ ap (λ (q : Option Call). call_written q buffer) call ∙ (writes-back l k c row read.taken letter call clear).stored buffer room

  pub accepted_back : (s : State) → AcceptedOrder l s → length l + 1 ≤ length buffer → rewritten l buffer ≡ line_written l buffer
  unfolding AcceptedWritesBack
  accepted_back s a room =
      let w = accepted-writes-back l s a in
      call-written w.taken ∙ ap (λ (q : Option Call). call_written q buffer) w.asks ∙ w.wrote.stored buffer room

pub ruleset rewrites = (line_rewritten, line_back, accepted_back)
