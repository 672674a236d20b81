-- The control total of a run: what the tally holds after any lines, and what Z is answered.
use mathlib.Core.Bool.{Bool, true, false, not, ◌&&◌, cond}
use mathlib.Core.List.{List, [], ◌∷◌}
use mathlib.Core.Path.{◌≡◌, refl, ap, ◌∙◌}
use Prim.Native.Nat.{ℕ, ◌+◌, ◌%◌}
use native.Mathlib.Omega.{arith}
use native.Mathlib.Nat.{zero-add}
use lib.Dec.{T, eqb, eqb→eq}
use lib.ListN.{length, get_or}
use Rattle.std.specs.Prelude.{fold}
use Rattle.matching.specs.Lists.{any}
use Rattle.matching.proofs.Counting.{and_l, and_r}
use Rattle.rules.specs.AnswerLines.{Reply}
use Rattle.rules.specs.Calls.{Answer, Check, first}
use Rattle.rules.specs.Ledger.{ok}
use Rattle.rules.specs.InputLines.{letter_of, values, line_refusal, line_key, call_of}
use Rattle.rules.specs.Letters.{Letter, letter_s, letter_a, letter_w, letter_f, letter_p, letter_z, letter_x, byte_of}
use Rattle.rules.specs.Runs.{Counts, counted, noted, State, Handled, Item, line, spoilt, unread, answered, closing, handle_line, handle, run, figures}
use Rattle.rules.specs.Totals.{is_read, since_z, number_of, a_numbers, count_after, sum_after, Totalled, Closes, TotalsHold}
use Rattle.rules.proofs.Letters.{byte-tells}
use Rattle.rules.proofs.ReplyLengths.{read_answer}

-- ---- one line

abbrev is_letter : Letter → Letter → Bool
is_letter x y = eqb (byte_of x) (byte_of y)

-- what a line does to the two totals: Z starts them again, A adds to them, any other leaves them
record Adds (t t' : Counts) (z a : Bool) (number : ℕ) : Type 0 where
  orders : t'.orders ≡ cond z 0 (cond a ((t.orders + 1) % figures) t.orders)
  numbers : t'.numbers ≡ cond z 0 (cond a ((t.numbers + number) % figures) t.numbers)

counted-keeps : (b : Bool) (t : Counts) (number : ℕ) → Adds t (counted b t) false false number
counted-keeps true t number = record { orders = refl; numbers = refl }
counted-keeps false t number = record { orders = refl; numbers = refl }

read-adds : (x : Letter) (vs : List ℕ) (b : Bool) (t : Counts) → Adds t (noted x vs (counted b t)) (is_letter x letter_z) (is_letter x letter_a) ((line_key vs).number)
read-adds letter_s vs b t = counted-keeps b t ((line_key vs).number)
read-adds letter_a vs b t =
    let k = counted-keeps b t ((line_key vs).number) in
    record { orders = ap (λ (n : ℕ). (n + 1) % figures) k.orders; numbers = ap (λ (n : ℕ). (n + (line_key vs).number) % figures) k.numbers }
read-adds letter_w vs b t = counted-keeps b t ((line_key vs).number)
read-adds letter_f vs b t = counted-keeps b t ((line_key vs).number)
read-adds letter_p vs b t = counted-keeps b t ((line_key vs).number)
read-adds letter_z vs b t = record { orders = refl; numbers = refl }
read-adds letter_x vs b t = counted-keeps b t ((line_key vs).number)

adds : (s : State) (i : Item) → Adds s.tally (handle s i).state.tally (is_read letter_z i) (is_read letter_a i) (number_of i)
unfolding handle_line
adds s spoilt = record { orders = refl; numbers = refl }
adds s (line l) = go (eqb (line_refusal l) 0)
  where
    r : Answer
    r = read_answer l s

    go : (b : Bool) → Adds s.tally (cond b (answered (letter_of l) (values l) s r) (unread (line_refusal l) s)).state.tally
        (b && is_letter (letter_of l) letter_z) (b && is_letter (letter_of l) letter_a) ((line_key (values l)).number)
    go true = read-adds (letter_of l) (values l) (ok r) s.tally
    go false = record { orders = refl; numbers = refl }

-- ---- lines one after another

-- their totals, from a count and a sum on
record From (a b : ℕ) (t : Counts) (is : List Item) : Type 0 where
  orders : t.orders ≡ (cond (any (is_read letter_z) is) 0 a + length (a_numbers (since_z is))) % figures
  numbers : t.numbers ≡ fold (λ (n k : ℕ). n + k) (cond (any (is_read letter_z) is) 0 b) (a_numbers (since_z is)) % figures

-- where no Z is among them, all count
all-since : (is : List Item) → any (is_read letter_z) is ≡ false → since_z is ≡ is
all-since [] h = refl
all-since (i ∷ is) h = rw h refl

mod-add : (a k : ℕ) → (a % figures + k) % figures ≡ (a + k) % figures
mod-add a k = omega arith

module _ (i : Item) (is : List Item) (a b : ℕ) where
  -- what the totals grew to with the line i
  abbrev count_with : ℕ
  count_with = cond (is_read letter_z i) 0 (cond (is_read letter_a i) (a + 1) a)

  abbrev sum_with : ℕ
  sum_with = cond (is_read letter_z i) 0 (cond (is_read letter_a i) (b + number_of i) b)

  grown : (t t' : Counts) → t.orders ≡ a % figures → t.numbers ≡ b % figures → Adds t t' (is_read letter_z i) (is_read letter_a i) (number_of i)
      → (t'.orders ≡ count_with % figures) × (t'.numbers ≡ sum_with % figures)
  grown t t' h g adds = go (is_read letter_z i) (is_read letter_a i) adds
    where
      go : (z c : Bool) → Adds t t' z c (number_of i) → (t'.orders ≡ cond z 0 (cond c (a + 1) a) % figures) × (t'.numbers ≡ cond z 0 (cond c (b + number_of i) b) % figures)
      go true c adds = (adds.orders, adds.numbers)
      go false true adds = (
        adds.orders ∙ ap (λ (n : ℕ). (n + 1) % figures) h ∙ mod-add a 1,
        adds.numbers ∙ ap (λ (n : ℕ). (n + number_of i) % figures) g ∙ mod-add b (number_of i),
      )
      go false false adds = (adds.orders ∙ h, adds.numbers ∙ g)

  -- the line i before lines whose totals go on from there
  joined : (t : Counts) → From count_with sum_with t is → From a b t (i ∷ is)
  joined t from = go (is_read letter_z i) (is_read letter_a i) (any (is_read letter_z) is) refl refl refl
    where
      go : (z c later : Bool) → is_read letter_z i ≡ z → is_read letter_a i ≡ c → any (is_read letter_z) is ≡ later → From a b t (i ∷ is)
      go true c true e d f = record { orders = rw e (rw (e, f) at from.orders); numbers = rw e (rw (e, f) at from.numbers) }
      go true c false e d f = record { orders = rw e (rw (e, f) at from.orders); numbers = rw e (rw (e, f) at from.numbers) }
      go false c true e d f = record { orders = rw (e, f) (rw (e, f) at from.orders); numbers = rw (e, f) (rw (e, f) at from.numbers) }
      go false true false e d f = record {
        orders = rw (e, f, d) (omega (arith, (rw (e, d, f, all-since is f) at from.orders)));
        numbers = rw (e, f, d) (rw (e, d, f, all-since is f) at from.numbers);
      }
      go false false false e d f = record {
        orders = rw (e, f, d) (rw (e, d, f, all-since is f) at from.orders);
        numbers = rw (e, f, d) (rw (e, d, f, all-since is f) at from.numbers);
      }

from : (is : List Item) (s : State) (a b : ℕ) → s.tally.orders ≡ a % figures → s.tally.numbers ≡ b % figures → From a b (run s is).state.tally is
unfolding run
from [] s a b h g = record { orders = omega (arith, h); numbers = g }
from (i ∷ is) s a b h g =
    let t = grown i is a b s.tally (handle s i).state.tally h g (adds s i) in
    joined i is a b (run (handle s i).state is).state.tally (from is (handle s i).state (count_with i is a b) (sum_with i is a b) t.0 t.1)

-- ---- from a start on

totalled : (s : State) (is : List Item) → s.tally.orders ≡ 0 → s.tally.numbers ≡ 0 → Totalled s is
totalled s is h g = let f = from is s 0 0 h g in record {
  orders = f.orders ∙ ap (λ (n : ℕ). (n + length (a_numbers (since_z is))) % figures) (none (any (is_read letter_z) is)) ∙ ap (λ (n : ℕ). n % figures) (zero-add (length (a_numbers (since_z is))));
  numbers = f.numbers ∙ ap (λ (n : ℕ). fold (λ (n k : ℕ). n + k) n (a_numbers (since_z is)) % figures) (none (any (is_read letter_z) is));
}
  where
    none : (z : Bool) → ◌≡◌ {A = ℕ} (cond z 0 0) 0
    none true = refl
    none false = refl

-- the answer of a line that begins with Z
abbrev closing_of : List ℕ → State → Handled
closing_of vs s = answered letter_z vs s (closing vs s)

z-handled : (l : List ℕ) (s : State) → T (is_read letter_z (line l)) → handle_line l s ≡ closing_of (values l) s
unfolding handle_line call_of
z-handled l s t =
    let taken = and_l (eqb (line_refusal l) 0) (is_letter (letter_of l) letter_z) t in
    let byte = eqb→eq (byte_of (letter_of l)) (byte_of letter_z) (and_r (eqb (line_refusal l) 0) (is_letter (letter_of l) letter_z) t) in
    let letter = byte-tells (letter_of l) letter_z byte in
    rw (eqb→eq (line_refusal l) 0 taken, letter) refl

closes : (s : State) (is : List Item) (l : List ℕ) → Totalled s is → T (is_read letter_z (line l)) → Closes s is l
closes s is l held t =
    let h = z-handled l (run s is).state t in
    record {
      reply = ap (λ (h : Handled). h.reply) h ∙ (λ i. replied (first (closing_tests (held.orders i) (held.numbers i)))) ∙ ap replied (differs (eqb (get_or (values l) 0 0) (count_after is) && eqb (get_or (values l) 1 0) (sum_after is)));
      board = ap (λ (h : Handled). h.state.board) h;
      work = ap (λ (h : Handled). h.state.work) h;
    }
  where
    replied : ℕ → Reply
    replied n = record { letter = byte_of letter_z; code = 0; number = get_or (values l) 0 0; refusal = n; count = 0 }

    closing_tests : ℕ → ℕ → List Check
    closing_tests orders numbers = (15, not (eqb (get_or (values l) 0 0) orders && eqb (get_or (values l) 1 0) numbers)) ∷ []

    differs : (b : Bool) → ◌≡◌ {A = ℕ} (first ((15, not b) ∷ [])) (cond b 0 15)
    differs true = refl
    differs false = refl

pub totals-hold : TotalsHold
unfolding TotalsHold
totals-hold s is h g = record { totalled = totalled s is h g; closes = λ l t. closes s is l (totalled s is h g) t }
