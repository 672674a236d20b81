-- The program's loops: blocks one after another, a read with what waited before it, reads one after another.
use Rattle.std.proofs.Common.{◌≡◌, ℕ, ◌+◌, ◌-◌, ◌≤◌, ◌<◌, Bool, true, false, List, [], ◌∷◌, ◌++◌, length, take, drop, refl, sym, ap, ◌∙◌, append_assoc, arith, length-append, length-drop}
use Rattle.std.proofs.lemmas.List.{append-nil, drop-take, length-take, length-take-le, take_rest}
use Rattle.std.proofs.Math.Dec.{eqb}
use Rattle.std.proofs.Math.Seq.{take-add, drop-append_seam}
use borrow.Author.Tests.{ne_eqb}
use Rattle.rules.specs.Runs.{State, Out, Item, run}
use Rattle.rules.specs.Chunks.{reply_room, waiting, block}
use Rattle.rules.specs.Serving.{answered_of, Served}
use Rattle.rules.proofs.Streams.{run_join}
use Rattle.rules.proofs.Serving.{block-answered, block-waits, answered-none, waits-all, waits-few, serves, serves_on}
use Rattle.answers.specs.declared.Tally.{Tally}
use Rattle.running.specs.declared.Block.{Block}
use Rattle.answers.specs.Values.{counts_of, state_of}
use Rattle.running.specs.BlockPromise.{Leaves}
use Rattle.serving.specs.declared.Run.{Run}
use Rattle.serving.specs.Lent.{state_at, Closed}
use Rattle.serving.specs.Serving.{Pulled, joined, Full, most_reads, ReadAll, Ran}

-- ---- blocks

-- a block of x: what is served after it is served of x
module _ {x board work : List ℕ} {ended : Bool} {t t₁ : Tally} {r : Block} {out board₁ work₁ out₁ : List ℕ}
    (call : Leaves x ended (state_of board work t) out r t₁ board₁ work₁ out₁) where
  pub resumes : {s' : State} {wait : List ℕ} → Served (state_of board₁ work₁ t₁) (take (length x - r.consumed) (drop r.consumed x)) ended s' wait → Served (state_of board work t) x ended s' wait
  resumes {s'} {wait} f =
      let s = state_of board work t in
      let p = block (length out) ended s x in
      let rest : Served (state_of board₁ work₁ t₁) (drop p.used x) ended s' wait = rw (take_rest, call.consumed) at f in
      serves s x ended s' wait
      (rest.state ∙ ap (λ (o : Out). (run o.state (answered_of ended (drop p.used x))).state) (sym call.answers)
      ∙ ap (λ (o : Out). o.state) (sym (run_join s p.lines (answered_of ended (drop p.used x)))) ∙ ap (λ (is : List Item). (run s is).state) (sym (block-answered (length out) ended s x)))
      (rest.waits ∙ block-waits (length out) ended s x)

  pub stops : r.consumed ≡ 0 → reply_room ≤ length out → Served (state_of board work t) x ended (state_of board₁ work₁ t₁) x
  unfolding run
  stops z room =
      let idle = call.idle room z in
      let none = answered-none ended x idle.0 idle.1 idle.2 in
      resumes (rw (take_rest, z) (serves (state_of board₁ work₁ t₁) x ended (state_of board₁ work₁ t₁) x (rw none) (waits-all ended x idle.0 idle.1 idle.2)))

pub rest_place : (x rest done : List ℕ) → done ++ rest ≡ x → drop (length x - length rest) x ≡ rest
rest_place x rest done whole =
    let e : length x - length rest ≡ length done = omega (arith, ap length whole, length-append done rest) in
    rw (e, ← whole) (drop-append_seam done rest)

-- ---- one read

-- what was held stays, and behind it stand the n bytes that the read brought; what is left of both is moved to the front
module _ (buf buf₁ buf₂ : List ℕ) (held n left : ℕ) {s s' : State}
    (low : held + n ≤ length buf₁) (stays : take held buf₁ ≡ take held buf) (inside : left ≤ length (take (held + n) buf₁))
    (work : Served s (take (held + n) buf₁) (eqb n 0) s' (drop (length (take (held + n) buf₁) - left) (take (held + n) buf₁)))
    (moved : take left buf₂ ≡ take left (drop (held + n - left) buf₁)) where
  all : take (held + n) buf₁ ≡ take held buf ++ take n (drop held buf₁)
  all = rw (take-add, stays)

  front : take left buf₂ ≡ drop (length (take (held + n) buf₁) - left) (take (held + n) buf₁)
  front =
      let e : length (take (held + n) buf₁) ≡ held + n = length-take-le (held + n) buf₁ low in
      let k : held + n ≡ held + n - left + left = omega (arith, inside, e) in
      moved ∙ sym (drop-take (held + n - left) left buf₁) ∙ rw (e, ← k)

  pub pulls-on : (n ≡ 0 → ⊥) → Pulled s (take held buf) false s' (take left buf₂)
  pulls-on more = record {
    piece = take n (drop held buf₁);
    ending = (λ e. (cc), λ e. absurd (more (omega (arith, length-take n (drop held buf₁), length-drop held buf₁, ap length e))));
    served = rw (front, ← all, ← ne_eqb n 0 more) work;
  }

-- ---- all reads

-- so many are left, and the input has not ended
pub record Reading (s₀ : State) (turns : ℕ) (s : State) (wait : List ℕ) : Type 0 where
  pub pieces : List (List ℕ)
  pub full : Full pieces
  pub served : Served s₀ (joined pieces) false s wait
  pub count : length pieces + turns ≡ most_reads

joined_snoc : (ps : List (List ℕ)) (p : List ℕ) → joined (ps ++ (p ∷ [])) ≡ joined ps ++ p
unfolding joined
joined_snoc [] p = append-nil p
joined_snoc (q ∷ ps) p = rw (append_assoc, joined_snoc ps p)

full-snoc : (ps : List (List ℕ)) (p : List ℕ) → Full ps → (p ≡ [] → ⊥) → Full (ps ++ (p ∷ []))
unfolding Full
full-snoc [] p f n = (n, tt)
full-snoc (q ∷ ps) p f n = (f.0, full-snoc ps p f.1 n)

module _ {s₀ s s' : State} {turns : ℕ} {wait wait' : List ℕ} (g : Reading s₀ turns s wait) where
  pub reads_on : Pulled s wait false s' wait' → (left : ℕ) → left + 1 ≡ turns → Reading s₀ left s' wait'
  reads_on p left h = record {
    pieces = g.pieces ++ (p.piece ∷ []);
    full = full-snoc g.pieces p.piece g.full (λ n. cc (p.ending.1 n));
    served = rw joined_snoc (serves_on p.piece g.served p.served);
    count = omega (arith, length-append g.pieces (p.piece ∷ []));
  }

  pub reads_end : Pulled s wait true s' wait' → ReadAll s₀ true s' wait'
  reads_end p =
      let all = serves_on p.piece g.served p.served in
      record { pieces = g.pieces; full = g.full; served = rw (p.ending.0 refl, append-nil) at all; endless = λ e. (cc) }

-- few bytes wait after what was served
pub few : {s₀ s : State} {turns : ℕ} (held : ℕ) (buf : List ℕ) → Reading s₀ turns s (take held buf) → waiting < length buf → held ≤ waiting
few held buf g big = omega (arith, ap length g.served.waits, waits-few false (joined g.pieces), length-take held buf)

-- ---- the end

-- what the caller's references show at the end
pub runs : (r r' : Run) {s : State} {ended : Bool} {wait b w o : List ℕ} → ReadAll s ended (state_at r) wait → Closed r r'
    → (b ≡ r'.board.now) × (w ≡ r'.work.now) × (o ≡ r'.out.now) → Ran s b w o
runs r r' {ended = ended} {wait} all end (b, w, o) =
    record { tally = counts_of r.tally; ended = ended; wait = wait; read = rw (b, w, end.board, end.work) all; n = end.n; closing = rw o end.closing }
