-- Numbers stored in turn, as far as there is room.
use Rattle.std.proofs.Common.{◌≡◌, ◌≤◌, ◌<◌, ◌+◌, ℕ, suc, List, ◌∷◌, ◌++◌, length, min, set, cond, get_or, drop, Option, Some, None, unwrap_or, arith, ap, sym, ◌∙◌}
use native.Mathlib.Decide.{dec_lt}
use Rattle.std.specs.Option.{option_to_list}
use Rattle.std.proofs.lemmas.List.{drop_more}
use Rattle.std.proofs.lemmas.List.Edits.{sets}
use Rattle.std.proofs.Math.ListN.{length-set}
use Rattle.std.proofs.Math.Seq.{set_out}
use Rattle.storing.proofs.Stores.{sets-past_end}
use Rattle.trial_kit.specs.Texts.{is_digit, longer, numbers_of}

-- one number is stored, then those after it
pub sets_next : (l : List ℕ) (at v : ℕ) (vs : List ℕ) → at ≤ length l → sets (set l at v) (min (suc at) (length l)) vs ≡ sets l at (v ∷ vs)
sets_next l at v vs h = go (dec_lt at (length l))
  where
    go : Dec (at < length l) → sets (set l at v) (min (suc at) (length l)) vs ≡ sets l at (v ∷ vs)
    go (yes lt) = ap (λ (k : ℕ). sets (set l at v) k vs) (omega arith)
    go (no ge) =
        let out = set_out l at v (omega arith) in
        ap (λ (m : List ℕ). sets m (min (suc at) (length l)) vs) out ∙ sets-past_end l (min (suc at) (length l)) vs (omega arith) ∙ sym (sets-past_end l at (v ∷ vs) (omega arith))

-- the next byte of the text
pub numbers_next : (v : Option ℕ) (bs : List ℕ) (i : ℕ) → i < length bs
    → numbers_of v (drop i bs) ≡ cond (is_digit (get_or bs i 0)) (numbers_of (Some (longer (unwrap_or v 0) (get_or bs i 0))) (drop (i + 1) bs)) (option_to_list v ++ numbers_of None (drop (i + 1) bs))
numbers_next v bs i h = ap (numbers_of v) (drop_more bs i 0 h)

-- some numbers are stored, up to `at`, and the rest is still to be
abbrev pub Stored : (l start : List ℕ) (at : ℕ) (rest all : List ℕ) → Type 0
Stored l start at rest all = (at ≤ length l) × (min (at + length rest) (length l) ≡ min (length all) (length l)) × (sets l at rest ≡ sets start 0 all)

pub stored_next : (l start : List ℕ) (at v : ℕ) (rest more all : List ℕ) → rest ≡ v ∷ more → Stored l start at rest all → Stored (set l at v) start (min (suc at) (length l)) more all
stored_next l start at v rest more all e h =
    let same = length-set l at v in
    (omega (arith, same, h.0), omega (arith, same, h.0, h.1, ap length e), sets_next l at v more h.0 ∙ ap (sets l at) (sym e) ∙ h.2)
