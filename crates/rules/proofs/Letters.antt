-- The letters and their bytes, case by case once for all: whoever needs to know which letter a byte is takes `named-as` apart.
use mathlib.Core.Bool.{Bool, true, false, cond}
use mathlib.Core.List.{List, [], ◌∷◌}
use mathlib.Core.Path.{◌≡◌, refl, sym, ap, ◌∙◌}
use Prim.Native.Nat.{ℕ}
use lib.Dec.{T, eqb, eqb→eq}
use Rattle.rules.specs.InputLines.{allowed}
use Rattle.rules.specs.Letters.{Letter, letter_s, letter_a, letter_w, letter_f, letter_p, letter_z, letter_x, byte_of, line_letters, named_among, letter_named}

-- b is this letter's byte, or begins no line
pub data Named (b : ℕ) : Letter → Type 0 where
  is : (x : Letter) → b ≡ byte_of x → Named b x
  none : Named b letter_x

pub named-as : (b : ℕ) → Named b (letter_named b)
unfolding letter_named
named-as b = among line_letters
  where
    among : (xs : List Letter) → Named b (named_among xs b)
    among [] = none
    among (x ∷ xs) = go (eqb b (byte_of x)) (eqb→eq b (byte_of x)) (among xs)
      where
        go : (t : Bool) → (T t → b ≡ byte_of x) → Named b (named_among xs b) → Named b (cond t x (named_among xs b))
        go true h more = is x (h tt)
        go false h more = more

-- each letter is the one that its byte names
pub named_back : (x : Letter) → letter_named (byte_of x) ≡ x
unfolding letter_named
named_back letter_s = refl
named_back letter_a = refl
named_back letter_w = refl
named_back letter_f = refl
named_back letter_p = refl
named_back letter_z = refl
named_back letter_x = refl

-- so letters with the same byte are the same
pub byte-tells : (x y : Letter) → byte_of x ≡ byte_of y → x ≡ y
byte-tells x y e = sym (named_back x) ∙ ap letter_named e ∙ named_back y

-- a letter that may stand before some columns is its byte's
pub byte-back : (b c : ℕ) → T (allowed (letter_named b) c) → b ≡ byte_of (letter_named b)
byte-back b c = go (named-as b)
  where
    go : {x : Letter} → Named b x → T (allowed x c) → b ≡ byte_of x
    go (is x e) t = e
    go none t = absurd t
