-- Where words are stored, and words read there: laws return by return.
use Prim.Native.Nat.{ℕ, ◌+◌, ◌*◌}
use mathlib.Core.Path.{◌≡◌, refl, ap, ◌∙◌}
use mathlib.Core.List.{List}
use lib.ListN.{get_or}

-- a length, or an address, summed up: where an area begins, its rows so far, and the word in the row
module _ (from s t a b rows size : ℕ) (e : s ≡ from) (f : t ≡ a * b) (g : a ≡ rows) (i : b ≡ size) where
  pub rows_on : s + t ≡ from + rows * size
  rows_on = rw (f, g, i, e) refl

pub word_is : (b : List ℕ) (at place r : ℕ) → at ≡ place → r ≡ get_or b at 0 → r ≡ get_or b place 0
word_is b at place r e f = f ∙ ap (λ (i : ℕ). get_or b i 0) e
