-- Laws of lists as tables: reads and writes past the end, a list by its index, and the turns of loops that fill.
use Prim.Native.Nat.{ℕ, zero, suc, ◌+◌, ◌-◌, ◌≤◌, ◌<◌}
use mathlib.Core.Path.{◌≡◌, refl, sym, ap, ◌∙◌}
use mathlib.Core.List.{List, [], ◌∷◌, ◌++◌, append-nil}
use native.Mathlib.Omega.{arith}
use native.Mathlib.Numerals.{add-one}
use native.Mathlib.Nat.{not-suc-le-zero, le_of_suc-le-suc, add-zero, sub-eq-zero_of_le}
use lib.ListN.{length, get_or, set, take, drop, get_or-eq_default, drop_of_length-le}
use lib.Seq.{sets, set_out, take_all, drop-cons}
use Rattle.tables.specs.Choice.{listed}

pub get_past : (b : List ℕ) (i : ℕ) → length b ≤ i → 0 ≡ get_or b i 0
get_past b i p = sym (get_or-eq_default b 0 p)

pub set_past : (b : List ℕ) (i v : ℕ) → length b ≤ i → b ≡ set b i v
set_past b i v p = sym (set_out b i v p)

pub ruleset past = (get_past, set_past)

-- what is left of a list from i on, where i lies in it
pub from_here : (l : List ℕ) (i : ℕ) → i < length l → drop i l ≡ get_or l i 0 ∷ drop (i + 1) l
from_here l i p = rw (add-one i) (drop-cons l i 0 p)

pub moved : (i j : ℕ) → i + 1 + j ≡ i + suc j
moved i j = omega arith

module _ {A : Type 0} (f : ℕ → A) where
  pub length-listed : (i n : ℕ) → length (listed f i n) ≡ n
  unfolding listed
  length-listed i zero = refl
  length-listed i (suc n) = ap suc (length-listed (i + 1) n)

  pub get_or-listed : (i n j : ℕ) (d : A) → j < n → get_or (listed f i n) j d ≡ f (i + j)
  unfolding listed
  get_or-listed i zero j d p = absurd (not-suc-le-zero p)
  get_or-listed i (suc n) zero d p = sym (ap f (add-zero i))
  get_or-listed i (suc n) (suc j) d p = get_or-listed (i + 1) n j d (le_of_suc-le-suc p) ∙ ap f (moved i j)

  pub get_or-listed₀ : (n j : ℕ) (d : A) → j < n → get_or (listed f 0 n) j d ≡ f j
  get_or-listed₀ n j d p = get_or-listed 0 n j d p ∙ ap f (let e : 0 + j ≡ j = omega arith in e)

-- two rules that agree list alike
pub listed_ext : {A : Type 0} (f g : ℕ → A) (i n : ℕ) → ((j : ℕ) → j < n → f (i + j) ≡ g (i + j)) → listed f i n ≡ listed g i n
unfolding listed
listed_ext f g i zero e = refl
listed_ext f g i (suc n) e = ap2 (rw add-zero at (e 0 (omega arith))) (listed_ext f g (i + 1) n (λ (j : ℕ) (p : j < n). rw (moved i j) (e (suc j) (omega arith))))
  where
    ap2 : {A : Type 0} {x y : A} {s t : List A} → x ≡ y → s ≡ t → x ∷ s ≡ y ∷ t
    ap2 p q = cc

-- a loop that stores f 0, f 1, .. from base on, turn by turn
pub left_over : (n o : ℕ) → o < n → n - o ≡ suc (n - (o + 1))
left_over n o p = omega arith

pub sets_again : (f : ℕ → ℕ) (b₀ b c : List ℕ) (base o n a w : ℕ) → sets b₀ (base + 0) (listed f 0 n) ≡ sets b (base + o) (listed f o (n - o)) → o < n →
    w ≡ f o → a ≡ base + o → c ≡ set b a w → sets b₀ (base + 0) (listed f 0 n) ≡ sets c (base + (o + 1)) (listed f (o + 1) (n - (o + 1)))
unfolding listed
sets_again f b₀ b c base o n a w inv p e g h = inv ∙ rw (left_over n o p, h, g, e)
    (ap (λ (j : ℕ). sets (set b (base + o) (f o)) j (listed f (o + 1) (n - (o + 1)))) (let z : suc (base + o) ≡ base + (o + 1) = omega arith in z))

pub sets-done : (f : ℕ → ℕ) (b₀ b : List ℕ) (base o n : ℕ) → sets b₀ (base + 0) (listed f 0 n) ≡ sets b (base + o) (listed f o (n - o)) → n ≤ o → b ≡ sets b₀ (base + 0) (listed f 0 n)
unfolding listed
sets-done f b₀ b base o n inv p = sym (inv ∙ rw (sub-eq-zero_of_le p))

pub sets-start : (f : ℕ → ℕ) (b : List ℕ) (base n : ℕ) → sets b (base + 0) (listed f 0 n) ≡ sets b (base + 0) (listed f 0 (n - 0))
sets-start f b base n = let e : n - 0 ≡ n = omega arith in rw e refl
