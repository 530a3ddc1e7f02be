-- Rows of keys: what a key put in or taken out makes of them, and that they still rise.
use mathlib.Core.Path.{◌≡◌, refl, sym, ◌∙◌}
use mathlib.Core.Logic.{◌≢◌, ◌⊎◌, inl, inr}
use mathlib.Core.Bool.{Bool, true, false, not}
use mathlib.Core.List.Memᴰ
use mathlib.Core.List.{List, [], ◌∷◌, ◌++◌, Memᴰ}
use Prim.Native.Nat.{ℕ, zero, suc, ◌+◌, ◌-◌, ◌≤◌, ◌<◌}
use native.Mathlib.Omega.{arith}
use native.Mathlib.Numerals.{add-one}
use lib.Dec.{T, ltb, eqb, ltb→lt, nltb→le, eqb→eq}
use borrow.Author.Tests.{eqb-true, eqb-false}
use lib.ListN.{length, get_or, take, drop, length-append, length-drop, take-append-drop}
use lib.Seq.{length-take-le}
use Rattle.tables.specs.Choice.{pick, listed}
use Rattle.nodes.specs.Keys.{first_at, greater_at, equal_at, put_in, taken_out}
use Rattle.tables.proofs.Lists.{length-listed, get_or-listed}
use Rattle.nodes.proofs.Keyed.{first_in}
use Rattle.history.specs.Keys.{Each, none, next, Rises, Apart}

-- a key put in before the first of a row, or behind it; a key that is the first taken out, or one behind it
put_step : (x y : ℕ) (ys : List ℕ) → put_in x (y ∷ ys) ≡ pick (ltb x y) (x ∷ y ∷ ys) (y ∷ put_in x ys)
unfolding first_at pick
put_step x y ys = go (ltb x y)
  where
    go : (t : Bool) → take (pick t 0 (greater_at x ys + 1)) (y ∷ ys) ++ x ∷ drop (pick t 0 (greater_at x ys + 1)) (y ∷ ys) ≡ pick t (x ∷ y ∷ ys) (y ∷ put_in x ys)
    go true = refl
    go false = rw (add-one (greater_at x ys)) refl

take_step : (x y : ℕ) (ys : List ℕ) → taken_out x (y ∷ ys) ≡ pick (eqb x y) ys (y ∷ taken_out x ys)
unfolding first_at pick
take_step x y ys = go (eqb x y)
  where
    go : (t : Bool) → take (pick t 0 (equal_at x ys + 1)) (y ∷ ys) ++ drop (pick t 0 (equal_at x ys + 1) + 1) (y ∷ ys) ≡ pick t ys (y ∷ taken_out x ys)
    go true = refl
    go false = rw (add-one (equal_at x ys + 1), add-one (equal_at x ys)) refl

-- members of a row with a key put in
module _ (x y : ℕ) (ks : List ℕ) where
  abbrev before : List ℕ
  before = take (greater_at x ks) ks

  abbrev behind : List ℕ
  behind = drop (greater_at x ks) ks

  whole : before ++ behind ≡ ks
  whole = take-append-drop (greater_at x ks) ks

  pub put_in_old : Memᴰ y ks → Memᴰ y (put_in x ks)
  put_in_old m = go (Memᴰ.append_cases before (rw whole m))
    where
      go : Memᴰ y before ⊎ Memᴰ y behind → Memᴰ y (put_in x ks)
      go (inl a) = Memᴰ.append_left {s = before} _ a
      go (inr a) = Memᴰ.append_right before (Memᴰ.tail a)

  pub put_in_only : Memᴰ y (put_in x ks) → (y ≡ x) ⊎ Memᴰ y ks
  put_in_only m = go (Memᴰ.append_cases before m)
    where
      back : (y ≡ x) ⊎ Memᴰ y behind → (y ≡ x) ⊎ Memᴰ y ks
      back (inl e) = inl e
      back (inr a) = inr (rw whole at (Memᴰ.append_right before a))

      go : Memᴰ y before ⊎ Memᴰ y (x ∷ behind) → (y ≡ x) ⊎ Memᴰ y ks
      go (inl a) = inr (rw whole at (Memᴰ.append_left {s = before} behind a))
      go (inr a) = back (Memᴰ.cases_cons a)

pub put_in_new : (x : ℕ) (ks : List ℕ) → Memᴰ x (put_in x ks)
put_in_new x ks = Memᴰ.append_right (take (greater_at x ks) ks) (Memᴰ.head refl)

pub put_in_length : (x : ℕ) (ks : List ℕ) → length (put_in x ks) ≡ suc (length ks)
put_in_length x ks =
    let n = first_in (λ y. ltb x y) ks in
    length-append (take (greater_at x ks) ks) (x ∷ drop (greater_at x ks) ks)
    ∙ omega (arith, n, length-take-le (greater_at x ks) ks n, length-drop (greater_at x ks) ks)

pub put_in_rises : (x : ℕ) (ks : List ℕ) → Rises ks → ¬ Memᴰ x ks → Rises (put_in x ks)
unfolding first_at pick
put_in_rises x [] r no₁ = next (λ y m. absurd (Memᴰ.not-nil m)) none
put_in_rises x (z ∷ zs) (next h r) no₁ =
    rw (put_step x z zs) (go (ltb x z) (λ t. ltb→lt x z t) (λ t. nltb→le x z t) (put_in_rises x zs r (λ m. no₁ (Memᴰ.tail m))))
  where
    low : x < z → (y : ℕ) → (y ≡ z) ⊎ Memᴰ y zs → x < y
    low l y (inl e) = omega arith
    low l y (inr m) = omega (arith, h y m)

    high : z ≤ x → (y : ℕ) → (y ≡ x) ⊎ Memᴰ y zs → z < y
    high l y (inl e) = let d : x ≢ z = λ w. no₁ (Memᴰ.head w) in omega arith
    high l y (inr m) = h y m

    go : (b : Bool) → (T b → x < z) → (T (not b) → z ≤ x) → Rises (put_in x zs) → Rises (pick b (x ∷ z ∷ zs) (z ∷ put_in x zs))
    go true l g ih = next (λ y m. low (l tt) y (Memᴰ.cases_cons m)) (next h r)
    go false l g ih = next (λ y m. high (g tt) y (put_in_only x y zs m)) ih

-- members of a row with a key taken out
pub take_out_old : (x y : ℕ) (ks : List ℕ) → Memᴰ y ks → y ≢ x → Memᴰ y (taken_out x ks)
unfolding first_at pick
take_out_old x y [] m d = absurd (Memᴰ.not-nil m)
take_out_old x y (z ∷ zs) m d =
    rw (take_step x z zs) (go (eqb x z) (λ t. eqb→eq x z t) (Memᴰ.cases_cons m) (λ (a : Memᴰ y zs). take_out_old x y zs a d))
  where
    go : (b : Bool) → (T b → x ≡ z) → (y ≡ z) ⊎ Memᴰ y zs → (Memᴰ y zs → Memᴰ y (taken_out x zs))
        → Memᴰ y (pick b zs (z ∷ taken_out x zs))
    go true w (inl e) ih = absurd (d (e ∙ sym (w tt)))
    go true w (inr h) ih = h
    go false w (inl e) ih = Memᴰ.head e
    go false w (inr h) ih = Memᴰ.tail (ih h)

pub rises_apart : (ks : List ℕ) → Rises ks → Apart ks
rises_apart [] none = none
rises_apart (z ∷ zs) (next h r) = next low (rises_apart zs r)
  where
    low : (y : ℕ) → Memᴰ y zs → z ≢ y
    low y m e = omega (arith, h y m)

pub take_out_only : (x y : ℕ) (ks : List ℕ) → Apart ks → Memᴰ y (taken_out x ks) → Memᴰ y ks × (y ≢ x)
unfolding first_at pick
take_out_only x y [] r m = absurd (Memᴰ.not-nil m)
take_out_only x y (z ∷ zs) (next h r) m = go (eqb x z) refl (rw (take_step x z zs) at m) (take_out_only x y zs r)
  where
    go : (b : Bool) → eqb x z ≡ b → Memᴰ y (pick b zs (z ∷ taken_out x zs)) → (Memᴰ y (taken_out x zs) → Memᴰ y zs × (y ≢ x))
        → Memᴰ y (z ∷ zs) × (y ≢ x)
    go true e a ih = (Memᴰ.tail a, λ c. h y a (sym (eqb-true x z e) ∙ sym c))
    go false e a ih = more (Memᴰ.cases_cons a)
      where
        more : (y ≡ z) ⊎ Memᴰ y (taken_out x zs) → Memᴰ y (z ∷ zs) × (y ≢ x)
        more (inl c) = (Memᴰ.head c, λ g. eqb-false x z e (sym g ∙ c))
        more (inr c) = let g = ih c in (Memᴰ.tail g.0, g.1)

pub take_out_length : (x : ℕ) (ks : List ℕ) → length (taken_out x ks) ≡ equal_at x ks + (length ks - (equal_at x ks + 1))
take_out_length x ks =
    length-append (take (equal_at x ks) ks) (drop (equal_at x ks + 1) ks)
    ∙ omega (arith, length-take-le (equal_at x ks) ks (first_in (λ y. eqb x y) ks), length-drop (equal_at x ks + 1) ks)

-- what each number of a row bears to those behind it stays so: where one is taken out, where rows are put together
module _ {R : ℕ → ℕ → Type 0} where
  pub take_out_each : (x : ℕ) (ks : List ℕ) → Apart ks → Each R ks → Each R (taken_out x ks)
  unfolding first_at pick
  take_out_each x [] a r = none
  take_out_each x (z ∷ zs) (next n a) (next h r) = rw (take_step x z zs) (go (eqb x z) (take_out_each x zs a r))
    where
      go : (b : Bool) → Each R (taken_out x zs) → Each R (pick b zs (z ∷ taken_out x zs))
      go true ih = r
      go false ih = next (λ y m. h y (take_out_only x y zs a m).0) ih

  pub each_append : (a b : List ℕ) → Each R a → Each R b → ((x y : ℕ) → Memᴰ x a → Memᴰ y b → R x y) → Each R (a ++ b)
  each_append [] b none s h = s
  each_append (z ∷ zs) b (next g r) s h =
      next (λ y m. go y (Memᴰ.append_cases zs m)) (each_append zs b r s (λ x y m n. h x y (Memᴰ.tail m) n))
    where
      go : (y : ℕ) → Memᴰ y zs ⊎ Memᴰ y b → R z y
      go y (inl m) = g y m
      go y (inr m) = h z y (Memᴰ.head refl) m

-- keys by index
pub mem-get_or : (ks : List ℕ) (i : ℕ) → i < length ks → Memᴰ (get_or ks i 0) ks
mem-get_or [] i h = absurd (omega arith)
mem-get_or (y ∷ ys) zero h = Memᴰ.head refl
mem-get_or (y ∷ ys) (suc i) h = Memᴰ.tail (mem-get_or ys i (omega arith))

pub get_or-mem : (ks : List ℕ) {y : ℕ} → Memᴰ y ks → (i : ℕ) × (i < length ks) × (y ≡ get_or ks i 0)
get_or-mem [] m = absurd (Memᴰ.not-nil m)
get_or-mem (z ∷ zs) {y} m = go (Memᴰ.cases_cons m) (λ (a : Memᴰ y zs). get_or-mem zs a)
  where
    go : (y ≡ z) ⊎ Memᴰ y zs → (Memᴰ y zs → (i : ℕ) × (i < length zs) × (y ≡ get_or zs i 0))
        → (i : ℕ) × (i < suc (length zs)) × (y ≡ get_or (z ∷ zs) i 0)
    go (inl e) ih = (0, omega arith, e)
    go (inr h) ih = let a = ih h in (suc a.0, omega (arith, a.1), a.2)

pub rises-get_or : (ks : List ℕ) → Rises ks → (i j : ℕ) → i < j → j < length ks → get_or ks i 0 < get_or ks j 0
rises-get_or [] none i j h l = absurd (omega arith)
rises-get_or (z ∷ zs) (next a r) zero zero h l = absurd (omega arith)
rises-get_or (z ∷ zs) (next a r) zero (suc j) h l = a (get_or zs j 0) (mem-get_or zs j (omega arith))
rises-get_or (z ∷ zs) (next a r) (suc i) zero h l = absurd (omega arith)
rises-get_or (z ∷ zs) (next a r) (suc i) (suc j) h l = rises-get_or zs r i j (omega arith) (omega arith)

-- a member of a row that is listed stands at an index
pub listed-mem : (f : ℕ → ℕ) (i d : ℕ) {y : ℕ} → Memᴰ y (listed f i d) → (j : ℕ) × (i ≤ j) × (j < i + d) × (y ≡ f j)
listed-mem f i d m =
    let a = get_or-mem (listed f i d) m in
    let l : a.0 < d = rw (length-listed f i d) at a.1 in
    (i + a.0, omega arith, omega arith, a.2 ∙ get_or-listed f i d a.0 0 l)

-- such a row rises where each is below the next ones
pub listed_rises : (f : ℕ → ℕ) (i d : ℕ) → ((a b : ℕ) → i ≤ a → a < b → b < i + d → f a < f b) → Rises (listed f i d)
unfolding listed
listed_rises f i zero h = none
listed_rises f i (suc d) h =
    next (λ y m. go y (listed-mem f (i + 1) d m)) (listed_rises f (i + 1) d (λ a b p q r. h a b (omega arith) q (omega arith)))
  where
    go : (y : ℕ) → (j : ℕ) × (i + 1 ≤ j) × (j < i + 1 + d) × (y ≡ f j) → f i < y
    go y a = let l : f i < f a.0 = h i a.0 (omega arith) (omega (arith, a.1)) (omega (arith, a.2)) in rw a.3 l

-- distinct numbers from 1 to u are at most u
pub apart_length : (u : ℕ) (ks : List ℕ) → Apart ks → ((y : ℕ) → Memᴰ y ks → (1 ≤ y) × (y ≤ u)) → length ks ≤ u
apart_length zero [] r h = omega arith
apart_length zero (z ∷ zs) r h = absurd (let a = h z (Memᴰ.head refl) in omega (arith, a.0, a.1))
apart_length (suc u) ks r h =
    omega (
      arith,
      take_out_length (suc u) ks,
      first_in (λ y. eqb (suc u) y) ks,
      apart_length u (taken_out (suc u) ks) (take_out_each (suc u) ks r r)
          (λ y m. low y (take_out_only (suc u) y ks r m)),
    )
  where
    low : (y : ℕ) → Memᴰ y ks × (y ≢ suc u) → (1 ≤ y) × (y ≤ u)
    low y a = let b = h y a.0 in (b.0, omega (arith, b.1, a.1))
