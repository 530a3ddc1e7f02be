-- The rank of a pending word: its value for each kind, and that it tells clean words apart.
use mathlib.Core.Path.{◌≡◌, refl}
use Prim.Native.Nat.{ℕ, zero, suc, ◌+◌, ◌*◌, ◌/◌, ◌%◌, ◌<◌}
use native.Mathlib.Omega.{arith}
use Rattle.history.specs.Change.{rank, age_of_kind}

pub rank_clean : (r : ℕ) → rank (4 * r) ≡ 3 * r + 1
unfolding rank age_of_kind
rank_clean r =
    let a : 4 * r / 4 ≡ r = omega arith in
    let b : 4 * r % 4 ≡ 0 = omega arith in
    rw (a, b)

pub rank_replace : (r : ℕ) → rank (4 * r + 1) ≡ 3 * r
unfolding rank age_of_kind
rank_replace r =
    let a : (4 * r + 1) / 4 ≡ r = omega arith in
    let b : (4 * r + 1) % 4 ≡ 1 = omega arith in
    rw (a, b) (omega arith)

pub rank_prune : (r : ℕ) → rank (4 * r + 2) ≡ 3 * r
unfolding rank age_of_kind
rank_prune r =
    let a : (4 * r + 2) / 4 ≡ r = omega arith in
    let b : (4 * r + 2) % 4 ≡ 2 = omega arith in
    rw (a, b) (omega arith)

pub rank_mark : (r : ℕ) → rank (4 * r + 3) ≡ 3 * r + 2
unfolding rank age_of_kind
rank_mark r =
    let a : (4 * r + 3) / 4 ≡ r = omega arith in
    let b : (4 * r + 3) % 4 ≡ 3 = omega arith in
    rw (a, b)

age_clean : (m : ℕ) → m < 4 → age_of_kind m ≡ 1 → m ≡ 0
unfolding age_of_kind
age_clean zero h e = refl
age_clean (suc zero) h e = omega arith
age_clean (suc (suc zero)) h e = omega arith
age_clean (suc (suc (suc n))) h e = omega arith

age_small : (m : ℕ) → age_of_kind m < 3
unfolding age_of_kind
age_small zero = omega arith
age_small (suc zero) = omega arith
age_small (suc (suc zero)) = omega arith
age_small (suc (suc (suc n))) = omega arith

-- no other word has a clean word's rank
pub rank_same : (w r : ℕ) → rank w ≡ 3 * r + 1 → w ≡ 4 * r
unfolding rank
rank_same w r e =
    let c : w % 4 ≡ 0 = age_clean (w % 4) (omega arith) (omega (arith, age_small (w % 4))) in
    omega (arith, age_small (w % 4))
