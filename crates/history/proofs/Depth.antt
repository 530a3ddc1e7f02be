-- Internal nodes above the dummy whose numbers rise are no more than the shape has room for: a help stack never passes its depth.
use mathlib.Core.Path.{◌≡◌, refl}
use Prim.Native.Nat.{ℕ, zero, suc, ◌+◌, ◌*◌, ◌-◌, ◌/◌, ◌≤◌, ◌<◌}
use native.Mathlib.Nat.{mul_comm, mul-le-mul_left, le-div_iff_mul-le}
use native.Mathlib.Decide.{dec_le}
use native.Mathlib.Omega.{arith}
use Rattle.history.specs.View.{View}
use Rattle.history.proofs.Invariant.{counts, inner_count, Shape}
use Rattle.history.proofs.Grow.{counts_yes}

-- d internal nodes above the dummy, each above the one before it
pub record Chain (k : ℕ) (t : View) (f : ℕ → ℕ) (d : ℕ) : Type 0 where
  pub inner : (i : ℕ) → i < d → t.tag (f i) ≡ k
  pub past_dummy : (i : ℕ) → i < d → 2 < f i
  pub rising : (i : ℕ) → suc i < d → f i < f (suc i)

chain_front : {k : ℕ} {t : View} {f : ℕ → ℕ} {d : ℕ} → Chain k t f (suc d) → Chain k t f d
chain_front c = record {
  inner = λ i h. c.inner i (omega arith);
  past_dummy = λ i h. c.past_dummy i (omega arith);
  rising = λ i h. c.rising i (omega arith);
}

-- the last is the greatest: it bounds the length
pub chain_count : {k : ℕ} {t : View} (f : ℕ → ℕ) (n d : ℕ) → Chain k t f d → ((e : ℕ) → suc e ≡ d → f e ≤ n) → d ≤ inner_count k t n
unfolding inner_count
chain_count {k} {t} f n zero c h = omega arith
chain_count {k} {t} f zero (suc e) c h = absurd (omega (arith, c.past_dummy e (omega arith), h e refl))
chain_count {k} {t} f (suc n) (suc e) c h =
    go (dec_le (f e) n) (λ (z : f e ≤ n). chain_count f n (suc e) c (λ a y. let b : a ≡ e = omega arith in rw b z))
    (λ z. chain_count f n e (chain_front c) z)
  where
    go : Dec (f e ≤ n) → (f e ≤ n → suc e ≤ inner_count k t n) → (((a : ℕ) → suc a ≡ e → f a ≤ n) → e ≤ inner_count k t n)
        → suc e ≤ counts k (suc n) (t.tag (suc n)) + inner_count k t n
    go (yes z) ih₁ ih₂ = omega (arith, ih₁ z)
    go (no z) ih₁ ih₂ =
        let b : f e ≡ suc n = omega (arith, h e refl) in
        let y : counts k (suc n) (t.tag (suc n)) ≡ 1 =
        counts_yes k (suc n) (t.tag (suc n)) (omega (arith, c.past_dummy e (omega arith))) (rw b at (c.inner e (omega arith))) in
        omega (arith, ih₂ (λ a g. let w : f a < f (suc a) = c.rising a (omega arith) in let v : f (suc a) ≡ suc n = rw g b in omega arith))

-- a stack of them has at most (limit - 2k - 1) div k
pub depth_bound : {k u : ℕ} {t : View} (f : ℕ → ℕ) (d limit : ℕ) → 1 ≤ k → Shape k u t → u ≤ limit → Chain k t f d
    → ((i : ℕ) → i < d → f i ≤ u) → d ≤ (limit - 2 * k - 1) / k
depth_bound {k} {u} {t} f d limit hk s hu c h =
    let a : d ≤ inner_count k t u = chain_count f u d c (λ e y. h e (omega arith)) in
    let b : k * d ≤ k * inner_count k t u = mul-le-mul_left k a in
    let e : d * k ≡ k * d = mul_comm d k in
    (le-div_iff_mul-le {k = k} {x = d} {y = limit - 2 * k - 1} hk).1 (omega (arith, s.room))
