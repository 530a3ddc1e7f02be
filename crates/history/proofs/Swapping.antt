-- Over a run: a record is drawn once, swaps at most once, and is done exactly from its swap on.
use mathlib.Core.Path.{◌≡◌}
use mathlib.Core.Logic.{◌⊎◌, inl, inr}
use Prim.Native.Nat.{ℕ, zero, suc, ◌+◌, ◌≤◌, ◌<◌}
use native.Mathlib.Decide.{ℕ_discrete, dec_le}
use native.Mathlib.Omega.{arith}
use Rattle.history.specs.View.{In}
use Rattle.history.specs.Shared.{Shared, Done, Failed}
use Rattle.history.specs.Change.{draw_replace, draw_prune, swap_replace, unflag_replace, mark, swap_prune, unflag_prune}
use Rattle.history.specs.Run.{Step, changes, rests, step_swaps, Run, SwapAt}
use Rattle.history.proofs.Route.{tri}
use Rattle.history.proofs.Invariant.{Sound}
use Rattle.history.proofs.Lasting.{grown, Swap}
use Rattle.history.proofs.Lasting.{swap_makes_done}
use Rattle.history.proofs.Opening.{done?, becomes_done, born_open}
use Rattle.history.proofs.Runs.{sound_at, done_at, failed_at}

-- a step draws one record at most
one_more : {k : ℕ} {S S' : Shared} → Step k S S' → S'.records ≤ S.records + 1
one_more (changes (draw_replace r p d)) = omega (arith, d.record_new.counted, d.record_new.next)
one_more (changes (draw_prune r gp d)) = omega (arith, d.record_new.counted, d.record_new.next)
one_more (changes (swap_replace r i h kd s e w same)) = omega (arith, same.records_same)
one_more (changes (unflag_replace r h kd e d w same)) = omega (arith, same.records_same)
one_more (changes (mark r h kd e w same)) = omega (arith, same.records_same)
one_more (changes (swap_prune r i other h kd mk j sj ej full d s e w same)) = omega (arith, same.records_same)
one_more (changes (unflag_prune r h kd e d w same)) = omega (arith, same.records_same)
one_more (rests e) = omega (arith, e.tables.records_same)

-- the run's own step at a moment from i to before j is the child swap of r
pub record SwapBetween (k : ℕ) (S : ℕ → Shared) (end : ℕ) (R : Run k S end) (r i j : ℕ) : Type 0 where
  pub when : ℕ
  pub from : i ≤ when
  pub before : when < j
  pub within : when < end
  pub is : step_swaps k (R.step when within) ≡ r

-- the step from a moment from i to before j draws record r
pub record DrawnAt (S : ℕ → Shared) (r i j : ℕ) : Type 0 where
  pub when : ℕ
  pub from : i ≤ when
  pub before : when < j
  pub next : r ≡ (S when).records + 1
  pub drawn : (S (suc when)).records ≡ r

module _ {k : ℕ} {S : ℕ → Shared} {end : ℕ} (hk : 2 ≤ k) (R : Run k S end) (I₀ : Sound k (S 0)) where
  -- what a swap of r at moment i says
  swap_says : (i r : ℕ) → 1 ≤ r → i < end → SwapAt k S r i → Swap k (S i) (S (suc i)) r
  swap_says i r hr h a = swap_makes_done hk (sound_at hk R I₀ i (omega arith)) a.step r a.is hr

  -- from its swap on a record is done
  pub swapped_done : (i j r : ℕ) → 1 ≤ r → i < j → j ≤ end → SwapAt k S r i → Done k (S j).view ((S j).rec r) r
  swapped_done i j r hr h hj a =
      let s = swap_says i r hr (omega arith) a in
      done_at hk R I₀ (suc i) j r h hj (omega (arith, s.used, (grown hk (sound_at hk R I₀ i (omega arith)) a.step).records_more))
      s.now

  swap_twice : (i j r : ℕ) → 1 ≤ r → i < j → j < end → SwapAt k S r i → SwapAt k S r j → ⊥
  swap_twice i j r hr h hj a b = (swap_says j r hr hj b).before (swapped_done i j r hr h (omega arith) a)

  pub one_swap : (i j r : ℕ) → 1 ≤ r → i < end → j < end → SwapAt k S r i → SwapAt k S r j → i ≡ j
  one_swap i j r hr hi hj a b = go (tri i j)
    where
      go : (i < j) ⊎ ((j < i) ⊎ (i ≡ j)) → i ≡ j
      go (inl h) = absurd (swap_twice i j r hr h hj a b)
      go (inr (inl h)) = absurd (swap_twice j i r hr h hi b a)
      go (inr (inr e)) = e

  -- a record that has failed never swaps
  pub failed_never : (i j r : ℕ) → 1 ≤ r → i ≤ j → j < end → In (S i).records r → Failed (S i).view ((S i).rec r) r → SwapAt k S r j → ⊥
  failed_never i j r hr h hj hi f b = (swap_says j r hr hj b).not_failed (failed_at hk R I₀ i j r h (omega arith) hi f)

  -- a record that was not done at i and is at j swapped in between
  pub swap_between : (i j r : ℕ) → i ≤ j → j ≤ end → In (S j).records r → Done k (S j).view ((S j).rec r) r
      → (In (S i).records r → ¬ Done k (S i).view ((S i).rec r) r) → SwapBetween k S end R r i j
  swap_between i zero r h hj hr d n = let z : i ≡ 0 = omega arith in absurd (n (rw z hr) (rw z d))
  swap_between i (suc j) r h hj hr d n = go (ℕ_discrete i (suc j)) (dec_le r (S j).records)
      (λ (l : i ≤ j) (a : In (S j).records r) (b : Done k (S j).view ((S j).rec r) r). swap_between i j r l (omega arith) a b n)
    where
      old : i ≤ j → In (S j).records r → Dec (Done k (S j).view ((S j).rec r) r)
          → (i ≤ j → In (S j).records r → Done k (S j).view ((S j).rec r) r → SwapBetween k S end R r i j)
          → SwapBetween k S end R r i (suc j)
      old l a (yes b) ih =
          let e = ih l a b in
          record { when = e.when; from = e.from; before = omega (arith, e.before); within = e.within; is = e.is }
      old l a (no b) ih =
          record {
            when = j;
            from = l;
            before = omega arith;
            within = hj;
            is = becomes_done hk (sound_at hk R I₀ j (omega arith))
                (R.step j hj) r a b d;
          }

      go : Dec (i ≡ suc j) → Dec (r ≤ (S j).records)
          → (i ≤ j → In (S j).records r → Done k (S j).view ((S j).rec r) r → SwapBetween k S end R r i j)
          → SwapBetween k S end R r i (suc j)
      go (yes z) c ih = absurd (n (rw z hr) (rw z d))
      go (no z) (yes c) ih =
          let a : In (S j).records r = omega (arith, hr.low) in
          old (omega arith) a (done? (omega arith) (sound_at hk R I₀ j (omega arith)) r a) ih
      go (no z) (no c) ih = absurd (born_open hk (sound_at hk R I₀ j (omega arith)) (R.step j hj) r hr (omega arith) d)

  -- a record in use at j and not at i was drawn in between, as the next one
  pub drawn_between : (i j r : ℕ) → i ≤ j → j ≤ end → (S i).records < r → r ≤ (S j).records → DrawnAt S r i j
  drawn_between i zero r h hj a b = let z : i ≡ 0 = omega arith in absurd (let y : (S 0).records < r = rw z at a in omega arith)
  drawn_between i (suc j) r h hj a b =
      go (ℕ_discrete i (suc j)) (dec_le r (S j).records) (λ (l : i ≤ j) (c : r ≤ (S j).records). drawn_between i j r l (omega arith) a c)
    where
      go : Dec (i ≡ suc j) → Dec (r ≤ (S j).records) → (i ≤ j → r ≤ (S j).records → DrawnAt S r i j) → DrawnAt S r i (suc j)
      go (yes z) c ih = absurd (let y : (S (suc j)).records < r = rw z at a in omega arith)
      go (no z) (yes c) ih =
          let e = ih (omega arith) c in
          record { when = e.when; from = e.from; before = omega (arith, e.before); next = e.next; drawn = e.drawn }
      go (no z) (no c) ih =
          let g = one_more (R.step j hj) in
          record { when = j; from = omega arith; before = omega arith; next = omega (arith, g); drawn = omega (arith, g) }
