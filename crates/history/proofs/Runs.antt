-- Over a run: the invariant at every moment, and what lasts from one moment to a later one.
use mathlib.Core.Path.{◌≡◌, refl, ◌∙◌}
use Prim.Native.Nat.{ℕ, zero, suc, ◌+◌, ◌*◌, ◌≤◌, ◌<◌}
use native.Mathlib.Decide.{ℕ_discrete}
use native.Mathlib.Omega.{arith}
use Rattle.history.specs.View.{In}
use Rattle.history.specs.Effects.{Grown}
use Rattle.history.specs.Shared.{Shared, Done, Failed}
use Rattle.history.specs.Run.{Step, Run}
use Rattle.history.proofs.Invariant.{Sound}
use Rattle.history.proofs.Keep.{step_keeps}
use Rattle.history.proofs.Lasting.{Frozen, grown, frozen, done_stays, failed_stays}

grown_none : {A : Shared} → Grown A A
grown_none = record {
  nodes_more = omega arith;
  records_more = omega arith;
  tag_same = λ n h. refl;
  key_same = λ n h. refl;
  rec_same = λ q h. refl;
}

grown_join : {A B C : Shared} → Grown A B → Grown B C → Grown A C
grown_join {A} {B} {C} a b = record {
  nodes_more = omega (arith, a.nodes_more, b.nodes_more);
  records_more = omega (arith, a.records_more, b.records_more);
  tag_same = λ n h. b.tag_same n (omega (arith, h, a.nodes_more)) ∙ a.tag_same n h;
  key_same = λ n h. b.key_same n (omega (arith, h, a.nodes_more)) ∙ a.key_same n h;
  rec_same = λ q h. b.rec_same q (omega (arith, h, a.records_more)) ∙ a.rec_same q h;
}

-- a run goes on by one step
pub run_more : {k : ℕ} {S : ℕ → Shared} {end : ℕ} → Run k S end → Step k (S end) (S (suc end)) → Run k S (suc end)
run_more {k} {S} {end} R c = record { step = λ i h. go i h (ℕ_discrete i end) }
  where
    go : (i : ℕ) → i < suc end → Dec (i ≡ end) → Step k (S i) (S (suc i))
    go i h (yes e) = rw e c
    go i h (no e) = R.step i (omega arith)

module _ {k : ℕ} {S : ℕ → Shared} {end : ℕ} (hk : 2 ≤ k) (R : Run k S end) (I₀ : Sound k (S 0)) where
  pub sound_at : (i : ℕ) → i ≤ end → Sound k (S i)
  sound_at zero h = I₀
  sound_at (suc i) h = step_keeps hk (sound_at i (omega arith)) (R.step i h)

  pub grown_at : (i j : ℕ) → i ≤ j → j ≤ end → Grown (S i) (S j)
  grown_at i zero h hj = let z : i ≡ 0 = omega arith in rw z grown_none
  grown_at i (suc j) h hj = go (ℕ_discrete i (suc j)) (λ (d : i ≤ j). grown_at i j d (omega arith))
    where
      go : Dec (i ≡ suc j) → (i ≤ j → Grown (S i) (S j)) → Grown (S i) (S (suc j))
      go (yes z) ih = rw z grown_none
      go (no z) ih = grown_join (ih (omega arith)) (grown hk (sound_at j (omega arith)) (R.step j hj))

  -- what a step keeps, a run keeps
  lasts : (P : Shared → Type 0) → ((j : ℕ) (h : j < end) → P (S j) → P (S (suc j))) → (i j : ℕ) → i ≤ j → j ≤ end → P (S i) → P (S j)
  lasts P next i zero h hj p = let z : i ≡ 0 = omega arith in rw z at p
  lasts P next i (suc j) h hj p = go (ℕ_discrete i (suc j)) (λ (d : i ≤ j). lasts P next i j d (omega arith) p)
    where
      go : Dec (i ≡ suc j) → (i ≤ j → P (S j)) → P (S (suc j))
      go (yes z) ih = rw z at p
      go (no z) ih = next j hj (ih (omega arith))

  pub done_at : (i j r : ℕ) → i ≤ j → j ≤ end → In (S i).records r → Done k (S i).view ((S i).rec r) r → Done k (S j).view ((S j).rec r) r
  done_at i j r h hj hr d =
      (lasts (λ s. In s.records r × Done k s.view (s.rec r) r)
      (λ a g p. (
        omega (arith, p.0, (grown hk (sound_at a (omega arith)) (R.step a g)).records_more),
        done_stays hk
            (sound_at a (omega arith)) r (R.step a g) p.0 p.1,
      )) i j h hj (hr, d)).1

  pub failed_at : (i j r : ℕ) → i ≤ j → j ≤ end → In (S i).records r → Failed (S i).view ((S i).rec r) r
      → Failed (S j).view ((S j).rec r) r
  failed_at i j r h hj hr d =
      (lasts (λ s. In s.records r × Failed s.view (s.rec r) r)
      (λ a g p. (
        omega (arith, p.0, (grown hk (sound_at a (omega arith)) (R.step a g)).records_more),
        failed_stays hk
            (sound_at a (omega arith)) r (R.step a g) p.0 p.1,
      )) i j h hj (hr, d)).1

  pub frozen_at : (i j n q : ℕ) → i ≤ j → j ≤ end → In (S i).nodes n → (S i).view.pend n ≡ 4 * q + 3 → Frozen k (S i) (S j) n
  frozen_at i zero n q h hj hn e = let z : i ≡ 0 = omega arith in rw z (record { pend_same = refl; kids_same = λ a i. refl })
  frozen_at i (suc j) n q h hj hn e = go (ℕ_discrete i (suc j)) (λ (d : i ≤ j). frozen_at i j n q d (omega arith) hn e)
    where
      one : i ≤ j → Frozen k (S i) (S j) n → Frozen k (S j) (S (suc j)) n → Frozen k (S i) (S (suc j)) n
      one d a b = record { pend_same = b.pend_same ∙ a.pend_same; kids_same = λ c i. b.kids_same c i ∙ a.kids_same c i }

      go : Dec (i ≡ suc j) → (i ≤ j → Frozen k (S i) (S j) n) → Frozen k (S i) (S (suc j)) n
      go (yes z) ih = rw z (record { pend_same = refl; kids_same = λ a i. refl })
      go (no z) ih = join (ih (omega arith))
        where
          join : Frozen k (S i) (S j) n → Frozen k (S i) (S (suc j)) n
          join a =
              one (omega arith) a (frozen hk (sound_at j (omega arith)) n q (R.step j hj)
              (omega (arith, (grown_at i j (omega arith) (omega arith)).nodes_more)) (a.pend_same ∙ e))
