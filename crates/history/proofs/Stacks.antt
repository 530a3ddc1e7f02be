-- The help stack: failed prunes, each entry's gp the p of the one below; so its length is bounded.
use mathlib.Core.Path.{◌≡◌}
use Prim.Native.Nat.{ℕ, suc, ◌*◌, ◌-◌, ◌/◌, ◌≤◌, ◌<◌}
use native.Mathlib.Decide.{ℕ_discrete}
use native.Mathlib.Omega.{arith}
use Rattle.history.specs.View.{In}
use Rattle.history.specs.Effects.{Grown}
use Rattle.history.specs.Shared.{Shared, Failed}
use Rattle.history.specs.Run.{Step}
use Rattle.history.proofs.Invariant.{Sound}
use Rattle.history.proofs.Lasting.{grown, failed_stays}
use Rattle.history.proofs.Depth.{Chain, depth_bound}

-- entries 0 to d - 1 of a stack, from its bottom
pub record Stacked (k : ℕ) (S : Shared) (f : ℕ → ℕ) (d : ℕ) : Type 0 where
  pub used : (i : ℕ) → i < d → In S.records (f i)
  pub failed : (i : ℕ) → i < d → Failed S.view (S.rec (f i)) (f i)
  pub linked : (i : ℕ) → suc i < d → (S.rec (f (suc i))).third ≡ (S.rec (f i)).p

-- record r goes on where the stack ends
pub record GoesOn (S : Shared) (f : ℕ → ℕ) (d r : ℕ) : Type 0 where
  pub next : (e : ℕ) → suc e ≡ d → (S.rec r).third ≡ (S.rec (f e)).p

pub stack_empty : {k : ℕ} {S : Shared} {f : ℕ → ℕ} → Stacked k S f 0
stack_empty = record { used = λ i h. absurd (omega arith); failed = λ i h. absurd (omega arith); linked = λ i h. absurd (omega arith) }

-- the words below are those that they were, and the new top is r
pub stack_push : {k : ℕ} {S : Shared} {f f' : ℕ → ℕ} {d r : ℕ} → ((i : ℕ) → i < d → f' i ≡ f i) → f' d ≡ r → In S.records r
    → Failed S.view (S.rec r) r → GoesOn S f d r → Stacked k S f d → Stacked k S f' (suc d)
stack_push {k} {S} {f} {f'} {d} {r} same new h fl g s = record {
  used = λ i a. us i a (ℕ_discrete i d);
  failed = λ i a. fa i a (ℕ_discrete i d);
  linked = λ i a. li i a (ℕ_discrete (suc i) d);
}
  where
    us : (i : ℕ) → i < suc d → Dec (i ≡ d) → In S.records (f' i)
    us i a (yes e) = rw (e, new) h
    us i a (no e) = rw (same i (omega arith)) (s.used i (omega arith))

    fa : (i : ℕ) → i < suc d → Dec (i ≡ d) → Failed S.view (S.rec (f' i)) (f' i)
    fa i a (yes e) = rw (e, new) fl
    fa i a (no e) = rw (same i (omega arith)) (s.failed i (omega arith))

    li : (i : ℕ) → suc i < suc d → Dec (suc i ≡ d) → (S.rec (f' (suc i))).third ≡ (S.rec (f' i)).p
    li i a (yes e) = rw (same i (omega arith), e, new) (g.next i e)
    li i a (no e) = rw (same i (omega arith), same (suc i) (omega arith)) (s.linked i (omega arith))

-- the record met at the p of the new top goes on from there, if it is a prune
pub goes_on_next : {S : Shared} {f : ℕ → ℕ} {d r q : ℕ} → f d ≡ r → (S.rec q).third ≡ (S.rec r).p → GoesOn S f (suc d) q
goes_on_next {S} {f} {d} {r} {q} new e = record { next = λ a z. (let b : a ≡ d = omega arith in rw (b, new) e) }

-- the lower entries of a stack, in words that are as they were: after a pop, and where nothing moved
pub stack_front : {k : ℕ} {S : Shared} {f f' : ℕ → ℕ} {d e : ℕ} → e ≤ d → ((i : ℕ) → i < e → f' i ≡ f i) → Stacked k S f d
    → Stacked k S f' e
stack_front {k} {S} {f} {f'} {d} {e} l same s = record {
  used = λ i a. rw (same i a) (s.used i (omega arith));
  failed = λ i a. rw (same i a) (s.failed i (omega arith));
  linked = λ i a. rw (same i (omega arith), same (suc i) a) (s.linked i (omega arith));
}

module _ {k : ℕ} {S S' : Shared} (hk : 2 ≤ k) (I : Sound k S) (c : Step k S S') where
  pub stack_stays : {f : ℕ → ℕ} {d : ℕ} → Stacked k S f d → Stacked k S' f d
  stack_stays {f} {d} s = go (grown hk I c)
    where
      go : Grown S S' → Stacked k S' f d
      go g = record {
        used = λ i h. omega (arith, s.used i h, g.records_more);
        failed = λ i h. failed_stays hk I (f i) c (s.used i h) (s.failed i h);
        linked =
            λ i h. rw (g.rec_same (f (suc i)) (s.used (suc i) h), g.rec_same (f i) (s.used i (omega arith)))
            (s.linked i h);
      }

  pub goes_on_stays : {f : ℕ → ℕ} {d r : ℕ} → Stacked k S f d → In S.records r → GoesOn S f d r → GoesOn S' f d r
  goes_on_stays {f} {d} {r} s h n = go (grown hk I c)
    where
      go : Grown S S' → GoesOn S' f d r
      go g = record { next = λ e z. rw (g.rec_same r h, g.rec_same (f e) (s.used e (omega arith))) (n.next e z) }

-- the p's of the entries are internal nodes above the dummy, each above the one below
pub stack_chain : {k : ℕ} {S : Shared} (f : ℕ → ℕ) (d : ℕ) → Sound k S → Stacked k S f d → Chain k S.view (λ i. (S.rec (f i)).p) d
stack_chain {k} {S} f d I s = record {
  inner = λ i h. (I.inv.good (f i) (s.used i h)).inner;
  past_dummy = λ i h. ((I.inv.good (f i) (s.used i h)).prune (s.failed i h).prune).past_dummy;
  rising = λ i h. rw (← s.linked i h) ((I.inv.good (f (suc i)) (s.used (suc i) h)).prune (s.failed (suc i) h).prune).gp_above;
}

pub stack_depth : {k : ℕ} {S : Shared} (f : ℕ → ℕ) (d limit : ℕ) → 2 ≤ k → Sound k S → S.nodes ≤ limit → Stacked k S f d
    → d ≤ (limit - 2 * k - 1) / k
stack_depth {k} {S} f d limit hk I l s =
    depth_bound (λ i. (S.rec (f i)).p) d limit (omega arith) I.inv.shape l (stack_chain f d I s)
    (λ i h. let g = I.inv.good (f i) (s.used i h) in omega (arith, g.above, g.used))
