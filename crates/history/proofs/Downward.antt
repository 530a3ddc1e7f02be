-- 1 to 3: what each row reads leads from what is known at its point to what is known at the next. M is the record before, N after.
use mathlib.Core.Path.{◌≡◌, ◌∙◌}
use mathlib.Core.Logic.{◌≢◌}
use mathlib.Core.List.{Memᴰ}
use Prim.Native.Nat.{ℕ, suc, ◌+◌, ◌*◌, ◌-◌, ◌≤◌, ◌<◌}
use native.Mathlib.Omega.{arith}
use Rattle.tables.specs.Numbers.{infinity}
use Rattle.history.specs.View.{route, keys}
use Rattle.history.specs.Shared.{Shared}
use Rattle.history.specs.Run.{Run}
use Rattle.history.proofs.Invariant.{Sound}
use Rattle.history.proofs.Runs.{sound_at}
use Rattle.history.proofs.Pairs.{full}
use Rattle.history.proofs.Descent.{Up, Above, at_root, above, Counted, read_now, go_down, up_from, leaf_below, leaf_met_lem}
use Rattle.history.proofs.Descent.{count_start, count_next}
use Rattle.history.proofs.Knows.{Mind, Job, to_take, Arrived, Deleting, Descends, Reads, Counts, Replaces, Prunes}

module _ {k : ℕ} {S : ℕ → Shared} {i j : ℕ} {M : Mind} (N : Mind) (hk : 2 ≤ k) (R : Run k S j) (I₀ : Sound k (S 0))
    (same_key : N.key ≡ M.key) where
  -- 1: p's pending read
  pub row_1 : Descends k S i j M → N.p ≡ M.p → N.gp ≡ M.gp → N.gseen ≡ M.gseen → N.pseen ≡ (S j).view.pend M.p → Reads k S i j N
  row_1 w p gp gs ps = record {
    descends = record { way = rw (same_key, p) w.way; from = rw (same_key, gp, p, gs) w.from };
    read = rw (p, ps) (read_now (sound_at hk R I₀ j (omega arith)) w.way.used);
  }

  module _ {c : ℕ} (w : Reads k S i j M) (got : (S j).view.child M.p (route k ((S j).view.key M.p) M.key) ≡ c) where
    -- 2: an internal child
    pub row_2_down : (S j).view.tag c ≡ k → N.p ≡ c → N.gp ≡ M.p → N.gseen ≡ M.pseen → Descends k S i j N
    row_2_down q p gp gs = record {
      way = rw (same_key, p) (go_down hk R I₀ w.descends.way got q);
      from = rw (same_key, gp, p, gs) (above (up_from hk R I₀ w.descends.way got w.read));
    }

    module _ (fin : M.key < infinity) (q : (S j).view.tag c ≢ k) (e : ℕ) (clean : M.pseen ≡ 4 * e) (p : N.p ≡ M.p) (l : N.l ≡ c)
        (ps : N.pseen ≡ M.pseen) where
      arrived : Arrived k S i j N
      arrived = record {
        e = e;
        p_clean = ps ∙ clean;
        leaf = rw (same_key, p, l) (leaf_met_lem hk R I₀ w.descends.way got e (rw clean at w.read) fin q);
      }

      -- 2: a leaf, and p's pending clean: to 4
      pub row_2_replace : Job (S j).view N → Replaces k S i j N
      row_2_replace job = record { arrived = arrived; job = job }

      -- 2: for a delete, gp's clean too: to 3
      pub row_2_count : (g : ℕ) → M.gseen ≡ 4 * g → N.gp ≡ M.gp → N.gseen ≡ M.gseen → Memᴰ N.key (keys (S j).view c)
          → N.index ≡ 1 → N.ones ≡ 0 → Counts k S i j N
      unfolding arrived
      row_2_count g gclean gp gs has one none = record {
        index_in = omega arith;
        delete = (let z : N.index - 1 ≡ 0 = omega arith in rw z start);
      }
        where
          up : Above k S i j M.key M.gp M.p M.gseen → Up k S i j M.key M.gp M.p M.gseen
          up (at_root a b) = absurd (omega (arith, leaf_below hk R I₀ w.descends.way got fin q))
          up (above u) = u

          start : Deleting k S i j N 0
          start = record {
            arrived = arrived;
            g = g;
            gp_clean = gs ∙ gclean;
            up = rw (same_key, gp, p, gs) (up w.descends.from);
            has = rw l has;
            passed = omega arith;
            counted = rw (p, none) (count_start hk R I₀ (leaf_met_lem hk R I₀ w.descends.way got e (rw clean at w.read) fin q));
          }

  module _ (w : Counts k S i j M) (p : N.p ≡ M.p) (l : N.l ≡ M.l) (gp : N.gp ≡ M.gp) (ps : N.pseen ≡ M.pseen)
      (gs : N.gseen ≡ M.gseen)
      (more : N.ones ≡ full ((S j).view.tag ((S j).view.child M.p M.index)) + M.ones) where
    -- 3: one child more is counted
    counts_on : Deleting k S i j N M.index
    counts_on = record {
      arrived = record {
        e = w.delete.arrived.e;
        p_clean = ps ∙ w.delete.arrived.p_clean;
        leaf = rw (same_key, p, l) w.delete.arrived.leaf;
      };
      g = w.delete.g;
      gp_clean = gs ∙ w.delete.gp_clean;
      up = rw (same_key, gp, p, gs) w.delete.up;
      has = rw (same_key, l) w.delete.has;
      passed = w.index_in.high;
      counted = rw (p, more) counted;
    }
      where
        counted : Counted (S j) M.p w.delete.arrived.e M.index (full ((S j).view.tag ((S j).view.child M.p M.index)) + M.ones)
        counted =
            let z : suc (M.index - 1) ≡ M.index = omega (arith, w.index_in) in
            rw z at (count_next hk R I₀ w.delete.arrived.leaf (omega (arith, w.index_in)) w.delete.counted)

    pub row_3_next : M.index < k → N.index ≡ suc M.index → Counts k S i j N
    row_3_next h n = record {
      index_in = omega (arith, w.index_in);
      delete = (let z : N.index - 1 ≡ M.index = omega arith in rw z counts_on);
    }

    -- 3: after child k: two that are not empty and one key in l: to 5; else to 4
    pub row_3_prune : M.index ≡ k → N.ones ≡ 2 → (S j).view.tag N.l ≡ 1 → Prunes k S i j N
    row_3_prune z two one = record { delete = rw z at counts_on; two = two; one = one }

    pub row_3_replace : N.operation ≡ 3 → Replaces k S i j N
    row_3_replace op = record { arrived = counts_on.arrived; job = to_take op counts_on.has }
