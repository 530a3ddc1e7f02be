-- All that a busy process knows, by its point: a start gives it, and no step of another takes it away.
use mathlib.Core.Path.{◌≡◌, ◌∙◌}
use mathlib.Core.Logic.{◌≢◌}
use mathlib.Core.List.{Memᴰ}
use Prim.Native.Nat.{ℕ, zero, suc, ◌*◌, ◌-◌, ◌≤◌}
use native.Mathlib.Omega.{arith}
use Rattle.history.specs.View.{View, In, keys}
use Rattle.history.specs.Shared.{Shared, Done, Failed}
use Rattle.history.specs.Run.{Step}
use Rattle.history.proofs.Paths.{keys_same}
use Rattle.history.proofs.Invariant.{Sound}
use Rattle.history.proofs.Lasting.{grown}
use Rattle.history.proofs.Descent.{Way, Read, Up, Above, AtLeaf, Counted, way_stays, read_stays, up_stays}
use Rattle.history.proofs.Descent.{above_stays, leaf_stays, counted_stays}
use Rattle.history.proofs.Helps.{Helps, Ends, helps_stays}
use Rattle.history.proofs.Stacks.{Stacked, GoesOn, stack_stays, goes_on_stays}

-- a process record, as numbers: pending values are words, and `ones` counts the ones of the mask
pub record Mind : Type 0 where
  pub process : ℕ
  pub operation : ℕ
  pub key : ℕ
  pub point : ℕ
  pub gp : ℕ
  pub p : ℕ
  pub l : ℕ
  pub pseen : ℕ
  pub gseen : ℕ
  pub index : ℕ
  pub ones : ℕ
  pub helped : ℕ
  pub other : ℕ
  pub depth : ℕ
  pub stack : ℕ → ℕ
  pub own : ℕ

-- its own record: the one helped, or the bottom of the stack
pub data Owns (s : Shared) (M : Mind) : Type 0 where
  none_yet : M.own ≡ 0 → Owns s M
  owns : In s.records M.own → (s.rec M.own).process ≡ M.process → (s.rec M.own).operation ≡ M.operation
      → (s.rec M.own).key ≡ M.key → (M.depth ≡ 0 → M.helped ≡ M.own) → (1 ≤ M.depth → M.stack 0 ≡ M.own) → Owns s M

-- what 4 does with l: puts the key in, or takes it out
pub data Job (t : View) (M : Mind) : Type 0 where
  to_put : M.operation ≡ 2 → ¬ Memᴰ M.key (keys t M.l) → Job t M
  to_take : M.operation ≡ 3 → Memᴰ M.key (keys t M.l) → Job t M

-- points 3 to 5: at the leaf l, and p's pending was clean when read
pub record Arrived (k : ℕ) (S : ℕ → Shared) (i j : ℕ) (M : Mind) : Type 0 where
  pub e : ℕ
  pub p_clean : M.pseen ≡ 4 * e
  pub leaf : AtLeaf k S i j M.key M.p M.l e

-- points 3 and 5: gp's pending was clean too, and l has the key
pub record Deleting (k : ℕ) (S : ℕ → Shared) (i j : ℕ) (M : Mind) (a : ℕ) : Type 0 where
  pub arrived : Arrived k S i j M
  pub g : ℕ
  pub gp_clean : M.gseen ≡ 4 * g
  pub up : Up k S i j M.key M.gp M.p M.gseen
  pub has : Memᴰ M.key (keys (S j).view M.l)
  pub passed : a ≤ k
  pub counted : Counted (S j) M.p arrived.e a M.ones

-- 1: on the way down
pub record Descends (k : ℕ) (S : ℕ → Shared) (i j : ℕ) (M : Mind) : Type 0 where
  pub way : Way k S i j M.key M.p
  pub from : Above k S i j M.key M.gp M.p M.gseen

-- 2: and p's pending read
pub record Reads (k : ℕ) (S : ℕ → Shared) (i j : ℕ) (M : Mind) : Type 0 where
  pub descends : Descends k S i j M
  pub read : Read (S j) M.p M.pseen

-- 3: the children before the index are counted
pub record Counts (k : ℕ) (S : ℕ → Shared) (i j : ℕ) (M : Mind) : Type 0 where
  pub index_in : In k M.index
  pub delete : Deleting k S i j M (M.index - 1)

-- 4: ready to replace l
pub record Replaces (k : ℕ) (S : ℕ → Shared) (i j : ℕ) (M : Mind) : Type 0 where
  pub arrived : Arrived k S i j M
  pub job : Job (S j).view M

-- 5: ready to prune p
pub record Prunes (k : ℕ) (S : ℕ → Shared) (i j : ℕ) (M : Mind) : Type 0 where
  pub delete : Deleting k S i j M k
  pub two : M.ones ≡ 2
  pub one : (S j).view.tag M.l ≡ 1

-- 6 to 14: helping
pub record Serves (k : ℕ) (s : Shared) (M : Mind) (point : ℕ) : Type 0 where
  pub used : In s.records M.helped
  pub helps : Helps k s M.helped M.index M.other point
  pub stacked : Stacked k s M.stack M.depth
  pub goes_on : point ≡ 9 → GoesOn s M.stack M.depth M.helped
  pub on_top : point ≡ 10 → (d : ℕ) → M.depth ≡ suc d → M.helped ≡ M.stack d
  pub own : Owns s M

-- by the point
abbrev pub KnowsAt : ℕ → (ℕ → Shared) → ℕ → ℕ → Mind → ℕ → Type 0
KnowsAt k S i j M zero = ⊥
KnowsAt k S i j M (suc zero) = Descends k S i j M
KnowsAt k S i j M (suc (suc zero)) = Reads k S i j M
KnowsAt k S i j M (suc (suc (suc zero))) = Counts k S i j M
KnowsAt k S i j M (suc (suc (suc (suc zero)))) = Replaces k S i j M
KnowsAt k S i j M (suc (suc (suc (suc (suc zero))))) = Prunes k S i j M
KnowsAt k S i j M (suc (suc (suc (suc (suc (suc n)))))) = Serves k (S j) M (suc (suc (suc (suc (suc (suc n))))))

module _ {k : ℕ} {s s' : Shared} (hk : 2 ≤ k) (I : Sound k s) (c : Step k s s') where
  pub row_stays : (n : ℕ) → In s.nodes n → keys s'.view n ≡ keys s.view n
  row_stays n h = let g = grown hk I c in keys_same s.view s'.view n (g.tag_same n h) (g.key_same n h)

  job_stays : {M : Mind} → In s.nodes M.l → Job s.view M → Job s'.view M
  job_stays {M} h (to_put e m) = to_put e (rw (row_stays M.l h) m)
  job_stays {M} h (to_take e m) = to_take e (rw (row_stays M.l h) m)

  owns_stays : {M : Mind} → Owns s M → Owns s' M
  owns_stays (none_yet e) = none_yet e
  owns_stays {M} (owns h a b d e f) =
      let g = grown hk I c in
      owns (omega (arith, h, g.records_more)) (rw (g.rec_same M.own h) a) (rw (g.rec_same M.own h) b)
      (rw (g.rec_same M.own h) d) e f

module _ {k : ℕ} {S : ℕ → Shared} {i j : ℕ} {M : Mind} (hk : 2 ≤ k) (I : Sound k (S j)) (c : Step k (S j) (S (suc j))) where
  arrived_stays : Arrived k S i j M → Arrived k S i (suc j) M
  arrived_stays w = record { e = w.e; p_clean = w.p_clean; leaf = leaf_stays hk I c w.leaf }

  deleting_stays : {a : ℕ} → Deleting k S i j M a → Deleting k S i (suc j) M a
  unfolding arrived_stays
  deleting_stays d = record {
    arrived = arrived_stays d.arrived;
    g = d.g;
    gp_clean = d.gp_clean;
    up = up_stays hk I c d.up;
    has = rw (row_stays hk I c M.l d.arrived.leaf.used) d.has;
    passed = d.passed;
    counted = counted_stays hk I c d.arrived.leaf.way.used d.arrived.leaf.way.inner d.passed d.counted;
  }

module _ {k : ℕ} (S : ℕ → Shared) (i j : ℕ) (M : Mind) (hk : 2 ≤ k) (I : Sound k (S j)) (c : Step k (S j) (S (suc j))) where
  descends_on : Descends k S i j M → Descends k S i (suc j) M
  descends_on w = record { way = way_stays hk I c w.way; from = above_stays hk I c w.from }

  -- whoever takes the step
  pub stays_at : (point : ℕ) → KnowsAt k S i j M point → KnowsAt k S i (suc j) M point
  stays_at zero w = absurd w
  stays_at (suc zero) w = descends_on w
  stays_at (suc (suc zero)) w = record { descends = descends_on w.descends; read = read_stays hk I c w.descends.way.used w.read }
  stays_at (suc (suc (suc zero))) w = record { index_in = w.index_in; delete = deleting_stays hk I c w.delete }
  stays_at (suc (suc (suc (suc zero)))) w = record { arrived = arrived_stays hk I c w.arrived; job = job_stays hk I c w.arrived.leaf.used w.job }
  stays_at (suc (suc (suc (suc (suc zero))))) w = record {
    delete = deleting_stays hk I c w.delete;
    two = w.two;
    one = (grown hk I c).tag_same M.l w.delete.arrived.leaf.used ∙ w.one;
  }
  stays_at (suc (suc (suc (suc (suc (suc n)))))) w = record {
    used = omega (arith, w.used, (grown hk I c).records_more);
    helps = helps_stays hk I c M.helped M.index M.other (suc (suc (suc (suc (suc (suc n)))))) w.used w.helps;
    stacked = stack_stays hk I c w.stacked;
    goes_on = λ z. goes_on_stays hk I c w.stacked w.used (w.goes_on z);
    on_top = w.on_top;
    own = owns_stays hk I c w.own;
  }

-- help that ends at 8 or 14 with an empty stack has done the own record, if there is one: the answer is yes
pub own_done : {k : ℕ} {s : Shared} {M : Mind} {v : ℕ} → Ends k s M.helped v → Owns s M → M.depth ≡ 0 → M.own ≢ 0
    → Done k s.view (s.rec M.own) M.own
own_done w (none_yet e) d o = absurd (o e)
own_done w (owns a b c e f g) d o = rw (← f d) w.done

-- with a stack, the own record is at its bottom and has failed
pub own_failed : {s : Shared} {k : ℕ} {M : Mind} → Stacked k s M.stack M.depth → Owns s M → 1 ≤ M.depth → M.own ≢ 0
    → Failed s.view (s.rec M.own) M.own
own_failed st (none_yet e) h o = absurd (o e)
own_failed {s} {k} {M} st (owns a b c e f g) h o = rw (← g h) (st.failed 0 h)
