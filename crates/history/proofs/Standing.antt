-- Which status a record has, read off from what a compare-and-swap shows, or from its being done or failed.
use mathlib.Core.Path.{◌≡◌, sym, ◌∙◌}
use mathlib.Core.Logic.{◌≢◌}
use Prim.Native.Nat.{ℕ, ◌+◌, ◌*◌, ◌≤◌, ◌<◌}
use native.Mathlib.Decide.{dec_lt}
use native.Mathlib.Omega.{arith}
use Rattle.history.specs.View.{View, In, route}
use Rattle.history.specs.Shared.{Desc, NoChild, Done, replaced, pruned, Failed}
use Rattle.history.specs.Change.{rank}
use Rattle.history.proofs.Rank.{rank_clean, rank_same}
use Rattle.history.proofs.Route.{route_slot}
use Rattle.history.proofs.Invariant.{GoodPrune, Waits, Over, Asks, Marked, Finished, Dropped, Status, waits, over, asks}
use Rattle.history.proofs.Invariant.{stands_marked, finished, dropped, Inv}

module _ {k u m : ℕ} {T : ℕ → Desc} {t : View} (hk : 1 ≤ k) (I : Inv k u m T t) (r : ℕ) (h : In m r) where
  -- a child of p that is l: the replace waits
  pub waiting : {i : ℕ} → (T r).kind ≡ 1 → In k i → t.child (T r).p i ≡ (T r).l → Waits k t (T r) r
  unfolding NoChild
  waiting {i} kd s e = go (I.status r h)
    where
      go : Status k t (T r) r → Waits k t (T r) r
      go (waits c v) = v
      go (over c v) = absurd (v.no_child i s e)
      go (asks c v) = absurd (omega arith)
      go (stands_marked c v) = absurd (omega arith)
      go (finished c v) = absurd (omega arith)
      go (dropped c v) = absurd (omega arith)

  pub done_over : (T r).kind ≡ 1 → Done k t (T r) r → Over k t (T r)
  unfolding NoChild
  done_over kd (pruned e a b) = absurd (omega arith)
  done_over kd (replaced e a) = go (I.status r h)
    where
      go : Status k t (T r) r → Over k t (T r)
      go (waits c v) = absurd (a (route k (t.key (T r).p) (T r).key) (route_slot k _ hk (T r).key) v.at)
      go (over c v) = v
      go (asks c v) = absurd (omega arith)
      go (stands_marked c v) = absurd (omega arith)
      go (finished c v) = absurd (omega arith)
      go (dropped c v) = absurd (omega arith)

  pub done_finished : (T r).kind ≡ 2 → Done k t (T r) r → Finished k t (T r) r
  unfolding NoChild
  done_finished kd (replaced e a) = absurd (omega arith)
  done_finished kd (pruned e mk a) = go (I.status r h)
    where
      go : Status k t (T r) r → Finished k t (T r) r
      go (waits c v) = absurd (omega arith)
      go (over c v) = absurd (omega arith)
      go (asks c v) = absurd (v.unmarked mk)
      go (stands_marked c v) = absurd (a (route k (t.key (T r).third) (T r).key) (route_slot k _ hk (T r).key) v.held.at)
      go (finished c v) = v
      go (dropped c v) = absurd (v.unmarked mk)

  -- the expected word is there: the prune asks
  pub asking : (T r).kind ≡ 2 → t.pend (T r).p ≡ (T r).expected → Asks k t (T r) r
  asking kd e = go (I.status r h)
    where
      g : GoodPrune k t (T r) r
      g = (I.good r h).prune kd

      go : Status k t (T r) r → Asks k t (T r) r
      go (waits c v) = absurd (omega arith)
      go (over c v) = absurd (omega arith)
      go (asks c v) = v
      go (stands_marked c v) = absurd (omega (arith, g.clean, v.mark))
      go (finished c v) = absurd (omega (arith, g.clean, v.mark))
      go (dropped c v) = absurd (let a : rank (T r).expected ≡ rank (t.pend (T r).p) = cc in omega (arith, v.late))

  -- marked, and a child of gp is p: the prune stands
  pub standing : {i : ℕ} → (T r).kind ≡ 2 → t.pend (T r).p ≡ 4 * r + 3 → In k i → t.child (T r).third i ≡ (T r).p → Marked k t (T r) r
  unfolding NoChild
  standing {i} kd mk s e = go (I.status r h)
    where
      go : Status k t (T r) r → Marked k t (T r) r
      go (waits c v) = absurd (omega arith)
      go (over c v) = absurd (omega arith)
      go (asks c v) = absurd (v.unmarked mk)
      go (stands_marked c v) = v
      go (finished c v) = absurd (v.no_child i s e)
      go (dropped c v) = absurd (v.unmarked mk)

  -- a word that has grown older than the expected one
  late_of : (T r).kind ≡ 2 → rank (T r).expected ≤ rank (t.pend (T r).p) → t.pend (T r).p ≢ (T r).expected
      → rank (T r).expected < rank (t.pend (T r).p)
  late_of kd a d = go (dec_lt (rank (T r).expected) (rank (t.pend (T r).p)))
    where
      g : GoodPrune k t (T r) r
      g = (I.good r h).prune kd

      e : rank (T r).expected ≡ 3 * g.seen + 1
      e = rw g.clean (rank_clean g.seen)

      go : Dec (rank (T r).expected < rank (t.pend (T r).p)) → rank (T r).expected < rank (t.pend (T r).p)
      go (yes z) = z
      go (no z) = absurd (d (rank_same (t.pend (T r).p) g.seen (omega (arith, e)) ∙ sym g.clean))

  pub failed_dropped : Failed t (T r) r → Dropped t (T r) r
  failed_dropped f = go (I.status r h)
    where
      kd : (T r).kind ≡ 2
      kd = f.prune

      go : Status k t (T r) r → Dropped t (T r) r
      go (waits c v) = absurd (omega (arith, f.prune))
      go (over c v) = absurd (omega (arith, f.prune))
      go (asks c v) = record { late = late_of kd v.age f.moved; unmarked = f.unmarked }
      go (stands_marked c v) = absurd (f.unmarked v.mark)
      go (finished c v) = absurd (f.unmarked v.mark)
      go (dropped c v) = v
