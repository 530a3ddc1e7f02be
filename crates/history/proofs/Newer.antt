-- Over a run that begins with no record standing: only records drawn in it ever stand, and only they are named by the flags and marks of nodes that
-- have been in the tree.
use mathlib.Core.Path.{◌≡◌, sym, ap, ◌∙◌}
use Prim.Native.Nat.{ℕ, zero, suc, ◌+◌, ◌*◌, ◌≤◌, ◌<◌}
use native.Mathlib.Decide.{dec_le}
use native.Mathlib.Omega.{arith}
use Rattle.history.specs.View.{In, route, On, Reach, by}
use Rattle.history.specs.Shared.{Desc, Shared, pruned, Stands, stands_replace, stands_prune}
use Rattle.history.specs.Change.{rank, draw_replace, draw_prune, swap_replace, unflag_replace, mark, swap_prune, unflag_prune}
use Rattle.history.specs.Run.{Step, changes, rests, Run, Moment}
use Rattle.history.proofs.Route.{route_slot}
use Rattle.history.proofs.Paths.{on_reach}
use Rattle.history.proofs.Invariant.{Word, clean, replacing, pruning, marked, Status, waits, over, asks, stands_marked, finished, dropped, Sound}
use Rattle.history.proofs.Touch.{reach_used}
use Rattle.history.proofs.Standing.{done_finished}
use Rattle.history.proofs.Runs.{sound_at, grown_at, done_at, failed_at}
use Rattle.history.proofs.Quiet.{stands_before}
use Rattle.history.proofs.Swapping.{DrawnAt, drawn_between}

-- node n was in the tree at a moment up to j
abbrev pub Been : ℕ → (ℕ → Shared) → ℕ → ℕ → Type 0
Been k S j n = Moment 0 j (λ m. Reach k (S m).view n)

module _ {k : ℕ} {S : ℕ → Shared} {end : ℕ} (hk : 2 ≤ k) (R : Run k S end) (I₀ : Sound k (S 0)) where
  pub been_used : {j n : ℕ} → j ≤ end → Been k S j n → In (S j).nodes n
  been_used {j} {n} hj w =
      let u = reach_used (omega arith) (sound_at hk R I₀ w.when (omega (arith, w.to))).inv.shape w.holds in
      omega (arith, u, (grown_at hk R I₀ w.when j w.to hj).nodes_more)

  -- a node that was on a path
  pub been_on : {i j x n : ℕ} → Moment i j (λ m. On k (S m).view x n) → Been k S j n
  been_on w = record { when = w.when; from = omega arith; to = w.to; holds = on_reach k (omega arith) w.holds }

  -- the p of a record that was drawn in the run was in the tree then
  pub been_p : (j r : ℕ) → j ≤ end → (S 0).records < r → r ≤ (S j).records → Been k S j ((S j).rec r).p
  been_p j r hj a b = from (drawn_between hk R I₀ 0 j r (omega arith) hj a b)
    where
      from : DrawnAt S r 0 j → Been k S j ((S j).rec r).p
      from d = go (R.step d.when (omega (arith, d.before)))
        where
          later : (S j).rec r ≡ (S (suc d.when)).rec r
          later = (grown_at hk R I₀ (suc d.when) j d.before hj).rec_same r (omega (arith, d.drawn, d.next))

          more : (S (suc d.when)).records ≡ (S d.when).records → ⊥
          more e = omega (arith, d.next, d.drawn)

          at : (p : ℕ) → ((S (suc d.when)).rec r).p ≡ p → Reach k (S d.when).view p → Been k S j ((S j).rec r).p
          at p e o = rw (later, e) (record { when = d.when; from = omega arith; to = omega (arith, d.before); holds = o })

          go : Step k (S d.when) (S (suc d.when)) → Been k S j ((S j).rec r).p
          go (changes (draw_replace q p w)) =
              let z : q ≡ r = sym w.record_new.counted ∙ d.drawn in
              at p (rw (← z) (ap (λ (v : Desc). v.p) w.record_new.words)) (on_reach k (omega arith) w.on)
          go (changes (draw_prune q gp w)) =
              let z : q ≡ r = sym w.record_new.counted ∙ d.drawn in
              at w.p (rw (← z) (ap (λ (v : Desc). v.p) w.record_new.words))
              (by (route k ((S d.when).view.key gp) w.x) (on_reach k (omega arith) w.on) w.inner (route_slot k _ (omega arith) w.x) (sym w.at))
          go (changes (swap_replace q i h kd s e w same)) = absurd (more same.records_same)
          go (changes (unflag_replace q h kd e x w same)) = absurd (more same.records_same)
          go (changes (mark q h kd e w same)) = absurd (more same.records_same)
          go (changes (swap_prune q i other h kd mk c sj ej full x s e w same)) = absurd (more same.records_same)
          go (changes (unflag_prune q h kd e x w same)) = absurd (more same.records_same)
          go (rests e) = absurd (more e.tables.records_same)

  module _ (none : (r : ℕ) → In (S 0).records r → ¬ Stands (S 0).view ((S 0).rec r) r) where
    old_used : (j r : ℕ) → j ≤ end → In (S 0).records r → In (S j).records r
    old_used j r hj h = omega (arith, h, (grown_at hk R I₀ 0 j (omega arith) hj).records_more)

    never_stands : (j r : ℕ) → j ≤ end → In (S 0).records r → ¬ Stands (S j).view ((S j).rec r) r
    never_stands zero r hj h st = none r h st
    never_stands (suc j) r hj h st =
        never_stands j r (omega arith) h (stands_before hk (sound_at hk R I₀ j (omega arith)) (R.step j hj) r (old_used j r (omega arith) h) st)

    pub stands_new : (j r : ℕ) → j ≤ end → In (S j).records r → Stands (S j).view ((S j).rec r) r → (S 0).records < r
    stands_new j r hj h st = go (dec_le r (S 0).records)
      where
        go : Dec (r ≤ (S 0).records) → (S 0).records < r
        go (yes l) = absurd (never_stands j r hj (omega (arith, h.low)) st)
        go (no l) = omega arith

    -- an old prune has finished or is dropped: its p has left the tree, or never bears its mark
    mark_new : (j n r : ℕ) → j ≤ end → Been k S j n → In (S j).records r → ((S j).rec r).kind ≡ 2 → ((S j).rec r).p ≡ n → (S j).view.pend n ≡ 4 * r + 3
        → (S 0).records < r
    mark_new j n r hj w h kd pn mk = go (dec_le r (S 0).records)
      where
        old : In (S 0).records r → Status k (S 0).view ((S 0).rec r) r → ⊥
        old u s = by_status s
          where
            same : (m : ℕ) → m ≤ end → (S m).rec r ≡ (S 0).rec r
            same m hm = (grown_at hk R I₀ 0 m (omega arith) hm).rec_same r u

            kd₀ : ((S 0).rec r).kind ≡ 2
            kd₀ = ap (λ (d : Desc). d.kind) (sym (same j hj)) ∙ kd

            at : (m : ℕ) → m ≤ end → ((S m).rec r).p ≡ n
            at m hm = ap (λ (d : Desc). d.p) (same m hm ∙ sym (same j hj)) ∙ pn

            by_status : Status k (S 0).view ((S 0).rec r) r → ⊥
            by_status (waits a v) = omega (arith, kd₀)
            by_status (over a v) = omega (arith, kd₀)
            by_status (asks a v) = none r u (stands_prune a v.held.flag)
            by_status (stands_marked a v) = none r u (stands_prune a v.held.flag)
            by_status (finished a v) =
                let m = w.when in
                let hm : m ≤ end = omega (arith, w.to) in
                (done_finished (omega arith) (sound_at hk R I₀ m hm).inv r (old_used m r hm u) (ap (λ (d : Desc). d.kind) (same m hm) ∙ a)
                (done_at hk R I₀ 0 m r (omega arith) hm u (pruned a v.mark v.no_child))).gone (rw (at m hm) w.holds)
            by_status (dropped a v) =
                (failed_at hk R I₀ 0 j r (omega arith) hj u (record {
                  prune = a;
                  moved = λ e. (let z : rank ((S 0).rec r).expected ≡ rank ((S 0).view.pend ((S 0).rec r).p) = cc in omega (arith, v.late));
                  unmarked = v.unmarked;
                })).unmarked (rw pn mk)

        go : Dec (r ≤ (S 0).records) → (S 0).records < r
        go (yes l) = let u : In (S 0).records r = omega (arith, h.low) in absurd (old u (I₀.inv.status r u))
        go (no l) = omega arith

    -- a flag or a mark that is seen on a node that has been in the tree
    pub seen_new : (j n : ℕ) → j ≤ end → Been k S j n → (r kind : ℕ) → 1 ≤ kind → kind ≤ 3 → (S j).view.pend n ≡ 4 * r + kind → (S 0).records < r
    seen_new j n hj w r kind low high e = go ((sound_at hk R I₀ j hj).inv.pending n (been_used hj w))
      where
        go : Word (S j).records (S j).rec n ((S j).view.pend n) → (S 0).records < r
        go (clean c f o) = absurd (omega arith)
        go (replacing q f h kd p) = let z : q ≡ r = omega arith in rw (← z) (stands_new j q hj h (stands_replace kd (rw p f)))
        go (pruning q f h kd p) = let z : q ≡ r = omega arith in rw (← z) (stands_new j q hj h (stands_prune kd (rw p f)))
        go (marked q f h kd p) = let z : q ≡ r = omega arith in rw (← z) (mark_new j n q hj w h kd p f)
