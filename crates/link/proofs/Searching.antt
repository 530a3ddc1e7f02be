-- Rows 1 and 2: down the tree, to an answer, to 3 or 4, or to help.
use Prim.Native.Nat.{ℕ, ◌+◌, ◌*◌, ◌-◌, ◌^◌, ◌≤◌, ◌<◌}
use mathlib.Core.Path.{◌≡◌, refl, sym, ap, ◌∙◌, subst}
use mathlib.Core.Logic.{◌≢◌, inr}
use mathlib.Core.Bool.{Bool, true, false, not}
use mathlib.Core.List.{List, Memᴰ}
use native.Mathlib.Omega.{arith}
use native.Mathlib.Decide.{ℕ_discrete}
use lib.Pow.{pow_pos}
use lib.Count.{ones, ones_in}
use lib.Dec.{eqb}
use borrow.Author.Tests.{eqb-true, eqb-false, ne_eqb}
use Rattle.tables.specs.Choice.{pick, both}
use Rattle.tables.specs.Layout.{tag_word, child_word, pending_word}
use Rattle.nodes.specs.Pending.{word_of, pending_of}
use Rattle.nodes.specs.Keys.{keys_of, rises, holds, route_of}
use Rattle.tables.specs.declared.header.Header.{Header}
use Rattle.nodes.specs.declared.node.Kin.{Kin}
use Rattle.nodes.specs.declared.node.Kin.TheVariants.{Leaf, Internal}
use Rattle.nodes.specs.declared.pending.Pending.{Pending}
use Rattle.nodes.specs.declared.pending.Pending.TheVariants.{Clean, Replace, Prune, Mark}
use Rattle.nodes.proofs.Written.{pending_word_lem, word_pending}
use Rattle.tables.proofs.Picks.{both_is}
use Rattle.process.specs.declared.Process.{Process}
use Rattle.process.specs.Process.{with_point, with_p_seen, with_l, descended_of, to_three, is_clean_of}
use Rattle.process.specs.Answer.{answer, going_on}
use Rattle.help.specs.Help.{helping}
use Rattle.help.specs.Reads.{child_good, kin_at}
use Rattle.points.specs.Rows.{touch2, row1, row2, insert_at, delete_at, find_at, at_leaf, at_child, leaf_good2}
use Rattle.history.specs.View.{In, route, keys}
use Rattle.history.specs.Shared.{Shared}
use Rattle.history.proofs.Invariant.{Sound}
use Rattle.history.proofs.Newer.{been_on}
use Rattle.history.proofs.Stacks.{Stacked, stack_empty}
use Rattle.history.proofs.Descent.{Read, Above, at_root, above, child_used, child_above, leaf_below, leaf_has, leaf_lacks}
use Rattle.history.proofs.Knows.{Mind, to_put, KnowsAt, Descends, Reads}
use Rattle.history.proofs.Downward.{row_1, row_2_down, row_2_replace, row_2_count}
use Rattle.link.specs.Tables.{stack_of}
use Rattle.link.proofs.Keyed.{keys_are, route_are, holds-mem, holds_not, sorted_rises}
use Rattle.link.proofs.Checks.{Names, Late, word_names, kin_internal, kin_leaf, below_good, pending_good_lem}
use Rattle.link.proofs.Minds.{mind_of, HeldBy, NewerBy, Counters, CountersBy}
use Rattle.link.proofs.Moments.{tables, Now, Busy, found, missing, there, not_there, Follows, already, answers, Turn, k_low, now_sound, late_at, quiet}
use Rattle.link.proofs.Seeing.{free, helps_on}

-- the numbers of points 1 to 5
pub counters_early : {k operation key point index mask depth own : ℕ} (point' index' mask' : ℕ) → Counters k operation key point index mask depth own → point ≤ 5
    → 1 ≤ point' → point' ≤ 5 → (operation ≡ 1 → point' ≤ 2) → (operation ≡ 2 → point' ≢ 3) → (operation ≡ 2 → point' ≢ 5) → index' ≤ k → mask' < 2 ^ k
    → (point' ≡ 3 → mask' < 2 ^ (index' - 1)) → Counters k operation key point' index' mask' depth own
counters_early point' index' mask' c l a d e f g i m x = record {
  op_low = c.op_low;
  op_high = c.op_high;
  finite = c.finite;
  point_low = a;
  point_high = omega arith;
  find = e;
  insert_3 = f;
  insert_5 = g;
  index_high = i;
  mask_high = m;
  early_depth = λ z. c.early_depth l;
  early_own = λ z. c.early_own l;
  masked = x;
  index_6 = λ y z. absurd (omega arith);
  ten = λ z. absurd (omega arith);
  index_11 = λ y z. absurd (omega arith);
}

pub clean_of : (v : Pending) → is_clean_of v ≡ true → (e : ℕ) × (v ≡ Clean e)
clean_of (Clean e) z = (e, refl)
clean_of (Replace e) z = absurd (let y : ◌≡◌ {A = ℕ} 0 1 = cc in omega arith)
clean_of (Prune e) z = absurd (let y : ◌≡◌ {A = ℕ} 0 1 = cc in omega arith)
clean_of (Mark e) z = absurd (let y : ◌≡◌ {A = ℕ} 0 1 = cc in omega arith)

pub clean_word : (v : Pending) (e : ℕ) → v ≡ Clean e → word_of v ≡ 4 * e
clean_word v e z = ap word_of z ∙ add0 (4 * e)
  where
    add0 : (x : ℕ) → x + 0 ≡ x
    add0 x = omega arith

module _ {hs : ℕ → Header} {bs : ℕ → List ℕ} {i j n : ℕ} (now : Now hs bs j) (q : Process) (y : Busy hs bs i j n q) where
  abbrev h : Header
  h = hs j

  abbrev b : List ℕ
  b = bs j

  abbrev k : ℕ
  k = (hs j).k

  abbrev S : ℕ → Shared
  S = tables hs bs

  abbrev mind : Mind
  mind = mind_of (hs j) (bs j) n q

  I : Sound k (S j)
  I = now_sound now

  pub known : (m : ℕ) → q.point ≡ m → KnowsAt k S i j mind m
  known m e = subst (λ (x : ℕ). KnowsAt k S i j mind x) e y.knows

  pub turn_1 : q.point ≡ 1 → Turn hs bs i j n q (row1 b h q).sound (row1 b h q).stepped (row1 b h q).block
  unfolding row1
  turn_1 e = quiet now (λ z. absurd (omega arith)) (λ z. absurd (omega arith)) (pending_good_lem b h seen names)
      (already (with_point (with_p_seen q seen) 2) refl (λ d. absurd (d refl))
      (record {
        p_used = y.held.p_used;
        p_inner = y.held.p_inner;
        gp_good_lem = y.held.gp_good_lem;
        l_good_lem = y.held.l_good_lem;
        other_good_lem = y.held.other_good_lem;
        pseen_good = names;
        gseen_good = y.held.gseen_good;
        helped_good_lem = y.held.helped_good_lem;
        own_good = y.held.own_good;
      })
      (record {
        pseen_late = late_at now (been_on (k_low now) now.run now.first w.way.was);
        gseen_late = y.newer.gseen_late;
        helped_late = y.newer.helped_late;
        stack_late = y.newer.stack_late;
      })
      (counters_early 2 q.index q.mask y.counters (omega arith) (omega arith) (omega arith) (λ z. omega arith) (λ z x. omega arith) (λ z x. omega arith) y.counters.index_high
      y.counters.mask_high (λ z. absurd (omega arith)))
      (row_1 (mind_of h b n (with_point (with_p_seen q seen) 2)) (k_low now) now.run now.first refl w refl refl refl (word_pending (pending_word b h q.p))))
    where
      w : Descends k S i j mind
      w = known 1 e

      seen : Pending
      seen = pending_of (pending_word b h q.p)

      names : Names (S j) (pending_of (pending_word b h q.p))
      names = word_names (S j) (I.inv.pending q.p w.way.used)

  -- a value read before, at depth 0
  module _ (at : q.point ≤ 5) (busy : q.operation ≢ 1) (q₀ : Process) (c : CountersBy k q₀) (w : HeldBy k (S j) q₀)
      (newer : NewerBy (hs 0).recordsused (stack_of h b n) q₀) (same : q₀.operation ≡ q.operation)
      (empty : q₀.depth ≡ 0) (none : q₀.own ≡ 0) where
    own₀ : q₀.own ≡ q.own
    own₀ = none ∙ sym (y.counters.early_own at)

    pub helps_word : {a v : ℕ} → Read (S j) a v → Late (hs 0).recordsused (pending_of v) → (top : ℕ) → Follows hs bs i j n h b q (helping top q₀ (pending_of v))
    helps_word r late top =
        helps_on n now q q₀ b top y.since c w newer (λ z. busy (sym same ∙ z)) (subst (λ (x : ℕ). Stacked k (S j) (stack_of h b n) x) (sym empty) stack_empty) (free none)
        (λ d e. absurd (omega arith)) own₀ (λ z x. absurd (x (y.counters.early_own at))) r late (λ m e. record { next = λ d z. absurd (omega arith) })

    helps_early : {a : ℕ} (v : Pending) → Read (S j) a (word_of v) → Late (hs 0).recordsused v → (top : ℕ) → Follows hs bs i j n h b q (helping top q₀ v)
    helps_early v r late top = subst (λ (x : Pending). Follows hs bs i j n h b q (helping top q₀ x)) (pending_word_lem v) (helps_word r (rw (pending_word_lem v) late) top)

  module _ (e₂ : q.point ≡ 2) where
    w₂ : Reads k S i j mind
    w₂ = known 2 e₂

    abbrev child : ℕ
    child = child_word b h q.p (route_of b h q.p q.key)

    got : (S j).view.child q.p (route k ((S j).view.key q.p) q.key) ≡ child
    got = ap (λ (m : ℕ). child_word b h q.p m) (sym (route_are b h q.p q.key))

    used : In h.nodesused child
    used = child_used (k_low now) now.run now.first w₂.descends.way got

    over : q.p < child
    over = child_above (k_low now) now.run now.first w₂.descends.way got

    -- an internal child
    down : tag_word b h child ≡ k → Follows hs bs i j n h b q (going_on (with_point (descended_of q child) 1))
    down e =
        already (with_point (descended_of q child) 1) refl (λ d. absurd (d refl))
        (record {
          p_used = used;
          p_inner = e;
          gp_good_lem = inr (y.held.p_used, y.held.p_inner);
          l_good_lem = y.held.l_good_lem;
          other_good_lem = y.held.other_good_lem;
          pseen_good = y.held.pseen_good;
          gseen_good = y.held.pseen_good;
          helped_good_lem = y.held.helped_good_lem;
          own_good = y.held.own_good;
        })
        (record { pseen_late = y.newer.pseen_late; gseen_late = y.newer.pseen_late; helped_late = y.newer.helped_late; stack_late = y.newer.stack_late })
        (counters_early 1 q.index q.mask y.counters (omega arith) (omega arith) (omega arith) (λ z. omega arith) (λ z x. omega arith) (λ z x. omega arith) y.counters.index_high
        y.counters.mask_high (λ z. absurd (omega arith)))
        (row_2_down (mind_of h b n (with_point (descended_of q child) 1)) (k_low now) now.run now.first refl w₂ got e refl refl refl)

    -- a leaf
    module _ (leaf : tag_word b h child < k) where
      not_inner : (S j).view.tag child ≢ k
      not_inner e = omega arith

      row : keys_of b h child (tag_word b h child) ≡ keys (S j).view child
      row = keys_are b h child leaf

      has : holds q.key (keys_of b h child (tag_word b h child)) ≡ true → Memᴰ q.key (keys (S j).view child)
      has e = rw row at (holds-mem q.key _ e)

      lacks : holds q.key (keys_of b h child (tag_word b h child)) ≡ false → ¬ Memᴰ q.key (keys (S j).view child)
      lacks e = rw row at (holds_not q.key _ e)

      held : HeldBy k (S j) (with_l q child)
      held = record {
        p_used = y.held.p_used;
        p_inner = y.held.p_inner;
        gp_good_lem = y.held.gp_good_lem;
        l_good_lem = inr (used, not_inner);
        other_good_lem = y.held.other_good_lem;
        pseen_good = y.held.pseen_good;
        gseen_good = y.held.gseen_good;
        helped_good_lem = y.held.helped_good_lem;
        own_good = y.held.own_good;
      }

      low : 2 ≤ q.p
      low = leaf_below (k_low now) now.run now.first w₂.descends.way got y.counters.finite not_inner

      up : Above k S i j q.key q.gp q.p (word_of q.gseen) → Read (S j) q.gp (word_of q.gseen)
      up (at_root a d) = absurd (omega (arith, low))
      up (above u) = u.read

      helps : q.operation ≢ 1 → {a : ℕ} (v : Pending) → Read (S j) a (word_of v) → Late (hs 0).recordsused v → Follows hs bs i j n h b q (helping 0 (with_l q child) v)
      helps o v r late =
          helps_early (omega arith) o (with_l q child) y.counters held y.newer refl (y.counters.early_depth (omega arith)) (y.counters.early_own (omega arith)) v r late 0

      finds : q.operation ≡ 1 → (t : Bool) → holds q.key (keys_of b h child (tag_word b h child)) ≡ t → Follows hs bs i j n h b q (find_at (with_l q child) t)
      unfolding pick
      finds o true e = answers (answer 1) refl (λ z. absurd (z (y.counters.early_own (omega arith)))) (found o refl (leaf_has (k_low now) now.run now.first w₂.descends.way got not_inner (has e)))
      finds o false e = answers (answer 0) refl (λ z. absurd (z (y.counters.early_own (omega arith)))) (missing o refl (leaf_lacks (k_low now) now.run now.first w₂.descends.way got not_inner (lacks e)))

      inserts : q.operation ≡ 2 → (t : Bool) → holds q.key (keys_of b h child (tag_word b h child)) ≡ t → Follows hs bs i j n h b q (insert_at (with_l q child) t)
      unfolding pick
      inserts o true e = answers (answer 0) refl (λ z. absurd (z (y.counters.early_own (omega arith)))) (there o refl (y.counters.early_own (omega arith)) (leaf_has (k_low now) now.run now.first w₂.descends.way got not_inner (has e)))
      inserts o false e = go (is_clean_of q.pseen) refl
        where
          four : (c : ℕ) → q.pseen ≡ Clean c → Follows hs bs i j n h b q (going_on (with_point (with_l q child) 4))
          four c z =
              already (with_point (with_l q child) 4) refl (λ d. absurd (d refl)) held y.newer
              (counters_early 4 q.index q.mask y.counters (omega arith) (omega arith) (omega arith) (λ x. absurd (omega arith)) (λ x v. omega arith) (λ x v. omega arith)
              y.counters.index_high y.counters.mask_high (λ x. absurd (omega arith)))
              (row_2_replace (mind_of h b n (with_point (with_l q child) 4)) (k_low now) now.run now.first refl w₂ got y.counters.finite not_inner c (clean_word q.pseen c z) refl refl refl
              (to_put o (lacks e)))

          go : (t : Bool) → is_clean_of q.pseen ≡ t
              → Follows hs bs i j n h b q (pick t (going_on (with_point (with_l q child) 4)) (helping 0 (with_l q child) q.pseen))
          go true z = let c = clean_of q.pseen z in four c.0 c.1
          go false z = helps (λ x. omega arith) q.pseen w₂.read y.newer.pseen_late

      deletes : q.operation ≡ 3 → (t : Bool) → holds q.key (keys_of b h child (tag_word b h child)) ≡ t → Follows hs bs i j n h b q (delete_at (with_l q child) t)
      unfolding pick ones ones_in
      deletes o false e = answers (answer 0) refl (λ z. absurd (z (y.counters.early_own (omega arith)))) (not_there o refl (y.counters.early_own (omega arith)) (leaf_lacks (k_low now) now.run now.first w₂.descends.way got not_inner (lacks e)))
      deletes o true e = go (is_clean_of q.gseen) refl (is_clean_of q.pseen) refl
        where
          three : (c g : ℕ) → q.pseen ≡ Clean c → q.gseen ≡ Clean g → Follows hs bs i j n h b q (going_on (to_three (with_l q child)))
          three c g z x =
              already (to_three (with_l q child)) refl (λ d. absurd (d refl)) held y.newer
              (counters_early 3 1 0 y.counters (omega arith) (omega arith) (omega arith) (λ v. absurd (omega arith)) (λ v u. omega arith) (λ v u. omega arith)
              (omega (arith, k_low now)) (pow_pos k) (λ v. pow_pos 0))
              (row_2_count (mind_of h b n (to_three (with_l q child))) (k_low now) now.run now.first refl w₂ got y.counters.finite not_inner c (clean_word q.pseen c z) refl refl refl g
              (clean_word q.gseen g x) refl refl (has e) refl refl)

          go : (t : Bool) → is_clean_of q.gseen ≡ t → (u : Bool) → is_clean_of q.pseen ≡ u
              → Follows hs bs i j n h b q (pick t (pick u (going_on (to_three (with_l q child))) (helping 0 (with_l q child) q.pseen)) (helping 0 (with_l q child) q.gseen))
          go true z true x = let c = clean_of q.pseen x in let g = clean_of q.gseen z in three c.0 g.0 c.1 g.1
          go true z false x = helps (λ v. omega arith) q.pseen w₂.read y.newer.pseen_late
          go false z u x = helps (λ v. omega arith) q.gseen (up w₂.descends.from) y.newer.gseen_late

      at_leaf_lem : Follows hs bs i j n h b q (at_leaf (with_l q child) (holds q.key (keys_of b h child (tag_word b h child))))
      unfolding pick
      at_leaf_lem = go (eqb q.operation 1) refl (eqb q.operation 2) refl
        where
          t : Bool
          t = holds q.key (keys_of b h child (tag_word b h child))

          go : (x : Bool) → eqb q.operation 1 ≡ x → (z : Bool) → eqb q.operation 2 ≡ z
              → Follows hs bs i j n h b q (pick x (find_at (with_l q child) (holds q.key (keys_of b h child (tag_word b h child))))
              (pick z (insert_at (with_l q child) (holds q.key (keys_of b h child (tag_word b h child)))) (delete_at (with_l q child) (holds q.key (keys_of b h child (tag_word b h child))))))
          go true x z v = finds (eqb-true q.operation 1 x) t refl
          go false x true v = inserts (eqb-true q.operation 2 v) t refl
          go false x false v =
              deletes (omega (arith, eqb-false q.operation 1 x, eqb-false q.operation 2 v, y.counters.op_low, y.counters.op_high)) t refl

      leaf_sound : both (not (eqb q.p 1)) (rises (keys_of b h child (tag_word b h child))) ≡ true
      leaf_sound =
          both_is (ap not (ne_eqb q.p 1 (λ z. omega (arith, low)))) (ap rises row ∙ sorted_rises _ (I.inv.shape.leaf_keys child used not_inner))

    pub turn_2 : Turn hs bs i j n q (row2 b h q).sound (row2 b h q).stepped (row2 b h q).block
    unfolding row2
    turn_2 = go (ℕ_discrete (tag_word b h child) k)
      where
        good : child_good b h q.p (touch2 b h q) ≡ true
        good = below_good b h q.p child over used (I.inv.shape.tags child used)

        kinds : (kin : Kin) → kin_at b h child ≡ kin → leaf_good2 b h q kin ≡ true → Follows hs bs i j n h b q (at_child b h q kin)
            → Turn hs bs i j n q (both (child_good b h q.p (touch2 b h q)) (leaf_good2 b h q (kin_at b h child)))
            (at_child b h q (kin_at b h child)) b
        kinds kin e s f =
            subst (λ (x : Kin). Turn hs bs i j n q (both (child_good b h q.p (touch2 b h q)) (leaf_good2 b h q x)) (at_child b h q x) b) (sym e)
            (quiet now (λ z. absurd (omega arith)) (λ z. absurd (omega arith)) (both_is good s) f)

        go : Dec (tag_word b h child ≡ k)
            → Turn hs bs i j n q (both (child_good b h q.p (touch2 b h q)) (leaf_good2 b h q (kin_at b h child)))
            (at_child b h q (kin_at b h child)) b
        go (yes e) = kinds (Internal child) (kin_internal b h child e) refl (down e)
        go (no e) =
            let l : tag_word b h child < k = omega (arith, I.inv.shape.tags child used) in
            kinds (Leaf child (tag_word b h child)) (kin_leaf b h child l) (leaf_sound l) (at_leaf_lem l)
