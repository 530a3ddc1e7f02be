-- Row 3: the children of p are read in turn, and the mask counts those that are not empty.
use Prim.Native.Nat.{ℕ, suc, ◌+◌, ◌*◌, ◌-◌, ◌^◌, ◌≤◌, ◌<◌}
use mathlib.Core.Path.{◌≡◌, refl, sym, ap, ◌∙◌, subst}
use mathlib.Core.Bool.{Bool, true, false, not}
use mathlib.Core.List.{List}
use native.Mathlib.Omega.{arith}
use native.Mathlib.Decide.{ℕ_discrete}
use native.Mathlib.Numerals.{add-one}
use native.Mathlib.Nat.{one-mul}
use lib.Pow.{pow_mono}
use lib.Bits.{bit_or, or_shifted_r}
use lib.Count.{ones, ones_cat, ones-ones}
use lib.Dec.{ltb, eqb}
use borrow.Author.Tests.{eqb-true, eqb-false, ne_eqb, ltb-true, ltb-false}
use Rattle.tables.specs.Choice.{pick, both}
use Rattle.tables.specs.Layout.{tag_word, child_word}
use Rattle.tables.specs.declared.header.Header.{Header}
use Rattle.tables.proofs.Picks.{both_1, both_2}
use Rattle.process.specs.declared.Process.{Process}
use Rattle.process.specs.Process.{with_point, with_index, with_mask}
use Rattle.process.specs.Answer.{going_on}
use Rattle.help.specs.Reads.{kin_at, non_empty}
use Rattle.points.specs.Rows.{mask_with, point_after3, scanned3, row3}
use Rattle.history.specs.View.{In}
use Rattle.history.specs.Shared.{Shared}
use Rattle.history.proofs.Invariant.{Sound}
use Rattle.history.proofs.Touch.{child_used}
use Rattle.history.proofs.Pairs.{full, full_yes, full_no}
use Rattle.history.proofs.Knows.{Mind, KnowsAt, Counts}
use Rattle.history.proofs.Downward.{row_3_next, row_3_prune, row_3_replace}
use Rattle.link.proofs.Checks.{kin_internal, kin_leaf, below_good}
use Rattle.link.proofs.Minds.{only_delete, mind_of}
use Rattle.link.proofs.Moments.{tables, Now, Busy, Follows, already, Turn, k_low, now_sound, quiet}
use Rattle.link.proofs.Searching.{counters_early, known}

-- "internal or holding a key": the tag is not 0
pub nonempty_is : (b : List ℕ) (h : Header) (c : ℕ) → 1 ≤ h.k → tag_word b h c ≤ h.k → non_empty (kin_at b h c) ≡ not (eqb (tag_word b h c) 0)
nonempty_is b h c l g = go (ℕ_discrete (tag_word b h c) h.k)
  where
    go : Dec (tag_word b h c ≡ h.k) → non_empty (kin_at b h c) ≡ not (eqb (tag_word b h c) 0)
    go (yes e) = ap non_empty (kin_internal b h c e) ∙ sym (ap not (ne_eqb (tag_word b h c) 0 (λ z. omega arith)))
    go (no e) = ap non_empty (kin_leaf b h c (omega arith))

-- one bit more
record Bit (mask i tag mask' : ℕ) : Type 0 where
  counted : ones mask' ≡ full tag + ones mask
  small : mask' < 2 ^ i

bit_set : (mask i tag : ℕ) → 1 ≤ i → mask < 2 ^ (i - 1) → Bit mask i tag (pick (not (eqb tag 0)) (bit_or mask (2 ^ (i - 1))) mask)
unfolding pick
bit_set mask i tag l g = go (eqb tag 0) refl
  where
    up : suc (i - 1) ≡ i
    up = omega arith

    sum : bit_or mask (2 ^ (i - 1)) ≡ 1 * 2 ^ (i - 1) + mask
    sum = ap (λ (x : ℕ). bit_or mask x) (sym (one-mul (2 ^ (i - 1)))) ∙ or_shifted_r 1 (i - 1) mask g

    double : 2 ^ i ≡ 2 * 2 ^ (i - 1)
    double = ap (λ (m : ℕ). 2 ^ m) (sym up) ∙ two (i - 1)
      where
        two : (m : ℕ) → 2 ^ suc m ≡ 2 * 2 ^ m
        two m = omega arith

    go : (t : Bool) → eqb tag 0 ≡ t → Bit mask i tag (pick (not t) (bit_or mask (2 ^ (i - 1))) mask)
    go true e = record { counted = omega (arith, full_no tag (eqb-true tag 0 e)); small = omega (arith, double) }
    go false e = record {
      counted = ap ones sum ∙ ones_cat (i - 1) 1 mask g ∙ omega (arith, ones-ones 1, full_yes tag (eqb-false tag 0 e));
      small = omega (arith, sum, double);
    }

module _ {hs : ℕ → Header} {bs : ℕ → List ℕ} {i j n : ℕ} (now : Now hs bs j) (q : Process) (y : Busy hs bs i j n q) (e₃ : q.point ≡ 3) where
  abbrev h : Header
  h = hs j

  abbrev b : List ℕ
  b = bs j

  abbrev k : ℕ
  k = (hs j).k

  abbrev S : ℕ → Shared
  S = tables hs bs

  abbrev mind : Mind
  mind = mind_of (hs j) (bs j) n q

  I : Sound k (S j)
  I = now_sound now

  w : Counts k S i j mind
  w = known now q y 3 e₃

  abbrev child : ℕ
  child = child_word b h q.p q.index

  abbrev mask' : ℕ
  mask' = mask_with q (kin_at b h child)

  used : In h.nodesused child
  used = child_used I.inv.shape q.p q.index y.held.p_used y.held.p_inner w.index_in

  bit : Bit q.mask q.index (tag_word b h child) mask'
  bit =
      subst (λ (t : Bool). Bit q.mask q.index (tag_word b h child) (pick t (bit_or q.mask (2 ^ (q.index - 1))) q.mask))
      (sym (nonempty_is b h child (omega (arith, k_low now)) (I.inv.shape.tags child used)))
      (bit_set q.mask q.index (tag_word b h child) w.index_in.low (y.counters.masked e₃))

  delete : q.operation ≡ 3
  delete = only_delete y.counters (omega arith) (λ z. y.counters.insert_3 z e₃)

  mask_small : mask' < 2 ^ k
  mask_small = omega (arith, bit.small, pow_mono {i = q.index} {j = k} w.index_in.high)

  on : q.index < k → Follows hs bs i j n h b q (going_on (with_index (with_mask q mask') (q.index + 1)))
  on l =
      already (with_index (with_mask q mask') (q.index + 1)) refl (λ d. absurd (d refl)) y.held y.newer
      (counters_early q.point (q.index + 1) mask' y.counters (omega arith) (omega arith) (omega arith) (λ z. absurd (omega (arith, delete))) (λ z. absurd (omega (arith, delete)))
      (λ z. absurd (omega (arith, delete))) (omega arith) mask_small (λ z. subst (λ (m : ℕ). mask' < 2 ^ m) same bit.small))
      (subst (λ (m : ℕ). KnowsAt k S i j (mind_of h b n (with_index (with_mask q mask') (q.index + 1))) m) (sym e₃)
      (row_3_next (mind_of h b n (with_index (with_mask q mask') (q.index + 1))) (k_low now) now.run now.first refl w refl refl refl refl refl bit.counted l (add-one q.index)))
    where
      same : q.index ≡ q.index + 1 - 1
      same = omega arith

  last : q.index ≡ k → (t : Bool) → both (eqb (ones mask') 2) (eqb (tag_word b h q.l) 1) ≡ t → Follows hs bs i j n h b q (going_on (with_point (with_mask q mask') (pick t 5 4)))
  unfolding pick
  last z true x =
      already (with_point (with_mask q mask') 5) refl (λ d. absurd (d refl)) y.held y.newer
      (counters_early 5 q.index mask' y.counters (omega arith) (omega arith) (omega arith) (λ v. absurd (omega (arith, delete))) (λ v. absurd (omega (arith, delete)))
      (λ v. absurd (omega (arith, delete))) y.counters.index_high mask_small (λ v. absurd (omega arith)))
      (row_3_prune (mind_of h b n (with_point (with_mask q mask') 5)) (k_low now) now.run now.first refl w refl refl refl refl refl bit.counted z
      (eqb-true (ones mask') 2 (both_1 _ _ x)) (eqb-true (tag_word b h q.l) 1 (both_2 _ _ x)))
  last z false x =
      already (with_point (with_mask q mask') 4) refl (λ d. absurd (d refl)) y.held y.newer
      (counters_early 4 q.index mask' y.counters (omega arith) (omega arith) (omega arith) (λ v. absurd (omega (arith, delete))) (λ v. absurd (omega (arith, delete)))
      (λ v. absurd (omega (arith, delete))) y.counters.index_high mask_small (λ v. absurd (omega arith)))
      (row_3_replace (mind_of h b n (with_point (with_mask q mask') 4)) (k_low now) now.run now.first refl w refl refl refl refl refl bit.counted delete)

  scanned : Follows hs bs i j n h b q (scanned3 b h q mask')
  unfolding pick
  scanned = go (ltb q.index k) refl
    where
      go : (t : Bool) → ltb q.index k ≡ t
          → Follows hs bs i j n h b q (pick t (going_on (with_index (with_mask q mask') (q.index + 1))) (going_on (with_point (with_mask q mask') (point_after3 b h q mask'))))
      go true x = on (ltb-true q.index k x)
      go false x = last (omega (arith, ltb-false q.index k x, w.index_in.high)) (both (eqb (ones mask') 2) (eqb (tag_word b h q.l) 1)) refl

  pub turn_3 : Turn hs bs i j n q (row3 b h q).sound (row3 b h q).stepped (row3 b h q).block
  unfolding row3
  turn_3 =
      quiet now (λ z. absurd (omega arith)) (λ z. absurd (omega arith)) (below_good b h q.p child (I.inv.shape.above q.p q.index y.held.p_used y.held.p_inner w.index_in) used (I.inv.shape.tags child used)) scanned
