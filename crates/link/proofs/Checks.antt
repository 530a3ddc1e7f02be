-- The damage checks hold of what the history says is there: nodes, pendings, records, what is below a node.
use Prim.Native.Nat.{ℕ, ◌+◌, ◌*◌, ◌≤◌, ◌<◌}
use mathlib.Core.Path.{◌≡◌, refl, ap, ◌∙◌}
use mathlib.Core.Bool.{true}
use mathlib.Core.List.{List}
use native.Mathlib.Omega.{arith}
use lib.Dec.{leb}
use borrow.Author.Tests.{lt-ltb, le-ltb, le-leb, eq-eqb}
use Rattle.std.specs.Prelude.{Some}
use Rattle.tables.specs.Choice.{pick, both, within}
use Rattle.tables.specs.Numbers.{infinity}
use Rattle.tables.specs.Layout.{tag_word, record_word, l_field, p_field, third_field, expected_field, process_field, operation_field, key_field}
use Rattle.nodes.specs.Pending.{word_of, pending_of, record_of_kind, pending_good}
use Rattle.nodes.specs.Node.{kin_of_tag, kin_of, below_of, is_node, is_internal, is_leaf}
use Rattle.tables.specs.declared.header.Header.{Header}
use Rattle.nodes.specs.declared.node.Kin.TheVariants.{Leaf, Internal}
use Rattle.nodes.specs.declared.pending.Pending.{Pending}
use Rattle.nodes.specs.declared.pending.Pending.TheVariants.{Clean, Replace, Prune, Mark}
use Rattle.nodes.proofs.Written.{pending_word_lem}
use Rattle.tables.proofs.Picks.{both_is}
use Rattle.damage.specs.Helped.{owner_good, expected_good, record_good}
use Rattle.history.specs.View.{In}
use Rattle.history.specs.Shared.{Desc, Shared}
use Rattle.history.proofs.Invariant.{Word, clean, replacing, pruning, marked, Made, put, out, sprouted, Sound}
use Rattle.history.proofs.Touch.{p_used, gp_used, new_used}
use Rattle.history.proofs.Static.{origin_used}
use Rattle.link.specs.Tables.{tables_of}
use Rattle.link.proofs.Writes.{Fit}

pub within_is : (lo x hi : ℕ) → lo ≤ x → x ≤ hi → within lo x hi ≡ true
within_is lo x hi a c = both_is (le-leb lo x a) (le-leb x hi c)

-- the value of a pending names a record of its kind
abbrev pub Names : Shared → Pending → Type 0
Names s (Clean r) = r ≤ s.records
Names s (Replace r) = In s.records r × ((s.rec r).kind ≡ 1)
Names s (Prune r) = In s.records r × ((s.rec r).kind ≡ 2)
Names s (Mark r) = In s.records r × ((s.rec r).kind ≡ 2)

-- it names no record up to f, unless it is clean
abbrev pub Late : ℕ → Pending → Type 0
Late f (Clean r) = 0 ≤ r
Late f (Replace r) = f < r
Late f (Prune r) = f < r
Late f (Mark r) = f < r

pending_is : (v : Pending) (w : ℕ) → w ≡ word_of v → pending_of w ≡ v
pending_is v w e = ap pending_of e ∙ pending_word_lem v

pub clean_is : (w c : ℕ) → w ≡ 4 * c → pending_of w ≡ Clean c
clean_is w c e = pending_is (Clean c) w (omega arith)

pub replace_is : (w c : ℕ) → w ≡ 4 * c + 1 → pending_of w ≡ Replace c
replace_is w c e = pending_is (Replace c) w e

pub prune_is : (w c : ℕ) → w ≡ 4 * c + 2 → pending_of w ≡ Prune c
prune_is w c e = pending_is (Prune c) w e

pub mark_is : (w c : ℕ) → w ≡ 4 * c + 3 → pending_of w ≡ Mark c
mark_is w c e = pending_is (Mark c) w e

pub word_names : (s : Shared) {n w : ℕ} → Word s.records s.rec n w → Names s (pending_of w)
word_names s {n} {w} (clean c e o) = rw (clean_is w c e) (origin_used o)
word_names s {n} {w} (replacing r e i d f) = rw (replace_is w r e) (i, d)
word_names s {n} {w} (pruning r e i d f) = rw (prune_is w r e) (i, d)
word_names s {n} {w} (marked r e i d f) = rw (mark_is w r e) (i, d)

pub word_late : (f : ℕ) {m n w : ℕ} {T : ℕ → Desc} → Word m T n w → ((r kind : ℕ) → 1 ≤ kind → kind ≤ 3 → w ≡ 4 * r + kind → f < r) → Late f (pending_of w)
word_late f {m} {n} {w} (clean c e o) g = rw (clean_is w c e) (omega arith)
word_late f {m} {n} {w} (replacing r e i d p) g = rw (replace_is w r e) (g r 1 (omega arith) (omega arith) e)
word_late f {m} {n} {w} (pruning r e i d p) g = rw (prune_is w r e) (g r 2 (omega arith) (omega arith) e)
word_late f {m} {n} {w} (marked r e i d p) g = rw (mark_is w r e) (g r 3 (omega arith) (omega arith) e)

module _ (b : List ℕ) (h : Header) where
  good_tag_lem : (n : ℕ) → In h.nodesused n → tag_word b h n ≤ h.k → both (within 1 n h.nodesused) (leb (tag_word b h n) h.k) ≡ true
  good_tag_lem n i l = both_is (within_is 1 n h.nodesused i.low i.high) (le-leb (tag_word b h n) h.k l)

  pub kin_internal : (n : ℕ) → tag_word b h n ≡ h.k → kin_of_tag h n (tag_word b h n) ≡ Internal n
  unfolding pick
  kin_internal n e = rw (le-ltb (tag_word b h n) h.k (omega arith)) refl

  pub kin_leaf : (n : ℕ) → tag_word b h n < h.k → kin_of_tag h n (tag_word b h n) ≡ Leaf n (tag_word b h n)
  unfolding pick
  kin_leaf n l = rw (lt-ltb (tag_word b h n) h.k l) refl

  pub kin_is : (n : ℕ) → In h.nodesused n → tag_word b h n ≤ h.k → kin_of b h n ≡ Some (kin_of_tag h n (tag_word b h n))
  unfolding pick
  kin_is n i l = rw (good_tag_lem n i l) refl

  pub inner_good : (n : ℕ) → In h.nodesused n → tag_word b h n ≡ h.k → is_internal (kin_of b h n) ≡ true
  inner_good n i e = ap is_internal (kin_is n i (omega arith) ∙ ap Some (kin_internal n e))

  pub leaf_good : (n : ℕ) → In h.nodesused n → tag_word b h n < h.k → is_leaf (kin_of b h n) ≡ true
  leaf_good n i l = ap is_leaf (kin_is n i (omega arith) ∙ ap Some (kin_leaf n l))

  pub node_good_lem : (n : ℕ) → In h.nodesused n → tag_word b h n ≤ h.k → is_node (kin_of b h n) ≡ true
  node_good_lem n i l = ap is_node (kin_is n i l)

  pub below_good : (parent n : ℕ) → parent < n → In h.nodesused n → tag_word b h n ≤ h.k → is_node (below_of b h parent n) ≡ true
  unfolding pick
  below_good parent n a i l = rw (lt-ltb parent n a) (node_good_lem n i l)

  pub kind_good : (r kind : ℕ) → In h.recordsused r → record_word b h r 0 ≡ kind → record_of_kind b h r kind ≡ true
  kind_good r kind i e = both_is (within_is 1 r h.recordsused i.low i.high) (eq-eqb (record_word b h r 0) kind e)

  pub pending_good_lem : (v : Pending) → Names (tables_of h b) v → pending_good b h v ≡ true
  pending_good_lem (Clean r) l = le-leb r h.recordsused l
  pending_good_lem (Replace r) l = kind_good r 1 l.0 l.1
  pending_good_lem (Prune r) l = kind_good r 2 l.0 l.1
  pending_good_lem (Mark r) l = kind_good r 2 l.0 l.1

-- a record that is helped
module _ {b : List ℕ} {h : Header} (fit : Fit h b) (I : Sound h.k (tables_of h b)) (r : ℕ) (i : In h.recordsused r)
    (owner : In h.processes (record_word b h r process_field)) where
  k_low : 1 ≤ h.k
  k_low = omega (arith, fit.limits.numbers.k_low)

  l_used : In h.nodesused (record_word b h r l_field)
  l_used = omega (arith, (I.inv.good r i).above, (I.inv.good r i).used)

  leaf_tag : tag_word b h (record_word b h r l_field) < h.k
  leaf_tag = omega (arith, I.inv.shape.tags (record_word b h r l_field) l_used, (I.inv.good r i).leaf)

  owner_good_lem : (2 ≤ record_word b h r operation_field) × (record_word b h r operation_field ≤ 3) → owner_good b h r ≡ true
  owner_good_lem o =
      both_is (within_is 2 (record_word b h r operation_field) 3 o.0 o.1)
      (both_is (lt-ltb (record_word b h r key_field) infinity (I.inv.good r i).finite)
      (within_is 1 (record_word b h r process_field) h.processes owner.low owner.high))

  expected_good_lem : (c : ℕ) → record_word b h r expected_field ≡ 4 * c → c ≤ h.recordsused → expected_good b h r ≡ true
  expected_good_lem c e l =
      rw (clean_is (record_word b h r expected_field) c e) (both_is refl (le-leb c h.recordsused l))

  operation_of : Made h.k (tables_of h b).view ((tables_of h b).rec r) → (2 ≤ record_word b h r operation_field) × (record_word b h r operation_field ≤ 3)
  operation_of (put e a d f) = (omega arith, omega arith)
  operation_of (out e a d f) = (omega arith, omega arith)
  operation_of (sprouted e a d f g w x) = (omega arith, omega arith)

  pub replace_good : record_word b h r 0 ≡ 1 → record_good b h 1 r ≡ true
  unfolding record_good pick
  replace_good e =
      let g = I.inv.good r i in
      let f = g.replace e in
      let u = new_used I.inv r i e in
      both_is (kind_good b h r 1 i e)
      (both_is (owner_good_lem (operation_of f.made))
      (both_is
      (both_is (inner_good b h (record_word b h r p_field) (p_used I.inv r i) g.inner)
      (both_is (leaf_good b h (record_word b h r l_field) l_used leaf_tag)
      (below_good b h (record_word b h r p_field) (record_word b h r third_field) (omega (arith, g.above, f.new_above)) u (I.inv.shape.tags (record_word b h r third_field) u))))
      (expected_good_lem 0 f.unexpected (omega arith))))

  pub prune_good : record_word b h r 0 ≡ 2 → record_good b h 2 r ≡ true
  unfolding record_good pick
  prune_good e =
      let g = I.inv.good r i in
      let f = g.prune e in
      both_is (kind_good b h r 2 i e)
      (both_is (owner_good_lem (omega (arith, f.operation), omega (arith, f.operation)))
      (both_is
      (both_is (inner_good b h (record_word b h r p_field) (p_used I.inv r i) g.inner)
      (both_is (leaf_good b h (record_word b h r l_field) l_used leaf_tag)
      (inner_good b h (record_word b h r third_field) (gp_used I.inv r i e) f.gp_inner)))
      (expected_good_lem f.seen f.clean (omega (arith, f.before, i.high)))))
