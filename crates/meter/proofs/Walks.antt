-- Laws of a walk: what was met before does not change what is met; allowed nodes only grow fewer; the depth bound is never what ends it.
use Prim.Native.Nat.{ℕ, zero, suc, ◌+◌, ◌-◌, ◌≤◌}
use mathlib.Core.Path.{◌≡◌, refl, sym, ap, ◌∙◌}
use mathlib.Core.Bool.{Bool, true, false}
use mathlib.Core.List.{List, ◌++◌, append-nil, append_assoc}
use native.Mathlib.Omega.{arith}
use native.Mathlib.Numerals.{add-one}
use lib.Dec.{eqb}
use borrow.Author.Tests.{eq-eqb, ne_eqb}
use Rattle.std.specs.Prelude.{Option, Some, None}
use Rattle.nodes.specs.declared.node.Kin.{Kin}
use Rattle.tables.specs.Choice.{pick, both}
use Rattle.nodes.specs.Node.{child_of}
use Rattle.tables.specs.declared.header.Header.{Header}
use Rattle.nodes.specs.declared.node.Kin.TheVariants.{Leaf, Internal}
use Rattle.tables.proofs.Picks.{both_true, both_false, both_assoc}
use Rattle.meter.specs.Walk.{Walk, walk, begin, spent, damaged, leaf_met, in_order, node_met, walk_of, met_from}

-- a walk seen behind what another has met
abbrev pub after : Walk → Walk → Walk
after p w = walk w.allowed (p.keys ++ w.keys) (both p.sound w.sound)

same_walk : (a : ℕ) (k l : List ℕ) (s t : Bool) → k ≡ l → s ≡ t → walk a k s ≡ walk a l t
same_walk a k l s t e f = cc

pub after_begin : (w : Walk) → after w (begin w.allowed) ≡ w
after_begin w = same_walk w.allowed _ _ _ _ (append-nil w.keys) (both_true w.sound)

after_order : (p : Walk) (visit : ℕ → Walk → Walk) → ((i : ℕ) (w : Walk) → visit i (after p w) ≡ after p (visit i w)) →
    (n : ℕ) (w : Walk) → in_order visit n (after p w) ≡ after p (in_order visit n w)
unfolding in_order
after_order p visit e zero w = refl
after_order p visit e (suc n) w = ap (visit (suc n)) (after_order p visit e n w) ∙ e (suc n) (in_order visit n w)

module _ (b : List ℕ) (h : Header) where
  pub after_walk : (p : Walk) (deep : ℕ) (child : Option Kin) (w : Walk) → walk_of deep b h child (after p w) ≡ after p (walk_of deep b h child w)
  unfolding walk_of pick
  after_walk p zero child w = same_walk w.allowed _ _ _ _ refl (sym (both_false p.sound))
  after_walk p (suc deep) child w = go (eqb w.allowed 0) child (λ c v. after_walk p deep c v)
    where
      go : (t : Bool) (c : Option Kin) → ((c : Option Kin) (v : Walk) → walk_of deep b h c (after p v) ≡ after p (walk_of deep b h c v)) →
          pick t (damaged (after p w)) (node_met (λ c v. walk_of deep b h c v) b h c (spent (after p w)))
          ≡ after p (pick t (damaged w) (node_met (λ c v. walk_of deep b h c v) b h c (spent w)))
      go true c up = same_walk w.allowed _ _ _ _ refl (sym (both_false p.sound))
      go false None up = same_walk (w.allowed - 1) _ _ _ _ refl (sym (both_false p.sound))
      go false (Some (Leaf node count)) up = same_walk (w.allowed - 1) _ _ _ _ (append_assoc p.keys w.keys _) (both_assoc p.sound w.sound _)
      go false (Some (Internal node)) up = after_order p (λ i v. walk_of deep b h (child_of b h node i) v) (λ i v. up (child_of b h node i) v) h.k (spent w)

-- allowed nodes only grow fewer
fewer_order : (visit : ℕ → Walk → Walk) → ((i : ℕ) (w : Walk) → (visit i w).allowed ≤ w.allowed) → (n : ℕ) (w : Walk) → (in_order visit n w).allowed ≤ w.allowed
unfolding in_order
fewer_order visit e zero w = omega arith
fewer_order visit e (suc n) w = omega (arith, e (suc n) (in_order visit n w), fewer_order visit e n w)

module _ (b : List ℕ) (h : Header) where
  pub fewer_walk : (deep : ℕ) (child : Option Kin) (w : Walk) → (walk_of deep b h child w).allowed ≤ w.allowed
  unfolding walk_of pick
  fewer_walk zero child w = omega arith
  fewer_walk (suc deep) child w = go (eqb w.allowed 0) child (λ c v. fewer_walk deep c v)
    where
      go : (t : Bool) (c : Option Kin) → ((c : Option Kin) (v : Walk) → (walk_of deep b h c v).allowed ≤ v.allowed) →
          (pick t (damaged w) (node_met (λ c v. walk_of deep b h c v) b h c (spent w))).allowed ≤ w.allowed
      go true c up = omega arith
      go false None up = omega arith
      go false (Some (Leaf node count)) up = omega arith
      go false (Some (Internal node)) up = omega (arith, fewer_order (λ i v. walk_of deep b h (child_of b h node i) v) (λ i v. up (child_of b h node i) v) h.k (spent w))

  -- the walk of the children of a node, to child n
  abbrev pub children : ℕ → ℕ → ℕ → Walk → Walk
  children deep node n w = in_order (λ i v. walk_of deep b h (child_of b h node i) v) n w

  pub fewer_children : (deep node n : ℕ) (w : Walk) → (children deep node n w).allowed ≤ w.allowed
  fewer_children deep node n w = fewer_order (λ i v. walk_of deep b h (child_of b h node i) v) (λ i v. fewer_walk deep (child_of b h node i) v) n w

  same_children : (d e node a : ℕ) → ((c : Option Kin) (v : Walk) → v.allowed ≤ a → walk_of d b h c v ≡ walk_of e b h c v) →
      (n : ℕ) (w : Walk) → w.allowed ≤ a → children d node n w ≡ children e node n w
  unfolding in_order
  same_children d e node a up zero w p = refl
  same_children d e node a up (suc n) w p =
      let v = children d node n w in
      up (child_of b h node (suc n)) v (omega (arith, fewer_children d node n w))
      ∙ ap (walk_of e b h (child_of b h node (suc n))) (same_children d e node a up n w p)

  none_left : (deep : ℕ) (child : Option Kin) (w : Walk) → w.allowed ≤ 0 → walk_of deep b h child w ≡ damaged w
  unfolding walk_of pick
  none_left zero child w p = refl
  none_left (suc deep) child w p = let e : w.allowed ≡ 0 = omega arith in rw (eq-eqb w.allowed 0 e) refl

  -- the depth bound of the definition is not what ends a walk: from the nodes allowed on, every bound gives the same
  pub deep_enough : (d e : ℕ) (child : Option Kin) (w : Walk) → w.allowed ≤ d → w.allowed ≤ e → walk_of d b h child w ≡ walk_of e b h child w
  unfolding walk_of pick
  deep_enough zero e child w p q = sym (none_left e child w p)
  deep_enough (suc d) zero child w p q = none_left (suc d) child w q
  deep_enough (suc d) (suc e) child w p q = go (eqb w.allowed 0) child refl (λ c v r s. deep_enough d e c v r s)
    where
      go : (t : Bool) (c : Option Kin) → eqb w.allowed 0 ≡ t → ((c : Option Kin) (v : Walk) → v.allowed ≤ d → v.allowed ≤ e → walk_of d b h c v ≡ walk_of e b h c v) →
          pick t (damaged w) (node_met (λ c v. walk_of d b h c v) b h c (spent w)) ≡ pick t (damaged w) (node_met (λ c v. walk_of e b h c v) b h c (spent w))
      go true c f up = refl
      go false None f up = refl
      go false (Some (Leaf node count)) f up = refl
      go false (Some (Internal node)) f up =
          same_children d e node (w.allowed - 1) (λ c v r. up c v (omega arith) (omega arith)) h.k (spent w) (omega arith)

  -- a walk goes on as if it began here, behind what it has met
  pub goes_on : (deep : ℕ) (child : Option Kin) (w : Walk) → w.allowed ≤ deep → walk_of deep b h child w ≡ after w (met_from b h child w.allowed)
  goes_on deep child w p =
      ap (walk_of deep b h child) (sym (after_begin w))
      ∙ after_walk b h w deep child (begin w.allowed)
      ∙ ap (after w) (deep_enough deep w.allowed child (begin w.allowed) p (omega arith))

  -- what is met from a node, by what the node is, where a node is still allowed
  met_at : (n : ℕ) (child : Option Kin) → met_from b h child (suc n) ≡ node_met (λ c v. walk_of n b h c v) b h child (begin n)
  unfolding walk_of pick
  met_at n child =
      let some : suc n ≡ 0 → ⊥ = λ e. omega arith in
      let one : suc n - 1 ≡ n = omega arith in
      rw (ne_eqb (suc n) 0 some, one) refl

  module _ (a : ℕ) (some : a ≡ 0 → ⊥) where
    met_suc : (child : Option Kin) → met_from b h child a ≡ node_met (λ c v. walk_of (a - 1) b h c v) b h child (begin (a - 1))
    met_suc child = let e : a ≡ suc (a - 1) = omega arith in ap (met_from b h child) e ∙ met_at (a - 1) child

    pub met_leaf : (child : Option Kin) (node count : ℕ) → child ≡ Some (Leaf node count) → met_from b h child a ≡ leaf_met b h node count (begin (a - 1))
    met_leaf child node count e = met_suc child ∙ ap (λ (c : Option Kin). node_met (λ c v. walk_of (a - 1) b h c v) b h c (begin (a - 1))) e

    pub met_internal : (child : Option Kin) (node : ℕ) → child ≡ Some (Internal node) → met_from b h child a ≡ children (a - 1) node h.k (begin (a - 1))
    met_internal child node e = met_suc child ∙ ap (λ (c : Option Kin). node_met (λ c v. walk_of (a - 1) b h c v) b h c (begin (a - 1))) e

    pub met_damaged : (child : Option Kin) → child ≡ None → met_from b h child a ≡ damaged (begin (a - 1))
    met_damaged child e = met_suc child ∙ ap (λ (c : Option Kin). node_met (λ c v. walk_of (a - 1) b h c v) b h c (begin (a - 1))) e

  pub met_none : (child : Option Kin) (a : ℕ) → a ≡ 0 → met_from b h child a ≡ damaged (begin a)
  met_none child a e = none_left a child (begin a) (omega arith)

  -- one more child is walked
  pub child_more : (deep node i : ℕ) (w : Walk) → w.allowed ≤ deep →
      children deep node (i + 1) w ≡ after (children deep node i w) (met_from b h (child_of b h node (i + 1)) (children deep node i w).allowed)
  unfolding in_order
  child_more deep node i w p =
      rw (add-one i) (goes_on deep (child_of b h node (suc i)) (children deep node i w) (omega (arith, fewer_children deep node i w)))

  pub child_none : (deep node : ℕ) (w : Walk) → children deep node 0 w ≡ w
  unfolding in_order
  child_none deep node w = refl
