-- Pending words, kinds of nodes, and a node's words written: laws return by return.
use Prim.Native.Nat.{ℕ, zero, suc, ◌+◌, ◌*◌, ◌-◌, ◌/◌, ◌%◌, ◌≤◌, ◌<◌}
use mathlib.Core.Path.{◌≡◌, refl, sym, ap, ◌∙◌}
use mathlib.Core.Bool.{Bool, true, false}
use mathlib.Core.List.{List}
use native.Mathlib.Omega.{arith}
use native.Mathlib.Nat.{add-zero, mod-lt, div-add-mod, mul-add-div, mul-add-mod_self_left, div-eq_of_lt, mod-eq_of_lt}
use lib.Dec.{leb, eqb}
use borrow.Author.Tests.{lt-ltb, le-ltb, ne_eqb}
use lib.ListN.{get_or}
use Rattle.std.specs.Prelude.{Option, Some, None}
use Rattle.tables.specs.Choice.{pick, both}
use Rattle.tables.specs.Layout.{kind_field, tag_word, child_word, record_word}
use Rattle.nodes.specs.Pending.{word_of, pending_of, pending_of_kind, pending_good, record_in_use, record_of_kind}
use Rattle.nodes.specs.Node.{good_tag, kin_of, below_of, child_of, image_word, image_child}
use Rattle.tables.specs.declared.header.Header.{Header}
use Rattle.nodes.specs.declared.pending.Pending.{Pending}
use Rattle.nodes.specs.declared.pending.Pending.TheVariants.{Clean, Replace, Prune, Mark}
use Rattle.nodes.specs.declared.node.Kin.TheVariants.{Leaf, Internal}
use Rattle.nodes.specs.declared.node.Kin.{Kin}

pub pend_clean : (w : ℕ) → w % 4 ≡ 0 → Clean (w / 4) ≡ pending_of w
pend_clean w e = cc

pub pend_replace : (w : ℕ) → w % 4 ≡ 1 → Replace (w / 4) ≡ pending_of w
pend_replace w e = cc

pub pend_prune : (w : ℕ) → w % 4 ≡ 2 → Prune (w / 4) ≡ pending_of w
pend_prune w e = cc

mark_at : (n r : ℕ) → (n ≡ 0 → ⊥) → (n ≡ 1 → ⊥) → (n ≡ 2 → ⊥) → Mark r ≡ pending_of_kind n r
mark_at zero r a b c = absurd (a refl)
mark_at (suc zero) r a b c = absurd (b refl)
mark_at (suc (suc zero)) r a b c = absurd (c refl)
mark_at (suc (suc (suc n))) r a b c = refl

pub pend_mark : (w : ℕ) → (w % 4 ≡ 0 → ⊥) → (w % 4 ≡ 1 → ⊥) → (w % 4 ≡ 2 → ⊥) → Mark (w / 4) ≡ pending_of w
pend_mark w a b c = mark_at (w % 4) (w / 4) a b c

module _ (v : Pending) (r : ℕ) where
  pub word_clean : v ≡ Clean r → 4 * r ≡ word_of v
  word_clean e = rw e (sym (add-zero (4 * r)))

  pub word_replace : v ≡ Replace r → 4 * r + 1 ≡ word_of v
  word_replace e = cc

  pub word_prune : v ≡ Prune r → 4 * r + 2 ≡ word_of v
  word_prune e = cc

  pub word_mark : v ≡ Mark r → 4 * r + 3 ≡ word_of v
  word_mark e = cc

module _ (b : List ℕ) (h : Header) (v : Pending) (r : ℕ) (t : Bool) where
  pub good_clean : v ≡ Clean r → t ≡ leb r h.recordsused → t ≡ pending_good b h v
  good_clean e f = cc

  pub good_replace : v ≡ Replace r → t ≡ record_of_kind b h r 1 → t ≡ pending_good b h v
  good_replace e f = cc

  pub good_prune : v ≡ Prune r → t ≡ record_of_kind b h r 2 → t ≡ pending_good b h v
  good_prune e f = cc

  pub good_mark : v ≡ Mark r → t ≡ record_of_kind b h r 2 → t ≡ pending_good b h v
  good_mark e f = cc

pub ruleset pend = (pend_clean, pend_replace, pend_prune, pend_mark, word_clean, word_replace, word_prune, word_mark, good_clean, good_replace, good_prune, good_mark)

module _ (b : List ℕ) (h : Header) (node tag : ℕ) (t : Bool) (e : tag ≡ tag_word b h node) (f : t ≡ good_tag h node tag) where
  pub kin_leaf : t ≡ true → tag < h.k → Some (Leaf node tag) ≡ kin_of b h node
  unfolding pick
  kin_leaf g p = cc (lt-ltb tag h.k p)

  pub kin_internal : t ≡ true → h.k ≤ tag → Some (Internal node) ≡ kin_of b h node
  unfolding pick
  kin_internal g p = cc (le-ltb tag h.k p)

module _ (b : List ℕ) (h : Header) (parent node : ℕ) where
  pub below_kin : (c : Option Kin) → parent < node → c ≡ kin_of b h node → c ≡ below_of b h parent node
  unfolding pick
  below_kin c p e = cc (lt-ltb parent node p)

module _ (k tag : ℕ) (ks : List ℕ) (first pending o : ℕ) where
  pub image_tag : o ≡ 0 → tag ≡ image_word k tag ks first pending o
  unfolding pick
  image_tag e = cc

  pub image_key : (r : ℕ) → (o ≡ 0 → ⊥) → o < k → r ≡ get_or ks (o - 1) 0 → r ≡ image_word k tag ks first pending o
  unfolding pick
  image_key r e p f = cc (ne_eqb o 0 e, lt-ltb o k p)

  pub image_child_lem : (r : ℕ) → (o ≡ 0 → ⊥) → k ≤ o → o < 2 * k → r ≡ image_child k tag first o → r ≡ image_word k tag ks first pending o
  unfolding pick
  image_child_lem r e p q f = cc (ne_eqb o 0 e, le-ltb o k p, lt-ltb o (2 * k) q)

-- a pending word says what it stands for, both ways; its two parts
kind_part : (r n : ℕ) → n < 4 → (4 * r + n) % 4 ≡ n
kind_part r n p = mul-add-mod_self_left 4 r n ∙ mod-eq_of_lt p

record_part : (r n : ℕ) → n < 4 → (4 * r + n) / 4 ≡ r
record_part r n p = mul-add-div (omega arith) r n ∙ rw (div-eq_of_lt p) (omega arith)

pub pending_word_lem : (v : Pending) → pending_of (word_of v) ≡ v
pending_word_lem (Clean r) = rw (kind_part r 0 (omega arith), record_part r 0 (omega arith)) refl
pending_word_lem (Replace r) = rw (kind_part r 1 (omega arith), record_part r 1 (omega arith)) refl
pending_word_lem (Prune r) = rw (kind_part r 2 (omega arith), record_part r 2 (omega arith)) refl
pending_word_lem (Mark r) = rw (kind_part r 3 (omega arith), record_part r 3 (omega arith)) refl

of_kind : (n r : ℕ) → n < 4 → word_of (pending_of_kind n r) ≡ 4 * r + n
of_kind zero r p = refl
of_kind (suc zero) r p = refl
of_kind (suc (suc zero)) r p = refl
of_kind (suc (suc (suc zero))) r p = refl
of_kind (suc (suc (suc (suc n)))) r p = absurd (omega arith)

pub word_pending : (w : ℕ) → word_of (pending_of w) ≡ w
word_pending w = of_kind (w % 4) (w / 4) (mod-lt w (omega arith)) ∙ div-add-mod w 4

-- a child, and a record of a kind, by the words read
module _ (b : List ℕ) (h : Header) where
  pub child_is : (parent i node : ℕ) (c : Option Kin) → node ≡ child_word b h parent i → c ≡ below_of b h parent node → c ≡ child_of b h parent i
  child_is parent i node c e f = f ∙ ap (below_of b h parent) e
