-- A row that is sound is done, one that is not is refused; the row of a point; what a child read is.
use Prim.Native.Nat.{ℕ}
use mathlib.Core.Path.{◌≡◌, refl}
use mathlib.Core.Bool.{Bool, true, false}
use mathlib.Core.List.{List}
use native.Mathlib.Omega.{arith}
use lib.Dec.{ltb, eqb}
use borrow.Author.Tests.{eqb-true}
use Rattle.std.specs.Prelude.{Option, Some, None, Result, Ok, Err}
use Rattle.tables.specs.Choice.{pick, both}
use Rattle.tables.specs.Refusal.{refusal}
use Rattle.tables.specs.declared.numbers.Refusal.{Refusal}
use Rattle.nodes.specs.Node.{kin_of, below_of, node_good}
use Rattle.tables.specs.declared.header.Header.{Header}
use Rattle.nodes.specs.declared.node.Kin.{Kin}
use Rattle.process.specs.declared.Stepped.{Stepped}
use Rattle.help.specs.Touch.{Row, out, row_done}
use Rattle.help.specs.Reads.{kin_at}

module _ (b : List ℕ) (row : Row) where
  pub row_done_lem : (s : Stepped) (e : List ℕ) → row.sound ≡ true → s ≡ row.stepped → e ≡ row.block → out (Ok s) e ≡ row_done b row
  unfolding row_done pick
  row_done_lem s e f g i = cc

  pub row_not : row.sound ≡ false → out (Err (refusal 3)) b ≡ row_done b row
  unfolding row_done pick
  row_not f = cc

-- a fact of each row, at its point, is a fact of the row of the point
module _ (P : Row → Type 0) where
  pub at_row : (x n : ℕ) (r s : Row) → (x ≡ n → P r) → P s → P (pick (eqb x n) r s)
  unfolding pick
  at_row x n r s f g = go (eqb x n) (eqb-true x n)
    where
      go : (t : Bool) → (t ≡ true → x ≡ n) → P (pick t r s)
      go true e = f (e refl)
      go false e = g

-- a good node is what its tag says
kin_node : (t : Bool) (k kin : Kin) → pick t (Some k) None ≡ Some kin → kin ≡ k
unfolding pick
kin_node true k kin e = cc
kin_node false k kin e = let z : ◌≡◌ {A = ℕ} 0 1 = cc in absurd (omega arith)

pub kin_is : (b : List ℕ) (h : Header) (node : ℕ) (kin : Kin) → kin_of b h node ≡ Some kin → kin ≡ kin_at b h node
kin_is b h node kin e = kin_node (node_good b h node) (kin_at b h node) kin e

below_node : (t : Bool) (c : Option Kin) (kin : Kin) → pick t c None ≡ Some kin → c ≡ Some kin
unfolding pick
below_node true c kin e = e
below_node false c kin e = let z : ◌≡◌ {A = ℕ} 0 1 = cc in absurd (omega arith)

pub below_is : (b : List ℕ) (h : Header) (parent node : ℕ) (kin : Kin) → below_of b h parent node ≡ Some kin → kin ≡ kin_at b h node
below_is b h parent node kin e = kin_is b h node kin (below_node (ltb parent node) (kin_of b h node) kin e)
