-- "The walk goes down from node 1, children in order, always over the whole tree; a walk that meets more nodes than are in use is damaged."
use Rattle.std.specs.Prelude.{ℕ, zero, suc, ◌-◌, Bool, true, false, List, [], ◌++◌, eqb, Option, Some, None}
use Rattle.nodes.specs.declared.node.Kin.{Kin}
use Rattle.tables.specs.Choice.{pick, both}
use Rattle.nodes.specs.Node.{kin_of, child_of}
use Rattle.nodes.specs.Keys.{keys_of, rises}
use Rattle.tables.specs.declared.header.Header.{Header}
use Rattle.nodes.specs.declared.node.Kin.TheVariants.{Leaf, Internal}

-- where a walk stands: how many nodes it may still meet, the keys that it has met, in order, and whether it has met no damage
pub record Walk : Type 0 where
  pub allowed : ℕ
  pub keys : List ℕ
  pub sound : Bool

abbrev pub walk : ℕ → List ℕ → Bool → Walk
walk allowed keys sound = record { allowed = allowed; keys = keys; sound = sound }

-- a walk that has met nothing yet
abbrev pub begin : ℕ → Walk
begin allowed = walk allowed [] true

-- one more node is met; damage is met, which nothing mends
abbrev pub spent : Walk → Walk
spent w = walk (w.allowed - 1) w.keys w.sound

abbrev pub damaged : Walk → Walk
damaged w = walk w.allowed w.keys false

-- a leaf: its keys are met; damaged, "keys that don't rise below infinity in a leaf .. on a walk"
abbrev pub leaf_met : List ℕ → Header → ℕ → ℕ → Walk → Walk
leaf_met b h node count w =
    walk w.allowed (w.keys ++ keys_of b h node count) (both w.sound (rises (keys_of b h node count)))

-- "children in order": from the first to child n
unfoldable pub in_order : (ℕ → Walk → Walk) → ℕ → Walk → Walk
in_order visit zero w = w
in_order visit (suc n) w = visit (suc n) (in_order visit n w)

-- a node that is met, by what it is; `down` is the walk from a child of it
abbrev pub node_met : (Option Kin → Walk → Walk) → List ℕ → Header → Option Kin → Walk → Walk
node_met down b h (Some (Leaf node count)) w = leaf_met b h node count w
node_met down b h (Some (Internal node)) w = in_order (λ i v. down (child_of b h node i) v) h.k w
node_met down b h None w = damaged w

-- The walk down from a node. The first number only bounds how deep the definition goes: from nodes allowed on it changes nothing
-- (meter/proofs/Walks.antt, deep-enough), so that what ends a walk is the number of nodes still allowed.
unfoldable pub walk_of : ℕ → List ℕ → Header → Option Kin → Walk → Walk
walk_of zero b h child w = damaged w
walk_of (suc deep) b h child w =
    pick (eqb w.allowed 0) (damaged w) (node_met (λ c v. walk_of deep b h c v) b h child (spent w))

-- what is met down from a node by a walk with so many nodes allowed
abbrev pub met_from : List ℕ → Header → Option Kin → ℕ → Walk
met_from b h child allowed = walk_of allowed b h child (begin allowed)

-- the walk: from node 1, with the nodes in use allowed
abbrev pub walked : List ℕ → Header → Walk
walked b h = met_from b h (kin_of b h 1) h.nodesused
