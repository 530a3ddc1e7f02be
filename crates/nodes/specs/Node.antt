-- "A child that is read is a leaf or an internal node; anything else is damaged", and the words of a node that is written.
use Rattle.std.specs.Prelude.{ℕ, ◌+◌, ◌*◌, ◌-◌, Bool, true, false, List, ltb, leb, eqb, get_or, Option, Some, None}
use Rattle.std.proofs.lemmas.List.Edits.{sets}
use Rattle.tables.specs.Choice.{pick, both, within, listed}
use Rattle.tables.specs.Numbers.{node_words}
use Rattle.tables.specs.Layout.{node_at, tag_word, child_word, tag_place}
use Rattle.tables.specs.declared.header.Header.{Header}
use Rattle.nodes.specs.declared.node.Kin.{Kin}
use Rattle.nodes.specs.declared.node.Kin.TheVariants.{Leaf, Internal}

-- "Tag 0 to k−1 is a leaf with that many keys; tag k is internal"
abbrev pub kin_of_tag : Header → ℕ → ℕ → Kin
kin_of_tag h node tag = pick (ltb tag h.k) (Leaf node tag) (Internal node)

-- neither "a node not in use" nor "a tag above k"
abbrev pub good_tag : Header → ℕ → ℕ → Bool
good_tag h node tag = both (within 1 node h.nodesused) (leb tag h.k)

abbrev pub node_good : List ℕ → Header → ℕ → Bool
node_good b h node = good_tag h node (tag_word b h node)

abbrev pub kin_of : List ℕ → Header → ℕ → Option Kin
kin_of b h node = pick (node_good b h node) (Some (kin_of_tag h node (tag_word b h node))) None

-- a node that hangs, or would hang, below a parent: not "a child not above its parent"
abbrev pub below_of : List ℕ → Header → ℕ → ℕ → Option Kin
below_of b h parent node = pick (ltb parent node) (kin_of b h node) None

-- what child i of a node is
abbrev pub child_of : List ℕ → Header → ℕ → ℕ → Option Kin
child_of b h parent i = below_of b h parent (child_word b h parent i)

-- a good node; a good internal node; a good leaf
abbrev pub is_node : Option Kin → Bool
is_node (Some kin) = true
is_node None = false

abbrev pub is_internal : Option Kin → Bool
is_internal (Some (Internal n)) = true
is_internal (Some (Leaf n c)) = false
is_internal None = false

abbrev pub is_leaf : Option Kin → Bool
is_leaf (Some (Internal n)) = false
is_leaf (Some (Leaf n c)) = true
is_leaf None = false

-- child o − k of a node whose children, if it is internal, are first, first + 1, ..
abbrev pub image_child : ℕ → ℕ → ℕ → ℕ → ℕ
image_child k tag first o = pick (eqb tag k) (first + (o - k)) 0

-- the word at an offset of a node whose keys are ks
abbrev pub image_word : ℕ → ℕ → List ℕ → ℕ → ℕ → ℕ → ℕ
image_word k tag ks first pending o =
    pick (eqb o tag_place) tag
    (pick (ltb o k) (get_or ks (o - 1) 0)
    (pick (ltb o (2 * k)) (image_child k tag first o) pending))

-- all its words; "Unused words are 0"
abbrev pub node_image : ℕ → ℕ → List ℕ → ℕ → ℕ → List ℕ
node_image k tag ks first pending = listed (image_word k tag ks first pending) 0 (node_words k)

abbrev pub leaf_image : ℕ → ℕ → List ℕ → List ℕ
leaf_image k count ks = node_image k count ks 0 0

abbrev pub internal_image : ℕ → List ℕ → ℕ → ℕ → List ℕ
internal_image k ks first pending = node_image k k ks first pending

-- the block with a node's words written
abbrev pub with_node : List ℕ → Header → ℕ → List ℕ → List ℕ
with_node b h node image = sets b (node_at h node 0) image
