-- "A step checks the whole of its process record": one definition for each thing that it names.
use Rattle.std.specs.Prelude.{ℕ, ◌^◌, Bool, true, not, List, ltb, leb, eqb}
use Rattle.tables.specs.Choice.{pick, both, either, within}
use Rattle.tables.specs.Numbers.{infinity}
use Rattle.tables.specs.Layout.{depth_of}
use Rattle.nodes.specs.Pending.{pending_good}
use Rattle.nodes.specs.Node.{kin_of, is_node, is_internal, is_leaf}
use Rattle.tables.specs.declared.header.Header.{Header}
use Rattle.process.specs.declared.Process.{Process}

-- nothing there, or something of its kind
abbrev pub zero_or : ℕ → Bool → Bool
zero_or x t = either (eqb x 0) t

-- "operation", "key .. in range"
abbrev pub operation_good : Process → Bool
operation_good q = within 1 q.operation 3

abbrev pub key_good : Process → Bool
key_good q = ltb q.key infinity

-- "point (find 1 or 2, insert not 3 or 5) in range"
abbrev pub point_of_insert : ℕ → Bool
point_of_insert point = both (not (eqb point 3)) (not (eqb point 5))

abbrev pub point_good : ℕ → ℕ → Bool
point_good operation point =
    both (within 1 point 14)
    (pick (eqb operation 1) (leb point 2)
    (pick (eqb operation 2) (point_of_insert point) true))

-- "index to k, mask below 2^k, depth to D"
abbrev pub index_good : Header → Process → Bool
index_good h q = leb q.index h.k

abbrev pub mask_good : Header → Process → Bool
mask_good h q = ltb q.mask (2 ^ h.k)

abbrev pub depth_good : Header → Process → Bool
depth_good h q = leb q.depth (depth_of h)

unfoldable pub numbers_good : Header → Process → Bool
numbers_good h q =
    both (operation_good q)
    (both (key_good q)
    (both (point_good q.operation q.point)
    (both (index_good h q) (both (mask_good h q) (depth_good h q)))))

-- "p and gp internal, l a leaf"; other a node
abbrev pub p_good : List ℕ → Header → Process → Bool
p_good b h q = is_internal (kin_of b h q.p)

abbrev pub gp_good : List ℕ → Header → Process → Bool
gp_good b h q = zero_or q.gp (is_internal (kin_of b h q.gp))

abbrev pub l_good : List ℕ → Header → Process → Bool
l_good b h q = zero_or q.l (is_leaf (kin_of b h q.l))

abbrev pub other_good : List ℕ → Header → Process → Bool
other_good b h q = zero_or q.other (is_node (kin_of b h q.other))

unfoldable pub nodes_good : List ℕ → Header → Process → Bool
nodes_good b h q = both (p_good b h q) (both (gp_good b h q) (both (l_good b h q) (other_good b h q)))

-- the two pending values read; the records helped and own are 0 or in use
unfoldable pub records_good : List ℕ → Header → Process → Bool
records_good b h q =
    both (pending_good b h q.pseen)
    (both (pending_good b h q.gseen) (both (leb q.helped h.recordsused) (leb q.own h.recordsused)))

-- "Zero is damage in p and in what the row uses: l at 3 to 5, gp at 5, the helped record from 6, index at 3, 6, 7 and 11 to 13, other at 13, depth at 10."
abbrev pub uses_index : ℕ → Bool
uses_index point = either (eqb point 3) (either (within 6 point 7) (within 11 point 13))

abbrev pub given : Bool → ℕ → Bool
given used x = pick used (not (eqb x 0)) true

unfoldable pub uses_good : Process → Bool
uses_good q =
    both (given (within 3 q.point 5) q.l)
    (both (given (eqb q.point 5) q.gp)
    (both (given (leb 6 q.point) q.helped)
    (both (given (uses_index q.point) q.index)
    (both (given (eqb q.point 13) q.other) (given (eqb q.point 10) q.depth)))))

unfoldable pub process_good : List ℕ → Header → Process → Bool
process_good b h q = both (numbers_good h q) (both (nodes_good b h q) (both (records_good b h q) (uses_good q)))
