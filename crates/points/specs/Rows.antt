-- The fourteen points of document 01: here 1 to 3, one definition for each row, beside the row's words and the lines of the report's Figures 9 and 10; 4 and 5 stand in flag's Rows, 9 to 11 in mark's, the others in finish's.
use Rattle.std.specs.Prelude.{ℕ, ◌+◌, ◌-◌, ◌^◌, Bool, true, false, not, List, ltb, eqb}
use Rattle.std.specs.Int.Bits.{bit_or}
use Rattle.std.specs.Int.Count.{ones}
use Rattle.tables.specs.Choice.{pick, both}
use Rattle.tables.specs.Layout.{tag_word}
use Rattle.nodes.specs.Pending.{pending_of}
use Rattle.nodes.specs.Keys.{keys_of, rises, holds, route_of}
use Rattle.tables.specs.declared.header.Header.{Header}
use Rattle.nodes.specs.declared.node.Kin.{Kin}
use Rattle.nodes.specs.declared.node.Kin.TheVariants.{Leaf, Internal}
use Rattle.process.specs.Process.{with_point, with_p_seen, with_l, with_index, with_mask, descended_of, to_three, is_clean_of}
use Rattle.process.specs.Answer.{answer, going_on, ending_of}
use Rattle.process.specs.declared.Process.{Process}
use Rattle.process.specs.declared.Stepped.{Stepped}
use Rattle.help.specs.Touch.{Touch, reads, seen_by, Row}
use Rattle.help.specs.Help.{helping}
use Rattle.help.specs.Reads.{read_pending, read_child, seen_good, child_good, kin_at, non_empty}
use Rattle.flag.specs.Rows.{row4, row5}
use Rattle.finish.specs.Rows.{row6, row7, row8, row12, row13, row14}
use Rattle.mark.specs.Rows.{row9, row10, row11}

-- 1. "Read p's pending. To 2." (Figure 9, lines 27 and 33.)
abbrev pub touch1 : Header → Process → Touch
touch1 h q = read_pending h q.p

unfoldable pub row1 : List ℕ → Header → Process → Row
row1 b h q = record {
  touch = touch1 h q;
  sound = seen_good b h (touch1 h q);
  stepped = going_on (with_point (with_p_seen q (pending_of (seen_by b h (touch1 h q)))) 2);
  block = b;
}

-- 2. "Read the child of p for the key: the first i with key below key i, else child k." (Figure 9, lines 26 and 34.)
abbrev pub touch2 : List ℕ → Header → Process → Touch
touch2 b h q = read_child h q.p (route_of b h q.p q.key)

-- "Insert answers no if the key is there; else helps p's pending if not clean; else 4." (Figure 9, lines 52 to 55.)
abbrev pub insert_at : Process → Bool → Stepped
insert_at q held = pick held (ending_of q (answer 0)) (pick (is_clean_of q.pseen) (going_on (with_point q 4)) (helping 0 q q.pseen))

-- "Delete answers no if the key isn't there; else helps gp's pending, then p's, whichever is first not clean; else 3 with i = 1."
-- (Figure 10, lines 72 to 78.)
abbrev pub delete_at : Process → Bool → Stepped
delete_at q held =
    pick held
    (pick (is_clean_of q.gseen)
    (pick (is_clean_of q.pseen) (going_on (to_three q)) (helping 0 q q.pseen))
    (helping 0 q q.gseen))
    (ending_of q (answer 0))

-- "find answers" (Figure 9, lines 41 and 42.)
abbrev pub find_at : Process → Bool → Stepped
find_at q held = ending_of q (pick held (answer 1) (answer 0))

abbrev pub at_leaf : Process → Bool → Stepped
at_leaf q held = pick (eqb q.operation 1) (find_at q held) (pick (eqb q.operation 2) (insert_at q held) (delete_at q held))

-- "Internal: gp takes p, p takes the child, the pending value moves along, to 1. Leaf: l takes it" (Figure 9, lines 28 to 32.)
abbrev pub at_child : List ℕ → Header → Process → Kin → Stepped
at_child b h q (Internal child) = going_on (with_point (descended_of q child) 1)
at_child b h q (Leaf child count) = at_leaf (with_l q child) (holds q.key (keys_of b h child count))

-- neither "keys that don't rise below infinity in a leaf at 2" nor "a leaf straight below node 1 on a search"
abbrev pub leaf_good2 : List ℕ → Header → Process → Kin → Bool
leaf_good2 b h q (Internal child) = true
leaf_good2 b h q (Leaf child count) = both (not (eqb q.p 1)) (rises (keys_of b h child count))

unfoldable pub row2 : List ℕ → Header → Process → Row
row2 b h q = record {
  touch = touch2 b h q;
  sound = both (child_good b h q.p (touch2 b h q)) (leaf_good2 b h q (kin_at b h (seen_by b h (touch2 b h q))));
  stepped = at_child b h q (kin_at b h (seen_by b h (touch2 b h q)));
  block = b;
}

-- 3. "Read child i of p; set its bit in the mask if internal or holding a key." (Figure 10, lines 81 and 82.)
abbrev pub touch3 : Header → Process → Touch
touch3 h q = read_child h q.p q.index

-- "Child i is bit i−1 of the mask."
abbrev pub mask_with : Process → Kin → ℕ
mask_with q kin = pick (non_empty kin) (bit_or q.mask (2 ^ (q.index - 1))) q.mask

-- "if the count of ones in its mask is 2 and l holds one key, 5; else 4" (Figure 10, line 83.)
abbrev pub point_after3 : List ℕ → Header → Process → ℕ → ℕ
point_after3 b h q mask = pick (both (eqb (ones mask) 2) (eqb (tag_word b h q.l) 1)) 5 4

-- "A read that stays at its point adds 1 to the index."
abbrev pub scanned3 : List ℕ → Header → Process → ℕ → Stepped
scanned3 b h q mask =
    pick (ltb q.index h.k) (going_on (with_index (with_mask q mask) (q.index + 1)))
    (going_on (with_point (with_mask q mask) (point_after3 b h q mask)))

unfoldable pub row3 : List ℕ → Header → Process → Row
row3 b h q = record {
  touch = touch3 h q;
  sound = child_good b h q.p (touch3 h q);
  stepped = scanned3 b h q (mask_with q (kin_at b h (seen_by b h (touch3 h q))));
  block = b;
}

-- a point outside the fourteen has no row, and is damage
unfoldable pub no_row : List ℕ → Process → Row
no_row b q = record { touch = reads 0 0; sound = false; stepped = going_on q; block = b }

-- "Each accepted step does the one row of its point"
unfoldable pub row_of : List ℕ → Header → ℕ → Process → Row
row_of b h n q =
    pick (eqb q.point 1) (row1 b h q)
    (pick (eqb q.point 2) (row2 b h q)
    (pick (eqb q.point 3) (row3 b h q)
    (pick (eqb q.point 4) (row4 b h n q)
    (pick (eqb q.point 5) (row5 b h n q)
    (pick (eqb q.point 6) (row6 b h q)
    (pick (eqb q.point 7) (row7 b h q)
    (pick (eqb q.point 8) (row8 b h n q)
    (pick (eqb q.point 9) (row9 b h n q)
    (pick (eqb q.point 10) (row10 b h n q)
    (pick (eqb q.point 11) (row11 b h q)
    (pick (eqb q.point 12) (row12 b h q)
    (pick (eqb q.point 13) (row13 b h q)
    (pick (eqb q.point 14) (row14 b h n q)
    (no_row b q))))))))))))))
