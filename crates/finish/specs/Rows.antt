-- Points 6, 7, 8 and 12, 13, 14 of document 01, one definition for each row, beside the row's words and the lines of the report's Figure 11.
use Rattle.std.specs.Prelude.{ℕ, ◌+◌, true, List, ltb, eqb}
use Rattle.tables.specs.Choice.{pick, both}
use Rattle.tables.specs.declared.header.Header.{Header}
use Rattle.process.specs.Process.{with_point, with_index}
use Rattle.process.specs.Answer.{going_on}
use Rattle.process.specs.declared.Process.{Process}
use Rattle.process.specs.declared.Stepped.{Stepped}
use Rattle.help.specs.Touch.{seen_by, touched, Row}
use Rattle.help.specs.Help.{helped_l, helped_p, helped_third, top_of, help_ended, top_good}
use Rattle.help.specs.Reads.{read_child, swap_child, seen_good, child_good, unflag}

-- 6 and 12: look for a node among the children of another; found, its index stays
abbrev pub looked_for : Header → Process → ℕ → ℕ → ℕ → ℕ → Stepped
looked_for h q seen target found missed =
    pick (eqb seen target) (going_on (with_point q found))
    (pick (ltb q.index h.k) (going_on (with_index q (q.index + 1))) (going_on (with_point q missed)))

unfoldable pub look_row : List ℕ → Header → Process → ℕ → ℕ → ℕ → ℕ → Row
look_row b h q parent target found missed = record {
  touch = read_child h parent q.index;
  sound = child_good b h parent (read_child h parent q.index);
  stepped = looked_for h q (seen_by b h (read_child h parent q.index)) target found missed;
  block = b;
}

-- 7 and 13: swap that child, from one node to another that stands above the parent; on to the next point either way
unfoldable pub hang_row : List ℕ → Header → Process → ℕ → ℕ → ℕ → ℕ → Row
hang_row b h q parent from to next = record {
  touch = swap_child h parent q.index from to;
  sound = both (child_good b h parent (swap_child h parent q.index from to)) (ltb parent to);
  stepped = going_on (with_point q next);
  block = touched b h (swap_child h parent q.index from to);
}

-- 8 and 14: swap a node's pending from this flag to clean; help ends
unfoldable pub unflag_row : List ℕ → Header → ℕ → Process → ℕ → ℕ → Row
unflag_row b h n q node kind = record {
  touch = unflag h q node kind;
  sound = both (seen_good b h (unflag h q node kind)) (top_good b h q.depth (top_of b h n q));
  stepped = help_ended true (top_of b h n q) q;
  block = touched b h (unflag h q node kind);
}

-- 6. "Read child i of p. Equal to l: 7. After child k without a match: 8." (Figure 11, lines 101 and 112.)
unfoldable pub row6 : List ℕ → Header → Process → Row
row6 b h q = look_row b h q (helped_p b h q) (helped_l b h q) 7 8

-- 7. "Swap that child from l to the new child. To 8." (Figure 11, line 113.)
unfoldable pub row7 : List ℕ → Header → Process → Row
row7 b h q = hang_row b h q (helped_p b h q) (helped_l b h q) (helped_third b h q) 8

-- 8. "Swap p's pending from this replace to clean with the same record number. Help ends." (Figure 11, line 102.)
unfoldable pub row8 : List ℕ → Header → ℕ → Process → Row
row8 b h n q = unflag_row b h n q (helped_p b h q) 1

-- 12. "Read child i of gp, looking for p. Found: 13. None: 14." (Figure 11, lines 128 and 112.)
unfoldable pub row12 : List ℕ → Header → Process → Row
row12 b h q = look_row b h q (helped_third b h q) (helped_p b h q) 13 14

-- 13. "Swap that child from p to the noted node. To 14." (Figure 11, lines 128 and 113.)
unfoldable pub row13 : List ℕ → Header → Process → Row
row13 b h q = hang_row b h q (helped_third b h q) (helped_p b h q) q.other 14

-- 14. "Swap gp's pending from this prune to clean with its number. Help ends." (Figure 11, line 129.)
unfoldable pub row14 : List ℕ → Header → ℕ → Process → Row
row14 b h n q = unflag_row b h n q (helped_third b h q) 2
