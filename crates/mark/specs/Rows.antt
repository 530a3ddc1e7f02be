-- Points 9, 10, 11 of document 01, one definition for each row, beside the row's words and the lines of the report's Figure 11.
use Rattle.std.specs.Prelude.{ℕ, ◌+◌, ◌-◌, Bool, false, not, List, ltb, eqb, set, Err}
use Rattle.tables.specs.Choice.{pick, both, either}
use Rattle.tables.specs.Refusal.{refusal}
use Rattle.tables.specs.Layout.{depth_of, stack_at, stack_word}
use Rattle.nodes.specs.Pending.{pending_of, record_of_kind, prune_kind}
use Rattle.tables.specs.declared.header.Header.{Header}
use Rattle.nodes.specs.declared.node.Kin.{Kin}
use Rattle.process.specs.Process.{with_index, with_other, with_depth, to_eleven, to_twelve}
use Rattle.process.specs.Answer.{going_on}
use Rattle.process.specs.declared.Process.{Process}
use Rattle.process.specs.declared.Stepped.{Stepped}
use Rattle.help.specs.Touch.{Touch, seen_by, succeeds, touched, Row, Out, out, row_done}
use Rattle.help.specs.Help.{helped_l, helped_p, helped_third, helped_expected, top_of, help_ended, helping, top_good}
use Rattle.help.specs.Reads.{swap_pending, read_child, seen_good, child_good, kin_at, non_empty, flag_word, unflag}

-- 9. "Swap p's pending from the expected word to mark with this record." (Figure 11, line 116.)
abbrev pub touch9 : List ℕ → Header → Process → Touch
touch9 b h q = swap_pending h (helped_p b h q) (helped_expected b h q) (flag_word q.helped 3)

-- "Success, or already that mark: 11." (Figure 11, line 117.)
abbrev pub marked : List ℕ → Header → Process → Bool
marked b h q = either (succeeds b h (touch9 b h q)) (eqb (seen_by b h (touch9 b h q)) (flag_word q.helped 3))

-- "Else push the record and help what was seen"; not "a push past D". (Figure 11, line 121.)
unfoldable pub row9 : List ℕ → Header → ℕ → Process → Row
row9 b h n q = record {
  touch = touch9 b h q;
  sound = both (seen_good b h (touch9 b h q)) (either (marked b h q) (ltb q.depth (depth_of h)));
  stepped =
      pick (marked b h q) (going_on (to_eleven q q.helped))
      (helping q.helped (with_depth q (q.depth + 1)) (pending_of (seen_by b h (touch9 b h q))));
  block = pick (marked b h q) (touched b h (touch9 b h q)) (set b (stack_at h n q.depth) q.helped);
}

-- 9 of any process record: a mark with a number that no word has room for is damage
unfoldable pub prune_marked : List ℕ → Header → ℕ → Process → Out
prune_marked b h n q = pick (ltb (flag_word q.helped 3) 4294967296) (row_done b (row9 b h n q)) (out (Err (refusal 3)) b)

-- 10. "Swap gp's pending from this prune to clean with its number; pop." "A pop sets its stack word to 0." (Figure 11, line 122.)
abbrev pub touch10 : List ℕ → Header → Process → Touch
touch10 b h q = unflag h q (helped_third b h q) 2

-- the record under the top, and what a pop asks of both
abbrev pub under_top : List ℕ → Header → ℕ → Process → ℕ
under_top b h n q = stack_word b h n (q.depth - 1 - 1)

abbrev pub pop_good : List ℕ → Header → ℕ → Process → ℕ → Bool
pop_good b h n q under = both (record_of_kind b h (top_of b h n q) prune_kind) (top_good b h (q.depth - 1) under)

unfoldable pub row10 : List ℕ → Header → ℕ → Process → Row
row10 b h n q = record {
  touch = touch10 b h q;
  sound = both (seen_good b h (touch10 b h q)) (pop_good b h n q (under_top b h n q));
  stepped = help_ended false (under_top b h n q) (with_depth q (q.depth - 1));
  block = set (touched b h (touch10 b h q)) (stack_at h n (q.depth - 1)) 0;
}

-- 11. "Read child i of p, all k in turn, noting the non-empty child that isn't l. After child k: 12."
-- (Figure 11, line 127.)
abbrev pub touch11 : List ℕ → Header → Process → Touch
touch11 b h q = read_child h (helped_p b h q) q.index

abbrev pub notes_kin : List ℕ → Header → Process → ℕ → Kin → Bool
notes_kin b h q seen kin = both (non_empty kin) (not (eqb seen (helped_l b h q)))

abbrev pub notes : List ℕ → Header → Process → ℕ → Bool
notes b h q seen = notes_kin b h q seen (kin_at b h seen)

abbrev pub other_with : Process → ℕ → Bool → ℕ
other_with q seen noting = pick noting seen q.other

-- neither "a second node noted at 11" nor "none at its end"
abbrev pub noted_good : Header → Process → ℕ → Bool → Bool
noted_good h q seen noting =
    both (either (not noting) (eqb q.other 0)) (either (ltb q.index h.k) (not (eqb (other_with q seen noting) 0)))

abbrev pub noted : Header → Process → ℕ → Stepped
noted h q other =
    pick (ltb q.index h.k) (going_on (with_index (with_other q other) (q.index + 1)))
    (going_on (to_twelve (with_other q other)))

unfoldable pub row11 : List ℕ → Header → Process → Row
row11 b h q = record {
  touch = touch11 b h q;
  sound = both (child_good b h (helped_p b h q) (touch11 b h q)) (noted_good h q (seen_by b h (touch11 b h q)) (notes b h q (seen_by b h (touch11 b h q))));
  stepped = noted h q (other_with q (seen_by b h (touch11 b h q)) (notes b h q (seen_by b h (touch11 b h q))));
  block = b;
}
