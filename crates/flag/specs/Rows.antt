-- Points 4 and 5 of document 01, one definition for each row, beside the row's words and the lines of the report's Figures 9 and 10.
use Rattle.std.specs.Prelude.{ℕ, ◌+◌, ◌*◌, Bool, false, not, List, ltb, eqb, Err}
use Rattle.tables.specs.Choice.{pick, both, either}
use Rattle.tables.specs.Refusal.{refusal}
use Rattle.tables.specs.Layout.{tag_word}
use Rattle.nodes.specs.Pending.{word_of, pending_of}
use Rattle.nodes.specs.Node.{kin_of, is_node}
use Rattle.nodes.specs.Keys.{keys_of, rises, holds}
use Rattle.tables.specs.declared.header.Header.{Header}
use Rattle.nodes.specs.declared.node.Kin.{Kin}
use Rattle.nodes.specs.declared.node.Kin.TheVariants.{Leaf, Internal}
use Rattle.process.specs.Process.{with_own, to_six, to_nine}
use Rattle.process.specs.Answer.{answer, going_on, ending_of}
use Rattle.process.specs.declared.Process.{Process}
use Rattle.process.specs.declared.Stepped.{Stepped}
use Rattle.draws.specs.Draw.{new_record, room_for, needed_nodes, replace_drawn, prune_drawn}
use Rattle.draws.specs.declared.Job.{Job}
use Rattle.help.specs.Touch.{Touch, seen_by, succeeds, Row, Out, out, row_done}
use Rattle.help.specs.Help.{top_of, helping, help_good}
use Rattle.help.specs.Reads.{swap_pending, seen_good, kin_at}

-- what the process's new record will say
abbrev pub job_of : ℕ → Process → Job
job_of n q = record { process = n; operation = q.operation; key = q.key; p = q.p; l = q.l }

-- "Success: help the own record. Else help what was seen." Full: the swap would succeed and there is no room
abbrev pub flagging : List ℕ → Header → ℕ → Process → Touch → Bool → Stepped → Stepped
flagging b h n q t room success =
    pick (succeeds b h t) (pick room success (ending_of q (answer 2))) (helping (top_of b h n q) q (pending_of (seen_by b h t)))

-- a value seen that is not the value read is helped: its stack top, if that is needed, is a prune
abbrev pub flag_good : List ℕ → Header → ℕ → Process → Touch → Bool
flag_good b h n q t = both (seen_good b h t) (either (succeeds b h t) (help_good b h q.depth (top_of b h n q) (pending_of (seen_by b h t))))

-- 4. "Compare-and-swap p's pending, from the value read to replace with a new record." (Figure 9, lines 57 to 76; Figure 10, lines 97 to 107.)
abbrev pub touch4 : Header → Process → Touch
touch4 h q = swap_pending h q.p (word_of q.pseen) (4 * new_record h + 1)

-- l a leaf; neither "keys that don't rise below infinity in a leaf .. at 4" nor "at 4 an l that holds an insert's key or lacks a delete's"
abbrev pub held_good : ℕ → Bool → Bool
held_good operation held = pick (eqb operation 2) (not held) held

abbrev pub leaf_good4 : List ℕ → Header → Process → Kin → Bool
leaf_good4 b h q (Internal l) = false
leaf_good4 b h q (Leaf l count) = both (rises (keys_of b h l count)) (held_good q.operation (holds q.key (keys_of b h l count)))

abbrev pub room4 : List ℕ → Header → Process → Bool
room4 b h q = room_for h (needed_nodes h q.operation (tag_word b h q.l))

unfoldable pub row4 : List ℕ → Header → ℕ → Process → Row
row4 b h n q = record {
  touch = touch4 h q;
  sound = both (is_node (kin_of b h q.l)) (both (leaf_good4 b h q (kin_at b h q.l)) (flag_good b h n q (touch4 h q)));
  stepped = flagging b h n q (touch4 h q) (room4 b h q) (going_on (to_six (with_own q (new_record h)) (new_record h)));
  block = pick (both (succeeds b h (touch4 h q)) (room4 b h q)) (replace_drawn b h (job_of n q) (tag_word b h q.l)) b;
}

-- 5. "The same on gp's pending, with prune." (Figure 10, lines 86 to 94.)
abbrev pub touch5 : Header → Process → Touch
touch5 h q = swap_pending h q.gp (word_of q.gseen) (4 * new_record h + 2)

unfoldable pub row5 : List ℕ → Header → ℕ → Process → Row
row5 b h n q = record {
  touch = touch5 h q;
  sound = flag_good b h n q (touch5 h q);
  stepped = flagging b h n q (touch5 h q) (room_for h 0) (going_on (to_nine (with_own q (new_record h)) (new_record h)));
  block = pick (both (succeeds b h (touch5 h q)) (room_for h 0)) (prune_drawn b h (job_of n q) q.gp (word_of q.pseen)) b;
}

-- 5 of any process record: "the value read on the way down is the expected one", and one that no word of a record can hold is damage
unfoldable pub prune_flagged : List ℕ → Header → ℕ → Process → Out
prune_flagged b h n q = pick (ltb (word_of q.pseen) 4294967296) (row_done b (row5 b h n q)) (out (Err (refusal 3)) b)
