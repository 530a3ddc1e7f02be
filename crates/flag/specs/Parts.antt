-- What the private parts of points 4 and 5 promise: a row seen from the middle of its work.
use Rattle.std.specs.Prelude.{ℕ, Bool, List, eqb, Result, Ok, Err}
use Rattle.tables.specs.Choice.{pick, both}
use Rattle.tables.specs.Refusal.{refusal}
use Rattle.nodes.specs.Pending.{word_of, pending_of, pending_good}
use Rattle.tables.specs.declared.header.Header.{Header}
use Rattle.nodes.specs.declared.node.Kin.{Kin}
use Rattle.nodes.specs.declared.node.Kin.TheVariants.{Leaf, Internal}
use Rattle.process.specs.Process.{with_own, to_six, to_nine}
use Rattle.process.specs.Answer.{answer, going_on, ending_of}
use Rattle.process.specs.declared.Process.{Process}
use Rattle.process.specs.declared.Stepped.{Stepped}
use Rattle.tables.specs.declared.numbers.Refusal.{Refusal}
use Rattle.draws.specs.Draw.{new_record, replace_of, prune_of}
use Rattle.help.specs.Touch.{Out, out}
use Rattle.help.specs.Help.{top_of, helping, help_good}
use Rattle.flag.specs.Rows.{job_of, leaf_good4}

-- what was seen is helped, or its stack top is damaged
abbrev pub seen_helped : List ℕ → Header → ℕ → Process → ℕ → Result Stepped Refusal
seen_helped b h n q word =
    pick (help_good b h q.depth (top_of b h n q) (pending_of word)) (Ok (helping (top_of b h n q) q (pending_of word))) (Err (refusal 3))

-- after a draw: the own record is helped; without room the operation ends full
abbrev pub drawn_replace : Header → Process → Bool → Stepped
drawn_replace h q drawn = pick drawn (going_on (to_six (with_own q (new_record h)) (new_record h))) (ending_of q (answer 2))

abbrev pub drawn_prune : Header → Process → Bool → Stepped
drawn_prune h q drawn = pick drawn (going_on (to_nine (with_own q (new_record h)) (new_record h))) (ending_of q (answer 2))

-- the compare of 4 and of 5, with the word seen
unfoldable pub flagged_p : List ℕ → Header → ℕ → Process → ℕ → ℕ → Out
flagged_p b h n q count word =
    pick (eqb word (word_of q.pseen))
    (out (Ok (drawn_replace h q (replace_of b h (job_of n q) count).drawn)) (replace_of b h (job_of n q) count).block)
    (out (seen_helped b h n q word) b)

-- 4 once p's pending is read: l is a leaf, its keys and that word are good, then the compare
abbrev pub flagged_leaf : List ℕ → Header → ℕ → Process → Kin → ℕ → Out
flagged_leaf b h n q (Leaf l count) word =
    pick (both (leaf_good4 b h q (Leaf l count)) (pending_good b h (pending_of word))) (flagged_p b h n q count word) (out (Err (refusal 3)) b)
flagged_leaf b h n q (Internal l) word = out (Err (refusal 3)) b

unfoldable pub flagged_gp : List ℕ → Header → ℕ → Process → ℕ → Out
flagged_gp b h n q word =
    pick (eqb word (word_of q.gseen))
    (out (Ok (drawn_prune h q (prune_of b h (job_of n q) q.gp (word_of q.pseen)).drawn)) (prune_of b h (job_of n q) q.gp (word_of q.pseen)).block)
    (out (seen_helped b h n q word) b)
