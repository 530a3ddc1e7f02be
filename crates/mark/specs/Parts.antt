-- What the private parts of points 9 and 11 promise: a row seen from the middle of its work.
use Rattle.std.specs.Prelude.{ℕ, ◌+◌, ◌*◌, Bool, List, eqb, ltb, set, Result, Ok, Err}
use Rattle.tables.specs.Choice.{pick}
use Rattle.tables.specs.Refusal.{refusal}
use Rattle.tables.specs.Layout.{depth_of, node_at, stack_at, pending_place}
use Rattle.nodes.specs.Pending.{pending_of}
use Rattle.tables.specs.declared.header.Header.{Header}
use Rattle.process.specs.Process.{with_depth, to_eleven}
use Rattle.process.specs.Answer.{going_on}
use Rattle.process.specs.declared.Process.{Process}
use Rattle.process.specs.declared.Stepped.{Stepped}
use Rattle.tables.specs.declared.numbers.Refusal.{Refusal}
use Rattle.help.specs.Touch.{Out, out}
use Rattle.help.specs.Help.{helping}
use Rattle.mark.specs.Rows.{noted_good, noted, other_with}

-- a push at 9, or none past D
unfoldable pub pushed : List ℕ → Header → ℕ → Process → ℕ → Out
pushed b h n q word =
    pick (ltb q.depth (depth_of h))
    (out (Ok (helping q.helped (with_depth q (q.depth + 1)) (pending_of word))) (set b (stack_at h n q.depth) q.helped))
    (out (Err (refusal 3)) b)

-- 9 with the words it works from: the mark, the mark already there, or a push
unfoldable pub marked_or_pushed : List ℕ → Header → ℕ → Process → ℕ → ℕ → ℕ → Out
marked_or_pushed b h n q p expected word =
    pick (eqb word expected) (out (Ok (going_on (to_eleven q q.helped))) (set b (node_at h p (pending_place h.k)) (4 * q.helped + 3)))
    (pick (eqb word (4 * q.helped + 3)) (out (Ok (going_on (to_eleven q q.helped))) b) (pushed b h n q word))

-- the noting of 11
abbrev pub note_done : Header → Process → ℕ → Bool → Result Stepped Refusal
note_done h q seen noting = pick (noted_good h q seen noting) (Ok (noted h q (other_with q seen noting))) (Err (refusal 3))
