-- Helping: where a pending value sends a process, and how help ends.
use Rattle.std.specs.Prelude.{ℕ, ◌-◌, Bool, true, false, not, List, eqb}
use Rattle.tables.specs.Choice.{pick, both}
use Rattle.tables.specs.Layout.{record_word, stack_word, l_field, p_field, third_field, expected_field}
use Rattle.nodes.specs.Pending.{record_of_kind, prune_kind}
use Rattle.tables.specs.declared.header.Header.{Header}
use Rattle.nodes.specs.declared.pending.Pending.{Pending}
use Rattle.nodes.specs.declared.pending.Pending.TheVariants.{Clean, Replace, Prune, Mark}
use Rattle.process.specs.Process.{restarted_of, to_six, to_nine, to_ten, to_eleven}
use Rattle.process.specs.Answer.{answer, going_on, ending_of}
use Rattle.process.specs.declared.Process.{Process}
use Rattle.process.specs.declared.Stepped.{Stepped}

-- "From here l, p and gp are those of the record being helped"; the third word is the new child, or gp
abbrev pub helped_l : List ℕ → Header → Process → ℕ
helped_l b h q = record_word b h q.helped l_field

abbrev pub helped_p : List ℕ → Header → Process → ℕ
helped_p b h q = record_word b h q.helped p_field

abbrev pub helped_third : List ℕ → Header → Process → ℕ
helped_third b h q = record_word b h q.helped third_field

abbrev pub helped_expected : List ℕ → Header → Process → ℕ
helped_expected b h q = record_word b h q.helped expected_field

-- the record on top of the process's help stack
abbrev pub top_of : List ℕ → Header → ℕ → Process → ℕ
top_of b h n q = stack_word b h n (q.depth - 1)

-- "Help ending with an empty stack at 8 or 14 answers yes if the own record is set, else restarts"; elsewhere it restarts
abbrev pub empty_end : Bool → Process → Stepped
empty_end final q = pick (both final (not (eqb q.own 0))) (ending_of q (answer 1)) (going_on (restarted_of q))

-- "Help ended .. with a non-empty stack goes to 10 for the top record"
unfoldable pub help_ended : Bool → ℕ → Process → Stepped
help_ended final top q = pick (eqb q.depth 0) (empty_end final q) (going_on (to_ten q top))

-- "Helping a replace goes to 6, a prune to 9, a mark to 11 with its record; a clean value ends help at once"
abbrev pub helping : ℕ → Process → Pending → Stepped
helping top q (Clean r) = help_ended false top q
helping top q (Replace r) = going_on (to_six q r)
helping top q (Prune r) = going_on (to_nine q r)
helping top q (Mark r) = going_on (to_eleven q r)

-- not "a stack top that is no prune", where a top is made the record helped
abbrev pub top_good : List ℕ → Header → ℕ → ℕ → Bool
top_good b h depth top = pick (eqb depth 0) true (record_of_kind b h top prune_kind)

abbrev pub help_good : List ℕ → Header → ℕ → ℕ → Pending → Bool
help_good b h depth top (Clean r) = top_good b h depth top
help_good b h depth top (Replace r) = true
help_good b h depth top (Prune r) = true
help_good b h depth top (Mark r) = true
