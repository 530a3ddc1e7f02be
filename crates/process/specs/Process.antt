-- The process record: what is idle, and what each rule of "The fourteen points" sets. A field that no rule names keeps its value.
use Rattle.std.specs.Prelude.{ℕ, Bool, true, false}
use Rattle.nodes.specs.declared.pending.Pending.{Pending}
use Rattle.nodes.specs.declared.pending.Pending.TheVariants.{Clean, Replace, Prune, Mark}
use Rattle.process.specs.declared.Process.{Process}

-- "An idle record is all zero and clean."
abbrev pub idle : Process
idle = record { operation = 0; key = 0; point = 0; gp = 0; p = 0; l = 0; pseen = Clean 0; gseen = Clean 0; index = 0; mask = 0; helped = 0; other = 0; depth = 0; own = 0; steps = 0 }

-- "A start sets operation, key, point 1 and p = 1 and clears the rest."
abbrev pub started_as : ℕ → ℕ → Process
started_as operation key = record { operation = operation; key = key; point = 1; gp = 0; p = 1; l = 0; pseen = Clean 0; gseen = Clean 0; index = 0; mask = 0; helped = 0; other = 0; depth = 0; own = 0; steps = 0 }

-- "A restart is a start that keeps the steps."
abbrev pub restarted_of : Process → Process
restarted_of q = record { operation = q.operation; key = q.key; point = 1; gp = 0; p = 1; l = 0; pseen = Clean 0; gseen = Clean 0; index = 0; mask = 0; helped = 0; other = 0; depth = 0; own = 0; steps = q.steps }

-- one field set
abbrev pub with_point : Process → ℕ → Process
with_point q n = record { operation = q.operation; key = q.key; point = n; gp = q.gp; p = q.p; l = q.l; pseen = q.pseen; gseen = q.gseen; index = q.index; mask = q.mask; helped = q.helped; other = q.other; depth = q.depth; own = q.own; steps = q.steps }

abbrev pub with_p_seen : Process → Pending → Process
with_p_seen q v = record { operation = q.operation; key = q.key; point = q.point; gp = q.gp; p = q.p; l = q.l; pseen = v; gseen = q.gseen; index = q.index; mask = q.mask; helped = q.helped; other = q.other; depth = q.depth; own = q.own; steps = q.steps }

abbrev pub with_l : Process → ℕ → Process
with_l q n = record { operation = q.operation; key = q.key; point = q.point; gp = q.gp; p = q.p; l = n; pseen = q.pseen; gseen = q.gseen; index = q.index; mask = q.mask; helped = q.helped; other = q.other; depth = q.depth; own = q.own; steps = q.steps }

abbrev pub with_index : Process → ℕ → Process
with_index q n = record { operation = q.operation; key = q.key; point = q.point; gp = q.gp; p = q.p; l = q.l; pseen = q.pseen; gseen = q.gseen; index = n; mask = q.mask; helped = q.helped; other = q.other; depth = q.depth; own = q.own; steps = q.steps }

abbrev pub with_mask : Process → ℕ → Process
with_mask q n = record { operation = q.operation; key = q.key; point = q.point; gp = q.gp; p = q.p; l = q.l; pseen = q.pseen; gseen = q.gseen; index = q.index; mask = n; helped = q.helped; other = q.other; depth = q.depth; own = q.own; steps = q.steps }

abbrev pub with_other : Process → ℕ → Process
with_other q n = record { operation = q.operation; key = q.key; point = q.point; gp = q.gp; p = q.p; l = q.l; pseen = q.pseen; gseen = q.gseen; index = q.index; mask = q.mask; helped = q.helped; other = n; depth = q.depth; own = q.own; steps = q.steps }

abbrev pub with_depth : Process → ℕ → Process
with_depth q n = record { operation = q.operation; key = q.key; point = q.point; gp = q.gp; p = q.p; l = q.l; pseen = q.pseen; gseen = q.gseen; index = q.index; mask = q.mask; helped = q.helped; other = q.other; depth = n; own = q.own; steps = q.steps }

-- "The own record is set by success at 4 or 5."
abbrev pub with_own : Process → ℕ → Process
with_own q n = record { operation = q.operation; key = q.key; point = q.point; gp = q.gp; p = q.p; l = q.l; pseen = q.pseen; gseen = q.gseen; index = q.index; mask = q.mask; helped = q.helped; other = q.other; depth = q.depth; own = n; steps = q.steps }

abbrev pub with_steps : Process → ℕ → Process
with_steps q n = record { operation = q.operation; key = q.key; point = q.point; gp = q.gp; p = q.p; l = q.l; pseen = q.pseen; gseen = q.gseen; index = q.index; mask = q.mask; helped = q.helped; other = q.other; depth = q.depth; own = q.own; steps = n }

-- "gp takes p, p takes the child, the pending value moves along"
abbrev pub descended_of : Process → ℕ → Process
descended_of q child = record { operation = q.operation; key = q.key; point = q.point; gp = q.p; p = child; l = q.l; pseen = q.pseen; gseen = q.pseen; index = q.index; mask = q.mask; helped = q.helped; other = q.other; depth = q.depth; own = q.own; steps = q.steps }

-- "Going to 3, 6, 11 or 12 sets the child index to 1; going to 3 also clears the mask, going to 11 the other node."
abbrev pub to_three : Process → Process
to_three q = record { operation = q.operation; key = q.key; point = 3; gp = q.gp; p = q.p; l = q.l; pseen = q.pseen; gseen = q.gseen; index = 1; mask = 0; helped = q.helped; other = q.other; depth = q.depth; own = q.own; steps = q.steps }

abbrev pub to_twelve : Process → Process
to_twelve q = record { operation = q.operation; key = q.key; point = 12; gp = q.gp; p = q.p; l = q.l; pseen = q.pseen; gseen = q.gseen; index = 1; mask = q.mask; helped = q.helped; other = q.other; depth = q.depth; own = q.own; steps = q.steps }

-- "The record being helped is set on going to 6, 9, 10 or 11."
abbrev pub to_six : Process → ℕ → Process
to_six q r = record { operation = q.operation; key = q.key; point = 6; gp = q.gp; p = q.p; l = q.l; pseen = q.pseen; gseen = q.gseen; index = 1; mask = q.mask; helped = r; other = q.other; depth = q.depth; own = q.own; steps = q.steps }

abbrev pub to_nine : Process → ℕ → Process
to_nine q r = record { operation = q.operation; key = q.key; point = 9; gp = q.gp; p = q.p; l = q.l; pseen = q.pseen; gseen = q.gseen; index = q.index; mask = q.mask; helped = r; other = q.other; depth = q.depth; own = q.own; steps = q.steps }

abbrev pub to_ten : Process → ℕ → Process
to_ten q r = record { operation = q.operation; key = q.key; point = 10; gp = q.gp; p = q.p; l = q.l; pseen = q.pseen; gseen = q.gseen; index = q.index; mask = q.mask; helped = r; other = q.other; depth = q.depth; own = q.own; steps = q.steps }

abbrev pub to_eleven : Process → ℕ → Process
to_eleven q r = record { operation = q.operation; key = q.key; point = 11; gp = q.gp; p = q.p; l = q.l; pseen = q.pseen; gseen = q.gseen; index = 1; mask = q.mask; helped = r; other = 0; depth = q.depth; own = q.own; steps = q.steps }

abbrev pub is_clean_of : Pending → Bool
is_clean_of (Clean r) = true
is_clean_of (Replace r) = false
is_clean_of (Prune r) = false
is_clean_of (Mark r) = false
