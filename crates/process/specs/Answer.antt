-- What a step answers: document 01's numbers, and the process record that goes with each.
use Rattle.std.specs.Prelude.{ℕ, ◌+◌, [], ◌∷◌, ltb, get_or}
use Rattle.tables.specs.Choice.{pick}
use Rattle.process.specs.Process.{idle, with_steps}
use Rattle.process.specs.declared.Process.{Process}
use Rattle.process.specs.declared.Answer.{Answer}
use Rattle.process.specs.declared.Answer.TheVariants.{No, Yes, Full}
use Rattle.process.specs.declared.Progress.TheVariants.{GoesOn, Ended}
use Rattle.process.specs.declared.Stepped.{Stepped}

-- "Answers: 0 no, 1 yes, 2 full."
abbrev pub answer_number : Answer → ℕ
answer_number No = 0
answer_number Yes = 1
answer_number Full = 2

abbrev pub answer : ℕ → Answer
answer n = get_or (No ∷ Yes ∷ Full ∷ []) n No

-- "adds 1 to steps (which stays at 4,294,967,295 once there)"
abbrev pub most_steps : ℕ
most_steps = 4294967295

abbrev pub steps_up : ℕ → ℕ
steps_up steps = pick (ltb steps most_steps) (steps + 1) steps

-- "Short of one, a step says that it goes on."
abbrev pub going_on : Process → Stepped
going_on q = record { progress = GoesOn; process = with_steps q (steps_up q.steps) }

-- "An answer leaves the process idle and reports the steps."
abbrev pub ending_of : Process → Answer → Stepped
ending_of q a = record { progress = Ended a (steps_up q.steps); process = idle }
