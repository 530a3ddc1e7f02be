-- What is measured of a list of events from a made state: the answers, the used counts, some words, and the keys of the set.
use Rattle.std.specs.Prelude.{ℕ, zero, suc, List, [], ◌∷◌, ◌++◌, map, length, replicate, Result, Ok, Err}
use Rattle.tables.specs.declared.numbers.Refusal.{Refusal}
use Rattle.tables.specs.Layout.{node_word}
use Rattle.process.specs.Answer.{answer_number}
use Rattle.process.specs.declared.Progress.{Progress}
use Rattle.process.specs.declared.Progress.TheVariants.{GoesOn, Ended}
use Rattle.walk.specs.Calls.{keys_met}
use Rattle.link.specs.Events.{Event, start, step, State, step_in, event_at, state_at, block_at, header_at}

-- so many steps of a process
abbrev pub steps : ℕ → ℕ → List Event
steps n times = replicate times (step n)

-- an answer: the process, the answer's number, the steps it reports
pub record Told : Type 0 where
  pub process : ℕ
  pub answer : ℕ
  pub steps : ℕ

abbrev pub told : ℕ → ℕ → ℕ → Told
told process answer steps = record { process = process; answer = answer; steps = steps }

-- what a step's answer tells; a refusal is told as 9, which is no answer's number
abbrev pub tells : ℕ → Result Progress Refusal → List Told
tells n (Ok GoesOn) = []
tells n (Ok (Ended a steps)) = told n (answer_number a) steps ∷ []
tells n (Err e) = told n 9 0 ∷ []

-- what an event tells
abbrev pub tells_in : State → Event → List Told
tells_in s (start n operation key) = []
tells_in s (step n) = tells n (step_in s n).answer

-- what was told by the first m events of a list
unfoldable pub told_at : State → List Event → ℕ → List Told
told_at s es zero = []
told_at s es (suc m) = told_at s es m ++ tells_in (state_at s es m) (event_at es m)

-- a word of a node that document 01 names
pub record Word : Type 0 where
  pub node : ℕ
  pub offset : ℕ
  pub value : ℕ

abbrev pub word : ℕ → ℕ → ℕ → Word
word node offset value = record { node = node; offset = offset; value = value }

-- what a run comes to: the answers, nodes and records used, the words named, and the keys of the set
pub record Outcome : Type 0 where
  pub tolds : List Told
  pub nodes : ℕ
  pub records : ℕ
  pub words : List Word
  pub keys : List ℕ

pub record Run : Type 0 where
  pub begin : State
  pub events : List Event
  pub outcome : Outcome

-- the moment m of a run, at the words named
abbrev pub measure : State → List Event → List Word → ℕ → Outcome
measure s es words m = record {
  tolds = told_at s es m;
  nodes = (header_at s es m).nodesused;
  records = (header_at s es m).recordsused;
  words = map (λ w. word w.node w.offset (node_word (block_at s es m) (header_at s es m) w.node w.offset)) words;
  keys = keys_met (block_at s es m);
}

-- what is measured of a run at its end, at the words that its outcome names
abbrev pub measured : Run → Outcome
measured r = measure r.begin r.events r.outcome.words (length r.events)

abbrev pub expected : Run → Outcome
expected r = r.outcome
