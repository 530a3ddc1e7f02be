-- What demand 3 says of runs (j), (c) and (g), by their events: a swap that a helper makes, a prune that fails and one that is done, a no, a full.
use Rattle.std.specs.Prelude.{ℕ, ◌≡◌, List, [], ◌∷◌}
use Rattle.process.specs.declared.Answer.TheVariants.{No, Yes, Full}
use Rattle.history.specs.Effects.{Added, Removed}
use Rattle.history.specs.Run.{Moment}
use Rattle.walk.specs.Calls.{keys_met}
use Rattle.link.specs.Events.{Event, State, block_at}
use Rattle.link.specs.Swaps.{ChildSwap}
use Rattle.link.specs.Operations.{OperationOf, Answered}
use Rattle.link.specs.Sets.{InSet}
use Rattle.claim.specs.Claim.{SwapOf}
use Rattle.claim.specs.Kept.{Demand}
use Rattle.runs.specs.Table.{run_c, run_g, run_j}

-- (j). Event 18 starts process 1's delete of 3, event 28 process 2's insert of 4
pub record Helped (s : State) (es : List Event) : Type 0 where
  pub demand : Demand s es
  pub delete_answered : Answered s es 57 1 Yes 31
  pub insert_answered : Answered s es 60 2 Yes 10
  -- the insert's one swap is made by process 1, of the record that process 2 has drawn
  pub insert_swaps : SwapOf s es 38 28
  pub helper : insert_swaps.swap.process ≡ 1
  pub drawer : insert_swaps.operation.process ≡ 2
  pub before : keys_met (block_at s es 38) ≡ 3 ∷ 5 ∷ []
  pub put_in : Added (InSet s es 38) (InSet s es 39) 4
  -- the delete's first record, a prune, has no swap ever
  pub failed : OperationOf s es 3 18
  pub never : (t : ℕ) → ¬ ChildSwap s es t 3
  -- its second has its one swap
  pub delete_swaps : SwapOf s es 56 18
  pub pruned : delete_swaps.r ≡ 5
  pub taken_out : Removed (InSet s es 56) (InSet s es 57) 3
  pub after : keys_met (block_at s es 57) ≡ 4 ∷ 5 ∷ []

-- (c). Event 9 starts the second insert of 3
pub record SaysNo (s : State) (es : List Event) : Type 0 where
  pub demand : Demand s es
  pub answered : Answered s es 13 1 No 4
  pub never : (t : ℕ) → ¬ SwapOf s es t 9
  pub there : Moment 10 13 (λ t. InSet s es t 3)

-- (g). Event 0 starts an insert that has no room
pub record SaysFull (s : State) (es : List Event) : Type 0 where
  pub demand : Demand s es
  pub answered : Answered s es 5 1 Full 5
  pub never : (t : ℕ) → ¬ SwapOf s es t 0

pub record Witness : Type 0 where
  pub helped : Helped run_j.begin run_j.events
  pub says_no : SaysNo run_c.begin run_c.events
  pub says_full : SaysFull run_g.begin run_g.events
