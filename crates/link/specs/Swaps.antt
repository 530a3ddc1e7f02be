-- Which events swap a child word, and of which record.
use Rattle.std.specs.Prelude.{ℕ, ◌≡◌, ◌≢◌, List}
use Rattle.tables.specs.Layout.{child_word}
use Rattle.tables.specs.declared.header.Header.{Header}
use Rattle.process.specs.declared.Process.{Process}
use Rattle.help.specs.Help.{helped_l, helped_p, helped_third}
use Rattle.history.specs.View.{In}
use Rattle.link.specs.Events.{Event, step, State, taken, event_at, state_at, block_at, header_at}

-- 7 swaps l below p for the new child, 13 swaps p below gp for the noted node, if the child is still the one looked for
pub data Swapping (b : List ℕ) (h : Header) (q : Process) : Type 0 where
  seven : q.point ≡ 7 → child_word b h (helped_p b h q) q.index ≡ helped_l b h q → Swapping b h q
  thirteen : q.point ≡ 13 → child_word b h (helped_third b h q) q.index ≡ helped_p b h q → Swapping b h q

-- event m is an accepted step at 7 or 13 that helps record r, and its compare holds
pub record ChildSwap (s : State) (es : List Event) (m r : ℕ) : Type 0 where
  pub process : ℕ
  pub event : event_at es m ≡ step process
  pub exists : In (header_at s es m).processes process
  pub busy : (taken (state_at s es m) process).operation ≢ 0
  pub helps : (taken (state_at s es m) process).helped ≡ r
  pub swapping : Swapping (block_at s es m) (header_at s es m) (taken (state_at s es m) process)
