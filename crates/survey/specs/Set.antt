-- The row that lists the set of a block.
use Rattle.std.specs.Prelude.{ℕ, ◌↔◌}
use mathlib.Core.List.{List, Memᴰ}
use Rattle.history.specs.Keys.{Rises}
use Rattle.link.specs.Sets.{Has}

-- ks is the set, strictly ascending
pub record Lists (b : List ℕ) (ks : List ℕ) : Type 0 where
  pub exact : (x : ℕ) → Memᴰ x ks ↔ Has b x
  pub ascending : Rises ks
