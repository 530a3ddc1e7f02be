-- What a walk down from a node meets, children in order: nodes, and keys of leaves.
use mathlib.Core.List.{List, [], ◌∷◌, flatten}
use Rattle.std.specs.Prelude.{ℕ, zero, suc}
use Rattle.std.proofs.Math.Decide.{ℕ_discrete}
use Rattle.tables.specs.Choice.{listed}
use Rattle.history.specs.View.{View, keys}

-- the nodes, the node itself first; `deep` bounds how far down it goes
unfoldable pub nodes_of : ℕ → View → ℕ → ℕ → List ℕ
nodes_of k t zero n = []
nodes_of k t (suc deep) n =
    n ∷ elim (ℕ_discrete (t.tag n) k) [ yes q ↦ flatten (listed (λ i. nodes_of k t deep (t.child n i)) 1 k) | no q ↦ [] ]

-- the keys of the leaves
unfoldable pub keys_of : ℕ → View → ℕ → ℕ → List ℕ
keys_of k t zero n = []
keys_of k t (suc deep) n =
    elim (ℕ_discrete (t.tag n) k) [ yes q ↦ flatten (listed (λ i. keys_of k t deep (t.child n i)) 1 k) | no q ↦ keys t n ]
