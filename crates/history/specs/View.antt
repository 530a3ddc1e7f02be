-- The node table as its readers see it: accessors, the child for a key, search paths, what is in the tree, the set.
use Rattle.std.specs.Prelude.{◌≡◌, ◌≢◌, ℕ, ◌-◌, ◌≤◌}
use mathlib.Core.List.{List, Memᴰ}
use Rattle.tables.specs.Choice.{pick, within, listed}
use Rattle.nodes.specs.Keys.{route_by}

-- tag: how many keys a leaf has, k for an internal node; keys and children by index from 1; pending: 4·record + kind
pub record View : Type 0 where
  pub tag : ℕ → ℕ
  pub key : ℕ → ℕ → ℕ
  pub child : ℕ → ℕ → ℕ
  pub pend : ℕ → ℕ

-- n is one of 1 to top: a child index of k, a node in use, a record in use
pub record In (top n : ℕ) : Type 0 where
  pub low : 1 ≤ n
  pub high : n ≤ top

-- the child for a key
unfoldable pub route : ℕ → (ℕ → ℕ) → ℕ → ℕ
route k f x = route_by (listed f 1 (k - 1)) x

-- of a node's words, its keys 1 to k - 1: what stands at another index is no key
unfoldable pub keys_alone : ℕ → (ℕ → ℕ) → ℕ → ℕ
keys_alone k f i = pick (within 1 i (k - 1)) (f i) 0

-- the keys of leaf n
unfoldable pub keys : View → ℕ → List ℕ
keys t n = listed (t.key n) 1 (t.tag n)

module _ (k : ℕ) where
  -- node n is on the search path of key x
  pub data On (t : View) (x : ℕ) : ℕ → Type 0 where
    root : {n : ℕ} → n ≡ 1 → On t x n
    down : {m n : ℕ} → On t x m → t.tag m ≡ k → n ≡ t.child m (route k (t.key m) x) → On t x n

  -- node n is a itself or below it, by whatever children
  pub data Below (t : View) (a : ℕ) : ℕ → Type 0 where
    top : {n : ℕ} → n ≡ a → Below t a n
    by : {m n : ℕ} (j : ℕ) → Below t a m → t.tag m ≡ k → In k j → n ≡ t.child m j → Below t a n

  -- node n is in the tree: it is reached from node 1
  abbrev pub Reach : View → ℕ → Type 0
  Reach t n = Below t 1 n

  -- x stands below node a: a leaf there has it among its keys
  pub record HasBelow (t : View) (a x : ℕ) : Type 0 where
    pub node : ℕ
    pub reached : Below t a node
    pub leaf : t.tag node ≢ k
    pub has : Memᴰ x (keys t node)

  -- x is in the set: a leaf of the tree has it among its keys
  abbrev pub Holds : View → ℕ → Type 0
  Holds t x = HasBelow t 1 x

  -- search order: a leaf's keys stand where a search looks for them
  unfoldable pub Ordered : View → Type 0
  Ordered t = (n x : ℕ) → Reach t n → t.tag n ≢ k → Memᴰ x (keys t n) → On t x n
