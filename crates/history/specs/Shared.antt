-- What the processes share, and when a record is done or has failed.
use Rattle.std.specs.Prelude.{◌≡◌, ◌≢◌, ℕ, ◌+◌, ◌*◌}
use Rattle.history.specs.View.{View, In, route}

-- a record's words: kind 1 replace, 2 prune; third is the new child, or the grandparent
pub record Desc : Type 0 where
  pub kind : ℕ
  pub l : ℕ
  pub p : ℕ
  pub third : ℕ
  pub expected : ℕ
  pub process : ℕ
  pub operation : ℕ
  pub key : ℕ

pub record Shared : Type 0 where
  pub view : View
  pub nodes : ℕ
  pub records : ℕ
  pub rec : ℕ → Desc

-- a prune has failed when p's pending is neither the expected word nor its mark
pub record Failed (t : View) (d : Desc) (r : ℕ) : Type 0 where
  pub prune : d.kind ≡ 2
  pub moved : t.pend d.p ≢ d.expected
  pub unmarked : t.pend d.p ≢ 4 * r + 3

-- a record stands when its node's pending is its flag
pub data Stands (t : View) (d : Desc) (r : ℕ) : Type 0 where
  stands_replace : d.kind ≡ 1 → t.pend d.p ≡ 4 * r + 1 → Stands t d r
  stands_prune : d.kind ≡ 2 → t.pend d.third ≡ 4 * r + 2 → Stands t d r

module _ (k : ℕ) where
  -- no child of node a is n
  unfoldable pub NoChild : View → ℕ → ℕ → Type 0
  NoChild t a n = (j : ℕ) → In k j → t.child a j ≢ n

  -- a replace is done when no child of p is l; a prune when p bears its mark and no child of gp is p
  pub data Done (t : View) (d : Desc) (r : ℕ) : Type 0 where
    replaced : d.kind ≡ 1 → NoChild t d.p d.l → Done t d r
    pruned : d.kind ≡ 2 → t.pend d.p ≡ 4 * r + 3 → NoChild t d.third d.p → Done t d r

  -- p has exactly two children that are not empty: l, where a search for x looks, and its sibling
  pub record Pair (t : View) (x p l : ℕ) : Type 0 where
    pub other : ℕ
    pub place : ℕ
    pub place_in : In k place
    pub place_apart : place ≢ route k (t.key p) x
    pub l_at : t.child p (route k (t.key p) x) ≡ l
    pub other_at : t.child p place ≡ other
    pub other_full : t.tag other ≢ 0
    pub other_l : other ≢ l
    pub rest_empty : (j : ℕ) → In k j → j ≢ place → j ≢ route k (t.key p) x → t.tag (t.child p j) ≡ 0
