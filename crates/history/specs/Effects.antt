-- What a change makes of the set, and which record's swap it is.
use Rattle.std.specs.Prelude.{◌≡◌, ◌≢◌, ◌↔◌, ℕ, ◌≤◌}
use Rattle.history.specs.View.{View, In, Holds}
use Rattle.history.specs.Shared.{Desc, Shared}
use Rattle.history.specs.Change.{Change, draw_replace, draw_prune, swap_replace, unflag_replace, mark, swap_prune, unflag_prune}

-- of a set and what it becomes, each by what is in it: x was not there and is, and nothing else moved
pub record Added (was is : ℕ → Type 0) (x : ℕ) : Type 0 where
  pub absent : ¬ was x
  pub present : is x
  pub others : (y : ℕ) → y ≢ x → was y ↔ is y

-- x was there and is not, and nothing else moved: the same, backwards
abbrev pub Removed : (ℕ → Type 0) → (ℕ → Type 0) → ℕ → Type 0
Removed was is x = Added is was x

module _ (k : ℕ) where
  -- the set is as it was
  unfoldable pub SameSet : View → View → Type 0
  SameSet t t' = (y : ℕ) → Holds k t y ↔ Holds k t' y

  -- the set is changed by the key of record d: put in by an insert, taken out by a delete
  pub data SetMoves (t t' : View) (d : Desc) : Type 0 where
    adds : d.operation ≡ 2 → Added (Holds k t) (Holds k t') d.key → SetMoves t t' d
    removes : d.operation ≡ 3 → Removed (Holds k t) (Holds k t') d.key → SetMoves t t' d

  -- the record whose child swap a change is; 0 for the other five
  unfoldable pub swaps : {S S' : Shared} → Change k S S' → ℕ
  swaps (draw_replace r p d) = 0
  swaps (draw_prune r gp d) = 0
  swaps (swap_replace r i h kd s e w same) = r
  swaps (unflag_replace r h kd e d w same) = 0
  swaps (mark r h kd e w same) = 0
  swaps (swap_prune r i other h kd mk j sj ej full d s e w same) = r
  swaps (unflag_prune r h kd e d w same) = 0

-- child `index` of a node in use was `from` and is `to`, another one; every other child word of a node in use is as it was
pub record Moved (k : ℕ) (S S' : Shared) (node index from to : ℕ) : Type 0 where
  pub used : In S.nodes node
  pub index_in : In k index
  pub was : S.view.child node index ≡ from
  pub is : S'.view.child node index ≡ to
  pub another : from ≢ to
  pub rest_same : (n j : ℕ) → In S.nodes n → In k j → ¬ ((n ≡ node) × (j ≡ index)) → S'.view.child n j ≡ S.view.child n j

-- "noting the non-empty child that isn't l": a child of p
pub record Noted (k : ℕ) (S : Shared) (d : Desc) (other : ℕ) : Type 0 where
  pub index : ℕ
  pub index_in : In k index
  pub child : S.view.child d.p index ≡ other
  pub non_empty : S.view.tag other ≢ 0
  pub not_l : other ≢ d.l

-- the one word that record d names is swapped: child i of p from l to the new child, or child i of gp from p to the noted node
pub data Swapped (k : ℕ) (S S' : Shared) (d : Desc) (index other : ℕ) : Type 0 where
  new_child : d.kind ≡ 1 → Moved k S S' d.p index d.l d.third → Swapped k S S' d index other
  noted_node : d.kind ≡ 2 → Noted k S d other → Moved k S S' d.third index d.p other → Swapped k S S' d index other

-- tags and keys of nodes in use and all words of records in use never change; the used counts never fall
pub record Grown (S S' : Shared) : Type 0 where
  pub nodes_more : S.nodes ≤ S'.nodes
  pub records_more : S.records ≤ S'.records
  pub tag_same : (n : ℕ) → In S.nodes n → S'.view.tag n ≡ S.view.tag n
  pub key_same : (n : ℕ) → In S.nodes n → S'.view.key n ≡ S.view.key n
  pub rec_same : (q : ℕ) → In S.records q → S'.rec q ≡ S.rec q
