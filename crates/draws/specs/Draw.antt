-- "New nodes and the new record are drawn only in a successful swap at 4 or 5, in the next free numbers."
use Rattle.std.specs.Prelude.{ℕ, ◌+◌, ◌*◌, ◌-◌, Bool, true, false, List, [], ◌∷◌, ltb, leb, eqb, get_or, set, drop}
use Rattle.std.proofs.lemmas.List.Edits.{sets}
use Rattle.tables.specs.Choice.{pick, both, listed}
use Rattle.tables.specs.Layout.{node_at, record_at, pending_place}
use Rattle.nodes.specs.Pending.{replace_kind, prune_kind}
use Rattle.nodes.specs.Node.{leaf_image, internal_image, with_node}
use Rattle.nodes.specs.Keys.{keys_of, put_in, taken_out, key_array, sprout_of}
use Rattle.tables.specs.declared.header.Header.{Header}
use Rattle.draws.specs.declared.Job.{Job}

-- which operations put a key in
abbrev pub puts_in : ℕ → Bool
puts_in operation = eqb operation 2

-- the next free numbers
abbrev pub new_node : Header → ℕ
new_node h = h.nodesused + 1

abbrev pub new_record : Header → ℕ
new_record h = h.recordsused + 1

-- "Full .. exactly when .. either no record is left or nodes used plus those needed pass the limit"
abbrev pub room_for : Header → ℕ → Bool
room_for h needed = both (ltb h.recordsused h.records) (leb (h.nodesused + needed) h.nodes)

-- "a full leaf (k−1 keys) draws an internal node .. then k new leaves"; "Simple insert and simple delete draw one leaf"
abbrev pub sprouts : Header → ℕ → ℕ → Bool
sprouts h operation count = both (puts_in operation) (eqb (count + 1) h.k)

abbrev pub needed_nodes : Header → ℕ → ℕ → ℕ
needed_nodes h operation count = pick (sprouts h operation count) (h.k + 1) 1

-- the keys of l with the job's key put in, or taken out, and how many they are
abbrev pub new_keys : List ℕ → Header → Job → ℕ → List ℕ
new_keys b h j count =
    pick (puts_in j.operation) (key_array (put_in j.key (keys_of b h j.l count))) (key_array (taken_out j.key (keys_of b h j.l count)))

abbrev pub new_count : ℕ → ℕ → ℕ
new_count operation count = pick (puts_in operation) (count + 1) (count - 1)

abbrev pub leaf_drawn : List ℕ → Header → Job → ℕ → List ℕ
leaf_drawn b h j count = with_node b h (new_node h) (leaf_image h.k (new_count j.operation count) (new_keys b h j count))

-- "the k−1 largest keys": all but the first of the k keys, which ascend
abbrev pub largest : List ℕ → List ℕ
largest keys = key_array (drop 1 keys)

-- leaves of one key each, written in the numbers from first on
unfoldable pub leaves_from : List ℕ → Header → ℕ → List (List ℕ) → List ℕ
leaves_from b h first [] = b
leaves_from b h first (keys ∷ rest) = leaves_from (with_node b h first (leaf_image h.k 1 keys)) h (first + 1) rest

-- "k new leaves of one key each, ascending"
abbrev pub sprout_leaves : Header → List ℕ → List (List ℕ)
sprout_leaves h keys = listed (λ i. get_or (sprout_of keys h.k) i (key_array [])) 0 h.k

-- "its pending clean with that record"
abbrev pub sprout_drawn : List ℕ → Header → List ℕ → List ℕ
sprout_drawn b h keys =
    leaves_from (with_node b h (new_node h) (internal_image h.k (largest keys) (new_node h + 1) (4 * new_record h))) h (new_node h + 1)
    (sprout_leaves h keys)

abbrev pub nodes_drawn : List ℕ → Header → Job → ℕ → List ℕ
nodes_drawn b h j count = pick (sprouts h j.operation count) (sprout_drawn b h (new_keys b h j count)) (leaf_drawn b h j count)

-- "Record: kind (1 replace, 2 prune), leaf l, parent p, third (new child, or grandparent gp), expected pending of p (prune; else 0), process, operation, key"
abbrev pub record_image : ℕ → ℕ → ℕ → Job → List ℕ
record_image kind third expected j =
    kind ∷ j.l ∷ j.p ∷ third ∷ expected ∷ j.process ∷ j.operation ∷ j.key ∷ []

-- the new record's words, written
abbrev pub record_drawn : List ℕ → Header → ℕ → ℕ → ℕ → Job → List ℕ
record_drawn b h kind third expected j = sets b (record_at h (new_record h) 0) (record_image kind third expected j)

-- the record, then the header's two used counts, then the flag: the new record with its kind
unfoldable pub committed : List ℕ → Header → ℕ → ℕ → ℕ → ℕ → Job → ℕ → List ℕ
committed b h kind third expected needed j flagged =
    set (set (set (record_drawn b h kind third expected j) 3 (h.nodesused + needed)) 5 (new_record h))
    (node_at h flagged (pending_place h.k))
    (4 * new_record h + kind)

-- "from the value read to replace with a new record"; "The same on gp's pending, with prune"
unfoldable pub replace_drawn : List ℕ → Header → Job → ℕ → List ℕ
replace_drawn b h j count =
    committed (nodes_drawn b h j count) h replace_kind (new_node h) 0 (needed_nodes h j.operation count) j j.p

unfoldable pub prune_drawn : List ℕ → Header → Job → ℕ → ℕ → List ℕ
prune_drawn b h j gp expected = committed b h prune_kind gp expected 0 j gp

-- whether there was room, and the block then: drawn, or as it was
pub record DrawOut : Type 0 where
  pub drawn : Bool
  pub block : List ℕ

abbrev pub draw_out : Bool → List ℕ → DrawOut
draw_out t b = record { drawn = t; block = b }

abbrev pub replace_of : List ℕ → Header → Job → ℕ → DrawOut
replace_of b h j count = pick (room_for h (needed_nodes h j.operation count)) (draw_out true (replace_drawn b h j count)) (draw_out false b)

abbrev pub prune_of : List ℕ → Header → Job → ℕ → ℕ → DrawOut
prune_of b h j gp expected = pick (room_for h 0) (draw_out true (prune_drawn b h j gp expected)) (draw_out false b)
