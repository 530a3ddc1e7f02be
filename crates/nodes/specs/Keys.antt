-- The keys of a node: their order, the route of a key, a key put in or taken out, and the leaves of a sprout.
use Rattle.std.specs.Prelude.{ℕ, ◌+◌, ◌-◌, Bool, true, false, List, [], ◌∷◌, ◌++◌, ltb, eqb, get_or, take, drop}
use Rattle.tables.specs.Choice.{pick, both, listed}
use Rattle.tables.specs.Numbers.{infinity, key_room}
use Rattle.tables.specs.Layout.{key_word}
use Rattle.tables.specs.declared.header.Header.{Header}

-- the first count keys of a node, in order
abbrev pub keys_of : List ℕ → Header → ℕ → ℕ → List ℕ
keys_of b h node count = listed (λ i. key_word b h node i) 1 count

-- "keys that rise below infinity": each is below the next, the last below infinity
unfoldable pub rises : List ℕ → Bool
rises [] = true
rises (x ∷ xs) = both (ltb x (get_or xs 0 infinity)) (rises xs)

-- the key is among them
unfoldable pub holds : ℕ → List ℕ → Bool
holds x [] = false
holds x (y ∷ ys) = pick (eqb x y) true (holds x ys)

-- how many keys stand before the first that passes a test: a key greater than x; a key equal to x
unfoldable pub first_at : (ℕ → Bool) → List ℕ → ℕ
first_at passes [] = 0
first_at passes (y ∷ ys) = pick (passes y) 0 (first_at passes ys + 1)

abbrev pub greater_at : ℕ → List ℕ → ℕ
greater_at x ks = first_at (λ y. ltb x y) ks

abbrev pub equal_at : ℕ → List ℕ → ℕ
equal_at x ks = first_at (λ y. eqb x y) ks

-- "the first i with key below key i, else child k", by the keys of a node
abbrev pub route_by : List ℕ → ℕ → ℕ
route_by ks x = greater_at x ks + 1

abbrev pub route_of : List ℕ → Header → ℕ → ℕ → ℕ
route_of b h node x = route_by (keys_of b h node (h.k - 1)) x

-- "The new key goes before the first greater key."
abbrev pub put_in : ℕ → List ℕ → List ℕ
put_in x ks = take (greater_at x ks) ks ++ x ∷ drop (greater_at x ks) ks

-- the keys without x
abbrev pub taken_out : ℕ → List ℕ → List ℕ
taken_out x ks = take (equal_at x ks) ks ++ drop (equal_at x ks + 1) ks

-- a key array by value: the keys, and zeros in the room that is left
abbrev pub key_array : List ℕ → List ℕ
key_array ks = listed (λ i. get_or ks i 0) 0 key_room

-- "k new leaves of one key each, ascending": leaf i, from 0, holds key i; a key array for each
abbrev pub sprout_leaf : List ℕ → ℕ → ℕ → List ℕ
sprout_leaf ks count i = pick (ltb i count) (key_array (get_or ks i 0 ∷ [])) (key_array [])

abbrev pub sprout_of : List ℕ → ℕ → List (List ℕ)
sprout_of ks count = listed (sprout_leaf ks count) 0 key_room

-- key i of the keys with x put in, or with one taken out, where at of them stand before it: what the loops store
abbrev pub put_in_word : ℕ → List ℕ → ℕ → ℕ → ℕ
put_in_word x ks at i = pick (ltb i at) (get_or ks i 0) (pick (eqb i at) x (get_or ks (i - 1) 0))

abbrev pub taken_out_word : List ℕ → ℕ → ℕ → ℕ
taken_out_word ks at i = pick (ltb i at) (get_or ks i 0) (get_or ks (i + 1) 0)
