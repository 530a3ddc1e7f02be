-- Document 01, "Numbers" and "Tables": each limit and each size under a name of its own.
use Rattle.std.specs.Prelude.{ℕ, ◌+◌, ◌*◌, Bool, eqb}
use Rattle.tables.specs.Choice.{pick, both, within}

-- "k: 2 to 8; 0 given at making means 4, and 4 is stored"
abbrev pub lowest_k : ℕ
lowest_k = 2

abbrev pub highest_k : ℕ
highest_k = 8

abbrev pub k_for_zero : ℕ
k_for_zero = 4

abbrev pub k_stored : ℕ → ℕ
k_stored k = pick (eqb k 0) k_for_zero k

-- "processes: 1 to 32, numbered from 1"
abbrev pub most_processes : ℕ
most_processes = 32

-- "node limit: 2k+1 to 4,096"; a fresh tree has 2k+1 nodes
abbrev pub most_nodes : ℕ
most_nodes = 4096

abbrev pub fresh_nodes : ℕ → ℕ
fresh_nodes k = 2 * k + 1

-- "record limit: 1 to 4,096"
abbrev pub most_records : ℕ
most_records = 4096

-- "4,294,967,295 stands for infinity"
abbrev pub infinity : ℕ
infinity = 4294967295

-- "Header, 6 words"; "Node: tag, k−1 keys, k children, pending"; a record has eight fields
abbrev pub header_words : ℕ
header_words = 6

abbrev pub node_words : ℕ → ℕ
node_words k = 2 * k + 1

abbrev pub record_words : ℕ
record_words = 8

-- the keys that a key array by value has room for: those of a full leaf of the largest k, and one more
abbrev pub key_room : ℕ
key_room = 8

-- the making numbers, with the k that is stored, are within the table's limits
unfoldable pub numbers_good : ℕ → ℕ → ℕ → ℕ → Bool
numbers_good k processes nodes records =
    both (within lowest_k k highest_k)
    (both (within 1 processes most_processes)
    (both (within (fresh_nodes k) nodes most_nodes) (within 1 records most_records)))
