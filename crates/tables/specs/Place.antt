-- The words of a block by name: a word of the header, of a node, of a record, of a process's help stack; where each stands.
use Rattle.std.specs.Prelude.{ℕ, ◌≤◌, ◌<◌}
use Rattle.tables.specs.Numbers.{header_words, node_words, record_words}
use Rattle.tables.specs.Layout.{depth_of, node_at, record_at, stack_at}
use Rattle.tables.specs.declared.header.Header.{Header}

-- header words, offsets, fields and stack words count from 0; nodes, records and processes from 1
pub data Place : Type 0 where
  in_header : ℕ → Place
  in_node : ℕ → ℕ → Place
  in_record : ℕ → ℕ → Place
  in_stack : ℕ → ℕ → Place

abbrev pub place_at : Header → Place → ℕ
place_at h (in_header i) = i
place_at h (in_node node offset) = node_at h node offset
place_at h (in_record number field) = record_at h number field
place_at h (in_stack process d) = stack_at h process d

-- one of count numbers from 1, and one of size words from 0
pub record OneOf (count size number word : ℕ) : Type 0 where
  pub from_one : 1 ≤ number
  pub to_last : number ≤ count
  pub within : word < size

-- the block of a header has this place
abbrev pub Inside : Header → Place → Type 0
Inside h (in_header i) = i < header_words
Inside h (in_node node offset) = OneOf h.nodes (node_words h.k) node offset
Inside h (in_record number field) = OneOf h.records record_words number field
Inside h (in_stack process d) = OneOf h.processes (depth_of h) process d
