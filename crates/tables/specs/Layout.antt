-- Document 01, "Tables": where each word of a block stands. Header, then nodes, records, help stacks; all numbers count from 1.
use Rattle.std.specs.Prelude.{ℕ, ◌+◌, ◌*◌, ◌-◌, ◌/◌, List, ◌++◌, length, get_or, drop}
use Rattle.tables.specs.Numbers.{fresh_nodes, header_words, node_words, record_words}
use Rattle.tables.specs.declared.header.Header.{Header}

-- "D = (nodes − 2k − 1) div k", the words of one process's help stack
abbrev pub depth_of : Header → ℕ
depth_of h = (h.nodes - fresh_nodes h.k) / h.k

-- where the records begin, and the help stacks
abbrev pub records_from : Header → ℕ
records_from h = header_words + h.nodes * node_words h.k

abbrev pub stacks_from : Header → ℕ
stacks_from h = records_from h + h.records * record_words

-- "Length: 6 + nodes·(2k+1) + 8·records + processes·D words"
abbrev pub block_words : Header → ℕ
block_words h = stacks_from h + h.processes * depth_of h

-- "Words and records beyond those needed are untouched."
abbrev pub over_front : {A : Type 0} → List A → List A → List A
over_front new old = new ++ drop (length new) old

-- the word at an offset of a node; of a record; the word d, from 0, of a process's help stack
abbrev pub node_at : Header → ℕ → ℕ → ℕ
node_at h node offset = header_words + (node - 1) * node_words h.k + offset

abbrev pub record_at : Header → ℕ → ℕ → ℕ
record_at h number field = records_from h + (number - 1) * record_words + field

abbrev pub stack_at : Header → ℕ → ℕ → ℕ
stack_at h process d = stacks_from h + (process - 1) * depth_of h + d

-- "Node: tag, k−1 keys, k children, pending": the offsets of a node's words; keys and children count from 1
abbrev pub tag_place : ℕ
tag_place = 0

abbrev pub key_place : ℕ → ℕ
key_place i = i

abbrev pub child_place : ℕ → ℕ → ℕ
child_place k i = k + (i - 1)

abbrev pub pending_place : ℕ → ℕ
pending_place k = 2 * k

-- "Record: kind, leaf l, parent p, third, expected pending of p, process, operation, key"
abbrev pub kind_field : ℕ
kind_field = 0

abbrev pub l_field : ℕ
l_field = 1

abbrev pub p_field : ℕ
p_field = 2

abbrev pub third_field : ℕ
third_field = 3

abbrev pub expected_field : ℕ
expected_field = 4

abbrev pub process_field : ℕ
process_field = 5

abbrev pub operation_field : ℕ
operation_field = 6

abbrev pub key_field : ℕ
key_field = 7

-- the words that stand there; a word past the end of the block reads as 0
abbrev pub node_word : List ℕ → Header → ℕ → ℕ → ℕ
node_word b h node offset = get_or b (node_at h node offset) 0

abbrev pub tag_word : List ℕ → Header → ℕ → ℕ
tag_word b h node = node_word b h node tag_place

abbrev pub key_word : List ℕ → Header → ℕ → ℕ → ℕ
key_word b h node i = node_word b h node (key_place i)

abbrev pub child_word : List ℕ → Header → ℕ → ℕ → ℕ
child_word b h node i = node_word b h node (child_place h.k i)

abbrev pub pending_word : List ℕ → Header → ℕ → ℕ
pending_word b h node = node_word b h node (pending_place h.k)

abbrev pub record_word : List ℕ → Header → ℕ → ℕ → ℕ
record_word b h number field = get_or b (record_at h number field) 0

abbrev pub stack_word : List ℕ → Header → ℕ → ℕ → ℕ
stack_word b h process d = get_or b (stack_at h process d) 0
