-- "Fresh tree (Figure 6)", whole: the block and the row of process records that making leaves, and when it is refused.
use Rattle.std.specs.Prelude.{ℕ, ◌+◌, ◌*◌, ◌-◌, not, List, [], ◌∷◌, ◌++◌, ltb, length, replicate, Result, Ok, Err}
use Rattle.std.proofs.lemmas.List.Edits.{sets}
use Rattle.tables.specs.Choice.{Reason, reason, decide}
use Rattle.tables.specs.Numbers.{k_stored, fresh_nodes, header_words, node_words, infinity, key_room, numbers_good}
use Rattle.tables.specs.Refusal.{refusal}
use Rattle.tables.specs.Layout.{block_words, over_front}
use Rattle.nodes.specs.Node.{internal_image, with_node}
use Rattle.tables.specs.declared.header.Header.{Header}
use Rattle.tables.specs.declared.numbers.Refusal.{Refusal}

-- the header of a fresh tree
abbrev pub fresh_header : ℕ → ℕ → ℕ → ℕ → Header
fresh_header k processes nodes records = record {
  k = k_stored k;
  processes = processes;
  nodes = nodes;
  nodesused = fresh_nodes (k_stored k);
  records = records;
  recordsused = 0;
}

abbrev pub header_image : Header → List ℕ
header_image h = h.k ∷ h.processes ∷ h.nodes ∷ h.nodesused ∷ h.records ∷ h.recordsused ∷ []

-- "both hold only infinity"; the children of the root are 2 to k+1, those of the dummy k+2 to 2k+1
abbrev pub root_image : ℕ → List ℕ
root_image k = internal_image k (replicate (k - 1) infinity) 2 0

abbrev pub dummy_image : ℕ → List ℕ
dummy_image k = internal_image k (replicate (k - 1) infinity) (k + 2) 0

-- "All other words of the block are zero": an empty leaf is all zero too
abbrev pub fresh_block : Header → List ℕ
fresh_block h =
    header_image h
    ++ (root_image h.k
    ++ (dummy_image h.k
    ++ replicate (block_words h - header_words - 2 * node_words h.k) 0))

-- "all process records idle", for a row of records of any type
abbrev pub fresh_row : {P : Type 0} → P → Header → List P
fresh_row idle h = replicate h.processes idle

-- "Making checks 1, 2."
abbrev pub making_reasons : List ℕ → ℕ → ℕ → ℕ → ℕ → List Reason
making_reasons b k processes nodes records =
    reason 1 (not (numbers_good (k_stored k) processes nodes records))
    ∷ reason 2 (ltb (length b) (block_words (fresh_header k processes nodes records)))
    ∷ []

-- what making a block answers, and the block then
pub record MakeOut : Type 0 where
  pub made : Result (Unit {0}) Refusal
  pub block : List ℕ

abbrev pub make_out : Result (Unit {0}) Refusal → List ℕ → MakeOut
make_out made block = record { made = made; block = block }

abbrev pub make_of : List ℕ → ℕ → ℕ → ℕ → ℕ → MakeOut
make_of b k processes nodes records =
    decide (making_reasons b k processes nodes records)
    (λ n. make_out (Err (refusal n)) b)
    (make_out (Ok tt) (over_front (fresh_block (fresh_header k processes nodes records)) b))

-- the header, the root and the dummy written over a block
abbrev pub written_fresh : Header → List ℕ → List ℕ
written_fresh h b =
    with_node (with_node (sets b 0 (header_image h)) h 1 (internal_image h.k (replicate key_room infinity) 2 0)) h 2
    (internal_image h.k (replicate key_room infinity) (h.k + 2) 0)
