-- Document 01, "Tables" and "What a call returns": the six words of the header, and the refusals of every call but making that come from the block.
use Rattle.std.specs.Prelude.{ℕ, Bool, not, List, [], ◌∷◌, leb, ltb, length, get_or, Result, Ok, Err}
use Rattle.tables.specs.Choice.{both, within, Reason, reason, decide}
use Rattle.tables.specs.Numbers.{fresh_nodes, header_words, numbers_good}
use Rattle.tables.specs.Refusal.{refusal}
use Rattle.tables.specs.Layout.{block_words}
use Rattle.tables.specs.declared.header.Header.{Header}
use Rattle.tables.specs.declared.numbers.Refusal.{Refusal}

-- "Header, 6 words: k, processes, node limit, nodes used, record limit, records used"
abbrev pub header_from : ℕ → ℕ → ℕ → ℕ → ℕ → ℕ → Header
header_from k processes nodes nodesused records recordsused = record {
  k = k;
  processes = processes;
  nodes = nodes;
  nodesused = nodesused;
  records = records;
  recordsused = recordsused;
}

abbrev pub header_of : List ℕ → Header
header_of b = header_from (get_or b 0 0) (get_or b 1 0) (get_or b 2 0) (get_or b 3 0) (get_or b 4 0) (get_or b 5 0)

-- not "a header value outside its limits, a used count above its limit, nodes used below 2k+1"
unfoldable pub header_good : Header → Bool
header_good h =
    both (numbers_good h.k h.processes h.nodes h.records)
    (both (within (fresh_nodes h.k) h.nodesused h.nodes) (leb h.recordsused h.records))

-- "Other calls check 2 for the header's 6 words, 3 for the header, 2 for the rest"
abbrev pub block_reasons : List ℕ → List Reason
block_reasons b =
    reason 2 (ltb (length b) header_words)
    ∷ reason 3 (not (header_good (header_of b)))
    ∷ reason 2 (ltb (length b) (block_words (header_of b)))
    ∷ []

abbrev pub header_refused : ℕ → Result Header Refusal
header_refused n = Err (refusal n)

abbrev pub header_read : List ℕ → Result Header Refusal
header_read b = decide (block_reasons b) header_refused (Ok (header_of b))
