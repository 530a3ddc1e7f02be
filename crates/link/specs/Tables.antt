-- A block as the history sees it: the tables that the processes share, and what a process record says, as numbers.
use Rattle.std.specs.Prelude.{ℕ, List, ltb}
use Rattle.tables.specs.Choice.{pick}
use Rattle.tables.specs.Layout.{depth_of, tag_word, key_word, child_word, pending_word, record_word, stack_word}
use Rattle.tables.specs.Layout.{kind_field, l_field, p_field, third_field, expected_field, process_field, operation_field, key_field}
use Rattle.tables.specs.declared.header.Header.{Header}
use Rattle.history.specs.View.{View, keys_alone}
use Rattle.history.specs.Shared.{Desc, Shared}

-- the node table; of the words of a node, those at 1 to k − 1 are its keys
abbrev pub view_of : Header → List ℕ → View
view_of h b = record {
  tag = λ n. tag_word b h n;
  key = λ n. keys_alone h.k (λ i. key_word b h n i);
  child = λ n i. child_word b h n i;
  pend = λ n. pending_word b h n;
}

-- a record's words
abbrev pub desc_of : Header → List ℕ → ℕ → Desc
desc_of h b r = record {
  kind = record_word b h r kind_field;
  l = record_word b h r l_field;
  p = record_word b h r p_field;
  third = record_word b h r third_field;
  expected = record_word b h r expected_field;
  process = record_word b h r process_field;
  operation = record_word b h r operation_field;
  key = record_word b h r key_field;
}

abbrev pub tables_of : Header → List ℕ → Shared
tables_of h b = record { view = view_of h b; nodes = h.nodesused; records = h.recordsused; rec = desc_of h b }

-- a process's help stack: what stands past its room is no part of it
abbrev pub stack_of : Header → List ℕ → ℕ → ℕ → ℕ
stack_of h b n d = pick (ltb d (depth_of h)) (stack_word b h n d) 0
