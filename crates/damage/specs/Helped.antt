-- "A step checks .. from 6 on, the record helped".
use Rattle.std.specs.Prelude.{ℕ, Bool, true, List, ltb, leb, eqb}
use Rattle.tables.specs.Choice.{pick, both, within}
use Rattle.tables.specs.Numbers.{infinity}
use Rattle.tables.specs.Layout.{record_word, l_field, p_field, third_field, expected_field, process_field, operation_field, key_field}
use Rattle.nodes.specs.Pending.{pending_of, pending_good, record_of_kind, replace_kind, prune_kind}
use Rattle.nodes.specs.Node.{kin_of, below_of, is_internal, is_leaf, is_node}
use Rattle.tables.specs.declared.header.Header.{Header}
use Rattle.process.specs.Process.{is_clean_of}
use Rattle.process.specs.declared.Process.{Process}

-- "operation (2 or 3 in a record), key, process .. in range"
abbrev pub owner_good : List ℕ → Header → ℕ → Bool
owner_good b h r =
    both (within 2 (record_word b h r operation_field) 3)
    (both (ltb (record_word b h r key_field) infinity) (within 1 (record_word b h r process_field) h.processes))

-- "p and gp internal, l a leaf, a new child above p"
abbrev pub third_good : List ℕ → Header → ℕ → ℕ → Bool
third_good b h kind r =
    pick (eqb kind replace_kind) (is_node (below_of b h (record_word b h r p_field) (record_word b h r third_field)))
    (is_internal (kin_of b h (record_word b h r third_field)))

abbrev pub places_good : List ℕ → Header → ℕ → ℕ → Bool
places_good b h kind r =
    both (is_internal (kin_of b h (record_word b h r p_field)))
    (both (is_leaf (kin_of b h (record_word b h r l_field))) (third_good b h kind r))

-- "the expected pending clean"
abbrev pub expected_good : List ℕ → Header → ℕ → Bool
expected_good b h r =
    both (is_clean_of (pending_of (record_word b h r expected_field))) (pending_good b h (pending_of (record_word b h r expected_field)))

unfoldable pub record_good : List ℕ → Header → ℕ → ℕ → Bool
record_good b h kind r = both (record_of_kind b h r kind) (both (owner_good b h r) (both (places_good b h kind r) (expected_good b h r)))

-- "a replace at 6 to 8, a prune at 9 to 14"
abbrev pub kind_at : ℕ → ℕ
kind_at point = pick (leb point 8) replace_kind prune_kind

unfoldable pub helped_good : List ℕ → Header → Process → Bool
helped_good b h q = pick (ltb q.point 6) true (record_good b h (kind_at q.point) q.helped)
