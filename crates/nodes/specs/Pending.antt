-- "A pending word is 4·record + kind: clean, replace, prune or mark, together with a record number (kinds 0, 1, 2, 3)".
use Rattle.std.specs.Prelude.{ℕ, zero, suc, ◌+◌, ◌*◌, ◌/◌, ◌%◌, Bool, List, leb, eqb}
use Rattle.tables.specs.Choice.{both, within}
use Rattle.tables.specs.Layout.{record_word, kind_field}
use Rattle.tables.specs.declared.header.Header.{Header}
use Rattle.nodes.specs.declared.pending.Pending.{Pending}
use Rattle.nodes.specs.declared.pending.Pending.TheVariants.{Clean, Replace, Prune, Mark}

abbrev pub kind_of : Pending → ℕ
kind_of (Clean r) = 0
kind_of (Replace r) = 1
kind_of (Prune r) = 2
kind_of (Mark r) = 3

abbrev pub record_of : Pending → ℕ
record_of (Clean r) = r
record_of (Replace r) = r
record_of (Prune r) = r
record_of (Mark r) = r

abbrev pub word_of : Pending → ℕ
word_of v = 4 * record_of v + kind_of v

-- the pending of a kind, a number below 4, with a record
abbrev pub pending_of_kind : ℕ → ℕ → Pending
pending_of_kind zero r = Clean r
pending_of_kind (suc zero) r = Replace r
pending_of_kind (suc (suc zero)) r = Prune r
pending_of_kind (suc (suc (suc n))) r = Mark r

abbrev pub pending_of : ℕ → Pending
pending_of word = pending_of_kind (word % 4) (word / 4)

-- "Record: kind (1 replace, 2 prune)"
abbrev pub replace_kind : ℕ
replace_kind = 1

abbrev pub prune_kind : ℕ
prune_kind = 2

-- a record in use; one of a kind
abbrev pub record_in_use : Header → ℕ → Bool
record_in_use h r = within 1 r h.recordsused

abbrev pub record_of_kind : List ℕ → Header → ℕ → ℕ → Bool
record_of_kind b h r kind = both (record_in_use h r) (eqb (record_word b h r kind_field) kind)

-- not "a pending whose record isn't of its kind (clean: any)"; 0 goes with clean only
abbrev pub pending_good : List ℕ → Header → Pending → Bool
pending_good b h (Clean r) = leb r h.recordsused
pending_good b h (Replace r) = record_of_kind b h r replace_kind
pending_good b h (Prune r) = record_of_kind b h r prune_kind
pending_good b h (Mark r) = record_of_kind b h r prune_kind
