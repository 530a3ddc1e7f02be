-- Each refusal of the block in its order, and that each of its numbers fits its field.
use Rattle.tables.proofs.Limits.{read_short, read_bad, read_cut, read_good, k_fits, processes_fits, nodes_fits, nodesused_fits, records_fits, recordsused_fits}
use Rattle.tables.proofs.header.read_header.Goals as goal

pub returns-in_default : goal.returns-in_default
returns-in_default c = read_short _ c.in_default.len_below

pub returns-then-not-header_good : goal.returns-then-not-header_good
returns-then-not-header_good c = read_bad _ _ c.in-len6-up.len_at_least c.header_good.ensures c.if-not-header_good.true

pub overflow_cast-h : goal.overflow_cast-h
overflow_cast-h c = k_fits _ _ c.header_good.ensures c.if-not-header_good.false

pub overflow_cast-h-2 : goal.overflow_cast-h-2
overflow_cast-h-2 c = processes_fits _ _ c.header_good.ensures c.if-not-header_good.false

pub overflow_cast-h-3 : goal.overflow_cast-h-3
overflow_cast-h-3 c = nodes_fits _ _ c.header_good.ensures c.if-not-header_good.false

pub overflow_cast-h-4 : goal.overflow_cast-h-4
overflow_cast-h-4 c = nodesused_fits _ _ c.header_good.ensures c.if-not-header_good.false

pub overflow_cast-h-5 : goal.overflow_cast-h-5
overflow_cast-h-5 c = records_fits _ _ c.header_good.ensures c.if-not-header_good.false

pub overflow_cast-h-6 : goal.overflow_cast-h-6
overflow_cast-h-6 c = recordsused_fits _ _ c.header_good.ensures c.if-not-header_good.false

pub returns-then-block-block_words : goal.returns-then-block-block_words
returns-then-block-block_words c = read_cut _ _ c.in-len6-up.len_at_least c.header_good.ensures _ c.if-not-header_good.false c.block_words.ensures c.if-block-block_words.true

pub returns : goal.returns
returns c = read_good _ _ c.in-len6-up.len_at_least c.header_good.ensures _ c.if-not-header_good.false c.block_words.ensures c.if-block-block_words.false
