-- The proof that `make_block` keeps its contract.
use borrow.Author.Rules.{rules}
use Rattle.fresh.proofs.Stored.{k_small, processes_small, nodes_small, fresh_small, records_small}
use Rattle.fresh.proofs.Making.{making}
use Rattle.fresh.proofs.make_block.Goals as goal

pub overflow_cast-h : goal.overflow_cast-h
overflow_cast-h c = search k_small

pub overflow_cast-h-2 : goal.overflow_cast-h-2
overflow_cast-h-2 c = search processes_small

pub overflow_cast-h-3 : goal.overflow_cast-h-3
overflow_cast-h-3 c = search nodes_small

pub overflow_cast-h-4 : goal.overflow_cast-h-4
overflow_cast-h-4 c = search fresh_small

pub overflow_cast-h-5 : goal.overflow_cast-h-5
overflow_cast-h-5 c = search records_small

pub returns-then-block-n : goal.returns-then-block-n
returns-then-block-n c = search (rules, making)

pub returns : goal.returns
returns c = search (rules, making)

pub returns-then-not-numbers_good : goal.returns-then-not-numbers_good
returns-then-not-numbers_good c = search (rules, making)
