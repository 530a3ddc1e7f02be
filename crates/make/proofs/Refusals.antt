-- "A refusal returns its number and changes nothing lent": a making is refused n exactly when reason n holds and none before it, and leaves block and row alone then; else the fresh tree stands.
use Prim.Native.Nat.{ℕ}
use mathlib.Core.Path.{◌≡◌, refl}
use mathlib.Core.List.{List}
use mathlib.Core.Logic.{◌↔◌}
use lib.ListN.{length}
use Rattle.std.specs.Prelude.{Ok, Err}
use Rattle.tables.specs.Choice.{both, NoneHolds, First}
use Rattle.tables.specs.Refusal.{number_of, refusal}
use Rattle.tables.specs.Layout.{over_front}
use Rattle.tables.specs.declared.numbers.Refusal.{Refusal}
use Rattle.tables.proofs.OneToOne.{none_accepts, call_leaves, call_exactly}
use Rattle.fresh.specs.Fresh.{fresh_header, fresh_block, fresh_row}
use Rattle.fresh.proofs.Refusals.{one_made, not_done}
use Rattle.process.specs.Process.{idle}
use Rattle.process.specs.declared.Process.{Process}
use Rattle.make.specs.Make.{make_reasons, MakeOut, make_out, make_call}

module _ (b : List ℕ) (row : List Process) (k p n r : ℕ) where
  module _ (e : Refusal) where
    pub make_exactly : ((make_call b row k p n r).answer ≡ Err e) ↔ First (number_of e) (make_reasons b (length row) k p n r)
    unfolding make_call both
    make_exactly = call_exactly (λ (o : MakeOut). o.answer) Err (λ d. make_out (Err d) b row) _ (make_reasons b (length row) k p n r) (λ d. refl) one_made (λ g. not_done) refl e

    pub make_keeps : (make_call b row k p n r).answer ≡ Err e → make_call b row k p n r ≡ make_out (Err e) b row
    unfolding make_call both
    make_keeps = call_leaves (λ (o : MakeOut). o.answer) Err (λ d. make_out (Err d) b row) _ (make_reasons b (length row) k p n r) (λ d. refl) one_made (λ g. not_done) refl e

  pub make_accepted : NoneHolds (make_reasons b (length row) k p n r) → make_call b row k p n r ≡ make_out (Ok tt) (over_front (fresh_block (fresh_header k p n r)) b) (over_front (fresh_row idle (fresh_header k p n r)) row)
  unfolding make_call
  make_accepted g = none_accepts (λ i. make_out (Err (refusal i)) b row) _ (make_reasons b (length row) k p n r) g
