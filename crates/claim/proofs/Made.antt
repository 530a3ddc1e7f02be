-- Demand 3: the claim holds of every list of starts and steps after an accepted making.
use Prim.Native.Nat.{ℕ, ◌≤◌}
use mathlib.Core.Path.{◌≡◌, refl, sym, ◌∙◌}
use mathlib.Core.Bool.{Bool, true, false}
use mathlib.Core.List.{List}
use lib.Dec.{ltb}
use lib.ListN.{length}
use borrow.Author.Tests.{ltb-false}
use Rattle.std.specs.Prelude.{Result, Ok, Err}
use Rattle.tables.specs.Choice.{pick}
use Rattle.tables.specs.Numbers.{k_stored, numbers_good}
use Rattle.tables.specs.Refusal.{refusal}
use Rattle.tables.specs.Layout.{block_words}
use Rattle.tables.specs.declared.numbers.Refusal.{Refusal}
use Rattle.fresh.specs.Fresh.{fresh_header}
use Rattle.process.specs.declared.Process.{Process}
use Rattle.points.proofs.Refusals.{ok_not}
use Rattle.make.specs.Make.{make_call}
use Rattle.link.specs.Events.{Event, AllProper, State, state_at, fresh_state}
use Rattle.link.proofs.Beginning.{fresh_none}
use Rattle.link.proofs.Origins.{reached_fresh}
use Rattle.claim.proofs.Claimed.{claimed}
use Rattle.claim.proofs.Kept.{kept}
use Rattle.claim.specs.Claim.{Claim, made}
use Rattle.claim.specs.Kept.{Demand}

module _ (b : List ℕ) (row : List Process) (k processes nodes records : ℕ) {es : List Event} (proper : AllProper es) where
  abbrev fresh : State
  fresh = fresh_state k processes nodes records b row

  begins : numbers_good (k_stored k) processes nodes records ≡ true → block_words (fresh_header k processes nodes records) ≤ length b → processes ≤ length row → Demand fresh es
  unfolding state_at
  begins f g h = record { claim = all; empty = fresh_none k processes nodes records f b g; kept = kept all (fresh_none k processes nodes records f b g) }
    where
      all : Claim fresh es
      all = claimed (reached_fresh k processes nodes records b row f g h proper)

  refuses : (n : ℕ) → ◌≡◌ {A = Result (Unit {0}) Refusal} (Err (refusal n)) (Ok tt) → ⊥
  refuses n e = ok_not tt (refusal n) (sym e)

  pub demand_3 : (make_call b row k processes nodes records).answer ≡ Ok tt → Demand (made b row k processes nodes records) es
  unfolding make_call pick
  demand_3 e = go (numbers_good (k_stored k) processes nodes records) refl (ltb (length b) (block_words (fresh_header k processes nodes records))) refl (ltb (length row) processes) refl
    where
      go : (t : Bool) → numbers_good (k_stored k) processes nodes records ≡ t → (u : Bool) → ltb (length b) (block_words (fresh_header k processes nodes records)) ≡ u
          → (v : Bool) → ltb (length row) processes ≡ v → Demand (made b row k processes nodes records) es
      go false f u g v h = absurd (refuses 1 (sym (rw f refl) ∙ e))
      go true f true g v h = absurd (refuses 2 (sym (rw (f, g) refl) ∙ e))
      go true f false g true h = absurd (refuses 2 (sym (rw (f, g, h) refl) ∙ e))
      go true f false g false h =
          rw (f, g, h) (begins f (ltb-false (length b) (block_words (fresh_header k processes nodes records)) g) (ltb-false (length row) processes h))
