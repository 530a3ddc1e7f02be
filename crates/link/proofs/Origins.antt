-- Every record drawn since the beginning comes from an operation: which step drew it, and the start that the step goes back to.
use Prim.Native.Nat.{ℕ, zero, suc, ◌+◌, ◌≤◌, ◌<◌}
use mathlib.Core.Path.{◌≡◌, ap, ◌∙◌, subst}
use mathlib.Core.Logic.{◌≢◌}
use mathlib.Core.Bool.{true}
use mathlib.Core.List.{List}
use native.Mathlib.Omega.{arith}
use lib.ListN.{length}
use Rattle.tables.specs.Numbers.{k_stored, numbers_good}
use Rattle.tables.specs.Layout.{block_words}
use Rattle.tables.specs.Header.{header_of}
use Rattle.fresh.specs.Fresh.{fresh_header}
use Rattle.tables.specs.declared.header.Header.{Header}
use Rattle.process.specs.declared.Process.{Process}
use Rattle.points.specs.Rows.{row_of}
use Rattle.history.specs.View.{In}
use Rattle.history.specs.Shared.{Desc, Shared}
use Rattle.history.proofs.Swapping.{DrawnAt, drawn_between}
use Rattle.link.specs.Tables.{desc_of}
use Rattle.link.specs.Events.{Event, step, State, taken, event_at, state_at, block_at, header_at, since_at, Proper, AllProper, empty, also, fresh_state}
use Rattle.link.specs.Swaps.{Swapping, seven, thirteen, ChildSwap}
use Rattle.link.specs.Operations.{Draws}
use Rattle.link.proofs.Moments.{tables, Busy}
use Rattle.link.proofs.Searching.{known}
use Rattle.link.proofs.Reached.{at_work, its_turn, taken_own, state_is, block_is, header_is}
use Rattle.link.proofs.Outcomes.{Outcome, nothing, begun, moved, outcome}
use Rattle.link.proofs.Beginning.{Settled, fresh_settled}
use Rattle.link.proofs.Clauses.{Reached, good, hk, run, sound₀, grows}
use Rattle.link.proofs.Story.{Story, story}
use Rattle.link.proofs.Answers.{Drawn}

-- record r is in use at moment m, and was drawn since the beginning
pub record NewAt (s : State) (es : List Event) (m r : ℕ) : Type 0 where
  pub low : (tables (header_at s es) (block_at s es) 0).records < r
  pub high : r ≤ (tables (header_at s es) (block_at s es) m).records

-- record r, as it stands at moment m: the step that drew it, and the operation and key that it was drawn for
pub record Comes (s : State) (es : List Event) (m r : ℕ) : Type 0 where
  pub when : ℕ
  pub before : when < m
  pub n : ℕ
  pub place : In (header_at s es when).processes n
  pub event : event_at es when ≡ step n
  pub busy : (taken (state_at s es when) n).operation ≢ 0
  pub next : r ≡ (tables (header_at s es) (block_at s es) when).records + 1
  pub counted : (tables (header_at s es) (block_at s es) (suc when)).records ≡ r
  pub process : ((tables (header_at s es) (block_at s es) m).rec r).process ≡ n
  pub operation : ((tables (header_at s es) (block_at s es) m).rec r).operation ≡ (taken (state_at s es when) n).operation
  pub key : ((tables (header_at s es) (block_at s es) m).rec r).key ≡ (taken (state_at s es when) n).key
  pub own : (taken (state_at s es (suc when)) n).own ≡ r

module _ {s : State} {es : List Event} (reached : Reached s es) where
  abbrev W : ℕ → State
  W = state_at s es

  abbrev S : ℕ → Shared
  S = tables (header_at s es) (block_at s es)

  -- a record that is drawn; one drawn since a moment; one that is swapped
  pub new_drawn : (m n r : ℕ) → Draws s es m n r → NewAt s es (suc m) r
  new_drawn m n r d = record { low = omega (arith, d.next, (grows reached 0 m (omega arith)).records_more); high = omega (arith, d.counted) }

  pub new_since : (i m n r : ℕ) → Drawn s es i m n r → NewAt s es m r
  new_since i m n r d = record { low = omega (arith, d.late, (grows reached 0 i (omega arith)).records_more); high = d.used.high }

  pub new_swapped : (m r : ℕ) → ChildSwap s es m r → NewAt s es m r
  new_swapped m r w = subst (NewAt s es m) w.helps (record { low = y.newer.helped_late (λ z. omega (arith, (used w.swapping).low)); high = (used w.swapping).high })
    where
      q : Process
      q = taken (W m) w.process

      y : Busy (header_at s es) (block_at s es) (since_at s es w.process m) m w.process (taken (W m) w.process)
      y = at_work w.busy ((good reached m).each w.process w.exists)

      used : Swapping (block_at s es m) (header_at s es m) (taken (W m) w.process) → In (S m).records (taken (W m) w.process).helped
      used (seven p x) = (known (good reached m).now q y 7 p).used
      used (thirteen p x) = (known (good reached m).now q y 13 p).used

  pub comes : (m r : ℕ) → NewAt s es m r → Comes s es m r
  comes m r u = from (drawn_between (hk reached) (run reached m) (sound₀ reached) 0 m r (omega arith) (omega arith) u.low u.high)
    where
      from : DrawnAt S r 0 m → Comes s es m r
      from d = go (outcome (good reached d.when))
        where
          none : block_at s es (suc d.when) ≡ block_at s es d.when → ⊥
          none e = let x : (S (suc d.when)).records ≡ (S d.when).records = ap (λ (v : List ℕ). (header_of v).recordsused) e in omega (arith, d.next, d.drawn)

          go : Outcome s es d.when → Comes s es m r
          go (nothing e f g) = absurd (none (ap (λ (x : State). x.block) e))
          go (begun p operation key v o z e f f' g) = absurd (none (ap (λ (x : State). x.block) e))
          go (moved n v z b e f g g') = record {
            when = d.when;
            before = d.before;
            n = n;
            place = v;
            event = z;
            busy = λ x. omega (arith, b.counters.op_low);
            next = d.next;
            counted = d.drawn;
            process = ap (λ (x : Desc). x.process) later ∙ whose;
            operation = ap (λ (x : Desc). x.operation) later ∙ by.1;
            key = ap (λ (x : Desc). x.key) later ∙ by.2;
            own = ap (λ (x : Process). x.own) (taken_own (good reached d.when) n row_block row_process (state_is (good reached d.when) n v z b e) v) ∙ by.0;
          }
            where
              row_block : List ℕ
              row_block = (row_of (block_at s es d.when) (header_at s es d.when) n (taken (W d.when) n)).block

              row_process : Process
              row_process = (row_of (block_at s es d.when) (header_at s es d.when) n (taken (W d.when) n)).stepped.process

              used_is : (header_at s es (suc d.when)).recordsused ≡ (its_turn (good reached d.when) n v z b e).h'.recordsused
              used_is = ap (λ (x : Header). x.recordsused) (header_is (good reached d.when) n v z b e)

              whose : (desc_of (its_turn (good reached d.when) n v z b e).h' (row_of (block_at s es d.when) (header_at s es d.when) n (taken (W d.when) n)).block r).process ≡ n
              whose = (its_turn (good reached d.when) n v z b e).shift.drawn_by r (omega (arith, d.next)) (omega (arith, d.drawn, used_is))

              by : ((row_of (block_at s es d.when) (header_at s es d.when) n (taken (W d.when) n)).stepped.process.own ≡ r)
                  × ((desc_of (its_turn (good reached d.when) n v z b e).h' (row_of (block_at s es d.when) (header_at s es d.when) n (taken (W d.when) n)).block r).operation ≡ (taken (W d.when) n).operation)
                  × ((desc_of (its_turn (good reached d.when) n v z b e).h' (row_of (block_at s es d.when) (header_at s es d.when) n (taken (W d.when) n)).block r).key ≡ (taken (W d.when) n).key)
              by = (its_turn (good reached d.when) n v z b e).drawn_as r (omega (arith, d.next)) (omega (arith, d.drawn, used_is))

              later : (S m).rec r ≡ desc_of (its_turn (good reached d.when) n v z b e).h' (row_of (block_at s es d.when) (header_at s es d.when) n (taken (W d.when) n)).block r
              later =
                  (grows reached (suc d.when) m d.before).rec_same r (omega (arith, d.drawn))
                  ∙ ap (λ (x : List ℕ). desc_of (header_at s es (suc d.when)) x r) (block_is (good reached d.when) n v z b e)
                  ∙ ap (λ (x : Header). desc_of x (row_of (block_at s es d.when) (header_at s es d.when) n (taken (W d.when) n)).block r) (header_is (good reached d.when) n v z b e)

  -- the start behind a record
  pub started_by : (m r : ℕ) (u : NewAt s es m r) → Story s es (comes m r u).when (comes m r u).n
  started_by m r u = story reached (comes m r u).when (comes m r u).n (comes m r u).place (comes m r u).busy

proper_at : {es : List Event} → AllProper es → (m : ℕ) → Proper (event_at es m)
proper_at empty m = omega arith
proper_at (also x p) zero = x
proper_at (also x p) (suc m) = proper_at p m

-- a settled state, then a list of events; the fresh tree is one
pub reached_settled : {s : State} {es : List Event} → Settled s → AllProper es → Reached s es
reached_settled r p = record { settled = r; proper = proper_at p }

pub reached_fresh : (k processes nodes records : ℕ) (b : List ℕ) (row : List Process) {es : List Event} → numbers_good (k_stored k) processes nodes records ≡ true
    → block_words (fresh_header k processes nodes records) ≤ length b → processes ≤ length row → AllProper es → Reached (fresh_state k processes nodes records b row) es
reached_fresh k processes nodes records b row good long rows proper = reached_settled (fresh_settled k processes nodes records good b long row rows) proper
