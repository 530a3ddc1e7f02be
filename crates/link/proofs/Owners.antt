-- A record that stands is the own record of a busy process: so when all are idle, every node of the tree is clean, and the state is settled.
use Prim.Native.Nat.{ℕ, zero, suc, ◌*◌, ◌≤◌, ◌<◌}
use mathlib.Core.Path.{◌≡◌, sym, ap, ◌∙◌, subst}
use mathlib.Core.Logic.{◌≢◌}
use mathlib.Core.List.{List}
use native.Mathlib.Omega.{arith}
use native.Mathlib.Decide.{ℕ_discrete, dec_le}
use Rattle.tables.specs.Header.{header_of}
use Rattle.tables.specs.declared.header.Header.{Header}
use Rattle.process.specs.declared.Process.{Process}
use Rattle.process.specs.declared.Stepped.{Stepped}
use Rattle.process.specs.Process.{started_as}
use Rattle.points.specs.Rows.{row_of}
use Rattle.link.proofs.Calls.{step_done_in}
use Rattle.history.specs.View.{In, Reach}
use Rattle.history.specs.Shared.{Desc, Shared, Stands}
use Rattle.history.proofs.Quiet.{stands_before, quiet_clean}
use Rattle.history.proofs.Newer.{stands_new}
use Rattle.link.specs.Tables.{tables_of}
use Rattle.link.specs.Events.{Event, step, State, taken, step_in, event_at, state_at, block_at, header_at, since_at}
use Rattle.link.proofs.Moments.{tables, Busy, Frees, Follows, already, afterwards, answers, now_sound}
use Rattle.link.proofs.Reached.{its_turn, taken_own, taken_other, state_is, block_is, header_is}
use Rattle.link.proofs.Beginning.{Settled}
use Rattle.link.proofs.Outcomes.{Outcome, nothing, begun, moved, outcome}
use Rattle.link.proofs.Clauses.{Reached, good, hk, run, sound₀, sound, step_at, grows}

-- at moment m process n is busy, and r is its own record
pub record Owned (s : State) (es : List Event) (m n r : ℕ) : Type 0 where
  pub busy : (taken (state_at s es m) n).operation ≢ 0
  pub own : (taken (state_at s es m) n).own ≡ r

module _ {s : State} {es : List Event} (reached : Reached s es) where
  abbrev W : ℕ → State
  W = state_at s es

  abbrev hs : ℕ → Header
  hs = header_at s es

  abbrev bs : ℕ → List ℕ
  bs = block_at s es

  abbrev S : ℕ → Shared
  S = tables hs bs

  -- the step of the process that moves
  module _ (m n : ℕ) (v : In (hs m).processes n) (z : event_at es m ≡ step n) (b : Busy hs bs (since_at s es n m) m n (taken (W m) n))
      (e : step_in (W m) n ≡ step_done_in (W m) n) where
    abbrev q : Process
    q = taken (W m) n

    abbrev row_block : List ℕ
    row_block = (row_of (bs m) (hs m) n q).block

    abbrev row_stepped : Stepped
    row_stepped = (row_of (bs m) (hs m) n q).stepped

    abbrev h' : Header
    h' = (its_turn (good reached m) n v z b e).h'

    own_now : taken (W (suc m)) n ≡ row_stepped.process
    own_now = taken_own (good reached m) n row_block row_stepped.process (state_is (good reached m) n v z b e) v

    there : (r : ℕ) → In (S m).records r → Stands (S (suc m)).view ((S (suc m)).rec r) r → Stands (tables_of h' row_block).view ((S m).rec r) r
    there r u w =
        subst (λ (x : List ℕ). Stands (tables_of h' x).view ((S m).rec r) r) (block_is (good reached m) n v z b e)
        (subst (λ (x : Header). Stands (tables_of x (bs (suc m))).view ((S m).rec r) r) (header_is (good reached m) n v z b e)
        (subst (λ (x : Desc). Stands (S (suc m)).view x r) ((grows reached m (suc m) (omega arith)).rec_same r u) w))

    -- an own record that still stands is kept
    keeps : (r : ℕ) → In (S m).records r → q.own ≡ r → Stands (S (suc m)).view ((S (suc m)).rec r) r → Owned s es (suc m) n r
    keeps r u o w = go (its_turn (good reached m) n v z b e).follows
      where
        frees : Frees hs bs m h' row_block q → ⊥
        frees f = f (λ x. omega (arith, u.low)) (subst (λ (x : ℕ). Stands (tables_of h' row_block).view ((S m).rec x) x) (sym o) (there r u w))

        on : (q' : Process) → row_stepped.process.own ≡ q'.own → row_stepped.process.operation ≡ q'.operation → 1 ≤ q'.operation
            → (q'.own ≢ q.own → Frees hs bs m h' row_block q) → Dec (q'.own ≡ q.own) → Owned s es (suc m) n r
        on q' a c l f (yes d) = record {
          busy = λ x. (let y : row_stepped.process.operation ≡ 0 = ap (λ (p : Process). p.operation) (sym own_now) ∙ x in omega arith);
          own = ap (λ (p : Process). p.own) own_now ∙ a ∙ d ∙ o;
        }
        on q' a c l f (no d) = absurd (frees (f d))

        go : Follows hs bs (since_at s es n m) m n h' row_block q row_stepped → Owned s es (suc m) n r
        go (already q' x f p new c y) =
            on q' (ap (λ (t : Stepped). t.process.own) x) (ap (λ (t : Stepped). t.process.operation) x) c.op_low f (ℕ_discrete q'.own q.own)
        go (afterwards q' x f p new c l y) =
            on q' (ap (λ (t : Stepped). t.process.own) x) (ap (λ (t : Stepped). t.process.operation) x) c.op_low f (ℕ_discrete q'.own q.own)
        go (answers a x f y) = absurd (frees f)

    -- a record that is drawn becomes the own record
    draws : (r : ℕ) → (S m).records < r → r ≤ (S (suc m)).records → (((S (suc m)).rec r).process ≡ n) × Owned s es (suc m) n r
    draws r l g = (owner, go (its_turn (good reached m) n v z b e).follows)
      where
        used_is : (hs (suc m)).recordsused ≡ h'.recordsused
        used_is = ap (λ (x : Header). x.recordsused) (header_is (good reached m) n v z b e)

        is : row_stepped.process.own ≡ r
        is = ((its_turn (good reached m) n v z b e).drawn_as r l (omega (arith, used_is))).0

        owner : ((S (suc m)).rec r).process ≡ n
        owner =
            ap (λ (x : List ℕ). ((tables_of (hs (suc m)) x).rec r).process) (block_is (good reached m) n v z b e)
            ∙ ap (λ (x : Header). ((tables_of x row_block).rec r).process) (header_is (good reached m) n v z b e)
            ∙ (its_turn (good reached m) n v z b e).shift.drawn_by r l (omega (arith, used_is))

        on : (q' : Process) → row_stepped.process.operation ≡ q'.operation → 1 ≤ q'.operation → Owned s es (suc m) n r
        on q' c x = record {
          busy = λ a. (let y : row_stepped.process.operation ≡ 0 = ap (λ (p : Process). p.operation) (sym own_now) ∙ a in omega arith);
          own = ap (λ (p : Process). p.own) own_now ∙ is;
        }

        go : Follows hs bs (since_at s es n m) m n h' row_block q row_stepped → Owned s es (suc m) n r
        go (already q' x f p new c y) = on q' (ap (λ (t : Stepped). t.process.operation) x) c.op_low
        go (afterwards q' x f p new c a y) = on q' (ap (λ (t : Stepped). t.process.operation) x) c.op_low
        go (answers a x f y) = absurd (let d : row_stepped.process.own ≡ 0 = ap (λ (t : Stepped). t.process.own) x in omega (arith, is))

  owned_same : (m n r : ℕ) → taken (W (suc m)) n ≡ taken (W m) n → Owned s es m n r → Owned s es (suc m) n r
  owned_same m n r e o = record { busy = λ x. o.busy (ap (λ (p : Process). p.operation) (sym e) ∙ x); own = ap (λ (p : Process). p.own) e ∙ o.own }

  -- a record that stands was drawn since the beginning, so its process exists
  owner : (m r : ℕ) → In (S m).records r → Stands (S m).view ((S m).rec r) r → In (hs m).processes ((S m).rec r).process
  owner m r u w =
      let now = (good reached m).now in
      now.owners r (stands_new (hk reached) (run reached m) (sound₀ reached) now.none_stood m r (omega arith) u w) u.high

  -- it is that process's own record, and the process is busy
  pub owned : (m r : ℕ) → In (S m).records r → Stands (S m).view ((S m).rec r) r → Owned s es m ((S m).rec r).process r
  unfolding state_at
  owned zero r u w = absurd (reached.settled.none_stands r u w)
  owned (suc m) r u w = go (dec_le r (S m).records) (outcome (good reached m)) (λ (x : In (S m).records r) (y : Stands (S m).view ((S m).rec r) r). owned m r x y)
    where
      none : bs (suc m) ≡ bs m → (S m).records < r → ⊥
      none e l = let x : (S (suc m)).records ≡ (S m).records = ap (λ (v : List ℕ). (header_of v).recordsused) e in omega (arith, u.high)

      old : (v : In (S m).records r) → Stands (S m).view ((S m).rec r) r → Owned s es m ((S m).rec r).process r → Outcome s es m → Owned s es (suc m) ((S (suc m)).rec r).process r
      old v st o c = subst (λ (x : Desc). Owned s es (suc m) x.process r) (sym ((grows reached m (suc m) (omega arith)).rec_same r v)) (by c)
        where
          by : Outcome s es m → Owned s es (suc m) ((S m).rec r).process r
          by (nothing e f g) = owned_same m ((S m).rec r).process r (ap (λ (x : State). taken x ((S m).rec r).process) e) o
          by (begun p operation key a d z e f f' g) = at (ℕ_discrete ((S m).rec r).process p)
            where
              at : Dec (((S m).rec r).process ≡ p) → Owned s es (suc m) ((S m).rec r).process r
              at (yes x) = absurd (o.busy (ap (λ (y : ℕ). (taken (W m) y).operation) x ∙ d))
              at (no x) =
                  owned_same m ((S m).rec r).process r
                  (taken_other (good reached m) p (bs m) (started_as operation key) e a ((S m).rec r).process (owner m r v st).low x) o
          by (moved p a z b e f g g') = at (ℕ_discrete ((S m).rec r).process p)
            where
              at : Dec (((S m).rec r).process ≡ p) → Owned s es (suc m) ((S m).rec r).process r
              at (yes x) =
                  subst (λ (y : ℕ). Owned s es (suc m) y r) (sym x) (keeps m p a z b e r v (ap (λ (y : ℕ). (taken (W m) y).own) (sym x) ∙ o.own) w)
              at (no x) =
                  owned_same m ((S m).rec r).process r
                  (taken_other (good reached m) p (row_of (bs m) (hs m) p (taken (W m) p)).block (row_of (bs m) (hs m) p (taken (W m) p)).stepped.process (state_is (good reached m) p a z b e) a
                  ((S m).rec r).process (owner m r v st).low x) o

      new : (S m).records < r → Outcome s es m → Owned s es (suc m) ((S (suc m)).rec r).process r
      new l (nothing e f g) = absurd (none (ap (λ (x : State). x.block) e) l)
      new l (begun p operation key a d z e f f' g) = absurd (none (ap (λ (x : State). x.block) e) l)
      new l (moved p a z b e f g g') =
          let d = draws m p a z b e r l u.high in
          subst (λ (x : ℕ). Owned s es (suc m) x r) (sym d.0) d.1

      go : Dec (r ≤ (S m).records) → Outcome s es m → (In (S m).records r → Stands (S m).view ((S m).rec r) r → Owned s es m ((S m).rec r).process r)
          → Owned s es (suc m) ((S (suc m)).rec r).process r
      go (yes l) c ih =
          let v : In (S m).records r = omega (arith, u.low) in
          let st = stands_before (hk reached) (sound reached m) (step_at reached m) r v w in
          old v st (ih v st) c
      go (no l) c ih = new (omega arith) c

  -- with all processes idle no record stands, and every node of the tree is clean
  module _ (m : ℕ) (idle : (n : ℕ) → In (hs m).processes n → (taken (W m) n).operation ≡ 0) where
    none_stand : (r : ℕ) → In (S m).records r → ¬ Stands (S m).view ((S m).rec r) r
    none_stand r u w = (owned m r u w).busy (idle ((S m).rec r).process (owner m r u w))

    pub all_clean : (n : ℕ) → Reach (hs 0).k (S m).view n → (c : ℕ) × ((S m).view.pend n ≡ 4 * c)
    all_clean n o = quiet_clean (hk reached) (sound reached m) none_stand n o

    -- so a list of events may begin there
    pub settled_at : Settled (W m)
    settled_at = record {
      fit = (good reached m).now.fit;
      rows = (good reached m).rows;
      idle_all = idle;
      sound = now_sound (good reached m).now;
      none_stands = none_stand;
    }
