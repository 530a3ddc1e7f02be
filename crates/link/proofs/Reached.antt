-- Every moment of a list of events keeps the invariant of the real state, and no event is refused as damaged.
use Prim.Native.Nat.{ℕ, zero, suc, ◌-◌, ◌≤◌, ◌<◌}
use mathlib.Core.Path.{◌≡◌, refl, sym, ap, ◌∙◌, subst}
use mathlib.Core.Logic.{◌≢◌, ◌⊎◌, inl, inr}
use mathlib.Core.Bool.{Bool, true, false}
use mathlib.Core.List.{List}
use native.Mathlib.Omega.{arith}
use native.Mathlib.Decide.{ℕ_discrete}
use lib.Dec.{eqb}
use lib.ListN.{length, length-set}
use lib.Seq.{get_or-set_same, get_or-set_other}
use borrow.Author.Tests.{eq-eqb, ne_eqb}
use Rattle.tables.specs.Choice.{pick, both}
use Rattle.tables.specs.Numbers.{infinity}
use Rattle.tables.specs.Layout.{child_word}
use Rattle.tables.specs.Header.{header_of}
use Rattle.tables.specs.declared.header.Header.{Header}
use Rattle.tables.proofs.Picks.{both_is, both_false, false_both}
use Rattle.process.specs.declared.Process.{Process}
use Rattle.process.specs.declared.Stepped.{Stepped}
use Rattle.process.specs.Process.{idle, started_as}
use Rattle.points.specs.Rows.{row_of}
use Rattle.index.specs.Calls.{StartOut, StepOut}
use Rattle.help.specs.Help.{helped_l, helped_p, helped_third}
use Rattle.history.specs.View.{In}
use Rattle.history.specs.Effects.{Swapped}
use Rattle.history.specs.Run.{Step, step_swaps}
use Rattle.link.specs.Tables.{tables_of}
use Rattle.link.specs.Events.{Event, start, step, State, taken, start_in, step_in, after, event_at, state_at, block_at, header_at, Proper, is_accepted, starts, since_at}
use Rattle.link.specs.Swaps.{Swapping, seven, thirteen, ChildSwap}
use Rattle.link.proofs.Minds.{mind_of, newer_root}
use Rattle.link.proofs.Moments.{tables, Now, Busy, Swapper, at_7, at_13, nobody, Shift, Turn, shift_self, same_self, same_none, k_low, held_root, descends_root, counters_root}
use Rattle.link.proofs.Searching.{known}
use Rattle.link.proofs.Stepping.{turn, step_sound}
use Rattle.link.proofs.Carry.{shift_to, follows_to, now_next, place_back, busy_next, busy_own}
use Rattle.link.proofs.Calls as calls
use Rattle.link.proofs.Calls.{put_back, step_refused_in, step_done_in, start_done_in, stepped_to, started_to}

-- what process n is doing at moment m
pub data Doing (s : State) (es : List Event) (m n : ℕ) : Type 0 where
  idles : (taken (state_at s es m) n).operation ≡ 0 → Doing s es m n
  works : Busy (header_at s es) (block_at s es) (since_at s es n m) m n (taken (state_at s es m) n) → Doing s es m n

pub at_work : {s : State} {es : List Event} {m n : ℕ} → (taken (state_at s es m) n).operation ≢ 0 → Doing s es m n
    → Busy (header_at s es) (block_at s es) (since_at s es n m) m n (taken (state_at s es m) n)
at_work d (idles e) = absurd (d e)
at_work d (works y) = y

-- the invariant of the real state at moment m
pub record Good (s : State) (es : List Event) (m : ℕ) : Type 0 where
  pub now : Now (header_at s es) (block_at s es) m
  pub rows : (header_at s es m).processes ≤ length (state_at s es m).row
  pub each : (n : ℕ) → In (header_at s es m).processes n → Doing s es m n

pub state_next : (s : State) (es : List Event) (m : ℕ) (e : Event) → event_at es m ≡ e → state_at s es (suc m) ≡ after (state_at s es m) e
unfolding state_at
state_next s es m e z = ap (after (state_at s es m)) z

pub since_next : (s : State) (es : List Event) (m n : ℕ) (e : Event) (t : Bool) → event_at es m ≡ e → starts (state_at s es m) e n ≡ t
    → since_at s es n (suc m) ≡ pick t (suc m) (since_at s es n m)
unfolding since_at
since_next s es m n e t z f = ap (λ (u : Bool). pick u (suc m) (since_at s es n m)) (ap (λ (x : Event). starts (state_at s es m) x n) z ∙ f)

pub since_stays : (s : State) (es : List Event) (m n : ℕ) (e : Event) → event_at es m ≡ e → starts (state_at s es m) e n ≡ false → since_at s es n (suc m) ≡ since_at s es n m
unfolding pick
since_stays s es m n e z f = since_next s es m n e false z f

-- whose child swap the step from moment m is, and of which word, in the words of the events
pub data Kind (s : State) (es : List Event) (m k : ℕ) (c : Step k (tables (header_at s es) (block_at s es) m) (tables (header_at s es) (block_at s es) (suc m))) : Type 0 where
  no_swap : step_swaps k c ≡ 0 → ((r : ℕ) → ¬ ChildSwap s es m r) → Kind s es m k c
  swap_of : (r : ℕ) → 1 ≤ r → (w : ChildSwap s es m r) → step_swaps k c ≡ r
      → Swapped k (tables (header_at s es) (block_at s es) m) (tables (header_at s es) (block_at s es) (suc m)) ((tables (header_at s es) (block_at s es) m).rec r)
      (taken (state_at s es m) w.process).index (taken (state_at s es m) w.process).other → Kind s es m k c

-- an event as a step of the history
pub record Move (s : State) (es : List Event) (m : ℕ) : Type 0 where
  pub step : Step (header_at s es m).k (tables (header_at s es) (block_at s es) m) (tables (header_at s es) (block_at s es) (suc m))
  pub kind : Kind s es m (header_at s es m).k step

pub step_one : (n p : ℕ) → step n ≡ step p → n ≡ p
step_one n p e = cc

start_step : (n operation key p : ℕ) → start n operation key ≡ step p → ⊥
start_step n operation key p e = let z : ◌≡◌ {A = ℕ} 0 1 = cc in omega arith

module _ {s : State} {es : List Event} {m : ℕ} (good : Good s es m) where
  abbrev hs : ℕ → Header
  hs = header_at s es

  abbrev bs : ℕ → List ℕ
  bs = block_at s es

  abbrev W : ℕ → State
  W = state_at s es

  -- a process that the event leaves alone
  module _ {n : ℕ} (sh : Shift hs bs m n (hs (suc m)) (bs (suc m))) where
    doing_next : (p : ℕ) → p ≢ n → taken (W (suc m)) p ≡ taken (W m) p → since_at s es p (suc m) ≡ since_at s es p m → Doing s es m p → Doing s es (suc m) p
    doing_next p d e f (idles z) = idles (ap (λ (x : Process). x.operation) e ∙ z)
    doing_next p d e f (works y) =
        works (subst (λ (x : Process). Busy hs bs (since_at s es p (suc m)) (suc m) p x) (sym e)
        (subst (λ (x : ℕ). Busy hs bs x (suc m) p (taken (W m) p)) (sym f) (busy_next good.now sh (taken (W m) p) d y)))

  -- an event that leaves everything alone
  still : W (suc m) ≡ W m → ((p : ℕ) → since_at s es p (suc m) ≡ since_at s es p m) → Good s es (suc m)
  still e f = record {
    now = now_next good.now sh;
    rows = subst (λ (x : State). (header_of x.block).processes ≤ length x.row) (sym e) good.rows;
    each = λ p u. doing_next sh p (λ z. omega (arith, u.low)) (ap (λ (x : State). taken x p) e) (f p) (good.each p (place_back good.now sh u));
  }
    where
      sh : Shift hs bs m 0 (hs (suc m)) (bs (suc m))
      sh = shift_to {hs = hs} {bs = bs} {j = m} {h' = hs m} {b' = bs m} (ap (λ (x : State). header_of x.block) e) (ap (λ (x : State). x.block) e) (shift_self good.now 0)

  -- nothing is written
  rested : bs (suc m) ≡ bs m → ((r : ℕ) → ¬ ChildSwap s es m r) → Move s es m
  rested e f = put (subst (λ (c : List ℕ). (x : Step (hs m).k (tables hs bs m) (tables_of (header_of c) c)) × (step_swaps (hs m).k x ≡ 0)) (sym e) (same_self good.now, none))
    where
      none : step_swaps (hs m).k (same_self good.now) ≡ 0
      none = same_none good.now

      put : (x : Step (hs m).k (tables hs bs m) (tables hs bs (suc m))) × (step_swaps (hs m).k x ≡ 0) → Move s es m
      put x = record { step = x.0; kind = no_swap x.1 f }

  -- the row with one record put back
  module _ (n : ℕ) (b' : List ℕ) (q' : Process) (e : W (suc m) ≡ put_back (W m) b' n q') (u : In (hs m).processes n) where
    pub taken_own : taken (W (suc m)) n ≡ q'
    taken_own = ap (λ (x : State). taken x n) e ∙ get_or-set_same (W m).row (n - 1) q' idle (omega (arith, u, good.rows))

    pub taken_other : (p : ℕ) → 1 ≤ p → p ≢ n → taken (W (suc m)) p ≡ taken (W m) p
    taken_other p l d = ap (λ (x : State). taken x p) e ∙ get_or-set_other (W m).row (n - 1) (p - 1) q' idle (λ z. d (omega (arith, u)))

    rows_next : (hs (suc m)).processes ≡ (hs m).processes → (hs (suc m)).processes ≤ length (W (suc m)).row
    rows_next z =
        let l : length (W (suc m)).row ≡ length (W m).row = ap (λ (x : State). length x.row) e ∙ simp length-set in
        omega (arith, good.rows)

  -- a step that is done
  module _ (n : ℕ) (u : In (hs m).processes n) (z : event_at es m ≡ step n) (y : Busy hs bs (since_at s es n m) m n (taken (W m) n))
      (e : step_in (W m) n ≡ step_done_in (W m) n) where
    abbrev q : Process
    q = taken (W m) n

    abbrev stepped : Stepped
    stepped = (row_of (bs m) (hs m) n q).stepped

    pub its_turn : Turn hs bs (since_at s es n m) m n q (row_of (bs m) (hs m) n q).sound (row_of (bs m) (hs m) n q).stepped (row_of (bs m) (hs m) n q).block
    its_turn = turn good.now q y

    pub state_is : W (suc m) ≡ put_back (W m) (row_of (bs m) (hs m) n q).block n stepped.process
    state_is = state_next s es m (step n) z ∙ ap stepped_to e

    pub block_is : bs (suc m) ≡ (row_of (bs m) (hs m) n q).block
    block_is = ap (λ (x : State). x.block) state_is

    pub header_is : hs (suc m) ≡ its_turn.h'
    header_is = ap header_of block_is ∙ its_turn.shift.fit'.header

    pub its_shift : Shift hs bs m n (hs (suc m)) (bs (suc m))
    its_shift = shift_to header_is block_is its_turn.shift

    steps : Good s es (suc m)
    steps = record {
      now = now_next good.now its_shift;
      rows = rows_next n (row_of (bs m) (hs m) n q).block stepped.process state_is u its_shift.processes_same;
      each = λ p v. one p v (ℕ_discrete p n);
    }
      where
        since_same : (p : ℕ) → since_at s es p (suc m) ≡ since_at s es p m
        since_same p = since_stays s es m p (step n) z refl

        own : Busy hs bs (since_at s es n m) (suc m) n stepped.process ⊎ (stepped.process ≡ idle) → Doing s es (suc m) n
        own (inl x) =
            works (subst (λ (a : Process). Busy hs bs (since_at s es n (suc m)) (suc m) n a)
            (sym (taken_own n (row_of (bs m) (hs m) n q).block stepped.process state_is u))
            (subst (λ (a : ℕ). Busy hs bs a (suc m) n stepped.process) (sym (since_same n)) x))
        own (inr x) =
            idles (ap (λ (a : Process). a.operation) (taken_own n (row_of (bs m) (hs m) n q).block stepped.process state_is u ∙ x))

        one : (p : ℕ) → In (hs (suc m)).processes p → Dec (p ≡ n) → Doing s es (suc m) p
        one p v (yes d) =
            subst (λ (a : ℕ). Doing s es (suc m) a) (sym d)
            (own (busy_own good.now its_shift q stepped y.since u (follows_to header_is block_is its_turn.follows)))
        one p v (no d) =
            doing_next its_shift p d (taken_other n (row_of (bs m) (hs m) n q).block stepped.process state_is u p v.low d) (since_same p)
            (good.each p (place_back good.now its_shift v))

    -- and whose child swap it is
    both_parts : (c : Step (hs m).k (tables hs bs m) (tables hs bs (suc m))) × Swapper hs bs m q (tables hs bs (suc m)) c
    both_parts =
        subst (λ (x : List ℕ). (c : Step (hs m).k (tables hs bs m) (tables_of (hs (suc m)) x)) × Swapper hs bs m q (tables_of (hs (suc m)) x) c) (sym (block_is))
        (subst (λ (g : Header). (c : Step (hs m).k (tables hs bs m) (tables_of g (row_of (bs m) (hs m) n q).block))
        × Swapper hs bs m q (tables_of g (row_of (bs m) (hs m) n q).block) c) (sym (header_is))
        (its_turn.shift.step, its_turn.swapper))

    swaps_by : Swapping (bs m) (hs m) q → ChildSwap s es m q.helped
    swaps_by w = record { process = n; event = z; exists = u; busy = λ x. omega (arith, y.counters.op_low); helps = refl; swapping = w }

    moved : Move s es m
    unfolding swaps_by
    moved = record { step = both_parts.0; kind = go both_parts.1 }
      where
        nobody_swaps : (q.point ≡ 7 → child_word (bs m) (hs m) (helped_p (bs m) (hs m) q) q.index ≢ helped_l (bs m) (hs m) q)
            → (q.point ≡ 13 → child_word (bs m) (hs m) (helped_third (bs m) (hs m) q) q.index ≢ helped_p (bs m) (hs m) q)
            → (r : ℕ) → ¬ ChildSwap s es m r
        nobody_swaps a c r w =
            no (subst (λ (p : ℕ). Swapping (bs m) (hs m) (taken (W m) p)) (sym (step_one n w.process (sym z ∙ w.event))) w.swapping)
          where
            no : Swapping (bs m) (hs m) q → ⊥
            no (seven p x) = a p x
            no (thirteen p x) = c p x

        go : Swapper hs bs m q (tables hs bs (suc m)) both_parts.0 → Kind s es m (hs m).k both_parts.0
        go (at_7 p x v f) = swap_of q.helped (known good.now q y 7 p).used.low (swaps_by (seven p x)) v f
        go (at_13 p x v f) = swap_of q.helped (known good.now q y 13 p).used.low (swaps_by (thirteen p x)) v f
        go (nobody a c v) = no_swap v (nobody_swaps a c)

  -- a start that is accepted
  module _ (n operation key : ℕ) (u : In (hs m).processes n) (z : event_at es m ≡ start n operation key) (low : 1 ≤ operation) (high : operation ≤ 3) (fin : key < infinity)
      (e : start_in (W m) n operation key ≡ start_done_in (W m) n operation key) where
    pub begun : W (suc m) ≡ put_back (W m) (bs m) n (started_as operation key)
    begun = state_next s es m (start n operation key) z ∙ ap (started_to (W m)) e

    pub same_shift : Shift hs bs m n (hs (suc m)) (bs (suc m))
    same_shift =
        shift_to {hs = hs} {bs = bs} {j = m} {h' = hs m} {b' = bs m} (ap (λ (x : State). header_of x.block) begun) (ap (λ (x : State). x.block) begun) (shift_self good.now n)

    begins : Good s es (suc m)
    unfolding pick both
    begins = record {
      now = next;
      rows = rows_next n (bs m) (started_as operation key) begun u same_shift.processes_same;
      each = λ p v. one p v (ℕ_discrete p n);
    }
      where
        next : Now hs bs (suc m)
        next = now_next good.now same_shift

        started_now : starts (W m) (start n operation key) n ≡ true
        started_now =
            ap (λ (t : Bool). both t (is_accepted (start_in (W m) n operation key).answer)) (eq-eqb n n refl) ∙ ap (λ (o : StartOut). both true (is_accepted o.answer)) e ∙ is
          where
            is : both true true ≡ true
            is = both_is refl refl

        since_now : since_at s es n (suc m) ≡ suc m
        since_now = since_next s es m n (start n operation key) true z started_now

        own : Busy hs bs (suc m) (suc m) n (started_as operation key)
        own = record {
          since = omega arith;
          place = subst (λ (x : ℕ). In x n) (sym same_shift.processes_same) u;
          held = held_root next;
          newer = newer_root;
          counters = counters_root low high fin (k_low next);
          knows = descends_root next (suc m) (mind_of (hs (suc m)) (bs (suc m)) n (started_as operation key)) (omega arith) refl refl;
        }

        one : (p : ℕ) → In (hs (suc m)).processes p → Dec (p ≡ n) → Doing s es (suc m) p
        one p v (yes d) =
            subst (λ (a : ℕ). Doing s es (suc m) a) (sym d)
            (works (subst (λ (a : Process). Busy hs bs (since_at s es n (suc m)) (suc m) n a) (sym (taken_own n (bs m) (started_as operation key) begun u))
            (subst (λ (a : ℕ). Busy hs bs a (suc m) n (started_as operation key)) (sym since_now) own)))
        one p v (no d) =
            doing_next same_shift p d (taken_other n (bs m) (started_as operation key) begun u p v.low d)
            (since_stays s es m p (start n operation key) z (ap (λ (t : Bool). both t (is_accepted (start_in (W m) n operation key).answer)) (ne_eqb n p (λ x. d (sym x))) ∙ false_both (is_accepted (start_in (W m) n operation key).answer)))
            (good.each p (place_back good.now same_shift v))

  go_on : (e : Event) → event_at es m ≡ e → Proper e → Good s es (suc m)
  go_on (step n) z x = go (calls.step_goes (W m) good.now.fit good.rows n)
    where
      refused : (r : ℕ) → step_in (W m) n ≡ step_refused_in (W m) r → Good s es (suc m)
      refused r e =
          still (state_next s es m (step n) z ∙ ap stepped_to e) (λ p. since_stays s es m p (step n) z refl)

      go : calls.Step (W m) good.now.fit good.rows n → Good s es (suc m)
      go (calls.unknown d e) = refused 4 e
      go (calls.rests u d e) = refused 8 e
      go (calls.works u d f) = let y = at_work d (good.each n u) in steps n u z y (f (step_sound good.now (taken (W m) n) y))
  go_on (start n operation key) z x = go (calls.start_goes (W m) good.now.fit good.rows n operation key)
    where
      go : calls.Start (W m) good.now.fit good.rows n operation key → Good s es (suc m)
      go (calls.refused r d e) =
          still (state_next s es m (start n operation key) z ∙ ap (started_to (W m)) e)
          (λ p. since_stays s es m p (start n operation key) z (ap (λ (o : StartOut). both (eqb n p) (is_accepted o.answer)) e ∙ both_false (eqb n p)))
      go (calls.accepted u a c d f e) = begins n operation key u z a c (omega arith) e

  pub good_next : Proper (event_at es m) → Good s es (suc m)
  good_next x = go_on (event_at es m) refl x

  move_by : (e : Event) → event_at es m ≡ e → Move s es m
  move_by (step n) z = go (calls.step_goes (W m) good.now.fit good.rows n)
    where
      same : (r : ℕ) → step_in (W m) n ≡ step_refused_in (W m) r → bs (suc m) ≡ bs m
      same r e = ap (λ (x : State). x.block) (state_next s es m (step n) z) ∙ ap (λ (o : StepOut). o.block) e

      here : (r : ℕ) (w : ChildSwap s es m r) → w.process ≡ n
      here r w = step_one w.process n (sym w.event ∙ z)

      go : calls.Step (W m) good.now.fit good.rows n → Move s es m
      go (calls.unknown d e) = rested (same 4 e) (λ r w. d (subst (λ (p : ℕ). In (hs m).processes p) (here r w) w.exists))
      go (calls.rests u d e) = rested (same 8 e) (λ r w. subst (λ (p : ℕ). (taken (W m) p).operation ≢ 0) (here r w) w.busy d)
      go (calls.works u d f) = let y = at_work d (good.each n u) in moved n u z y (f (step_sound good.now (taken (W m) n) y))
  move_by (start n operation key) z =
      rested (ap (λ (x : State). x.block) (state_next s es m (start n operation key) z)) (λ r w. start_step n operation key w.process (sym z ∙ w.event))

  pub move : Move s es m
  move = move_by (event_at es m) refl

-- every moment
pub good_always : {s : State} {es : List Event} → Good s es 0 → ((m : ℕ) → Proper (event_at es m)) → (m : ℕ) → Good s es m
good_always g p zero = g
good_always g p (suc m) = good_next (good_always g p m) (p m)
