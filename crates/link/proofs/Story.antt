-- The story of a busy process: the start that it goes back to, its steps counted, and the records that it has drawn since.
use Prim.Native.Nat.{ℕ, zero, suc, ◌+◌, ◌≤◌, ◌<◌}
use mathlib.Core.Path.{◌≡◌, refl, sym, ap, ◌∙◌, subst}
use mathlib.Core.Logic.{◌≢◌, ◌⊎◌, inl, inr}
use mathlib.Core.Bool.{Bool, true, false}
use mathlib.Core.List.{List}
use native.Mathlib.Omega.{arith}
use native.Mathlib.Decide.{ℕ_discrete, dec_le, dec_lt}
use borrow.Author.Tests.{lt-ltb, le-ltb}
use Rattle.tables.specs.Choice.{pick}
use Rattle.tables.specs.Header.{header_of}
use Rattle.tables.specs.declared.header.Header.{Header}
use Rattle.process.specs.declared.Process.{Process}
use Rattle.process.specs.declared.Stepped.{Stepped}
use Rattle.process.specs.Process.{started_as, with_steps}
use Rattle.process.specs.Answer.{most_steps, steps_up, going_on}
use Rattle.points.specs.Rows.{row_of}
use Rattle.link.proofs.Calls.{step_done_in}
use Rattle.history.specs.View.{In}
use Rattle.history.specs.Shared.{Desc, Shared, Failed}
use Rattle.history.proofs.Lasting.{failed_stays}
use Rattle.history.proofs.Knows.{own_failed}
use Rattle.link.specs.Events.{Event, start, step, State, taken, step_in, event_at, state_at, block_at, header_at, starts, stepped_by, steps_at, capped, since_at}
use Rattle.link.proofs.Minds.{mind_of}
use Rattle.link.proofs.Moments.{tables, Busy}
use Rattle.link.proofs.Searching.{known}
use Rattle.link.proofs.Reached.{since_next, since_stays, taken_own, taken_other, its_turn, its_shift, state_is, header_is}
use Rattle.link.proofs.Keeps.{OwnTo, same_own, new_own, no_own, Kept, goes, stops, kept}
use Rattle.link.proofs.Outcomes.{Outcome, nothing, begun, moved, outcome}
use Rattle.link.proofs.Clauses.{Reached, good, hk, sound, step_at, grows, processes_at}

pub record Story (s : State) (es : List Event) (m n : ℕ) : Type 0 where
  pub begin : ℕ
  pub since : since_at s es n m ≡ suc begin
  pub before : begin < m
  pub event : event_at es begin ≡ start n (taken (state_at s es m) n).operation (taken (state_at s es m) n).key
  pub accepted : starts (state_at s es begin) (event_at es begin) n ≡ true
  pub steps : (taken (state_at s es m) n).steps ≡ capped (steps_at s es n m)
  pub own : (taken (state_at s es m) n).own ≢ 0 → (tables (header_at s es) (block_at s es) (since_at s es n m)).records < (taken (state_at s es m) n).own
  pub past : (r : ℕ) → In (tables (header_at s es) (block_at s es) m).records r → (tables (header_at s es) (block_at s es) (since_at s es n m)).records < r
      → ((tables (header_at s es) (block_at s es) m).rec r).process ≡ n
      → (r ≡ (taken (state_at s es m) n).own) ⊎ Failed (tables (header_at s es) (block_at s es) m).view ((tables (header_at s es) (block_at s es) m).rec r) r

pub capped_up : (x : ℕ) → steps_up (capped x) ≡ capped (x + 1)
unfolding pick
capped_up x = go (dec_lt x most_steps) (dec_lt (x + 1) most_steps)
  where
    go : Dec (x < most_steps) → Dec (x + 1 < most_steps) → steps_up (capped x) ≡ capped (x + 1)
    go (yes a) (yes c) = rw (lt-ltb x most_steps a, lt-ltb x most_steps a, lt-ltb (x + 1) most_steps c) refl
    go (yes a) (no c) = rw (lt-ltb x most_steps a, lt-ltb x most_steps a, le-ltb (x + 1) most_steps (omega arith)) (omega arith)
    go (no a) c = rw (le-ltb x most_steps (omega arith), le-ltb (x + 1) most_steps (omega arith)) refl

pub steps_next : (s : State) (es : List Event) (m n : ℕ) (t u : Bool) → starts (state_at s es m) (event_at es m) n ≡ t → stepped_by (state_at s es m) (event_at es m) n ≡ u
    → steps_at s es n (suc m) ≡ pick t 0 (pick u (steps_at s es n m + 1) (steps_at s es n m))
unfolding steps_at
steps_next s es m n t u e f = rw (e, f) refl

module _ {s : State} {es : List Event} (reached : Reached s es) where
  abbrev W : ℕ → State
  W = state_at s es

  abbrev S : ℕ → Shared
  S = tables (header_at s es) (block_at s es)

  failed_on : (m r : ℕ) → In (S m).records r → Failed (S m).view ((S m).rec r) r → Failed (S (suc m)).view ((S (suc m)).rec r) r
  failed_on m r u f = failed_stays (hk reached) (sound reached m) r (step_at reached m) u f

  -- a process that the event leaves alone
  carried : (m n : ℕ) → taken (W (suc m)) n ≡ taken (W m) n → starts (W m) (event_at es m) n ≡ false → stepped_by (W m) (event_at es m) n ≡ false
      → ((r : ℕ) → (S m).records < r → r ≤ (S (suc m)).records → ((S (suc m)).rec r).process ≢ n) → Story s es m n → Story s es (suc m) n
  unfolding pick
  carried m n e f g drawn y = record {
    begin = y.begin;
    since = since_stays s es m n (event_at es m) refl f ∙ y.since;
    before = omega (arith, y.before);
    event = y.event ∙ ap (λ (q : Process). start n q.operation q.key) (sym e);
    accepted = y.accepted;
    steps = ap (λ (q : Process). q.steps) e ∙ y.steps ∙ ap capped (sym (steps_next s es m n false false f g));
    own = λ d. subst (λ (q : Process). (S (since_at s es n (suc m))).records < q.own) (sym e)
        (subst (λ (x : ℕ). (S x).records < (taken (W m) n).own) (sym (since_stays s es m n (event_at es m) refl f)) (y.own (λ z. d (ap (λ (q : Process). q.own) e ∙ z))));
    past = λ r u l p. go r u (subst (λ (x : ℕ). (S x).records < r) (since_stays s es m n (event_at es m) refl f) l) p (dec_le r (S m).records);
  }
    where
      go : (r : ℕ) → In (S (suc m)).records r → (S (since_at s es n m)).records < r → ((S (suc m)).rec r).process ≡ n → Dec (r ≤ (S m).records)
          → (r ≡ (taken (W (suc m)) n).own) ⊎ Failed (S (suc m)).view ((S (suc m)).rec r) r
      go r u l p (no d) = absurd (drawn r (omega arith) u.high p)
      go r u l p (yes d) = old (y.past r v l (ap (λ (x : Desc). x.process) (sym ((grows reached m (suc m) (omega arith)).rec_same r v)) ∙ p))
        where
          v : In (S m).records r
          v = omega (arith, u.low)

          old : (r ≡ (taken (W m) n).own) ⊎ Failed (S m).view ((S m).rec r) r → (r ≡ (taken (W (suc m)) n).own) ⊎ Failed (S (suc m)).view ((S (suc m)).rec r) r
          old (inl x) = inl (x ∙ ap (λ (q : Process). q.own) (sym e))
          old (inr x) = inr (failed_on m r v x)

  -- a start
  fresh_story : (m n operation key : ℕ) → event_at es m ≡ start n operation key → taken (W (suc m)) n ≡ started_as operation key → starts (W m) (event_at es m) n ≡ true
      → Story s es (suc m) n
  unfolding pick
  fresh_story m n operation key z e f = record {
    begin = m;
    since = since;
    before = omega arith;
    event = z ∙ ap (λ (q : Process). start n q.operation q.key) (sym e);
    accepted = f;
    steps = ap (λ (q : Process). q.steps) e ∙ ap capped (sym (steps_next s es m n true (stepped_by (W m) (event_at es m) n) f refl));
    own = λ d. absurd (d (ap (λ (q : Process). q.own) e));
    past = λ r u l p. absurd (let x : (S (suc m)).records < r = subst (λ (a : ℕ). (S a).records < r) since l in omega (arith, u.high));
  }
    where
      since : since_at s es n (suc m) ≡ suc m
      since = since_next s es m n (event_at es m) true refl f

  -- a step of its own
  module _ (m n : ℕ) (u : In (header_at s es m).processes n) (z : event_at es m ≡ step n) (b : Busy (header_at s es) (block_at s es) (since_at s es n m) m n (taken (W m) n))
      (e : step_in (W m) n ≡ step_done_in (W m) n) (f : starts (W m) (event_at es m) n ≡ false)
      (g : stepped_by (W m) (event_at es m) n ≡ true) (y : Story s es m n) where
    abbrev q : Process
    q = taken (W m) n

    abbrev row_stepped : Stepped
    row_stepped = (row_of (block_at s es m) (header_at s es m) n q).stepped

    own_now : taken (W (suc m)) n ≡ row_stepped.process
    own_now = taken_own (good reached m) n (row_of (block_at s es m) (header_at s es m) n q).block row_stepped.process (state_is (good reached m) n u z b e) u

    -- the own record of a process that gives it up at 10 has failed
    given_up : q.point ≡ 10 → q.own ≢ 0 → Failed (S m).view ((S m).rec q.own) q.own
    given_up x d =
        let w = known (good reached m).now q b 10 x in
        own_failed {M = mind_of (header_at s es m) (block_at s es m) n q} w.stacked w.own (b.counters.ten x) d

    records_is : (header_at s es (suc m)).recordsused ≡ (its_turn (good reached m) n u z b e).h'.recordsused
    records_is = ap (λ (x : Header). x.recordsused) (header_is (good reached m) n u z b e)

    advanced : (q' : Process) → row_stepped ≡ going_on q' → q'.steps ≡ q.steps → q'.operation ≡ q.operation → q'.key ≡ q.key → OwnTo (header_at s es m) q q'
        → Story s es (suc m) n
    unfolding pick
    advanced q' x st op ky ow = record {
      begin = y.begin;
      since = since_stays s es m n (event_at es m) refl f ∙ y.since;
      before = omega (arith, y.before);
      event =
          y.event
          ∙ sym (ap (λ (a : Process). start n a.operation a.key) is ∙ ap (λ (a : ℕ). start n a q'.key) op ∙ ap (λ (a : ℕ). start n q.operation a) ky);
      accepted = y.accepted;
      steps =
          ap (λ (a : Process). a.steps) is ∙ ap steps_up (st ∙ y.steps) ∙ capped_up (steps_at s es n m) ∙ ap capped (sym (steps_next s es m n false true f g));
      own = λ d. subst (λ (a : ℕ). (S a).records < (taken (W (suc m)) n).own) (sym (since_stays s es m n (event_at es m) refl f))
          (subst (λ (a : Process). (S (since_at s es n m)).records < a.own) (sym is) (own_late ow (λ v. d (ap (λ (a : Process). a.own) is ∙ v))));
      past = λ r v l p. past r v (subst (λ (a : ℕ). (S a).records < r) (since_stays s es m n (event_at es m) refl f) l) p (dec_le r (S m).records);
    }
      where
        is : taken (W (suc m)) n ≡ with_steps q' (steps_up q'.steps)
        is = own_now ∙ ap (λ (t : Stepped). t.process) x

        more : (S (since_at s es n m)).records ≤ (S m).records
        more = (grows reached (since_at s es n m) m b.since).records_more

        own_late : OwnTo (header_at s es m) q q' → q'.own ≢ 0 → (S (since_at s es n m)).records < q'.own
        own_late (same_own v) d = subst (λ (a : ℕ). (S (since_at s es n m)).records < a) (sym v) (y.own (λ a. d (v ∙ a)))
        own_late (new_own l v) d = omega (arith, more)
        own_late (no_own v w) d = absurd (d v)

        past : (r : ℕ) → In (S (suc m)).records r → (S (since_at s es n m)).records < r → ((S (suc m)).rec r).process ≡ n → Dec (r ≤ (S m).records)
            → (r ≡ (taken (W (suc m)) n).own) ⊎ Failed (S (suc m)).view ((S (suc m)).rec r) r
        past r v l p (no d) =
            inl (sym (ap (λ (a : Process). a.own) own_now ∙ ((its_turn (good reached m) n u z b e).drawn_as r (omega arith) (omega (arith, v.high, records_is))).0))
        past r v l p (yes d) = old (y.past r w l (ap (λ (a : Desc). a.process) (sym ((grows reached m (suc m) (omega arith)).rec_same r w)) ∙ p))
          where
            w : In (S m).records r
            w = omega (arith, v.low)

            gone : r ≡ q.own → (q.own ≡ 0) ⊎ ((q.point ≡ 10) ⊎ (q.point ≤ 5)) → Failed (S (suc m)).view ((S (suc m)).rec r) r
            gone a (inl c) = absurd (omega (arith, w.low))
            gone a (inr (inl c)) =
                failed_on m r w (subst (λ (o : ℕ). Failed (S m).view ((S m).rec o) o) (sym a) (given_up c (λ o. omega (arith, w.low))))
            gone a (inr (inr c)) = absurd (omega (arith, w.low, b.counters.early_own c))

            kept_own : OwnTo (header_at s es m) q q' → r ≡ q.own → (r ≡ (taken (W (suc m)) n).own) ⊎ Failed (S (suc m)).view ((S (suc m)).rec r) r
            kept_own (same_own c) a = inl (a ∙ sym c ∙ ap (λ (o : Process). o.own) (sym is))
            kept_own (new_own c o) a = absurd (omega (arith, w.low, b.counters.early_own c))
            kept_own (no_own c o) a = inr (gone a o)

            old : (r ≡ q.own) ⊎ Failed (S m).view ((S m).rec r) r → (r ≡ (taken (W (suc m)) n).own) ⊎ Failed (S (suc m)).view ((S (suc m)).rec r) r
            old (inl a) = kept_own ow a
            old (inr a) = inr (failed_on m r w a)

    advances : (taken (W (suc m)) n).operation ≢ 0 → Story s es (suc m) n
    advances d = go (kept (block_at s es m) (header_at s es m) n q b.counters.point_low b.counters.point_high)
      where
        go : Kept (header_at s es m) q row_stepped → Story s es (suc m) n
        go (goes q' x st op ky ow) = advanced q' x st op ky ow
        go (stops a x) = absurd (d (ap (λ (v : Process). v.operation) (own_now ∙ ap (λ (t : Stepped). t.process) x)))

  no_draw : (m n : ℕ) → block_at s es (suc m) ≡ block_at s es m → (r : ℕ) → (S m).records < r → r ≤ (S (suc m)).records → ((S (suc m)).rec r).process ≢ n
  no_draw m n e r a c = absurd (let x : (S (suc m)).records ≡ (S m).records = ap (λ (v : List ℕ). (header_of v).recordsused) e in omega arith)

  -- every busy process has one
  pub story : (m n : ℕ) → In (header_at s es m).processes n → (taken (W m) n).operation ≢ 0 → Story s es m n
  unfolding state_at
  story zero n u d = absurd (d (reached.settled.idle_all n u))
  story (suc m) n u d = go (outcome (good reached m)) (λ (x : (taken (W m) n).operation ≢ 0). story m n back x)
    where
      back : In (header_at s es m).processes n
      back = subst (λ (x : ℕ). In x n) (processes_at reached (suc m) ∙ sym (processes_at reached m)) u

      busy_before : taken (W (suc m)) n ≡ taken (W m) n → (taken (W m) n).operation ≢ 0
      busy_before e x = d (ap (λ (q : Process). q.operation) e ∙ x)

      go : Outcome s es m → ((taken (W m) n).operation ≢ 0 → Story s es m n) → Story s es (suc m) n
      go (nothing e f g) ih =
          let t = ap (λ (x : State). taken x n) e in
          carried m n t (f n) (g n) (no_draw m n (ap (λ (x : State). x.block) e)) (ih (busy_before t))
      go (begun p operation key v o z e f f' g) ih = at (ℕ_discrete n p)
        where
          at : Dec (n ≡ p) → Story s es (suc m) n
          at (yes a) =
              subst (λ (x : ℕ). Story s es (suc m) x) (sym a) (fresh_story m p operation key z (taken_own (good reached m) p (block_at s es m) (started_as operation key) e v) f)
          at (no a) =
              let t = taken_other (good reached m) p (block_at s es m) (started_as operation key) e v n u.low a in
              carried m n t (f' n a) (g n) (no_draw m n (ap (λ (x : State). x.block) e)) (ih (busy_before t))
      go (moved p v z b e f g g') ih = at (ℕ_discrete n p)
        where
          at : Dec (n ≡ p) → Story s es (suc m) n
          at (yes a) =
              subst (λ (x : ℕ). Story s es (suc m) x) (sym a)
              (advances m p v z b e (f p) g (subst (λ (x : ℕ). Story s es m x) a (ih (λ x. works_on (subst (λ (c : ℕ). (taken (W m) c).operation ≡ 0) a x)))) (subst (λ (x : ℕ). (taken (W (suc m)) x).operation ≢ 0) a d))
            where
              works_on : (taken (W m) p).operation ≡ 0 → ⊥
              works_on x = omega (arith, b.counters.op_low)
          at (no a) =
              let t = taken_other (good reached m) p (row_of (block_at s es m) (header_at s es m) p (taken (W m) p)).block
              (row_of (block_at s es m) (header_at s es m) p (taken (W m) p)).stepped.process (state_is (good reached m) p v z b e) v n u.low a in
              carried m n t (f n) (g' n a) (λ r x c y. a (sym y ∙ (its_shift (good reached m) p v z b e).drawn_by r x c)) (ih (busy_before t))
