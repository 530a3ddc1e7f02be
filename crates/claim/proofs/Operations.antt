-- Operations over a list of events: the start that a busy process goes back to, the draws of its records, and that nothing of it comes after its answer.
use Prim.Native.Nat.{ℕ, zero, suc, ◌+◌, ◌≤◌, ◌<◌}
use mathlib.Core.Path.{◌≡◌, refl, sym, ap, ◌∙◌, subst}
use mathlib.Core.Logic.{◌≢◌}
use mathlib.Core.Bool.{Bool, true, false}
use mathlib.Core.List.{List}
use native.Mathlib.Omega.{arith}
use native.Mathlib.Decide.{ℕ_discrete, dec_lt}
use lib.Dec.{eqb}
use borrow.Author.Tests.{eqb-true}
use Rattle.std.specs.Prelude.{Ok}
use Rattle.tables.specs.Choice.{pick}
use Rattle.tables.proofs.Picks.{both_1, both_2}
use Rattle.process.specs.declared.Process.{Process}
use Rattle.process.specs.declared.Answer.{Answer}
use Rattle.process.specs.declared.Progress.TheVariants.{GoesOn, Ended}
use Rattle.process.specs.declared.Stepped.{Stepped}
use Rattle.process.specs.Process.{started_as}
use Rattle.process.specs.Answer.{going_on}
use Rattle.points.specs.Rows.{row_of}
use Rattle.index.specs.Calls.{StepOut}
use Rattle.history.specs.View.{In}
use Rattle.history.specs.Shared.{Desc, Shared, Stands, stands_replace, stands_prune}
use Rattle.history.specs.Change.{draw_replace, draw_prune, swap_replace, unflag_replace, mark, swap_prune, unflag_prune}
use Rattle.history.specs.Run.{Step, changes, rests}
use Rattle.link.specs.Events.{Event, start, step, State, taken, start_in, step_in, event_at, state_at, block_at, header_at, is_accepted, starts, since_at}
use Rattle.link.specs.Operations.{Started, BusyWith, Draws, OperationOf, Answered}
use Rattle.link.proofs.Moments.{tables, Follows, already, afterwards, answers}
use Rattle.link.proofs.Reached.{step_one, taken_own, taken_other, state_is}
use Rattle.link.proofs.Stepping.{turn}
use Rattle.link.proofs.Outcomes.{Outcome, nothing, begun, moved, outcome}
use Rattle.link.proofs.Becoming.{accepts}
use Rattle.link.proofs.Clauses.{Reached, good, step_at, grows, processes_at}
use Rattle.link.proofs.Story.{Story, story}
use Rattle.link.proofs.Answers.{one_ok, answer_steps, Drawn}
use Rattle.link.proofs.Origins.{NewAt, new_drawn, comes}
use Rattle.link.proofs.Owners.{owned}

pub start_same : (n n' o o' x x' : ℕ) → start n o x ≡ start n' o' x' → (n ≡ n') × (o ≡ o') × (x ≡ x')
start_same n n' o o' x x' e = (cc, cc, cc)

-- event i is an accepted start of process n
pub record StartAt (s : State) (es : List Event) (i n : ℕ) : Type 0 where
  pub operation : ℕ
  pub key : ℕ
  pub started : Started s es i n operation key
  pub starts_it : starts (state_at s es i) (event_at es i) n ≡ true

module _ (s : State) (es : List Event) where
  start_at : (i n : ℕ) → starts (state_at s es i) (event_at es i) n ≡ true → StartAt s es i n
  start_at i n e = go (event_at es i) refl (e)
    where
      go : (x : Event) → event_at es i ≡ x → starts (state_at s es i) x n ≡ true → StartAt s es i n
      go (start p o x) z f =
          let same : p ≡ n = eqb-true p n (both_1 (eqb p n) (is_accepted (start_in (state_at s es i) p o x).answer) f) in
          record {
            operation = o;
            key = x;
            started = record {
              event = z ∙ ap (λ (y : ℕ). start y o x) same;
              accepted = subst (λ (y : ℕ). (start_in (state_at s es i) y o x).answer ≡ Ok tt) same (accepts (start_in (state_at s es i) p o x).answer (both_2 (eqb p n) (is_accepted (start_in (state_at s es i) p o x).answer) f));
            };
            starts_it = e;
          }
      go (step p) z f = let v : ◌≡◌ {A = ℕ} 0 1 = cc in absurd (omega arith)

  -- the last accepted start is one, and lies before
  pub since_start : (m n i : ℕ) → since_at s es n m ≡ suc i → StartAt s es i n × (i < m)
  unfolding since_at pick
  since_start zero n i e = absurd (omega arith)
  since_start (suc m) n i e = go (starts (state_at s es m) (event_at es m) n) refl e (λ z. since_start m n i z)
    where
      go : (t : Bool) → starts (state_at s es m) (event_at es m) n ≡ t → pick t (suc m) (since_at s es n m) ≡ suc i → (since_at s es n m ≡ suc i → StartAt s es i n × (i < m)) → StartAt s es i n × (i < suc m)
      go true f z r = let x : m ≡ i = omega arith in (start_at i n (subst (λ (y : ℕ). starts (state_at s es y) (event_at es y) n ≡ true) x f), omega arith)
      go false f z r = let w = r z in (w.0, omega (arith, w.1))

  -- from the last accepted start on, it stays the last one
  pub since_between : (m n t : ℕ) → since_at s es n m ≤ t → t ≤ m → since_at s es n t ≡ since_at s es n m
  unfolding since_at pick
  since_between zero n t a c = let z : t ≡ 0 = omega arith in ap (since_at s es n) z
  since_between (suc m) n t a c = go (starts (state_at s es m) (event_at es m) n) refl (ℕ_discrete t (suc m)) (λ l h. since_between m n t l h)
    where
      go : (u : Bool) → starts (state_at s es m) (event_at es m) n ≡ u → Dec (t ≡ suc m) → (since_at s es n m ≤ t → t ≤ m → since_at s es n t ≡ since_at s es n m) → since_at s es n t ≡ since_at s es n (suc m)
      go u f (yes z) r = ap (since_at s es n) z
      go true f (no z) r = absurd (z (omega (arith, low)))
        where
          low : suc m ≤ t
          low = subst (λ (x : Bool). pick x (suc m) (since_at s es n m) ≤ t) f a
      go false f (no z) r = r low (omega arith) ∙ sym (ap (λ (x : Bool). pick x (suc m) (since_at s es n m)) f)
        where
          low : since_at s es n m ≤ t
          low = subst (λ (x : Bool). pick x (suc m) (since_at s es n m) ≤ t) f a

module _ {s : State} {es : List Event} (reached : Reached s es) where
  abbrev W : ℕ → State
  W = state_at s es

  abbrev S : ℕ → Shared
  S = tables (header_at s es) (block_at s es)

  -- a process with an accepted start exists
  pub started_place : (m n i : ℕ) → since_at s es n m ≡ suc i → In (header_at s es m).processes n
  started_place m n i e = go (outcome (good reached i))
    where
      at : StartAt s es i n
      at = (since_start s es m n i e).0

      here : In (header_at s es i).processes n → In (header_at s es m).processes n
      here = subst (λ (x : ℕ). In x n) (processes_at reached i ∙ sym (processes_at reached m))

      is : event_at es i ≡ start n at.operation at.key
      is = at.started.event

      go : Outcome s es i → In (header_at s es m).processes n
      go (nothing e' f g) = absurd (let v : true ≡ false = sym at.starts_it ∙ f n in let x : ◌≡◌ {A = ℕ} 0 1 = cc in omega arith)
      go (begun p o x u z v w f f' g) = here (subst (λ (y : ℕ). In (header_at s es i).processes y) (start_same p n o at.operation x at.key (sym v ∙ is)).0 u)
      go (moved p u z y w f g g') = absurd (let v : step p ≡ start n at.operation at.key = sym z ∙ is in let x : ◌≡◌ {A = ℕ} 0 1 = cc in omega arith)

  -- what its record says then
  pub busy_story : (m n i : ℕ) → BusyWith s es m n i → Story s es m n
  busy_story m n i b = story reached m n (started_place m n i b.last) b.busy

  pub busy_is : (m n i o x : ℕ) → Started s es i n o x → BusyWith s es m n i → ((taken (W m) n).operation ≡ o) × ((taken (W m) n).key ≡ x)
  busy_is m n i o x a b =
      let y = busy_story m n i b in
      let same : y.begin ≡ i = omega (arith, y.since, b.last) in
      let e : start n (taken (W m) n).operation (taken (W m) n).key ≡ start n o x = sym y.event ∙ ap (event_at es) same ∙ a.event in
      ((start_same n n (taken (W m) n).operation o (taken (W m) n).key x e).1, (start_same n n (taken (W m) n).operation o (taken (W m) n).key x e).2)

  -- a record is drawn once
  pub draw_once : (t t' n n' r : ℕ) → Draws s es t n r → Draws s es t' n' r → t ≡ t'
  draw_once t t' n n' r d d' = go (dec_lt t t') (dec_lt t' t)
    where
      after : (a c x y : ℕ) → Draws s es a x r → Draws s es c y r → a < c → ⊥
      after a c x y e f l = omega (arith, e.counted, f.next, (grows reached (suc a) c l).records_more)

      go : Dec (t < t') → Dec (t' < t) → t ≡ t'
      go (yes a) c = absurd (after t t' n n' d d' a)
      go (no a) (yes c) = absurd (after t' t n' n d' d c)
      go (no a) (no c) = omega arith

  -- a record has one operation
  pub one_operation : (r i i' : ℕ) → OperationOf s es r i → OperationOf s es r i' → i ≡ i'
  one_operation r i i' a b =
      let t : a.when ≡ b.when = draw_once a.when b.when a.process b.process r a.draws b.draws in
      let e : step a.process ≡ step b.process = sym a.draws.event ∙ ap (event_at es) t ∙ b.draws.event in
      let n : a.process ≡ b.process = step_one a.process b.process e in
      let z : since_at s es a.process a.when ≡ since_at s es b.process b.when = ap (λ (y : ℕ). since_at s es y a.when) n ∙ ap (since_at s es b.process) t in
      omega (arith, a.busy.last, b.busy.last)

  -- each record drawn since the beginning has one: the draw, and the start behind it
  pub its_operation : (m r : ℕ) (u : NewAt s es m r) → BusyWith s es (comes reached m r u).when (comes reached m r u).n (story reached (comes reached m r u).when (comes reached m r u).n (comes reached m r u).place (comes reached m r u).busy).begin
  its_operation m r u = record {
    last = (story reached (comes reached m r u).when (comes reached m r u).n (comes reached m r u).place (comes reached m r u).busy).since;
    busy = (comes reached m r u).busy;
  }

  pub draws_it : (m r : ℕ) (u : NewAt s es m r) → Draws s es (comes reached m r u).when (comes reached m r u).n r
  draws_it m r u = record { event = (comes reached m r u).event; next = sym (comes reached m r u).next; counted = (comes reached m r u).counted }

  -- a draw leaves its process busy with the same operation
  stands_new : (t n r : ℕ) → Draws s es t n r → Stands (S (suc t)).view ((S (suc t)).rec r) r
  stands_new t n r d = go (step_at reached t)
    where
      more : (S (suc t)).records ≡ (S t).records → ⊥
      more e = omega (arith, d.next, d.counted)

      go : Step (header_at s es 0).k (S t) (S (suc t)) → Stands (S (suc t)).view ((S (suc t)).rec r) r
      go (changes (draw_replace q p w)) =
          let z : q ≡ r = sym w.record_new.counted ∙ d.counted in
          subst (λ (y : ℕ). Stands (S (suc t)).view ((S (suc t)).rec y) y) z
          (stands_replace (ap (λ (v : Desc). v.kind) w.record_new.words) (ap (S (suc t)).view.pend (ap (λ (v : Desc). v.p) w.record_new.words) ∙ w.flag.pend_new))
      go (changes (draw_prune q gp w)) =
          let z : q ≡ r = sym w.record_new.counted ∙ d.counted in
          subst (λ (y : ℕ). Stands (S (suc t)).view ((S (suc t)).rec y) y) z
          (stands_prune (ap (λ (v : Desc). v.kind) w.record_new.words) (ap (S (suc t)).view.pend (ap (λ (v : Desc). v.third) w.record_new.words) ∙ w.flag.pend_new))
      go (changes (swap_replace q i h kd a e w same)) = absurd (more same.records_same)
      go (changes (unflag_replace q h kd e x w same)) = absurd (more same.records_same)
      go (changes (mark q h kd e w same)) = absurd (more same.records_same)
      go (changes (swap_prune q i other h kd mk j sj ej full x a e w same)) = absurd (more same.records_same)
      go (changes (unflag_prune q h kd e x w same)) = absurd (more same.records_same)
      go (rests e) = absurd (more e.tables.records_same)

  used_new : (t n r : ℕ) → Draws s es t n r → In (S (suc t)).records r
  used_new t n r d = record { low = omega (arith, d.next); high = omega (arith, d.counted) }

  -- the record says whose it is
  draw_process : (t n r : ℕ) → Draws s es t n r → ((S (suc t)).rec r).process ≡ n
  draw_process t n r d =
      let c = comes reached (suc t) r (new_drawn reached t n r d) in
      let z : c.when ≡ t = draw_once c.when t c.n n r (draws_it (suc t) r (new_drawn reached t n r d)) d in
      c.process ∙ step_one c.n n (sym c.event ∙ ap (event_at es) z ∙ d.event)

  pub still_busy : (t n r i : ℕ) → Draws s es t n r → BusyWith s es t n i → BusyWith s es (suc t) n i
  unfolding since_at pick
  still_busy t n r i d b = record {
    last = ap (λ (e : Event). pick (starts (W t) e n) (suc t) (since_at s es n t)) d.event ∙ b.last;
    busy = subst (λ (y : ℕ). (taken (W (suc t)) y).operation ≢ 0) (draw_process t n r d) (owned reached (suc t) r (used_new t n r d) (stands_new t n r d)).busy;
  }

  -- what a draw since a moment makes of a record later
  pub drawn_late : (t m n r i : ℕ) → Draws s es t n r → suc i ≤ t → t < m → since_at s es n m ≡ suc i → Drawn s es (since_at s es n m) m n r
  drawn_late t m n r i d low high last = record {
    used = record { low = omega (arith, d.next); high = omega (arith, d.counted, (grows reached (suc t) m high).records_more) };
    late = omega (arith, d.next, (grows reached (since_at s es n m) t (omega arith)).records_more);
    process = ap (λ (v : Desc). v.process) ((grows reached (suc t) m high).rec_same r (used_new t n r d)) ∙ draw_process t n r d;
  }

  -- an answer leaves its process idle
  answer_idles : (m n : ℕ) (a : Answer) (c : ℕ) → Answered s es m n a c → (taken (W (suc m)) n).operation ≡ 0
  answer_idles m n a c x = go (outcome (good reached m))
    where
      go : Outcome s es m → (taken (W (suc m)) n).operation ≡ 0
      go (nothing e f g) = absurd (let v : true ≡ false = sym (answer_steps x) ∙ g n in let z : ◌≡◌ {A = ℕ} 0 1 = cc in omega arith)
      go (begun p o y u z v w f f' g) = absurd (let d : start p o y ≡ step n = sym v ∙ x.event in let z : ◌≡◌ {A = ℕ} 0 1 = cc in omega arith)
      go (moved p u z y e f g g') = subst (λ (q : ℕ). (taken (W (suc m)) q).operation ≡ 0) same (by (turn (good reached m).now (taken (W m) p) y).follows)
        where
          same : p ≡ n
          same = step_one p n (sym z ∙ x.event)

          says : (step_in (W m) p).answer ≡ Ok (Ended a c)
          says = subst (λ (q : ℕ). (step_in (W m) q).answer ≡ Ok (Ended a c)) (sym same) x.answer

          on : (q : Process) → (row_of (block_at s es m) (header_at s es m) p (taken (W m) p)).stepped ≡ going_on q → ⊥
          on q r = let v : GoesOn ≡ Ended a c = sym (ap (λ (o : Stepped). o.progress) r) ∙ one_ok (sym (ap (λ (o : StepOut). o.answer) e) ∙ says) in let w : ◌≡◌ {A = ℕ} 0 1 = cc in omega arith

          own : taken (W (suc m)) p ≡ (row_of (block_at s es m) (header_at s es m) p (taken (W m) p)).stepped.process
          own =
              taken_own (good reached m) p (row_of (block_at s es m) (header_at s es m) p (taken (W m) p)).block
              (row_of (block_at s es m) (header_at s es m) p (taken (W m) p)).stepped.process (state_is (good reached m) p u z y e) u

          by : Follows (header_at s es) (block_at s es) (since_at s es p m) m p (turn (good reached m).now (taken (W m) p) y).h'
              (row_of (block_at s es m) (header_at s es m) p (taken (W m) p)).block (taken (W m) p) (row_of (block_at s es m) (header_at s es m) p (taken (W m) p)).stepped → (taken (W (suc m)) p).operation ≡ 0
          by (already q r fr a₁ a₂ a₃ a₄) = absurd (on q r)
          by (afterwards q r fr a₁ a₂ a₃ a₄ a₅) = absurd (on q r)
          by (answers d r fr a₁) = ap (λ (q : Process). q.operation) own ∙ ap (λ (o : Stepped). o.process.operation) r

  -- an idle process stays idle until its next accepted start
  stays_idle : (t n i : ℕ) → since_at s es n t ≡ suc i → since_at s es n (suc t) ≡ suc i → (taken (W t) n).operation ≡ 0 → (taken (W (suc t)) n).operation ≡ 0
  unfolding since_at pick
  stays_idle t n i a c e = go (outcome (good reached t))
    where
      low : In (header_at s es t).processes n
      low = started_place t n i a

      go : Outcome s es t → (taken (W (suc t)) n).operation ≡ 0
      go (nothing f g j) = ap (λ (x : State). (taken x n).operation) f ∙ e
      go (begun p o x u z v w f f' g) = by (ℕ_discrete n p)
        where
          by : Dec (n ≡ p) → (taken (W (suc t)) n).operation ≡ 0
          by (yes d) = absurd (omega (arith, c, a, before, now))
            where
              now : since_at s es n (suc t) ≡ suc t
              now = ap (λ (y : Bool). pick y (suc t) (since_at s es n t)) (subst (λ (y : ℕ). starts (W t) (event_at es t) y ≡ true) (sym d) f)

              before : i < t
              before = (since_start s es t n i a).1
          by (no d) = ap (λ (q : Process). q.operation) (taken_other (good reached t) p (block_at s es t) (started_as o x) w u n low.low d) ∙ e
      go (moved p u z y w f g g') = by (ℕ_discrete n p)
        where
          by : Dec (n ≡ p) → (taken (W (suc t)) n).operation ≡ 0
          by (yes d) = absurd (omega (arith, subst (λ (q : ℕ). (taken (W t) q).operation ≡ 0) d e, y.counters.op_low))
          by (no d) =
              ap (λ (q : Process). q.operation) (taken_other (good reached t) p (row_of (block_at s es t) (header_at s es t) p (taken (W t) p)).block
              (row_of (block_at s es t) (header_at s es t) p (taken (W t) p)).stepped.process (state_is (good reached t) p u z y w) u n low.low d) ∙ e

  -- after its answer no moment is busy with an operation
  pub ended : (m n i : ℕ) (a : Answer) (c : ℕ) → Answered s es m n a c → since_at s es n m ≡ suc i → (d : ℕ) → since_at s es n (suc m + d) ≡ suc i → (taken (W (suc m + d)) n).operation ≡ 0
  ended m n i a c x last zero e = subst (λ (t : ℕ). (taken (W t) n).operation ≡ 0) (omega arith) (answer_idles m n a c x)
  ended m n i a c x last (suc d) e =
      let up : suc m + suc d ≡ suc (suc m + d) = omega arith in
      let e' : since_at s es n (suc (suc m + d)) ≡ suc i = ap (since_at s es n) (sym up) ∙ e in
      let before : since_at s es n (suc m + d) ≡ suc i =
      since_between s es (suc (suc m + d)) n (suc m + d) (omega (arith, (since_start s es m n i last).1)) (omega arith) ∙ e' in
      subst (λ (t : ℕ). (taken (W t) n).operation ≡ 0) (sym up) (stays_idle (suc m + d) n i before e' (ended m n i a c x last d before))
