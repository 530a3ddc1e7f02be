-- What an event does, in one of three ways: nothing; an accepted start; an accepted step.
use Prim.Native.Nat.{ℕ, suc}
use mathlib.Core.Path.{◌≡◌, refl, sym, ap, ◌∙◌}
use mathlib.Core.Logic.{◌≢◌}
use mathlib.Core.Bool.{Bool, true, false}
use mathlib.Core.List.{List}
use lib.Dec.{eqb}
use borrow.Author.Tests.{eq-eqb, ne_eqb}
use Rattle.tables.specs.Choice.{both}
use Rattle.tables.proofs.Picks.{both_is, both_false, false_both}
use Rattle.process.specs.Process.{started_as}
use Rattle.index.specs.Calls.{StartOut, StepOut}
use Rattle.history.specs.View.{In}
use Rattle.link.specs.Events.{Event, start, step, State, taken, start_in, step_in, event_at, state_at, block_at, header_at, is_accepted, starts, is_answered, stepped_by, since_at}
use Rattle.link.proofs.Moments.{Busy}
use Rattle.link.proofs.Stepping.{step_sound}
use Rattle.link.proofs.Calls as calls
use Rattle.link.proofs.Calls.{put_back, step_refused_in, step_done_in, stepped_to, started_to}
use Rattle.link.proofs.Reached.{Good, at_work, state_next}

pub data Outcome (s : State) (es : List Event) (m : ℕ) : Type 0 where
  nothing : state_at s es (suc m) ≡ state_at s es m → ((p : ℕ) → starts (state_at s es m) (event_at es m) p ≡ false)
      → ((p : ℕ) → stepped_by (state_at s es m) (event_at es m) p ≡ false) → Outcome s es m
  begun : (n operation key : ℕ) → In (header_at s es m).processes n → (taken (state_at s es m) n).operation ≡ 0 → event_at es m ≡ start n operation key
      → state_at s es (suc m) ≡ put_back (state_at s es m) (block_at s es m) n (started_as operation key) → starts (state_at s es m) (event_at es m) n ≡ true
      → ((p : ℕ) → p ≢ n → starts (state_at s es m) (event_at es m) p ≡ false) → ((p : ℕ) → stepped_by (state_at s es m) (event_at es m) p ≡ false) → Outcome s es m
  moved : (n : ℕ) → In (header_at s es m).processes n → event_at es m ≡ step n
      → Busy (header_at s es) (block_at s es) (since_at s es n m) m n (taken (state_at s es m) n)
      → step_in (state_at s es m) n ≡ step_done_in (state_at s es m) n
      → ((p : ℕ) → starts (state_at s es m) (event_at es m) p ≡ false) → stepped_by (state_at s es m) (event_at es m) n ≡ true
      → ((p : ℕ) → p ≢ n → stepped_by (state_at s es m) (event_at es m) p ≡ false) → Outcome s es m

module _ {s : State} {es : List Event} {m : ℕ} (good : Good s es m) where
  abbrev W : ℕ → State
  W = state_at s es

  by : (e : Event) → event_at es m ≡ e → Outcome s es m
  by (step n) z = go (calls.step_goes (W m) good.now.fit good.rows n)
    where
      no_start : (p : ℕ) → starts (W m) (event_at es m) p ≡ false
      no_start p = ap (λ (e : Event). starts (W m) e p) z

      refused : (r : ℕ) → step_in (W m) n ≡ step_refused_in (W m) r → Outcome s es m
      refused r e =
          nothing (state_next s es m (step n) z ∙ ap stepped_to e) no_start
          (λ p. ap (λ (x : Event). stepped_by (W m) x p) z ∙ ap (λ (o : StepOut). both (eqb n p) (is_answered o.answer)) e ∙ both_false (eqb n p))

      done : In (header_at s es m).processes n → Busy (header_at s es) (block_at s es) (since_at s es n m) m n (taken (W m) n)
          → step_in (W m) n ≡ step_done_in (W m) n → Outcome s es m
      done u y e =
          moved n u z y e no_start
          (ap (λ (x : Event). stepped_by (W m) x n) z ∙ both_is (eq-eqb n n refl) (ap (λ (o : StepOut). is_answered o.answer) e))
          (λ p d. ap (λ (x : Event). stepped_by (W m) x p) z ∙ ap (λ (t : Bool). both t (is_answered (step_in (W m) n).answer)) (ne_eqb n p (λ x. d (sym x))) ∙ false_both _)

      go : calls.Step (W m) good.now.fit good.rows n → Outcome s es m
      go (calls.unknown d e) = refused 4 e
      go (calls.rests u d e) = refused 8 e
      go (calls.works u d f) = let y = at_work d (good.each n u) in done u y (f (step_sound good.now (taken (W m) n) y))
  by (start n operation key) z = go (calls.start_goes (W m) good.now.fit good.rows n operation key)
    where
      no_step : (p : ℕ) → stepped_by (W m) (event_at es m) p ≡ false
      no_step p = ap (λ (e : Event). stepped_by (W m) e p) z

      go : calls.Start (W m) good.now.fit good.rows n operation key → Outcome s es m
      go (calls.refused r d e) =
          nothing (state_next s es m (start n operation key) z ∙ ap (started_to (W m)) e)
          (λ p. ap (λ (x : Event). starts (W m) x p) z ∙ ap (λ (o : StartOut). both (eqb n p) (is_accepted o.answer)) e ∙ both_false (eqb n p)) no_step
      go (calls.accepted u a c d f e) =
          begun n operation key u f z (state_next s es m (start n operation key) z ∙ ap (started_to (W m)) e)
          (ap (λ (x : Event). starts (W m) x n) z ∙ both_is (eq-eqb n n refl) (ap (λ (o : StartOut). is_accepted o.answer) e))
          (λ p d. ap (λ (x : Event). starts (W m) x p) z ∙ ap (λ (t : Bool). both t (is_accepted (start_in (W m) n operation key).answer)) (ne_eqb n p (λ x. d (sym x))) ∙ false_both _) no_step

  pub outcome : Outcome s es m
  outcome = by (event_at es m) refl
