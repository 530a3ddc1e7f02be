-- Over all lists of events from a settled state: never damaged, search order, and what changes child words and the set.
use Prim.Native.Nat.{ℕ, suc, ◌+◌, ◌≤◌}
use mathlib.Core.Path.{◌≡◌, sym, ap, ◌∙◌, subst}
use mathlib.Core.Logic.{◌≢◌, ◌⊎◌, inl, inr}
use mathlib.Core.List.{List, Memᴰ}
use native.Mathlib.Omega.{arith}
use lib.ListN.{length}
use Rattle.std.specs.Prelude.{Err}
use Rattle.tables.specs.Refusal.{number_of, refusal}
use Rattle.tables.specs.declared.header.Header.{Header}
use Rattle.tables.specs.declared.numbers.Refusal.{Refusal}
use Rattle.tables.specs.declared.numbers.Refusal.TheVariants.{NoSuchProcess, Idle}
use Rattle.process.specs.declared.Process.{Process}
use Rattle.process.specs.declared.Answer.{Answer}
use Rattle.process.specs.declared.Progress.TheVariants.{GoesOn, Ended}
use Rattle.process.specs.declared.Stepped.{Stepped}
use Rattle.process.specs.Answer.{steps_up}
use Rattle.points.proofs.Refusals.{one_err, ok_not}
use Rattle.index.specs.Calls.{StartOut, StepOut}
use Rattle.history.specs.View.{In, route, keys, Reach, Below}
use Rattle.history.specs.Shared.{Shared}
use Rattle.history.specs.Effects.{SameSet, SetMoves, Grown, Swapped}
use Rattle.history.specs.Run.{Step, Run, SwapAt, step_swaps}
use Rattle.history.proofs.Invariant.{Sound}
use Rattle.history.proofs.SearchOrder.{figure_3}
use Rattle.history.proofs.ChildWords.{kids_same}
use Rattle.history.proofs.SetLaws.{step_set_same, step_set_swap}
use Rattle.history.proofs.Runs.{sound_at, grown_at}
use Rattle.history.proofs.Swapping.{SwapBetween, one_swap}
use Rattle.link.specs.Events.{Event, State, taken, start_in, step_in, event_at, state_at, block_at, header_at, Proper}
use Rattle.link.specs.Swaps.{ChildSwap}
use Rattle.link.specs.Operations.{NoStep, step_of_none, step_of_idle, NoStart}
use Rattle.link.proofs.Moments.{tables, Why, Follows, already, afterwards, answers, k_low}
use Rattle.link.proofs.Stepping.{step_sound}
use Rattle.link.proofs.Calls as calls
use Rattle.link.proofs.Constants.{constant}
use Rattle.link.proofs.Reached.{Good, at_work, step_one, Kind, no_swap, swap_of, move, good_always}
use Rattle.link.proofs.Beginning.{Settled, good_settled}

-- a step of a busy process goes on or ends
pub stepped_says : {hs : ℕ → Header} {bs : ℕ → List ℕ} {i j n : ℕ} {h' : Header} {b' : List ℕ} {q : Process} {s : Stepped} → Follows hs bs i j n h' b' q s
    → (s.progress ≡ GoesOn) ⊎ ((a : Answer) × (s.progress ≡ Ended a (steps_up q.steps)) × Why (hs j).k (tables hs bs) i j n q a)
stepped_says (already q' e fr x v y z) = inl (ap (λ (t : Stepped). t.progress) e)
stepped_says (afterwards q' e fr x v y l z) = inl (ap (λ (t : Stepped). t.progress) e)
stepped_says (answers a e fr w) = inr (a, ap (λ (t : Stepped). t.progress) e, w)

-- a settled state, then events whose keys are words of 32 bits
pub record Reached (s : State) (es : List Event) : Type 0 where
  pub settled : Settled s
  pub proper : (m : ℕ) → Proper (event_at es m)

module _ {s : State} {es : List Event} (reached : Reached s es) where
  abbrev W : ℕ → State
  W = state_at s es

  abbrev hs : ℕ → Header
  hs = header_at s es

  abbrev bs : ℕ → List ℕ
  bs = block_at s es

  abbrev S : ℕ → Shared
  S = tables hs bs

  abbrev k : ℕ
  k = (header_at s es 0).k

  pub good : (m : ℕ) → Good s es m
  good m = good_always (good_settled es reached.settled) reached.proper m

  -- k, the processes, the limits and the lengths of block and row are those of the beginning
  pub k_at : (m : ℕ) → (hs m).k ≡ k
  unfolding state_at
  k_at m = (constant s es m).k

  pub processes_at : (m : ℕ) → (hs m).processes ≡ (hs 0).processes
  unfolding state_at
  processes_at m = (constant s es m).processes

  pub nodes_at : (m : ℕ) → (hs m).nodes ≡ (hs 0).nodes
  unfolding state_at
  nodes_at m = (constant s es m).nodes

  pub records_at : (m : ℕ) → (hs m).records ≡ (hs 0).records
  unfolding state_at
  records_at m = (constant s es m).records

  pub words_at : (m : ℕ) → length (bs m) ≡ length (bs 0)
  unfolding state_at
  words_at m = (constant s es m).words

  pub rows_at : (m : ℕ) → length (W m).row ≡ length (W 0).row
  unfolding state_at
  rows_at m = (constant s es m).rows

  -- the step from moment m, with the k of the whole run
  moves : (m : ℕ) → (c : Step k (S m) (S (suc m))) × Kind s es m k c
  moves m =
      subst (λ (x : ℕ). (c : Step x (S m) (S (suc m))) × Kind s es m x c) (k_at m)
      ((move (good m)).step, (move (good m)).kind)

  pub step_at : (m : ℕ) → Step k (S m) (S (suc m))
  step_at m = (moves m).0

  -- the whole list is a run of the history
  pub run : (end : ℕ) → Run k S end
  run end = record { step = λ m l. (moves m).0 }

  pub hk : 2 ≤ k
  hk = k_low (good 0).now

  pub sound₀ : Sound k (S 0)
  sound₀ = (good 0).now.first

  pub sound : (m : ℕ) → Sound k (S m)
  sound m = sound_at hk (run m) sound₀ m (omega arith)

  -- 1. A call is refused only where there is no such process, for a step of an idle one, or for what is given to a start.
  pub step_refused : (m n : ℕ) (e : Refusal) → (step_in (W m) n).answer ≡ Err e → NoStep (W m) n (number_of e)
  step_refused m n e z = go (calls.step_goes (W m) (good m).now.fit (good m).rows n)
    where
      same : (d : Refusal) → (step_in (W m) n).answer ≡ Err d → number_of e ≡ number_of d
      same d x = ap number_of (sym (one_err d e (sym x ∙ z)))

      go : calls.Step (W m) (good m).now.fit (good m).rows n → NoStep (W m) n (number_of e)
      go (calls.unknown d x) = step_of_none (same NoSuchProcess (ap (λ (o : StepOut). o.answer) x)) d
      go (calls.rests u d x) = step_of_idle (same Idle (ap (λ (o : StepOut). o.answer) x)) u d
      go (calls.works u d f) =
          let x = f (step_sound (good m).now (taken (W m) n) (at_work d ((good m).each n u))) in
          absurd (ok_not _ e (sym (ap (λ (o : StepOut). o.answer) x) ∙ z))

  pub start_refused : (m n operation key : ℕ) (e : Refusal) → (start_in (W m) n operation key).answer ≡ Err e → NoStart (W m) n operation key (number_of e)
  start_refused m n operation key e z = go (calls.start_goes (W m) (good m).now.fit (good m).rows n operation key)
    where
      go : calls.Start (W m) (good m).now.fit (good m).rows n operation key → NoStart (W m) n operation key (number_of e)
      go (calls.refused r d x) =
          subst (λ (a : Refusal). NoStart (W m) n operation key (number_of a)) (one_err (refusal r) e (sym (ap (λ (o : StartOut). o.answer) x) ∙ z)) d
      go (calls.accepted u a c d f x) = absurd (ok_not tt e (sym (ap (λ (o : StartOut). o.answer) x) ∙ z))

  -- 2. Figure 3: a key in a leaf below child i of an internal node of the tree goes by child i
  pub search_order : (m n i l x : ℕ) → Reach k (S m).view n → (S m).view.tag n ≡ k → In k i → Below k (S m).view ((S m).view.child n i) l
      → (S m).view.tag l ≢ k → Memᴰ x (keys (S m).view l) → route k ((S m).view.key n) x ≡ i
  search_order m = figure_3 (omega (arith, hk)) (sound m).inv.uniq (sound m).inv.ordered

  -- 3. A child word of a node in use changes at an event exactly when it is a child swap
  pub kids_stay : (m : ℕ) → ((r : ℕ) → ¬ ChildSwap s es m r) → (n j : ℕ) → In (S m).nodes n → In k j → (S (suc m)).view.child n j ≡ (S m).view.child n j
  kids_stay m f n j u i = go (moves m).1
    where
      go : Kind s es m k (moves m).0 → (S (suc m)).view.child n j ≡ (S m).view.child n j
      go (no_swap e d) = kids_same hk (sound m) (moves m).0 e n j u i
      go (swap_of r l w e z) = absurd (f r w)

  -- the record of a child swap is the one of the step
  swap_is : (m r : ℕ) → ChildSwap s es m r → (step_swaps k (moves m).0 ≡ r) × (1 ≤ r)
  swap_is m r w = go (moves m).1
    where
      go : Kind s es m k (moves m).0 → (step_swaps k (moves m).0 ≡ r) × (1 ≤ r)
      go (no_swap e d) = absurd (d r w)
      go (swap_of x l v e g) =
          let z : v.process ≡ w.process = step_one v.process w.process (sym v.event ∙ w.event) in
          let a : x ≡ r = sym v.helps ∙ ap (λ (p : ℕ). (taken (W m) p).helped) z ∙ w.helps in
          (e ∙ a, omega arith)

  -- the one word that the record names, by the index and the noted node of the process that swaps
  pub swap_changes : (m r : ℕ) (w : ChildSwap s es m r) → Swapped k (S m) (S (suc m)) ((S m).rec r) (taken (W m) w.process).index (taken (W m) w.process).other
  swap_changes m r w = go (moves m).1
    where
      go : Kind s es m k (moves m).0 → Swapped k (S m) (S (suc m)) ((S m).rec r) (taken (W m) w.process).index (taken (W m) w.process).other
      go (no_swap e d) = absurd (d r w)
      go (swap_of x l v e g) =
          let z : v.process ≡ w.process = step_one v.process w.process (sym v.event ∙ w.event) in
          let a : x ≡ r = sym v.helps ∙ ap (λ (p : ℕ). (taken (W m) p).helped) z ∙ w.helps in
          subst (λ (p : ℕ). Swapped k (S m) (S (suc m)) ((S m).rec r) (taken (W m) p).index (taken (W m) p).other) z
          (subst (λ (y : ℕ). Swapped k (S m) (S (suc m)) ((S m).rec y) (taken (W m) v.process).index (taken (W m) v.process).other) a g)

  -- the set changes only at a child swap, and by the key of its record: put in by an insert, taken out by a delete
  pub set_stays : (m : ℕ) → ((r : ℕ) → ¬ ChildSwap s es m r) → SameSet k (S m).view (S (suc m)).view
  set_stays m f = go (moves m).1
    where
      go : Kind s es m k (moves m).0 → SameSet k (S m).view (S (suc m)).view
      go (no_swap e d) = step_set_same hk (sound m) (moves m).0 e
      go (swap_of r l w e z) = absurd (f r w)

  pub set_changes : (m r : ℕ) → ChildSwap s es m r → SetMoves k (S m).view (S (suc m)).view ((S m).rec r)
  set_changes m r w = let z = swap_is m r w in step_set_swap hk (sound m) (moves m).0 r z.0 z.1

  -- as the history says it
  pub swap_at : (m r : ℕ) → ChildSwap s es m r → SwapAt k S r m × (1 ≤ r)
  swap_at m r w = let z = swap_is m r w in (record { step = (moves m).0; is = z.0 }, z.1)

  pub swap_event : (end r i j : ℕ) (w : SwapBetween k S end (run end) r i j) → 1 ≤ r → ChildSwap s es w.when r
  unfolding run
  swap_event end r i j w l = go (moves w.when).1
    where
      go : Kind s es w.when k (moves w.when).0 → ChildSwap s es w.when r
      go (no_swap e d) = absurd (omega (arith, w.is, e))
      go (swap_of x a v e g) = subst (λ (y : ℕ). ChildSwap s es w.when y) (sym e ∙ w.is) v

  -- each record has at most one
  pub swaps_once : (m m' r : ℕ) → ChildSwap s es m r → ChildSwap s es m' r → m ≡ m'
  swaps_once m m' r w w' =
      let z = swap_is m r w in
      let z' = swap_is m' r w' in
      one_swap hk (run (suc (m + m'))) sound₀ m m' r z.1 (omega arith) (omega arith) (record { step = (moves m).0; is = z.0 }) (record { step = (moves m').0; is = z'.0 })

  -- 7. Tags and keys of nodes in use and all words of records in use never change; used counts never fall
  pub grows : (i j : ℕ) → i ≤ j → Grown (S i) (S j)
  grows i j l = grown_at hk (run j) sound₀ i j l (omega arith)
