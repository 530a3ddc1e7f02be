-- What is in the set, by the swaps of inserts and deletes, from the claim alone.
use Prim.Native.Nat.{ℕ, zero, suc, ◌+◌, ◌-◌, ◌≤◌, ◌<◌}
use mathlib.Core.Path.{◌≡◌, refl, sym, ap, ◌∙◌, subst}
use mathlib.Core.Logic.{◌⊎◌, inl, inr, ◌↔◌}
use mathlib.Core.List.{List}
use native.Mathlib.Omega.{arith}
use native.Mathlib.Decide.{ℕ_discrete, dec_le}
use Rattle.tables.specs.Layout.{child_word}
use Rattle.tables.specs.declared.header.Header.{Header}
use Rattle.process.specs.declared.Process.{Process}
use Rattle.help.specs.Help.{helped_l, helped_p, helped_third}
use Rattle.link.specs.Events.{Event, start, step, State, taken, event_at, state_at, block_at, header_at}
use Rattle.link.specs.Swaps.{Swapping, seven, thirteen, ChildSwap}
use Rattle.link.specs.Operations.{Started, OperationOf}
use Rattle.link.specs.Sets.{InSet}
use Rattle.link.proofs.Reached.{step_one}
use Rattle.claim.proofs.Operations.{start_same}
use Rattle.claim.specs.Claim.{Claim, Changes, put_in, taken_out, SwapOf}
use Rattle.claim.specs.Kept.{Inserted, Deleted, NotDeleted, Kept, Stayed, Carries}

-- whether an event is a child swap can be told
swapping? : (b : List ℕ) (h : Header) (q : Process) → Dec (Swapping b h q)
swapping? b h q = go (ℕ_discrete q.point 7) (ℕ_discrete q.point 13) (ℕ_discrete (child_word b h (helped_p b h q) q.index) (helped_l b h q)) (ℕ_discrete (child_word b h (helped_third b h q) q.index) (helped_p b h q))
  where
    none : ¬ ((q.point ≡ 7) × (child_word b h (helped_p b h q) q.index ≡ helped_l b h q)) → ¬ ((q.point ≡ 13) × (child_word b h (helped_third b h q) q.index ≡ helped_p b h q)) → ¬ Swapping b h q
    none f g (seven e w) = f (e, w)
    none f g (thirteen e w) = g (e, w)

    go : Dec (q.point ≡ 7) → Dec (q.point ≡ 13) → Dec (child_word b h (helped_p b h q) q.index ≡ helped_l b h q) → Dec (child_word b h (helped_third b h q) q.index ≡ helped_p b h q) → Dec (Swapping b h q)
    go (yes e) d (yes w) v = yes (seven e w)
    go (yes e) d (no w) v = no (none (λ x. w x.1) (λ x. omega (arith, x.0)))
    go (no e) (yes d) w (yes v) = yes (thirteen d v)
    go (no e) (yes d) w (no v) = no (none (λ x. e x.0) (λ x. v x.1))
    go (no e) (no d) w v = no (none (λ x. e x.0) (λ x. d x.0))

module _ (s : State) (es : List Event) where
  swap? : (m : ℕ) → ((r : ℕ) × ChildSwap s es m r) ⊎ ((r : ℕ) → ¬ ChildSwap s es m r)
  swap? m = go (event_at es m) refl
    where
      by : (n : ℕ) → event_at es m ≡ step n → Dec (1 ≤ n) → Dec (n ≤ (header_at s es m).processes) → Dec ((taken (state_at s es m) n).operation ≡ 0)
          → Dec (Swapping (block_at s es m) (header_at s es m) (taken (state_at s es m) n)) → ((r : ℕ) × ChildSwap s es m r) ⊎ ((r : ℕ) → ¬ ChildSwap s es m r)
      by n e (yes a) (yes c) (no d) (yes w) =
          inl ((taken (state_at s es m) n).helped, record { process = n; event = e; exists = record { low = a; high = c }; busy = d; helps = refl; swapping = w })
      by n e (no a) c d w = inr (λ r x. a (subst (λ (p : ℕ). 1 ≤ p) (step_one x.process n (sym x.event ∙ e)) x.exists.low))
      by n e (yes a) (no c) d w = inr (λ r x. c (subst (λ (p : ℕ). p ≤ (header_at s es m).processes) (step_one x.process n (sym x.event ∙ e)) x.exists.high))
      by n e (yes a) (yes c) (yes d) w = inr (λ r x. x.busy (subst (λ (p : ℕ). (taken (state_at s es m) p).operation ≡ 0) (sym (step_one x.process n (sym x.event ∙ e))) d))
      by n e (yes a) (yes c) (no d) (no w) =
          inr (λ r x. w (subst (λ (p : ℕ). Swapping (block_at s es m) (header_at s es m) (taken (state_at s es m) p)) (step_one x.process n (sym x.event ∙ e)) x.swapping))

      go : (e : Event) → event_at es m ≡ e → ((r : ℕ) × ChildSwap s es m r) ⊎ ((r : ℕ) → ¬ ChildSwap s es m r)
      go (start n o x) e = inr (λ r w. let z : start n o x ≡ step w.process = sym e ∙ w.event in let v : ◌≡◌ {A = ℕ} 0 1 = cc in omega arith)
      go (step n) e =
          by n e (dec_le 1 n) (dec_le n (header_at s es m).processes) (ℕ_discrete (taken (state_at s es m) n).operation 0)
          (swapping? (block_at s es m) (header_at s es m) (taken (state_at s es m) n))

module _ {s : State} {es : List Event} (claim : Claim s es) where
  -- a key of the set stays there for an event, or the event is the swap of a delete of it
  stays_or : (j x : ℕ) → InSet s es j x → InSet s es (suc j) x ⊎ Deleted s es j x
  stays_or j x h = go (swap? s es j)
    where
      by : (r i : ℕ) → ChildSwap s es j r → OperationOf s es r i → Changes s es j i → InSet s es (suc j) x ⊎ Deleted s es j x
      by r i w o (put_in n y st a) = inl (other (ℕ_discrete x y))
        where
          other : Dec (x ≡ y) → InSet s es (suc j) x
          other (yes e) = absurd (a.absent (subst (λ (z : ℕ). InSet s es j z) e h))
          other (no e) = (a.others x e).0 h
      by r i w o (taken_out n y st a) = other (ℕ_discrete x y)
        where
          other : Dec (x ≡ y) → InSet s es (suc j) x ⊎ Deleted s es j x
          other (yes e) =
              inr (record { begin = i; n = n; started = subst (λ (z : ℕ). Started s es i n 3 z) (sym e) st; swap = record { r = r; swap = w; operation = o } })
          other (no e) = inl ((a.others x e).1 h)

      go : ((r : ℕ) × ChildSwap s es j r) ⊎ ((r : ℕ) → ¬ ChildSwap s es j r) → InSet s es (suc j) x ⊎ Deleted s es j x
      go (inl w) = let c = claim.set_changes j w.0 w.1 in by w.0 c.0 w.1 c.1 c.2
      go (inr f) = inl ((claim.set_stays j f x).0 h)

  -- a key of the set was there before an event, or the event is the swap of an insert of it
  came_or : (j x : ℕ) → InSet s es (suc j) x → InSet s es j x ⊎ Inserted s es j x
  came_or j x h = go (swap? s es j)
    where
      by : (r i : ℕ) → ChildSwap s es j r → OperationOf s es r i → Changes s es j i → InSet s es j x ⊎ Inserted s es j x
      by r i w o (put_in n y st a) = other (ℕ_discrete x y)
        where
          other : Dec (x ≡ y) → InSet s es j x ⊎ Inserted s es j x
          other (yes e) =
              inr (record { begin = i; n = n; started = subst (λ (z : ℕ). Started s es i n 2 z) (sym e) st; swap = record { r = r; swap = w; operation = o } })
          other (no e) = inl ((a.others x e).1 h)
      by r i w o (taken_out n y st a) = inl (other (ℕ_discrete x y))
        where
          other : Dec (x ≡ y) → InSet s es j x
          other (yes e) = absurd (a.absent (subst (λ (z : ℕ). InSet s es (suc j) z) e h))
          other (no e) = (a.others x e).0 h

      go : ((r : ℕ) × ChildSwap s es j r) ⊎ ((r : ℕ) → ¬ ChildSwap s es j r) → InSet s es j x ⊎ Inserted s es j x
      go (inl w) = let c = claim.set_changes j w.0 w.1 in by w.0 c.0 w.1 c.1 c.2
      go (inr f) = inl ((claim.set_stays j f x).1 h)

  -- a key in the set at j and not at j + d is taken out in between
  pub taken_between : (d j x : ℕ) → InSet s es j x → ¬ InSet s es (j + d) x → (t : ℕ) × Deleted s es t x × (j ≤ t) × (t < j + d)
  taken_between zero j x h f = absurd (f (subst (λ (t : ℕ). InSet s es t x) (omega arith) h))
  taken_between (suc d) j x h f = go (stays_or j x h) (λ a c. taken_between d (suc j) x a c)
    where
      go : InSet s es (suc j) x ⊎ Deleted s es j x → (InSet s es (suc j) x → ¬ InSet s es (suc j + d) x → (t : ℕ) × Deleted s es t x × (suc j ≤ t) × (t < suc j + d))
          → (t : ℕ) × Deleted s es t x × (j ≤ t) × (t < j + suc d)
      go (inr a) next = (j, a, omega arith, omega arith)
      go (inl a) next =
          let up : suc j + d ≡ j + suc d = omega arith in
          let z = next a (λ v. f (subst (λ (t : ℕ). InSet s es t x) up v)) in
          (z.0, z.1, omega (arith, z.2), omega (arith, z.3))

  -- the swap of an insert puts its key in
  pub swap_puts : (t i n x : ℕ) → Started s es i n 2 x → SwapOf s es t i → InSet s es (suc t) x
  swap_puts t i n x st w = by (claim.set_changes t w.r w.swap).0 (claim.set_changes t w.r w.swap).1 (claim.set_changes t w.r w.swap).2
    where
      by : (i' : ℕ) → OperationOf s es w.r i' → Changes s es t i' → InSet s es (suc t) x
      by i' o (put_in n' y st' a) =
          let e = claim.one_operation w.r i' i o w.operation in
          subst (λ (z : ℕ). InSet s es (suc t) z) (start_same n' n 2 2 y x (sym st'.event ∙ ap (event_at es) e ∙ st.event)).2 a.present
      by i' o (taken_out n' y st' a) =
          let e = claim.one_operation w.r i' i o w.operation in
          absurd (omega (arith, (start_same n' n 3 2 y x (sym st'.event ∙ ap (event_at es) e ∙ st.event)).1))

  -- the swap of a delete takes its key out
  swap_takes : (t i n x : ℕ) → Started s es i n 3 x → SwapOf s es t i → ¬ InSet s es (suc t) x
  swap_takes t i n x st w = by (claim.set_changes t w.r w.swap).0 (claim.set_changes t w.r w.swap).1 (claim.set_changes t w.r w.swap).2
    where
      by : (i' : ℕ) → OperationOf s es w.r i' → Changes s es t i' → ¬ InSet s es (suc t) x
      by i' o (put_in n' y st' a) h =
          let e = claim.one_operation w.r i' i o w.operation in
          omega (arith, (start_same n' n 2 3 y x (sym st'.event ∙ ap (event_at es) e ∙ st.event)).1)
      by i' o (taken_out n' y st' a) h =
          let e = claim.one_operation w.r i' i o w.operation in
          a.absent (subst (λ (z : ℕ). InSet s es (suc t) z) (sym (start_same n' n 3 3 y x (sym st'.event ∙ ap (event_at es) e ∙ st.event)).2) h)

  -- a key that no delete takes out stays
  stays_on : (d j x : ℕ) → InSet s es j x → NotDeleted s es j (j + d) x → InSet s es (j + d) x
  stays_on zero j x h f = subst (λ (t : ℕ). InSet s es t x) (omega arith) h
  stays_on (suc d) j x h f = go (stays_or j x h) (λ a. stays_on d (suc j) x a (λ t l g. f t (omega arith) (omega arith)))
    where
      up : suc j + d ≡ j + suc d
      up = omega arith

      go : InSet s es (suc j) x ⊎ Deleted s es j x → (InSet s es (suc j) x → InSet s es (suc j + d) x) → InSet s es (j + suc d) x
      go (inl a) next = subst (λ (t : ℕ). InSet s es t x) up (next a)
      go (inr a) next = absurd (f j (omega arith) (omega arith) a)

  stays_to : (j m x : ℕ) → j ≤ m → InSet s es j x → NotDeleted s es j m x → InSet s es m x
  stays_to j m x l h f =
      let up : j + (m - j) ≡ m = omega arith in
      subst (λ (t : ℕ). InSet s es t x) up (stays_on (m - j) j x h (λ t a c. f t a (omega arith)))

  -- what is in the set was put in and has not been taken out
  whence : (m x : ℕ) → InSet s es m x → Stayed s es m x ⊎ Kept s es m x
  whence zero x h = inl (record { first = h; since = λ t a c. absurd (omega arith) })
  whence (suc m) x h = go (came_or m x h) (λ a. whence m x a)
    where
      none : Deleted s es m x → ⊥
      none d = swap_takes m d.begin d.n x d.started d.swap h

      later : (j : ℕ) → NotDeleted s es j m x → NotDeleted s es j (suc m) x
      later j f t a c d = by (ℕ_discrete t m)
        where
          by : Dec (t ≡ m) → ⊥
          by (yes e) = none (subst (λ (y : ℕ). Deleted s es y x) e d)
          by (no e) = f t a (omega arith) d

      on : Stayed s es m x ⊎ Kept s es m x → Stayed s es (suc m) x ⊎ Kept s es (suc m) x
      on (inl a) = inl (record { first = a.first; since = later 0 a.since })
      on (inr a) = inr (record { when = a.when; inserted = a.inserted; before = omega (arith, a.before); since = later (suc a.when) a.since })

      go : InSet s es m x ⊎ Inserted s es m x → (InSet s es m x → Stayed s es m x ⊎ Kept s es m x) → Stayed s es (suc m) x ⊎ Kept s es (suc m) x
      go (inl a) before = on (before a)
      go (inr a) before = inr (record { when = m; inserted = a; before = omega arith; since = λ t l g. absurd (omega arith) })

  kept_there : (m x : ℕ) → Kept s es m x → InSet s es m x
  kept_there m x a = stays_to (suc a.when) m x (omega (arith, a.before)) (swap_puts a.when a.inserted.begin a.inserted.n x a.inserted.started a.inserted.swap) a.since

  pub carries : Carries s es
  carries m x = (whence m x, there)
    where
      there : Stayed s es m x ⊎ Kept s es m x → InSet s es m x
      there (inl a) = stays_to 0 m x (omega arith) a.first a.since
      there (inr a) = kept_there m x a

  -- of a list that begins with the empty set
  pub kept : ((x : ℕ) → ¬ InSet s es 0 x) → (m x : ℕ) → InSet s es m x ↔ Kept s es m x
  kept empty m x = (λ h. from (whence m x h), kept_there m x)
    where
      from : Stayed s es m x ⊎ Kept s es m x → Kept s es m x
      from (inl a) = absurd (empty x a.first)
      from (inr a) = a
