-- Rows 8, 10 and 14: a flag is taken back, help ends, the stack is popped.
use Prim.Native.Nat.{ℕ, suc, ◌+◌, ◌*◌, ◌-◌, ◌≤◌, ◌<◌}
use mathlib.Core.Path.{◌≡◌, refl, sym, ap, ◌∙◌, subst}
use mathlib.Core.Logic.{◌≢◌, inl, inr}
use mathlib.Core.Bool.{Bool, true, false, not}
use mathlib.Core.List.{List}
use native.Mathlib.Omega.{arith}
use native.Mathlib.Decide.{ℕ_discrete}
use lib.Dec.{eqb}
use lib.ListN.{set}
use borrow.Author.Tests.{eqb-true, eqb-false, eq-eqb, ne_eqb}
use Rattle.tables.specs.Choice.{pick, both}
use Rattle.tables.specs.Layout.{depth_of, node_at, stack_at, node_word, pending_word, record_word, stack_word, pending_place, p_field, third_field}
use Rattle.tables.specs.Place.{in_node, in_stack, Inside}
use Rattle.nodes.specs.Pending.{pending_of, record_of_kind}
use Rattle.tables.specs.declared.header.Header.{Header}
use Rattle.tables.proofs.Places.{read_same, read_other}
use Rattle.tables.proofs.Picks.{both_is}
use Rattle.process.specs.declared.Process.{Process}
use Rattle.process.specs.Process.{with_depth, restarted_of}
use Rattle.process.specs.Answer.{answer, going_on, ending_of}
use Rattle.help.specs.Help.{top_of, help_ended, top_good}
use Rattle.help.specs.Reads.{seen_good, unflag}
use Rattle.finish.specs.Rows.{unflag_row, row8, row14}
use Rattle.mark.specs.Rows.{pop_good, under_top, row10, touch10}
use Rattle.history.specs.View.{In}
use Rattle.history.specs.Shared.{Shared, Failed, Stands, stands_replace, stands_prune}
use Rattle.history.specs.Change.{SwapPend, unflag_replace, unflag_prune}
use Rattle.history.specs.Effects.{swaps}
use Rattle.history.specs.Run.{Step, changes, rests, step_swaps}
use Rattle.history.proofs.Invariant.{Sound}
use Rattle.history.proofs.Touch.{p_used, gp_used}
use Rattle.history.proofs.Stacks.{Stacked, stack_front}
use Rattle.history.proofs.Helps.{Ends}
use Rattle.history.proofs.Knows.{Mind, Owns, none_yet, owns, Serves, own_done}
use Rattle.link.specs.Tables.{view_of, tables_of, stack_of}
use Rattle.link.proofs.Writes.{Writes, writes_none, writes_node, writes_stack, writes_tables, pend_swap, tables_same, stack_same, stack_over_node, stack_over_stack}
use Rattle.link.proofs.Checks.{word_names, pending_good_lem, kind_good}
use Rattle.link.proofs.Minds.{newer_same, newer_stack, no_find, mind_of, stack_room}
use Rattle.link.proofs.Moments.{tables, Now, Busy, did, Follows, answers, nobody, Turn, now_sound, quiet, restarts}
use Rattle.link.proofs.Seeing.{counters_help, Loose, free, below as at_bottom, owns_loose, to_top}
use Rattle.link.proofs.Searching.{known}
use Rattle.link.proofs.Serving.{written, stacks_node, stack_at_lem}

module _ {hs : ℕ → Header} {bs : ℕ → List ℕ} {i j n : ℕ} (now : Now hs bs j) (q : Process) (y : Busy hs bs i j n q) where
  abbrev h : Header
  h = hs j

  abbrev b : List ℕ
  b = bs j

  abbrev k : ℕ
  k = (hs j).k

  abbrev S : ℕ → Shared
  S = tables hs bs

  abbrev mind : Mind
  mind = mind_of (hs j) (bs j) n q

  abbrev r : ℕ
  r = q.helped

  abbrev P : ℕ
  P = record_word b h r p_field

  abbrev T : ℕ
  T = record_word b h r third_field

  I : Sound k (S j)
  I = now_sound now

  -- the record at a place of the stack
  module _ {f : ℕ → ℕ} {d : ℕ} (st : Stacked k (S j) f d) where
    stacked_kind : (m : ℕ) → m < d → record_of_kind b h (f m) 2 ≡ true
    stacked_kind m l = kind_good b h (f m) 2 (st.used m l) (st.failed m l).prune

    pub top_good_lem : (top : ℕ) → ((m : ℕ) → d ≡ suc m → top ≡ f m) → top_good b h d top ≡ true
    unfolding pick
    top_good_lem top t = go (ℕ_discrete d 0)
      where
        less : d ≢ 0 → d ≡ suc (d - 1)
        less z = omega arith

        go : Dec (d ≡ 0) → pick (eqb d 0) true (record_of_kind b h top 2) ≡ true
        go (yes e) = rw (eq-eqb d 0 e) refl
        go (no e) = rw (ne_eqb d 0 e, t (d - 1) (less e)) (stacked_kind (d - 1) (omega arith))

  module _ {m : ℕ} (at : q.point ≡ m) (low : 6 ≤ m) (w : Serves k (S j) mind m) where
    room : q.depth ≤ depth_of h
    room = stack_room q now.fit I y.counters w.stacked

    pub top_is : (d : ℕ) → q.depth ≡ suc d → top_of b h n q ≡ stack_of h b n d
    top_is d e =
        let z : q.depth - 1 ≡ d = omega arith in
        ap (λ (x : ℕ). stack_word b h n x) z ∙ sym (stack_at_lem h b n d (omega (arith, room)))

    -- 8, 14: help has ended with the record done
    ended_late : (b' : List ℕ) (v : ℕ) → stack_of h b' n ≡ stack_of h b n → ¬ Stands (tables_of h b').view ((S j).rec r) r → Ends k (S j) r v → Follows hs bs i j n h b' q (help_ended true (top_of b h n q) q)
    unfolding help_ended pick both
    ended_late b' v same gone ends = go (ℕ_discrete q.depth 0)
      where
        more : q.depth ≢ 0 → q.depth ≡ suc (q.depth - 1)
        more z = omega arith

        yes_by : Owns (S j) mind → q.depth ≡ 0 → q.own ≢ 0 → Follows hs bs i j n h b' q (ending_of q (answer 1))
        yes_by (none_yet z) e x = absurd (x z)
        yes_by (owns u a c f g o) e x = answers (answer 1) refl (λ z. subst (λ (m : ℕ). ¬ Stands (tables_of h b').view ((S j).rec m) m) (g e) gone) (did (no_find y.counters (omega arith)) refl u a c f (own_done {M = mind} ends w.own e x))

        empty : q.depth ≡ 0 → (t : Bool) → eqb q.own 0 ≡ t → Follows hs bs i j n h b' q (pick (not t) (ending_of q (answer 1)) (going_on (restarted_of q)))
        empty e true x = restarts n now q q h b' (λ z. absurd (z (eqb-true q.own 0 x))) y.since y.counters
        empty e false x = yes_by w.own e (eqb-false q.own 0 x)

        go : Dec (q.depth ≡ 0) → Follows hs bs i j n h b' q (help_ended true (top_of b h n q) q)
        go (yes e) = rw (eq-eqb q.depth 0 e) (empty e (eqb q.own 0) refl)
        go (no e) =
            rw (ne_eqb q.depth 0 e)
            (to_top n now q q b' (top_of b h n q) y.since y.counters y.held (newer_same same y.newer) (no_find y.counters (omega arith)) (subst (λ (f : ℕ → ℕ). Stacked k (S j) f q.depth) (sym same) w.stacked)
            (subst (λ (f : ℕ → ℕ). Loose (S j) n q.operation q.key q.depth q.own f) (sym same) (owns_loose mind (omega arith) w.own))
            (λ d x. top_is d x ∙ ap (λ (f : ℕ → ℕ). f d) (sym same)) refl (λ z. absurd (e z)) (q.depth - 1) (more e))

    -- a node's pending, from this flag to clean
    module _ (node kind v : ℕ) (u : In h.nodesused node) (not-7 : m ≢ 7) (not-13 : m ≢ 13) where
      abbrev freed : List ℕ
      freed = set b (node_at h node (pending_place k)) (4 * r)

      pub node_in : Inside h (in_node node (pending_place k))
      node_in = record { from_one = u.low; to_last = omega (arith, u.high, now.fit.limits.used_high); within = omega arith }

      freed_writes : Writes h b freed node (pending_place k)
      freed_writes = writes_node node (pending_place k) (4 * r) node_in

      freed_swap : SwapPend k h.nodesused (view_of h b) (view_of h freed) node (4 * r)
      freed_swap = pend_swap now.fit freed_writes (4 * r) (read_same h b (in_node node (pending_place k)) (4 * r) node_in now.fit.long)

      unflags : ((b' : List ℕ) → pending_word b' h node ≢ 4 * r + kind → ¬ Stands (tables_of h b').view ((S j).rec r) r) → 1 ≤ kind → Ends k (S j) r v → (pending_word b h node ≡ 4 * r + kind → (c : Step k (S j) (tables_of h freed)) × (step_swaps k c ≡ 0))
          → Turn hs bs i j n q (unflag_row b h n q node kind).sound (unflag_row b h n q node kind).stepped (unflag_row b h n q node kind).block
      unfolding unflag_row pick
      unflags gone some ends step = go (eqb (pending_word b h node) (4 * r + kind)) refl
        where
          sound : both (seen_good b h (unflag h q node kind)) (top_good b h q.depth (top_of b h n q)) ≡ true
          sound =
              both_is (pending_good_lem b h (pending_of (pending_word b h node)) (word_names (S j) (I.inv.pending node u)))
              (top_good_lem w.stacked (top_of b h n q) top_is)

          stacks : (p : ℕ) → In h.processes p → stack_of h freed p ≡ stack_of h b p
          stacks p x = stacks_node now q y node (pending_place k) (4 * r) u (omega arith) p x

          go : (t : Bool) → eqb (pending_word b h node) (4 * r + kind) ≡ t
              → Turn hs bs i j n q (both (seen_good b h (unflag h q node kind)) (top_good b h q.depth (top_of b h n q))) (help_ended true (top_of b h n q) q) (pick t freed b)
          go true x =
              let s = step (eqb-true (pending_word b h node) (4 * r + kind) x) in
              written now q y freed_writes sound s.0 (nobody (λ z. absurd (not-7 (sym at ∙ z))) (λ z. absurd (not-13 (sym at ∙ z))) s.1) (λ p d z. stacks p d)
              (ended_late freed v (stacks n y.place) (gone freed (λ z. omega (arith, freed_swap.pend_new))) ends)
          go false x = quiet now (λ z. absurd (not-7 (sym at ∙ z))) (λ z. absurd (not-13 (sym at ∙ z))) sound (ended_late b v refl (gone b (eqb-false (pending_word b h node) (4 * r + kind) x)) ends)

  module _ (e₈ : q.point ≡ 8) where
    w₈ : Serves k (S j) mind 8
    w₈ = known now q y 8 e₈

    u₈ : In h.nodesused P
    u₈ = p_used I.inv r w₈.used

    step₈ : pending_word b h P ≡ 4 * r + 1 → Step k (S j) (tables_of h (freed e₈ (omega arith) w₈ P 1 1 u₈ (λ z. omega arith) (λ z. omega arith)))
    step₈ x =
        changes (unflag_replace r w₈.used w₈.helps.is x w₈.helps.done (freed_swap e₈ (omega arith) w₈ P 1 1 u₈ (λ z. omega arith) (λ z. omega arith))
        (writes_tables now.fit (freed_writes e₈ (omega arith) w₈ P 1 1 u₈ (λ z. omega arith) (λ z. omega arith))))

    gone₈ : (b' : List ℕ) → pending_word b' h P ≢ 4 * r + 1 → ¬ Stands (tables_of h b').view ((S j).rec r) r
    gone₈ b' d (stands_replace a e) = d e
    gone₈ b' d (stands_prune a e) = omega (arith, w₈.helps.is)

    pub turn_8 : Turn hs bs i j n q (row8 b h n q).sound (row8 b h n q).stepped (row8 b h n q).block
    unfolding row8 step₈ step_swaps swaps
    turn_8 = unflags e₈ (omega arith) w₈ P 1 1 u₈ (λ z. omega arith) (λ z. omega arith) gone₈ (omega arith) w₈.helps (λ x. (step₈ x, refl))

  module _ (e₁₄ : q.point ≡ 14) where
    w₁₄ : Serves k (S j) mind 14
    w₁₄ = known now q y 14 e₁₄

    u₁₄ : In h.nodesused T
    u₁₄ = gp_used I.inv r w₁₄.used w₁₄.helps.is

    step₁₄ : pending_word b h T ≡ 4 * r + 2 → Step k (S j) (tables_of h (freed e₁₄ (omega arith) w₁₄ T 2 2 u₁₄ (λ z. omega arith) (λ z. omega arith)))
    step₁₄ x =
        changes (unflag_prune r w₁₄.used w₁₄.helps.is x (inl w₁₄.helps.done) (freed_swap e₁₄ (omega arith) w₁₄ T 2 2 u₁₄ (λ z. omega arith) (λ z. omega arith))
        (writes_tables now.fit (freed_writes e₁₄ (omega arith) w₁₄ T 2 2 u₁₄ (λ z. omega arith) (λ z. omega arith))))

    gone₁₄ : (b' : List ℕ) → pending_word b' h T ≢ 4 * r + 2 → ¬ Stands (tables_of h b').view ((S j).rec r) r
    gone₁₄ b' d (stands_replace a e) = omega (arith, w₁₄.helps.is)
    gone₁₄ b' d (stands_prune a e) = d e

    pub turn_14 : Turn hs bs i j n q (row14 b h n q).sound (row14 b h n q).stepped (row14 b h n q).block
    unfolding row14 step₁₄ step_swaps swaps
    turn_14 = unflags e₁₄ (omega arith) w₁₄ T 2 2 u₁₄ (λ z. omega arith) (λ z. omega arith) gone₁₄ (omega arith) w₁₄.helps (λ x. (step₁₄ x, refl))

  module _ (e₁₀ : q.point ≡ 10) where
    w₁₀ : Serves k (S j) mind 10
    w₁₀ = known now q y 10 e₁₀

    failed : Failed (S j).view ((S j).rec r) r
    failed = w₁₀.helps

    u₁₀ : In h.nodesused T
    u₁₀ = gp_used I.inv r w₁₀.used failed.prune

    deep : 1 ≤ q.depth
    deep = y.counters.ten e₁₀

    fits : q.depth ≤ depth_of h
    fits = room e₁₀ (omega arith) w₁₀

    abbrev d₁ : ℕ
    d₁ = q.depth - 1

    top_place : Inside h (in_stack n d₁)
    top_place = record { from_one = y.place.low; to_last = y.place.high; within = omega (arith, deep, fits) }

    node_place : Inside h (in_node T (pending_place k))
    node_place = node_in e₁₀ (omega arith) w₁₀ T 2 2 u₁₀ (λ z. omega arith) (λ z. omega arith)

    abbrev freed₁₀ : List ℕ
    freed₁₀ = set b (node_at h T (pending_place k)) (4 * r)

    abbrev popped : List ℕ → List ℕ
    popped c = set c (stack_at h n d₁) 0

    -- the stack words of c are those of b
    module _ (c : List ℕ) (same : (p d : ℕ) → In h.processes p → d < depth_of h → stack_word c h p d ≡ stack_word b h p d) (unset : pending_word (popped c) h T ≢ 4 * r + 2) where
      others : (p : ℕ) → In h.processes p → p ≢ n → stack_of h (popped c) p ≡ stack_of h b p
      others p x z =
          stack_same h b (popped c) p
          (λ d g. stack_over_stack h c p d (record { from_one = x.low; to_last = x.high; within = g }) n d₁ 0 top_place (λ e. z e.0) ∙ same p d x g)

      below : (d : ℕ) → d < d₁ → stack_of h (popped c) n d ≡ stack_of h b n d
      below d g =
          let l : d < depth_of h = omega (arith, fits) in
          stack_at_lem h (popped c) n d l
          ∙ stack_over_stack h c n d (record { from_one = y.place.low; to_last = y.place.high; within = l }) n d₁ 0 top_place (λ e. omega (arith, e.1))
          ∙ same n d y.place l
          ∙ sym (stack_at_lem h b n d l)

      after_pop : Follows hs bs i j n h (popped c) q (help_ended false (under_top b h n q) (with_depth q d₁))
      unfolding help_ended pick both
      after_pop = go (ℕ_discrete d₁ 0)
        where
          st : Stacked k (S j) (stack_of h (popped c) n) d₁
          st = stack_front (omega arith) below w₁₀.stacked

          top : (d : ℕ) → d₁ ≡ suc d → under_top b h n q ≡ stack_of h (popped c) n d
          top d e =
              let z : d₁ - 1 ≡ d = omega arith in
              ap (λ (x : ℕ). stack_word b h n x) z ∙ sym (stack_at_lem h b n d (omega (arith, fits))) ∙ sym (below d (omega arith))

          more : d₁ ≢ 0 → d₁ ≡ suc (d₁ - 1)
          more z = omega arith

          loose : d₁ ≢ 0 → Owns (S j) mind → Loose (S j) n q.operation q.key d₁ q.own (stack_of h (popped c) n)
          loose z (none_yet e) = free e
          loose z (owns u a e f g o) = at_bottom (omega arith) u a e f (below 0 (omega arith) ∙ o deep)

          gone : ¬ Stands (tables_of h (popped c)).view ((S j).rec r) r
          gone (stands_replace a e) = omega (arith, failed.prune)
          gone (stands_prune a e) = unset e

          own_gone : d₁ ≡ 0 → q.own ≢ 0 → Owns (S j) mind → ¬ Stands (tables_of h (popped c)).view ((S j).rec q.own) q.own
          own_gone e z (none_yet v) = absurd (z v)
          own_gone e z (owns u a v f g o) =
              let x : r ≡ q.own = w₁₀.on_top refl 0 (omega (arith, deep)) ∙ o deep in
              subst (λ (m : ℕ). ¬ Stands (tables_of h (popped c)).view ((S j).rec m) m) x gone

          go : Dec (d₁ ≡ 0) → Follows hs bs i j n h (popped c) q (help_ended false (under_top b h n q) (with_depth q d₁))
          go (yes e) = rw (eq-eqb d₁ 0 e) (restarts n now q q h (popped c) (λ z. own_gone e z w₁₀.own) y.since y.counters)
          go (no e) =
              rw (ne_eqb d₁ 0 e)
              (to_top n now q (with_depth q d₁) (popped c) (under_top b h n q) y.since
              (rw e₁₀ (counters_help 10 q.index d₁ q.own y.counters (no_find y.counters (omega arith)) (omega arith) (omega arith) y.counters.index_high (λ z. absurd (omega arith)) (λ z x. absurd (omega arith)) (λ z. omega arith)))
              y.held (newer_stack (λ d l. rw (below d l) (y.newer.stack_late d (omega arith))) y.newer) (no_find y.counters (omega arith)) st (loose e w₁₀.own) top refl (λ z. absurd (e z)) (d₁ - 1) (more e))

    pop_sound : both (seen_good b h (touch10 b h q)) (pop_good b h n q (under_top b h n q)) ≡ true
    pop_sound =
        both_is (pending_good_lem b h (pending_of (pending_word b h T)) (word_names (S j) (I.inv.pending T u₁₀)))
        (both_is (rw (top_is e₁₀ (omega arith) w₁₀ d₁ (omega (arith, deep))) (stacked_kind w₁₀.stacked d₁ (omega (arith, deep))))
        (top_good_lem (stack_front {f' = stack_of h b n} (omega arith) (λ m l. refl) w₁₀.stacked) (under_top b h n q) under))
      where
        under : (d : ℕ) → d₁ ≡ suc d → under_top b h n q ≡ stack_of h b n d
        under d e =
            let z : d₁ - 1 ≡ d = omega arith in
            ap (λ (x : ℕ). stack_word b h n x) z ∙ sym (stack_at_lem h b n d (omega (arith, fits)))

    over_node : (p d : ℕ) → In h.processes p → d < depth_of h → stack_word freed₁₀ h p d ≡ stack_word b h p d
    over_node p d x g = stack_over_node h b p d (record { from_one = x.low; to_last = x.high; within = g }) T (pending_place k) (4 * r) node_place

    writes_both : Writes h b (popped freed₁₀) T (pending_place k)
    writes_both = writes_stack n d₁ 0 top_place (writes_node T (pending_place k) (4 * r) node_place)

    writes_one : Writes h b (popped b) 0 (2 * k)
    writes_one = writes_stack n d₁ 0 top_place (writes_none 0 (2 * k))

    new_word : node_word (popped freed₁₀) h T (pending_place k) ≡ 4 * r
    new_word =
        read_other h freed₁₀ (in_stack n d₁) 0 top_place (in_node T (pending_place k)) node_place (λ e. apart e)
        ∙ read_same h b (in_node T (pending_place k)) (4 * r) node_place now.fit.long
      where
        apart : in_stack n d₁ ≡ in_node T (pending_place k) → ⊥
        apart e = let z : ◌≡◌ {A = ℕ} 0 1 = cc in omega arith

    step₁₀ : pending_word b h T ≡ 4 * r + 2 → Step k (S j) (tables_of h (popped freed₁₀))
    step₁₀ x =
        changes (unflag_prune r w₁₀.used failed.prune x (inr failed) (pend_swap now.fit writes_both (4 * r) new_word) (writes_tables now.fit writes_both))

    rest₁₀ : Step k (S j) (tables_of h (popped b))
    rest₁₀ = rests (tables_same now.fit writes_one)

    kept_word : eqb (pending_word b h T) (4 * r + 2) ≡ false → pending_word (popped b) h T ≢ 4 * r + 2
    kept_word x z = eqb-false (pending_word b h T) (4 * r + 2) x (sym (writes_one.node T (pending_place k) node_place (λ e. omega (arith, e.0, u₁₀))) ∙ z)

    pub turn_10 : Turn hs bs i j n q (row10 b h n q).sound (row10 b h n q).stepped (row10 b h n q).block
    unfolding row10 pick step₁₀ rest₁₀ step_swaps swaps
    turn_10 = go (eqb (pending_word b h T) (4 * r + 2)) refl
      where
        go : (t : Bool) → eqb (pending_word b h T) (4 * r + 2) ≡ t
            → Turn hs bs i j n q (both (seen_good b h (touch10 b h q)) (pop_good b h n q (under_top b h n q))) (help_ended false (under_top b h n q) (with_depth q d₁)) (popped (pick t freed₁₀ b))
        go true x =
            written now q y writes_both pop_sound (step₁₀ (eqb-true (pending_word b h T) (4 * r + 2) x)) (nobody (λ z. absurd (omega arith)) (λ z. absurd (omega arith)) refl)
            (others freed₁₀ over_node (λ z. omega (arith, new_word))) (after_pop freed₁₀ over_node (λ z. omega (arith, new_word)))
        go false x =
            written now q y writes_one pop_sound rest₁₀ (nobody (λ z. absurd (omega arith)) (λ z. absurd (omega arith)) refl) (others b (λ p d v g. refl) (kept_word x))
            (after_pop b (λ p d v g. refl) (kept_word x))
