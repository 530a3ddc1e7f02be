-- Rows 9 and 11: the mark or a push, and the sibling noted.
use Prim.Native.Nat.{ℕ, suc, ◌+◌, ◌*◌, ◌≤◌, ◌<◌}
use mathlib.Core.Path.{◌≡◌, refl, sym, ap, ◌∙◌, subst}
use mathlib.Core.Logic.{◌≢◌, ◌⊎◌, inl, inr}
use mathlib.Core.Bool.{Bool, true, false, not}
use mathlib.Core.List.{List}
use native.Mathlib.Omega.{arith}
use native.Mathlib.Decide.{ℕ_discrete}
use native.Mathlib.Numerals.{add-one}
use lib.Dec.{ltb, eqb}
use lib.ListN.{set}
use borrow.Author.Tests.{eqb-true, eqb-false, eq-eqb, ne_eqb, ltb-true, ltb-false, lt-ltb, not-true}
use Rattle.tables.specs.Choice.{pick, both, either}
use Rattle.tables.specs.Layout.{depth_of, node_at, stack_at, node_word, tag_word, child_word, pending_word, record_word, pending_place, l_field, p_field, expected_field}
use Rattle.tables.specs.Place.{in_node, in_stack, Inside}
use Rattle.nodes.specs.Pending.{pending_of}
use Rattle.tables.specs.declared.header.Header.{Header}
use Rattle.tables.proofs.Places.{read_same}
use Rattle.tables.proofs.Picks.{both_1, both_2, both_is}
use Rattle.process.specs.declared.Process.{Process}
use Rattle.process.specs.Process.{with_index, with_other, with_depth, to_eleven, to_twelve}
use Rattle.process.specs.Answer.{going_on}
use Rattle.help.specs.Help.{helping}
use Rattle.help.specs.Reads.{seen_good, child_good}
use Rattle.mark.specs.Rows.{touch9, row9, touch11, notes, other_with, noted_good, noted, row11}
use Rattle.history.specs.View.{In}
use Rattle.history.specs.Shared.{Desc, Shared, Failed}
use Rattle.history.specs.Change.{mark}
use Rattle.history.specs.Effects.{swaps}
use Rattle.history.specs.Run.{Step, changes, rests, step_swaps}
use Rattle.history.proofs.Invariant.{Sound}
use Rattle.history.proofs.Lasting.{grown}
use Rattle.history.proofs.Touch.{p_used, child_used}
use Rattle.history.proofs.Newer.{been_p}
use Rattle.history.proofs.Stacks.{stack_push}
use Rattle.history.proofs.Helping.{Noted, noted_first}
use Rattle.history.proofs.Helps.{Marks, Notes, notes_skip, notes-take, never_a_second, always_one, all_noted}
use Rattle.history.proofs.Descent.{read_now}
use Rattle.history.proofs.Knows.{Mind, KnowsAt, Owns, none_yet, owns, Serves}
use Rattle.history.proofs.Serving as serving
use Rattle.link.specs.Tables.{view_of, tables_of, stack_of}
use Rattle.link.proofs.Writes.{Writes, writes_none, writes_node, writes_stack, writes_tables, pend_swap, tables_same, stack_same, stack_over_stack, stack_new}
use Rattle.link.proofs.Checks.{word_names, pending_good_lem, below_good}
use Rattle.link.proofs.Minds.{NewerBy, newer_same, newer_stack, no_find, mind_of, CountersBy, held_more, stack_room}
use Rattle.link.proofs.Moments.{tables, Now, Busy, Follows, already, afterwards, nobody, Turn, k_low, now_sound, late_at, quiet}
use Rattle.link.proofs.Seeing.{counters_help, held_other, Loose, free, below, helps_on}
use Rattle.link.proofs.Searching.{known}
use Rattle.link.proofs.Scanning.{nonempty_is}
use Rattle.link.proofs.Serving.{serves_stays, written, stacks_node, stack_at_lem, goes_on}

module _ {hs : ℕ → Header} {bs : ℕ → List ℕ} {i j n : ℕ} (now : Now hs bs j) (q : Process) (y : Busy hs bs i j n q) where
  abbrev h : Header
  h = hs j

  abbrev b : List ℕ
  b = bs j

  abbrev k : ℕ
  k = (hs j).k

  abbrev S : ℕ → Shared
  S = tables hs bs

  abbrev mind : Mind
  mind = mind_of (hs j) (bs j) n q

  abbrev r : ℕ
  r = q.helped

  abbrev P : ℕ
  P = record_word b h r p_field

  I : Sound k (S j)
  I = now_sound now

  hk : 2 ≤ k
  hk = k_low now

  module _ (e₉ : q.point ≡ 9) where
    w₉ : Serves k (S j) mind 9
    w₉ = known now q y 9 e₉

    kind : record_word b h r 0 ≡ 2
    kind = w₉.helps

    u₉ : In h.nodesused P
    u₉ = p_used I.inv r w₉.used

    r_late : (hs 0).recordsused < r
    r_late = y.newer.helped_late (λ z. omega (arith, w₉.used.low))

    abbrev seen : ℕ
    seen = pending_word b h P

    eleven : CountersBy k (to_eleven q r)
    eleven =
        counters_help 11 1 q.depth q.own y.counters (no_find y.counters (omega arith)) (omega arith) (omega arith) (omega (arith, hk)) (λ z. absurd (omega arith)) (λ z x. omega arith) (λ z. absurd (omega arith))

    -- the mark is made
    abbrev marked_block : List ℕ
    marked_block = set b (node_at h P (pending_place k)) (4 * r + 3)

    place : Inside h (in_node P (pending_place k))
    place = record { from_one = u₉.low; to_last = omega (arith, u₉.high, now.fit.limits.used_high); within = omega arith }

    mark_writes : Writes h b marked_block P (pending_place k)
    mark_writes = writes_node P (pending_place k) (4 * r + 3) place

    mark_word : node_word marked_block h P (pending_place k) ≡ 4 * r + 3
    mark_word = read_same h b (in_node P (pending_place k)) (4 * r + 3) place now.fit.long

    mark_stack : (p : ℕ) → In h.processes p → stack_of h marked_block p ≡ stack_of h b p
    mark_stack p x = stacks_node now q y P (pending_place k) (4 * r + 3) u₉ (omega arith) p x

    step₉ : seen ≡ record_word b h r expected_field → Step k (S j) (tables_of h marked_block)
    step₉ x = changes (mark r w₉.used kind x (pend_swap now.fit mark_writes (4 * r + 3) mark_word) (writes_tables now.fit mark_writes))

    marks_now : Marks (tables_of h marked_block) r
    unfolding Marks
    marks_now =
        subst (λ (d : Desc). (d.kind ≡ 2) × ((view_of h marked_block).pend d.p ≡ 4 * r + 3)) (sym ((writes_tables now.fit mark_writes).rec_same r w₉.used)) (kind, mark_word)

    marked_after : seen ≡ record_word b h r expected_field → Follows hs bs i j n h marked_block q (going_on (to_eleven q r))
    marked_after x =
        afterwards (to_eleven q r) refl (λ d. absurd (d refl)) (held_other 0 (inl refl) (held_more (grown hk I (step₉ x)) y.held)) (newer_same (mark_stack n y.place) y.newer) eleven (omega arith)
        (goes_on h b marked_block n 9 11 q (to_eleven q r) refl refl refl refl refl (mark_stack n y.place) (λ z. omega arith) (λ z. omega arith)
        (serves_stays mind 9 hk I (step₉ x) (omega arith) w₉) (record { marks = marks_now; noted = noted_first }))

    -- the mark was there
    marked_before : seen ≡ 4 * r + 3 → Follows hs bs i j n h b q (going_on (to_eleven q r))
    unfolding Marks
    marked_before x =
        already (to_eleven q r) refl (λ d. absurd (d refl)) (held_other 0 (inl refl) y.held) y.newer eleven
        (goes_on h b b n 9 11 q (to_eleven q r) refl refl refl refl refl refl (λ z. omega arith) (λ z. omega arith) w₉ (record { marks = (kind, x); noted = noted_first }))

    -- a push
    module _ (moved : seen ≢ record_word b h r expected_field) (unmarked : seen ≢ 4 * r + 3) where
      failed : Failed (S j).view ((S j).rec r) r
      failed = record { prune = kind; moved = moved; unmarked = unmarked }

      over : (a : ℕ) → ℕ
      over a = pick (eqb a q.depth) r (stack_of h b n a)

      room : q.depth < depth_of h
      unfolding over pick
      room =
          stack_room q now.fit I y.counters
          (stack_push {f = stack_of h b n} {f' = over} (λ a l. rw (ne_eqb a q.depth (λ z. omega arith)) refl) (rw (eq-eqb q.depth q.depth refl) refl) w₉.used failed (w₉.goes_on refl)
          w₉.stacked)

      abbrev pushed_block : List ℕ
      pushed_block = set b (stack_at h n q.depth) r

      slot : Inside h (in_stack n q.depth)
      slot = record { from_one = y.place.low; to_last = y.place.high; within = room }

      others : (p : ℕ) → In h.processes p → p ≢ n → stack_of h pushed_block p ≡ stack_of h b p
      others p x z =
          stack_same h b pushed_block p
          (λ d g. stack_over_stack h b p d (record { from_one = x.low; to_last = x.high; within = g }) n q.depth r slot (λ e. z e.0))

      same : (a : ℕ) → a < q.depth → stack_of h pushed_block n a ≡ stack_of h b n a
      same a l =
          let g : a < depth_of h = omega (arith, room) in
          stack_at_lem h pushed_block n a g
          ∙ stack_over_stack h b n a (record { from_one = y.place.low; to_last = y.place.high; within = g }) n q.depth r slot (λ e. omega (arith, e.1))
          ∙ sym (stack_at_lem h b n a g)

      new : stack_of h pushed_block n q.depth ≡ r
      new = stack_at_lem h pushed_block n q.depth room ∙ stack_new h b n q.depth slot r now.fit.long

      abbrev deeper : Process
      deeper = with_depth q (q.depth + 1)

      loose : Owns (S j) mind → Loose (S j) n q.operation q.key (q.depth + 1) q.own (stack_of h pushed_block n)
      loose (none_yet e) = free e
      loose (owns u a c f g o) = below (omega arith) u a c f (bottom (ℕ_discrete q.depth 0))
        where
          bottom : Dec (q.depth ≡ 0) → stack_of h pushed_block n 0 ≡ q.own
          bottom (yes e) = subst (λ (m : ℕ). stack_of h pushed_block n m ≡ r) e new ∙ g e
          bottom (no e) = same 0 (omega arith) ∙ o (omega arith)

      newer : NewerBy (hs 0).recordsused (stack_of h pushed_block n) deeper
      newer = newer_stack (λ d l. entry d l (ℕ_discrete d q.depth)) y.newer
        where
          entry : (d : ℕ) → d < q.depth + 1 → Dec (d ≡ q.depth) → (hs 0).recordsused < stack_of h pushed_block n d
          entry d l (yes e) = rw (e, new) r_late
          entry d l (no e) = rw (same d (omega arith)) (y.newer.stack_late d (omega arith))

      pushes : Follows hs bs i j n h pushed_block q (helping r deeper (pending_of seen))
      pushes =
          helps_on n now q deeper pushed_block r y.since
          (rw e₉ (counters_help 9 q.index (q.depth + 1) q.own y.counters (no_find y.counters (omega arith)) (omega arith) (omega arith) y.counters.index_high (λ z. absurd (omega arith)) (λ z x. absurd (omega arith)) (λ z. omega arith)))
          y.held newer (no_find y.counters (omega arith)) (serving.pushed (mind_of h pushed_block n deeper) w₉ failed (add-one q.depth) same new) (loose w₉.own)
          (λ d z. sym (subst (λ (m : ℕ). stack_of h pushed_block n m ≡ r) (is d z) new)) refl (λ z. absurd (omega arith)) (read_now I u₉)
          (late_at now (been_p hk now.run now.first j r (omega arith) r_late w₉.used.high))
          (λ m z. serving.met_there (mind_of h pushed_block n deeper) w₉ failed (add-one q.depth) same new z)
        where
          is : (d : ℕ) → q.depth + 1 ≡ suc d → q.depth ≡ d
          is d z = omega arith

      push_writes : Writes h b pushed_block 0 (2 * k)
      push_writes = writes_stack n q.depth r slot (writes_none 0 (2 * k))

      rest₉ : Step k (S j) (tables_of h pushed_block)
      rest₉ = rests (tables_same now.fit push_writes)

      rest_none : step_swaps k rest₉ ≡ 0
      unfolding rest₉ step_swaps
      rest_none = refl

    step_none : (x : seen ≡ record_word b h r expected_field) → step_swaps k (step₉ x) ≡ 0
    unfolding step₉ step_swaps swaps
    step_none x = refl

    pub turn_9 : Turn hs bs i j n q (row9 b h n q).sound (row9 b h n q).stepped (row9 b h n q).block
    unfolding row9 pick
    turn_9 = go (eqb seen (record_word b h r expected_field)) refl (eqb seen (4 * r + 3)) refl
      where
        seen_sound : seen_good b h (touch9 b h q) ≡ true
        seen_sound = pending_good_lem b h (pending_of seen) (word_names (S j) (I.inv.pending P u₉))

        go : (x : Bool) → eqb seen (record_word b h r expected_field) ≡ x → (z : Bool) → eqb seen (4 * r + 3) ≡ z
            → Turn hs bs i j n q (both (seen_good b h (touch9 b h q)) (either (pick x true z) (ltb q.depth (depth_of h))))
            (pick (pick x true z) (going_on (to_eleven q r)) (helping r (with_depth q (q.depth + 1)) (pending_of seen)))
            (pick (pick x true z) (pick x marked_block b) (set b (stack_at h n q.depth) r))
        go true x z v =
            let f = eqb-true seen (record_word b h r expected_field) x in
            written now q y mark_writes (both_is seen_sound refl) (step₉ f) (nobody (λ a. absurd (omega arith)) (λ a. absurd (omega arith)) (step_none f)) (λ p d a. mark_stack p d) (marked_after f)
        go false x true v =
            quiet now (λ a. absurd (omega arith)) (λ a. absurd (omega arith)) (both_is seen_sound refl) (marked_before (eqb-true seen (4 * r + 3) v))
        go false x false v =
            let f = eqb-false seen (record_word b h r expected_field) x in
            let g = eqb-false seen (4 * r + 3) v in
            written now q y (push_writes f g) (both_is seen_sound (lt-ltb q.depth (depth_of h) (room f g))) (rest₉ f g)
            (nobody (λ a. absurd (omega arith)) (λ a. absurd (omega arith)) (rest_none f g)) (others f g) (pushes f g)

  module _ (e₁₁ : q.point ≡ 11) where
    w₁₁ : Serves k (S j) mind 11
    w₁₁ = known now q y 11 e₁₁

    u₁₁ : In h.nodesused P
    u₁₁ = p_used I.inv r w₁₁.used

    f₁₁ : tag_word b h P ≡ k
    f₁₁ = (I.inv.good r w₁₁.used).inner

    i₁₁ : In k q.index
    i₁₁ = record { low = y.counters.index_11 (omega arith) (omega arith); high = y.counters.index_high }

    abbrev child : ℕ
    child = child_word b h P q.index

    abbrev L : ℕ
    L = record_word b h r l_field

    c_used : In h.nodesused child
    c_used = child_used I.inv.shape P q.index u₁₁ f₁₁ i₁₁

    noting_is : notes b h q child ≡ both (not (eqb (tag_word b h child) 0)) (not (eqb child L))
    noting_is = ap (λ (t : Bool). both t (not (eqb child L))) (nonempty_is b h child (omega (arith, hk)) (I.inv.shape.tags child c_used))

    -- one child more is read, and `other` is noted so far
    module _ (other : ℕ) (w : Notes k (S j) r (suc q.index) other) (g : (other ≡ 0) ⊎ In h.nodesused other) where
      more : Follows hs bs i j n h b q (noted h q other)
      unfolding pick
      more = go (ltb q.index k) refl
        where
          go : (t : Bool) → ltb q.index k ≡ t → Follows hs bs i j n h b q (pick t (going_on (with_index (with_other q other) (q.index + 1))) (going_on (to_twelve (with_other q other))))
          go true x =
              already (with_index (with_other q other) (q.index + 1)) refl (λ d. absurd (d refl)) (held_other other g y.held) y.newer
              (rw e₁₁ (counters_help 11 (q.index + 1) q.depth q.own y.counters (no_find y.counters (omega arith)) (omega arith) (omega arith) (omega (arith, ltb-true q.index k x)) (λ z. absurd (omega arith)) (λ z v. omega arith) (λ z. absurd (omega arith))))
              (subst (λ (m : ℕ). KnowsAt k S i j (mind_of h b n (with_index (with_other q other) (q.index + 1))) m) (sym e₁₁)
              (goes_on h b b n 11 11 q (with_index (with_other q other) (q.index + 1)) refl refl refl refl refl refl (λ z. omega arith) (λ z. omega arith) w₁₁ (rw (add-one q.index) w)))
          go false x =
              already (to_twelve (with_other q other)) refl (λ d. absurd (d refl)) (held_other other g y.held) y.newer
              (counters_help 12 1 q.depth q.own y.counters (no_find y.counters (omega arith)) (omega arith) (omega arith) (omega (arith, hk)) (λ z. absurd (omega arith)) (λ z v. omega arith) (λ z. absurd (omega arith)))
              (goes_on h b b n 11 12 q (to_twelve (with_other q other)) refl refl refl refl refl refl (λ z. omega arith) (λ z. omega arith) w₁₁
              (all_noted hk I r w₁₁.used (subst (λ (m : ℕ). Notes k (S j) r (suc m) other) (last (ltb-false q.index k x)) w)))
            where
              last : k ≤ q.index → q.index ≡ k
              last l = omega (arith, i₁₁.high)

      -- at the end there is one
      one_there : either (ltb q.index k) (not (eqb other 0)) ≡ true
      unfolding pick
      one_there = go (ltb q.index k) refl
        where
          some : q.index ≡ k → other ≢ 0
          some z v =
              let a = always_one hk I r w₁₁.used w.marks (subst (λ (m : ℕ). Noted k (S j).view P L (suc m) other) z w.noted) in
              omega (arith, a.2, I.inv.shape.above P a.0 u₁₁ f₁₁ a.1)

          go : (t : Bool) → ltb q.index k ≡ t → pick t true (not (eqb other 0)) ≡ true
          go true x = refl
          go false x = ap not (ne_eqb other 0 (some (omega (arith, ltb-false q.index k x, i₁₁.high))))

    pub turn_11 : Turn hs bs i j n q (row11 b h q).sound (row11 b h q).stepped (row11 b h q).block
    unfolding row11 pick
    turn_11 = go (notes b h q child) refl
      where
        good : child_good b h P (touch11 b h q) ≡ true
        good = below_good b h P child (I.inv.shape.above P q.index u₁₁ f₁₁ i₁₁) c_used (I.inv.shape.tags child c_used)

        skip : both (not (eqb (tag_word b h child) 0)) (not (eqb child L)) ≡ false → (child ≡ L) ⊎ (tag_word b h child ≡ 0)
        skip e = by (eqb (tag_word b h child) 0) refl (eqb child L) refl e
          where
            by : (s : Bool) → eqb (tag_word b h child) 0 ≡ s → (t : Bool) → eqb child L ≡ t → both (not s) (not t) ≡ false → (child ≡ L) ⊎ (tag_word b h child ≡ 0)
            by true x t z v = inr (eqb-true (tag_word b h child) 0 x)
            by false x true z v = inl (eqb-true child L z)
            by false x false z v = absurd (no v)
              where
                no : both (not false) (not false) ≡ false → ⊥
                no v = let a : true ≡ false = sym (both_is {s = true} {t = true} refl refl) ∙ v in let c : ◌≡◌ {A = ℕ} 0 1 = cc in omega arith

        go : (t : Bool) → notes b h q child ≡ t → Turn hs bs i j n q (both (child_good b h P (touch11 b h q)) (noted_good h q child t)) (noted h q (other_with q child t)) b
        go true e =
            let f = sym noting_is ∙ e in
            let full : tag_word b h child ≢ 0 = eqb-false (tag_word b h child) 0 (not-true _ (both_1 _ _ f)) in
            let apart : child ≢ L = eqb-false child L (not-true _ (both_2 _ _ f)) in
            let w = notes-take hk I r w₁₁.used w₁₁.helps i₁₁ full apart in
            quiet now (λ a. absurd (omega arith)) (λ a. absurd (omega arith))
            (both_is good (both_is (eq-eqb q.other 0 (never_a_second hk I r w₁₁.used w₁₁.helps i₁₁ full apart)) (one_there child w (inr c_used))))
            (more child w (inr c_used))
        go false e =
            let w = notes_skip hk I r w₁₁.used w₁₁.helps (skip (sym noting_is ∙ e)) in
            quiet now (λ a. absurd (omega arith)) (λ a. absurd (omega arith)) (both_is good (both_is refl (one_there q.other w y.held.other_good_lem))) (more q.other w y.held.other_good_lem)
