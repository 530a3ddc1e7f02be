-- Rows 6, 7, 12 and 13: a helper looks for a child, and swaps it.
use Prim.Native.Nat.{ℕ, suc, ◌+◌, ◌*◌, ◌≤◌, ◌<◌}
use mathlib.Core.Path.{◌≡◌, refl, sym, subst}
use mathlib.Core.Logic.{◌≢◌}
use mathlib.Core.Bool.{Bool, true, false}
use mathlib.Core.List.{List}
use native.Mathlib.Omega.{arith}
use native.Mathlib.Numerals.{add-one}
use lib.Dec.{ltb, eqb}
use lib.ListN.{set}
use borrow.Author.Tests.{eqb-true, eqb-false, lt-ltb}
use Rattle.tables.specs.Choice.{pick, both}
use Rattle.tables.specs.Layout.{node_at, tag_word, child_word, record_word, child_place, l_field, p_field, third_field}
use Rattle.tables.specs.Place.{in_node, Inside}
use Rattle.tables.specs.declared.header.Header.{Header}
use Rattle.tables.proofs.Places.{read_same}
use Rattle.tables.proofs.Picks.{both_is}
use Rattle.process.specs.declared.Process.{Process}
use Rattle.process.specs.Process.{with_point, with_index}
use Rattle.process.specs.Answer.{going_on}
use Rattle.help.specs.Reads.{child_good, swap_child}
use Rattle.finish.specs.Rows.{hang_row, row6, row7, row12, row13}
use Rattle.history.specs.View.{In}
use Rattle.history.specs.Shared.{Shared}
use Rattle.history.specs.Change.{SwapChild, SameTables, swap_replace, swap_prune}
use Rattle.history.specs.Effects.{swaps, Noted}
use Rattle.history.specs.Run.{Step, changes, step_swaps}
use Rattle.history.proofs.Invariant.{Sound}
use Rattle.history.proofs.ChildWords.{swaps_new, swaps_noted}
use Rattle.history.proofs.Lasting.{grown}
use Rattle.history.proofs.Touch.{child_used, p_used, gp_used}
use Rattle.history.proofs.Helps.{Marks, Helps, LooksForL, LooksForP, l_found, l_not_here, l_nowhere, l_swapped_before, p_found, p_not_here, p_nowhere, p_swapped_before, always_one, swap_ends}
use Rattle.history.proofs.Knows.{Mind, KnowsAt, Serves}
use Rattle.link.specs.Tables.{view_of, tables_of, stack_of}
use Rattle.link.proofs.Writes.{Writes, writes_node, writes_tables, child_swap}
use Rattle.link.proofs.Checks.{below_good}
use Rattle.link.proofs.Minds.{newer_same, no_find, mind_of, CountersBy, held_more}
use Rattle.link.proofs.Moments.{tables, Now, Busy, Follows, already, afterwards, Swapper, at_7, at_13, Turn, k_low, now_sound, quiet}
use Rattle.link.proofs.Seeing.{counters_help}
use Rattle.link.proofs.Searching.{known}
use Rattle.link.proofs.Serving.{serves_stays, written, stacks_node, looks, goes_on}

module _ {hs : ℕ → Header} {bs : ℕ → List ℕ} {i j n : ℕ} (now : Now hs bs j) (q : Process) (y : Busy hs bs i j n q) where
  abbrev h : Header
  h = hs j

  abbrev b : List ℕ
  b = bs j

  abbrev k : ℕ
  k = (hs j).k

  abbrev S : ℕ → Shared
  S = tables hs bs

  abbrev mind : Mind
  mind = mind_of (hs j) (bs j) n q

  abbrev r : ℕ
  r = q.helped

  abbrev P : ℕ
  P = record_word b h r p_field

  abbrev T : ℕ
  T = record_word b h r third_field

  I : Sound k (S j)
  I = now_sound now

  hk : 2 ≤ k
  hk = k_low now

  -- another point, the same record helped
  module _ (from : ℕ) (e : q.point ≡ from) (l : 6 ≤ from) (w : Serves k (S j) mind from) where
    counters : (point index : ℕ) → 6 ≤ point → point ≤ 14 → index ≤ k → 1 ≤ index → point ≢ 10 → CountersBy k (with_point (with_index q index) point)
    counters point index a c g m t =
        counters_help point index q.depth q.own y.counters (no_find y.counters (omega arith)) a c g (λ z. m) (λ z x. m) (λ z. absurd (t z))

    -- and nothing is written, or one child word
    serving : (b' : List ℕ) (s : Shared) (point index : ℕ) → point ≢ 9 → point ≢ 10 → stack_of h b' n ≡ stack_of h b n → Serves k s mind from → Helps k s r index q.other point
        → Serves k s (mind_of h b' n (with_point (with_index q index) point)) point
    serving b' s point index z z₁₀ x v u = goes_on h b b' n from point q (with_point (with_index q index) point) refl refl refl refl refl x z z₁₀ v u

  module _ (e₆ : q.point ≡ 6) where
    w₆ : Serves k (S j) mind 6
    w₆ = known now q y 6 e₆

    i₆ : In k q.index
    i₆ = record { low = y.counters.index_6 (omega arith) (omega arith); high = y.counters.index_high }

    pub turn_6 : Turn hs bs i j n q (row6 b h q).sound (row6 b h q).stepped (row6 b h q).block
    unfolding row6
    turn_6 =
        looks now q y P (record_word b h r l_field) 7 8 (λ z. omega arith) (λ z. omega arith) (p_used I.inv r w₆.used) (I.inv.good r w₆.used).inner i₆
        (λ x. already (with_point q 7) refl (λ d. absurd (d refl)) y.held y.newer (counters 6 e₆ (omega arith) w₆ 7 q.index (omega arith) (omega arith) i₆.high i₆.low (λ z. omega arith))
        (serving 6 e₆ (omega arith) w₆ b (S j) 7 q.index (λ z. omega arith) (λ z. omega arith) refl w₆ (l_found hk I r w₆.used w₆.helps i₆ x)))
        (λ x l. already (with_index q (q.index + 1)) refl (λ d. absurd (d refl)) y.held y.newer
        (rw e₆ (counters 6 e₆ (omega arith) w₆ 6 (q.index + 1) (omega arith) (omega arith) (omega arith) (omega arith) (λ z. omega arith)))
        (subst (λ (m : ℕ). KnowsAt k S i j (mind_of h b n (with_index q (q.index + 1))) m) (sym e₆)
        (goes_on h b b n 6 6 q (with_index q (q.index + 1)) refl refl refl refl refl refl (λ z. omega arith) (λ z. omega arith) w₆
        (rw (add-one q.index) (l_not_here hk I r w₆.used w₆.helps x)))))
        (λ x l. already (with_point q 8) refl (λ d. absurd (d refl)) y.held y.newer (counters 6 e₆ (omega arith) w₆ 8 q.index (omega arith) (omega arith) i₆.high i₆.low (λ z. omega arith))
        (serving 6 e₆ (omega arith) w₆ b (S j) 8 q.index (λ z. omega arith) (λ z. omega arith) refl w₆
        (l_nowhere hk I r w₆.used (subst (λ (m : ℕ). LooksForL k (S j) r (suc m)) l (l_not_here hk I r w₆.used w₆.helps x)))))

  module _ (e₁₂ : q.point ≡ 12) where
    w₁₂ : Serves k (S j) mind 12
    w₁₂ = known now q y 12 e₁₂

    i₁₂ : In k q.index
    i₁₂ = record { low = y.counters.index_11 (omega arith) (omega arith); high = y.counters.index_high }

    pub turn_12 : Turn hs bs i j n q (row12 b h q).sound (row12 b h q).stepped (row12 b h q).block
    unfolding row12 Marks
    turn_12 =
        looks now q y T P 13 14 (λ z. omega arith) (λ z. omega arith) (gp_used I.inv r w₁₂.used w₁₂.helps.notes.marks.0) ((I.inv.good r w₁₂.used).prune w₁₂.helps.notes.marks.0).gp_inner i₁₂
        (λ x. already (with_point q 13) refl (λ d. absurd (d refl)) y.held y.newer (counters 12 e₁₂ (omega arith) w₁₂ 13 q.index (omega arith) (omega arith) i₁₂.high i₁₂.low (λ z. omega arith))
        (serving 12 e₁₂ (omega arith) w₁₂ b (S j) 13 q.index (λ z. omega arith) (λ z. omega arith) refl w₁₂ (p_found hk I r w₁₂.used w₁₂.helps i₁₂ x)))
        (λ x l. already (with_index q (q.index + 1)) refl (λ d. absurd (d refl)) y.held y.newer
        (rw e₁₂ (counters 12 e₁₂ (omega arith) w₁₂ 12 (q.index + 1) (omega arith) (omega arith) (omega arith) (omega arith) (λ z. omega arith)))
        (subst (λ (m : ℕ). KnowsAt k S i j (mind_of h b n (with_index q (q.index + 1))) m) (sym e₁₂)
        (goes_on h b b n 12 12 q (with_index q (q.index + 1)) refl refl refl refl refl refl (λ z. omega arith) (λ z. omega arith) w₁₂
        (rw (add-one q.index) (p_not_here hk I r w₁₂.used w₁₂.helps x)))))
        (λ x l. already (with_point q 14) refl (λ d. absurd (d refl)) y.held y.newer (counters 12 e₁₂ (omega arith) w₁₂ 14 q.index (omega arith) (omega arith) i₁₂.high i₁₂.low (λ z. omega arith))
        (serving 12 e₁₂ (omega arith) w₁₂ b (S j) 14 q.index (λ z. omega arith) (λ z. omega arith) refl w₁₂
        (p_nowhere hk I r w₁₂.used (subst (λ (m : ℕ). LooksForP k (S j) r (suc m) q.other) l (p_not_here hk I r w₁₂.used w₁₂.helps x)))))

  -- 7, 13: the block if the swap is made
  abbrev hung : ℕ → ℕ → List ℕ
  hung parent to = set b (node_at h parent (child_place k q.index)) to

  module _ (parent from to next : ℕ) (u : In h.nodesused parent) (f : tag_word b h parent ≡ k) (s : In k q.index) (up : parent < to) where
    child_place_lem : Inside h (in_node parent (child_place k q.index))
    child_place_lem = record { from_one = u.low; to_last = omega (arith, u.high, now.fit.limits.used_high); within = omega (arith, s) }

    hung_writes : Writes h b (hung parent to) parent (child_place k q.index)
    hung_writes = writes_node parent (child_place k q.index) to child_place_lem

    hung_swap : SwapChild k h.nodesused (view_of h b) (view_of h (hung parent to)) parent q.index to
    hung_swap = child_swap now.fit s hung_writes to (read_same h b (in_node parent (child_place k q.index)) to child_place_lem now.fit.long)

    hung_tables : SameTables (S j) (tables_of h (hung parent to))
    hung_tables = writes_tables now.fit hung_writes

    hung_stack : (m : ℕ) → In h.processes m → stack_of h (hung parent to) m ≡ stack_of h b m
    hung_stack m p = stacks_node now q y parent (child_place k q.index) to u (omega (arith, s)) m p

    hangs : (child_word b h parent q.index ≡ from
        → (c : Step k (S j) (tables_of h (hung parent to))) × Swapper hs bs j q (tables_of h (hung parent to)) c × Follows hs bs i j n h (hung parent to) q (going_on (with_point q next)))
        → (child_word b h parent q.index ≢ from
        → (q.point ≡ 7 → child_word b h P q.index ≢ record_word b h r l_field) × (q.point ≡ 13 → child_word b h T q.index ≢ P)
        × Follows hs bs i j n h b q (going_on (with_point q next)))
        → Turn hs bs i j n q (hang_row b h q parent from to next).sound (hang_row b h q parent from to next).stepped (hang_row b h q parent from to next).block
    unfolding hang_row pick
    hangs yes-then no-then = go (eqb child from) refl
      where
        child : ℕ
        child = child_word b h parent q.index

        c_used : In h.nodesused child
        c_used = child_used I.inv.shape parent q.index u f s

        sound : both (child_good b h parent (swap_child h parent q.index from to)) (ltb parent to) ≡ true
        sound =
            both_is (below_good b h parent child (I.inv.shape.above parent q.index u f s) c_used (I.inv.shape.tags child c_used)) (lt-ltb parent to up)

        go : (t : Bool) → eqb child from ≡ t → Turn hs bs i j n q (both (child_good b h parent (swap_child h parent q.index from to)) (ltb parent to))
            (going_on (with_point q next)) (pick t (hung parent to) b)
        go true x = let v = yes-then (eqb-true child from x) in written now q y hung_writes sound v.0 v.1 (λ m p d. hung_stack m p) v.2
        go false x = let v = no-then (eqb-false child from x) in quiet now v.0 v.1 sound v.2

  module _ (e₇ : q.point ≡ 7) where
    w₇ : Serves k (S j) mind 7
    w₇ = known now q y 7 e₇

    i₇ : In k q.index
    i₇ = record { low = y.counters.index_6 (omega arith) (omega arith); high = y.counters.index_high }

    u₇ : In h.nodesused P
    u₇ = p_used I.inv r w₇.used

    up₇ : P < T
    up₇ = omega (arith, (I.inv.good r w₇.used).above, ((I.inv.good r w₇.used).replace w₇.helps.kind).new_above)

    f₇ : tag_word b h P ≡ k
    f₇ = (I.inv.good r w₇.used).inner

    step₇ : child_word b h P q.index ≡ record_word b h r l_field → Step k (S j) (tables_of h (hung P T))
    step₇ x = changes (swap_replace r q.index w₇.used w₇.helps.kind i₇ x (hung_swap P 0 T 0 u₇ f₇ i₇ up₇) (hung_tables P 0 T 0 u₇ f₇ i₇ up₇))

    is₇ : (x : child_word b h P q.index ≡ record_word b h r l_field) → step_swaps k (step₇ x) ≡ r
    unfolding step₇ step_swaps swaps
    is₇ x = refl

    pub turn_7 : Turn hs bs i j n q (row7 b h q).sound (row7 b h q).stepped (row7 b h q).block
    unfolding row7
    turn_7 =
        hangs P (record_word b h r l_field) T 8 u₇ f₇ i₇ up₇
        (λ x. (
          step₇ x,
          at_7 e₇ x (is₇ x) (swaps_new hk I r q.index q.other w₇.used w₇.helps.kind i₇ x (hung_swap P 0 T 0 u₇ f₇ i₇ up₇)),
          afterwards (with_point q 8) refl (λ d. absurd (d refl)) (held_more (grown hk I (step₇ x)) y.held)
              (newer_same (hung_stack P 0 T 0 u₇ f₇ i₇ up₇ n y.place) y.newer)
              (counters 7 e₇ (omega arith) w₇ 8 q.index (omega arith) (omega arith) i₇.high i₇.low (λ z. omega arith)) (omega arith)
              (serving 7 e₇ (omega arith) w₇ (hung P T) (tables_of h (hung P T)) 8 q.index (λ z. omega arith) (λ z. omega arith) (hung_stack P 0 T 0 u₇ f₇ i₇ up₇ n y.place)
              (serves_stays mind 7 hk I (step₇ x) (omega arith) w₇) (swap_ends hk I (step₇ x) w₇.used.low (is₇ x) w₇.helps.kind)),
        ))
        (λ x. (
          (λ z. x),
          (λ z. absurd (omega arith)),
          already (with_point q 8) refl (λ d. absurd (d refl)) y.held y.newer (counters 7 e₇ (omega arith) w₇ 8 q.index (omega arith) (omega arith) i₇.high i₇.low (λ z. omega arith))
              (serving 7 e₇ (omega arith) w₇ b (S j) 8 q.index (λ z. omega arith) (λ z. omega arith) refl w₇ (l_swapped_before hk I r w₇.used w₇.helps x)),
        ))

  module _ (e₁₃ : q.point ≡ 13) where
    w₁₃ : Serves k (S j) mind 13
    w₁₃ = known now q y 13 e₁₃

    i₁₃ : In k q.index
    i₁₃ = record { low = y.counters.index_11 (omega arith) (omega arith); high = y.counters.index_high }

    kind : record_word b h r 0 ≡ 2
    unfolding Marks
    kind = w₁₃.helps.notes.marks.0

    marked : (view_of h b).pend P ≡ 4 * r + 3
    unfolding Marks
    marked = w₁₃.helps.notes.marks.1

    one : (m : ℕ) × In k m × ((view_of h b).child P m ≡ q.other) × ((view_of h b).tag q.other ≢ 0) × (q.other ≢ record_word b h r l_field)
    one = always_one hk I r w₁₃.used w₁₃.helps.notes.marks w₁₃.helps.notes.noted

    noted : Noted k (S j) ((S j).rec r) q.other
    noted = record { index = one.0; index_in = one.1; child = one.2; non_empty = one.3; not_l = one.4 }

    u₁₃ : In h.nodesused T
    u₁₃ = gp_used I.inv r w₁₃.used kind

    f₁₃ : tag_word b h T ≡ k
    f₁₃ = ((I.inv.good r w₁₃.used).prune kind).gp_inner

    up₁₃ : T < q.other
    up₁₃ =
        omega (
          arith,
          ((I.inv.good r w₁₃.used).prune kind).gp_above,
          one.2,
          I.inv.shape.above P one.0 (p_used I.inv r w₁₃.used) (I.inv.good r w₁₃.used).inner one.1,
        )

    step₁₃ : child_word b h T q.index ≡ P → Step k (S j) (tables_of h (hung T q.other))
    step₁₃ x =
        changes (swap_prune r q.index q.other w₁₃.used kind marked one.0 one.1 one.2 one.3 one.4 i₁₃ x (hung_swap T 0 q.other 0 u₁₃ f₁₃ i₁₃ up₁₃)
        (hung_tables T 0 q.other 0 u₁₃ f₁₃ i₁₃ up₁₃))

    is₁₃ : (x : child_word b h T q.index ≡ P) → step_swaps k (step₁₃ x) ≡ r
    unfolding step₁₃ step_swaps swaps
    is₁₃ x = refl

    pub turn_13 : Turn hs bs i j n q (row13 b h q).sound (row13 b h q).stepped (row13 b h q).block
    unfolding row13
    turn_13 =
        hangs T P q.other 14 u₁₃ f₁₃ i₁₃ up₁₃
        (λ x. (
          step₁₃ x,
          at_13 e₁₃ x (is₁₃ x) (swaps_noted hk I r q.index q.other w₁₃.used kind noted i₁₃ x (hung_swap T 0 q.other 0 u₁₃ f₁₃ i₁₃ up₁₃)),
          afterwards (with_point q 14) refl (λ d. absurd (d refl)) (held_more (grown hk I (step₁₃ x)) y.held)
              (newer_same (hung_stack T 0 q.other 0 u₁₃ f₁₃ i₁₃ up₁₃ n y.place) y.newer)
              (counters 13 e₁₃ (omega arith) w₁₃ 14 q.index (omega arith) (omega arith) i₁₃.high i₁₃.low (λ z. omega arith)) (omega arith)
              (serving 13 e₁₃ (omega arith) w₁₃ (hung T q.other) (tables_of h (hung T q.other)) 14 q.index (λ z. omega arith) (λ z. omega arith) (hung_stack T 0 q.other 0 u₁₃ f₁₃ i₁₃ up₁₃ n y.place)
              (serves_stays mind 13 hk I (step₁₃ x) (omega arith) w₁₃) (swap_ends hk I (step₁₃ x) w₁₃.used.low (is₁₃ x) kind)),
        ))
        (λ x. (
          (λ z. absurd (omega arith)),
          (λ z. x),
          already (with_point q 14) refl (λ d. absurd (d refl)) y.held y.newer (counters 13 e₁₃ (omega arith) w₁₃ 14 q.index (omega arith) (omega arith) i₁₃.high i₁₃.low (λ z. omega arith))
              (serving 13 e₁₃ (omega arith) w₁₃ b (S j) 14 q.index (λ z. omega arith) (λ z. omega arith) refl w₁₃ (p_swapped_before hk I r w₁₃.used w₁₃.helps x)),
        ))
