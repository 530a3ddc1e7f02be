-- Rows 4 and 5: the compare on p's or gp's pending, the draw, the answer full, or help.
use Prim.Native.Nat.{ℕ, ◌+◌, ◌≤◌, ◌<◌}
use mathlib.Core.Path.{◌≡◌, refl, sym, ap, ◌∙◌, subst}
use mathlib.Core.Logic.{◌≢◌, inr}
use mathlib.Core.Bool.{Bool, true, false}
use mathlib.Core.List.{List}
use native.Mathlib.Omega.{arith}
use native.Mathlib.Decide.{dec_le}
use borrow.Author.Tests.{eqb-true, eq-eqb, ne_eqb}
use Rattle.tables.specs.Choice.{pick, both}
use Rattle.tables.specs.Layout.{tag_word, pending_word, record_word, process_field, operation_field, key_field}
use Rattle.nodes.specs.Pending.{word_of, pending_of}
use Rattle.nodes.specs.Node.{kin_of, is_node}
use Rattle.nodes.specs.Keys.{keys_of, rises, holds}
use Rattle.tables.specs.declared.header.Header.{Header}
use Rattle.nodes.specs.declared.node.Kin.{Kin}
use Rattle.nodes.specs.declared.pending.Pending.{Pending}
use Rattle.nodes.specs.declared.pending.Pending.TheVariants.{Clean, Replace, Prune, Mark}
use Rattle.tables.proofs.Picks.{both_1, both_2, both_is, either_some}
use Rattle.process.specs.declared.Process.{Process}
use Rattle.process.specs.declared.Stepped.{Stepped}
use Rattle.process.specs.Process.{with_own, to_six, to_nine}
use Rattle.process.specs.Answer.{answer, going_on, ending_of}
use Rattle.draws.specs.declared.Job.{Job}
use Rattle.draws.specs.Draw.{new_node, new_record, room_for, sprouts, needed_nodes, record_image, replace_drawn, prune_drawn}
use Rattle.draws.proofs.After.{Room, room_is}
use Rattle.help.specs.Touch.{seen_by, succeeds}
use Rattle.help.specs.Help.{top_of, helping, help_good}
use Rattle.help.specs.Reads.{seen_good, kin_at}
use Rattle.flag.specs.Rows.{job_of, flag_good, touch4, touch5, held_good, leaf_good4, room4, row4, row5}
use Rattle.history.specs.View.{In, keys}
use Rattle.history.specs.Shared.{Shared}
use Rattle.history.specs.Change.{draw_replace, draw_prune}
use Rattle.history.specs.Effects.{swaps}
use Rattle.history.specs.Run.{Step, changes, step_swaps}
use Rattle.history.proofs.Invariant.{Sound}
use Rattle.history.proofs.Lasting.{grown}
use Rattle.history.proofs.Runs.{grown_at}
use Rattle.history.proofs.Newer.{been_on}
use Rattle.history.proofs.Descent.{Way, read_now}
use Rattle.history.proofs.Knows.{Mind, Job as Task, to_put, to_take, Replaces, Prunes}
use Rattle.history.proofs.Drawing.{Words, one_more, one_less, sprouts as sprouting, draws_replace, draws_prune, own_replace, own_prune}
use Rattle.link.specs.Tables.{view_of, tables_of}
use Rattle.link.proofs.Keyed.{keys_are, mem-holds, not_holds, sorted_rises}
use Rattle.link.proofs.Draws.{drawn_header, Drew, drew_prune, drew_replace, drew_fit, drew_swap, drew_stack, prune_record, replace_record}
use Rattle.link.proofs.Born.{needs_one, needs_many, born_put, born_take, born_sprout}
use Rattle.link.proofs.Checks.{word_names, kin_leaf, node_good_lem, pending_good_lem}
use Rattle.link.proofs.Minds.{Newer, newer_helped, newer_stack, no_find, only_delete, mind_of, held_more}
use Rattle.link.proofs.Moments.{tables, Now, Busy, no_room, Follows, afterwards, answers, nobody, Turn, k_low, now_sound, late_at, quiet}
use Rattle.link.proofs.Seeing.{counters_help, held_records}
use Rattle.link.proofs.Searching.{known, helps_word}

-- with an empty stack there is no top to be wrong
pub help_good_empty : (b : List ℕ) (h : Header) (depth top : ℕ) → depth ≡ 0 → (v : Pending) → help_good b h depth top v ≡ true
unfolding pick
help_good_empty b h depth top e (Clean r) = rw e refl
help_good_empty b h depth top e (Replace r) = refl
help_good_empty b h depth top e (Prune r) = refl
help_good_empty b h depth top e (Mark r) = refl

-- after a draw by a process every record above `first` has its process in range
drew_owners : {h : Header} {b b' : List ℕ} {first flagged needed kind third expected : ℕ} (j : Job) → Drew h b b' flagged needed kind (record_image kind third expected j)
    → ((r : ℕ) → first < r → r ≤ h.recordsused → In h.processes (record_word b h r process_field)) → In h.processes j.process
    → (r : ℕ) → first < r → r ≤ new_record h → In h.processes (record_word b' h r process_field)
drew_owners {h} {b} {b'} j d f p r low high = go (dec_le r h.recordsused)
  where
    go : Dec (r ≤ h.recordsused) → In h.processes (record_word b' h r process_field)
    go (yes l) = rw (d.rec r process_field (omega arith) (omega arith)) (f r low l)
    go (no l) = let z : r ≡ new_record h = omega arith in rw (z, d.new process_field (omega arith)) p

module _ {hs : ℕ → Header} {bs : ℕ → List ℕ} {i j n : ℕ} (now : Now hs bs j) (q : Process) (y : Busy hs bs i j n q) where
  abbrev h : Header
  h = hs j

  abbrev b : List ℕ
  b = bs j

  abbrev k : ℕ
  k = (hs j).k

  abbrev S : ℕ → Shared
  S = tables hs bs

  abbrev mind : Mind
  mind = mind_of (hs j) (bs j) n q

  abbrev job : Job
  job = job_of n q

  I : Sound k (S j)
  I = now_sound now

  -- another value is seen: it is helped
  sees : (point : ℕ) → q.point ≡ point → point ≤ 5 → q.operation ≢ 1 → (a : ℕ) → Way k S i j q.key a → (top : ℕ)
      → Follows hs bs i j n h b q (helping top q (pending_of (pending_word b h a)))
  sees point e l o a w top =
      helps_word now q y (omega arith) o q y.counters y.held y.newer refl (y.counters.early_depth (omega arith)) (y.counters.early_own (omega arith)) (read_now I w.used)
      (late_at now (been_on (k_low now) now.run now.first w.was)) top

  -- what either draw is: the new record is of this process, and its own
  drew_turn : {b' : List ℕ} {flagged needed kind third expected : ℕ} {s : Stepped} → Drew h b b' flagged needed kind (record_image kind third expected job) → Room h needed
      → q.point ≤ 5 → (c : Step k (S j) (tables_of (drawn_header h needed) b')) → step_swaps k c ≡ 0 → s.process.own ≡ new_record h
      → Follows hs bs i j n (drawn_header h needed) b' q s → Turn hs bs i j n q true s b'
  drew_turn {b'} {needed = needed} drew room l c none own f = record {
    is_sound = refl;
    h' = drawn_header h needed;
    shift = record {
      fit' = drew_fit now.fit drew room;
      k_same = refl;
      processes_same = refl;
      step = c;
      stacks = λ m u d. drew_stack now.fit drew m u;
      owners' = drew_owners job drew now.owners y.place;
      drawn_by = λ r a e. rw (only r a e) (drew.new process_field (omega arith));
    };
    swapper = nobody (λ z. absurd (omega arith)) (λ z. absurd (omega arith)) none;
    drawn_as = λ r a e. rw (only r a e) (own, drew.new operation_field (omega arith), drew.new key_field (omega arith));
    follows = f;
  }
    where
      only : (r : ℕ) → h.recordsused < r → r ≤ new_record h → r ≡ new_record h
      only r a e = omega arith

  -- the new record is newer than all, and the stack is empty
  newer_drawn : {stack : ℕ → ℕ} → q.point ≤ 5 → Newer (hs 0).recordsused q.pseen q.gseen (new_record h) q.depth stack
  newer_drawn l =
      newer_stack (λ d z. absurd (omega (arith, y.counters.early_depth l)))
      (newer_helped (new_record h) (omega (arith, (grown_at (k_low now) now.run now.first 0 j (omega arith) (omega arith)).records_more)) y.newer)

  module _ (e₄ : q.point ≡ 4) where
    w₄ : Replaces k S i j mind
    w₄ = known now q y 4 e₄

    abbrev count : ℕ
    count = tag_word b h q.l

    abbrev needs : ℕ
    needs = needed_nodes h q.operation count

    leaf : count < k
    leaf = omega (arith, I.inv.shape.tags q.l w₄.arrived.leaf.used, w₄.arrived.leaf.leaf)

    p_used : In h.nodesused q.p
    p_used = w₄.arrived.leaf.way.used

    row : keys_of b h q.l count ≡ keys (S j).view q.l
    row = keys_are b h q.l leaf

    held_good_lem : Task (S j).view mind → held_good q.operation (holds q.key (keys_of b h q.l count)) ≡ true
    unfolding pick
    held_good_lem (to_put o m) = rw (eq-eqb q.operation 2 o, row, not_holds q.key (keys (S j).view q.l) m) refl
    held_good_lem (to_take o m) = rw (ne_eqb q.operation 2 (λ z. omega arith), row, mem-holds q.key (keys (S j).view q.l) m) refl

    leaf_sound : leaf_good4 b h q (kin_at b h q.l) ≡ true
    leaf_sound =
        subst (λ (x : Kin). leaf_good4 b h q x ≡ true) (sym (kin_leaf b h q.l leaf))
        (both_is (ap rises row ∙ sorted_rises _ (I.inv.shape.leaf_keys q.l w₄.arrived.leaf.used w₄.arrived.leaf.leaf)) (held_good_lem w₄.job))

    seen_sound : seen_good b h (touch4 h q) ≡ true
    seen_sound = pending_good_lem b h (pending_of (pending_word b h q.p)) (word_names (S j) (I.inv.pending q.p p_used))

    flag_sound : flag_good b h n q (touch4 h q) ≡ true
    flag_sound =
        both_is seen_sound (either_some (succeeds b h (touch4 h q)) _ (inr (help_good_empty b h q.depth (top_of b h n q) (y.counters.early_depth (omega arith)) (pending_of (pending_word b h q.p)))))

    sound : both (is_node (kin_of b h q.l)) (both (leaf_good4 b h q (kin_at b h q.l)) (flag_good b h n q (touch4 h q))) ≡ true
    sound = both_is (node_good_lem b h q.l w₄.arrived.leaf.used (omega (arith, leaf))) (both_is leaf_sound flag_sound)

    -- the draw
    module _ (same : pending_word b h q.p ≡ word_of q.pseen) (room : Room h needs) where
      abbrev b' : List ℕ
      b' = replace_drawn b h job count

      abbrev h' : Header
      h' = drawn_header h needs

      drew : Drew h b b' q.p needs 1 (record_image 1 (new_node h) 0 job)
      drew = drew_replace now.fit job count room p_used

      words : Task (S j).view mind → (t : Bool) → sprouts h q.operation count ≡ t → Words k (S j).view (view_of h' b') (h.nodesused + 1) (new_record h) mind needs
      words (to_put o m) true e =
          sprouting o (eqb-true (count + 1) k (both_2 _ _ e)) (born_sprout now.fit job room p_used leaf e o) (needs_many now.fit job room p_used leaf e)
      words (to_put o m) false e =
          one_more o (omega (arith, leaf, less)) (born_put now.fit job room p_used leaf e o (omega (arith, leaf, less))) (needs_one now.fit job room p_used leaf e)
        where
          less : count + 1 ≢ k
          less z = let x : true ≡ false = sym (both_is (eq-eqb q.operation 2 o) (eq-eqb (count + 1) k z)) ∙ e in let v : ◌≡◌ {A = ℕ} 0 1 = cc in omega arith
      words (to_take o m) true e = absurd (omega (arith, eqb-true q.operation 2 (both_1 _ _ e)))
      words (to_take o m) false e = one_less o (born_take now.fit job room p_used leaf e o m) (needs_one now.fit job room p_used leaf e)

      step : Step k (S j) (tables_of h' b')
      step =
          changes (draw_replace (new_record h) q.p
          (draws_replace {M = mind} (k_low now) now.run now.first y.counters.finite (new_record h) w₄.arrived.e needs w₄.arrived.leaf w₄.job (same ∙ w₄.arrived.p_clean) (words w₄.job (sprouts h q.operation count) refl)
          (drew_swap now.fit drew) refl (replace_record now.fit job count room p_used)))

      drawn : Turn hs bs i j n q true (going_on (to_six (with_own q (new_record h)) (new_record h))) b'
      unfolding step step_swaps swaps
      drawn =
          drew_turn drew room (omega arith) step refl refl
          (afterwards (to_six (with_own q (new_record h)) (new_record h)) refl (λ d z. absurd (z (y.counters.early_own (omega arith))))
          (held_records (new_record h) (new_record h) (omega arith) (omega arith) (held_more (grown (k_low now) I step) y.held))
          (newer_drawn (omega arith))
          (counters_help 6 1 q.depth (new_record h) y.counters (no_find y.counters (omega arith)) (omega arith) (omega arith) (omega (arith, k_low now)) (λ z. omega arith) (λ z x. absurd (omega arith)) (λ z. absurd (omega arith)))
          (omega arith)
          (own_replace (k_low now) (new_record h) (omega arith) refl refl (y.counters.early_depth (omega arith)) (replace_record now.fit job count room p_used).words refl))

    pub turn_4 : Turn hs bs i j n q (row4 b h n q).sound (row4 b h n q).stepped (row4 b h n q).block
    unfolding row4 pick both
    turn_4 = go (succeeds b h (touch4 h q)) refl (room4 b h q) refl
      where
        with_sound : {s : Stepped} {c : List ℕ} → Turn hs bs i j n q true s c
            → Turn hs bs i j n q (both (is_node (kin_of b h q.l)) (both (leaf_good4 b h q (kin_at b h q.l)) (flag_good b h n q (touch4 h q)))) s c
        with_sound {s} {c} t = subst (λ (x : Bool). Turn hs bs i j n q x s c) (sym sound) t

        go : (s : Bool) → succeeds b h (touch4 h q) ≡ s → (r : Bool) → room4 b h q ≡ r
            → Turn hs bs i j n q (both (is_node (kin_of b h q.l)) (both (leaf_good4 b h q (kin_at b h q.l)) (flag_good b h n q (touch4 h q))))
            (pick s (pick r (going_on (to_six (with_own q (new_record h)) (new_record h))) (ending_of q (answer 2))) (helping (top_of b h n q) q (pending_of (seen_by b h (touch4 h q)))))
            (pick (both s r) (replace_drawn b h job count) b)
        go true e true f = with_sound (drawn (eqb-true _ _ e) (room_is h needs f))
        go true e false f = quiet now (λ z. absurd (omega arith)) (λ z. absurd (omega arith)) sound (answers (answer 2) refl (λ z. absurd (z (y.counters.early_own (omega arith)))) (no_room (no_find y.counters (omega arith)) refl (y.counters.early_own (omega arith))))
        go false e r f = quiet now (λ z. absurd (omega arith)) (λ z. absurd (omega arith)) sound (sees 4 e₄ (omega arith) (no_find y.counters (omega arith)) q.p w₄.arrived.leaf.way (top_of b h n q))

  module _ (e₅ : q.point ≡ 5) where
    w₅ : Prunes k S i j mind
    w₅ = known now q y 5 e₅

    delete : q.operation ≡ 3
    delete = only_delete y.counters (omega arith) (λ z. y.counters.insert_5 z e₅)

    gp_used : In h.nodesused q.gp
    gp_used = w₅.delete.up.way.used

    sound₅ : flag_good b h n q (touch5 h q) ≡ true
    sound₅ =
        both_is (pending_good_lem b h (pending_of (pending_word b h q.gp)) (word_names (S j) (I.inv.pending q.gp gp_used)))
        (either_some (succeeds b h (touch5 h q)) _ (inr (help_good_empty b h q.depth (top_of b h n q) (y.counters.early_depth (omega arith)) (pending_of (pending_word b h q.gp)))))

    module _ (same : pending_word b h q.gp ≡ word_of q.gseen) (room : Room h 0) where
      abbrev b₅ : List ℕ
      b₅ = prune_drawn b h job q.gp (word_of q.pseen)

      abbrev h₅ : Header
      h₅ = drawn_header h 0

      drew₅ : Drew h b b₅ q.gp 0 2 (record_image 2 q.gp (word_of q.pseen) job)
      drew₅ = drew_prune now.fit job q.gp (word_of q.pseen) room gp_used

      step₅ : Step k (S j) (tables_of h₅ b₅)
      step₅ =
          changes (draw_prune (new_record h) q.gp
          (draws_prune {M = mind} (k_low now) now.run now.first y.counters.finite (new_record h) w₅.delete w₅.two w₅.one same (drew_swap now.fit drew₅) (omega arith)
          (prune_record now.fit job q.gp (word_of q.pseen) delete room gp_used)))

      drawn₅ : Turn hs bs i j n q true (going_on (to_nine (with_own q (new_record h)) (new_record h))) b₅
      unfolding step₅ step_swaps swaps
      drawn₅ =
          drew_turn drew₅ room (omega arith) step₅ refl refl
          (afterwards (to_nine (with_own q (new_record h)) (new_record h)) refl (λ d z. absurd (z (y.counters.early_own (omega arith))))
          (held_records (new_record h) (new_record h) (omega arith) (omega arith) (held_more (grown (k_low now) I step₅) y.held))
          (newer_drawn (omega arith))
          (counters_help 9 q.index q.depth (new_record h) y.counters (no_find y.counters (omega arith)) (omega arith) (omega arith) y.counters.index_high (λ z. absurd (omega arith)) (λ z x. absurd (omega arith)) (λ z. absurd (omega arith)))
          (omega arith)
          (own_prune (k_low now) (new_record h) (omega arith) refl refl (y.counters.early_depth (omega arith)) delete
          (prune_record now.fit job q.gp (word_of q.pseen) delete room gp_used).words))

    pub turn_5 : Turn hs bs i j n q (row5 b h n q).sound (row5 b h n q).stepped (row5 b h n q).block
    unfolding row5 pick both
    turn_5 = go (succeeds b h (touch5 h q)) refl (room_for h 0) refl
      where
        with_sound : {s : Stepped} {c : List ℕ} → Turn hs bs i j n q true s c → Turn hs bs i j n q (flag_good b h n q (touch5 h q)) s c
        with_sound {s} {c} t = subst (λ (x : Bool). Turn hs bs i j n q x s c) (sym sound₅) t

        go : (s : Bool) → succeeds b h (touch5 h q) ≡ s → (r : Bool) → room_for h 0 ≡ r
            → Turn hs bs i j n q (flag_good b h n q (touch5 h q))
            (pick s (pick r (going_on (to_nine (with_own q (new_record h)) (new_record h))) (ending_of q (answer 2))) (helping (top_of b h n q) q (pending_of (seen_by b h (touch5 h q)))))
            (pick (both s r) (prune_drawn b h job q.gp (word_of q.pseen)) b)
        go true e true f = with_sound (drawn₅ (eqb-true _ _ e) (room_is h 0 f))
        go true e false f = quiet now (λ z. absurd (omega arith)) (λ z. absurd (omega arith)) sound₅ (answers (answer 2) refl (λ z. absurd (z (y.counters.early_own (omega arith)))) (no_room (no_find y.counters (omega arith)) refl (y.counters.early_own (omega arith))))
        go false e r f = quiet now (λ z. absurd (omega arith)) (λ z. absurd (omega arith)) sound₅ (sees 5 e₅ (omega arith) (no_find y.counters (omega arith)) q.gp w₅.delete.up.way (top_of b h n q))
