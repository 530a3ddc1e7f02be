-- "touches one shared word; keys, tags and record fields never change": what an accepted step leaves of the block, place by place.
use Prim.Native.Nat.{ℕ, ◌+◌, ◌*◌, ◌≤◌, ◌<◌}
use mathlib.Core.Path.{◌≡◌, refl, sym, ap, ◌∙◌}
use mathlib.Core.Bool.{Bool, true, false, not}
use mathlib.Core.List.{List}
use mathlib.Core.Logic.{◌⊎◌, inl, inr}
use native.Mathlib.Omega.{arith}
use native.Mathlib.Decide.{ℕ_discrete}
use lib.Dec.{eqb}
use lib.ListN.{length, get_or, set, length-set}
use borrow.Author.Tests.{le-leb}
use Rattle.std.specs.Prelude.{Ok}
use Rattle.tables.specs.Choice.{pick, both}
use Rattle.tables.specs.Numbers.{record_words, numbers_good as in_limits}
use Rattle.tables.specs.Layout.{block_words, node_at, node_word, record_word, tag_word, pending_place}
use Rattle.tables.specs.Header.{header_of, header_from, header_good, header_read}
use Rattle.tables.specs.Place.{Place, in_header, in_node, in_record, in_stack, place_at, Inside}
use Rattle.nodes.specs.Pending.{word_of, replace_kind, prune_kind}
use Rattle.tables.specs.declared.header.Header.{Header}
use Rattle.tables.proofs.Picks.{both_1, both_2, pick_true, pick_false}
use Rattle.tables.proofs.Limits.{read_good}
use Rattle.tables.proofs.Places.{read_same, read_other}
use Rattle.process.specs.declared.Process.{Process}
use Rattle.draws.specs.Draw.{new_node, new_record, needed_nodes, nodes_drawn, replace_drawn, prune_drawn}
use Rattle.draws.proofs.After.{Room, room_is, nodes-length, committed_other, committed_flag, committed_header, committed-length, replace_other, replace_header, replace_length}
use Rattle.help.specs.Touch.{Touch, reads, swaps, touched_node, touched_word, touched, Row, Out}
use Rattle.flag.specs.Rows.{job_of}
use Rattle.points.specs.Rows.{row_of}
use Rattle.points.specs.Step.{step_of}
use Rattle.points.proofs.Accepted.{Accepted, Known, accepted_known, accepted_does}
use Rattle.points.proofs.Leaves.{Shared, place_of, stack_point, own_word, Leaves, by_touch, by_stack, by_replace, by_prune, by_none, row_shares, row_leaves}
use Rattle.points.proofs.Counted.{flag_point, needed_at, flags_at, draws_at, full_at, is_full, step_tells}

-- the places that a step may change beside its touch: in a draw the used counts and what lies past them; at 9 and 10 the one stack word
abbrev pub Beside : List ℕ → Header → ℕ → Process → Row → Place → Type 0
Beside b h n q row (in_header i) = (draws_at b h q row ≡ true) × ((i ≡ 3) ⊎ (i ≡ 5))
Beside b h n q row (in_node m o) = (draws_at b h q row ≡ true) × (h.nodesused < m)
Beside b h n q row (in_record r f) = (draws_at b h q row ≡ true) × (h.recordsused < r)
Beside b h n q row (in_stack m d) = (stack_point q.point ≡ true) × (m ≡ n) × (d ≡ own_word q)

-- the header afterwards: at a draw the two used counts have grown
abbrev pub header_after : List ℕ → Header → Process → Row → Header
header_after b h q row =
    pick (draws_at b h q row) (header_from h.k h.processes h.nodes (h.nodesused + needed_at b h q) h.records (new_record h)) h

-- a swap that finds room draws, and is not full; one that finds none is full, and does not draw
full_none : (m r : Bool) → both m (not r) ≡ true → both m r ≡ false
unfolding both
full_none true true e = sym e
full_none true false e = refl
full_none false r e = refl

draws_not_full : (m r : Bool) → both m r ≡ true → both m (not r) ≡ false
unfolding both
draws_not_full true true e = refl
draws_not_full true false e = sym e
draws_not_full false r e = refl

-- what is left of the block, place by place
module _ (b : List ℕ) (h : Header) where
  touched_other : (t : Touch) → Inside h (place_of t) → (y : Place) → Inside h y → (place_of t ≡ y → ⊥) → get_or (touched b h t) (place_at h y) 0 ≡ get_or b (place_at h y) 0
  unfolding pick
  touched_other (reads node word) i y p d = refl
  touched_other (swaps node word from to) i y p d = go (eqb (node_word b h node word) from)
    where
      go : (t : Bool) → get_or (pick t (set b (node_at h node word) to) b) (place_at h y) 0 ≡ get_or b (place_at h y) 0
      go true = read_other h b (in_node node word) to i y p d
      go false = refl

  touched-length : (t : Touch) → length (touched b h t) ≡ length b
  unfolding pick
  touched-length (reads node word) = refl
  touched-length (swaps node word from to) = go (eqb (node_word b h node word) from)
    where
      go : (t : Bool) → length (pick t (set b (node_at h node word) to) b) ≡ length b
      go true = length-set b (node_at h node word) to
      go false = refl

-- the nodes that a draw needs, by its point
module _ (b : List ℕ) (h : Header) (q : Process) where
  pub needs_4 : q.point ≡ 4 → needed_at b h q ≡ needed_nodes h q.operation (tag_word b h q.l)
  unfolding pick
  needs_4 e = rw e refl

  needs_5 : q.point ≡ 5 → needed_at b h q ≡ 0
  unfolding pick
  needs_5 e = rw e refl

module _ (b : List ℕ) (h : Header) (n : ℕ) (q : Process) (known : Known b h n q) where
  abbrev row : Row
  row = row_of b h n q

  abbrev touch : Touch
  touch = row.touch

  shares : Shared h (touched_node touch) (touched_word touch)
  shares = row_shares b h n q known known.sound

  leaves : Leaves b h n q row
  leaves = row_leaves b h n q known known.sound

  shared_inside : (m o : ℕ) → Shared h m o → Inside h (in_node m o)
  shared_inside m o s = record { from_one = s.from_one; to_last = omega (arith, known.limited); within = omega arith }

  touch_inside : Inside h (place_of touch)
  touch_inside = shared_inside (touched_node touch) (touched_word touch) shares

  room : draws_at b h q row ≡ true → Room h (needed_at b h q)
  room d = room_is h (needed_at b h q) (both_2 _ _ d)

  room_4 : q.point ≡ 4 → draws_at b h q row ≡ true → Room h (needed_nodes h q.operation (tag_word b h q.l))
  room_4 e d = rw (needs_4 b h q e) at (room d)

  row_kept : (y : Place) → Inside h y → (place_of touch ≡ y → ⊥) → (Beside b h n q row y → ⊥) → get_or row.block (place_at h y) 0 ≡ get_or b (place_at h y) 0
  unfolding prune_drawn
  row_kept y i d beside = go leaves
    where
      apart : (x : Place) → Beside b h n q row x → x ≡ y → ⊥
      apart x t e = beside (rw e at t)

      go : Leaves b h n q row → get_or row.block (place_at h y) 0 ≡ get_or b (place_at h y) 0
      go (by_touch f e) = rw e (touched_other b h touch touch_inside y i d)
      go (by_stack v f s l e) =
          rw e
          (read_other h (touched b h touch) (in_stack n (own_word q)) v (record { from_one = known.from_one; to_last = known.to_last; within = l }) y i (apart (in_stack n (own_word q)) (s, refl, refl))
          ∙ touched_other b h touch touch_inside y i d)
      go (by_replace p t u f e) =
          rw e
          (replace_other b h (job_of n q) (tag_word b h q.l) (room_4 p t) u.from_one u.to_used y i
          (apart (in_header 3) (t, inl refl))
          (apart (in_header 5) (t, inr refl))
          (λ z. d (ap place_of f ∙ z))
          (λ r. apart (in_record (new_record h) r) (t, omega arith))
          (λ m o l u. apart (in_node m o) (t, l)))
      go (by_prune p t u f e) =
          rw e
          (committed_other b h prune_kind q.gp (word_of q.pseen) 0 (job_of n q) q.gp (room t).record_left u.from_one (omega (arith, known.limited)) y i
          (apart (in_header 3) (t, inl refl))
          (apart (in_header 5) (t, inr refl))
          (λ z. d (ap place_of f ∙ z))
          (λ r. apart (in_record (new_record h) r) (t, omega arith)))
      go (by_none f e) = rw e refl

  -- the flag of a draw, as the touch says it
  swapped : (node word from to : ℕ) → touch ≡ swaps node word from to → flags_at b h q row ≡ true → node_word (touched b h touch) h (touched_node touch) (touched_word touch) ≡ to
  swapped node word from to e f =
      let s : eqb (node_word b h node word) from ≡ true = rw e at (both_2 _ _ f) in
      rw (e, pick_true _ (set b (node_at h node word) to) b s) (read_same h b (in_node node word) to (rw e at touch_inside) known.long)

  drawn_flags : draws_at b h q row ≡ true → flags_at b h q row ≡ true
  drawn_flags d = both_1 _ _ d

  row_becomes : full_at b h q row ≡ false → node_word row.block h (touched_node touch) (touched_word touch) ≡ node_word (touched b h touch) h (touched_node touch) (touched_word touch)
  unfolding replace_drawn prune_drawn
  row_becomes full = go leaves
    where
      go : Leaves b h n q row → node_word row.block h (touched_node touch) (touched_word touch) ≡ node_word (touched b h touch) h (touched_node touch) (touched_word touch)
      go (by_touch f e) = rw e refl
      go (by_stack v f s l e) =
          rw e
          (read_other h (touched b h touch) (in_stack n (own_word q)) v (record { from_one = known.from_one; to_last = known.to_last; within = l }) (place_of touch) touch_inside
          (λ z. let y : ◌≡◌ {A = ℕ} 0 1 = cc in omega arith))
      go (by_replace p t u f e) =
          ap (λ (x : List ℕ). node_word x h (touched_node touch) (touched_word touch)) e
          ∙ rw f
          (committed_flag (nodes_drawn b h (job_of n q) (tag_word b h q.l)) h replace_kind (new_node h) 0 (needed_nodes h q.operation (tag_word b h q.l)) (job_of n q) q.p (room t).record_left u.from_one
          (omega (arith, known.limited))
          (rw nodes-length known.long))
          ∙ sym (swapped q.p (pending_place h.k) (word_of q.pseen) (4 * new_record h + 1) f (drawn_flags t))
      go (by_prune p t u f e) =
          ap (λ (x : List ℕ). node_word x h (touched_node touch) (touched_word touch)) e
          ∙ rw f
          (committed_flag b h prune_kind q.gp (word_of q.pseen) 0 (job_of n q) q.gp (room t).record_left u.from_one
          (omega (arith, known.limited))
          known.long)
          ∙ sym (swapped q.gp (pending_place h.k) (word_of q.gseen) (4 * new_record h + 2) f (drawn_flags t))
      go (by_none f e) = let y : ◌≡◌ {A = ℕ} 0 1 = cc in absurd (omega arith)

  no_draw : flags_at b h q row ≡ false → draws_at b h q row ≡ false
  unfolding both
  no_draw f = rw f refl

  row_full : full_at b h q row ≡ true → row.block ≡ b
  unfolding both
  row_full full = go leaves
    where
      clash : full_at b h q row ≡ false → row.block ≡ b
      clash f = let z : ◌≡◌ {A = ℕ} 0 1 = cc in absurd (omega arith)

      no_full : flags_at b h q row ≡ false → full_at b h q row ≡ false
      no_full f = rw f refl

      go : Leaves b h n q row → row.block ≡ b
      go (by_touch f e) = clash (no_full f)
      go (by_stack v f s l e) = clash (no_full f)
      go (by_replace p t u f e) = clash (draws_not_full (flags_at b h q row) _ t)
      go (by_prune p t u f e) = clash (draws_not_full (flags_at b h q row) _ t)
      go (by_none f e) = e

  header_same : draws_at b h q row ≡ false → header_of row.block ≡ header_of b
  header_same d = rw (word 0 (omega arith), word 1 (omega arith), word 2 (omega arith), word 3 (omega arith), word 4 (omega arith), word 5 (omega arith)) refl
    where
      word : (i : ℕ) → i < 6 → get_or row.block i 0 ≡ get_or b i 0
      word i p = row_kept (in_header i) p (λ z. let y : ◌≡◌ {A = ℕ} 0 1 = cc in omega arith) (λ t. let y : ◌≡◌ {A = ℕ} 0 1 = cc in omega arith)

  row_header : header_of b ≡ h → header_of row.block ≡ header_after b h q row
  unfolding prune_drawn
  row_header is = go leaves
    where
      same : draws_at b h q row ≡ false → header_of row.block ≡ header_after b h q row
      same d = header_same d ∙ is ∙ sym (pick_false _ _ h d)

      go : Leaves b h n q row → header_of row.block ≡ header_after b h q row
      go (by_touch f e) = same (no_draw f)
      go (by_stack v f s l e) = same (no_draw f)
      go (by_replace p t u f e) =
          ap header_of e
          ∙ replace_header b h (job_of n q) (tag_word b h q.l) (room_4 p t) u.from_one u.to_used known.long is
          ∙ ap (λ (m : ℕ). header_from h.k h.processes h.nodes (h.nodesused + m) h.records (new_record h)) (sym (needs_4 b h q p))
          ∙ sym (pick_true _ _ h t)
      go (by_prune p t u f e) =
          ap header_of e
          ∙ committed_header b h prune_kind q.gp (word_of q.pseen) 0 (job_of n q) q.gp (room t).record_left u.from_one
          (omega (arith, known.limited))
          known.long
          is
          ∙ ap (λ (m : ℕ). header_from h.k h.processes h.nodes (h.nodesused + m) h.records (new_record h)) (sym (needs_5 b h q p))
          ∙ sym (pick_true _ _ h t)
      go (by_none f e) = same (full_none _ _ f)

  row-length : length row.block ≡ length b
  unfolding prune_drawn
  row-length = go leaves
    where
      go : Leaves b h n q row → length row.block ≡ length b
      go (by_touch f e) = ap length e ∙ touched-length b h touch
      go (by_stack v f s l e) = ap length e ∙ simp length-set (touched-length b h touch)
      go (by_replace p t u f e) = ap length e ∙ replace_length b h (job_of n q) (tag_word b h q.l) (room_4 p t) u.from_one u.to_used
      go (by_prune p t u f e) = ap length e ∙ committed-length b h prune_kind q.gp (word_of q.pseen) 0 (job_of n q) q.gp
      go (by_none f e) = ap length e

  row_shared : full_at b h q row ≡ false → (m o : ℕ) → Shared h m o → node_word row.block h m o ≡ node_word (touched b h touch) h m o
  row_shared full m o s = go (ℕ_discrete m (touched_node touch)) (ℕ_discrete o (touched_word touch))
    where
      elsewhere : (place_of touch ≡ in_node m o → ⊥) → node_word row.block h m o ≡ node_word (touched b h touch) h m o
      elsewhere d =
          row_kept (in_node m o) (shared_inside m o s) d (λ t. omega arith) ∙ sym (touched_other b h touch touch_inside (in_node m o) (shared_inside m o s) d)

      go : Dec (m ≡ touched_node touch) → Dec (o ≡ touched_word touch) → node_word row.block h m o ≡ node_word (touched b h touch) h m o
      go (yes e) (yes f) = rw (e, f) (row_becomes full)
      go (yes e) (no d) = elsewhere (λ z. d (let y : o ≡ touched_word touch = cc in y))
      go (no d) f = elsewhere (λ z. d (let y : m ≡ touched_node touch = cc in y))

  limits_hold : in_limits h.k h.processes h.nodes h.records ≡ true
  unfolding header_good
  limits_hold = both_1 _ _ known.good

  row_good : header_good (header_after b h q row) ≡ true
  unfolding pick both header_good
  row_good = go (draws_at b h q row) refl
    where
      go : (t : Bool) → draws_at b h q row ≡ t → header_good (header_after b h q row) ≡ true
      go false d = rw d known.good
      go true d =
          let r = room d in
          rw (
            d,
            limits_hold,
            le-leb (2 * h.k + 1) (h.nodesused + needed_at b h q) (omega (arith, known.limited)),
            le-leb (h.nodesused + needed_at b h q) h.nodes (omega arith),
            le-leb (new_record h) h.records (omega arith),
          )
          refl

-- a header whose used counts alone have grown has its places where they were
module _ (h : Header) (used drawn : ℕ) where
  same_places : (t : Bool) (y : Place) → place_at (pick t (header_from h.k h.processes h.nodes used h.records drawn) h) y ≡ place_at h y
  unfolding pick
  same_places true (in_header i) = refl
  same_places true (in_node m o) = refl
  same_places true (in_record r f) = refl
  same_places true (in_stack m d) = refl
  same_places false y = refl

  same_words : (t : Bool) → block_words (pick t (header_from h.k h.processes h.nodes used h.records drawn) h) ≡ block_words h
  unfolding pick
  same_words true = refl
  same_words false = refl

-- The theorems, of every accepted step of process n: the header before it, its row, and the block after it.
module _ (b : List ℕ) (rows n : ℕ) (q : Process) (a : Accepted b rows n q) where
  abbrev before : Header
  before = header_of b

  abbrev its : Row
  its = row_of b before n q

  abbrev after : List ℕ
  after = (step_of b rows n q).block

  facts : Known b before n q
  facts = accepted_known b rows n q a

  pub step_does : after ≡ its.block
  step_does = ap (λ (o : Out). o.block) (accepted_does b rows n q a)

  pub step_leaves : Leaves b before n q its
  step_leaves = leaves b before n q facts

  -- "touches one shared word"
  pub touch_shared : Shared before (touched_node its.touch) (touched_word its.touch)
  touch_shared = shares b before n q facts

  -- what it says is what its row says
  pub its_stepped : (step_of b rows n q).stepped ≡ Ok its.stepped
  its_stepped = ap (λ (o : Out). o.stepped) (accepted_does b rows n q a)

  -- every shared word is as the touch leaves it, unless the answer is full: then no word changes
  pub step_shared : is_full its.stepped.progress ≡ false → (m o : ℕ) → Shared before m o →
      node_word after before m o ≡ node_word (touched b before its.touch) before m o
  step_shared f m o s = rw step_does (row_shared b before n q facts (sym (step_tells b rows n q a its.stepped its_stepped).full_is ∙ f) m o s)

  pub step_full : is_full its.stepped.progress ≡ true → after ≡ b
  step_full f = step_does ∙ row_full b before n q facts (sym (step_tells b rows n q a its.stepped its_stepped).full_is ∙ f)

  -- every place that is neither the touch nor beside it reads as before
  pub step_kept : (y : Place) → Inside before y → (place_of its.touch ≡ y → ⊥) → (Beside b before n q its y → ⊥) →
      get_or after (place_at before y) 0 ≡ get_or b (place_at before y) 0
  step_kept y i d e = rw step_does (row_kept b before n q facts y i d e)

  -- outside 4, 5, 9 and 10 the touch is all
  pub step_alone : flag_point q.point ≡ false → stack_point q.point ≡ false → after ≡ touched b before its.touch
  unfolding both
  step_alone f s = step_does ∙ go step_leaves
    where
      go : Leaves b before n q its → its.block ≡ touched b before its.touch
      go (by_touch g e) = e
      go (by_stack v g t l e) = let z : ◌≡◌ {A = ℕ} 0 1 = cc in absurd (omega arith)
      go (by_replace p t u g e) = let z : ◌≡◌ {A = ℕ} 0 1 = cc in absurd (omega arith)
      go (by_prune p t u g e) = let z : ◌≡◌ {A = ℕ} 0 1 = cc in absurd (omega arith)
      go (by_none t e) = let z : ◌≡◌ {A = ℕ} 0 1 = cc in absurd (omega arith)

  -- "keys, tags and record fields never change"
  pub keys_kept : (m o : ℕ) → 1 ≤ m → m ≤ before.nodesused → o < before.k → node_word after before m o ≡ node_word b before m o
  keys_kept m o low used p =
      step_kept (in_node m o) (record { from_one = low; to_last = omega (arith, facts.limited); within = omega arith })
      (λ z. let y : touched_word its.touch ≡ o = cc in omega (arith, touch_shared))
      (λ t. omega arith)

  pub records_kept : (r f : ℕ) → 1 ≤ r → r ≤ before.recordsused → f < record_words → record_word after before r f ≡ record_word b before r f
  records_kept r f low used p =
      step_kept (in_record r f) (record { from_one = low; to_last = omega (arith, facts.limited); within = p })
      (λ z. let y : ◌≡◌ {A = ℕ} 0 1 = cc in omega arith)
      (λ t. omega arith)

  -- the header, and that the block is good again, with every place where it was
  pub step_header : header_of after ≡ header_after b before q its
  step_header = rw step_does (row_header b before n q facts refl)

  pub step_length : length after ≡ length b
  step_length = rw step_does (row-length b before n q facts)

  pub step_places : (y : Place) → place_at (header_of after) y ≡ place_at before y
  step_places y = ap (λ (g : Header). place_at g y) step_header ∙ same_places before _ _ (draws_at b before q its) y

  words : block_words (header_of after) ≡ block_words before
  words = ap block_words step_header ∙ same_words before _ _ (draws_at b before q its)

  pub step_reads : header_read after ≡ Ok (header_of after)
  step_reads =
      sym
      (read_good after (header_good (header_of after)) (omega (arith, step_length, facts.long)) refl (block_words (header_of after))
      (rw step_header (row_good b before n q facts))
      refl
      (omega (arith, words, step_length, facts.long)))
