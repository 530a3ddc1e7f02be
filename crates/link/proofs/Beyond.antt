-- "Words and records beyond those needed are untouched": no step changes a word behind the last that the header needs.
use Prim.Native.Nat.{ℕ, suc, ◌+◌, ◌*◌, ◌-◌, ◌≤◌, ◌<◌}
use mathlib.Core.Path.{◌≡◌, refl, ap, ◌∙◌}
use mathlib.Core.Bool.{Bool, true, false}
use mathlib.Core.List.{List, [], ◌∷◌}
use native.Mathlib.Omega.{arith}
use lib.Dec.{eqb}
use lib.ListN.{length, get_or, set}
use lib.Seq.{sets, get_or-set_other}
use Rattle.std.specs.Prelude.{Err}
use Rattle.tables.specs.Choice.{pick, Reason, Verdict, refused, accepted, verdict, told}
use Rattle.tables.specs.Numbers.{node_words, record_words}
use Rattle.tables.specs.Layout.{block_words, node_at, record_at, node_word, pending_place, tag_word}
use Rattle.tables.specs.Place.{Place, in_header, in_node, in_record, in_stack, place_at, Inside}
use Rattle.nodes.specs.Node.{leaf_image, with_node}
use Rattle.nodes.specs.Pending.{word_of, replace_kind, prune_kind}
use Rattle.tables.specs.Header.{header_of}
use Rattle.tables.specs.Refusal.{refusal}
use Rattle.tables.specs.declared.header.Header.{Header}
use Rattle.tables.proofs.Picks.{both_2}
use Rattle.tables.proofs.Lists.{length-listed}
use Rattle.tables.proofs.OneToOne.{tells, accepted_none}
use Rattle.tables.proofs.Places.{place_below, run_outside}
use Rattle.process.specs.declared.Process.{Process}
use Rattle.draws.specs.declared.Job.{Job}
use Rattle.draws.specs.Draw.{new_node, new_record, sprouts, needed_nodes, new_keys, new_count, leaf_drawn, leaves_from, sprout_leaves, sprout_drawn, nodes_drawn, record_image, record_drawn, committed, replace_drawn, prune_drawn}
use Rattle.draws.proofs.After.{Room, room_is, stem_image}
use Rattle.help.specs.Touch.{Touch, reads, swaps, touched}
use Rattle.flag.specs.Rows.{job_of}
use Rattle.points.specs.Rows.{row_of}
use Rattle.points.specs.Step.{step_reasons}
use Rattle.points.proofs.Accepted.{Accepted, Known, accepted_known}
use Rattle.points.proofs.Counted.{needed_at}
use Rattle.points.proofs.Leaves.{Leaves, by_touch, by_stack, by_replace, by_prune, by_none, place_of, own_word, row_shares, row_leaves}
use Rattle.index.specs.Calls.{record_of, StepOut, step_out, step_by, step_call}

-- word i stands behind the block of h
module _ (h : Header) (i : ℕ) (behind : block_words h ≤ i) where
  set-behind : (b : List ℕ) (x : Place) (v : ℕ) → Inside h x → get_or (set b (place_at h x) v) i 0 ≡ get_or b i 0
  set-behind b x v p = get_or-set_other b (place_at h x) i v 0 (λ e. omega (arith, place_below h x p))

  node_behind : (b image : List ℕ) (n : ℕ) → length image ≡ node_words h.k → 1 ≤ n → n ≤ h.nodes → get_or (with_node b h n image) i 0 ≡ get_or b i 0
  node_behind b image n long low high =
      run_outside image b (node_at h n 0) i
      (λ from to. omega (arith, long, place_below h (in_node n (node_words h.k - 1)) (record { from_one = low; to_last = high; within = omega arith })))

  record_behind : (b fields : List ℕ) (r : ℕ) → length fields ≡ record_words → 1 ≤ r → r ≤ h.records → get_or (sets b (record_at h r 0) fields) i 0 ≡ get_or b i 0
  record_behind b fields r long low high =
      run_outside fields b (record_at h r 0) i
      (λ from to. omega (arith, long, place_below h (in_record r (record_words - 1)) (record { from_one = low; to_last = high; within = omega arith })))

  leaves_behind : (ls : List (List ℕ)) (b : List ℕ) (first : ℕ) → 1 ≤ first → first + length ls ≤ suc h.nodes → get_or (leaves_from b h first ls) i 0 ≡ get_or b i 0
  unfolding leaves_from
  leaves_behind [] b first low high = refl
  leaves_behind (ks ∷ ls) b first low high =
      leaves_behind ls (with_node b h first (leaf_image h.k 1 ks)) (first + 1) (omega arith) (omega arith)
      ∙ node_behind b (leaf_image h.k 1 ks) first (length-listed _ 0 (node_words h.k)) low (omega arith)

  nodes_behind : (b : List ℕ) (j : Job) (count : ℕ) → h.nodesused + needed_nodes h j.operation count ≤ h.nodes → get_or (nodes_drawn b h j count) i 0 ≡ get_or b i 0
  unfolding pick
  nodes_behind b j count fits = go (sprouts h j.operation count) fits
    where
      ks : List ℕ
      ks = new_keys b h j count

      go : (t : Bool) → h.nodesused + pick t (h.k + 1) 1 ≤ h.nodes → get_or (pick t (sprout_drawn b h ks) (leaf_drawn b h j count)) i 0 ≡ get_or b i 0
      go true f =
          let count : length (sprout_leaves h ks) ≡ h.k = length-listed _ 0 h.k in
          leaves_behind (sprout_leaves h ks) (with_node b h (new_node h) (stem_image h ks)) (new_node h + 1) (omega arith) (omega arith)
          ∙ node_behind b (stem_image h ks) (new_node h) (length-listed _ 0 (node_words h.k)) (omega arith) (omega arith)
      go false f = node_behind b (leaf_image h.k (new_count j.operation count) ks) (new_node h) (length-listed _ 0 (node_words h.k)) (omega arith) (omega arith)

  committed_behind : (b : List ℕ) (kind third expected needed : ℕ) (j : Job) (flagged : ℕ) → h.recordsused < h.records → 1 ≤ flagged → flagged ≤ h.nodes
      → get_or (committed b h kind third expected needed j flagged) i 0 ≡ get_or b i 0
  unfolding committed
  committed_behind b kind third expected needed j flagged left low high =
      set-behind (set (set once 3 (h.nodesused + needed)) 5 (new_record h)) (in_node flagged (pending_place h.k)) (4 * new_record h + kind) (record { from_one = low; to_last = high; within = omega arith })
      ∙ set-behind (set once 3 (h.nodesused + needed)) (in_header 5) (new_record h) (omega arith)
      ∙ set-behind once (in_header 3) (h.nodesused + needed) (omega arith)
      ∙ record_behind b (record_image kind third expected j) (new_record h) refl (omega arith) (omega arith)
    where
      once : List ℕ
      once = record_drawn b h kind third expected j

  touched_behind : (b : List ℕ) (t : Touch) → Inside h (place_of t) → get_or (touched b h t) i 0 ≡ get_or b i 0
  unfolding pick
  touched_behind b (reads node word) p = refl
  touched_behind b (swaps node word from to) p = go (eqb (node_word b h node word) from)
    where
      go : (t : Bool) → get_or (pick t (set b (node_at h node word) to) b) i 0 ≡ get_or b i 0
      go true = set-behind b (in_node node word) to p
      go false = refl

module _ (b : List ℕ) (rows n : ℕ) (q : Process) (a : Accepted b rows n q) where
  row_behind : (i : ℕ) → block_words (header_of b) ≤ i → get_or (row_of b (header_of b) n q).block i 0 ≡ get_or b i 0
  unfolding replace_drawn prune_drawn pick
  row_behind i behind = go (row_leaves b h n q known known.sound)
    where
      h : Header
      h = header_of b

      known : Known b h n q
      known = accepted_known b rows n q a

      touch : Touch
      touch = (row_of b h n q).touch

      inside : Inside h (place_of touch)
      inside =
          let s = row_shares b h n q known known.sound in
          record { from_one = s.from_one; to_last = omega (arith, s.to_used, known.limited); within = omega (arith, s.to_pending) }

      go : Leaves b h n q (row_of b h n q) → get_or (row_of b h n q).block i 0 ≡ get_or b i 0
      go (by_touch g e) = ap (λ (c : List ℕ). get_or c i 0) e ∙ touched_behind h i behind b touch inside
      go (by_stack v g t l e) =
          ap (λ (c : List ℕ). get_or c i 0) e
          ∙ set-behind h i behind (touched b h touch) (in_stack n (own_word q)) v (record { from_one = known.from_one; to_last = known.to_last; within = l })
          ∙ touched_behind h i behind b touch inside
      go (by_replace p t u g e) =
          let needed : needed_at b h q ≡ needed_nodes h q.operation (tag_word b h q.l) = rw p refl in
          let room : Room h (needed_at b h q) = room_is h (needed_at b h q) (both_2 _ _ t) in
          ap (λ (c : List ℕ). get_or c i 0) e
          ∙ committed_behind h i behind (nodes_drawn b h (job_of n q) (tag_word b h q.l)) replace_kind (new_node h) 0 (needed_nodes h q.operation (tag_word b h q.l)) (job_of n q) q.p room.record_left u.from_one (omega (arith, u.to_used, known.limited))
          ∙ nodes_behind h i behind b (job_of n q) (tag_word b h q.l) (omega (arith, room.nodes_left))
      go (by_prune p t u g e) =
          let room : Room h (needed_at b h q) = room_is h (needed_at b h q) (both_2 _ _ t) in
          ap (λ (c : List ℕ). get_or c i 0) e
          ∙ committed_behind h i behind b prune_kind q.gp (word_of q.pseen) 0 (job_of n q) q.gp room.record_left u.from_one (omega (arith, u.to_used, known.limited))
      go (by_none t e) = ap (λ (c : List ℕ). get_or c i 0) e

-- of every call: a refused one changes nothing at all
module _ (b : List ℕ) (row : List Process) (n : ℕ) where
  pub step_behind : (i : ℕ) → block_words (header_of b) ≤ i → get_or (step_call b row n).block i 0 ≡ get_or b i 0
  unfolding step_call
  step_behind i behind = ap (λ (o : StepOut). get_or o.block i 0) (tells refuse done reasons) ∙ go (verdict reasons) refl
    where
      reasons : List Reason
      reasons = step_reasons b (length row) n (record_of row n)

      refuse : ℕ → StepOut
      refuse r = step_out (Err (refusal r)) b row

      done : StepOut
      done = step_by row n (row_of b (header_of b) n (record_of row n))

      go : (v : Verdict) → verdict reasons ≡ v → get_or (told refuse done v).block i 0 ≡ get_or b i 0
      go (refused r) e = refl
      go accepted e = row_behind b (length row) n (record_of row n) (accepted_none reasons e) i behind
