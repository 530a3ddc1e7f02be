-- Rows 4 and 5 as the history sees them: the words after a draw are those of a draw of the history.
use Prim.Native.Nat.{ℕ, ◌+◌, ◌*◌, ◌≤◌, ◌<◌}
use mathlib.Core.Path.{◌≡◌, refl, sym}
use mathlib.Core.List.{List}
use native.Mathlib.Omega.{arith}
use lib.ListN.{length, get_or}
use Rattle.tables.specs.Numbers.{node_words, record_words}
use Rattle.tables.specs.Layout.{block_words, node_word, record_word, stack_word, child_place, pending_place, pending_word}
use Rattle.tables.specs.Header.{header_of, header_from}
use Rattle.tables.specs.Place.{Place, in_header, in_node, in_record, in_stack, place_at, Inside}
use Rattle.nodes.specs.Pending.{replace_kind, prune_kind}
use Rattle.tables.specs.declared.header.Header.{Header}
use Rattle.tables.proofs.Places.{header_node, header_record, header_stack, node_record, node_stack, record_stack, node_word_lem, record_row}
use Rattle.draws.specs.declared.Job.{Job}
use Rattle.draws.specs.Draw.{new_node, new_record, needed_nodes, nodes_drawn, record_image, committed, replace_drawn, prune_drawn}
use Rattle.draws.proofs.After.{Room, committed-length, committed_other, committed_record, committed_flag, committed_header, nodes-length, replace_other, replace_length, replace_header}
use Rattle.history.specs.View.{In}
use Rattle.history.specs.Shared.{Desc}
use Rattle.history.specs.Change.{SwapPend, NewRecord, replace_words, prune_words}
use Rattle.history.proofs.Alone.{alone_same}
use Rattle.link.specs.Tables.{view_of, desc_of, tables_of, stack_of}
use Rattle.link.proofs.Writes.{Fit, in_node_lem, in_record_lem, stack_same}

-- the header after a draw of so many nodes
abbrev pub drawn_header : Header → ℕ → Header
drawn_header h needed = header_from h.k h.processes h.nodes (h.nodesused + needed) h.records (new_record h)

-- what both draws leave: the flag, the new record, all else in use as it was
pub record Drew (h : Header) (b b' : List ℕ) (flagged needed kind : ℕ) (image : List ℕ) : Type 0 where
  pub header : header_of b' ≡ drawn_header h needed
  pub size : length b' ≡ length b
  pub node : (n o : ℕ) → In h.nodesused n → o < node_words h.k → ¬ ((n ≡ flagged) × (o ≡ pending_place h.k)) → node_word b' h n o ≡ node_word b h n o
  pub rec : (r f : ℕ) → In h.recordsused r → f < record_words → record_word b' h r f ≡ record_word b h r f
  pub stack : (n d : ℕ) → Inside h (in_stack n d) → stack_word b' h n d ≡ stack_word b h n d
  pub flag : pending_word b' h flagged ≡ 4 * new_record h + kind
  pub new : (f : ℕ) → f < record_words → record_word b' h (new_record h) f ≡ get_or image f 0

module _ {h : Header} {b : List ℕ} (fit : Fit h b) where
  -- 5
  pub drew_prune : (j : Job) (gp expected : ℕ) → Room h 0 → In h.nodesused gp
      → Drew h b (prune_drawn b h j gp expected) gp 0 2 (record_image 2 gp expected j)
  unfolding prune_drawn
  drew_prune j gp expected room i = record {
    header = committed_header b h prune_kind gp expected 0 j gp left i.low top fit.long fit.header;
    size = committed-length b h prune_kind gp expected 0 j gp;
    node = λ n o u l d. other (in_node n o) (in_node_lem fit n o u l) (header_node 3 n o) (header_node 5 n o) (λ e. d (node_word_lem gp _ n o e)) (λ f e. node_record n o _ f (sym e));
    rec = λ r f u l. other (in_record r f) (in_record_lem fit r f u l) (header_record 3 r f) (header_record 5 r f) (node_record gp _ r f) (λ g e. omega (arith, record_row _ g r f e, u.high));
    stack = λ n d u. other (in_stack n d) u (header_stack 3 n d) (header_stack 5 n d) (node_stack gp _ n d) (λ f. record_stack _ f n d);
    flag = committed_flag b h prune_kind gp expected 0 j gp left i.low top fit.long;
    new = committed_record b h prune_kind gp expected 0 j gp left i.low top fit.long;
  }
    where
      left : h.recordsused < h.records
      left = room.record_left

      top : gp ≤ h.nodes
      top = omega (arith, i.high, fit.limits.used_high)

      other : (y : Place) → Inside h y → (in_header 3 ≡ y → ⊥) → (in_header 5 ≡ y → ⊥) → (in_node gp (pending_place h.k) ≡ y → ⊥) → ((f : ℕ) → in_record (new_record h) f ≡ y → ⊥)
          → get_or (committed b h prune_kind gp expected 0 j gp) (place_at h y) 0 ≡ get_or b (place_at h y) 0
      other y q = committed_other b h prune_kind gp expected 0 j gp left i.low top y q

  -- 4
  module _ (j : Job) (count : ℕ) (room : Room h (needed_nodes h j.operation count)) (i : In h.nodesused j.p) where
    abbrev needs : ℕ
    needs = needed_nodes h j.operation count

    pub drew_replace : Drew h b (replace_drawn b h j count) j.p needs 1 (record_image 1 (new_node h) 0 j)
    unfolding replace_drawn
    drew_replace = record {
      header = replace_header b h j count room i.low i.high fit.long fit.header;
      size = replace_length b h j count room i.low i.high;
      node = λ n o u l d. other (in_node n o) (in_node_lem fit n o u l) (header_node 3 n o) (header_node 5 n o) (λ e. d (node_word_lem j.p _ n o e)) (λ f e. node_record n o _ f (sym e))
          (λ m a p q e. omega (arith, (node_word_lem m a n o e).0, u.high));
      rec = λ r f u l. other (in_record r f) (in_record_lem fit r f u l) (header_record 3 r f) (header_record 5 r f) (node_record j.p _ r f) (λ g e. omega (arith, record_row _ g r f e, u.high))
          (λ m a p q. node_record m a r f);
      stack = λ n d u. other (in_stack n d) u (header_stack 3 n d) (header_stack 5 n d) (node_stack j.p _ n d) (λ f. record_stack _ f n d) (λ m a p q. node_stack m a n d);
      flag = flagged;
      new = drawn_record;
    }
      where
        other : (y : Place) → Inside h y → (in_header 3 ≡ y → ⊥) → (in_header 5 ≡ y → ⊥) → (in_node j.p (pending_place h.k) ≡ y → ⊥) → ((f : ℕ) → in_record (new_record h) f ≡ y → ⊥)
            → ((n o : ℕ) → h.nodesused < n → n ≤ h.nodesused + needs → in_node n o ≡ y → ⊥) → get_or (replace_drawn b h j count) (place_at h y) 0 ≡ get_or b (place_at h y) 0
        other y q = replace_other b h j count room i.low i.high y q

        top : j.p ≤ h.nodes
        top = omega (arith, i.high, fit.limits.used_high)

        long : block_words h ≤ length (nodes_drawn b h j count)
        long = rw (nodes-length b h j count) fit.long

        flagged : pending_word (replace_drawn b h j count) h j.p ≡ 4 * new_record h + 1
        flagged = committed_flag (nodes_drawn b h j count) h replace_kind (new_node h) 0 needs j j.p room.record_left i.low top long

        drawn_record : (f : ℕ) → f < record_words → record_word (replace_drawn b h j count) h (new_record h) f ≡ get_or (record_image 1 (new_node h) 0 j) f 0
        drawn_record f l = committed_record (nodes_drawn b h j count) h replace_kind (new_node h) 0 needs j j.p room.record_left i.low top long f l

-- what both are to the history
module _ {h : Header} {b b' : List ℕ} {flagged needed kind : ℕ} {image : List ℕ} (fit : Fit h b) (d : Drew h b b' flagged needed kind image) where
  pub drew_fit : Room h needed → Fit (drawn_header h needed) b'
  drew_fit room = record {
    header = d.header;
    limits = record {
      numbers = fit.limits.numbers;
      used_low = omega (arith, fit.limits.used_low);
      used_high = room.nodes_left;
      drawn_high = omega (arith, room.record_left);
    };
    long = rw d.size fit.long;
  }

  pub drew_swap : SwapPend h.k h.nodesused (view_of h b) (view_of (drawn_header h needed) b') flagged (4 * new_record h + kind)
  drew_swap = record {
    tag_same = λ n i. d.node n 0 i (omega arith) (λ e. omega (arith, e.1, fit.limits.numbers.k_low));
    key_same = λ n i. alone_same h.k _ _ (λ a l g. d.node n a i (omega arith) (λ e. omega (arith, e.1)));
    child_same = λ n j i s. d.node n (child_place h.k j) i (omega (arith, s)) (λ e. omega (arith, e.1, s));
    pend_same = λ n i e. d.node n (pending_place h.k) i (omega arith) (λ z. e z.0);
    pend_new = d.flag;
  }

  pub drew_stack : (n : ℕ) → In h.processes n → stack_of (drawn_header h needed) b' n ≡ stack_of h b n
  drew_stack n i = stack_same h b b' n (λ e l. d.stack n e (record { from_one = i.low; to_last = i.high; within = l }))

  pub drew_old : (r : ℕ) → In h.recordsused r → desc_of (drawn_header h needed) b' r ≡ desc_of h b r
  drew_old r i =
      rw (d.rec r 0 i (omega arith), d.rec r 1 i (omega arith), d.rec r 2 i (omega arith), d.rec r 3 i (omega arith), d.rec r 4 i (omega arith), d.rec r 5 i (omega arith), d.rec r 6 i (omega arith), d.rec r 7 i (omega arith)) refl

-- the words of the new record
abbrev image_desc : List ℕ → Desc
image_desc fs = record {
  kind = get_or fs 0 0;
  l = get_or fs 1 0;
  p = get_or fs 2 0;
  third = get_or fs 3 0;
  expected = get_or fs 4 0;
  process = get_or fs 5 0;
  operation = get_or fs 6 0;
  key = get_or fs 7 0;
}

drew_new : {h : Header} {b b' : List ℕ} {flagged needed kind : ℕ} {image : List ℕ} → Fit h b → Drew h b b' flagged needed kind image
    → NewRecord (tables_of h b) (tables_of (drawn_header h needed) b') (new_record h) (image_desc image)
drew_new {h} {b} {b'} fit d = record {
  next = refl;
  counted = refl;
  words =
      rw (d.new 0 (omega arith), d.new 1 (omega arith), d.new 2 (omega arith), d.new 3 (omega arith), d.new 4 (omega arith), d.new 5 (omega arith), d.new 6 (omega arith), d.new 7 (omega arith)) refl;
  rec_same = drew_old fit d;
}

module _ {h : Header} {b : List ℕ} (fit : Fit h b) (j : Job) where
  pub prune_record : (gp expected : ℕ) → j.operation ≡ 3 → Room h 0 → In h.nodesused gp
      → NewRecord (tables_of h b) (tables_of (drawn_header h 0) (prune_drawn b h j gp expected)) (new_record h) (prune_words j.l j.p gp expected j.process j.key)
  prune_record gp expected e room i = let z = drew_new fit (drew_prune fit j gp expected room i) in rw (← e) z

  module _ (count : ℕ) (room : Room h (needed_nodes h j.operation count)) (i : In h.nodesused j.p) where
    pub replace_record : NewRecord (tables_of h b) (tables_of (drawn_header h (needed_nodes h j.operation count)) (replace_drawn b h j count)) (new_record h)
        (replace_words j.l j.p (h.nodesused + 1) j.process j.operation j.key)
    replace_record = drew_new fit (drew_replace fit j count room i)
