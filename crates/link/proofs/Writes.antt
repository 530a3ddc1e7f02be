-- Writes of one node word, and of stack words: what they are to the tables as the history sees them.
use Prim.Native.Nat.{ℕ, ◌*◌, ◌≤◌, ◌<◌}
use mathlib.Core.Path.{◌≡◌, refl, sym, ◌∙◌, fun_ext}
use mathlib.Core.Bool.{Bool, true, false}
use mathlib.Core.List.{List}
use native.Mathlib.Omega.{arith}
use lib.Dec.{ltb}
use borrow.Author.Tests.{ltb-true}
use lib.ListN.{length, get_or, set, length-set}
use Rattle.tables.specs.Choice.{pick}
use Rattle.tables.specs.Numbers.{node_words, record_words}
use Rattle.tables.specs.Layout.{block_words, depth_of, node_at, stack_at, node_word, record_word, stack_word, child_place, pending_place}
use Rattle.tables.specs.Header.{header_of}
use Rattle.tables.specs.Place.{in_header, in_node, in_record, in_stack, Inside}
use Rattle.tables.specs.declared.header.Header.{Header}
use Rattle.tables.proofs.Places.{header_node, header_stack, node_record, node_stack, record_stack, node_word_lem, stack_word_lem, read_same, read_other}
use Rattle.tables.proofs.Limits.{Limits}
use Rattle.history.specs.View.{In}
use Rattle.history.specs.Change.{SwapChild, SwapPend, SameTables}
use Rattle.history.specs.Run.{Same}
use Rattle.history.proofs.Alone.{alone_same}
use Rattle.link.specs.Tables.{view_of, desc_of, tables_of, stack_of}

-- a block that is what its header says
pub record Fit (h : Header) (b : List ℕ) : Type 0 where
  pub header : header_of b ≡ h
  pub limits : Limits h
  pub long : block_words h ≤ length b

-- of header, nodes and records only the word off of node p may have changed
pub record Writes (h : Header) (b b' : List ℕ) (p off : ℕ) : Type 0 where
  pub header : (i : ℕ) → i < 6 → get_or b' i 0 ≡ get_or b i 0
  pub node : (n o : ℕ) → Inside h (in_node n o) → ¬ ((n ≡ p) × (o ≡ off)) → node_word b' h n o ≡ node_word b h n o
  pub rec : (r f : ℕ) → Inside h (in_record r f) → record_word b' h r f ≡ record_word b h r f
  pub size : length b' ≡ length b

-- words of nodes and records in use lie in the block
module _ {h : Header} {b : List ℕ} (fit : Fit h b) where
  pub in_node_lem : (n o : ℕ) → In h.nodesused n → o < node_words h.k → Inside h (in_node n o)
  in_node_lem n o i l = record { from_one = i.low; to_last = omega (arith, i.high, fit.limits.used_high); within = l }

  pub in_record_lem : (r f : ℕ) → In h.recordsused r → f < record_words → Inside h (in_record r f)
  in_record_lem r f i l = record { from_one = i.low; to_last = omega (arith, i.high, fit.limits.drawn_high); within = l }

module _ {h : Header} {b : List ℕ} where
  pub writes_none : (p off : ℕ) → Writes h b b p off
  writes_none p off = record { header = λ i l. refl; node = λ n o i d. refl; rec = λ r f i. refl; size = refl }

  pub writes_node : (p off v : ℕ) → Inside h (in_node p off) → Writes h b (set b (node_at h p off) v) p off
  writes_node p off v i = record {
    header = λ m l. read_other h b (in_node p off) v i (in_header m) l (λ e. header_node m p off (sym e));
    node = λ n o y d. read_other h b (in_node p off) v i (in_node n o) y (λ e. d (node_word_lem p off n o e));
    rec = λ r f y. read_other h b (in_node p off) v i (in_record r f) y (node_record p off r f);
    size = simp length-set;
  }

  pub writes_stack : {b' : List ℕ} {p off : ℕ} (q d v : ℕ) → Inside h (in_stack q d) → Writes h b b' p off → Writes h b (set b' (stack_at h q d) v) p off
  writes_stack {b'} {p} {off} q d v i w = record {
    header = λ m l. read_other h b' (in_stack q d) v i (in_header m) l (λ e. header_stack m q d (sym e)) ∙ w.header m l;
    node = λ n o y e. read_other h b' (in_stack q d) v i (in_node n o) y (λ z. node_stack n o q d (sym z)) ∙ w.node n o y e;
    rec = λ r f y. read_other h b' (in_stack q d) v i (in_record r f) y (λ e. record_stack r f q d (sym e)) ∙ w.rec r f y;
    size = simp length-set w.size;
  }

-- a stack word over each kind of write
module _ (h : Header) (b : List ℕ) (n d : ℕ) (i : Inside h (in_stack n d)) where
  pub stack_over_node : (p off v : ℕ) → Inside h (in_node p off) → stack_word (set b (node_at h p off) v) h n d ≡ stack_word b h n d
  stack_over_node p off v j = read_other h b (in_node p off) v j (in_stack n d) i (node_stack p off n d)

  pub stack_over_stack : (m e v : ℕ) → Inside h (in_stack m e) → ¬ ((n ≡ m) × (d ≡ e)) → stack_word (set b (stack_at h m e) v) h n d ≡ stack_word b h n d
  stack_over_stack m e v j o = read_other h b (in_stack m e) v j (in_stack n d) i (λ z. o (stack_word_lem m e n d z))

  pub stack_new : (v : ℕ) → block_words h ≤ length b → stack_word (set b (stack_at h n d) v) h n d ≡ v
  stack_new v l = read_same h b (in_stack n d) v i l

-- a process's stack is its words, up to its room
pub stack_same : (h : Header) (b b' : List ℕ) (n : ℕ) → ((d : ℕ) → d < depth_of h → stack_word b' h n d ≡ stack_word b h n d) → stack_of h b' n ≡ stack_of h b n
unfolding pick
stack_same h b b' n f = fun_ext (λ d. go d (ltb d (depth_of h)) refl)
  where
    go : (d : ℕ) (t : Bool) → ltb d (depth_of h) ≡ t → pick t (stack_word b' h n d) 0 ≡ pick t (stack_word b h n d) 0
    go d true e = f d (ltb-true d (depth_of h) e)
    go d false e = refl

module _ {h : Header} {b b' : List ℕ} {p off : ℕ} (fit : Fit h b) (w : Writes h b b' p off) where
  pub writes_header : header_of b' ≡ h
  writes_header =
      rw (w.header 0 (omega arith), w.header 1 (omega arith), w.header 2 (omega arith), w.header 3 (omega arith), w.header 4 (omega arith), w.header 5 (omega arith)) fit.header

  pub writes_fit : Fit h b'
  writes_fit = record { header = writes_header; limits = fit.limits; long = rw w.size fit.long }

  word : (n o : ℕ) → In h.nodesused n → o < node_words h.k → ¬ ((n ≡ p) × (o ≡ off)) → node_word b' h n o ≡ node_word b h n o
  word n o i l d = w.node n o (in_node_lem fit n o i l) d

  k_low : 2 ≤ h.k
  k_low = fit.limits.numbers.k_low

  pub writes_tables : SameTables (tables_of h b) (tables_of h b')
  writes_tables = record { nodes_same = refl; records_same = refl; rec_same = λ r i. same r i }
    where
      at : (r f : ℕ) → In h.recordsused r → f < record_words → record_word b' h r f ≡ record_word b h r f
      at r f i l = w.rec r f (in_record_lem fit r f i l)

      same : (r : ℕ) → In h.recordsused r → desc_of h b' r ≡ desc_of h b r
      same r i =
          rw (at r 0 i (omega arith), at r 1 i (omega arith), at r 2 i (omega arith), at r 3 i (omega arith), at r 4 i (omega arith), at r 5 i (omega arith), at r 6 i (omega arith), at r 7 i (omega arith)) refl

  -- where the word is no tag and no key
  module _ (past : h.k ≤ off) where
    pub tags_same : (n : ℕ) → In h.nodesused n → (view_of h b').tag n ≡ (view_of h b).tag n
    tags_same n i = word n 0 i (omega arith) (λ e. omega (arith, e.1, k_low))

    pub keys_same : (n : ℕ) → In h.nodesused n → (view_of h b').key n ≡ (view_of h b).key n
    keys_same n i = alone_same h.k _ _ (λ a l g. word n a i (omega arith) (λ e. omega (arith, e.1)))

-- a child word
module _ {h : Header} {b b' : List ℕ} {p i : ℕ} (fit : Fit h b) (slot : In h.k i) (w : Writes h b b' p (child_place h.k i)) where
  pub child_swap : (v : ℕ) → node_word b' h p (child_place h.k i) ≡ v → SwapChild h.k h.nodesused (view_of h b) (view_of h b') p i v
  child_swap v e = record {
    tag_same = tags_same fit w (omega arith);
    key_same = keys_same fit w (omega arith);
    pend_same = λ n u. word fit w n (pending_place h.k) u (omega arith) (λ z. omega (arith, z.1, slot));
    child_same = λ n j u s d. word fit w n (child_place h.k j) u (omega (arith, s)) (λ z. d (z.0, omega (arith, z.1, s, slot)));
    child_new = e;
  }

-- a pending word
module _ {h : Header} {b b' : List ℕ} {p : ℕ} (fit : Fit h b) (w : Writes h b b' p (pending_place h.k)) where
  pub pend_swap : (v : ℕ) → node_word b' h p (pending_place h.k) ≡ v → SwapPend h.k h.nodesused (view_of h b) (view_of h b') p v
  pend_swap v e = record {
    tag_same = tags_same fit w (omega arith);
    key_same = keys_same fit w (omega arith);
    child_same = λ n j u s. word fit w n (child_place h.k j) u (omega (arith, s)) (λ z. omega (arith, z.1, s));
    pend_same = λ n u d. word fit w n (pending_place h.k) u (omega arith) (λ z. d z.0);
    pend_new = e;
  }

-- no word of a node: only stacks, or nothing at all
pub tables_same : {h : Header} {b b' : List ℕ} → Fit h b → Writes h b b' 0 (2 * h.k) → Same h.k (tables_of h b) (tables_of h b')
tables_same {h} {b} {b'} fit w = record {
  tables = writes_tables fit w;
  tag_same = tags_same fit w (omega arith);
  key_same = keys_same fit w (omega arith);
  child_same = λ n j u s. word fit w n (child_place h.k j) u (omega (arith, s)) (λ z. omega (arith, z.0, u));
  pend_same = λ n u. word fit w n (pending_place h.k) u (omega arith) (λ z. omega (arith, z.0, u));
}
