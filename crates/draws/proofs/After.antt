-- What stands in the block after a draw, place by place: the new nodes, the new record, both used counts, the flag, and all else as it was.
use Prim.Native.Nat.{ℕ, zero, suc, ◌+◌, ◌*◌, ◌≤◌, ◌<◌}
use mathlib.Core.Path.{◌≡◌, refl, sym, ap, ◌∙◌}
use mathlib.Core.Bool.{Bool, true, false}
use mathlib.Core.List.{List, [], ◌∷◌}
use native.Mathlib.Omega.{arith}
use native.Mathlib.Nat.{add-zero}
use lib.Dec.{ltb}
use borrow.Author.Tests.{leb-true, ltb-true, lt-ltb}
use lib.ListN.{length, get_or, set, length-set}
use lib.Seq.{length-sets}
use Rattle.tables.specs.Choice.{pick}
use Rattle.tables.specs.Numbers.{node_words, record_words, key_room}
use Rattle.tables.specs.Layout.{block_words, node_at, node_word, pending_word, record_word, pending_place}
use Rattle.tables.specs.Header.{header_of, header_from}
use Rattle.tables.specs.Place.{Place, in_header, in_node, in_record, place_at, Inside}
use Rattle.nodes.specs.Node.{leaf_image, internal_image, with_node}
use Rattle.nodes.specs.Keys.{key_array, sprout_leaf}
use Rattle.nodes.specs.Pending.{replace_kind}
use Rattle.tables.specs.declared.header.Header.{Header}
use Rattle.tables.proofs.Picks.{both_1, both_2, pick_true}
use Rattle.tables.proofs.Lists.{moved, length-listed, get_or-listed₀}
use Rattle.tables.proofs.Places.{header_node, header_record, node_record, header_word, node_word_lem, read_same, read_other, node_same, node_other, record_same, record_other}
use Rattle.draws.specs.declared.Job.{Job}
use Rattle.draws.specs.Draw.{new_node, new_record, room_for, sprouts, needed_nodes, new_keys, new_count, leaf_drawn, largest, leaves_from, sprout_leaves, sprout_drawn, nodes_drawn, record_image, record_drawn, committed, replace_drawn}

-- there is room: a record is left, and so many nodes
pub record Room (h : Header) (needed : ℕ) : Type 0 where
  pub record_left : h.recordsused < h.records
  pub nodes_left : h.nodesused + needed ≤ h.nodes

pub room_is : (h : Header) (needed : ℕ) → room_for h needed ≡ true → Room h needed
room_is h needed e = record { record_left = ltb-true _ _ (both_1 _ _ e); nodes_left = leb-true _ _ (both_2 _ _ e) }

-- the new record, both used counts and the flag
module _ (b : List ℕ) (h : Header) (kind third expected needed : ℕ) (j : Job) (flagged : ℕ) where
  abbrev after : List ℕ
  after = committed b h kind third expected needed j flagged

  abbrev once : List ℕ
  once = record_drawn b h kind third expected j

  abbrev twice : List ℕ
  twice = set once 3 (h.nodesused + needed)

  abbrev thrice : List ℕ
  thrice = set twice 5 (new_record h)

  abbrev flag : Place
  flag = in_node flagged (pending_place h.k)

  pub committed-length : length after ≡ length b
  unfolding committed
  committed-length = simp length-set

  module _ (left : h.recordsused < h.records) (low : 1 ≤ flagged) (high : flagged ≤ h.nodes) where
    flag_in : Inside h flag
    flag_in = record { from_one = low; to_last = high; within = omega arith }

    kept : (y : Place) → Inside h y → (in_header 3 ≡ y → ⊥) → (in_header 5 ≡ y → ⊥) → (flag ≡ y → ⊥) → get_or after (place_at h y) 0 ≡ get_or once (place_at h y) 0
    unfolding committed
    kept y q d₃ d₅ d =
        read_other h thrice flag (4 * new_record h + kind) flag_in y q d
        ∙ read_other h twice (in_header 5) (new_record h) (omega arith) y q d₅
        ∙ read_other h once (in_header 3) (h.nodesused + needed) (omega arith) y q d₃

    pub committed_other : (y : Place) → Inside h y → (in_header 3 ≡ y → ⊥) → (in_header 5 ≡ y → ⊥) → (flag ≡ y → ⊥) →
        ((f : ℕ) → in_record (new_record h) f ≡ y → ⊥) → get_or after (place_at h y) 0 ≡ get_or b (place_at h y) 0
    committed_other y q d₃ d₅ d e =
        kept y q d₃ d₅ d ∙ record_other h b (record_image kind third expected j) (new_record h) refl (omega arith) (omega arith) y q e

    module _ (long : block_words h ≤ length b) where
      pub committed_record : (f : ℕ) → f < record_words → record_word after h (new_record h) f ≡ get_or (record_image kind third expected j) f 0
      committed_record f p =
          kept (in_record (new_record h) f) (record { from_one = omega arith; to_last = omega arith; within = p }) (header_record 3 _ f) (header_record 5 _ f) (node_record flagged _ _ f)
          ∙ record_same h b (record_image kind third expected j) (new_record h) refl (omega arith) (omega arith) f p long

      pub committed_flag : pending_word after h flagged ≡ 4 * new_record h + kind
      unfolding committed
      committed_flag = read_same h thrice flag (4 * new_record h + kind) flag_in (simp length-set long)

      pub committed_nodes : get_or after 3 0 ≡ h.nodesused + needed
      unfolding committed
      committed_nodes =
          read_other h thrice flag (4 * new_record h + kind) flag_in (in_header 3) (omega arith) (λ e. header_node 3 flagged _ (sym e))
          ∙ read_other h twice (in_header 5) (new_record h) (omega arith) (in_header 3) (omega arith) (λ e. omega (arith, header_word 5 3 e))
          ∙ read_same h once (in_header 3) (h.nodesused + needed) (omega arith) (simp length-set long)

      pub committed_records : get_or after 5 0 ≡ new_record h
      unfolding committed
      committed_records =
          read_other h thrice flag (4 * new_record h + kind) flag_in (in_header 5) (omega arith) (λ e. header_node 5 flagged _ (sym e))
          ∙ read_same h twice (in_header 5) (new_record h) (omega arith) (simp length-set long)

      -- the header's other words
      header_kept : (i : ℕ) → i < 6 → (3 ≡ i → ⊥) → (5 ≡ i → ⊥) → get_or after i 0 ≡ get_or b i 0
      header_kept i p d₃ d₅ =
          committed_other (in_header i) p (λ e. d₃ (header_word 3 i e)) (λ e. d₅ (header_word 5 i e)) (λ e. header_node i flagged _ (sym e)) (λ f e. header_record i _ f (sym e))

      pub committed_header : header_of b ≡ h →
          header_of after ≡ header_from h.k h.processes h.nodes (h.nodesused + needed) h.records (new_record h)
      committed_header e =
          rw (
            header_kept 0 (omega arith) (λ z. omega arith) (λ z. omega arith),
            header_kept 1 (omega arith) (λ z. omega arith) (λ z. omega arith),
            header_kept 2 (omega arith) (λ z. omega arith) (λ z. omega arith),
            committed_nodes,
            header_kept 4 (omega arith) (λ z. omega arith) (λ z. omega arith),
            committed_records,
          )
          (ap (λ (g : Header). header_from g.k g.processes g.nodes (h.nodesused + needed) g.records (new_record h)) e)

-- leaf after leaf
module _ (h : Header) where
  abbrev leaf_of : List ℕ → List ℕ
  leaf_of ks = leaf_image h.k 1 ks

  leaf-length : (ks : List ℕ) → length (leaf_of ks) ≡ node_words h.k
  leaf-length ks = length-listed _ 0 (node_words h.k)

  pub leaves_length : (ls : List (List ℕ)) (b : List ℕ) (first : ℕ) → length (leaves_from b h first ls) ≡ length b
  unfolding leaves_from
  leaves_length [] b first = refl
  leaves_length (ks ∷ ls) b first = leaves_length ls (with_node b h first (leaf_of ks)) (first + 1) ∙ length-sets b _ (leaf_of ks)

  pub leaves_other : (ls : List (List ℕ)) (b : List ℕ) (first : ℕ) → 1 ≤ first → first + length ls ≤ suc h.nodes → (y : Place) → Inside h y →
      ((i o : ℕ) → i < length ls → in_node (first + i) o ≡ y → ⊥) → get_or (leaves_from b h first ls) (place_at h y) 0 ≡ get_or b (place_at h y) 0
  unfolding leaves_from
  leaves_other [] b first low high y q d = refl
  leaves_other (ks ∷ ls) b first low high y q d =
      leaves_other ls (with_node b h first (leaf_of ks)) (first + 1) (omega arith) (omega arith) y q (λ i o p e. d (suc i) o (omega arith) (rw (moved first i) at e))
      ∙ node_other h b (leaf_of ks) first (leaf-length ks) low (omega arith) y q (λ o e. d 0 o (omega arith) (rw (add-zero first) e))

  pub leaves_same : (ls : List (List ℕ)) (b : List ℕ) (first i o : ℕ) → 1 ≤ first → first + length ls ≤ suc h.nodes → block_words h ≤ length b → i < length ls →
      o < node_words h.k → node_word (leaves_from b h first ls) h (first + i) o ≡ get_or (leaf_of (get_or ls i [])) o 0
  unfolding leaves_from
  leaves_same [] b first i o low high long p q = absurd (omega arith)
  leaves_same (ks ∷ ls) b first zero o low high long p q =
      rw (add-zero first)
      (leaves_other ls (with_node b h first (leaf_of ks)) (first + 1) (omega arith) (omega arith) (in_node first o) (record { from_one = low; to_last = omega arith; within = q })
      (λ i u r e. omega (arith, (node_word_lem (first + 1 + i) u first o e).0))
      ∙ node_same h b (leaf_of ks) first (leaf-length ks) low (omega arith) o q long)
  leaves_same (ks ∷ ls) b first (suc i) o low high long p q =
      let z : first + suc i ≡ first + 1 + i = omega arith in
      rw z (leaves_same ls (with_node b h first (leaf_of ks)) (first + 1) i o (omega arith) (omega arith) (rw length-sets long) (omega arith) q)

-- a sprout: the internal node, then leaf i with key i
abbrev pub stem_image : Header → List ℕ → List ℕ
stem_image h ks = internal_image h.k (largest ks) (new_node h + 1) (4 * new_record h)

pub sprout_length : (b : List ℕ) (h : Header) (ks : List ℕ) → length (sprout_drawn b h ks) ≡ length b
sprout_length b h ks = leaves_length h (sprout_leaves h ks) (with_node b h (new_node h) (stem_image h ks)) (new_node h + 1) ∙ length-sets b (node_at h (new_node h) 0) (stem_image h ks)

module _ (b : List ℕ) (h : Header) (ks : List ℕ) (fits : new_node h + h.k ≤ h.nodes) where
  stem_length : length (stem_image h ks) ≡ node_words h.k
  stem_length = length-listed _ 0 (node_words h.k)

  count : length (sprout_leaves h ks) ≡ h.k
  count = length-listed _ 0 h.k

  ends : new_node h + 1 + length (sprout_leaves h ks) ≤ suc h.nodes
  ends = omega (arith, count)

  pub sprout_other : (y : Place) → Inside h y → ((n o : ℕ) → h.nodesused < n → n ≤ new_node h + h.k → in_node n o ≡ y → ⊥) →
      get_or (sprout_drawn b h ks) (place_at h y) 0 ≡ get_or b (place_at h y) 0
  sprout_other y q d =
      leaves_other h (sprout_leaves h ks) (with_node b h (new_node h) (stem_image h ks)) (new_node h + 1) (omega arith) ends y q (λ i o p e. d (new_node h + 1 + i) o (omega arith) (omega (arith, count)) e)
      ∙ node_other h b (stem_image h ks) (new_node h) stem_length (omega arith) (omega arith) y q (λ o e. d (new_node h) o (omega arith) (omega arith) e)

  module _ (long : block_words h ≤ length b) (o : ℕ) (p : o < node_words h.k) where
    pub sprout_stem : node_word (sprout_drawn b h ks) h (new_node h) o ≡ get_or (stem_image h ks) o 0
    sprout_stem =
        leaves_other h (sprout_leaves h ks) (with_node b h (new_node h) (stem_image h ks)) (new_node h + 1) (omega arith) ends (in_node (new_node h) o)
        (record { from_one = omega arith; to_last = omega arith; within = p })
        (λ i u r e. omega (arith, (node_word_lem (new_node h + 1 + i) u (new_node h) o e).0))
        ∙ node_same h b (stem_image h ks) (new_node h) stem_length (omega arith) (omega arith) o p long

    pub sprout_leaf_lem : (i : ℕ) → i < h.k → h.k ≤ key_room → node_word (sprout_drawn b h ks) h (new_node h + 1 + i) o ≡ get_or (leaf_image h.k 1 (key_array (get_or ks i 0 ∷ []))) o 0
    sprout_leaf_lem i q small =
        leaves_same h (sprout_leaves h ks) (with_node b h (new_node h) (stem_image h ks)) (new_node h + 1) i o (omega arith) ends (rw length-sets long) (rw count q) p
        ∙ ap (λ (l : List ℕ). get_or (leaf_image h.k 1 l) o 0) keys
      where
        keys : get_or (sprout_leaves h ks) i [] ≡ key_array (get_or ks i 0 ∷ [])
        keys =
            get_or-listed₀ _ h.k i [] q
            ∙ get_or-listed₀ (sprout_leaf ks h.k) key_room i (key_array []) (omega arith)
            ∙ pick_true (ltb i h.k) _ _ (lt-ltb i h.k q)

-- the nodes of a replace: the new numbers only
module _ (b : List ℕ) (h : Header) (j : Job) (count : ℕ) where
  abbrev needs : ℕ
  needs = needed_nodes h j.operation count

  abbrev leaf : List ℕ
  leaf = leaf_image h.k (new_count j.operation count) (new_keys b h j count)

  leaf_long : length leaf ≡ node_words h.k
  leaf_long = length-listed _ 0 (node_words h.k)

  pub nodes-length : length (nodes_drawn b h j count) ≡ length b
  unfolding pick
  nodes-length = go (sprouts h j.operation count)
    where
      go : (t : Bool) → length (pick t (sprout_drawn b h (new_keys b h j count)) (leaf_drawn b h j count)) ≡ length b
      go true = sprout_length b h (new_keys b h j count)
      go false = length-sets b (node_at h (new_node h) 0) leaf

  pub nodes_other : h.nodesused + needs ≤ h.nodes → (y : Place) → Inside h y → ((n o : ℕ) → h.nodesused < n → n ≤ h.nodesused + needs → in_node n o ≡ y → ⊥) →
      get_or (nodes_drawn b h j count) (place_at h y) 0 ≡ get_or b (place_at h y) 0
  unfolding pick
  nodes_other fits y q d = go (sprouts h j.operation count) fits d
    where
      go : (t : Bool) → h.nodesused + pick t (h.k + 1) 1 ≤ h.nodes → ((n o : ℕ) → h.nodesused < n → n ≤ h.nodesused + pick t (h.k + 1) 1 → in_node n o ≡ y → ⊥) →
          get_or (pick t (sprout_drawn b h (new_keys b h j count)) (leaf_drawn b h j count)) (place_at h y) 0 ≡ get_or b (place_at h y) 0
      go true f c = sprout_other b h (new_keys b h j count) (omega arith) y q (λ n o p r e. c n o p (omega arith) e)
      go false f c = node_other h b leaf (new_node h) leaf_long (omega arith) (omega arith) y q (λ o e. c (new_node h) o (omega arith) (omega arith) e)

  pub leaf_same : new_node h ≤ h.nodes → block_words h ≤ length b → (o : ℕ) → o < node_words h.k → node_word (leaf_drawn b h j count) h (new_node h) o ≡ get_or leaf o 0
  leaf_same fits long o p = node_same h b leaf (new_node h) leaf_long (omega arith) fits o p long

  -- a whole replace, on a parent p that is in use
  module _ (room : Room h needs) (low : 1 ≤ j.p) (used : j.p ≤ h.nodesused) where
    abbrev nodes : List ℕ
    nodes = nodes_drawn b h j count

    pub replace_new : (n o : ℕ) → h.nodesused < n → Inside h (in_node n o) → node_word (replace_drawn b h j count) h n o ≡ node_word nodes h n o
    unfolding replace_drawn
    replace_new n o p q =
        committed_other nodes h replace_kind (new_node h) 0 needs j j.p room.record_left low (omega (arith, room)) (in_node n o) q (header_node 3 n o) (header_node 5 n o)
        (λ e. omega (arith, (node_word_lem j.p _ n o e).0)) (λ f e. node_record n o _ f (sym e))

    pub replace_other : (y : Place) → Inside h y → (in_header 3 ≡ y → ⊥) → (in_header 5 ≡ y → ⊥) → (in_node j.p (pending_place h.k) ≡ y → ⊥) →
        ((f : ℕ) → in_record (new_record h) f ≡ y → ⊥) → ((n o : ℕ) → h.nodesused < n → n ≤ h.nodesused + needs → in_node n o ≡ y → ⊥) →
        get_or (replace_drawn b h j count) (place_at h y) 0 ≡ get_or b (place_at h y) 0
    unfolding replace_drawn
    replace_other y q d₃ d₅ d e f =
        committed_other nodes h replace_kind (new_node h) 0 needs j j.p room.record_left low (omega (arith, room)) y q d₃ d₅ d e
        ∙ nodes_other room.nodes_left y q f

    pub replace_length : length (replace_drawn b h j count) ≡ length b
    unfolding replace_drawn
    replace_length = committed-length nodes h replace_kind (new_node h) 0 needs j j.p ∙ nodes-length

    nodes_header : (i : ℕ) → i < 6 → get_or nodes i 0 ≡ get_or b i 0
    nodes_header i p = nodes_other room.nodes_left (in_header i) p (λ n o q r e. header_node i n o (sym e))

    pub replace_header : block_words h ≤ length b → header_of b ≡ h →
        header_of (replace_drawn b h j count) ≡ header_from h.k h.processes h.nodes (h.nodesused + needs) h.records (new_record h)
    unfolding replace_drawn
    replace_header long e =
        committed_header nodes h replace_kind (new_node h) 0 needs j j.p room.record_left low (omega (arith, room)) (rw nodes-length long)
        (rw (nodes_header 0 (omega arith), nodes_header 1 (omega arith), nodes_header 2 (omega arith), nodes_header 3 (omega arith), nodes_header 4 (omega arith), nodes_header 5 (omega arith)) e)
