-- The nodes that 4 draws, as the history sees them: a leaf with the key put in or taken out, or a sprout.
use Prim.Native.Nat.{ℕ, suc, ◌+◌, ◌*◌, ◌-◌, ◌≤◌, ◌<◌}
use mathlib.Core.Path.{◌≡◌, refl, ap, ◌∙◌}
use mathlib.Core.Bool.{true, false}
use mathlib.Core.List.{List, [], ◌∷◌, Memᴰ}
use native.Mathlib.Omega.{arith}
use lib.Dec.{eqb}
use borrow.Author.Tests.{eq-eqb, ne_eqb, ltb-true}
use lib.ListN.{length, get_or, drop}
use lib.Seq.{get_or-drop, ext_get_or}
use Rattle.tables.specs.Choice.{pick, listed}
use Rattle.tables.specs.Numbers.{node_words}
use Rattle.tables.specs.Layout.{node_word, tag_word, child_place, pending_place}
use Rattle.nodes.specs.Node.{leaf_image}
use Rattle.nodes.specs.Keys.{keys_of, equal_at, put_in, taken_out, key_array}
use Rattle.tables.specs.declared.header.Header.{Header}
use Rattle.tables.proofs.Picks.{pick_true, pick_false}
use Rattle.tables.proofs.Lists.{length-listed, get_or-listed}
use Rattle.nodes.proofs.Keyed.{holds_is}
use Rattle.draws.specs.declared.Job.{Job}
use Rattle.draws.specs.Draw.{new_node, new_record, sprouts, needed_nodes, new_keys, new_count, largest, sprout_drawn, nodes_drawn, replace_drawn}
use Rattle.draws.proofs.After.{Room, replace_new, leaf_same, sprout_stem, sprout_leaf_lem, stem_image}
use Rattle.history.specs.View.{In, keys}
use Rattle.history.specs.Change.{NewLeaf, Sprout}
use Rattle.history.proofs.Alone.{alone_at, row_alone}
use Rattle.history.proofs.Rows.{put_in_length, take_out_length}
use Rattle.history.proofs.Brings.{keys_count}
use Rattle.link.specs.Tables.{view_of}
use Rattle.link.proofs.Writes.{Fit}
use Rattle.link.proofs.Keyed.{keys_are, mem-holds}
use Rattle.link.proofs.Images.{image_tag, image_key, image_child_lem, image_pend, array_at}
use Rattle.link.proofs.Draws.{drawn_header}

-- a key that is there is taken out once
take_out_shorter : (x : ℕ) (ks : List ℕ) → Memᴰ x ks → suc (length (taken_out x ks)) ≡ length ks
take_out_shorter x ks m = omega (arith, take_out_length x ks, ltb-true (equal_at x ks) (length ks) (holds_is x ks ∙ mem-holds x ks m))

-- a node whose words are those of a row of keys, and whose pending is 0
leaf_by : (h : Header) (b : List ℕ) (n : ℕ) (ks : List ℕ) → length ks < h.k → tag_word b h n ≡ length ks
    → ((i : ℕ) → 1 ≤ i → i < h.k → i ≤ length ks → node_word b h n i ≡ get_or ks (i - 1) 0) → node_word b h n (pending_place h.k) ≡ 0 → NewLeaf (view_of h b) n ks
unfolding keys
leaf_by h b n ks l t f z = record {
  row = rw t (row_alone h.k (λ i. node_word b h n i) (length ks) l ∙ ext_get_or 0 _ ks (length-listed _ 1 (length ks)) (λ a g. word a (rw length-listed at g)));
  clean = z;
}
  where
    back : (a : ℕ) → 1 + a - 1 ≡ a
    back a = omega arith

    word : (a : ℕ) → a < length ks → get_or (listed (λ i. node_word b h n i) 1 (length ks)) a 0 ≡ get_or ks a 0
    word a g = get_or-listed _ 1 (length ks) a 0 g ∙ f (1 + a) (omega arith) (omega arith) (omega arith) ∙ ap (λ (m : ℕ). get_or ks m 0) (back a)

module _ {h : Header} {b : List ℕ} (fit : Fit h b) (j : Job) where
  abbrev count : ℕ
  count = tag_word b h j.l

  abbrev needs : ℕ
  needs = needed_nodes h j.operation count

  abbrev after : List ℕ
  after = replace_drawn b h j count

  module _ (room : Room h needs) (i : In h.nodesused j.p) (leaf : count < h.k) where
    k_limits : (2 ≤ h.k) × (h.k ≤ 8)
    k_limits = (fit.limits.numbers.k_low, fit.limits.numbers.k_high)

    -- a word of a new node
    new_word : (n o : ℕ) → h.nodesused < n → n ≤ h.nodes → o < node_words h.k → node_word after h n o ≡ node_word (nodes_drawn b h j count) h n o
    new_word n o l g p = replace_new b h j count room i.low i.high n o l (record { from_one = omega arith; to_last = g; within = p })

    -- the new keys, key by key
    put_at : j.operation ≡ 2 → (m : ℕ) → m < 8 → get_or (new_keys b h j count) m 0 ≡ get_or (put_in j.key (keys (view_of h b) j.l)) m 0
    unfolding pick
    put_at e m l =
        ap (λ (x : List ℕ). get_or x m 0) (pick_true (eqb j.operation 2) _ _ (eq-eqb j.operation 2 e))
        ∙ array_at (put_in j.key (keys_of b h j.l count)) m l
        ∙ ap (λ (ks : List ℕ). get_or (put_in j.key ks) m 0) (keys_are b h j.l leaf)

    take_at : j.operation ≡ 3 → (m : ℕ) → m < 8 → get_or (new_keys b h j count) m 0 ≡ get_or (taken_out j.key (keys (view_of h b) j.l)) m 0
    unfolding pick
    take_at e m l =
        ap (λ (x : List ℕ). get_or x m 0) (pick_false (eqb j.operation 2) _ _ (ne_eqb j.operation 2 (λ z. omega arith)))
        ∙ array_at (taken_out j.key (keys_of b h j.l count)) m l
        ∙ ap (λ (ks : List ℕ). get_or (taken_out j.key ks) m 0) (keys_are b h j.l leaf)

    -- one leaf
    module _ (one : sprouts h j.operation count ≡ false) where
      pub needs_one : needs ≡ 1
      needs_one = pick_false (sprouts h j.operation count) _ _ one

      leaf_word : (o : ℕ) → o < node_words h.k → node_word after h (new_node h) o ≡ get_or (leaf_image h.k (new_count j.operation count) (new_keys b h j count)) o 0
      leaf_word o l =
          new_word (new_node h) o (omega arith) (omega (arith, room.nodes_left, needs_one)) l
          ∙ ap (λ (x : List ℕ). node_word x h (new_node h) o) (pick_false (sprouts h j.operation count) _ _ one)
          ∙ leaf_same b h j count (omega (arith, room.nodes_left, needs_one)) fit.long o l

      made : (ks : List ℕ) → length ks < h.k → new_count j.operation count ≡ length ks → ((m : ℕ) → m < 8 → get_or (new_keys b h j count) m 0 ≡ get_or ks m 0)
          → NewLeaf (view_of (drawn_header h needs) after) (h.nodesused + 1) ks
      made ks l c f =
          leaf_by (drawn_header h needs) after (new_node h) ks l (leaf_word 0 (omega arith) ∙ image_tag h.k (new_count j.operation count) (new_keys b h j count) 0 0 ∙ c)
          (λ m a g p. leaf_word m (omega arith) ∙ image_key h.k (new_count j.operation count) (new_keys b h j count) 0 0 m a g ∙ f (m - 1) (omega (arith, k_limits)))
          (leaf_word (pending_place h.k) (omega arith) ∙ image_pend h.k (new_count j.operation count) (new_keys b h j count) 0 0 (omega (arith, k_limits)))

      pub born_put : j.operation ≡ 2 → count + 1 < h.k → NewLeaf (view_of (drawn_header h needs) after) (h.nodesused + 1) (put_in j.key (keys (view_of h b) j.l))
      unfolding pick
      born_put e g =
          let n : length (put_in j.key (keys (view_of h b) j.l)) ≡ suc count = put_in_length j.key _ ∙ ap suc (keys_count (view_of h b) j.l) in
          let c : new_count j.operation count ≡ count + 1 = pick_true (eqb j.operation 2) _ _ (eq-eqb j.operation 2 e) in
          made _ (omega arith) (omega arith) (put_at e)

      pub born_take : j.operation ≡ 3 → Memᴰ j.key (keys (view_of h b) j.l)
          → NewLeaf (view_of (drawn_header h needs) after) (h.nodesused + 1) (taken_out j.key (keys (view_of h b) j.l))
      unfolding pick
      born_take e m =
          let n : suc (length (taken_out j.key (keys (view_of h b) j.l))) ≡ count = take_out_shorter j.key _ m ∙ keys_count (view_of h b) j.l in
          let c : new_count j.operation count ≡ count - 1 = pick_false (eqb j.operation 2) _ _ (ne_eqb j.operation 2 (λ z. omega arith)) in
          made _ (omega arith) (omega arith) (take_at e)

    -- a sprout
    module _ (many : sprouts h j.operation count ≡ true) where
      pub needs_many : needs ≡ h.k + 1
      needs_many = pick_true (sprouts h j.operation count) _ _ many

      fits : new_node h + h.k ≤ h.nodes
      fits = omega (arith, room.nodes_left, needs_many)

      drawn : (n o : ℕ) → h.nodesused < n → n ≤ new_node h + h.k → o < node_words h.k
          → node_word after h n o ≡ node_word (sprout_drawn b h (new_keys b h j count)) h n o
      drawn n o l g p =
          new_word n o l (omega (arith, fits)) p ∙ ap (λ (x : List ℕ). node_word x h n o) (pick_true (sprouts h j.operation count) _ _ many)

      stem : (o : ℕ) → o < node_words h.k → node_word after h (new_node h) o ≡ get_or (stem_image h (new_keys b h j count)) o 0
      stem o l = drawn (new_node h) o (omega arith) (omega arith) l ∙ sprout_stem b h (new_keys b h j count) fits fit.long o l

      leaf_of_lem : (m o : ℕ) → In h.k m → o < node_words h.k
          → node_word after h (new_node h + m) o ≡ get_or (leaf_image h.k 1 (key_array (get_or (new_keys b h j count) (m - 1) 0 ∷ []))) o 0
      leaf_of_lem m o s l =
          let z : new_node h + m ≡ new_node h + 1 + (m - 1) = omega (arith, s) in
          rw z
          (drawn (new_node h + 1 + (m - 1)) o (omega arith) (omega (arith, s)) l
          ∙ sprout_leaf_lem b h (new_keys b h j count) fits fit.long o l (m - 1) (omega (arith, s)) (omega (arith, k_limits)))

      pub born_sprout : j.operation ≡ 2 → Sprout h.k (view_of (drawn_header h needs) after) (h.nodesused + 1) (new_record h) (put_in j.key (keys (view_of h b) j.l))
      born_sprout e = record {
        inner = stem 0 (omega arith) ∙ image_tag h.k h.k (largest (new_keys b h j count)) (new_node h + 1) (4 * new_record h);
        largest = λ m a g. alone_at h.k _ m a g ∙ stem m (omega arith) ∙ image_key h.k h.k (largest (new_keys b h j count)) (new_node h + 1) (4 * new_record h) m a g ∙ array_at (drop 1 (new_keys b h j count)) (m - 1) (omega (arith, k_limits))
            ∙ get_or-drop 1 (new_keys b h j count) (m - 1) 0 ∙ ap (λ (x : ℕ). get_or (new_keys b h j count) x 0) (on m a) ∙ put_at e m (omega (arith, k_limits));
        kids = λ m s. stem (child_place h.k m) (omega (arith, s)) ∙ image_child_lem h.k h.k (largest (new_keys b h j count)) (new_node h + 1) (4 * new_record h) m s refl ∙ omega (arith, s);
        clean = stem (pending_place h.k) (omega arith) ∙ image_pend h.k h.k (largest (new_keys b h j count)) (new_node h + 1) (4 * new_record h) (omega (arith, k_limits));
        leaf_tag = λ m s. leaf_of_lem m 0 s (omega arith) ∙ image_tag h.k 1 (key_array (get_or (new_keys b h j count) (m - 1) 0 ∷ [])) 0 0;
        leaf_key = λ m s. alone_at h.k _ 1 (omega arith) (omega (arith, k_limits)) ∙ leaf_of_lem m 1 s (omega (arith, k_limits))
            ∙ image_key h.k 1 (key_array (get_or (new_keys b h j count) (m - 1) 0 ∷ [])) 0 0 1 (omega arith) (omega (arith, k_limits)) ∙ array_at (get_or (new_keys b h j count) (m - 1) 0 ∷ []) 0 (omega arith) ∙ put_at e (m - 1) (omega (arith, s, k_limits));
        leaf_clean = λ m s. leaf_of_lem m (pending_place h.k) s (omega arith) ∙ image_pend h.k 1 (key_array (get_or (new_keys b h j count) (m - 1) 0 ∷ [])) 0 0 (omega (arith, k_limits));
      }
        where
          on : (m : ℕ) → 1 ≤ m → 1 + (m - 1) ≡ m
          on m a = omega arith
