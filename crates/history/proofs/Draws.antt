-- 4, 5: new nodes, a new record and its flag keep the invariant.
use mathlib.Core.Path.{◌≡◌, refl, sym, ◌∙◌}
use mathlib.Core.Logic.{◌≢◌, ◌⊎◌, inl, inr}
use mathlib.Core.List.{List}
use Prim.Native.Nat.{ℕ, ◌+◌, ◌*◌, ◌-◌, ◌≤◌, ◌<◌}
use native.Mathlib.Decide.{ℕ_discrete, dec_le}
use native.Mathlib.Omega.{arith}
use lib.Dec.{eqb}
use lib.ListN.{length}
use Rattle.tables.specs.Numbers.{infinity}
use Rattle.nodes.specs.Keys.{put_in, taken_out}
use Rattle.nodes.proofs.Keyed.{first_in}
use Rattle.history.specs.View.{View, In, route, keys, On, Reach, by, Ordered}
use Rattle.history.specs.Shared.{Desc, Shared}
use Rattle.history.specs.Change.{rank, replace_words, prune_words, SwapPend, NewLeaf, Drawn, put_leaf, out_leaf, sprout, DrawReplace}
use Rattle.history.specs.Change.{DrawPrune}
use Rattle.history.proofs.Rank.{rank_clean, rank_replace, rank_prune, rank_mark}
use Rattle.history.proofs.Route.{route_slot, route_first}
use Rattle.history.proofs.Rows.{put_in_length, take_out_length, mem-get_or}
use Rattle.history.proofs.Paths.{Uniq, keys_same, on_reach, same_uniq, same_ordered, same_reach_back}
use Rattle.history.proofs.Replaced.{span, span_inner, span_leaf}
use Rattle.history.proofs.Invariant.{Sorted, Shape, Made, put, out, sprouted, never, sprout_born, Word, clean, replacing, pruning}
use Rattle.history.proofs.Invariant.{marked, Names, is_l, is_p, is_gp, waits, asks, Inv}
use Rattle.history.proofs.Touch.{Touch, reach_used, keep_pair}
use Rattle.history.proofs.Brings.{keys_count, put_in_sorted, take_out_sorted, largest_sorted}
use Rattle.history.proofs.Static.{origin_used, shape_pend}
use Rattle.history.proofs.Grow.{grow_leaf, grow_sprout}
use Rattle.history.proofs.Assemble.{touch_pend, assemble_new}

-- a pending word's record is in use
pub word_rank : {m : ℕ} {T : ℕ → Desc} {n w : ℕ} → Word m T n w → rank w ≤ 3 * m + 2
word_rank (clean c e o) = rw e (omega (arith, rank_clean c, origin_used o))
word_rank (replacing r e i a b) = rw e (omega (arith, rank_replace r, i.high))
word_rank (pruning r e i a b) = rw e (omega (arith, rank_prune r, i.high))
word_rank (marked r e i a b) = rw e (omega (arith, rank_mark r, i.high))

module _ {k u m : ℕ} {T : ℕ → Desc} {t : View} (hk : 2 ≤ k) (I : Inv k u m T t) where
  pub clean_used : (n c : ℕ) → In u n → t.pend n ≡ 4 * c → c ≤ m
  clean_used n c h e = let b : rank (4 * c) ≤ 3 * m + 2 = rw e at (word_rank (I.pending n h)) in omega (arith, rank_clean c)

  -- the root's child for a key is the dummy
  pub root_child : (n x : ℕ) → x < infinity → n ≡ 1 → t.child n (route k (t.key n) x) ≡ 2
  root_child n x fin e =
      rw (e, route_first k (t.key 1) (omega arith) x (λ i a b. rw (I.shape.crown.root_keys i a b) fin)) I.shape.crown.first

  -- a flag set over a clean word of a node in the tree
  draw_touch : {t' : View} {x v : ℕ} (r c : ℕ) → r ≡ m + 1 → Reach k t x → t.pend x ≡ 4 * c → rank v ≡ 3 * r → ((a : ℕ) → v ≢ 4 * a)
      → ((a : ℕ) → v ≢ 4 * a + 3)
      → SwapPend k u t t' x v → Touch k u m T t t' x r 1 0
  draw_touch {t'} {x} {v} r c e o f rv nc nm w = touch_pend (omega arith) I r w
      (rw (f, rv) (omega (arith, rank_clean c, clean_used x c (reach_used (omega arith) I.shape o) f)))
      (λ a l. nc a) (λ q d. nm q) (λ z. absurd (nm r z)) (λ q d z. omega arith) (λ q d z. omega arith) (λ q z. omega arith)
      (λ q hq kq b z. b.unborn.unreached x o (omega arith))

-- what a draw of nodes brings, whichever it was
record Grows (k : ℕ) (t' : View) (u size r : ℕ) (d : Desc) : Type 0 where
  shape : Shape k (u + size) t'
  made : Made k t' d
  top : u + 1 + span k (t'.tag (u + 1)) ≤ u + size
  kids : (j : ℕ) → t'.tag (u + 1) ≡ k → In k j → t'.child (u + 1) j ≡ u + 1 + j
  words : (n : ℕ) → u < n → n ≤ u + size → (t'.pend n ≡ 0) ⊎ ((t'.pend n ≡ 4 * r) × (n ≡ u + 1))

module _ (k u r : ℕ) (t t' : View) (x op l p process size : ℕ) (hk : 2 ≤ k) (s : Shape k u t') (tl : t'.tag l ≡ t.tag l)
    (kl : t'.key l ≡ t.key l) (hl : In u l) (leaf : t.tag l ≢ k) (fin : x < infinity) where
  row_same : keys t' l ≡ keys t l
  row_same = keys_same t t' l tl kl

  row_sorted : Sorted (keys t l)
  row_sorted = rw row_same at (s.leaf_keys l hl (rw tl leaf))

  one_drawn : (ks : List ℕ) → length ks < k → Sorted ks → NewLeaf t' (u + 1) ks → size ≡ 1
      → (t'.tag (u + 1) ≢ k → Made k t' (replace_words l p (u + 1) process op x))
      → Grows k t' u size r (replace_words l p (u + 1) process op x)
  one_drawn ks len so n z md = record {
    shape = rw z (grow_leaf s small (rw n.row so) n.clean);
    made = md (λ e. omega (arith, small));
    top = rw (z, span_leaf k (t'.tag (u + 1)) (λ e. omega (arith, small))) (omega arith);
    kids = λ j e i. absurd (omega (arith, small));
    words = λ a b c. inl (let y : a ≡ u + 1 = omega arith in rw y n.clean);
  }
    where
      small : t'.tag (u + 1) < k
      small = rw (← keys_count t' (u + 1), n.row) len

  drawn_grows : Drawn k t t' (u + 1) r op x l size
      → Grows k t' u size r (replace_words l p (u + 1) process op x)
  drawn_grows (put_leaf o no₁ room n z) = one_drawn (put_in x (keys t l)) len (put_in_sorted x (keys t l) fin row_sorted no₁) n z
      (λ q. put o (rw row_same no₁) q (rw row_same n.row))
    where
      len : length (put_in x (keys t l)) < k
      len = rw (put_in_length x (keys t l), keys_count t l) (omega arith)
  drawn_grows (out_leaf o m n z) = one_drawn (taken_out x (keys t l)) len (take_out_sorted x (keys t l) row_sorted) n z
      (λ q. out o (rw row_same m) q (rw row_same n.row))
    where
      len : length (taken_out x (keys t l)) < k
      len = let b : t.tag l ≤ k = rw tl at (s.tags l hl) in omega (arith, take_out_length x (keys t l), first_in (λ y. eqb x y) (keys t l), keys_count t l)
  drawn_grows (sprout o no₁ full p z) = record {
    shape =
        rw z (grow_sprout s hk p (largest_sorted k (t'.key (u + 1)) ks (omega arith) len so p.largest)
        (λ j i. rw (p.leaf_key j i) (so.finite _ (mem-get_or ks (j - 1) (omega (arith, len, i.low, i.high))))));
    made =
        sprouted o (rw row_same no₁) p.inner (rw tl full) (λ i a b. rw row_same (p.largest i a b)) p.leaf_tag
        (λ j i. rw row_same (p.leaf_key j i));
    top = rw (z, span_inner k (t'.tag (u + 1)) p.inner) (omega arith);
    kids = λ j e i. p.kids j i;
    words = λ a b c. wd a b c (dec_le a (u + 1));
  }
    where
      ks : List ℕ
      ks = put_in x (keys t l)

      len : length ks ≡ k
      len = put_in_length x (keys t l) ∙ omega (arith, keys_count t l)

      so : Sorted ks
      so = put_in_sorted x (keys t l) fin row_sorted no₁

      wd : (a : ℕ) → u < a → a ≤ u + size → Dec (a ≤ u + 1) → (t'.pend a ≡ 0) ⊎ ((t'.pend a ≡ 4 * r) × (a ≡ u + 1))
      wd a b c (yes y) = let e : a ≡ u + 1 = omega arith in inr (rw e p.clean, e)
      wd a b c (no y) =
          let e : a ≡ u + 1 + (a - (u + 1)) = omega arith in
          inl (rw e (p.leaf_clean (a - (u + 1)) (omega arith)))

-- of the node a that a draw flags, on the path of x, and its child c for x: both are in the tree, and the flag leaves paths and order alone
record Flagged (k : ℕ) (S S' : Shared) (x a c : ℕ) : Type 0 where
  reached : Reach k S.view a
  used : In S.nodes a
  below_reached : Reach k S.view c
  below_used : In S.nodes c
  above : a < c
  at : S'.view.child a (route k (S'.view.key a) x) ≡ c
  -- below the root there is the dummy
  past_root : c ≢ 2 → 2 ≤ a
  back : (n : ℕ) → Reach k S'.view n → In S.nodes n
  uniq : Uniq k S'.view
  ordered : Ordered k S'.view

flagged : {k : ℕ} {S S' : Shared} {x a c v : ℕ} → 2 ≤ k → Inv k S.nodes S.records S.rec S.view → x < infinity → On k S.view x a
    → S.view.tag a ≡ k → S.view.child a (route k (S.view.key a) x) ≡ c → SwapPend k S.nodes S.view S'.view a v → Flagged k S S' x a c
flagged {k} {S} {S'} {x} {a} {c} hk I fin on inner at w = record {
  reached = o;
  used = low a o;
  below_reached = under;
  below_used = low c under;
  above = rw at at (I.shape.above a (route k (S.view.key a) x) (low a o) inner (route_slot k _ (omega arith) x));
  at = rw (w.key_same a (low a o)) (w.child_same a (route k (S.view.key a) x) (low a o) (route_slot k _ (omega arith) x) ∙ at);
  past_root = λ d. go d (ℕ_discrete a 1);
  back = λ n r. low n (same_reach_back k S.view S'.view S.nodes low w.tag_same w.child_same r);
  uniq = same_uniq k S.view S'.view S.nodes low w.tag_same w.child_same I.uniq;
  ordered = same_ordered k S.view S'.view S.nodes low w.tag_same w.child_same (omega arith) w.key_same I.ordered;
}
  where
    low : (n : ℕ) → Reach k S.view n → In S.nodes n
    low n r = reach_used (omega arith) I.shape r

    o : Reach k S.view a
    o = on_reach k (omega arith) on

    under : Reach k S.view c
    under = by (route k (S.view.key a) x) o inner (route_slot k _ (omega arith) x) (sym at)

    go : c ≢ 2 → Dec (a ≡ 1) → 2 ≤ a
    go d (yes e) = absurd (d (sym at ∙ root_child hk I a x fin e))
    go d (no e) = omega (arith, (low a o).low)

module _ {k : ℕ} {S S' : Shared} {r p : ℕ} (hk : 2 ≤ k) (I : Inv k S.nodes S.records S.rec S.view)
    (D : DrawReplace k S S' r p) where
  f₄ : Flagged k S S' D.x p D.l
  f₄ = flagged hk I D.finite D.on D.inner D.at D.flag

  pub draw_replace_touch : Touch k S.nodes S.records S.rec S.view S'.view p r 1 0
  draw_replace_touch =
      draw_touch hk I r D.seen D.record_new.next f₄.reached D.clean (rank_replace r) (λ a e. omega arith) (λ a e. omega arith)
      D.flag

  pub draw_replace_keeps : Inv k S'.nodes S'.records S'.rec S'.view
  draw_replace_keeps =
      rw (D.counted, D.record_new.counted) (assemble_new (omega arith) I draw_replace_touch D.record_new.next
      D.record_new.rec_same (omega arith)
      fr.shape
      f₄.uniq
      f₄.ordered
      (rw w.pend_new (replacing r refl (omega (arith, D.record_new.next)) (rw D.record_new.words refl)
      (rw D.record_new.words refl)))
      (λ n a b. wd n (fr.words n a b))
      (rw D.record_new.words (record {
        finite = D.finite;
        inner = w.tag_same p f₄.used ∙ D.inner;
        low = f₄.past_root (λ e. D.leaf (rw e I.shape.crown.dummy_inner));
        leaf = rw (w.tag_same D.l hl) D.leaf;
        above = f₄.above;
        used = omega (arith, hl.high);
        replace = λ e. record { made = fr.made; new_above = omega (arith, hl.high); new_used = fr.top; unexpected = refl };
        prune = λ e. absurd (omega arith);
      }))
      (rw D.record_new.words (waits refl (record {
        flag = w.pend_new;
        on = draw_replace_touch.on D.on D.inner (λ q e. omega (arith, D.clean));
        at = f₄.at;
        unborn =
            record { unreached = λ n o a. absurd (omega (arith, a.low, (f₄.back n o).high)); kids = fr.kids };
      })))
      (λ e. rw D.record_new.words (omega arith))
      (λ n nm. names n (rw D.record_new.words at nm)))
    where
      w : SwapPend k S.nodes S.view S'.view p (4 * r + 1)
      w = D.flag

      hl : In S.nodes D.l
      hl = f₄.below_used

      fr : Grows k S'.view S.nodes D.size r (replace_words D.l p (S.nodes + 1) D.process D.operation D.x)
      fr =
          drawn_grows k S.nodes r S.view S'.view D.x D.operation D.l p D.process D.size hk
          (shape_pend hk I.shape D.flag D.inner)
          (D.flag.tag_same D.l hl) (D.flag.key_same D.l hl) hl D.leaf D.finite D.drawn

      wd : (n : ℕ) → (S'.view.pend n ≡ 0) ⊎ ((S'.view.pend n ≡ 4 * r) × (n ≡ S.nodes + 1)) → Word r S'.rec n (S'.view.pend n)
      wd n (inl e) = clean 0 e (never refl)
      wd n (inr e) =
          clean r e.0 (sprout_born (omega (arith, D.record_new.next)) (rw D.record_new.words refl)
          (rw D.record_new.words (sym e.1)))

      names : (n : ℕ)
          → Names (replace_words D.l p (S.nodes + 1) D.process D.operation D.x) n → Reach k S.view n
      names n (is_l e z) = rw z at f₄.below_reached
      names n (is_p z) = rw z at f₄.reached
      names n (is_gp e z) = absurd (omega arith)

module _ {k : ℕ} {S S' : Shared} {r gp : ℕ} (hk : 2 ≤ k) (I : Inv k S.nodes S.records S.rec S.view)
    (D : DrawPrune k S S' r gp) where
  f₅ : Flagged k S S' D.x gp D.p
  f₅ = flagged hk I D.finite D.on D.inner D.at D.flag

  pub draw_prune_touch : Touch k S.nodes S.records S.rec S.view S'.view gp r 1 0
  draw_prune_touch =
      draw_touch hk I r D.seen D.record_new.next f₅.reached D.clean (rank_prune r) (λ a e. omega arith) (λ a e. omega arith)
      D.flag

  pub draw_prune_keeps : Inv k S'.nodes S'.records S'.rec S'.view
  draw_prune_keeps =
      rw (D.counted, D.record_new.counted) (assemble_new (omega arith) I draw_prune_touch D.record_new.next
      D.record_new.rec_same (omega arith)
      (shape_pend hk I.shape w D.inner)
      f₅.uniq
      f₅.ordered
      (rw w.pend_new (pruning r refl (omega (arith, D.record_new.next)) (rw D.record_new.words refl)
      (rw D.record_new.words refl)))
      (λ n a b. absurd (omega arith))
      (rw D.record_new.words (record {
        finite = D.finite;
        inner = w.tag_same D.p hp ∙ D.p_inner;
        low = omega (arith, D.past_dummy);
        leaf = rw (w.tag_same D.l hl) (λ e. omega (arith, l_one));
        above = D.above;
        used = D.used;
        replace = λ e. absurd (omega arith);
        prune = λ e. record {
          operation = refl;
          gp_above = f₅.above;
          gp_low = f₅.past_root (λ e. omega (arith, D.past_dummy));
          gp_inner = w.tag_same gp f₅.used ∙ D.inner;
          past_dummy = D.past_dummy;
          alone = keys_same S.view S'.view D.l (w.tag_same D.l hl) (w.key_same D.l hl) ∙ D.alone;
          seen = D.seen_p;
          clean = refl;
          before = omega (arith, D.record_new.next, D.age, rank_clean D.seen_p, word_rank (I.pending D.p hp));
        };
      }))
      (rw D.record_new.words (asks refl (record {
        held = record {
          flag = w.pend_new;
          on = draw_prune_touch.on D.on D.inner (λ q e. omega (arith, D.clean));
          at = f₅.at;
        };
        age = rw same D.age;
        fine =
            λ e. keep_pair w.tag_same w.key_same (λ j i. w.child_same D.p j hp i) (omega arith) I.shape hp D.p_inner
            (D.fine (sym same ∙ e));
        unmarked =
            λ e. (let a : rank (4 * r + 3) ≤ 3 * S.records + 2 = rw (sym same ∙ e) at (word_rank (I.pending D.p hp)) in omega
            (arith, rank_mark r, D.record_new.next));
      })))
      (λ e. absurd (let a : ◌≡◌ {A = ℕ} 2 1 = rw D.record_new.words at e in omega arith))
      (λ n nm. names n (rw D.record_new.words at nm)))
    where
      w : SwapPend k S.nodes S.view S'.view gp (4 * r + 2)
      w = D.flag

      hp : In S.nodes D.p
      hp = f₅.below_used

      hl : In S.nodes D.l
      hl = omega (arith, D.above, D.used)

      l_one : S.view.tag D.l ≡ 1
      l_one = sym (keys_count S.view D.l) ∙ rw D.alone

      same : S'.view.pend D.p ≡ S.view.pend D.p
      same = D.flag.pend_same D.p hp (λ z. omega (arith, f₅.above))

      names : (n : ℕ)
          → Names (prune_words D.l D.p gp (4 * D.seen_p) D.process D.x) n → Reach k S.view n
      names n (is_l e z) = absurd (omega arith)
      names n (is_p z) = rw z at f₅.below_reached
      names n (is_gp e z) = rw z at f₅.reached
