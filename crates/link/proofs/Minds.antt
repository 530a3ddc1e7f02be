-- What holds of a busy process record beside what it knows: its numbers are in range, what it names is in use; so its checks pass.
use Prim.Native.Nat.{ℕ, zero, suc, ◌+◌, ◌*◌, ◌-◌, ◌/◌, ◌^◌, ◌≤◌, ◌<◌}
use mathlib.Core.Path.{◌≡◌, refl, sym, ap, ◌∙◌, subst}
use mathlib.Core.Logic.{◌≢◌, ◌⊎◌, inl, inr}
use mathlib.Core.Bool.{Bool, true, false}
use mathlib.Core.List.{List}
use native.Mathlib.Omega.{arith}
use lib.Count.{ones}
use lib.Dec.{ltb, leb, eqb}
use borrow.Author.Tests.{lt-ltb, le-leb, ne_eqb, eqb-true, leb-true, ltb-false}
use Rattle.tables.specs.Choice.{pick, both, within}
use Rattle.tables.specs.Numbers.{infinity}
use Rattle.tables.specs.Layout.{depth_of, tag_word, record_word, process_field}
use Rattle.nodes.specs.Pending.{word_of}
use Rattle.nodes.specs.Node.{kin_of, is_node, is_internal, is_leaf}
use Rattle.tables.specs.declared.header.Header.{Header}
use Rattle.nodes.specs.declared.pending.Pending.{Pending}
use Rattle.nodes.specs.declared.pending.Pending.TheVariants.{Clean, Replace, Prune, Mark}
use Rattle.tables.proofs.Picks.{within_low, within_high, both_is}
use Rattle.process.specs.declared.Process.{Process}
use Rattle.damage.specs.Fields.{given, zero_or, point_of_insert, point_good, uses_index, numbers_good, nodes_good, records_good, uses_good, process_good}
use Rattle.damage.specs.Helped.{kind_at, record_good, helped_good}
use Rattle.history.specs.View.{In}
use Rattle.history.specs.Effects.{Grown}
use Rattle.history.specs.Shared.{Shared}
use Rattle.history.proofs.Invariant.{Sound}
use Rattle.history.proofs.Touch.{p_used}
use Rattle.history.proofs.Helps.{Marks, Helps, SwapsP, always_one}
use Rattle.history.proofs.Stacks.{Stacked, stack_depth}
use Rattle.history.proofs.Knows.{Mind, Serves}
use Rattle.link.specs.Tables.{view_of, tables_of, stack_of}
use Rattle.link.proofs.Writes.{Fit}
use Rattle.link.proofs.Checks.{within_is, Names, Late, inner_good, leaf_good, node_good_lem, pending_good_lem, replace_good, prune_good}

-- a process record as the history sees it
abbrev pub mind_with : (ℕ → ℕ) → ℕ → Process → Mind
mind_with stack n q = record {
  process = n;
  operation = q.operation;
  key = q.key;
  point = q.point;
  gp = q.gp;
  p = q.p;
  l = q.l;
  pseen = word_of q.pseen;
  gseen = word_of q.gseen;
  index = q.index;
  ones = ones q.mask;
  helped = q.helped;
  other = q.other;
  depth = q.depth;
  stack = stack;
  own = q.own;
}

abbrev pub mind_of : Header → List ℕ → ℕ → Process → Mind
mind_of h b n q = mind_with (stack_of h b n) n q

-- what it names is in use
pub record Held (k : ℕ) (s : Shared) (gp p l : ℕ) (pseen gseen : Pending) (helped other own : ℕ) : Type 0 where
  pub p_used : In s.nodes p
  pub p_inner : s.view.tag p ≡ k
  pub gp_good_lem : (gp ≡ 0) ⊎ (In s.nodes gp × (s.view.tag gp ≡ k))
  pub l_good_lem : (l ≡ 0) ⊎ (In s.nodes l × (s.view.tag l ≢ k))
  pub other_good_lem : (other ≡ 0) ⊎ In s.nodes other
  pub pseen_good : Names s pseen
  pub gseen_good : Names s gseen
  pub helped_good_lem : helped ≤ s.records
  pub own_good : own ≤ s.records

abbrev pub HeldBy : ℕ → Shared → Process → Type 0
HeldBy k s q = Held k s q.gp q.p q.l q.pseen q.gseen q.helped q.other q.own

-- what it helps, or may come to help, was drawn late: no record up to f, of those in use at the beginning
pub record Newer (f : ℕ) (pseen gseen : Pending) (helped depth : ℕ) (stack : ℕ → ℕ) : Type 0 where
  pub pseen_late : Late f pseen
  pub gseen_late : Late f gseen
  pub helped_late : helped ≢ 0 → f < helped
  pub stack_late : (d : ℕ) → d < depth → f < stack d

abbrev pub NewerBy : ℕ → (ℕ → ℕ) → Process → Type 0
NewerBy f stack q = Newer f q.pseen q.gseen q.helped q.depth stack

pub newer_root : {f : ℕ} {stack : ℕ → ℕ} → Newer f (Clean 0) (Clean 0) 0 0 stack
newer_root = record { pseen_late = omega arith; gseen_late = omega arith; helped_late = λ z. absurd (z refl); stack_late = λ d l. absurd (omega arith) }

-- another record is helped
pub newer_helped : {f : ℕ} {pseen gseen : Pending} {helped depth : ℕ} {stack : ℕ → ℕ} (r : ℕ) → f < r → Newer f pseen gseen helped depth stack → Newer f pseen gseen r depth stack
newer_helped r l w = record { pseen_late = w.pseen_late; gseen_late = w.gseen_late; helped_late = λ z. l; stack_late = w.stack_late }

-- the stack is as it was; or it is another, and no entry of it is older
pub newer_same : {f : ℕ} {pseen gseen : Pending} {helped depth : ℕ} {stack stack' : ℕ → ℕ} → stack' ≡ stack → Newer f pseen gseen helped depth stack
    → Newer f pseen gseen helped depth stack'
newer_same {f} {pseen} {gseen} {helped} {depth} e w = subst (λ (g : ℕ → ℕ). Newer f pseen gseen helped depth g) (sym e) w

pub newer_stack : {f : ℕ} {pseen gseen : Pending} {helped depth depth' : ℕ} {stack stack' : ℕ → ℕ} → ((d : ℕ) → d < depth' → f < stack' d)
    → Newer f pseen gseen helped depth stack → Newer f pseen gseen helped depth' stack'
newer_stack l w = record { pseen_late = w.pseen_late; gseen_late = w.gseen_late; helped_late = w.helped_late; stack_late = l }

-- its numbers are in range
pub record Counters (k operation key point index mask depth own : ℕ) : Type 0 where
  pub op_low : 1 ≤ operation
  pub op_high : operation ≤ 3
  pub finite : key < infinity
  pub point_low : 1 ≤ point
  pub point_high : point ≤ 14
  pub find : operation ≡ 1 → point ≤ 2
  pub insert_3 : operation ≡ 2 → point ≢ 3
  pub insert_5 : operation ≡ 2 → point ≢ 5
  pub index_high : index ≤ k
  pub mask_high : mask < 2 ^ k
  pub early_depth : point ≤ 5 → depth ≡ 0
  pub early_own : point ≤ 5 → own ≡ 0
  pub masked : point ≡ 3 → mask < 2 ^ (index - 1)
  pub index_6 : 6 ≤ point → point ≤ 7 → 1 ≤ index
  pub ten : point ≡ 10 → 1 ≤ depth
  pub index_11 : 11 ≤ point → point ≤ 13 → 1 ≤ index

abbrev pub CountersBy : ℕ → Process → Type 0
CountersBy k q = Counters k q.operation q.key q.point q.index q.mask q.depth q.own

-- past 2 there is no find
pub no_find : {k operation key point index mask depth own : ℕ} → Counters k operation key point index mask depth own → 2 < point → operation ≢ 1
no_find c l z = omega (arith, c.find z)

pub only_delete : {k operation key point index mask depth own : ℕ} → Counters k operation key point index mask depth own → 2 < point → operation ≢ 2 → operation ≡ 3
only_delete c l d = omega (arith, c.op_low, c.op_high, no_find c l)

-- and nothing that it uses at its point is missing
pub record Uses (depth-room point gp l index helped other depth : ℕ) : Type 0 where
  pub room : depth ≤ depth-room
  pub l_there : 3 ≤ point → point ≤ 5 → l ≢ 0
  pub gp_there : point ≡ 5 → gp ≢ 0
  pub helped_there : 6 ≤ point → helped ≢ 0
  pub index_there : point ≡ 3 → index ≢ 0
  pub other_there : point ≡ 13 → other ≢ 0

names_more : {s s' : Shared} → Grown s s' → (v : Pending) → Names s v → Names s' v
names_more g (Clean r) l = omega (arith, g.records_more)
names_more g (Replace r) l = (omega (arith, l.0, g.records_more), rw (g.rec_same r l.0) l.1)
names_more g (Prune r) l = (omega (arith, l.0, g.records_more), rw (g.rec_same r l.0) l.1)
names_more g (Mark r) l = (omega (arith, l.0, g.records_more), rw (g.rec_same r l.0) l.1)

pub held_more : {k : ℕ} {s s' : Shared} {gp p l : ℕ} {pseen gseen : Pending} {helped other own : ℕ} → Grown s s'
    → Held k s gp p l pseen gseen helped other own → Held k s' gp p l pseen gseen helped other own
held_more {k} {s} {s'} {gp} {p} {l} {pseen} {gseen} {helped} {other} {own} g w = record {
  p_used = omega (arith, w.p_used, g.nodes_more);
  p_inner = g.tag_same p w.p_used ∙ w.p_inner;
  gp_good_lem = inner w.gp_good_lem;
  l_good_lem = leaf w.l_good_lem;
  other_good_lem = node w.other_good_lem;
  pseen_good = names_more g pseen w.pseen_good;
  gseen_good = names_more g gseen w.gseen_good;
  helped_good_lem = omega (arith, w.helped_good_lem, g.records_more);
  own_good = omega (arith, w.own_good, g.records_more);
}
  where
    inner : (gp ≡ 0) ⊎ (In s.nodes gp × (s.view.tag gp ≡ k)) → (gp ≡ 0) ⊎ (In s'.nodes gp × (s'.view.tag gp ≡ k))
    inner (inl e) = inl e
    inner (inr u) = inr (omega (arith, u.0, g.nodes_more), g.tag_same gp u.0 ∙ u.1)

    leaf : (l ≡ 0) ⊎ (In s.nodes l × (s.view.tag l ≢ k)) → (l ≡ 0) ⊎ (In s'.nodes l × (s'.view.tag l ≢ k))
    leaf (inl e) = inl e
    leaf (inr u) = inr (omega (arith, u.0, g.nodes_more), rw (g.tag_same l u.0) u.1)

    node : (other ≡ 0) ⊎ In s.nodes other → (other ≡ 0) ⊎ In s'.nodes other
    node (inl e) = inl e
    node (inr u) = inr (omega (arith, u, g.nodes_more))

zero_is : (x : ℕ) (t : Bool) → x ≡ 0 → zero_or x t ≡ true
unfolding pick
zero_is x t e = rw e refl

zero_or_lem : (x : ℕ) (t : Bool) → t ≡ true → zero_or x t ≡ true
unfolding pick
zero_or_lem x t e = go (eqb x 0)
  where
    go : (u : Bool) → pick u true t ≡ true
    go true = refl
    go false = e

given_is : (used : Bool) (x : ℕ) → (used ≡ true → x ≢ 0) → given used x ≡ true
unfolding pick
given_is true x f = rw (ne_eqb x 0 (f refl)) refl
given_is false x f = refl

-- "Zero is damage in p and in what the row uses"
module _ {k D : ℕ} (q : Process) (c : CountersBy k q) (u : Uses D q.point q.gp q.l q.index q.helped q.other q.depth) where
  index_used : uses_index q.point ≡ true → q.index ≢ 0
  unfolding pick
  index_used = at (eqb q.point 3) refl (within 6 q.point 7) refl (within 11 q.point 13) refl
    where
      at : (x : Bool) → eqb q.point 3 ≡ x → (y : Bool) → within 6 q.point 7 ≡ y → (z : Bool) → within 11 q.point 13 ≡ z
          → pick x true (pick y true z) ≡ true → q.index ≢ 0
      at true e y f z g w = u.index_there (eqb-true q.point 3 e)
      at false e true f z g w = λ v.
          omega (arith, c.index_6 (within_low 6 q.point 7 f) (within_high 6 q.point 7 f))
      at false e false f true g w = λ v.
          omega (arith, c.index_11 (within_low 11 q.point 13 g) (within_high 11 q.point 13 g))
      at false e false f false g w = λ v. let z : ◌≡◌ {A = ℕ} 0 1 = cc in omega arith

  pub uses_good_lem : uses_good q ≡ true
  unfolding uses_good
  uses_good_lem =
      both_is (given_is (within 3 q.point 5) q.l (λ e. u.l_there (within_low 3 q.point 5 e) (within_high 3 q.point 5 e)))
      (both_is (given_is (eqb q.point 5) q.gp (λ e. u.gp_there (eqb-true q.point 5 e)))
      (both_is (given_is (leb 6 q.point) q.helped (λ e. u.helped_there (leb-true 6 q.point e)))
      (both_is (given_is (uses_index q.point) q.index index_used)
      (both_is (given_is (eqb q.point 13) q.other (λ e. u.other_there (eqb-true q.point 13 e)))
      (given_is (eqb q.point 10) q.depth (λ e z. omega (arith, c.ten (eqb-true q.point 10 e))))))))

point_good_lem : (operation point : ℕ) → 1 ≤ point → point ≤ 14 → (operation ≡ 1 → point ≤ 2) → (operation ≡ 2 → point ≢ 3) → (operation ≡ 2 → point ≢ 5) → point_good operation point ≡ true
unfolding pick both
point_good_lem operation point a c f g e = both_is (within_is 1 point 14 a c) (go (eqb operation 1) refl (eqb operation 2) refl)
  where
    go : (t : Bool) → eqb operation 1 ≡ t → (s : Bool) → eqb operation 2 ≡ s → pick t (leb point 2) (pick s (point_of_insert point) true) ≡ true
    go true x s y = le-leb point 2 (f (eqb-true operation 1 x))
    go false x true y = rw (ne_eqb point 3 (g (eqb-true operation 2 y)), ne_eqb point 5 (e (eqb-true operation 2 y))) refl
    go false x false y = refl

pub process_good_lem : {h : Header} {b : List ℕ} (q : Process) → Fit h b → Sound h.k (tables_of h b) → HeldBy h.k (tables_of h b) q → CountersBy h.k q
    → Uses (depth_of h) q.point q.gp q.l q.index q.helped q.other q.depth → process_good b h q ≡ true
unfolding process_good numbers_good nodes_good records_good
process_good_lem {h} {b} q fit I w c u =
    both_is
    (both_is (within_is 1 q.operation 3 c.op_low c.op_high)
    (both_is (lt-ltb q.key infinity c.finite)
    (both_is (point_good_lem q.operation q.point c.point_low c.point_high c.find c.insert_3 c.insert_5)
    (both_is (le-leb q.index h.k c.index_high)
    (both_is (lt-ltb q.mask (2 ^ h.k) c.mask_high) (le-leb q.depth (depth_of h) u.room))))))
    (both_is
    (both_is (inner_good b h q.p w.p_used w.p_inner) (both_is (gp_is w.gp_good_lem) (both_is (l_is w.l_good_lem) (other_is w.other_good_lem))))
    (both_is
    (both_is (pending_good_lem b h q.pseen w.pseen_good)
    (both_is (pending_good_lem b h q.gseen w.gseen_good) (both_is (le-leb q.helped h.recordsused w.helped_good_lem) (le-leb q.own h.recordsused w.own_good))))
    (uses_good_lem q c u)))
  where
    gp_is : (q.gp ≡ 0) ⊎ (In h.nodesused q.gp × (tag_word b h q.gp ≡ h.k)) → zero_or q.gp (is_internal (kin_of b h q.gp)) ≡ true
    gp_is (inl e) = zero_is q.gp _ e
    gp_is (inr x) = zero_or_lem q.gp _ (inner_good b h q.gp x.0 x.1)

    l_is : (q.l ≡ 0) ⊎ (In h.nodesused q.l × (tag_word b h q.l ≢ h.k)) → zero_or q.l (is_leaf (kin_of b h q.l)) ≡ true
    l_is (inl e) = zero_is q.l _ e
    l_is (inr x) = zero_or_lem q.l _ (leaf_good b h q.l x.0 (omega (arith, I.inv.shape.tags q.l x.0, x.1)))

    other_is : (q.other ≡ 0) ⊎ In h.nodesused q.other → zero_or q.other (is_node (kin_of b h q.other)) ≡ true
    other_is (inl e) = zero_is q.other _ e
    other_is (inr x) = zero_or_lem q.other _ (node_good_lem b h q.other x (I.inv.shape.tags q.other x))

-- what a process knows at its point gives what it uses there
module _ {h : Header} {b : List ℕ} (q : Process) (fit : Fit h b) (I : Sound h.k (tables_of h b)) (c : CountersBy h.k q) where
  depth_is : (h.nodes - 2 * h.k - 1) / h.k ≡ depth_of h
  depth_is = ap (λ (m : ℕ). m / h.k) (let z : h.nodes - 2 * h.k - 1 ≡ h.nodes - (2 * h.k + 1) = omega arith in z)

  pub stack_room : {f : ℕ → ℕ} {d : ℕ} → Stacked h.k (tables_of h b) f d → d ≤ depth_of h
  stack_room {f} {d} st = rw (← depth_is) (stack_depth f d h.nodes fit.limits.numbers.k_low I fit.limits.used_high st)

  other_at_13 : (r : ℕ) → In h.recordsused r → SwapsP h.k (tables_of h b) r q.index q.other → q.other ≢ 0
  other_at_13 r i w = go (always_one fit.limits.numbers.k_low I r i w.notes.marks w.notes.noted)
    where
      go : (j : ℕ) × In h.k j × ((view_of h b).child ((tables_of h b).rec r).p j ≡ q.other) × ((view_of h b).tag q.other ≢ 0) × (q.other ≢ ((tables_of h b).rec r).l) → q.other ≢ 0
      go z e = omega (arith, z.2, I.inv.shape.above ((tables_of h b).rec r).p z.0 (p_used I.inv r i) (I.inv.good r i).inner z.1)

  pub serves_uses : (n m : ℕ) → q.point ≡ m → 6 ≤ m → Serves h.k (tables_of h b) (mind_of h b n q) m
      → Uses (depth_of h) q.point q.gp q.l q.index q.helped q.other q.depth
  serves_uses n m e l w = record {
    room = stack_room w.stacked;
    l_there = λ a d. absurd (omega arith);
    gp_there = λ a. absurd (omega arith);
    helped_there = λ a z. omega (arith, w.used);
    index_there = λ a. absurd (omega arith);
    other_there = λ a. other_at_13 q.helped w.used (subst (λ (x : ℕ). Helps h.k (tables_of h b) q.helped q.index q.other x) (sym e ∙ a) w.helps);
  }

pub helps_kind : (k : ℕ) (s : Shared) (r index other point : ℕ) → Helps k s r index other point → (s.rec r).kind ≡ kind_at point
unfolding Marks pick
helps_kind k s r index other zero w = absurd w
helps_kind k s r index other (suc zero) w = absurd w
helps_kind k s r index other (suc (suc zero)) w = absurd w
helps_kind k s r index other (suc (suc (suc zero))) w = absurd w
helps_kind k s r index other (suc (suc (suc (suc zero)))) w = absurd w
helps_kind k s r index other (suc (suc (suc (suc (suc zero))))) w = absurd w
helps_kind k s r index other (suc (suc (suc (suc (suc (suc zero)))))) w = w.kind
helps_kind k s r index other (suc (suc (suc (suc (suc (suc (suc zero))))))) w = w.kind
helps_kind k s r index other (suc (suc (suc (suc (suc (suc (suc (suc zero)))))))) w = w.is
helps_kind k s r index other (suc (suc (suc (suc (suc (suc (suc (suc (suc zero))))))))) w = w
helps_kind k s r index other (suc (suc (suc (suc (suc (suc (suc (suc (suc (suc zero)))))))))) w = w.prune
helps_kind k s r index other (suc (suc (suc (suc (suc (suc (suc (suc (suc (suc (suc zero))))))))))) w = w.marks.0
helps_kind k s r index other (suc (suc (suc (suc (suc (suc (suc (suc (suc (suc (suc (suc zero)))))))))))) w = w.notes.marks.0
helps_kind k s r index other (suc (suc (suc (suc (suc (suc (suc (suc (suc (suc (suc (suc (suc zero))))))))))))) w = w.notes.marks.0
helps_kind k s r index other (suc (suc (suc (suc (suc (suc (suc (suc (suc (suc (suc (suc (suc (suc zero)))))))))))))) w = w.is
helps_kind k s r index other (suc (suc (suc (suc (suc (suc (suc (suc (suc (suc (suc (suc (suc (suc (suc m))))))))))))))) w = absurd w

pub helps_good : {h : Header} {b : List ℕ} (q : Process) → Fit h b → Sound h.k (tables_of h b)
    → (6 ≤ q.point → In h.recordsused q.helped × In h.processes (record_word b h q.helped process_field) × (record_word b h q.helped 0 ≡ kind_at q.point))
    → helped_good b h q ≡ true
unfolding helped_good pick
helps_good {h} {b} q fit I f = go (ltb q.point 6) refl
  where
    kinds : (t : Bool) → leb q.point 8 ≡ t → In h.recordsused q.helped → In h.processes (record_word b h q.helped process_field) → record_word b h q.helped 0 ≡ pick t 1 2
        → record_good b h (pick t 1 2) q.helped ≡ true
    kinds true e i o x = replace_good fit I q.helped i o x
    kinds false e i o x = prune_good fit I q.helped i o x

    go : (t : Bool) → ltb q.point 6 ≡ t → pick t true (record_good b h (kind_at q.point) q.helped) ≡ true
    go true e = refl
    go false e = let g = f (ltb-false q.point 6 e) in kinds (leb q.point 8) refl g.0 g.1 g.2
