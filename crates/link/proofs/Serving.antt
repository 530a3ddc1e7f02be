-- What the rows from 6 on share: a helper's facts over a step, one word written, a look at a child, the top of a stack.
use Prim.Native.Nat.{ℕ, zero, suc, ◌+◌, ◌≤◌, ◌<◌}
use mathlib.Core.Path.{◌≡◌, refl, ap}
use mathlib.Core.Logic.{◌≢◌}
use mathlib.Core.Bool.{Bool, true, false}
use mathlib.Core.List.{List}
use native.Mathlib.Omega.{arith}
use lib.Dec.{ltb, eqb}
use lib.ListN.{set}
use borrow.Author.Tests.{eqb-true, eqb-false, ltb-true, ltb-false, lt-ltb}
use Rattle.tables.specs.Choice.{pick}
use Rattle.tables.specs.Numbers.{node_words}
use Rattle.tables.specs.Layout.{depth_of, node_at, tag_word, child_word, stack_word, process_field}
use Rattle.tables.specs.declared.header.Header.{Header}
use Rattle.process.specs.declared.Process.{Process}
use Rattle.process.specs.declared.Stepped.{Stepped}
use Rattle.process.specs.Process.{with_point, with_index}
use Rattle.process.specs.Answer.{going_on}
use Rattle.finish.specs.Rows.{look_row}
use Rattle.history.specs.View.{In}
use Rattle.history.specs.Shared.{Shared}
use Rattle.history.specs.Run.{Step}
use Rattle.history.proofs.Invariant.{Sound}
use Rattle.history.proofs.Touch.{child_used}
use Rattle.history.proofs.Helps.{Helps}
use Rattle.history.proofs.Knows.{Mind, Serves, stays_at}
use Rattle.history.proofs.Serving.{serves_on}
use Rattle.link.specs.Tables.{tables_of, stack_of}
use Rattle.link.proofs.Writes.{Writes, in_node_lem, in_record_lem, writes_fit, stack_same, stack_over_node}
use Rattle.link.proofs.Checks.{below_good}
use Rattle.link.proofs.Minds.{mind_of}
use Rattle.link.proofs.Moments.{tables, Now, Busy, Follows, Swapper, Turn, now_sound, quiet}

-- two moments
two : Shared → Shared → ℕ → Shared
two s s' zero = s
two s s' (suc m) = s'

pub serves_stays : {k : ℕ} {s s' : Shared} (M : Mind) (m : ℕ) → 2 ≤ k → Sound k s → Step k s s' → 6 ≤ m → Serves k s M m → Serves k s' M m
unfolding two
serves_stays {k} {s} {s'} M (suc (suc (suc (suc (suc (suc m)))))) hk I c l w = stays_at (two s s') 0 0 M hk I c (suc (suc (suc (suc (suc (suc m)))))) w
serves_stays M zero hk I c l w = absurd (omega arith)
serves_stays M (suc zero) hk I c l w = absurd (omega arith)
serves_stays M (suc (suc zero)) hk I c l w = absurd (omega arith)
serves_stays M (suc (suc (suc zero))) hk I c l w = absurd (omega arith)
serves_stays M (suc (suc (suc (suc zero)))) hk I c l w = absurd (omega arith)
serves_stays M (suc (suc (suc (suc (suc zero))))) hk I c l w = absurd (omega arith)

module _ {hs : ℕ → Header} {bs : ℕ → List ℕ} {i j n : ℕ} (now : Now hs bs j) (q : Process) (y : Busy hs bs i j n q) where
  abbrev h : Header
  h = hs j

  abbrev b : List ℕ
  b = bs j

  abbrev k : ℕ
  k = (hs j).k

  abbrev S : ℕ → Shared
  S = tables hs bs

  I : Sound k (S j)
  I = now_sound now

  -- the header and the records are as they were
  pub written : {b' : List ℕ} {a off : ℕ} {sound : Bool} {stepped : Stepped} → Writes h b b' a off → sound ≡ true → (c : Step k (S j) (tables_of h b')) → Swapper hs bs j q (tables_of h b') c
      → ((m : ℕ) → In h.processes m → m ≢ n → stack_of h b' m ≡ stack_of h b m) → Follows hs bs i j n h b' q stepped → Turn hs bs i j n q sound stepped b'
  written {b'} w e step swapper stacks f = record {
    is_sound = e;
    h' = h;
    shift = record {
      fit' = writes_fit now.fit w;
      k_same = refl;
      processes_same = refl;
      step = step;
      stacks = stacks;
      owners' =
          λ r l u. rw (w.rec r process_field (in_record_lem now.fit r process_field (omega arith) (omega arith))) (now.owners r l u);
      drawn_by = λ r a c. absurd (omega arith);
    };
    swapper = swapper;
    drawn_as = λ r a c. absurd (omega arith);
    follows = f;
  }

  -- no stack changes where a node's word is written
  pub stacks_node : (a off v : ℕ) → In h.nodesused a → off < node_words k → (m : ℕ) → In h.processes m → stack_of h (set b (node_at h a off) v) m ≡ stack_of h b m
  stacks_node a off v u l m p =
      stack_same h b (set b (node_at h a off) v) m
      (λ d g. stack_over_node h b m d (record { from_one = p.low; to_last = p.high; within = g }) a off v (in_node_lem now.fit a off u l))

  -- 6, 12: one child looked at
  pub looks : (parent target found missed : ℕ) → q.point ≢ 7 → q.point ≢ 13 → In h.nodesused parent → tag_word b h parent ≡ k → In k q.index
      → (child_word b h parent q.index ≡ target → Follows hs bs i j n h b q (going_on (with_point q found)))
      → (child_word b h parent q.index ≢ target → q.index < k → Follows hs bs i j n h b q (going_on (with_index q (q.index + 1))))
      → (child_word b h parent q.index ≢ target → q.index ≡ k → Follows hs bs i j n h b q (going_on (with_point q missed)))
      → Turn hs bs i j n q (look_row b h q parent target found missed).sound (look_row b h q parent target found missed).stepped (look_row b h q parent target found missed).block
  unfolding look_row pick
  looks parent target found missed n₇ n₁₃ u e s f g m =
      quiet now (λ z. absurd (n₇ z)) (λ z. absurd (n₁₃ z)) (below_good b h parent child (I.inv.shape.above parent q.index u e s) c_used (I.inv.shape.tags child c_used))
      (go (eqb child target) refl (ltb q.index k) refl)
    where
      child : ℕ
      child = child_word b h parent q.index

      c_used : In h.nodesused child
      c_used = child_used I.inv.shape parent q.index u e s

      go : (x : Bool) → eqb child target ≡ x → (z : Bool) → ltb q.index k ≡ z
          → Follows hs bs i j n h b q (pick x (going_on (with_point q found)) (pick z (going_on (with_index q (q.index + 1))) (going_on (with_point q missed))))
      go true x z v = f (eqb-true child target x)
      go false x true v = g (eqb-false child target x) (ltb-true q.index k v)
      go false x false v = m (eqb-false child target x) (omega (arith, ltb-false q.index k v, s.high))

-- a word of a stack that is within its room
pub stack_at_lem : (h : Header) (b : List ℕ) (n d : ℕ) → d < depth_of h → stack_of h b n d ≡ stack_word b h n d
unfolding pick
stack_at_lem h b n d l = rw (lt-ltb d (depth_of h) l) refl

-- the same record helped on, the stack as it was
pub goes_on : {k : ℕ} {s : Shared} (h : Header) (b b' : List ℕ) (n m m' : ℕ) (q q' : Process) → q'.operation ≡ q.operation → q'.key ≡ q.key → q'.own ≡ q.own → q'.depth ≡ q.depth
    → q'.helped ≡ q.helped → stack_of h b' n ≡ stack_of h b n → m' ≢ 9 → m' ≢ 10 → Serves k s (mind_of h b n q) m → Helps k s q'.helped q'.index q'.other m'
    → Serves k s (mind_of h b' n q') m'
goes_on h b b' n m m' q q' o y w d e z x x₁₀ v u =
    serves_on {M = mind_of h b n q} {M' = mind_of h b' n q'} refl o y w v x x₁₀ d e (λ a l. ap (λ (f : ℕ → ℕ). f a) z) u
