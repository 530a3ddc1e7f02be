-- 4, 5: what a process knows, the compare that succeeds and the words it writes make a draw, and what it knows after.
use mathlib.Core.Path.{◌≡◌, refl, sym, ◌∙◌}
use Prim.Native.Nat.{ℕ, ◌+◌, ◌*◌, ◌≤◌, ◌<◌}
use native.Mathlib.Omega.{arith}
use Rattle.tables.specs.Numbers.{infinity}
use Rattle.nodes.specs.Keys.{put_in, taken_out}
use Rattle.history.specs.View.{View, In, keys}
use Rattle.history.specs.Shared.{Shared}
use Rattle.history.specs.Change.{SwapPend, NewRecord, NewLeaf, Sprout, Drawn, put_leaf, out_leaf, sprout, replace_words, prune_words}
use Rattle.history.specs.Change.{DrawReplace, DrawPrune}
use Rattle.history.specs.Run.{Run}
use Rattle.history.proofs.Invariant.{Sound}
use Rattle.history.proofs.Descent.{AtLeaf, ReplaceReady, PruneReady, replace_ready, prune_ready}
use Rattle.history.proofs.Stacks.{stack_empty}
use Rattle.history.proofs.Serving.{serve_replace, serve_prune}
use Rattle.history.proofs.Knows.{Mind, owns, Job, to_put, to_take, Deleting, Serves}

-- the words that 4 writes, by the operation and by how full l is
pub data Words (k : ℕ) (t t' : View) (n r : ℕ) (M : Mind) (size : ℕ) : Type 0 where
  one_more : M.operation ≡ 2 → t.tag M.l + 1 < k → NewLeaf t' n (put_in M.key (keys t M.l)) → size ≡ 1 → Words k t t' n r M size
  one_less : M.operation ≡ 3 → NewLeaf t' n (taken_out M.key (keys t M.l)) → size ≡ 1 → Words k t t' n r M size
  sprouts : M.operation ≡ 2 → t.tag M.l + 1 ≡ k → Sprout k t' n r (put_in M.key (keys t M.l)) → size ≡ k + 1
      → Words k t t' n r M size

drawn_words : {k : ℕ} {t t' : View} {n r : ℕ} {M : Mind} {size : ℕ} → Job t M → Words k t t' n r M size
    → Drawn k t t' n r M.operation M.key M.l size
drawn_words (to_put a m) (one_more b h w z) = put_leaf b m h w z
drawn_words (to_put a m) (one_less b w z) = absurd (omega arith)
drawn_words (to_put a m) (sprouts b h w z) = sprout b m h w z
drawn_words (to_take a m) (one_more b h w z) = absurd (omega arith)
drawn_words (to_take a m) (one_less b w z) = out_leaf b m w z
drawn_words (to_take a m) (sprouts b h w z) = absurd (omega arith)

module _ {k : ℕ} {S : ℕ → Shared} {s' : Shared} {i j : ℕ} {M : Mind} (hk : 2 ≤ k) (R : Run k S j) (I₀ : Sound k (S 0))
    (finite : M.key < infinity) (r : ℕ) where
  pub draws_replace : (e size : ℕ) → AtLeaf k S i j M.key M.p M.l e → Job (S j).view M → (S j).view.pend M.p ≡ 4 * e
      → Words k (S j).view s'.view ((S j).nodes + 1) r M size
      → SwapPend k (S j).nodes (S j).view s'.view M.p (4 * r + 1) → s'.nodes ≡ (S j).nodes + size
      → NewRecord (S j) s' r (replace_words M.l M.p ((S j).nodes + 1) M.process M.operation M.key)
      → DrawReplace k (S j) s' r M.p
  draws_replace e size a job z ws flag cnt nr = go (replace_ready hk R I₀ a z)
    where
      go : ReplaceReady k (S j) M.key M.p M.l → DrawReplace k (S j) s' r M.p
      go y = record {
        x = M.key;
        operation = M.operation;
        process = M.process;
        l = M.l;
        seen = e;
        size = size;
        finite = finite;
        on = y.on;
        inner = a.way.inner;
        at = y.at;
        leaf = a.leaf;
        clean = z;
        drawn = drawn_words job ws;
        flag = flag;
        counted = cnt;
        record_new = nr;
      }

  pub draws_prune : (d : Deleting k S i j M k) → M.ones ≡ 2 → (S j).view.tag M.l ≡ 1 → (S j).view.pend M.gp ≡ M.gseen
      → SwapPend k (S j).nodes (S j).view s'.view M.gp (4 * r + 2) → s'.nodes ≡ (S j).nodes
      → NewRecord (S j) s' r (prune_words M.l M.p M.gp M.pseen M.process M.key)
      → DrawPrune k (S j) s' r M.gp
  draws_prune d two one z flag cnt nr =
      go (prune_ready hk R I₀ d.g d.arrived.leaf (rw d.gp_clean at d.up) (rw two at d.counted) one d.has (z ∙ d.gp_clean))
    where
      go : PruneReady k (S j) M.key M.gp M.p M.l d.arrived.e → DrawPrune k (S j) s' r M.gp
      go y = record {
        x = M.key;
        process = M.process;
        p = M.p;
        l = M.l;
        seen = d.g;
        seen_p = d.arrived.e;
        finite = finite;
        on = y.on;
        inner = d.up.way.inner;
        at = y.at;
        p_inner = d.arrived.leaf.way.inner;
        past_dummy = y.past_dummy;
        above = d.arrived.leaf.under;
        used = d.arrived.leaf.used.high;
        alone = y.alone;
        age = y.age;
        fine = y.fine;
        clean = z ∙ d.gp_clean;
        flag = flag;
        counted = cnt;
        record_new = rw d.arrived.p_clean at nr;
      }

-- after the draw the process helps its own record: at 6 a replace, at 9 a prune
module _ {k : ℕ} {s : Shared} {M : Mind} (hk : 2 ≤ k) (r : ℕ) (h : In s.records r) (helped : M.helped ≡ r) (own : M.own ≡ r)
    (empty : M.depth ≡ 0) where
  pub own_replace : {l p n : ℕ} → s.rec r ≡ replace_words l p n M.process M.operation M.key → M.index ≡ 1 → Serves k s M 6
  own_replace w one = serve_replace hk r h helped (rw empty stack_empty)
      (owns (rw own h) (rw (own, w) refl) (rw (own, w) refl) (rw (own, w) refl) (λ z. helped ∙ sym own) (λ z. absurd (omega arith)))
      (rw w refl) one

  pub own_prune : {l p gp e : ℕ} → M.operation ≡ 3 → s.rec r ≡ prune_words l p gp e M.process M.key → Serves k s M 9
  own_prune op w = serve_prune hk r h helped (rw empty stack_empty)
      (owns (rw own h) (rw (own, w) refl) (rw (own, w, op) refl) (rw (own, w) refl) (λ z. helped ∙ sym own) (λ z. absurd (omega arith)))
      (rw w refl) (record { next = λ a b. absurd (omega arith) })
