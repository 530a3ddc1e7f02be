-- Going to help: a value seen, the top of the stack, a push, and the own record through them.
use mathlib.Core.Path.{◌≡◌, refl, sym, ◌∙◌}
use mathlib.Core.Logic.{◌≢◌, ◌⊎◌, inl, inr}
use Prim.Native.Nat.{ℕ, suc, ◌≤◌, ◌<◌}
use native.Mathlib.Omega.{arith}
use Rattle.history.specs.View.{In}
use Rattle.history.specs.Shared.{Shared, Failed}
use Rattle.history.proofs.Helping.{passed_first, noted_first}
use Rattle.history.proofs.Helps.{Marks, Helps}
use Rattle.history.proofs.Stacks.{Stacked, GoesOn, stack_push, stack_front, goes_on_next}
use Rattle.history.proofs.Knows.{Mind, Owns, none_yet, owns, Serves}

module _ {k : ℕ} {s : Shared} {M : Mind} (hk : 2 ≤ k) (r : ℕ) (h : In s.records r) (helped : M.helped ≡ r)
    (st : Stacked k s M.stack M.depth) (own : Owns s M) where
  -- a replace: to 6, index 1
  pub serve_replace : (s.rec r).kind ≡ 1 → M.index ≡ 1 → Serves k s M 6
  serve_replace kd one = record {
    used = rw helped h;
    helps = rw helped (record { kind = kd; passed = rw one (passed_first hk r (s.rec r).p) });
    stacked = st;
    goes_on = λ z. absurd (omega arith);
    on_top = λ z. absurd (omega arith);
    own = own;
  }

  -- a prune: to 9
  pub serve_prune : (s.rec r).kind ≡ 2 → GoesOn s M.stack M.depth r → Serves k s M 9
  serve_prune kd g = record { used = rw helped h; helps = rw helped kd; stacked = st; goes_on = λ z. rw helped g; on_top = λ z. absurd (omega arith); own = own }

  -- a mark: to 11 with its record, index 1, nothing noted
  pub serve_mark : Marks s r → M.index ≡ 1 → M.other ≡ 0 → Serves k s M 11
  serve_mark m one none = record {
    used = rw helped h;
    helps = rw helped (record { marks = m; noted = rw (one, none) noted_first });
    stacked = st;
    goes_on = λ z. absurd (omega arith);
    on_top = λ z. absurd (omega arith);
    own = own;
  }

-- help has ended with a stack: to 10 for its top
pub serve_top : {k : ℕ} {s : Shared} {M : Mind} (d : ℕ) → M.depth ≡ suc d → M.helped ≡ M.stack d → Stacked k s M.stack M.depth
    → Owns s M → Serves k s M 10
serve_top {k} {s} {M} d e t st own = record {
  used = rw t (st.used d (omega arith));
  helps = rw t (st.failed d (omega arith));
  stacked = st;
  goes_on = λ z. absurd (omega arith);
  on_top = λ z a y. (let b : a ≡ d = omega arith in rw b t);
  own = own;
}

module _ {s : Shared} {M M' : Mind} (same-process : M'.process ≡ M.process) (same_operation : M'.operation ≡ M.operation)
    (same_key : M'.key ≡ M.key) (same_own : M'.own ≡ M.own) where
  -- the own record stays the one helped, or at the bottom
  owns_with : (M'.depth ≡ 0 → (M.depth ≡ 0) × (M'.helped ≡ M.helped))
      → (1 ≤ M'.depth → ((M.depth ≡ 0) × (M'.stack 0 ≡ M.helped)) ⊎ ((1 ≤ M.depth) × (M'.stack 0 ≡ M.stack 0))) → Owns s M
      → Owns s M'
  owns_with f g (none_yet e) = none_yet (same_own ∙ e)
  owns_with f g (owns h a b c d e) =
      owns (rw same_own h) (rw (same_own, same-process) a) (rw (same_own, same_operation) b) (rw (same_own, same_key) c)
      (λ z. let w = f z in w.1 ∙ d w.0 ∙ sym same_own) (λ z. bottom (g z))
    where
      bottom : ((M.depth ≡ 0) × (M'.stack 0 ≡ M.helped)) ⊎ ((1 ≤ M.depth) × (M'.stack 0 ≡ M.stack 0)) → M'.stack 0 ≡ M'.own
      bottom (inl w) = w.1 ∙ d w.0 ∙ sym same_own
      bottom (inr w) = w.1 ∙ e w.0 ∙ sym same_own

  -- the same record is helped on, the stack as it was
  pub owns_same : M'.depth ≡ M.depth → M'.helped ≡ M.helped → ((i : ℕ) → i < M.depth → M'.stack i ≡ M.stack i) → Owns s M → Owns s M'
  owns_same d e f o = owns_with (λ z. (sym d ∙ z, e)) (λ z. inr (omega arith, f 0 (omega arith))) o

  -- so the rows that neither push nor pop have only their own facts to show
  pub serves_on : {k p q : ℕ} → Serves k s M p → q ≢ 9 → q ≢ 10 → M'.depth ≡ M.depth → M'.helped ≡ M.helped
      → ((i : ℕ) → i < M.depth → M'.stack i ≡ M.stack i) → Helps k s M'.helped M'.index M'.other q → Serves k s M' q
  serves_on w n n₁₀ d e f x = record {
    used = rw e w.used;
    helps = x;
    stacked = rw d (stack_front (omega arith) f w.stacked);
    goes_on = λ z. absurd (n z);
    on_top = λ z. absurd (n₁₀ z);
    own = owns_same d e f w.own;
  }

-- 9: the record goes onto the stack, and a prune met at its p goes on from there
module _ {k : ℕ} {s : Shared} {M : Mind} (M' : Mind) (w : Serves k s M 9) (failed : Failed s.view (s.rec M.helped) M.helped)
    (deeper : M'.depth ≡ suc M.depth) (same : (i : ℕ) → i < M.depth → M'.stack i ≡ M.stack i)
    (new : M'.stack M.depth ≡ M.helped) where
  pub pushed : Stacked k s M'.stack M'.depth
  pushed = rw deeper (stack_push same new w.used failed (w.goes_on refl) w.stacked)

  pub met_there : {q : ℕ} → (s.rec q).third ≡ (s.rec M.helped).p → GoesOn s M'.stack M'.depth q
  met_there e = rw deeper (goes_on_next new e)
