-- Going to help a value that was seen, and help that has ended: what the process knows then.
use Prim.Native.Nat.{ℕ, suc, ◌-◌, ◌≤◌}
use mathlib.Core.Path.{◌≡◌, refl, sym, ◌∙◌, subst}
use mathlib.Core.Logic.{◌≢◌, ◌⊎◌, inl}
use mathlib.Core.Bool.{false}
use mathlib.Core.List.{List}
use native.Mathlib.Omega.{arith}
use native.Mathlib.Decide.{ℕ_discrete}
use borrow.Author.Tests.{eq-eqb, ne_eqb}
use Rattle.tables.specs.Choice.{pick, both}
use Rattle.nodes.specs.Pending.{pending_of}
use Rattle.tables.specs.declared.header.Header.{Header}
use Rattle.nodes.specs.declared.pending.Pending.{Pending}
use Rattle.nodes.specs.declared.pending.Pending.TheVariants.{Clean, Replace, Prune, Mark}
use Rattle.process.specs.declared.Process.{Process}
use Rattle.process.specs.Process.{to_six, to_nine, to_ten, to_eleven}
use Rattle.process.specs.Answer.{going_on}
use Rattle.help.specs.Help.{helping, help_ended}
use Rattle.history.specs.View.{In}
use Rattle.history.specs.Shared.{Shared}
use Rattle.history.proofs.Invariant.{Word, clean, replacing, pruning, marked}
use Rattle.history.proofs.Helps.{Marks}
use Rattle.history.proofs.Stacks.{Stacked, GoesOn}
use Rattle.history.proofs.Descent.{Read}
use Rattle.history.proofs.Knows.{Mind, Owns, none_yet, owns}
use Rattle.history.proofs.Serving.{serve_replace, serve_prune, serve_mark, serve_top}
use Rattle.link.specs.Tables.{stack_of}
use Rattle.link.proofs.Checks.{Late, clean_is, replace_is, prune_is, mark_is}
use Rattle.link.proofs.Minds.{mind_of, Held, HeldBy, NewerBy, newer_helped, Counters, CountersBy}
use Rattle.link.proofs.Moments.{tables, Now, Frees, Follows, already, k_low, restarts}

-- helping: the numbers that its points ask for
pub counters_help : {k operation key point index mask depth own : ℕ} (point' index' depth' own' : ℕ) → Counters k operation key point index mask depth own → operation ≢ 1
    → 6 ≤ point' → point' ≤ 14 → index' ≤ k → (point' ≤ 7 → 1 ≤ index') → (11 ≤ point' → point' ≤ 13 → 1 ≤ index') → (point' ≡ 10 → 1 ≤ depth')
    → Counters k operation key point' index' mask depth' own'
counters_help point' index' depth' own' c o l g i x y z = record {
  op_low = c.op_low;
  op_high = c.op_high;
  finite = c.finite;
  point_low = omega arith;
  point_high = g;
  find = λ e. absurd (o e);
  insert_3 = λ e f. omega arith;
  insert_5 = λ e f. omega arith;
  index_high = i;
  mask_high = c.mask_high;
  early_depth = λ e. absurd (omega arith);
  early_own = λ e. absurd (omega arith);
  masked = λ e. absurd (omega arith);
  index_6 = λ a d. x d;
  ten = z;
  index_11 = y;
}

pub held_records : {k : ℕ} {s : Shared} {gp p l : ℕ} {pseen gseen : Pending} {helped other own : ℕ} (r r' : ℕ) → r ≤ s.records → r' ≤ s.records
    → Held k s gp p l pseen gseen helped other own → Held k s gp p l pseen gseen r other r'
held_records r r' e e' w = record {
  p_used = w.p_used;
  p_inner = w.p_inner;
  gp_good_lem = w.gp_good_lem;
  l_good_lem = w.l_good_lem;
  other_good_lem = w.other_good_lem;
  pseen_good = w.pseen_good;
  gseen_good = w.gseen_good;
  helped_good_lem = e;
  own_good = e';
}

held_helped : {k : ℕ} {s : Shared} {gp p l : ℕ} {pseen gseen : Pending} {helped other own : ℕ} (r : ℕ) → r ≤ s.records → Held k s gp p l pseen gseen helped other own
    → Held k s gp p l pseen gseen r other own
held_helped {own = own} r e w = held_records r own e w.own_good w

pub held_other : {k : ℕ} {s : Shared} {gp p l : ℕ} {pseen gseen : Pending} {helped other own : ℕ} (v : ℕ) → (v ≡ 0) ⊎ In s.nodes v
    → Held k s gp p l pseen gseen helped other own → Held k s gp p l pseen gseen helped v own
held_other v e w = record {
  p_used = w.p_used;
  p_inner = w.p_inner;
  gp_good_lem = w.gp_good_lem;
  l_good_lem = w.l_good_lem;
  other_good_lem = e;
  pseen_good = w.pseen_good;
  gseen_good = w.gseen_good;
  helped_good_lem = w.helped_good_lem;
  own_good = w.own_good;
}

-- the own record where any record may be helped: there is none, or it is at the bottom of the stack
pub data Loose (s : Shared) (n operation key depth own : ℕ) (stack : ℕ → ℕ) : Type 0 where
  free : own ≡ 0 → Loose s n operation key depth own stack
  below : 1 ≤ depth → In s.records own → (s.rec own).process ≡ n → (s.rec own).operation ≡ operation → (s.rec own).key ≡ key → stack 0 ≡ own
      → Loose s n operation key depth own stack

loose_owns : {s : Shared} (M : Mind) → Loose s M.process M.operation M.key M.depth M.own M.stack → Owns s M
loose_owns M (free e) = none_yet e
loose_owns M (below l i a c e f) = owns i a c e (λ z. absurd (omega arith)) (λ z. f)

pub owns_loose : {s : Shared} (M : Mind) → 1 ≤ M.depth → Owns s M → Loose s M.process M.operation M.key M.depth M.own M.stack
owns_loose M l (none_yet e) = free e
owns_loose M l (owns i a c e f g) = below l i a c e (g l)

module _ {hs : ℕ → Header} {bs : ℕ → List ℕ} {i j : ℕ} (n : ℕ) (now : Now hs bs j) (q q₀ : Process) (b' : List ℕ) (top : ℕ) (since : i ≤ j)
    (c : CountersBy (hs j).k q₀) (w : HeldBy (hs j).k (tables hs bs j) q₀) (newer : NewerBy (hs 0).recordsused (stack_of (hs j) b' n) q₀) (busy : q₀.operation ≢ 1)
    (st : Stacked (hs j).k (tables hs bs j) (stack_of (hs j) b' n) q₀.depth)
    (own : Loose (tables hs bs j) n q₀.operation q₀.key q₀.depth q₀.own (stack_of (hs j) b' n))
    (on_top : (d : ℕ) → q₀.depth ≡ suc d → top ≡ stack_of (hs j) b' n d) (own₀ : q₀.own ≡ q.own) (free : q₀.depth ≡ 0 → Frees hs bs j (hs j) b' q) where
  -- with a stack, to 10 for its top; with none, elsewhere than at 8 and 14, a restart
  pub to_top : (d : ℕ) → q₀.depth ≡ suc d → Follows hs bs i j n (hs j) b' q (going_on (to_ten q₀ top))
  to_top d e =
      already (to_ten q₀ top) refl (λ d. absurd (d own₀)) (held_helped top (rw (on_top d e) (st.used d (omega arith)).high) w)
      (newer_helped top (rw (on_top d e) (newer.stack_late d (omega arith))) newer)
      (counters_help 10 q₀.index q₀.depth q₀.own c busy (omega arith) (omega arith) c.index_high (λ z. absurd (omega arith)) (λ z y. absurd (omega arith)) (λ z. omega arith))
      (serve_top d e (on_top d e) st (loose_owns (mind_of (hs j) b' n (to_ten q₀ top)) own))

  pub ended_early : Follows hs bs i j n (hs j) b' q (help_ended false top q₀)
  unfolding help_ended pick both
  ended_early = go (ℕ_discrete q₀.depth 0)
    where
      more : (m : ℕ) → m ≢ 0 → suc (m - 1) ≡ m
      more m z = omega arith

      go : Dec (q₀.depth ≡ 0) → Follows hs bs i j n (hs j) b' q (help_ended false top q₀)
      go (yes e) = rw (eq-eqb q₀.depth 0 e) (restarts n now q q₀ (hs j) b' (free e) since c)
      go (no e) = rw (ne_eqb q₀.depth 0 e) (to_top (q₀.depth - 1) (sym (more q₀.depth e)))

  -- a value seen of node a
  module _ {a v : ℕ} (r : Read (tables hs bs j) a v) (late : Late (hs 0).recordsused (pending_of v)) (goes : (m : ℕ) → ((tables hs bs j).rec m).third ≡ a → GoesOn (tables hs bs j) (stack_of (hs j) b' n) q₀.depth m) where
    by_value : (u : Pending) → pending_of v ≡ u → Follows hs bs i j n (hs j) b' q (helping top q₀ u) → Follows hs bs i j n (hs j) b' q (helping top q₀ (pending_of v))
    by_value u e f = subst (λ (x : Pending). Follows hs bs i j n (hs j) b' q (helping top q₀ x)) (sym e) f

    pub helps_on : Follows hs bs i j n (hs j) b' q (helping top q₀ (pending_of v))
    unfolding Marks
    helps_on = go r.word
      where
        hk : 2 ≤ (hs j).k
        hk = k_low now

        go : Word (hs j).recordsused (tables hs bs j).rec a v → Follows hs bs i j n (hs j) b' q (helping top q₀ (pending_of v))
        go (clean x e o) = by_value (Clean x) (clean_is v x e) ended_early
        go (replacing x e u kd pp) =
            by_value (Replace x) (replace_is v x e)
            (already (to_six q₀ x) refl (λ d. absurd (d own₀)) (held_helped x u.high w) (newer_helped x (rw (replace_is v x e) at late) newer)
            (counters_help 6 1 q₀.depth q₀.own c busy (omega arith) (omega arith) (omega arith) (λ z. omega arith) (λ z y. absurd (omega arith)) (λ z. absurd (omega arith)))
            (serve_replace hk x u refl st (loose_owns (mind_of (hs j) b' n (to_six q₀ x)) own) kd refl))
        go (pruning x e u kd pp) =
            by_value (Prune x) (prune_is v x e)
            (already (to_nine q₀ x) refl (λ d. absurd (d own₀)) (held_helped x u.high w) (newer_helped x (rw (prune_is v x e) at late) newer)
            (counters_help 9 q₀.index q₀.depth q₀.own c busy (omega arith) (omega arith) c.index_high (λ z. absurd (omega arith)) (λ z y. absurd (omega arith)) (λ z. absurd (omega arith)))
            (serve_prune hk x u refl st (loose_owns (mind_of (hs j) b' n (to_nine q₀ x)) own) kd (goes x pp)))
        go (marked x e u kd pp) =
            by_value (Mark x) (mark_is v x e)
            (already (to_eleven q₀ x) refl (λ d. absurd (d own₀)) (held_other 0 (inl refl) (held_helped x u.high w)) (newer_helped x (rw (mark_is v x e) at late) newer)
            (counters_help 11 1 q₀.depth q₀.own c busy (omega arith) (omega arith) (omega arith) (λ z. absurd (omega arith)) (λ z y. omega arith) (λ z. absurd (omega arith)))
            (serve_mark hk x u refl st (loose_owns (mind_of (hs j) b' n (to_eleven q₀ x)) own) (kd, rw pp (r.mark x e ∙ e)) refl refl))
