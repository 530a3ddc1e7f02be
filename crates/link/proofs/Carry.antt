-- From one moment to the next: what all share, what other processes know, what the one that moved knows.
use Prim.Native.Nat.{ℕ, zero, suc, ◌≤◌}
use mathlib.Core.Path.{◌≡◌, sym, ap, subst}
use mathlib.Core.Logic.{◌≢◌, ◌⊎◌, inl, inr}
use mathlib.Core.List.{List}
use native.Mathlib.Omega.{arith}
use Rattle.tables.specs.declared.header.Header.{Header}
use Rattle.process.specs.declared.Process.{Process}
use Rattle.process.specs.declared.Stepped.{Stepped}
use Rattle.process.specs.Process.{idle, with_steps}
use Rattle.process.specs.Answer.{steps_up}
use Rattle.history.specs.View.{In}
use Rattle.history.specs.Shared.{Shared}
use Rattle.history.specs.Run.{Run}
use Rattle.history.proofs.Invariant.{Sound}
use Rattle.history.proofs.Lasting.{grown}
use Rattle.history.proofs.Runs.{run_more}
use Rattle.history.proofs.Knows.{Mind, KnowsAt, Serves, stays_at}
use Rattle.link.specs.Tables.{stack_of}
use Rattle.link.proofs.Minds.{mind_with, mind_of, HeldBy, NewerBy, newer_same, CountersBy, held_more}
use Rattle.link.proofs.Moments.{tables, Now, Busy, Follows, already, afterwards, answers, Shift, k_low, now_sound}

module _ {hs : ℕ → Header} {bs : ℕ → List ℕ} {j : ℕ} {h' : Header} {b' : List ℕ} (eh : hs (suc j) ≡ h') (eb : bs (suc j) ≡ b') where
  pub shift_to : {n : ℕ} → Shift hs bs j n h' b' → Shift hs bs j n (hs (suc j)) (bs (suc j))
  shift_to {n} s = subst (λ (c : List ℕ). Shift hs bs j n (hs (suc j)) c) (sym eb) (subst (λ (g : Header). Shift hs bs j n g b') (sym eh) s)

  pub follows_to : {i n : ℕ} {q : Process} {s : Stepped} → Follows hs bs i j n h' b' q s → Follows hs bs i j n (hs (suc j)) (bs (suc j)) q s
  follows_to {i} {n} {q} {s} f =
      subst (λ (c : List ℕ). Follows hs bs i j n (hs (suc j)) c q s) (sym eb) (subst (λ (g : Header). Follows hs bs i j n g b' q s) (sym eh) f)

-- the mind of a process whose stack is as it was
mind_same : (h h' : Header) (b b' : List ℕ) (n : ℕ) (q : Process) → stack_of h' b' n ≡ stack_of h b n → mind_of h' b' n q ≡ mind_of h b n q
mind_same h h' b b' n q e = ap (λ (f : ℕ → ℕ). mind_with f n q) e

knows_serves : {k : ℕ} (S : ℕ → Shared) (i j : ℕ) (M : Mind) (m : ℕ) → 6 ≤ m → Serves k (S j) M m → KnowsAt k S i j M m
knows_serves S i j M zero l w = absurd (omega arith)
knows_serves S i j M (suc zero) l w = absurd (omega arith)
knows_serves S i j M (suc (suc zero)) l w = absurd (omega arith)
knows_serves S i j M (suc (suc (suc zero))) l w = absurd (omega arith)
knows_serves S i j M (suc (suc (suc (suc zero)))) l w = absurd (omega arith)
knows_serves S i j M (suc (suc (suc (suc (suc zero))))) l w = absurd (omega arith)
knows_serves S i j M (suc (suc (suc (suc (suc (suc m)))))) l w = w

module _ {hs : ℕ → Header} {bs : ℕ → List ℕ} {j n : ℕ} (now : Now hs bs j) (sh : Shift hs bs j n (hs (suc j)) (bs (suc j))) where
  abbrev k : ℕ
  k = (hs j).k

  abbrev S : ℕ → Shared
  S = tables hs bs

  pub now_next : Now hs bs (suc j)
  now_next = record {
    fit = sh.fit';
    run = subst (λ (x : ℕ). Run x S (suc j)) (sym sh.k_same) (run_more now.run sh.step);
    first = subst (λ (x : ℕ). Sound x (S 0)) (sym sh.k_same) now.first;
    none_stood = now.none_stood;
    owners = sh.owners';
  }

  pub place_back : {p : ℕ} → In (hs (suc j)).processes p → In (hs j).processes p
  place_back {p} u = subst (λ (x : ℕ). In x p) sh.processes_same u

  held_next : (q : Process) → HeldBy k (S j) q → HeldBy (hs (suc j)).k (S (suc j)) q
  held_next q w = subst (λ (x : ℕ). HeldBy x (S (suc j)) q) (sym sh.k_same) (held_more (grown (k_low now) (now_sound now) sh.step) w)

  -- what a process knows at the next moment, by the k of that moment
  busy_at : {i p : ℕ} (q : Process) → i ≤ j → In (hs j).processes p → HeldBy (hs (suc j)).k (S (suc j)) q → NewerBy (hs 0).recordsused (stack_of (hs (suc j)) (bs (suc j)) p) q
      → CountersBy k q → KnowsAt k S i (suc j) (mind_of (hs (suc j)) (bs (suc j)) p q) q.point → Busy hs bs i (suc j) p q
  busy_at {i} {p} q l u w v c z = record {
    since = omega arith;
    place = subst (λ (x : ℕ). In x p) (sym sh.processes_same) u;
    held = w;
    newer = v;
    counters = subst (λ (x : ℕ). CountersBy x q) (sym sh.k_same) c;
    knows = subst (λ (x : ℕ). KnowsAt x S i (suc j) (mind_of (hs (suc j)) (bs (suc j)) p q) q.point) (sym sh.k_same) z;
  }

  -- whoever did not move
  pub busy_next : {i p : ℕ} (q : Process) → p ≢ n → Busy hs bs i j p q → Busy hs bs i (suc j) p q
  busy_next {i} {p} q d y =
      busy_at q y.since y.place (held_next q y.held)
      (newer_same (sh.stacks p y.place d) y.newer) y.counters
      (subst (λ (M : Mind). KnowsAt k S i (suc j) M q.point) (sym (mind_same (hs j) (hs (suc j)) (bs j) (bs (suc j)) p q (sh.stacks p y.place d)))
      (stays_at S i j (mind_of (hs j) (bs j) p q) (k_low now) (now_sound now) sh.step q.point y.knows))

  -- the one that did
  pub busy_own : {i : ℕ} (q : Process) (s : Stepped) → i ≤ j → In (hs j).processes n → Follows hs bs i j n (hs (suc j)) (bs (suc j)) q s
      → Busy hs bs i (suc j) n s.process ⊎ (s.process ≡ idle)
  busy_own {i} q s l u (already q' e fr w v c z) =
      inl (subst (λ (x : Stepped). Busy hs bs i (suc j) n x.process) (sym e) (busy_at (with_steps q' (steps_up q'.steps)) l u (held_next q' w) v c
      (stays_at S i j (mind_of (hs (suc j)) (bs (suc j)) n q') (k_low now) (now_sound now) sh.step q'.point z)))
  busy_own {i} q s l u (afterwards q' e fr w v c m z) =
      inl (subst (λ (x : Stepped). Busy hs bs i (suc j) n x.process) (sym e) (busy_at (with_steps q' (steps_up q'.steps)) l u
      (subst (λ (x : ℕ). HeldBy x (S (suc j)) q') (sym sh.k_same) w) v c
      (knows_serves S i (suc j) (mind_of (hs (suc j)) (bs (suc j)) n q') q'.point m z)))
  busy_own q s l u (answers a e fr w) = inr (ap (λ (x : Stepped). x.process) e)
