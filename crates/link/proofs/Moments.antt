-- The state at each moment of a run, what all processes share of it, what a busy one has, and what a row is to give.
use Prim.Native.Nat.{ℕ, ◌*◌, ◌^◌, ◌≤◌, ◌<◌}
use mathlib.Core.Path.{◌≡◌, refl}
use mathlib.Core.Logic.{◌≢◌, inl}
use mathlib.Core.Bool.{Bool, true}
use mathlib.Core.List.{List}
use native.Mathlib.Omega.{arith}
use lib.Pow.{pow_pos}
use Rattle.tables.specs.Numbers.{infinity}
use Rattle.tables.specs.Layout.{child_word, record_word, process_field, operation_field, key_field}
use Rattle.tables.specs.declared.header.Header.{Header}
use Rattle.nodes.specs.Pending.{pending_of}
use Rattle.nodes.specs.declared.pending.Pending.TheVariants.{Clean}
use Rattle.process.specs.declared.Process.{Process}
use Rattle.process.specs.declared.Answer.{Answer}
use Rattle.process.specs.declared.Answer.TheVariants.{No, Yes, Full}
use Rattle.process.specs.declared.Stepped.{Stepped}
use Rattle.process.specs.Process.{restarted_of}
use Rattle.process.specs.Answer.{going_on, ending_of}
use Rattle.help.specs.Help.{helped_l, helped_p, helped_third}
use Rattle.history.specs.View.{In, Holds}
use Rattle.history.specs.Shared.{Shared, Done, Stands}
use Rattle.history.specs.Effects.{Swapped}
use Rattle.history.specs.Run.{Step, rests, Run, step_swaps, Moment}
use Rattle.history.proofs.Invariant.{Sound}
use Rattle.history.proofs.Runs.{sound_at}
use Rattle.history.proofs.Newer.{Been, been_used, seen_new}
use Rattle.history.proofs.Descent.{Way, at_root, way_root}
use Rattle.history.proofs.Knows.{Mind, KnowsAt, Descends, Serves}
use Rattle.link.specs.Tables.{tables_of, stack_of}
use Rattle.link.proofs.Writes.{Fit, writes_none, tables_same}
use Rattle.link.proofs.Checks.{Late, word_late}
use Rattle.link.proofs.Minds.{mind_of, Held, HeldBy, NewerBy, newer_root, Counters, CountersBy}

-- the tables at each moment
abbrev pub tables : (ℕ → Header) → (ℕ → List ℕ) → ℕ → Shared
tables hs bs m = tables_of (hs m) (bs m)

-- moment j: what all processes share. (A record from before moment 0 may name any process.)
pub record Now (hs : ℕ → Header) (bs : ℕ → List ℕ) (j : ℕ) : Type 0 where
  pub fit : Fit (hs j) (bs j)
  pub run : Run (hs j).k (tables hs bs) j
  pub first : Sound (hs j).k (tables hs bs 0)
  pub none_stood : (r : ℕ) → In (hs 0).recordsused r → ¬ Stands (tables hs bs 0).view ((tables hs bs 0).rec r) r
  pub owners : (r : ℕ) → (hs 0).recordsused < r → r ≤ (hs j).recordsused → In (hs j).processes (record_word (bs j) (hs j) r process_field)

-- what process n has, busy since moment i with record q
pub record Busy (hs : ℕ → Header) (bs : ℕ → List ℕ) (i j n : ℕ) (q : Process) : Type 0 where
  pub since : i ≤ j
  pub place : In (hs j).processes n
  pub held : HeldBy (hs j).k (tables hs bs j) q
  pub newer : NewerBy (hs 0).recordsused (stack_of (hs j) (bs j) n) q
  pub counters : CountersBy (hs j).k q
  pub knows : KnowsAt (hs j).k (tables hs bs) i j (mind_of (hs j) (bs j) n q) q.point

-- why an answer is what it is
pub data Why (k : ℕ) (S : ℕ → Shared) (i j n : ℕ) (q : Process) (a : Answer) : Type 0 where
  found : q.operation ≡ 1 → a ≡ Yes → Moment i j (λ m. Holds k (S m).view q.key) → Why k S i j n q a
  missing : q.operation ≡ 1 → a ≡ No → Moment i j (λ m. ¬ Holds k (S m).view q.key) → Why k S i j n q a
  there : q.operation ≡ 2 → a ≡ No → q.own ≡ 0 → Moment i j (λ m. Holds k (S m).view q.key) → Why k S i j n q a
  not_there : q.operation ≡ 3 → a ≡ No → q.own ≡ 0 → Moment i j (λ m. ¬ Holds k (S m).view q.key) → Why k S i j n q a
  no_room : q.operation ≢ 1 → a ≡ Full → q.own ≡ 0 → Why k S i j n q a
  did : q.operation ≢ 1 → a ≡ Yes → In (S j).records q.own → ((S j).rec q.own).process ≡ n → ((S j).rec q.own).operation ≡ q.operation
      → ((S j).rec q.own).key ≡ q.key → Done k (S j).view ((S j).rec q.own) q.own → Why k S i j n q a

-- the own record, where there is one, does not stand in the tables of b'
abbrev pub Frees : (ℕ → Header) → (ℕ → List ℕ) → ℕ → Header → List ℕ → Process → Type 0
Frees hs bs j h' b' q = q.own ≢ 0 → ¬ Stands (tables_of h' b').view ((tables hs bs j).rec q.own) q.own

-- what the process has after its row: known at this moment already, so to be carried by the step; or at the next; or it has an answer
pub data Follows (hs : ℕ → Header) (bs : ℕ → List ℕ) (i j n : ℕ) (h' : Header) (b' : List ℕ) (q : Process) (s : Stepped) : Type 0 where
  already : (q' : Process) → s ≡ going_on q' → (q'.own ≢ q.own → Frees hs bs j h' b' q) → HeldBy (hs j).k (tables hs bs j) q' → NewerBy (hs 0).recordsused (stack_of h' b' n) q' → CountersBy (hs j).k q'
      → KnowsAt (hs j).k (tables hs bs) i j (mind_of h' b' n q') q'.point → Follows hs bs i j n h' b' q s
  afterwards : (q' : Process) → s ≡ going_on q' → (q'.own ≢ q.own → Frees hs bs j h' b' q) → HeldBy (hs j).k (tables_of h' b') q' → NewerBy (hs 0).recordsused (stack_of h' b' n) q' → CountersBy (hs j).k q' → 6 ≤ q'.point
      → Serves (hs j).k (tables_of h' b') (mind_of h' b' n q') q'.point → Follows hs bs i j n h' b' q s
  answers : (a : Answer) → s ≡ ending_of q a → Frees hs bs j h' b' q → Why (hs j).k (tables hs bs) i j n q a → Follows hs bs i j n h' b' q s

-- whose child swap a step is, and of which word: of the record helped, at 7 or 13, where the compare holds; else nobody's
pub data Swapper (hs : ℕ → Header) (bs : ℕ → List ℕ) (j : ℕ) (q : Process) (s' : Shared) (c : Step (hs j).k (tables hs bs j) s') : Type 0 where
  at_7 : q.point ≡ 7 → child_word (bs j) (hs j) (helped_p (bs j) (hs j) q) q.index ≡ helped_l (bs j) (hs j) q → step_swaps (hs j).k c ≡ q.helped
      → Swapped (hs j).k (tables hs bs j) s' ((tables hs bs j).rec q.helped) q.index q.other → Swapper hs bs j q s' c
  at_13 : q.point ≡ 13 → child_word (bs j) (hs j) (helped_third (bs j) (hs j) q) q.index ≡ helped_p (bs j) (hs j) q → step_swaps (hs j).k c ≡ q.helped
      → Swapped (hs j).k (tables hs bs j) s' ((tables hs bs j).rec q.helped) q.index q.other → Swapper hs bs j q s' c
  nobody : (q.point ≡ 7 → child_word (bs j) (hs j) (helped_p (bs j) (hs j) q) q.index ≢ helped_l (bs j) (hs j) q)
      → (q.point ≡ 13 → child_word (bs j) (hs j) (helped_third (bs j) (hs j) q) q.index ≢ helped_p (bs j) (hs j) q) → step_swaps (hs j).k c ≡ 0 → Swapper hs bs j q s' c

-- what a turn of process n is for all of them: its block fits a header; the step of the history; nobody else's stack has changed; whose a new record is
pub record Shift (hs : ℕ → Header) (bs : ℕ → List ℕ) (j n : ℕ) (h' : Header) (b' : List ℕ) : Type 0 where
  pub fit' : Fit h' b'
  pub k_same : h'.k ≡ (hs j).k
  pub processes_same : h'.processes ≡ (hs j).processes
  pub step : Step (hs j).k (tables hs bs j) (tables_of h' b')
  pub stacks : (m : ℕ) → In (hs j).processes m → m ≢ n → stack_of h' b' m ≡ stack_of (hs j) (bs j) m
  pub owners' : (r : ℕ) → (hs 0).recordsused < r → r ≤ h'.recordsused → In h'.processes (record_word b' h' r process_field)
  pub drawn_by : (r : ℕ) → (hs j).recordsused < r → r ≤ h'.recordsused → record_word b' h' r process_field ≡ n

-- what a row gives: it is sound; what it is for all; whose child swap it is; what a new record is to its process; what follows
pub record Turn (hs : ℕ → Header) (bs : ℕ → List ℕ) (i j n : ℕ) (q : Process) (sound : Bool) (stepped : Stepped) (b' : List ℕ) : Type 0 where
  pub is_sound : sound ≡ true
  pub h' : Header
  pub shift : Shift hs bs j n h' b'
  pub swapper : Swapper hs bs j q (tables_of h' b') shift.step
  pub drawn_as : (r : ℕ) → (hs j).recordsused < r → r ≤ h'.recordsused →
      (stepped.process.own ≡ r) × (record_word b' h' r operation_field ≡ q.operation) × (record_word b' h' r key_field ≡ q.key)
  pub follows : Follows hs bs i j n h' b' q stepped

module _ {hs : ℕ → Header} {bs : ℕ → List ℕ} {j : ℕ} (now : Now hs bs j) where
  pub k_low : 2 ≤ (hs j).k
  k_low = now.fit.limits.numbers.k_low

  pub now_sound : Sound (hs j).k (tables hs bs j)
  now_sound = sound_at k_low now.run now.first j (omega arith)

  -- a value read from a node that has been in the tree
  pub late_at : {n : ℕ} → Been (hs j).k (tables hs bs) j n → Late (hs 0).recordsused (pending_of ((tables hs bs j).view.pend n))
  late_at {n} w =
      word_late (hs 0).recordsused (now_sound.inv.pending n (been_used k_low now.run now.first (omega arith) w))
      (seen_new k_low now.run now.first now.none_stood j n (omega arith) w)

  -- a row that touches nothing
  pub same_self : Step (hs j).k (tables hs bs j) (tables hs bs j)
  same_self = rests (tables_same now.fit (writes_none 0 (2 * (hs j).k)))

  pub same_none : step_swaps (hs j).k same_self ≡ 0
  unfolding same_self step_swaps
  same_none = refl

  pub shift_self : (n : ℕ) → Shift hs bs j n (hs j) (bs j)
  shift_self n = record {
    fit' = now.fit;
    k_same = refl;
    processes_same = refl;
    step = same_self;
    stacks = λ m i d. refl;
    owners' = now.owners;
    drawn_by = λ r a c. absurd (omega arith);
  }

  pub quiet : {i n : ℕ} {q : Process} {sound : Bool} {stepped : Stepped}
      → (q.point ≡ 7 → child_word (bs j) (hs j) (helped_p (bs j) (hs j) q) q.index ≢ helped_l (bs j) (hs j) q)
      → (q.point ≡ 13 → child_word (bs j) (hs j) (helped_third (bs j) (hs j) q) q.index ≢ helped_p (bs j) (hs j) q) → sound ≡ true
      → Follows hs bs i j n (hs j) (bs j) q stepped → Turn hs bs i j n q sound stepped (bs j)
  unfolding same_self shift_self step_swaps
  quiet {n = n} a c e f = record {
    is_sound = e;
    h' = hs j;
    shift = shift_self n;
    swapper = nobody a c refl;
    drawn_as = λ r a c. absurd (omega arith);
    follows = f;
  }

  -- a restart
  pub held_root : Held (hs j).k (tables hs bs j) 0 1 0 (Clean 0) (Clean 0) 0 0 0
  held_root = record {
    p_used = omega (arith, now_sound.inv.shape.room);
    p_inner = now_sound.inv.shape.crown.root_inner;
    gp_good_lem = inl refl;
    l_good_lem = inl refl;
    other_good_lem = inl refl;
    pseen_good = omega arith;
    gseen_good = omega arith;
    helped_good_lem = omega arith;
    own_good = omega arith;
  }

  pub descends_root : (i : ℕ) (M : Mind) → i ≤ j → M.p ≡ 1 → M.gp ≡ 0 → Descends (hs j).k (tables hs bs) i j M
  descends_root i M l e f = record { way = rw e way; from = at_root f e }
    where
      way : Way (hs j).k (tables hs bs) i j M.key 1
      way =
          let w = way_root k_low now.run now.first M.key in
          record { was = record { when = w.was.when; from = omega (arith, w.was.from); to = w.was.to; holds = w.was.holds }; used = w.used; inner = w.inner }

pub counters_root : {k operation key : ℕ} → 1 ≤ operation → operation ≤ 3 → key < infinity → 2 ≤ k → Counters k operation key 1 0 0 0 0
counters_root {k} a c f l = record {
  op_low = a;
  op_high = c;
  finite = f;
  point_low = omega arith;
  point_high = omega arith;
  find = λ e. omega arith;
  insert_3 = λ e z. omega arith;
  insert_5 = λ e z. omega arith;
  index_high = omega arith;
  mask_high = pos k;
  early_depth = λ e. refl;
  early_own = λ e. refl;
  masked = λ e. absurd (omega arith);
  index_6 = λ x y. absurd (omega arith);
  ten = λ e. absurd (omega arith);
  index_11 = λ x y. absurd (omega arith);
}
  where
    pos : (m : ℕ) → 0 < 2 ^ m
    pos m = pow_pos m

pub restarts : {hs : ℕ → Header} {bs : ℕ → List ℕ} {i j : ℕ} (n : ℕ) (now : Now hs bs j) (q q₀ : Process) (h' : Header) (b' : List ℕ) → Frees hs bs j h' b' q → i ≤ j → CountersBy (hs j).k q₀
    → Follows hs bs i j n h' b' q (going_on (restarted_of q₀))
restarts {hs} {bs} {i} {j} n now q q₀ h' b' free l c =
    already (restarted_of q₀) refl (λ d. free) (held_root now) newer_root (counters_root c.op_low c.op_high c.finite (k_low now)) (descends_root now i (mind_of h' b' n (restarted_of q₀)) l refl refl)
