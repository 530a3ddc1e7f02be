-- Numbers say what they stand for: refusals, and their order.
use Prim.Native.Nat.{ℕ, ◌+◌, ◌-◌, ◌≤◌}
use mathlib.Core.Path.{◌≡◌, refl, sym, ap, ◌∙◌}
use mathlib.Core.Bool.{Bool, true, false}
use mathlib.Core.List.{List, [], ◌∷◌, ◌++◌, map}
use mathlib.Core.Logic.{◌↔◌}
use native.Mathlib.Omega.{arith}
use lib.ListN.{get_or-map}
use Rattle.std.specs.Prelude.{Ok, Err}
use Rattle.tables.specs.Choice.{pick, both, within, listed, Reason, decide, Verdict, refused, accepted, verdict, told, NoneHolds, none, nor, First}
use Rattle.tables.specs.Refusal.{number_of, refusals, refusal}
use Rattle.tables.specs.declared.numbers.Refusal.{Refusal}
use Rattle.tables.specs.declared.numbers.Refusal.TheVariants.{MakingNumber, TooShort, Damaged, NoSuchProcess, UnknownOperation, InfinityGiven, Busy, Idle, ListTooShort, LowAboveHigh, NotInForm}
use Rattle.tables.specs.Header.{header_of, block_reasons, header_read}
use Rattle.tables.proofs.Picks.{both_1, both_2, within_low, within_high}
use Rattle.tables.proofs.Lists.{get_or-listed}

pub refusal_number : (e : Refusal) → refusal (number_of e) ≡ e
refusal_number MakingNumber = refl
refusal_number TooShort = refl
refusal_number Damaged = refl
refusal_number NoSuchProcess = refl
refusal_number UnknownOperation = refl
refusal_number InfinityGiven = refl
refusal_number Busy = refl
refusal_number Idle = refl
refusal_number ListTooShort = refl
refusal_number LowAboveHigh = refl
refusal_number NotInForm = refl

in_order : map number_of refusals ≡ listed (λ n. n) 1 11
unfolding listed
in_order = refl

pub number_refusal : (n : ℕ) → 1 ≤ n → n ≤ 11 → number_of (refusal n) ≡ n
number_refusal n p q =
    let e : 1 + (n - 1) ≡ n = omega arith in
    sym (get_or-map number_of refusals (n - 1) Damaged) ∙ rw in_order (get_or-listed (λ i. i) 1 11 (n - 1) 3 (omega arith) ∙ e)

-- reasons that do not hold decide nothing
module _ {A : Type 0} (refusing : ℕ → A) (accepting : A) where
  passed : (bs rs : List Reason) → NoneHolds bs → decide (bs ++ rs) refusing accepting ≡ decide rs refusing accepting
  unfolding pick
  passed [] rs none = refl
  passed (b ∷ bs) rs (nor e n) = rw e (passed bs rs n)

  pub none_accepts : (rs : List Reason) → NoneHolds rs → decide rs refusing accepting ≡ accepting
  unfolding pick
  none_accepts [] none = refl
  none_accepts (r ∷ rs) (nor e n) = rw e (none_accepts rs n)

  pub first_refuses : (n : ℕ) (rs : List Reason) → First n rs → decide rs refusing accepting ≡ refusing n
  unfolding pick
  first_refuses n rs f =
      rw f.split (passed f.before (f.this ∷ f.after) f.not_before ∙ rw (f.holds, f.number) refl)

  -- an answer says the verdict
  pub tells : (rs : List Reason) → decide rs refusing accepting ≡ told refusing accepting (verdict rs)
  unfolding pick
  tells [] = refl
  tells (r ∷ rs) = go r.holds (tells rs)
    where
      go : (t : Bool) → decide rs refusing accepting ≡ told refusing accepting (verdict rs) →
          pick t (refusing r.number) (decide rs refusing accepting) ≡ told refusing accepting (pick t (refused r.number) (verdict rs))
      go true e = refl
      go false e = e

-- a function of what is decided is decided by the same reasons
module _ {A B : Type 0} (f : A → B) (g : ℕ → A) (h : ℕ → B) (a : A) (e : (n : ℕ) → f (g n) ≡ h n) where
  told_on : (v : Verdict) → f (told g a v) ≡ told h (f a) v
  told_on (refused n) = e n
  told_on accepted = refl

  pub decide_on : (rs : List Reason) → f (decide rs g a) ≡ decide rs h (f a)
  decide_on rs = ap f (tells g a rs) ∙ told_on (verdict rs) ∙ sym (tells h (f a) rs)

pub refused_first : (n : ℕ) (rs : List Reason) → verdict rs ≡ refused n → First n rs
unfolding pick
refused_first n [] e = let z : ◌≡◌ {A = ℕ} 0 1 = cc in absurd (omega arith)
refused_first n (r ∷ rs) e = go r.holds refl e (refused_first n rs)
  where
    go : (t : Bool) → r.holds ≡ t → pick t (refused r.number) (verdict rs) ≡ refused n → (verdict rs ≡ refused n → First n rs) → First n (r ∷ rs)
    go true h e up = record { before = []; this = r; after = rs; split = refl; not_before = none; holds = h; number = cc }
    go false h e up =
        let f = up e in
        record { before = r ∷ f.before; this = f.this; after = f.after; split = ap (λ (l : List Reason). r ∷ l) f.split; not_before = nor h f.not_before; holds = f.holds; number = f.number }

pub accepted_none : (rs : List Reason) → verdict rs ≡ accepted → NoneHolds rs
unfolding pick
accepted_none [] e = none
accepted_none (r ∷ rs) e = go r.holds refl e (accepted_none rs)
  where
    go : (t : Bool) → r.holds ≡ t → pick t (refused r.number) (verdict rs) ≡ accepted → (verdict rs ≡ accepted → NoneHolds rs) → NoneHolds (r ∷ rs)
    go true h e up = let z : ◌≡◌ {A = ℕ} 0 1 = cc in absurd (omega arith)
    go false h e up = nor h (up e)

-- every number of a list of reasons is in document 01's table
abbrev pub numbered : List Reason → Bool
numbered [] = true
numbered (r ∷ rs) = both (within 1 r.number 11) (numbered rs)

numbered_at : (bs : List Reason) (r : Reason) (rs : List Reason) → numbered (bs ++ r ∷ rs) ≡ true → within 1 r.number 11 ≡ true
numbered_at [] r rs e = both_1 _ _ e
numbered_at (b ∷ bs) r rs e = numbered_at bs r rs (both_2 _ _ e)

-- A call answers a refusal exactly when its number is that of the first reason that holds. `say` is how the call says it.
module _ {A : Type 0} (say : Refusal → A) (accepting : A) (rs : List Reason) (e : Refusal) where
  pub first_answers : First (number_of e) rs → decide rs (λ n. say (refusal n)) accepting ≡ say e
  first_answers f = first_refuses (λ n. say (refusal n)) accepting (number_of e) rs f ∙ ap say (refusal_number e)

  pub answers_first : ((d : Refusal) → say d ≡ say e → d ≡ e) → (accepting ≡ say e → ⊥) → numbered rs ≡ true → decide rs (λ n. say (refusal n)) accepting ≡ say e → First (number_of e) rs
  answers_first one never t a = go (verdict rs) refl (sym (tells (λ n. say (refusal n)) accepting rs) ∙ a)
    where
      of_number : (n : ℕ) → First n rs → within 1 n 11 ≡ true
      of_number n f = rw f.number at (numbered_at f.before f.this f.after (rw f.split at t))

      go : (v : Verdict) → verdict rs ≡ v → told (λ n. say (refusal n)) accepting v ≡ say e → First (number_of e) rs
      go accepted q b = absurd (never b)
      go (refused n) q b =
          let f : First n rs = refused_first n rs q in
          let w : within 1 n 11 ≡ true = of_number n f in
          let m : n ≡ number_of e = sym (number_refusal n (within_low 1 n 11 w) (within_high 1 n 11 w)) ∙ ap number_of (one (refusal n) b) in
          rw m at f

-- The same of a call that hands back more than an answer: `say` is its answer that refuses, `leave` all that it hands back then, and what it accepts says no refusal.
module _ {O A : Type 0} (answer : O → A) (say : Refusal → A) (leave : Refusal → O) (accepting : O) (rs : List Reason) (says : (d : Refusal) → answer (leave d) ≡ say d) (one : (d e : Refusal) → say d ≡ say e → d ≡ e)
    (never : NoneHolds rs → (e : Refusal) → answer accepting ≡ say e → ⊥) (t : numbered rs ≡ true) (e : Refusal) where
  abbrev call : O
  call = decide rs (λ n. leave (refusal n)) accepting

  pub call_first : answer call ≡ say e → First (number_of e) rs
  call_first a = go (verdict rs) refl
    where
      go : (v : Verdict) → verdict rs ≡ v → First (number_of e) rs
      go accepted v =
          let n : NoneHolds rs = accepted_none rs v in
          absurd (never n e (sym (ap answer (none_accepts (λ m. leave (refusal m)) accepting rs n)) ∙ a))
      go (refused m) v =
          let f : First m rs = refused_first m rs v in
          let d : refusal m ≡ e = one (refusal m) e (sym (says (refusal m)) ∙ sym (ap answer (first_refuses (λ i. leave (refusal i)) accepting m rs f)) ∙ a) in
          answers_first (λ x. x ∷ []) [] rs e (λ x p. cc) (λ p. let z : ◌≡◌ {A = ℕ} 0 1 = cc in omega arith) t
          (first_refuses (λ i. refusal i ∷ []) [] m rs f ∙ ap (λ (x : Refusal). x ∷ []) d)

  pub call_leaves : answer call ≡ say e → call ≡ leave e
  call_leaves a = first_answers leave accepting rs e (call_first a)

  pub call_exactly : (answer call ≡ say e) ↔ First (number_of e) rs
  call_exactly = (call_first, λ f. ap answer (first_answers leave accepting rs e f) ∙ says e)

-- this crate's call that refuses
pub read_refused : (b : List ℕ) (e : Refusal) → header_read b ≡ Err e → First (number_of e) (block_reasons b)
unfolding both
read_refused b e = answers_first Err (Ok (header_of b)) (block_reasons b) e (λ d p. cc) (λ p. let z : ◌≡◌ {A = ℕ} 0 1 = cc in omega arith) refl
