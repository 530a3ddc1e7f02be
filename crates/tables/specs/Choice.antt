-- Choices by a test, and the order of refusals: the first reason that holds decides.
use Rattle.std.specs.Prelude.{ℕ, zero, suc, ◌+◌, ◌≡◌, Bool, true, false, List, [], ◌∷◌, ◌++◌, leb}

-- a where the test holds, else b
unfoldable pub pick : {A : Type 0} → Bool → A → A → A
pick true a b = a
pick false a b = b

-- both tests hold
unfoldable pub both : Bool → Bool → Bool
both true b = b
both false b = false

-- at least one of two tests holds
abbrev pub either : Bool → Bool → Bool
either s t = pick s true t

-- x lies from lo to hi, ends included
abbrev pub within : ℕ → ℕ → ℕ → Bool
within lo x hi = both (leb lo x) (leb x hi)

-- a reason to refuse a call: its number in document 01's table, and whether it holds
pub record Reason : Type 0 where
  pub number : ℕ
  pub holds : Bool

abbrev pub reason : ℕ → Bool → Reason
reason n t = record { number = n; holds = t }

-- refused by the number of the first reason that holds, else accepted
abbrev pub decide : {A : Type 0} → List Reason → (ℕ → A) → A → A
decide [] refused accepted = accepted
decide (r ∷ rs) refused accepted = pick r.holds (refused r.number) (decide rs refused accepted)

-- what the reasons alone say of a call, and the answer that says it
pub data Verdict : Type 0 where
  refused : ℕ → Verdict
  accepted : Verdict

abbrev pub verdict : List Reason → Verdict
verdict rs = decide rs refused accepted

abbrev pub told : {A : Type 0} → (ℕ → A) → A → Verdict → A
told refusing accepting (refused n) = refusing n
told refusing accepting accepted = accepting

-- no reason of a list holds
pub data NoneHolds : List Reason → Type 0 where
  none : NoneHolds []
  nor : {r : Reason} {rs : List Reason} → r.holds ≡ false → NoneHolds rs → NoneHolds (r ∷ rs)

-- a reason with the number n holds, and none before it does
pub record First (n : ℕ) (rs : List Reason) : Type 0 where
  pub before : List Reason
  pub this : Reason
  pub after : List Reason
  pub split : rs ≡ before ++ this ∷ after
  pub not_before : NoneHolds before
  pub holds : this.holds ≡ true
  pub number : this.number ≡ n

-- f at i, i + 1, .., n of them
unfoldable pub listed : {A : Type 0} → (ℕ → A) → ℕ → ℕ → List A
listed f i zero = []
listed f i (suc n) = f i ∷ listed f (i + 1) n
