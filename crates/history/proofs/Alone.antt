-- A view's keys may be a node's words kept to their indices: then equal keys are equal functions, and no route or row sees the difference.
use mathlib.Core.Path.{◌≡◌, refl, fun_ext}
use mathlib.Core.Bool.{Bool, true, false}
use Prim.Native.Nat.{ℕ, ◌+◌, ◌-◌, ◌≤◌, ◌<◌}
use native.Mathlib.Omega.{arith}
use borrow.Author.Tests.{le-leb}
use Rattle.tables.specs.Choice.{pick, within, listed}
use Rattle.tables.proofs.Picks.{both_is, pick_true, within_low, within_high}
use Rattle.tables.proofs.Lists.{listed_ext}
use Rattle.history.specs.View.{route, keys_alone}
use Rattle.history.proofs.Route.{route_like}

pub alone_same : (k : ℕ) (f g : ℕ → ℕ) → ((i : ℕ) → 1 ≤ i → i < k → f i ≡ g i) → keys_alone k f ≡ keys_alone k g
unfolding keys_alone pick
alone_same k f g h = fun_ext (λ i. go i (within 1 i (k - 1)) refl)
  where
    go : (i : ℕ) (t : Bool) → within 1 i (k - 1) ≡ t → pick t (f i) 0 ≡ pick t (g i) 0
    go i true e = let l = within_low 1 i (k - 1) e in h i l (omega (arith, within_high 1 i (k - 1) e))
    go i false e = refl

pub alone_at : (k : ℕ) (f : ℕ → ℕ) (i : ℕ) → 1 ≤ i → i < k → keys_alone k f i ≡ f i
unfolding keys_alone
alone_at k f i a b = pick_true _ (f i) 0 (both_is (le-leb 1 i a) (le-leb i (k - 1) (omega arith)))

pub route_alone : (k : ℕ) (f : ℕ → ℕ) (x : ℕ) → route k (keys_alone k f) x ≡ route k f x
route_alone k f x = route_like k (keys_alone k f) f x (λ a p q. alone_at k f a p q)

pub row_alone : (k : ℕ) (f : ℕ → ℕ) (d : ℕ) → d < k → listed (keys_alone k f) 1 d ≡ listed f 1 d
row_alone k f d h = listed_ext (keys_alone k f) f 1 d (λ j l. alone_at k f (1 + j) (omega arith) (omega arith))
