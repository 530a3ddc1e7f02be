-- Laws of runs of bytes: a front by its length, what lies behind it, and the value of digits, which only grows.
use Prim.Native.Nat.{ℕ, ◌+◌, ◌-◌, ◌*◌, ◌≤◌}
use mathlib.Core.Path.{◌≡◌, refl, ap, ◌∙◌}
use mathlib.Core.Bool.{Bool, true, false}
use mathlib.Core.List.{List, [], ◌∷◌, ◌++◌}
use native.Mathlib.Omega.{arith}
use native.Mathlib.Nat.{le_trans}
use lib.Dec.{ltb}
use borrow.Author.Tests.{ltb-false}
use Rattle.std.proofs.Common.{Option, Some, None, unwrap_or, cond, not, position}
use Rattle.std.specs.List.{position_or_len}
use lib.ListN.{length, take, drop, length-take, take-append-drop}
use Rattle.tables.specs.Choice.{pick}
use Rattle.print.specs.Text.{front, behind, value_from}

module _ (test : ℕ → Bool) where
  -- a list is its front and what lies behind it
  pub take-front : (l : List ℕ) → take (length (front test l)) l ≡ front test l
  unfolding front pick
  take-front [] = refl
  take-front (x ∷ xs) = go (test x) (take-front xs)
    where
      go : (t : Bool) → take (length (front test xs)) xs ≡ front test xs → take (length (pick t (x ∷ front test xs) [])) (x ∷ xs) ≡ pick t (x ∷ front test xs) []
      go true e = ap (λ (l : List ℕ). x ∷ l) e
      go false e = refl

  pub drop-front : (l : List ℕ) → drop (length (front test l)) l ≡ behind test l
  unfolding front behind pick
  drop-front [] = refl
  drop-front (x ∷ xs) = go (test x) (drop-front xs)
    where
      go : (t : Bool) → drop (length (front test xs)) xs ≡ behind test xs → drop (length (pick t (x ∷ front test xs) [])) (x ∷ xs) ≡ pick t (behind test xs) (x ∷ xs)
      go true e = e
      go false e = refl

  pub front_behind : (l : List ℕ) → front test l ++ behind test l ≡ l
  front_behind l = rw (← take-front l, ← drop-front l) (take-append-drop (length (front test l)) l)

  pub front_short : (l : List ℕ) → length (front test l) ≤ length l
  front_short l = omega (arith, ap length (take-front l), length-take (length (front test l)) l)

-- where a front ends, as the library's search for the first byte that ends it says
module _ (test stop : ℕ → Bool) (same : (b : ℕ) → not (stop b) ≡ test b) where
  front_long : (l : List ℕ) → position_or_len stop l ≡ length (front test l)
  unfolding front pick
  front_long [] = refl
  front_long (x ∷ xs) = rw (same x) (go (test x) (front_long xs))
    where
      go : (t : Bool) → position_or_len stop xs ≡ length (front test xs) → cond t (1 + position_or_len stop xs) 0 ≡ length (pick t (x ∷ front test xs) [])
      go true e = rw e (omega arith)
      go false e = refl

  pub run_end : (l : List ℕ) (o : Option ℕ) (e : ℕ) → o ≡ position stop l → e ≡ unwrap_or o (length l) → e ≡ length (front test l)
  run_end l o e p q = q ∙ rw (p, front_long l) (go (ltb (length (front test l)) (length l)) refl)
    where
      go : (t : Bool) → ltb (length (front test l)) (length l) ≡ t → unwrap_or (cond t (Some (length (front test l))) None) (length l) ≡ length (front test l)
      go true f = refl
      go false f = omega (arith, front_short test l, ltb-false (length (front test l)) (length l) f)

-- the value of more digits is no less
pub value_grows : (v : ℕ) (ds : List ℕ) → v ≤ value_from v ds
unfolding value_from
value_grows v [] = omega arith
value_grows v (d ∷ ds) = le_trans (let z : v ≤ 10 * v + (d - 48) = omega arith in z) (value_grows (10 * v + (d - 48)) ds)
