-- The making numbers in a header's narrow fields.
use Prim.Native.Nat.{ℕ}
use mathlib.Core.Path.{◌≡◌, sym, ◌∙◌}
use mathlib.Core.Bool.{Bool, true}
use native.Mathlib.Omega.{arith}
use mir.Val.{Fits}
use mir.Syntax.{w8, w16}
use Rattle.tables.specs.Numbers.{fresh_nodes, numbers_good}
use Rattle.tables.proofs.Limits.{NumberLimits, number_limits}

-- the header's narrow fields hold the making numbers, with the k that is stored
module _ (k p n r : ℕ) (t : Bool) (e : t ≡ numbers_good k p n r) (y : t ≡ true) where
  the_numbers : NumberLimits k p n r
  the_numbers = number_limits k p n r (sym e ∙ y)

  pub k_small : Fits w8 k
  k_small = record { fits = omega (arith, the_numbers) }

  pub processes_small : Fits w8 p
  processes_small = record { fits = omega (arith, the_numbers) }

  pub nodes_small : Fits w16 n
  nodes_small = record { fits = omega (arith, the_numbers) }

  pub fresh_small : (u : ℕ) → u ≡ fresh_nodes k → Fits w16 u
  fresh_small u f = record { fits = omega (arith, the_numbers) }

  pub records_small : Fits w16 r
  records_small = record { fits = omega (arith, the_numbers) }
