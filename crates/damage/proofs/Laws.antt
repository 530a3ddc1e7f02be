-- A mask of 32 bits, and 2 to a shift: what `<<` gives is that power, and at 32 and above no such mask reaches it.
use Prim.Native.Nat.{ℕ, ◌*◌, ◌%◌, ◌^◌, ◌≤◌, ◌<◌}
use mathlib.Core.Path.{◌≡◌, sym, ap}
use mathlib.Core.Bool.{true}
use native.Mathlib.Nat.{one-mul, mod-eq_of_lt, lt_of_lt_of_le}
use lib.Dec.{ltb}
use lib.Pow.{pow-lt, pow_mono}
use borrow.Author.Tests.{lt-ltb}

module _ (k mask : ℕ) where
  pub mask_all : mask < 4294967296 → 32 ≤ k → true ≡ ltb mask (2 ^ k)
  mask_all p q = sym (lt-ltb mask (2 ^ k) (lt_of_lt_of_le p (pow_mono {i = 32} q)))
