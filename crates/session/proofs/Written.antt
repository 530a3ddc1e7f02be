-- What is written stays within its buffer, so that the part that was written can be lent.
use Prim.Native.Nat.{ℕ, ◌+◌, ◌≤◌}
use mathlib.Core.Path.{◌≡◌, refl, sym, ap, ◌∙◌}
use mathlib.Core.Bool.{Bool, true, false}
use mathlib.Core.List.{List, [], ◌∷◌}
use native.Mathlib.Omega.{arith}
use lib.Dec.{ltb}
use lib.ListN.{length, take, set, length-set}
use lib.Seq.{length-take-le}
use Rattle.tables.specs.Choice.{pick}
use Rattle.print.specs.Writing.{Out, out, written}
use Rattle.script.proofs.Trips.{place_within}

written-length : (b : List ℕ) (at : ℕ) (xs : List ℕ) → length (written b at xs).buffer ≡ length b
unfolding written pick
written-length b at [] = refl
written-length b at (x ∷ xs) = go (ltb at (length b)) (written-length (set b at x) (at + 1) xs)
  where
    go : (t : Bool) → length (written (set b at x) (at + 1) xs).buffer ≡ length (set b at x) → length (pick t (written (set b at x) (at + 1) xs) (out at b)).buffer ≡ length b
    go true e = e ∙ length-set b at x
    go false e = refl

pub written_within : (b b' : List ℕ) (at r : ℕ) (xs : List ℕ) → out r b' ≡ written b at xs → at ≤ length b → r ≤ length b'
written_within b b' at r xs e p =
    omega (arith, ap (λ (o : Out). o.at) e, ap (λ (o : Out). length o.buffer) e, place_within b at xs p, written-length b at xs)

pub part_count : (b : List ℕ) (n : ℕ) → n ≤ length b → n ≡ length (take n b)
part_count b n p = sym (length-take-le n b p)
