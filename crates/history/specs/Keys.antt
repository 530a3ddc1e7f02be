-- Rows of keys: rows that rise, rows in which no number stands twice.
use Rattle.std.specs.Prelude.{◌≢◌, ℕ, ◌<◌}
use mathlib.Core.List.{List, [], ◌∷◌, Memᴰ}

-- each number bears a relation to all that come after it
pub data Each (R : ℕ → ℕ → Type 0) : List ℕ → Type 0 where
  none : Each R []
  next : {x : ℕ} {xs : List ℕ} → ((y : ℕ) → Memᴰ y xs → R x y) → Each R xs → Each R (x ∷ xs)

-- each key is below all that come after it
abbrev pub Rises : List ℕ → Type 0
Rises ks = Each (λ x y. x < y) ks

-- no number stands twice
abbrev pub Apart : List ℕ → Type 0
Apart ks = Each (λ x y. x ≢ y) ks
