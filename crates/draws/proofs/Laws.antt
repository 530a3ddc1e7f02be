-- Drawing, turn by turn: one more leaf written, one more word.
use Prim.Native.Nat.{ℕ, zero, suc, ◌+◌, ◌<◌}
use mathlib.Core.Path.{◌≡◌, refl, ◌∙◌}
use mathlib.Core.List.{List, [], ◌∷◌}
use native.Mathlib.Omega.{arith}
use native.Mathlib.Numerals.{add-one}
use native.Mathlib.Nat.{add-zero}
use lib.ListN.{length, get_or, set, take}
use lib.Seq.{sets}
use Rattle.tables.specs.Choice.{listed}
use Rattle.nodes.specs.Node.{leaf_image, with_node}
use Rattle.tables.specs.declared.header.Header.{Header}
use Rattle.tables.proofs.Lists.{moved}
use Rattle.draws.specs.Draw.{leaves_from}

-- leaf after leaf, the rule f giving the keys of each: one more leaf written
leaves_more : (h : Header) (f : ℕ → List ℕ) (b : List ℕ) (first a n : ℕ) → with_node (leaves_from b h first (listed f a n)) h (first + n) (leaf_image h.k 1 (f (a + n))) ≡ leaves_from b h first (listed f a (suc n))
unfolding leaves_from listed
leaves_more h f b first a zero = rw (add-zero first, add-zero a) refl
leaves_more h f b first a (suc n) = rw (← moved first n, ← moved a n) (leaves_more h f (with_node b h first (leaf_image h.k 1 (f a))) (first + 1) (a + 1) n)

pub leaf_more : (h : Header) (f : ℕ → List ℕ) (first i : ℕ) (b₀ b c leaf : List ℕ) → b ≡ leaves_from b₀ h first (listed f 0 i) → leaf ≡ f i → c ≡ with_node b h (first + i) (leaf_image h.k 1 leaf) →
    c ≡ leaves_from b₀ h first (listed f 0 (i + 1))
leaf_more h f first i b₀ b c leaf e g w = let z : 0 + i ≡ i = omega arith in w ∙ rw (e, g, add-one i) (rw z at (leaves_more h f b₀ first 0 i))

-- word after word: one more word written
sets_more : (b ws : List ℕ) (base i : ℕ) → i < length ws → set (sets b base (take i ws)) (base + i) (get_or ws i 0) ≡ sets b base (take (suc i) ws)
sets_more b [] base i p = absurd (omega arith)
sets_more b (x ∷ ws) base zero p = rw (add-zero base) refl
sets_more b (x ∷ ws) base (suc i) p = let z : base + suc i ≡ suc base + i = omega arith in rw z (sets_more (set b base x) ws (suc base) i (omega arith))

pub word_more : (ws : List ℕ) (base at i w : ℕ) (b₀ b c : List ℕ) → b ≡ sets b₀ base (take i ws) → i < length ws → w ≡ get_or ws i 0 → at ≡ base + i → c ≡ set b at w → c ≡ sets b₀ base (take (i + 1) ws)
word_more ws base at i w b₀ b c e p f g k = k ∙ rw (e, f, g, add-one i) (sets_more b₀ ws base i p)
