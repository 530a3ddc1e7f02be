-- Keys, routes and rows of keys: what the tables compute is what the history says.
use Prim.Native.Nat.{ℕ, ◌<◌}
use mathlib.Core.Path.{◌≡◌, refl, sym, ◌∙◌}
use mathlib.Core.Bool.{Bool, true, false}
use mathlib.Core.List.{List, [], ◌∷◌, Memᴰ}
use native.Mathlib.Omega.{arith}
use lib.Dec.{ltb, eqb}
use borrow.Author.Tests.{eqb-true, eq-eqb, lt-ltb}
use lib.ListN.{get_or}
use Rattle.tables.specs.Choice.{pick, both}
use Rattle.tables.specs.Numbers.{infinity}
use Rattle.tables.specs.Layout.{key_word, tag_word}
use Rattle.nodes.specs.Keys.{keys_of, rises, holds, route_of}
use Rattle.tables.specs.declared.header.Header.{Header}
use Rattle.history.specs.View.{route, keys}
use Rattle.history.specs.Keys.{Rises, next}
use Rattle.history.proofs.Alone.{route_alone, row_alone}
use Rattle.history.proofs.Invariant.{Sorted}
use Rattle.link.specs.Tables.{view_of}

-- the keys of a leaf
pub keys_are : (b : List ℕ) (h : Header) (n : ℕ) → tag_word b h n < h.k → keys_of b h n (tag_word b h n) ≡ keys (view_of h b) n
unfolding keys
keys_are b h n l = sym (row_alone h.k (λ i. key_word b h n i) (tag_word b h n) l)

-- the child for a key
pub route_are : (b : List ℕ) (h : Header) (n x : ℕ) → route_of b h n x ≡ route h.k ((view_of h b).key n) x
unfolding route
route_are b h n x = sym (route_alone h.k (λ i. key_word b h n i) x)

-- whether a row holds a key
pub holds-mem : (x : ℕ) (ks : List ℕ) → holds x ks ≡ true → Memᴰ x ks
unfolding holds pick
holds-mem x [] e = let z : ◌≡◌ {A = ℕ} 0 1 = cc in absurd (omega arith)
holds-mem x (y ∷ ys) e = go (eqb x y) refl e (λ z. holds-mem x ys z)
  where
    go : (t : Bool) → eqb x y ≡ t → pick t true (holds x ys) ≡ true → (holds x ys ≡ true → Memᴰ x ys) → Memᴰ x (y ∷ ys)
    go true a z ih = Memᴰ.head (eqb-true x y a)
    go false a z ih = Memᴰ.tail (ih z)

pub mem-holds : (x : ℕ) (ks : List ℕ) → Memᴰ x ks → holds x ks ≡ true
unfolding holds pick
mem-holds x [] h = elim h [ ]
mem-holds x (y ∷ ys) (Memᴰ.head e) = rw (eq-eqb x y e)
mem-holds x (y ∷ ys) (Memᴰ.tail m) = go (eqb x y) (mem-holds x ys m)
  where
    go : (t : Bool) → holds x ys ≡ true → pick t true (holds x ys) ≡ true
    go true z = refl
    go false z = z

pub holds_not : (x : ℕ) (ks : List ℕ) → holds x ks ≡ false → ¬ Memᴰ x ks
holds_not x ks e m = let z : true ≡ false = sym (mem-holds x ks m) ∙ e in let y : ◌≡◌ {A = ℕ} 0 1 = cc in omega arith

pub not_holds : (x : ℕ) (ks : List ℕ) → ¬ Memᴰ x ks → holds x ks ≡ false
not_holds x ks m = go (holds x ks) refl
  where
    go : (t : Bool) → holds x ks ≡ t → t ≡ false
    go true e = absurd (m (holds-mem x ks e))
    go false e = refl

-- keys that rise below infinity
pub sorted_rises : (ks : List ℕ) → Sorted ks → rises ks ≡ true
unfolding rises both
sorted_rises [] s = refl
sorted_rises (x ∷ xs) s = go s.rises (λ (r : Rises xs). sorted_rises xs (record { rises = r; finite = λ y m. s.finite y (Memᴰ.tail m) }))
  where
    low : (xs : List ℕ) → ((y : ℕ) → Memᴰ y xs → x < y) → x < infinity → x < get_or xs 0 infinity
    low [] f l = l
    low (y ∷ ys) f l = f y (Memᴰ.head refl)

    go : Rises (x ∷ xs) → (Rises xs → rises xs ≡ true) → both (ltb x (get_or xs 0 infinity)) (rises xs) ≡ true
    go (next f r) ih =
        rw (lt-ltb x (get_or xs 0 infinity) (low xs f (s.finite x (Memᴰ.head refl)))) (ih r)
