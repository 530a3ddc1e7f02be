-- The filling pass, return by return and turn by turn: it keeps what its definition says of the walk.
use Prim.Native.Nat.{ℕ, zero, suc, ◌+◌, ◌-◌, ◌^◌, ◌≤◌, ◌<◌, min}
use mathlib.Core.Path.{◌≡◌, refl, sym, ap, ◌∙◌}
use mathlib.Core.Bool.{Bool, true, false}
use mathlib.Core.List.{List, [], ◌∷◌}
use native.Mathlib.Omega.{arith}
use lib.Dec.{ltb}
use lib.ListN.{length, set, take}
use borrow.Author.Tests.{ltb-true, ltb-false}
use Rattle.std.proofs.lemmas.List.{take_all, set_past, length-set}
use lib.Seq.{sets, length-sets}
use Rattle.std.specs.Prelude.{Option}
use Rattle.nodes.specs.declared.node.Kin.{Kin}
use Rattle.tables.specs.Choice.{listed}
use Rattle.tables.specs.Layout.{key_word}
use Rattle.nodes.specs.Keys.{keys_of}
use Rattle.nodes.specs.Node.{kin_of}
use Rattle.tables.specs.declared.header.Header.{Header}
use Rattle.nodes.proofs.Keyed.{keys_length}
use Rattle.meter.specs.Walk.{met_from, walked}
use Rattle.meter.proofs.Measuring.{keys_more}
use Rattle.meter.proofs.Rooms.{few_keys}
use Rattle.fill.specs.Laws.{sets-append}
use Rattle.fill.specs.Fill.{Filled}
use Rattle.fill.specs.declared.Filling.{Filling}

pub stored_length : (list₀ list ks : List ℕ) (at : ℕ) → list ≡ sets list₀ at ks → length list ≡ length list₀
stored_length list₀ list ks at e = ap length e ∙ length-sets list₀ at ks

-- a list has no place from 2 ^ 64 - 1 on
set_far : (l : List ℕ) (i x : ℕ) → length l < 2 ^ 64 → set l (min i 18446744073709551615) x ≡ set l i x
set_far l i x long = go (ltb i 18446744073709551615) refl
  where
    go : (t : Bool) → ltb i 18446744073709551615 ≡ t → set l (min i 18446744073709551615) x ≡ set l i x
    go true e = let z : min i 18446744073709551615 ≡ i = omega (arith, ltb-true i 18446744073709551615 e) in ap (λ (j : ℕ). set l j x) z
    go false e =
        let far = ltb-false i 18446744073709551615 e in
        set_past l (min i 18446744073709551615) x (omega (arith, far)) ∙ sym (set_past l i x (omega (arith, far)))

sets_past : (l : List ℕ) (at : ℕ) (ks : List ℕ) → length l ≤ at → sets l at ks ≡ l
sets_past l at [] e = refl
sets_past l at (k ∷ ks) e = rw (set_past l at k e) (sets_past l (suc at) ks (omega arith))

pub stored_room : (m : ℕ) (l : List ℕ) (at : ℕ) (ks : List ℕ) → length l ≤ at + m → sets l at (take m ks) ≡ sets l at ks
stored_room zero l at ks e = sym (sets_past l at ks (omega arith))
stored_room (suc m) l at [] e = refl
stored_room (suc m) l at (k ∷ ks) e = stored_room m (set l at k) (suc at) ks (omega (arith, length-set l at k))

module _ (b : List ℕ) (h : Header) (node : ℕ) where
  pub stored_none : (list : List ℕ) (at : ℕ) → list ≡ sets list at (keys_of b h node 0)
  unfolding listed
  stored_none list at = refl

  pub stored_more : (i : ℕ) (list₀ list list' : List ℕ) (at n place key : ℕ) → list ≡ sets list₀ at (keys_of b h node i) → key ≡ key_word b h node (i + 1) → n ≡ i → length list < 2 ^ 64 →
      place ≡ min (at + n) 18446744073709551615 → list' ≡ set list place key → list' ≡ sets list₀ at (keys_of b h node (i + 1))
  stored_more i list₀ list list' at n place key e f k long p g =
      g ∙ ap (λ (j : ℕ). set list j key) p ∙ set_far list (at + n) key long
      ∙ rw (e, f, k) (ap (λ (j : ℕ). set (sets list₀ at (keys_of b h node i)) (at + j) (key_word b h node (i + 1))) (sym (keys_length b h node i)))
      ∙ sym (sets-append list₀ at (keys_of b h node i) (key_word b h node (i + 1) ∷ []))
      ∙ ap (sets list₀ at) (sym (keys_more b h node i))

-- the whole walk, from node 1: nothing has been stored before, so that all keys have room
pub stored_walk : (b : List ℕ) (h : Header) (root : Option Kin) → root ≡ kin_of b h 1 → h.k < 256 → h.nodesused < 65536 →
    (p q : Filling) (s : Bool) → Filled p (met_from b h root h.nodesused).keys s q → p.at ≡ 0 → q.list.now ≡ sets p.list.now 0 (walked b h).keys
stored_walk b h root e k n p q s f z =
    let same = ap (λ (c : Option Kin). (met_from b h c h.nodesused).keys) e in
    f.stored
    ∙ ap (sets p.list.now p.at) (take_all (18446744073709551615 - p.at) (met_from b h root h.nodesused).keys (omega (arith, few_keys b h k n, ap length same)) ∙ same)
    ∙ ap (λ (at : ℕ). sets p.list.now at (walked b h).keys) z
