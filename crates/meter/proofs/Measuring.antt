-- The measuring pass, return by return and turn by turn: it keeps what its definition says of the walk.
use Prim.Native.Nat.{ℕ, zero, suc, ◌+◌, ◌^◌, ◌<◌, min}
use mathlib.Core.Path.{◌≡◌, refl, sym, ap, ◌∙◌}
use mathlib.Core.Bool.{Bool, true, false, ◌||◌, ◌&&◌}
use mathlib.Core.List.{List, [], ◌∷◌, ◌++◌}
use native.Mathlib.Omega.{arith}
use native.Mathlib.Numerals.{add-one}
use lib.ListN.{length}
use Rattle.std.specs.Prelude.{Option}
use Rattle.std.specs.List.{list_any, range_with_len}
use Rattle.nodes.specs.declared.node.Kin.{Kin}
use Rattle.tables.specs.Choice.{pick, both, either, within, listed}
use Rattle.tables.specs.Layout.{key_word}
use Rattle.nodes.specs.Keys.{keys_of, rises}
use Rattle.nodes.specs.Node.{kin_of}
use Rattle.tables.specs.declared.header.Header.{Header}
use Rattle.tables.proofs.Picks.{both_false}
use Rattle.meter.proofs.Rooms.{few_keys}
use Rattle.meter.specs.Laws.{either_none}
use Rattle.nodes.proofs.Keyed.{keys_length}
use Rattle.meter.specs.Walk.{Walk, met_from, walked}
use Rattle.meter.specs.Measure.{any_within, measure_of, Measured}
use Rattle.meter.specs.declared.Meter.{Meter}
use Rattle.meter.specs.declared.Tally.{Tally}

-- a leaf's keys, one more at a time
listed_more : (f : ℕ → ℕ) (i n : ℕ) → listed f i (n + 1) ≡ listed f i n ++ f (i + n) ∷ []
unfolding listed
listed_more f i n = rw (add-one n) (go i n)
  where
    go : (i n : ℕ) → listed f i (suc n) ≡ listed f i n ++ f (i + n) ∷ []
    go i zero = let e : i + 0 ≡ i = omega arith in rw e refl
    go i (suc n) = let e : i + suc n ≡ i + 1 + n = omega arith in rw e (ap (λ (l : List ℕ). f i ∷ l) (go (i + 1) n))

module _ (b : List ℕ) (h : Header) (node : ℕ) where
  pub keys_more : (i : ℕ) → keys_of b h node (i + 1) ≡ keys_of b h node i ++ key_word b h node (i + 1) ∷ []
  keys_more i = let e : 1 + i ≡ i + 1 = omega arith in listed_more (λ j. key_word b h node j) 1 i ∙ ap (λ (j : ℕ). keys_of b h node i ++ key_word b h node j ∷ []) e

-- the keys in a range, place by place
within_from : (low high : ℕ) (f : ℕ → ℕ) (a n : ℕ) → list_any (λ i. within low (f (i + 1)) high) (range_with_len a n) ≡ any_within low high (listed f (a + 1) n)
unfolding any_within listed pick
within_from low high f a zero = refl
within_from low high f a (suc n) = go (within low (f (a + 1)) high) (within_from low high f (a + 1) n)
  where
    go : (t : Bool) {x y : Bool} → x ≡ y → (t || x) ≡ either t y
    go true e = refl
    go false e = e

pub within_all : (low high : ℕ) (b : List ℕ) (h : Header) (node count : ℕ) →
    list_any (λ i. within low (key_word b h node (i + 1)) high) (range_with_len 0 count) ≡ any_within low high (keys_of b h node count)
within_all low high b h node count = within_from low high (λ i. key_word b h node i) 0 count ∙ (let z : 0 + 1 ≡ 1 = omega arith in rw z refl)

-- what the measuring pass is after damage
pub damage_measured : (p : Tally) → Measured p [] false (record p { sound = false })
unfolding any_within
damage_measured p = record { low = refl; high = refl; count = omega arith; found = sym (either_none p.found); sound = sym (both_false p.sound) }

-- and after a leaf; the count is a saturating sum
pub leaf_measured : (b : List ℕ) (h : Header) (node count : ℕ) (p : Tally) (found rising : Bool) (sum n : ℕ) → found ≡ any_within p.low p.high (keys_of b h node count) →
    rising ≡ rises (keys_of b h node count) → n ≡ count → p.count < 2 ^ 32 → sum ≡ min (p.count + n) 4294967295 →
    Measured p (keys_of b h node count) (rises (keys_of b h node count)) (record { low = p.low; high = p.high; count = sum; found = p.found || found; sound = p.sound && rising })
unfolding both pick
leaf_measured b h node count p found rising sum n e f g k j =
    record {
      low = refl;
      high = refl;
      count = omega (arith, keys_length b h node count);
      found = go p.found ∙ ap (either p.found) e;
      sound = to p.sound ∙ ap (both p.sound) f;
    }
  where
    go : (t : Bool) → (t || found) ≡ either t found
    go true = refl
    go false = refl

    to : (t : Bool) → (t && rising) ≡ both t rising
    to true = refl
    to false = refl

-- the whole walk, from node 1
same_meter : (a d c n : ℕ) (f g s t : Bool) → a ≡ d → c ≡ n → f ≡ g → s ≡ t →
    ◌≡◌ {A = Meter} (record { allowed = a; count = c; found = f; sound = s }) (record { allowed = d; count = n; found = g; sound = t })
same_meter a d c n f g s t i e j k = cc

module _ (b : List ℕ) (h : Header) (root : Option Kin) (e : root ≡ kin_of b h 1) where
  pub measured_all : (low high left : ℕ) (q : Tally) → h.k < 256 → h.nodesused < 65536 → left ≡ (met_from b h root h.nodesused).allowed
      → Measured (record { low = low; high = high; count = 0; found = false; sound = true }) (met_from b h root h.nodesused).keys (met_from b h root h.nodesused).sound q
      → record { allowed = left; count = q.count; found = q.found; sound = q.sound } ≡ measure_of low high (walked b h)
  unfolding both pick
  measured_all low high left q k n f m = same_meter left _ q.count _ q.found _ q.sound _ f (omega (arith, m.count, few)) m.found m.sound ∙ ap (measure_of low high) z
    where
      z : met_from b h root h.nodesused ≡ walked b h
      z = ap (λ (c : Option Kin). met_from b h c h.nodesused) e

      few : 0 + length (met_from b h root h.nodesused).keys < 2 ^ 32
      few = omega (arith, few_keys b h k n, ap (λ (w : Walk). length w.keys) z)
