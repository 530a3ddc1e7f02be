-- Counting the children that are not empty: two, one of them l, make a pair.
use mathlib.Core.Path.{◌≡◌, refl, sym, ◌∙◌}
use mathlib.Core.Logic.{◌≢◌}
use Prim.Native.Nat.{ℕ, zero, suc, ◌+◌, ◌≤◌}
use native.Mathlib.Decide.{ℕ_discrete}
use native.Mathlib.Omega.{arith}
use Rattle.history.specs.View.{View, In, route, Reach}
use Rattle.history.specs.Shared.{Pair}
use Rattle.history.proofs.Route.{route_slot}
use Rattle.history.proofs.Paths.{Uniq}

-- 1 for a node that is not empty
unfoldable pub full : ℕ → ℕ
full tag = elim (ℕ_discrete tag 0) [ yes e ↦ 0 | no e ↦ 1 ]

-- how many of the first d children of p are not empty
unfoldable pub full_count : View → ℕ → ℕ → ℕ
full_count t p zero = 0
full_count t p (suc d) = full (t.tag (t.child p (suc d))) + full_count t p d

pub full_yes : (tag : ℕ) → tag ≢ 0 → full tag ≡ 1
unfolding full
full_yes tag h = go (ℕ_discrete tag 0)
  where
    go : (d : Dec (tag ≡ 0)) → ◌≡◌ {A = ℕ} (elim d [ yes e ↦ 0 | no e ↦ 1 ]) 1
    go (yes e) = absurd (h e)
    go (no e) = refl

pub full_no : (tag : ℕ) → tag ≡ 0 → full tag ≡ 0
unfolding full
full_no tag h = go (ℕ_discrete tag 0)
  where
    go : (d : Dec (tag ≡ 0)) → ◌≡◌ {A = ℕ} (elim d [ yes e ↦ 0 | no e ↦ 1 ]) 0
    go (yes e) = refl
    go (no e) = absurd (e h)

pub full_most : (tag : ℕ) → full tag ≤ 1
unfolding full
full_most tag = go (ℕ_discrete tag 0)
  where
    go : (d : Dec (tag ≡ 0)) → ◌≤◌ (elim d [ yes e ↦ 0 | no e ↦ 1 ]) 1
    go (yes e) = omega arith
    go (no e) = omega arith

-- none among the first d
none_full : (t : View) (p d : ℕ) → full_count t p d ≡ 0 → (j : ℕ) → In d j → t.tag (t.child p j) ≡ 0
unfolding full_count
none_full t p zero h j i = absurd (omega (arith, i.low, i.high))
none_full t p (suc d) h j i =
    go (ℕ_discrete j (suc d)) (ℕ_discrete (t.tag (t.child p (suc d))) 0) (λ (a : In d j). none_full t p d (omega arith) j a)
  where
    go : Dec (j ≡ suc d) → Dec (t.tag (t.child p (suc d)) ≡ 0) → (In d j → t.tag (t.child p j) ≡ 0) → t.tag (t.child p j) ≡ 0
    go (yes e) (yes z) ih = rw e z
    go (yes e) (no z) ih = absurd (omega (arith, full_yes (t.tag (t.child p (suc d))) z))
    go (no e) c ih = ih (omega (arith, i.low, i.high))

-- one among the first d: where
record Single (t : View) (p d : ℕ) : Type 0 where
  place : ℕ
  place_in : In d place
  is_full : t.tag (t.child p place) ≢ 0
  rest : (j : ℕ) → In d j → j ≢ place → t.tag (t.child p j) ≡ 0

one_full : (t : View) (p d : ℕ) → full_count t p d ≡ 1 → Single t p d
unfolding full_count
one_full t p zero h = absurd (omega arith)
one_full t p (suc d) h = go (ℕ_discrete (t.tag (t.child p (suc d))) 0) (λ (a : full_count t p d ≡ 1). one_full t p d a)
  where
    last : t.tag (t.child p (suc d)) ≢ 0 → full_count t p d ≡ 0 → (j : ℕ) → In (suc d) j → j ≢ suc d → t.tag (t.child p j) ≡ 0
    last z b j i e = none_full t p d b j (omega (arith, i.low, i.high))

    earlier : t.tag (t.child p (suc d)) ≡ 0 → Single t p d → Single t p (suc d)
    earlier z s = record {
      place = s.place;
      place_in = omega (arith, s.place_in);
      is_full = s.is_full;
      rest = λ j i e. old j i e (ℕ_discrete j (suc d));
    }
      where
        old : (j : ℕ) → In (suc d) j → j ≢ s.place → Dec (j ≡ suc d) → t.tag (t.child p j) ≡ 0
        old j i e (yes y) = rw y z
        old j i e (no y) = s.rest j (omega (arith, i.low, i.high)) e

    go : Dec (t.tag (t.child p (suc d)) ≡ 0) → (full_count t p d ≡ 1 → Single t p d) → Single t p (suc d)
    go (yes z) ih = earlier z (ih (omega (arith, full_no (t.tag (t.child p (suc d))) z)))
    go (no z) ih = record {
      place = suc d;
      place_in = omega arith;
      is_full = z;
      rest = last z (omega (arith, full_yes (t.tag (t.child p (suc d))) z));
    }

-- two among the first d, one of them at a given place: where the other is
record Double (t : View) (p d at : ℕ) : Type 0 where
  place : ℕ
  place_in : In d place
  place_apart : place ≢ at
  is_full : t.tag (t.child p place) ≢ 0
  rest : (j : ℕ) → In d j → j ≢ place → j ≢ at → t.tag (t.child p j) ≡ 0

two_full : (t : View) (p d at : ℕ) → full_count t p d ≡ 2 → In d at → t.tag (t.child p at) ≢ 0 → Double t p d at
unfolding full_count
two_full t p zero at h i f = absurd (omega arith)
two_full t p (suc d) at h i f =
    go (ℕ_discrete at (suc d)) (ℕ_discrete (t.tag (t.child p (suc d))) 0)
    (λ (a : full_count t p d ≡ 2) (b : In d at). two_full t p d at a b f)
  where
    from_one : at ≡ suc d → Single t p d → Double t p (suc d) at
    from_one e s = record {
      place = s.place;
      place_in = omega (arith, s.place_in);
      place_apart = λ z. omega (arith, s.place_in);
      is_full = s.is_full;
      rest = λ j a b c. s.rest j (omega (arith, a.low, a.high)) b;
    }

    other_last : t.tag (t.child p (suc d)) ≢ 0 → at ≢ suc d → Single t p d → Double t p (suc d) at
    other_last z e s = record {
      place = suc d;
      place_in = omega arith;
      place_apart = λ y. e (sym y);
      is_full = z;
      rest = λ j a b c. s.rest j (omega (arith, a.low, a.high)) (is j a b c);
    }
      where
        is : (j : ℕ) → In (suc d) j → j ≢ suc d → j ≢ at → j ≢ s.place
        is j a b c y = same (ℕ_discrete at s.place)
          where
            same : Dec (at ≡ s.place) → ⊥
            same (yes w) = c (y ∙ sym w)
            same (no w) = f (s.rest at (omega (arith, i.low, i.high)) w)

    earlier : t.tag (t.child p (suc d)) ≡ 0 → Double t p d at → Double t p (suc d) at
    earlier z s = record {
      place = s.place;
      place_in = omega (arith, s.place_in);
      place_apart = s.place_apart;
      is_full = s.is_full;
      rest = λ j a b c. old j a b c (ℕ_discrete j (suc d));
    }
      where
        old : (j : ℕ) → In (suc d) j → j ≢ s.place → j ≢ at → Dec (j ≡ suc d) → t.tag (t.child p j) ≡ 0
        old j a b c (yes y) = rw y z
        old j a b c (no y) = s.rest j (omega (arith, a.low, a.high)) b c

    go : Dec (at ≡ suc d) → Dec (t.tag (t.child p (suc d)) ≡ 0) → (full_count t p d ≡ 2 → In d at → Double t p d at)
        → Double t p (suc d) at
    go (yes e) (yes z) ih = absurd (f (rw e z))
    go (yes e) (no z) ih = from_one e (one_full t p d (omega (arith, full_yes (t.tag (t.child p (suc d))) z)))
    go (no e) (yes z) ih = earlier z (ih (omega (arith, full_no (t.tag (t.child p (suc d))) z)) (omega (arith, i.low, i.high)))
    go (no e) (no z) ih = other_last z e (one_full t p d (omega (arith, full_yes (t.tag (t.child p (suc d))) z)))

-- 3 to 5: two children that are not empty, one of them l where a search for x looks
pub pair_of : {k : ℕ} {t : View} (x p l : ℕ) → 1 ≤ k → Uniq k t → Reach k t p → t.tag p ≡ k → t.child p (route k (t.key p) x) ≡ l
    → t.tag l ≢ 0 → full_count t p k ≡ 2 → Pair k t x p l
pair_of {k} {t} x p l hk u o q at f c = go (two_full t p k (route k (t.key p) x) c (route_slot k _ hk x) (rw at f))
  where
    go : Double t p k (route k (t.key p) x) → Pair k t x p l
    go s = record {
      other = t.child p s.place;
      place = s.place;
      place_in = s.place_in;
      place_apart = s.place_apart;
      l_at = at;
      other_at = refl;
      other_full = s.is_full;
      other_l =
          λ e. s.place_apart (u.one p s.place p (route k (t.key p) x) o q s.place_in o q (route_slot k _ hk x) (e ∙ sym at)).1;
      rest_empty = s.rest;
    }
