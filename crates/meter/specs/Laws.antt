-- Why the measuring pass is a pass of the walk: what it has measured of two walks, one behind the other. For the check only.
use Rattle.std.specs.Prelude.{ℕ, ◌≡◌, Bool, true, false, List, [], ◌∷◌, ◌++◌}
use Rattle.std.proofs.Common.{refl, sym, ap, ◌∙◌, arith, length-append}
use Rattle.tables.specs.Choice.{pick, both, either}
use Rattle.tables.proofs.Picks.{both_true, both_assoc}
use Rattle.meter.specs.Measure.{any_within, Measured}
use Rattle.meter.specs.declared.Tally.{Tally}

-- either, and the keys in a range, over what is met in two parts
pub either_none : (s : Bool) → either s false ≡ s
unfolding pick
either_none true = refl
either_none false = refl

either_assoc : (r s t : Bool) → either (either r s) t ≡ either r (either s t)
unfolding pick
either_assoc true s t = refl
either_assoc false s t = refl

module _ (low high : ℕ) where
  pub any_append : (ks ls : List ℕ) → any_within low high (ks ++ ls) ≡ either (any_within low high ks) (any_within low high ls)
  unfolding any_within pick
  any_append [] ls = refl
  any_append (x ∷ xs) ls = ap (either _) (any_append xs ls) ∙ sym (either_assoc _ (any_within low high xs) (any_within low high ls))

-- what the trait asks of the measuring pass
pub measured_nothing : (p : Tally) → Measured p [] true p
unfolding any_within
measured_nothing p = record { low = refl; high = refl; count = omega arith; found = sym (either_none p.found); sound = sym (both_true p.sound) }

pub measured_behind : (p q r : Tally) (ks ls : List ℕ) (s t : Bool) → Measured p ks s q → Measured q ls t r → Measured p (ks ++ ls) (both s t) r
measured_behind p q r ks ls s t e f =
    record {
      low = f.low ∙ e.low;
      high = f.high ∙ e.high;
      count = omega (arith, length-append ks ls, e.count, f.count);
      found = f.found ∙ rw (e.found, e.low, e.high) (either_assoc p.found _ _ ∙ ap (either p.found) (sym (any_append p.low p.high ks ls)));
      sound = f.sound ∙ rw e.sound (both_assoc p.sound s t);
    }

pub measured_one : (p q r : Tally) (ks : List ℕ) (s : Bool) → Measured p ks s q → Measured p ks s r → q ≡ r
measured_one p q r ks s e f =
    same_tally q r (e.low ∙ sym f.low) (e.high ∙ sym f.high) (e.count ∙ sym f.count) (e.found ∙ sym f.found) (e.sound ∙ sym f.sound)
  where
    same_tally : (q r : Tally) → q.low ≡ r.low → q.high ≡ r.high → q.count ≡ r.count → q.found ≡ r.found → q.sound ≡ r.sound → q ≡ r
    same_tally q r e f g j k i = record { low = e i; high = f i; count = g i; found = j i; sound = k i }
