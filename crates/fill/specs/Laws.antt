-- Why the filling is a pass of the walk: what is stored of two walks, one behind the other. For the check only.
use Rattle.std.specs.Prelude.{ℕ, zero, suc, ◌+◌, ◌-◌, ◌≡◌, Bool, true, List, [], ◌∷◌, ◌++◌, length, set, take}
use Rattle.std.proofs.Common.{refl, sym, ap, ◌∙◌, arith, length-append}
use Rattle.std.proofs.lemmas.List.{take_all, length-take}
use Rattle.std.proofs.lemmas.List.Edits.{sets}
use Rattle.tables.specs.Choice.{both}
use Rattle.fill.specs.Fill.{Filled}
use Rattle.fill.specs.declared.Filling.{Filling}

-- words stored one behind the other
pub sets-append : (l : List ℕ) (at : ℕ) (ks ls : List ℕ) → sets l at (ks ++ ls) ≡ sets (sets l at ks) (at + length ks) ls
sets-append l at [] ls = let e : at + 0 ≡ at = omega arith in rw e refl
sets-append l at (k ∷ ks) ls = let e : at + suc (length ks) ≡ suc at + length ks = omega arith in rw e (sets-append (set l at k) (suc at) ks ls)

-- of two parts, those that have room
take_over : (m : ℕ) (ks ls : List ℕ) → take m (ks ++ ls) ≡ take m ks ++ take (m - length ks) ls
take_over zero ks ls = let e : 0 - length ks ≡ 0 = omega arith in rw e refl
take_over (suc m) [] ls = let e : suc m - 0 ≡ suc m = omega arith in rw e refl
take_over (suc m) (k ∷ ks) ls = let e : suc m - suc (length ks) ≡ m - length ks = omega arith in rw e (ap (λ (l : List ℕ). k ∷ l) (take_over m ks ls))

pub filled_nothing : (p : Filling) → Filled p [] true p
filled_nothing p =
    record {
      same_place = refl;
      same_list = refl;
      at = omega arith;
      stored = ap (sets p.list.now p.at) (sym (take_all (18446744073709551615 - p.at) [] (omega arith)));
    }

pub filled_behind : (p q r : Filling) (ks ls : List ℕ) (s t : Bool) → Filled p ks s q → Filled q ls t r → Filled p (ks ++ ls) (both s t) r
filled_behind p q r ks ls s t e f =
    record {
      same_place = f.same_place ∙ e.same_place;
      same_list = f.same_list ∙ e.same_list;
      at = omega (arith, length-append ks ls, e.at, f.at);
      stored =
          let room = 18446744073709551615 - p.at in
          let at : q.at ≡ p.at + length (take room ks) = omega (arith, e.at, length-take room ks) in
          let left : 18446744073709551615 - (p.at + length (take room ks)) ≡ room - length ks = omega (arith, length-take room ks) in
          f.stored
          ∙ rw (e.stored, at, left) (sym (sets-append p.list.now p.at (take room ks) (take (room - length ks) ls)))
          ∙ ap (sets p.list.now p.at) (sym (take_over room ks ls));
    }

pub filled_one : (p q r : Filling) (ks : List ℕ) (s : Bool) → Filled p ks s q → Filled p ks s r → q ≡ r
filled_one p q r ks s e f =
    same_filling q r (e.same_place ∙ sym f.same_place) (e.same_list ∙ sym f.same_list) (e.at ∙ sym f.at) (e.stored ∙ sym f.stored)
  where
    same_filling : (q r : Filling) → q.list.ref_ptr ≡ r.list.ref_ptr → q.list.ghost_name ≡ r.list.ghost_name → q.at ≡ r.at → q.list.now ≡ r.list.now → q ≡ r
    same_filling q r e f g j i = record { list = record { ref_ptr = e i; ghost_name = f i; now = j i }; at = g i }
