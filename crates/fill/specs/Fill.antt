-- What the pass that fills the list keeps of a walk.
use Rattle.std.specs.Prelude.{ℕ, ◌+◌, ◌-◌, ◌≡◌, Bool, List, length, min, take}
use Rattle.std.proofs.lemmas.List.Edits.{sets}
use Rattle.fill.specs.declared.Filling.{Filling}

-- The filling after these keys, from what it was before: it stands in the same list, and the keys are stored one behind the other from where it stood, as far as the places have a number below 2 ^ 64 - 1: a list has no others.
pub record Filled (p : Filling) (ks : List ℕ) (s : Bool) (q : Filling) : Type 0 where
  pub same_place : q.list.ref_ptr ≡ p.list.ref_ptr
  pub same_list : q.list.ghost_name ≡ p.list.ghost_name
  pub at : q.at ≡ p.at + min (length ks) (18446744073709551615 - p.at)
  pub stored : q.list.now ≡ sets p.list.now p.at (take (18446744073709551615 - p.at) ks)
