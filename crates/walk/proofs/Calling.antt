-- Listing, its twin and range, return by return.
use Prim.Native.Nat.{ℕ, ◌+◌, ◌≤◌}
use mathlib.Core.Path.{◌≡◌, refl, sym, ap, subst, ◌∙◌}
use mathlib.Core.Bool.{Bool, true, false}
use mathlib.Core.List.{List, [], ◌∷◌}
use native.Mathlib.Omega.{arith}
use borrow.Author.Tests.{lt-ltb, le-ltb, eq-eqb, ne_eqb}
use lib.ListN.{length, take, drop, length-append}
use lib.Seq.{sets, sets-eq, take-append_seam, length-take-le}
use Rattle.std.specs.Prelude.{Result, Ok, Err}
use Rattle.tables.specs.Choice.{pick, Reason, decide}
use Rattle.tables.specs.Refusal.{refusal}
use Rattle.tables.specs.Header.{header_of, header_read}
use Rattle.tables.specs.Layout.{over_front}
use Rattle.tables.specs.declared.header.Header.{Header}
use Rattle.tables.specs.declared.numbers.Refusal.{Refusal}
use Rattle.tables.proofs.Limits.{read_header, read_refuses, read_accepts}
use Rattle.walk.specs.Calls.{ListOut, list_out, list_of, list_reasons, part_of, keys_met, range_of}
use Rattle.walk.specs.Parts.{list_good, range_good, filled_of}

-- words stored from the front of a list that has room for them
pub sets-front : (list ks : List ℕ) → length ks ≤ length list → sets list 0 ks ≡ over_front ks list
sets-front list ks p = sets-eq ks list 0 (omega arith) ∙ (let e : 0 + length ks ≡ length ks = omega arith in rw e refl)

-- what the tests of a listing and of a range tell
pub ruleset tests = (lt-ltb, le-ltb, eq-eqb, ne_eqb, sets-front)

module _ (b list : List ℕ) (a : Result Header Refusal) (e : a ≡ header_read b) where
  pub list_refused : (r : Refusal) → a ≡ Err r → list_out (Err r) list ≡ list_of b list
  list_refused r f = read_refuses (λ (x : Refusal). list_out (Err x) list) (list_good b (header_of b) list) b r (sym e ∙ f)

  pub list_read : (h : Header) (r : Result ℕ Refusal) (list' : List ℕ) → a ≡ Ok h → list_out r list' ≡ list_good b h list → list_out r list' ≡ list_of b list
  list_read h r list' f g =
      g
      ∙ ap (λ (x : Header). list_good b x list) (sym (read_header b h (sym e ∙ f)))
      ∙ read_accepts (λ (x : Refusal). list_out (Err x) list) (list_good b (header_of b) list) b h (sym e ∙ f)

-- the front of the list that a listing has filled is what its twin hands back
module _ (list ks : List ℕ) where
  abbrev answer : List Reason → ListOut
  answer rs = decide rs (λ n. list_out (Err (refusal n)) list) (list_out (Ok (length ks)) (over_front ks list))

  front_is : (rs : List Reason) → take (filled_of (answer rs).listed) (answer rs).list ≡ decide rs (λ n. []) ks
  unfolding pick
  front_is [] = take-append_seam ks (drop (length ks) list)
  front_is (r ∷ rs) = go r.holds (front_is rs)
    where
      go : (t : Bool) → take (filled_of (answer rs).listed) (answer rs).list ≡ decide rs (λ n. []) ks →
          take (filled_of (pick t (list_out (Err (refusal r.number)) list) (answer rs)).listed) (pick t (list_out (Err (refusal r.number)) list) (answer rs)).list
          ≡ pick t [] (decide rs (λ n. []) ks)
      go true up = refl
      go false up = up

  front_fits : (rs : List Reason) → filled_of (answer rs).listed ≤ length (answer rs).list
  unfolding pick
  front_fits [] = omega (arith, length-append ks (drop (length ks) list))
  front_fits (r ∷ rs) = go r.holds (front_fits rs)
    where
      go : (t : Bool) → filled_of (answer rs).listed ≤ length (answer rs).list →
          filled_of (pick t (list_out (Err (refusal r.number)) list) (answer rs)).listed ≤ length (pick t (list_out (Err (refusal r.number)) list) (answer rs)).list
      go true up = omega arith
      go false up = up

module _ (b list list' : List ℕ) (l : Result ℕ Refusal) (n : ℕ) (e : list_out l list' ≡ list_of b list) (f : n ≡ filled_of l) where
  pub part_is : take n list' ≡ part_of b list
  part_is = rw f (ap (λ (x : ListOut). take (filled_of x.listed) x.list) e ∙ front_is list (keys_met b) (list_reasons b (length list)))

  part_fits : n ≤ length list'
  part_fits =
      rw f (subst (λ (x : ListOut). filled_of x.listed ≤ length x.list) (sym e) (front_fits list (keys_met b) (list_reasons b (length list))))

  pub part_length : n ≡ length (take n list')
  part_length = sym (length-take-le n list' part_fits)

module _ (b : List ℕ) (low high : ℕ) (a : Result Header Refusal) (e : a ≡ header_read b) where
  pub range_refused : (r : Refusal) → a ≡ Err r → Err r ≡ range_of b low high
  range_refused r f = read_refuses Err (range_good b (header_of b) low high) b r (sym e ∙ f)

  pub range_read : (h : Header) (r : Result Bool Refusal) → a ≡ Ok h → r ≡ range_good b h low high → r ≡ range_of b low high
  range_read h r f g =
      g
      ∙ ap (λ (x : Header). range_good b x low high) (sym (read_header b h (sym e ∙ f)))
      ∙ read_accepts Err (range_good b (header_of b) low high) b h (sym e ∙ f)
