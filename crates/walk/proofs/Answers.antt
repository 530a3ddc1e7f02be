-- What the answers of listing and range say: each number one thing, each refusal its first reason, yes exactly when no key lies in the range.
use Prim.Native.Nat.{ℕ, zero, suc, ◌≤◌}
use mathlib.Core.Path.{◌≡◌, refl, sym, ap, ◌∙◌}
use mathlib.Core.Bool.{Bool, true, false}
use mathlib.Core.Logic.{inr}
use mathlib.Core.List.{List, [], ◌∷◌, Memᴰ}
use native.Mathlib.Omega.{arith}
use borrow.Author.Tests.{le-leb}
use lib.ListN.{length, take}
use Rattle.std.specs.Prelude.{Result, Ok, Err}
use Rattle.tables.specs.Choice.{pick, both, either, within, Verdict, refused, accepted, verdict, told, NoneHolds, First}
use Rattle.tables.specs.Refusal.{number_of, refusal}
use Rattle.tables.specs.Layout.{over_front}
use Rattle.tables.specs.declared.numbers.Refusal.{Refusal}
use Rattle.tables.proofs.OneToOne.{refusal_number, none_accepts, tells, accepted_none, first_answers, answers_first}
use Rattle.tables.proofs.Picks.{either_some, within_low, within_high}
use Rattle.meter.specs.Measure.{any_within}
use Rattle.walk.specs.Answer.{answered, refused_by, listed_says, cleared_says, cleared}
use Rattle.walk.specs.Calls.{keys_met, list_reasons, ListOut, list_out, list_of, part_of, ClearOf, Between, range_reasons, range_of}
use Rattle.walk.specs.Parts.{filled_of}
use Rattle.walk.proofs.Calling.{part_is}

-- a refusal is one thing
pub one_refusal : {T : Type 0} (d e : Refusal) → ◌≡◌ {A = Result T Refusal} (Err d) (Err e) → d ≡ e
one_refusal d e q = cc

-- two answers that say the same are the same
said_answer : (m n : ℕ) → answered m ≡ answered n → m ≡ n
said_answer m n e = cc

said_refusal : (d e : Refusal) → refused_by (number_of d) ≡ refused_by (number_of e) → d ≡ e
said_refusal d e f = sym (refusal_number d) ∙ ap refusal (let z : number_of d ≡ number_of e = cc in z) ∙ refusal_number e

said_apart : (m n : ℕ) → answered m ≡ refused_by n → ⊥
said_apart m n e = let z : ◌≡◌ {A = ℕ} 0 1 = cc in omega arith

pub listed_one : (x y : Result ℕ Refusal) → listed_says x ≡ listed_says y → x ≡ y
listed_one (Ok m) (Ok n) e = ap Ok (said_answer m n e)
listed_one (Ok m) (Err d) e = absurd (said_apart m (number_of d) e)
listed_one (Err d) (Ok n) e = absurd (said_apart n (number_of d) (sym e))
listed_one (Err d) (Err f) e = ap Err (said_refusal d f e)

pub cleared_one : (x y : Result Bool Refusal) → cleared_says x ≡ cleared_says y → x ≡ y
cleared_one (Ok false) (Ok false) e = refl
cleared_one (Ok false) (Ok true) e = absurd (let z : ◌≡◌ {A = ℕ} 0 1 = said_answer 0 1 e in omega arith)
cleared_one (Ok false) (Err d) e = absurd (said_apart 0 (number_of d) e)
cleared_one (Ok true) (Ok false) e = absurd (let z : ◌≡◌ {A = ℕ} 0 1 = said_answer 0 1 (sym e) in omega arith)
cleared_one (Ok true) (Ok true) e = refl
cleared_one (Ok true) (Err d) e = absurd (said_apart 1 (number_of d) e)
cleared_one (Err d) (Ok false) e = absurd (said_apart 0 (number_of d) (sym e))
cleared_one (Err d) (Ok true) e = absurd (said_apart 1 (number_of d) (sym e))
cleared_one (Err d) (Err f) e = ap Err (said_refusal d f e)

pub cleared_number : (n : ℕ) → n ≤ 1 → cleared_says (cleared n) ≡ answered n
cleared_number zero p = refl
cleared_number (suc zero) p = refl
cleared_number (suc (suc n)) p = absurd (omega arith)

-- listing: refused n exactly when a reason n holds and none before it
module _ (b list : List ℕ) where
  abbrev full : ListOut
  full = list_out (Ok (length (keys_met b))) (over_front (keys_met b) list)

  abbrev refusing : ℕ → ListOut
  refusing n = list_out (Err (refusal n)) list

  never : (e : Refusal) → full ≡ list_out (Err e) list → ⊥
  never e q = let z : ◌≡◌ {A = ℕ} 0 1 = apart (ap (λ (o : ListOut). o.listed) q) in omega arith
    where
      apart : Ok (length (keys_met b)) ≡ Err e → ◌≡◌ {A = ℕ} 0 1
      apart q = cc

  pub list_says_first : (e : Refusal) → list_of b list ≡ list_out (Err e) list → First (number_of e) (list_reasons b (length list))
  unfolding both
  list_says_first e =
      answers_first (λ d. list_out (Err d) list) full (list_reasons b (length list)) e
      (λ d q. one_refusal d e (ap (λ (o : ListOut). o.listed) q)) (never e) refl

  pub list_first_says : (e : Refusal) → First (number_of e) (list_reasons b (length list)) → list_of b list ≡ list_out (Err e) list
  list_first_says e = first_answers (λ d. list_out (Err d) list) full (list_reasons b (length list)) e

  -- a count is answered exactly when no reason holds; it is the count of the walk's keys, which then stand at the list's front, the rest untouched
  pub list_counts : NoneHolds (list_reasons b (length list)) → list_of b list ≡ full
  list_counts = none_accepts refusing full (list_reasons b (length list))

  pub list_count : (n : ℕ) → (list_of b list).listed ≡ Ok n → NoneHolds (list_reasons b (length list)) × (n ≡ length (keys_met b)) × (list_of b list ≡ full)
  list_count n e = go (verdict (list_reasons b (length list))) refl
    where
      counted : list_of b list ≡ full → n ≡ length (keys_met b)
      counted f = let z = sym e ∙ ap (λ (o : ListOut). o.listed) f in cc

      go : (v : Verdict) → verdict (list_reasons b (length list)) ≡ v → NoneHolds (list_reasons b (length list)) × (n ≡ length (keys_met b)) × (list_of b list ≡ full)
      go accepted f =
          let q = tells refusing full (list_reasons b (length list)) ∙ ap (told refusing full) f in
          (accepted_none (list_reasons b (length list)) f, counted q, q)
      go (refused m) f =
          let q = sym e ∙ ap (λ (o : ListOut). o.listed) (tells refusing full (list_reasons b (length list)) ∙ ap (told refusing full) f) in
          let z : ◌≡◌ {A = ℕ} 0 1 = cc in
          absurd (omega arith)

  -- the twin "does the same": what it hands back is the front of what a listing leaves, as many words as that has filled
  pub twin_front : part_of b list ≡ take (filled_of (list_of b list).listed) (list_of b list).list
  twin_front = sym (part_is b list (list_of b list).list (list_of b list).listed (filled_of (list_of b list).listed) refl refl)

-- range: the same
module _ (b : List ℕ) (low high : ℕ) where
  abbrev yes_or_no : Result Bool Refusal
  yes_or_no = cleared (pick (any_within low high (keys_met b)) 0 1)

  some_answer : (t : Bool) (e : Refusal) → cleared (pick t 0 1) ≡ Err e → ⊥
  unfolding pick
  some_answer true e q = let z : ◌≡◌ {A = ℕ} 0 1 = cc in omega arith
  some_answer false e q = let z : ◌≡◌ {A = ℕ} 0 1 = cc in omega arith

  pub range_says_first : (e : Refusal) → range_of b low high ≡ Err e → First (number_of e) (range_reasons b low high)
  unfolding both
  range_says_first e =
      answers_first Err yes_or_no (range_reasons b low high) e (λ d q. one_refusal d e q) (some_answer (any_within low high (keys_met b)) e) refl

  pub range_first_says : (e : Refusal) → First (number_of e) (range_reasons b low high) → range_of b low high ≡ Err e
  range_first_says e = first_answers Err yes_or_no (range_reasons b low high) e

-- the keys of a list, as a set
abbrev pub Among : List ℕ → ℕ → Type 0
Among ks x = Memᴰ x ks

module _ (low high : ℕ) where
  pub any_between : (ks : List ℕ) → any_within low high ks ≡ true → Between (Among ks) low high
  unfolding any_within pick
  any_between [] e = let z : ◌≡◌ {A = ℕ} 0 1 = cc in absurd (omega arith)
  any_between (x ∷ xs) e = go (within low x high) refl e (any_between xs)
    where
      go : (t : Bool) → within low x high ≡ t → either t (any_within low high xs) ≡ true → (any_within low high xs ≡ true → Between (Among xs) low high) → Between (Among (x ∷ xs)) low high
      go true w f up = record { key = x; held = Memᴰ.head refl; from = within_low low x high w; to = within_high low x high w }
      go false w f up = let i = up f in record { key = i.key; held = Memᴰ.tail i.held; from = i.from; to = i.to }

  between_any : (x : ℕ) (ks : List ℕ) → Memᴰ x ks → low ≤ x → x ≤ high → any_within low high ks ≡ true
  unfolding any_within pick both
  between_any x [] m p q = elim m [ ]
  between_any x (y ∷ ys) (Memᴰ.head e) p q = rw (← e, le-leb low x p, le-leb x high q) refl
  between_any x (y ∷ ys) (Memᴰ.tail m) p q = either_some (within low y high) (any_within low high ys) (inr (between_any x ys m p q))

  pub none_clear : (ks : List ℕ) → any_within low high ks ≡ false → ClearOf (Among ks) low high
  none_clear ks e x p q m = let z = sym (between_any x ks m p q) ∙ e in let n : ◌≡◌ {A = ℕ} 0 1 = cc in omega arith

  pub clear_none : (ks : List ℕ) → ClearOf (Among ks) low high → any_within low high ks ≡ false
  clear_none ks c = go (any_within low high ks) refl
    where
      go : (t : Bool) → any_within low high ks ≡ t → any_within low high ks ≡ false
      go false e = e
      go true e = let i = any_between ks e in absurd (c i.key i.from i.to i.held)

-- "Clear-of-range answers yes exactly when no key of the set lies from low to high, ends included", where no reason to refuse holds
module _ (b : List ℕ) (low high : ℕ) where
  pub clear_yes : NoneHolds (range_reasons b low high) → ClearOf (Among (keys_met b)) low high → range_of b low high ≡ Ok true
  unfolding pick
  clear_yes n c =
      none_accepts (λ m. Err (refusal m)) (yes_or_no b low high) (range_reasons b low high) n
      ∙ ap (λ (t : Bool). cleared (pick t 0 1)) (clear_none low high (keys_met b) c)

  pub range_between_no : NoneHolds (range_reasons b low high) → Between (Among (keys_met b)) low high → range_of b low high ≡ Ok false
  unfolding pick
  range_between_no n i =
      none_accepts (λ m. Err (refusal m)) (yes_or_no b low high) (range_reasons b low high) n
      ∙ ap (λ (t : Bool). cleared (pick t 0 1)) (between_any low high i.key (keys_met b) i.held i.from i.to)

  -- what yes and no tell
  told_range : (v : Verdict) (t : Bool) (r : Result Bool Refusal) → told (λ m. Err (refusal m)) (cleared (pick t 0 1)) v ≡ r → ((e : Refusal) → r ≡ Err e → ⊥) →
      (v ≡ accepted) × (r ≡ cleared (pick t 0 1))
  told_range accepted t r e never = (refl, sym e)
  told_range (refused m) t r e never = absurd (never (refusal m) (sym e))

  answer_tells : (r : Result Bool Refusal) → range_of b low high ≡ r → ((e : Refusal) → r ≡ Err e → ⊥) → NoneHolds (range_reasons b low high) × (r ≡ yes_or_no b low high)
  answer_tells r e never =
      let p = told_range (verdict (range_reasons b low high)) (any_within low high (keys_met b)) r (sym (tells (λ m. Err (refusal m)) (yes_or_no b low high) (range_reasons b low high)) ∙ e) never in
      (accepted_none (range_reasons b low high) p.0, p.1)

  yes_false : (t : Bool) → Ok true ≡ cleared (pick t 0 1) → t ≡ false
  unfolding pick
  yes_false true e = let z : ◌≡◌ {A = ℕ} 0 1 = cc in absurd (omega arith)
  yes_false false e = refl

  no_true : (t : Bool) → Ok false ≡ cleared (pick t 0 1) → t ≡ true
  unfolding pick
  no_true true e = refl
  no_true false e = let z : ◌≡◌ {A = ℕ} 0 1 = cc in absurd (omega arith)

  pub yes_clear : range_of b low high ≡ Ok true → NoneHolds (range_reasons b low high) × ClearOf (Among (keys_met b)) low high
  yes_clear e =
      let p = answer_tells (Ok true) e (λ d q. let z : ◌≡◌ {A = ℕ} 0 1 = cc in omega arith) in
      (p.0, none_clear low high (keys_met b) (yes_false (any_within low high (keys_met b)) p.1))

  pub no_between : range_of b low high ≡ Ok false → NoneHolds (range_reasons b low high) × Between (Among (keys_met b)) low high
  no_between e =
      let p = answer_tells (Ok false) e (λ d q. let z : ◌≡◌ {A = ℕ} 0 1 = cc in omega arith) in
      (p.0, any_between low high (keys_met b) (no_true (any_within low high (keys_met b)) p.1))
