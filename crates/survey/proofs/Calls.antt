-- Listing, its twin and range on a block that fits its header and is sound: what they answer, and that nothing else refuses them.
use Prim.Native.Nat.{ℕ, ◌≤◌, ◌<◌}
use mathlib.Core.Path.{◌≡◌, refl, sym, ap, ◌∙◌}
use mathlib.Core.Logic.{◌≢◌, ◌⊎◌, inl, inr, ◌↔◌}
use mathlib.Core.Bool.{Bool, true, false, not}
use mathlib.Core.List.{List, [], ◌∷◌, ◌++◌}
use native.Mathlib.Omega.{arith}
use native.Mathlib.Decide.{ℕ_discrete, dec_lt}
use lib.Dec.{ltb, eqb}
use lib.ListN.{length}
use borrow.Author.Tests.{lt-ltb, le-ltb, eq-eqb, ne_eqb}
use Rattle.std.specs.Prelude.{Result, Ok, Err}
use Rattle.tables.specs.Choice.{pick, Reason, reason, NoneHolds, none, nor, First, either}
use Rattle.tables.specs.Numbers.{infinity}
use Rattle.tables.specs.Layout.{block_words, over_front}
use Rattle.tables.specs.Header.{header_of, block_reasons}
use Rattle.tables.specs.declared.header.Header.{Header}
use Rattle.tables.specs.declared.numbers.Refusal.{Refusal}
use Rattle.tables.specs.declared.numbers.Refusal.TheVariants.{ListTooShort, InfinityGiven, LowAboveHigh}
use Rattle.tables.proofs.Picks.{either_some}
use Rattle.tables.proofs.OneToOne.{none_accepts, first_refuses}
use Rattle.meter.specs.Walk.{walked}
use Rattle.meter.specs.Measure.{any_within}
use Rattle.walk.specs.Calls.{keys_met, list_rest, list_reasons, ListOut, list_out, list_of, part_of, ClearOf, Between, range_rest, range_reasons, range_of}
use Rattle.walk.proofs.Answers.{one_refusal, list_first_says, list_counts, range_first_says, Among, any_between, none_clear, clear_yes, range_between_no, yes_clear, no_between}
use Rattle.history.proofs.Invariant.{Sound}
use Rattle.link.specs.Tables.{tables_of}
use Rattle.link.specs.Sets.{Has}
use Rattle.link.proofs.Writes.{Fit}
use Rattle.link.proofs.Calls.{limits_good}
use Rattle.survey.specs.Set.{Lists}
use Rattle.survey.proofs.Walks.{walk_sound, walk_keys, walk_rises}

-- an answer is one thing
list_apart : (n : ℕ) (e : Refusal) (xs ys : List ℕ) → list_out (Ok n) xs ≡ list_out (Err e) ys → ⊥
list_apart n e xs ys q = let z : ◌≡◌ {A = ℕ} 0 1 = apart (ap (λ (o : ListOut). o.listed) q) in omega arith
  where
    apart : ◌≡◌ {A = Result ℕ Refusal} (Ok n) (Err e) → ◌≡◌ {A = ℕ} 0 1
    apart q = cc

list_same : (d e : Refusal) (xs : List ℕ) → list_out (Err d) xs ≡ list_out (Err e) xs → e ≡ d
list_same d e xs q = sym (one_refusal d e (ap (λ (o : ListOut). o.listed) q))

neither : {s t : Bool} → s ≡ false → t ≡ false → either s t ≡ false
unfolding pick
neither {s} {t} e f = rw (e, f) refl

module _ {b : List ℕ} (fit : Fit (header_of b) b) (I : Sound (header_of b).k (tables_of (header_of b) b)) where
  abbrev h : Header
  h = header_of b

  -- no reason of the block holds
  pub block_fine : (rs : List Reason) → NoneHolds rs → NoneHolds (block_reasons b ++ rs)
  block_fine rs n =
      nor (le-ltb (length b) 6 (omega (arith, fit.long)))
      (nor (ap not (limits_good fit.limits)) (nor (le-ltb (length b) (block_words h) fit.long) n))

  unharmed : not (walked b h).sound ≡ false
  unharmed = ap not (walk_sound fit I)

  -- the keys met list the set
  pub keys_list : Lists b (keys_met b)
  keys_list = record { exact = walk_keys fit I; ascending = walk_rises fit I }

  -- the listing
  module _ (list : List ℕ) where
    list_fine : length (keys_met b) ≤ length list → NoneHolds (list_reasons b (length list))
    list_fine l = block_fine (list_rest b h (length list)) (nor unharmed (nor (le-ltb (length list) (length (keys_met b)) l) none))

    pub list_answers : length (keys_met b) ≤ length list → list_of b list ≡ list_out (Ok (length (keys_met b))) (over_front (keys_met b) list)
    list_answers l = list_counts b list (list_fine l)

    short : length list < length (keys_met b) → First 9 (list_reasons b (length list))
    short l = record {
      before = block_reasons b ++ reason 3 (not (walked b h).sound) ∷ [];
      this = reason 9 (ltb (length list) (length (keys_met b)));
      after = [];
      split = refl;
      not_before = block_fine (reason 3 (not (walked b h).sound) ∷ []) (nor unharmed none);
      holds = lt-ltb (length list) (length (keys_met b)) l;
      number = refl;
    }

    pub list_too_short : length list < length (keys_met b) → list_of b list ≡ list_out (Err ListTooShort) list
    list_too_short l = list_first_says b list ListTooShort (short l)

    -- refused only 9, and only where the list is too short
    pub list_refuses : (e : Refusal) → (list_of b list ≡ list_out (Err e) list) ↔ ((e ≡ ListTooShort) × (length list < length (keys_met b)))
    list_refuses e = (λ q. go q (dec_lt (length list) (length (keys_met b))), λ p. list_too_short p.1 ∙ ap (λ (d : Refusal). list_out (Err d) list) (sym p.0))
      where
        go : list_of b list ≡ list_out (Err e) list → Dec (length list < length (keys_met b)) → (e ≡ ListTooShort) × (length list < length (keys_met b))
        go q (yes l) = (list_same ListTooShort e list (sym (list_too_short l) ∙ q), l)
        go q (no l) = absurd (list_apart (length (keys_met b)) e (over_front (keys_met b) list) list (sym (list_answers (omega arith)) ∙ q))

    -- the twin hands back the keys
    pub part_answers : length (keys_met b) ≤ length list → part_of b list ≡ keys_met b
    part_answers l = none_accepts (λ n. []) (keys_met b) (list_reasons b (length list)) (list_fine l)

    -- "empty if refused"
    pub part_too_short : length list < length (keys_met b) → part_of b list ≡ []
    part_too_short l = first_refuses (λ n. []) (keys_met b) 9 (list_reasons b (length list)) (short l)

  -- range
  module _ (low high : ℕ) where
    pub range_infinite : (low ≡ infinity) ⊎ (high ≡ infinity) → range_of b low high ≡ Err InfinityGiven
    range_infinite i = range_first_says b low high InfinityGiven (record {
      before = block_reasons b;
      this = reason 6 (either (eqb low infinity) (eqb high infinity));
      after = reason 10 (ltb high low) ∷ reason 3 (not (walked b h).sound) ∷ [];
      split = refl;
      not_before = block_fine [] none;
      holds = go i;
      number = refl;
    })
      where
        go : (low ≡ infinity) ⊎ (high ≡ infinity) → either (eqb low infinity) (eqb high infinity) ≡ true
        go (inl e) = either_some (eqb low infinity) (eqb high infinity) (inl (eq-eqb low infinity e))
        go (inr e) = either_some (eqb low infinity) (eqb high infinity) (inr (eq-eqb high infinity e))

    module _ (p : low ≢ infinity) (q : high ≢ infinity) where
      finite : either (eqb low infinity) (eqb high infinity) ≡ false
      finite = neither (ne_eqb low infinity p) (ne_eqb high infinity q)

      pub range_above : high < low → range_of b low high ≡ Err LowAboveHigh
      range_above l = range_first_says b low high LowAboveHigh (record {
        before = block_reasons b ++ reason 6 (either (eqb low infinity) (eqb high infinity)) ∷ [];
        this = reason 10 (ltb high low);
        after = reason 3 (not (walked b h).sound) ∷ [];
        split = refl;
        not_before = block_fine (reason 6 (either (eqb low infinity) (eqb high infinity)) ∷ []) (nor finite none);
        holds = lt-ltb high low l;
        number = refl;
      })

      module _ (l : low ≤ high) where
        range_fine : NoneHolds (range_reasons b low high)
        range_fine = block_fine (range_rest b h low high) (nor finite (nor (le-ltb high low l) (nor unharmed none)))

        pub range_yes : (range_of b low high ≡ Ok true) ↔ ClearOf (Has b) low high
        range_yes = (λ e x u v s. (yes_clear b low high e).1 x u v ((walk_keys fit I x).1 s), λ c. clear_yes b low high range_fine (λ x u v m. c x u v ((walk_keys fit I x).0 m)))

        pub range_no : (range_of b low high ≡ Ok false) ↔ Between (Has b) low high
        range_no = (λ e. out (no_between b low high e).1, λ i. range_between_no b low high range_fine (into i))
          where
            out : Between (Among (keys_met b)) low high → Between (Has b) low high
            out i = record { key = i.key; held = (walk_keys fit I i.key).0 i.held; from = i.from; to = i.to }

            into : Between (Has b) low high → Between (Among (keys_met b)) low high
            into i = record { key = i.key; held = (walk_keys fit I i.key).1 i.held; from = i.from; to = i.to }

        pub range_answers : (range_of b low high ≡ Ok true) ⊎ (range_of b low high ≡ Ok false)
        range_answers = go (any_within low high (keys_met b)) refl
          where
            go : (t : Bool) → any_within low high (keys_met b) ≡ t → (range_of b low high ≡ Ok true) ⊎ (range_of b low high ≡ Ok false)
            go true e = inr (range_between_no b low high range_fine (any_between low high (keys_met b) e))
            go false e = inl (clear_yes b low high range_fine (none_clear low high (keys_met b) e))

    -- refused only 6, for an end that is infinity, and 10, for low above high
    pub range_refuses : (e : Refusal) → range_of b low high ≡ Err e
        → ((e ≡ InfinityGiven) × ((low ≡ infinity) ⊎ (high ≡ infinity))) ⊎ ((e ≡ LowAboveHigh) × (high < low))
    range_refuses e z = go (ℕ_discrete low infinity) (ℕ_discrete high infinity) (dec_lt high low)
      where
        infinite : (low ≡ infinity) ⊎ (high ≡ infinity) → ((e ≡ InfinityGiven) × ((low ≡ infinity) ⊎ (high ≡ infinity))) ⊎ ((e ≡ LowAboveHigh) × (high < low))
        infinite i = inl (sym (one_refusal InfinityGiven e (sym (range_infinite i) ∙ z)), i)

        never : (range_of b low high ≡ Ok true) ⊎ (range_of b low high ≡ Ok false) → ⊥
        never (inl y) = let v : ◌≡◌ {A = Result Bool Refusal} (Ok true) (Err e) = sym y ∙ z in let n : ◌≡◌ {A = ℕ} 0 1 = cc in omega arith
        never (inr y) = let v : ◌≡◌ {A = Result Bool Refusal} (Ok false) (Err e) = sym y ∙ z in let n : ◌≡◌ {A = ℕ} 0 1 = cc in omega arith

        go : Dec (low ≡ infinity) → Dec (high ≡ infinity) → Dec (high < low) → ((e ≡ InfinityGiven) × ((low ≡ infinity) ⊎ (high ≡ infinity))) ⊎ ((e ≡ LowAboveHigh) × (high < low))
        go (yes p) d l = infinite (inl p)
        go (no p) (yes q) l = infinite (inr q)
        go (no p) (no q) (yes l) = inr (sym (one_refusal LowAboveHigh e (sym (range_above p q l) ∙ z)), l)
        go (no p) (no q) (no l) = absurd (never (range_answers p q (omega arith)))
