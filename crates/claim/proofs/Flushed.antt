-- A clear range and an empty listing, in the driver's words, from the claim alone.
use Prim.Native.Nat.{ℕ, suc, ◌+◌, ◌-◌, ◌≤◌, ◌<◌}
use mathlib.Core.Path.{◌≡◌, refl, sym, ap, ◌∙◌, subst}
use mathlib.Core.List.Memᴰ
use mathlib.Core.List.{List, [], ◌∷◌, Memᴰ}
use native.Mathlib.Omega.{arith}
use native.Mathlib.Decide.{dec_le}
use lib.ListN.{length}
use Rattle.std.specs.Prelude.{Bool, true, false, Result, Ok, Err}
use Rattle.tables.specs.Numbers.{infinity}
use Rattle.tables.specs.declared.numbers.Refusal.{Refusal}
use Rattle.tables.specs.declared.numbers.Refusal.TheVariants.{ListTooShort}
use Rattle.walk.specs.Calls.{ListOut, list_of, range_of}
use Rattle.link.specs.Events.{Event, State, block_at}
use Rattle.link.specs.Sets.{InSet}
use Rattle.claim.proofs.Kept.{taken_between, swap_puts}
use Rattle.claim.specs.Claim.{Claim, SwapOf, Listing, Range, clear, met}
use Rattle.claim.specs.Kept.{Deleted}
use Rattle.claim.specs.Flushed.{TakenOut, Flushed}

module _ {s : State} {es : List Event} (claim : Claim s es) where
  flushed : (m low high : ℕ) → ((x : ℕ) → low ≤ x → x ≤ high → ¬ InSet s es m x) → Flushed s es m low high
  flushed m low high none i x a c p = put (claim.yes i p.answer p.n 2 x p.count p.started p.busy p.answered (λ e. omega arith))
    where
      put : (t : ℕ) × SwapOf s es t i × (i < t) × (t < p.answer) → TakenOut s es m i x
      put w = from (taken_between claim (m - suc w.0) (suc w.0) x (swap_puts claim w.0 i p.n x p.started w.1) (λ v. none x a c (subst (λ (t : ℕ). InSet s es t x) up v)))
        where
          up : suc w.0 + (m - suc w.0) ≡ m
          up = omega (arith, w.3, p.before)

          from : (t : ℕ) × Deleted s es t x × (suc w.0 ≤ t) × (t < suc w.0 + (m - suc w.0)) → TakenOut s es m i x
          from z = record {
            when = w.0;
            swap = w.1;
            later = z.0;
            deleted = z.1;
            after = omega (arith, z.2);
            before = omega (arith, z.3, up);
          }

  -- "if range says clear"
  pub range_clear : (m low high : ℕ) → low ≤ high → high < infinity → range_of (block_at s es m) low high ≡ Ok true → Flushed s es m low high
  range_clear m low high a c e = go (claim.range m low high a c)
    where
      go : Range s es m low high → Flushed s es m low high
      go (clear f none) = flushed m low high none
      go (met f x) = absurd (let z : ◌≡◌ {A = Result Bool Refusal} (Ok true) (Ok false) = sym e ∙ f in let v : ◌≡◌ {A = ℕ} 0 1 = cc in omega arith)

  -- "or the listing is empty"
  pub listing_empty : (m : ℕ) (list : List ℕ) → (list_of (block_at s es m) list).listed ≡ Ok 0 → Flushed s es m 0 infinity
  listing_empty m list e = go (claim.listing m).keys refl (dec_le (length (claim.listing m).keys) (length list))
    where
      full : Listing s es m
      full = claim.listing m

      go : (ks : List ℕ) → full.keys ≡ ks → Dec (length full.keys ≤ length list) → Flushed s es m 0 infinity
      go [] z (yes l) = flushed m 0 infinity (λ x a c h. Memᴰ.not-nil (subst (λ (v : List ℕ). Memᴰ x v) z ((full.set.exact x).1 h)))
      go (y ∷ ys) z (yes l) =
          let n : ◌≡◌ {A = Result ℕ Refusal} (Ok (length full.keys)) (Ok 0) = sym (ap (λ (o : ListOut). o.listed) (full.call list l)) ∙ e in
          let v : length full.keys ≡ 0 = cc in
          let w : length full.keys ≡ suc (length ys) = ap length z in absurd (omega arith)
      go ks z (no l) =
          let n : ◌≡◌ {A = Result ℕ Refusal} (Err ListTooShort) (Ok 0) = sym (ap (λ (o : ListOut). o.listed) (full.short list (omega arith))) ∙ e in
          let v : ◌≡◌ {A = ℕ} 0 1 = cc in absurd (omega arith)
