-- What a good header says of its numbers, and the header's reading, return by return.
use Prim.Native.Nat.{ℕ, ◌+◌, ◌*◌, ◌-◌, ◌/◌, ◌≤◌, ◌<◌}
use mathlib.Core.Path.{◌≡◌, refl, sym, ap, ◌∙◌}
use mathlib.Core.Bool.{Bool, true, false, not}
use mathlib.Core.List.{List}
use native.Mathlib.Omega.{arith}
use native.Mathlib.Nat.{div-zero, zero-div}
use borrow.Author.Tests.{leb-true, not-false, lt-ltb, le-ltb}
use mir.Val.{Fits}
use mir.Syntax.{w8, w16}
use lib.Dec.{leb, ltb}
use lib.ListN.{length}
use Rattle.std.specs.Prelude.{Ok, Err}
use Rattle.tables.specs.Choice.{pick, both, within, decide}
use Rattle.tables.specs.Numbers.{lowest_k, highest_k, most_processes, most_nodes, fresh_nodes, header_words, most_records, numbers_good}
use Rattle.tables.specs.Layout.{block_words}
use Rattle.tables.specs.Refusal.{refusal}
use Rattle.tables.specs.Header.{header_of, header_good, block_reasons, header_refused, header_read}
use Rattle.tables.specs.declared.header.Header.{Header}
use Rattle.tables.specs.declared.numbers.Refusal.{Refusal}
use Rattle.tables.specs.declared.numbers.Refusal.TheVariants.{TooShort, Damaged}
use Rattle.tables.proofs.Picks.{both_1, both_2, within_low, within_high}

pub record NumberLimits (k processes nodes records : ℕ) : Type 0 where
  pub k_low : 2 ≤ k
  pub k_high : k ≤ 8
  pub processes_low : 1 ≤ processes
  pub processes_high : processes ≤ 32
  pub nodes_low : 2 * k + 1 ≤ nodes
  pub nodes_high : nodes ≤ 4096
  pub records_low : 1 ≤ records
  pub records_high : records ≤ 4096

pub number_limits : (k processes nodes records : ℕ) → numbers_good k processes nodes records ≡ true → NumberLimits k processes nodes records
unfolding numbers_good
number_limits k p n r e =
    let e1 = both_2 _ _ e in
    let e2 = both_2 _ _ e1 in
    let w0 = both_1 _ _ e in
    let w1 = both_1 _ _ e1 in
    let w2 = both_1 _ _ e2 in
    let w3 = both_2 _ _ e2 in
    record {
      k_low = within_low _ _ _ w0;
      k_high = within_high _ _ _ w0;
      processes_low = within_low _ _ _ w1;
      processes_high = within_high _ _ _ w1;
      nodes_low = within_low _ _ _ w2;
      nodes_high = within_high _ _ _ w2;
      records_low = within_low _ _ _ w3;
      records_high = within_high _ _ _ w3;
    }

-- the tests as the code makes them, one after the other
module _ (k p n r : ℕ) (a b c d cd bcd t : Bool) (f : ℕ) where
  pub numbers_by : a ≡ within lowest_k k highest_k → b ≡ within 1 p most_processes → f ≡ fresh_nodes k → c ≡ within f n most_nodes → d ≡ within 1 r most_records → cd ≡ both c d → bcd ≡ both b cd → t ≡ both a bcd →
      t ≡ numbers_good k p n r
  unfolding numbers_good
  numbers_by e1 e2 e3 e4 e5 e6 e7 e8 = cc

module _ (h : Header) (a b c bc t : Bool) (f : ℕ) where
  pub header_by : a ≡ numbers_good h.k h.processes h.nodes h.records → f ≡ fresh_nodes h.k → b ≡ within f h.nodesused h.nodes → c ≡ leb h.recordsused h.records →
      bc ≡ both b c → t ≡ both a bc → t ≡ header_good h
  unfolding header_good
  header_by e1 e2 e3 e4 e5 e6 = cc

-- a header whose values are within their limits
pub record Limits (h : Header) : Type 0 where
  pub numbers : NumberLimits h.k h.processes h.nodes h.records
  pub used_low : 2 * h.k + 1 ≤ h.nodesused
  pub used_high : h.nodesused ≤ h.nodes
  pub drawn_high : h.recordsused ≤ h.records

pub limits : (h : Header) → header_good h ≡ true → Limits h
unfolding header_good
limits h e =
    let e1 = both_2 _ _ e in
    let w = both_1 _ _ e1 in
    record {
      numbers = number_limits _ _ _ _ (both_1 _ _ e);
      used_low = within_low _ _ _ w;
      used_high = within_high _ _ _ w;
      drawn_high = leb-true _ _ (both_2 _ _ e1);
    }

-- the narrow fields hold what the words hold
module _ (h : Header) (t : Bool) (e : t ≡ header_good h) (y : t ≡ true) where
  the_limits : Limits h
  the_limits = limits h (sym e ∙ y)

  pub k_fits : Fits w8 h.k
  k_fits = record { fits = omega (arith, the_limits) }

  pub processes_fits : Fits w8 h.processes
  processes_fits = record { fits = omega (arith, the_limits) }

  pub nodes_fits : Fits w16 h.nodes
  nodes_fits = record { fits = omega (arith, the_limits) }

  pub nodesused_fits : Fits w16 h.nodesused
  nodesused_fits = record { fits = omega (arith, the_limits) }

  pub records_fits : Fits w16 h.records
  records_fits = record { fits = omega (arith, the_limits) }

  pub recordsused_fits : Fits w16 h.recordsused
  recordsused_fits = record { fits = omega (arith, the_limits) }

pub read_short : (b : List ℕ) → length b < 6 → Err TooShort ≡ header_read b
unfolding pick
read_short b p = cc (lt-ltb (length b) 6 p)

module _ (b : List ℕ) (t : Bool) (long : 6 ≤ length b) (e : t ≡ header_good (header_of b)) where
  pub read_bad : t ≡ false → Err Damaged ≡ header_read b
  unfolding pick
  read_bad f = cc (le-ltb (length b) 6 long)

  pub read_cut : (w : ℕ) → t ≡ true → w ≡ block_words (header_of b) → length b < w → Err TooShort ≡ header_read b
  unfolding pick
  read_cut w f g p = cc (le-ltb (length b) 6 long, lt-ltb (length b) w p)

  pub read_good : (w : ℕ) → t ≡ true → w ≡ block_words (header_of b) → w ≤ length b → Ok (header_of b) ≡ header_read b
  unfolding pick
  read_good w f g p = cc (le-ltb (length b) 6 long, le-ltb (length b) w p)

-- what a call does with a header that it has read: a refusal passes on, a good header is that of the block, and the call's own reasons follow
good_tests : (t u v : Bool) (g h : Header) → pick t (header_refused 2) (pick u (header_refused 3) (pick v (header_refused 2) (Ok g))) ≡ Ok h →
    (t ≡ false) × (u ≡ false) × (v ≡ false) × (g ≡ h)
unfolding pick
good_tests true u v g h e = let z : ◌≡◌ {A = ℕ} 0 1 = cc in absurd (omega arith)
good_tests false true v g h e = let z : ◌≡◌ {A = ℕ} 0 1 = cc in absurd (omega arith)
good_tests false false true g h e = let z : ◌≡◌ {A = ℕ} 0 1 = cc in absurd (omega arith)
good_tests false false false g h e = (refl, refl, refl, cc)

block_tests : (b : List ℕ) (h : Header) → header_read b ≡ Ok h →
    (ltb (length b) header_words ≡ false) × (not (header_good (header_of b)) ≡ false) × (ltb (length b) (block_words (header_of b)) ≡ false) × (header_of b ≡ h)
block_tests b h e =
    good_tests (ltb (length b) header_words) (not (header_good (header_of b))) (ltb (length b) (block_words (header_of b))) (header_of b) h e

pub read_header : (b : List ℕ) (h : Header) → header_read b ≡ Ok h → header_of b ≡ h
read_header b h e = (block_tests b h e).3

pub read_limits : (b : List ℕ) (h : Header) → header_read b ≡ Ok h → header_good h ≡ true
read_limits b h e = ap header_good (sym (read_header b h e)) ∙ not-false (header_good (header_of b)) (block_tests b h e).1

module _ {A : Type 0} (say : Refusal → A) (accepting : A) (b : List ℕ) where
  refused_on : (t u v : Bool) (g : Header) (e : Refusal) → pick t (header_refused 2) (pick u (header_refused 3) (pick v (header_refused 2) (Ok g))) ≡ Err e →
      say e ≡ pick t (say (refusal 2)) (pick u (say (refusal 3)) (pick v (say (refusal 2)) accepting))
  unfolding pick
  refused_on true u v g e f = ap say (let z : e ≡ refusal 2 = cc in z)
  refused_on false true v g e f = ap say (let z : e ≡ refusal 3 = cc in z)
  refused_on false false true g e f = ap say (let z : e ≡ refusal 2 = cc in z)
  refused_on false false false g e f = let z : ◌≡◌ {A = ℕ} 0 1 = cc in absurd (omega arith)

  pub read_refuses : (e : Refusal) → header_read b ≡ Err e → say e ≡ decide (block_reasons b) (λ n. say (refusal n)) accepting
  read_refuses e f = refused_on _ _ _ _ e f

  pub read_accepts : (h : Header) → header_read b ≡ Ok h → accepting ≡ decide (block_reasons b) (λ n. say (refusal n)) accepting
  unfolding pick
  read_accepts h f = let z = block_tests b h f in rw (z.0, z.1, z.2) refl
