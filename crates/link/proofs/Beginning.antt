-- Where lists of events begin: a settled state; the fresh tree is one.
use Prim.Native.Nat.{ℕ, zero, suc, ◌+◌, ◌*◌, ◌-◌, ◌≤◌, ◌<◌}
use mathlib.Core.Path.{◌≡◌, refl, sym, ap, ◌∙◌, subst}
use mathlib.Core.Bool.{true}
use mathlib.Core.List.{List, ◌++◌}
use native.Mathlib.Omega.{arith}
use native.Mathlib.Decide.{ℕ_discrete}
use lib.ListN.{length, get_or, drop, replicate, length-append, length-replicate, get_or-replicate, get_or-append}
use lib.Seq.{get_or-append-add}
use Rattle.tables.specs.Numbers.{k_stored, numbers_good, node_words, infinity}
use Rattle.tables.specs.Layout.{block_words, node_at, node_word, child_place, pending_place, over_front}
use Rattle.tables.specs.Header.{header_of}
use Rattle.tables.specs.Place.{in_node, Inside}
use Rattle.nodes.specs.Node.{image_word, internal_image}
use Rattle.fresh.specs.Fresh.{fresh_header, header_image, root_image, dummy_image, fresh_block}
use Rattle.tables.specs.declared.header.Header.{Header}
use Rattle.tables.proofs.Limits.{NumberLimits, number_limits}
use Rattle.tables.proofs.Lists.{length-listed}
use Rattle.fresh.proofs.Making.{fresh-length}
use Rattle.tables.proofs.Places.{place_below}
use Rattle.process.specs.declared.Process.{Process}
use Rattle.process.specs.Process.{idle}
use Rattle.history.specs.View.{In}
use Rattle.history.specs.Shared.{Stands}
use Rattle.history.specs.Fresh.{Fresh}
use Rattle.history.proofs.Alone.{alone_at}
use Rattle.history.proofs.Invariant.{Sound}
use Rattle.history.proofs.Fresh.{fresh_empty, fresh_sound}
use Rattle.link.specs.Tables.{tables_of}
use Rattle.link.specs.Events.{Event, State, taken, state_at, fresh_state}
use Rattle.link.specs.Sets.{Has}
use Rattle.link.proofs.Writes.{Fit}
use Rattle.link.proofs.Images.{image_tag, image_key, image_child_lem, image_pend}
use Rattle.link.proofs.Reached.{Good, idles}

-- a settled state: all processes idle, sound tables, and no record that stands. (Records may be in use, and name any process.)
pub record Settled (s : State) : Type 0 where
  pub fit : Fit (header_of s.block) s.block
  pub rows : (header_of s.block).processes ≤ length s.row
  pub idle_all : (n : ℕ) → In (header_of s.block).processes n → (taken s n).operation ≡ 0
  pub sound : Sound (header_of s.block).k (tables_of (header_of s.block) s.block)
  pub none_stands : (r : ℕ) → In (header_of s.block).recordsused r
      → ¬ Stands (tables_of (header_of s.block) s.block).view ((tables_of (header_of s.block) s.block).rec r) r

pub good_settled : {s : State} (es : List Event) → Settled s → Good s es 0
unfolding state_at
good_settled {s} es r = record {
  now = record {
    fit = r.fit;
    run = record { step = λ i l. absurd (omega arith) };
    first = r.sound;
    none_stood = r.none_stands;
    owners = λ q l u. absurd (omega arith);
  };
  rows = r.rows;
  each = λ n u. idles (r.idle_all n u);
}

zeros : (m j : ℕ) → ◌≡◌ {A = ℕ} (get_or (replicate m 0) j 0) 0
zeros zero j = refl
zeros (suc m) zero = refl
zeros (suc m) (suc j) = zeros m j

module _ (k processes nodes records : ℕ) (good : numbers_good (k_stored k) processes nodes records ≡ true) (b : List ℕ)
    (long : block_words (fresh_header k processes nodes records) ≤ length b) where
  abbrev h : Header
  h = fresh_header k processes nodes records

  abbrev B : List ℕ
  B = over_front (fresh_block h) b

  abbrev w : ℕ
  w = node_words h.k

  lim : NumberLimits h.k processes nodes records
  lim = number_limits (k_stored k) processes nodes records good

  size : length (fresh_block h) ≡ block_words h
  size = fresh-length h (omega (arith, lim))

  fit : Fit h B
  fit = record {
    header = refl;
    limits = record { numbers = lim; used_low = omega arith; used_high = lim.nodes_low; drawn_high = omega arith };
    long = rw (length-append (fresh_block h) (drop (length (fresh_block h)) b)) (omega (arith, size));
  }

  image_length : (first : ℕ) → length (internal_image h.k (replicate (h.k - 1) infinity) first 0) ≡ w
  image_length first = length-listed (image_word h.k h.k (replicate (h.k - 1) infinity) first 0) 0 w

  abbrev Z : List ℕ
  Z = replicate (block_words h - 6 - 2 * w) 0

  -- a word of the block, from its front
  front : (a : ℕ) → a < block_words h → get_or B a 0 ≡ get_or (fresh_block h) a 0
  front a l = get_or-append (fresh_block h) (drop (length (fresh_block h)) b) 0 a (rw size l)

  past_header : (a : ℕ) → get_or (fresh_block h) (6 + a) 0
      ≡ get_or (root_image h.k ++ (dummy_image h.k ++ Z)) a 0
  past_header a = get_or-append-add (header_image h) (root_image h.k ++ (dummy_image h.k ++ Z)) a 0

  past_root : (a : ℕ) → get_or (fresh_block h) (6 + (w + a)) 0 ≡ get_or (dummy_image h.k ++ Z) a 0
  past_root a =
      past_header (w + a)
      ∙ ap (λ (x : ℕ). get_or (root_image h.k ++ (dummy_image h.k ++ Z)) (x + a) 0) (sym (image_length 2))
      ∙ get_or-append-add (root_image h.k) (dummy_image h.k ++ Z) a 0

  past_dummy : (a : ℕ) → get_or (fresh_block h) (6 + (w + (w + a))) 0 ≡ 0
  past_dummy a =
      past_root (w + a)
      ∙ ap (λ (x : ℕ). get_or (dummy_image h.k ++ Z) (x + a) 0) (sym (image_length (h.k + 2)))
      ∙ get_or-append-add (dummy_image h.k) Z a 0
      ∙ zeros (block_words h - 6 - 2 * w) a

  inside : (n o : ℕ) → 1 ≤ n → n ≤ nodes → o < w → Inside h (in_node n o)
  inside n o a c l = record { from_one = a; to_last = c; within = l }

  root_word : (o : ℕ) → o < w → node_word B h 1 o ≡ get_or (root_image h.k) o 0
  root_word o l =
      front (node_at h 1 o) (place_below h (in_node 1 o) (inside 1 o (omega arith) (omega (arith, lim)) l))
      ∙ ap (λ (x : ℕ). get_or (fresh_block h) x 0) at
      ∙ past_header o
      ∙ get_or-append (root_image h.k) (dummy_image h.k ++ Z) 0 o (rw (image_length 2) l)
    where
      at : node_at h 1 o ≡ 6 + o
      at = omega arith

  dummy_word : (o : ℕ) → o < w → node_word B h 2 o ≡ get_or (dummy_image h.k) o 0
  dummy_word o l =
      front (node_at h 2 o) (place_below h (in_node 2 o) (inside 2 o (omega arith) (omega (arith, lim)) l))
      ∙ ap (λ (x : ℕ). get_or (fresh_block h) x 0) at
      ∙ past_root o
      ∙ get_or-append (dummy_image h.k) Z 0 o (rw (image_length (h.k + 2)) l)
    where
      at : node_at h 2 o ≡ 6 + (w + o)
      at = omega arith

  leaf_word : (n o : ℕ) → 3 ≤ n → n ≤ nodes → o < w → node_word B h n o ≡ 0
  leaf_word n o a c l =
      front (node_at h n o) (place_below h (in_node n o) (inside n o (omega arith) c l))
      ∙ ap (λ (x : ℕ). get_or (fresh_block h) x 0) at
      ∙ past_dummy ((n - 3) * w + o)
    where
      at : node_at h n o ≡ 6 + (w + (w + ((n - 3) * w + o)))
      at = let z : n - 1 ≡ 2 + (n - 3) = omega arith in rw z (omega arith)

  infinite : (i first : ℕ) → 1 ≤ i → i < h.k → get_or (internal_image h.k (replicate (h.k - 1) infinity) first 0) i 0 ≡ infinity
  infinite i first a c =
      image_key h.k h.k (replicate (h.k - 1) infinity) first 0 i a c ∙ get_or-replicate (h.k - 1) (i - 1) infinity 0 (omega arith)

  fresh : Fresh h.k (tables_of h B)
  fresh = record {
    nodes = refl;
    no_record = refl;
    root_tag = root_word 0 (omega arith) ∙ image_tag h.k h.k (replicate (h.k - 1) infinity) 2 0;
    dummy_tag = dummy_word 0 (omega arith) ∙ image_tag h.k h.k (replicate (h.k - 1) infinity) (h.k + 2) 0;
    leaf_tag = λ n a c. leaf_word n 0 a (omega (arith, lim)) (omega arith);
    root_keys = λ i a c. alone_at h.k _ i a c ∙ root_word i (omega arith) ∙ infinite i 2 a c;
    dummy_keys = λ i a c. alone_at h.k _ i a c ∙ dummy_word i (omega arith) ∙ infinite i (h.k + 2) a c;
    root_kids = λ j s. root_word (child_place h.k j) (omega (arith, s)) ∙ image_child_lem h.k h.k (replicate (h.k - 1) infinity) 2 0 j s refl ∙ omega (arith, s);
    dummy_kids = λ j s. dummy_word (child_place h.k j) (omega (arith, s)) ∙ image_child_lem h.k h.k (replicate (h.k - 1) infinity) (h.k + 2) 0 j s refl ∙ omega (arith, s);
    clean = λ n s. quiet n s (ℕ_discrete n 1) (ℕ_discrete n 2);
  }
    where
      quiet : (n : ℕ) → In (2 * h.k + 1) n → Dec (n ≡ 1) → Dec (n ≡ 2) → node_word B h n (pending_place h.k) ≡ 0
      quiet n s (yes e) d =
          subst (λ (x : ℕ). node_word B h x (pending_place h.k) ≡ 0) (sym e)
          (root_word (pending_place h.k) (omega arith) ∙ image_pend h.k h.k (replicate (h.k - 1) infinity) 2 0 (omega (arith, lim)))
      quiet n s (no e) (yes d) =
          subst (λ (x : ℕ). node_word B h x (pending_place h.k) ≡ 0) (sym d)
          (dummy_word (pending_place h.k) (omega arith) ∙ image_pend h.k h.k (replicate (h.k - 1) infinity) (h.k + 2) 0 (omega (arith, lim)))
      quiet n s (no e) (no d) = leaf_word n (pending_place h.k) (omega (arith, s)) (omega (arith, s, lim)) (omega arith)

  -- "The set" of it is empty
  pub fresh_none : (x : ℕ) → ¬ Has B x
  fresh_none x = fresh_empty lim.k_low fresh x

  pub fresh_settled : (row : List Process) → processes ≤ length row → Settled (fresh_state k processes nodes records b row)
  fresh_settled row l = record {
    fit = fit;
    rows = rw (length-append (replicate processes idle) (drop (length (replicate processes idle)) row), length-replicate {A = Process}) (omega arith);
    idle_all = λ n u. ap (λ (q : Process). q.operation) (at n u);
    sound = fresh_sound lim.k_low fresh;
    none_stands = λ r u. absurd (omega (arith, u.low, u.high, fresh.no_record));
  }
    where
      at : (n : ℕ) → In processes n → get_or (replicate processes idle ++ drop (length (replicate processes idle)) row) (n - 1) idle ≡ idle
      at n u =
          get_or-append (replicate processes idle) (drop (length (replicate processes idle)) row) idle (n - 1) (rw (length-replicate {A = Process}) (omega (arith, u)))
          ∙ get_or-replicate processes (n - 1) idle idle (omega (arith, u))
