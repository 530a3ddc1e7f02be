-- Read over write, once: an address has one place, so a write changes the place it names and no other. Callers cite the laws from `place_below` on.
use Prim.Native.Nat.{ℕ, zero, suc, ◌+◌, ◌*◌, ◌-◌, ◌≤◌, ◌<◌}
use mathlib.Core.Path.{◌≡◌, refl, sym, ap, ◌∙◌}
use mathlib.Core.List.{List, [], ◌∷◌}
use native.Mathlib.Omega.{arith}
use native.Mathlib.Nat.{mul-le-mul_right, add-zero}
use native.Mathlib.Decide.{dec_lt}
use lib.ListN.{length, get_or, set, length-set}
use lib.Seq.{sets, get_or-set_same, get_or-set_other}
use Rattle.tables.specs.Numbers.{header_words, node_words, record_words}
use Rattle.tables.specs.Layout.{block_words, depth_of, node_at, record_at, node_word, record_word}
use Rattle.tables.specs.Place.{Place, in_header, in_node, in_record, in_stack, place_at, OneOf, Inside}
use Rattle.tables.specs.declared.header.Header.{Header}

-- rows of w words: an address has one row and one word
module _ (w : ℕ) where
  no_less : (n m i j : ℕ) → i < w → n * w + i ≡ m * w + j → n < m → ⊥
  no_less n m i j p e q = omega (arith, mul-le-mul_right w q)

  row_one : (n m i j : ℕ) → i < w → j < w → n * w + i ≡ m * w + j → n ≡ m
  row_one n m i j p q e = go (dec_lt n m) (dec_lt m n)
    where
      go : Dec (n < m) → Dec (m < n) → n ≡ m
      go (yes a) d = absurd (no_less n m i j p e a)
      go (no a) (yes c) = absurd (no_less m n j i q (sym e) c)
      go (no a) (no c) = omega arith

-- The block is four areas of rows, one behind the other: the header is one row, then the nodes, the records, the stacks.
module _ (h : Header) where
  abbrev rows : ℕ → ℕ
  rows zero = 1
  rows (suc zero) = h.nodes
  rows (suc (suc zero)) = h.records
  rows (suc (suc (suc a))) = h.processes

  abbrev size : ℕ → ℕ
  size zero = header_words
  size (suc zero) = node_words h.k
  size (suc (suc zero)) = record_words
  size (suc (suc (suc a))) = depth_of h

  abbrev start : ℕ → ℕ
  start zero = 0
  start (suc a) = start a + rows a * size a

  later : (a b : ℕ) → a ≤ b → start a ≤ start b
  later a zero p = let z : a ≡ 0 = omega arith in rw z (omega arith)
  later a (suc b) p = go (dec_lt a (suc b)) (λ (q : a ≤ b). later a b q)
    where
      go : Dec (a < suc b) → (a ≤ b → start a ≤ start b) → start a ≤ start (suc b)
      go (yes q) up = omega (arith, up (omega arith))
      go (no q) up = let z : a ≡ suc b = omega arith in rw z (omega arith)

abbrev area_of : Place → ℕ
area_of (in_header i) = 0
area_of (in_node n o) = 1
area_of (in_record r f) = 2
area_of (in_stack q d) = 3

-- places of different areas
pub header_node : (i n o : ℕ) → in_header i ≡ in_node n o → ⊥
header_node i n o e = let z : ◌≡◌ {A = ℕ} 0 1 = ap area_of e in omega arith

pub header_record : (i r f : ℕ) → in_header i ≡ in_record r f → ⊥
header_record i r f e = let z : ◌≡◌ {A = ℕ} 0 2 = ap area_of e in omega arith

pub node_record : (n o r f : ℕ) → in_node n o ≡ in_record r f → ⊥
node_record n o r f e = let z : ◌≡◌ {A = ℕ} 1 2 = ap area_of e in omega arith

pub header_stack : (i q d : ℕ) → in_header i ≡ in_stack q d → ⊥
header_stack i q d e = let z : ◌≡◌ {A = ℕ} 0 3 = ap area_of e in omega arith

pub node_stack : (n o q d : ℕ) → in_node n o ≡ in_stack q d → ⊥
node_stack n o q d e = let z : ◌≡◌ {A = ℕ} 1 3 = ap area_of e in omega arith

pub record_stack : (r f q d : ℕ) → in_record r f ≡ in_stack q d → ⊥
record_stack r f q d e = let z : ◌≡◌ {A = ℕ} 2 3 = ap area_of e in omega arith

-- places of one area: the same row and word
pub header_word : (i j : ℕ) → in_header i ≡ in_header j → i ≡ j
header_word i j e = cc

pub node_word_lem : (n o m u : ℕ) → in_node n o ≡ in_node m u → (m ≡ n) × (u ≡ o)
node_word_lem n o m u e = (cc, cc)

pub record_row : (r f s g : ℕ) → in_record r f ≡ in_record s g → r ≡ s
record_row r f s g e = cc

pub stack_word_lem : (q d p e : ℕ) → in_stack q d ≡ in_stack p e → (p ≡ q) × (e ≡ d)
stack_word_lem q d p e z = (cc, cc)

abbrev row_of : Place → ℕ
row_of (in_header i) = 1
row_of (in_node n o) = n
row_of (in_record r f) = r
row_of (in_stack q d) = q

abbrev in_row : Place → ℕ
in_row (in_header i) = i
in_row (in_node n o) = o
in_row (in_record r f) = f
in_row (in_stack q d) = d

abbrev place_of : ℕ → ℕ → ℕ → Place
place_of zero n o = in_header o
place_of (suc zero) n o = in_node n o
place_of (suc (suc zero)) n o = in_record n o
place_of (suc (suc (suc a))) n o = in_stack n o

same_place : (x : Place) → place_of (area_of x) (row_of x) (in_row x) ≡ x
same_place (in_header i) = refl
same_place (in_node n o) = refl
same_place (in_record r f) = refl
same_place (in_stack q d) = refl

four_areas : (x : Place) → area_of x < 4
four_areas (in_header i) = omega arith
four_areas (in_node n o) = omega arith
four_areas (in_record r f) = omega arith
four_areas (in_stack q d) = omega arith

-- a place lies in its area, in its row
in_area : (h : Header) (x : Place) → Inside h x → OneOf (rows h (area_of x)) (size h (area_of x)) (row_of x) (in_row x)
in_area h (in_header i) p = record { from_one = omega arith; to_last = omega arith; within = p }
in_area h (in_node n o) p = p
in_area h (in_record r f) p = p
in_area h (in_stack q d) p = p

stands : (h : Header) (x : Place) → place_at h x ≡ start h (area_of x) + ((row_of x - 1) * size h (area_of x) + in_row x)
stands h (in_header i) = omega arith
stands h (in_node n o) = omega arith
stands h (in_record r f) = omega arith
stands h (in_stack q d) = omega arith

module _ (h : Header) (x : Place) (p : Inside h x) where
  area_from : start h (area_of x) ≤ place_at h x
  area_from = omega (arith, stands h x)

  area_to : place_at h x < start h (suc (area_of x))
  area_to =
      let i = in_area h x p in
      let l : suc (row_of x - 1) ≤ rows h (area_of x) = omega arith in
      omega (arith, stands h x, mul-le-mul_right (size h (area_of x)) l)

pub place_below : (h : Header) (x : Place) → Inside h x → place_at h x < block_words h
place_below h x p = let q : start h (suc (area_of x)) ≤ start h 4 = later h (suc (area_of x)) 4 (four_areas x) in omega (arith, area_to h x p)

module _ (h : Header) (x y : Place) (p : Inside h x) (q : Inside h y) where
  -- not in an earlier area
  not_earlier : place_at h x ≡ place_at h y → area_of x < area_of y → ⊥
  not_earlier e l = omega (arith, area_to h x p, area_from h y q, later h (suc (area_of x)) (area_of y) l)

one_area : (h : Header) (x y : Place) → Inside h x → Inside h y → place_at h x ≡ place_at h y → area_of x ≡ area_of y
one_area h x y p q e = go (dec_lt (area_of x) (area_of y)) (dec_lt (area_of y) (area_of x))
  where
    go : Dec (area_of x < area_of y) → Dec (area_of y < area_of x) → area_of x ≡ area_of y
    go (yes a) d = absurd (not_earlier h x y p q e a)
    go (no a) (yes c) = absurd (not_earlier h y x q p (sym e) c)
    go (no a) (no c) = omega arith

-- a place is its area, row and word
same_parts : (x y : Place) → area_of x ≡ area_of y → row_of x ≡ row_of y → in_row x ≡ in_row y → x ≡ y
same_parts x y a r o = sym (same_place x) ∙ rw (a, r, o) (same_place y)

pub place_one : (h : Header) (x y : Place) → Inside h x → Inside h y → place_at h x ≡ place_at h y → x ≡ y
place_one h x y p q e = same_parts x y a (omega (arith, row, i, j)) (omega (arith, parts, ap (λ (n : ℕ). n * w) row))
  where
    a : area_of x ≡ area_of y
    a = one_area h x y p q e

    w : ℕ
    w = size h (area_of x)

    i : OneOf (rows h (area_of x)) (size h (area_of x)) (row_of x) (in_row x)
    i = in_area h x p

    j : OneOf (rows h (area_of x)) (size h (area_of x)) (row_of y) (in_row y)
    j = rw a (in_area h y q)

    parts : (row_of x - 1) * w + in_row x ≡ (row_of y - 1) * w + in_row y
    parts = omega (arith, stands h x, rw (sym a) at (stands h y))

    row : row_of x - 1 ≡ row_of y - 1
    row = row_one w (row_of x - 1) (row_of y - 1) (in_row x) (in_row y) i.within j.within parts

-- one word written
module _ (h : Header) (b : List ℕ) (x : Place) (v : ℕ) (p : Inside h x) where
  pub read_same : block_words h ≤ length b → get_or (set b (place_at h x) v) (place_at h x) 0 ≡ v
  read_same l = get_or-set_same b (place_at h x) v 0 (omega (arith, place_below h x p))

  pub read_other : (y : Place) → Inside h y → (x ≡ y → ⊥) → get_or (set b (place_at h x) v) (place_at h y) 0 ≡ get_or b (place_at h y) 0
  read_other y q d = get_or-set_other b (place_at h x) (place_at h y) v 0 (λ e. d (sym (place_one h y x q p e)))

-- a run of words written from an address on
pub run_outside : (vs b : List ℕ) (at a : ℕ) → (at ≤ a → a < at + length vs → ⊥) → get_or (sets b at vs) a 0 ≡ get_or b a 0
run_outside [] b at a out = refl
run_outside (v ∷ vs) b at a out = run_outside vs (set b at v) (suc at) a (λ p q. out (omega arith) (omega arith)) ∙ get_or-set_other b at a v 0 (λ e. out (omega arith) (omega arith))

pub run_inside : (vs b : List ℕ) (at i : ℕ) → i < length vs → at + length vs ≤ length b → get_or (sets b at vs) (at + i) 0 ≡ get_or vs i 0
run_inside [] b at i p l = absurd (omega arith)
run_inside (v ∷ vs) b at zero p l = rw add-zero (run_outside vs (set b at v) (suc at) at (λ q r. omega arith) ∙ get_or-set_same b at v 0 (omega arith))
run_inside (v ∷ vs) b at (suc i) p l =
    let e : at + suc i ≡ suc at + i = omega arith in
    rw e (run_inside vs (set b at v) (suc at) i (omega arith) (rw length-set (omega arith)))

-- the same where the run is the words of one row, place after place
module _ (h : Header) (b vs : List ℕ) (at : ℕ) (row : ℕ → Place) (stand : (i : ℕ) → place_at h (row i) ≡ at + i) (all : (i : ℕ) → i < length vs → Inside h (row i)) where
  row_same : (i : ℕ) → i < length vs → block_words h ≤ length b → get_or (sets b at vs) (place_at h (row i)) 0 ≡ get_or vs i 0
  row_same i p l =
      let last : ℕ = length vs - 1 in
      let end : at + length vs ≤ length b = omega (arith, stand last, place_below h (row last) (all last (omega arith))) in
      rw (stand i) (run_inside vs b at i p end)

  row_other : (y : Place) → Inside h y → ((i : ℕ) → row i ≡ y → ⊥) → get_or (sets b at vs) (place_at h y) 0 ≡ get_or b (place_at h y) 0
  row_other y q d =
      let i : ℕ = place_at h y - at in
      run_outside vs b at (place_at h y) (λ from to. d i (place_one h (row i) y (all i (omega arith)) q (omega (arith, stand i))))

-- a whole node written
module _ (h : Header) (b image : List ℕ) (n : ℕ) (long : length image ≡ node_words h.k) (low : 1 ≤ n) (high : n ≤ h.nodes) where
  node_all : (o : ℕ) → o < length image → Inside h (in_node n o)
  node_all o p = record { from_one = low; to_last = high; within = rw long at p }

  pub node_same : (o : ℕ) → o < node_words h.k → block_words h ≤ length b → node_word (sets b (node_at h n 0) image) h n o ≡ get_or image o 0
  node_same o p l = row_same h b image (node_at h n 0) (in_node n) (λ i. omega arith) node_all o (rw long p) l

  pub node_other : (y : Place) → Inside h y → ((o : ℕ) → in_node n o ≡ y → ⊥) → get_or (sets b (node_at h n 0) image) (place_at h y) 0 ≡ get_or b (place_at h y) 0
  node_other y q d = row_other h b image (node_at h n 0) (in_node n) (λ i. omega arith) node_all y q d

-- a whole record written
module _ (h : Header) (b fields : List ℕ) (r : ℕ) (long : length fields ≡ record_words) (low : 1 ≤ r) (high : r ≤ h.records) where
  record_all : (f : ℕ) → f < length fields → Inside h (in_record r f)
  record_all f p = record { from_one = low; to_last = high; within = rw long at p }

  pub record_same : (f : ℕ) → f < record_words → block_words h ≤ length b → record_word (sets b (record_at h r 0) fields) h r f ≡ get_or fields f 0
  record_same f p l = row_same h b fields (record_at h r 0) (in_record r) (λ i. omega arith) record_all f (rw long p) l

  pub record_other : (y : Place) → Inside h y → ((f : ℕ) → in_record r f ≡ y → ⊥) → get_or (sets b (record_at h r 0) fields) (place_at h y) 0 ≡ get_or b (place_at h y) 0
  record_other y q d = row_other h b fields (record_at h r 0) (in_record r) (λ i. omega arith) record_all y q d
