-- Demand 3: what holds of every list of starts and steps from a state, at every moment of it. One field for each clause.
-- Moment m is before event m and after all events before it. The words that it is said in: link/specs (Events, Operations, Swaps, Sets),
-- survey/specs (Set) and history/specs (View: the tree and the set; Effects: what changes).
use Rattle.std.specs.Prelude.{ℕ, suc, ◌+◌, ◌*◌, ◌≤◌, ◌<◌, ◌≡◌, ◌≢◌, ◌↔◌, length, get_or, true, false, Ok, Err}
use mathlib.Core.List.{List, [], Memᴰ}
use Rattle.tables.specs.Numbers.{infinity}
use Rattle.tables.specs.Refusal.{number_of}
use Rattle.tables.specs.Header.{header_of}
use Rattle.tables.specs.Layout.{block_words, over_front}
use Rattle.tables.specs.declared.header.Header.{Header}
use Rattle.tables.specs.declared.numbers.Refusal.{Refusal}
use Rattle.tables.specs.declared.numbers.Refusal.TheVariants.{ListTooShort}
use Rattle.process.specs.declared.Process.{Process}
use Rattle.process.specs.declared.Answer.{Answer}
use Rattle.process.specs.declared.Answer.TheVariants.{No, Yes, Full}
use Rattle.make.specs.Make.{make_call}
use Rattle.walk.specs.Calls.{list_out, list_of, part_of, ClearOf, Between, range_of}
use Rattle.history.specs.View.{In, route, keys, Reach, Below}
use Rattle.history.specs.Shared.{Shared}
use Rattle.history.specs.Effects.{Added, Removed, Swapped, Grown}
use Rattle.history.specs.Run.{Moment}
use Rattle.link.specs.Events.{Event, State, taken, start_in, step_in, state_at, block_at, header_at, steps_at, capped}
use Rattle.link.specs.Swaps.{ChildSwap}
use Rattle.link.specs.Operations.{Started, BusyWith, Draws, OperationOf, Answered, NoStep, NoStart}
use Rattle.link.specs.Sets.{tables_at, view_at, InSet}
use Rattle.survey.specs.Set.{Lists}

-- what listing and its twin return at a moment: the set, strictly ascending; refused 9 for a list that is too short, and not otherwise; the twin's part is then empty
pub record Listing (s : State) (es : List Event) (m : ℕ) : Type 0 where
  pub keys : List ℕ
  pub set : Lists (block_at s es m) keys
  pub call : (list : List ℕ) → length keys ≤ length list → list_of (block_at s es m) list ≡ list_out (Ok (length keys)) (over_front keys list)
  pub twin : (list : List ℕ) → length keys ≤ length list → part_of (block_at s es m) list ≡ keys
  pub short : (list : List ℕ) → length list < length keys → list_of (block_at s es m) list ≡ list_out (Err ListTooShort) list
  pub short_twin : (list : List ℕ) → length list < length keys → part_of (block_at s es m) list ≡ []

-- what range answers at a moment: yes, and no key of the set lies from low to high; or no, and one does
pub data Range (s : State) (es : List Event) (m low high : ℕ) : Type 0 where
  clear : range_of (block_at s es m) low high ≡ Ok true → ClearOf (InSet s es m) low high → Range s es m low high
  met : range_of (block_at s es m) low high ≡ Ok false → Between (InSet s es m) low high → Range s es m low high

-- what event m does to the set, for the operation that event i started: its key is put in by an insert, taken out by a delete
pub data Changes (s : State) (es : List Event) (m i : ℕ) : Type 0 where
  put_in : (n x : ℕ) → Started s es i n 2 x → Added (InSet s es m) (InSet s es (suc m)) x → Changes s es m i
  taken_out : (n x : ℕ) → Started s es i n 3 x → Removed (InSet s es m) (InSet s es (suc m)) x → Changes s es m i

-- the child swap of the operation that event i started
pub record SwapOf (s : State) (es : List Event) (m i : ℕ) : Type 0 where
  pub r : ℕ
  pub swap : ChildSwap s es m r
  pub operation : OperationOf s es r i

-- "4·record + kind": the one pending word that a draw writes, of a node in use; it was clean
pub record Flagged (S S' : Shared) (node word : ℕ) : Type 0 where
  pub used : In S.nodes node
  pub seen : ℕ
  pub was : S.view.pend node ≡ 4 * seen
  pub is : S'.view.pend node ≡ word
  pub rest_same : (n : ℕ) → In S.nodes n → n ≢ node → S'.view.pend n ≡ S.view.pend n

-- a replace is drawn: p's pending is its flag, and the new child is the next free node
pub record Replaces (S S' : Shared) (r : ℕ) : Type 0 where
  pub next : r ≡ S.records + 1
  pub counted : S'.records ≡ r
  pub kind : (S'.rec r).kind ≡ 1
  pub new_child : (S'.rec r).third ≡ S.nodes + 1
  pub flag : Flagged S S' (S'.rec r).p (4 * r + 1)

-- a prune is drawn: gp's pending is its flag
pub record Prunes (S S' : Shared) (r : ℕ) : Type 0 where
  pub next : r ≡ S.records + 1
  pub counted : S'.records ≡ r
  pub kind : (S'.rec r).kind ≡ 2
  pub flag : Flagged S S' (S'.rec r).third (4 * r + 2)

-- what an event draws, in the next free numbers: nothing; a replace and a leaf; a replace, an internal node and its k leaves; a prune alone
pub data Drawing (k : ℕ) (S S' : Shared) : Type 0 where
  nothing : S'.records ≡ S.records → S'.nodes ≡ S.nodes → Drawing k S S'
  a_leaf : (r : ℕ) → Replaces S S' r → S'.nodes ≡ S.nodes + 1 → Drawing k S S'
  a_sprout : (r : ℕ) → Replaces S S' r → S'.nodes ≡ S.nodes + (k + 1) → ((j : ℕ) → In k j → S'.view.child (S.nodes + 1) j ≡ S.nodes + 1 + j) → Drawing k S S'
  a_prune : (r : ℕ) → Prunes S S' r → S'.nodes ≡ S.nodes → Drawing k S S'

-- "process, operation, key": those of the accepted start that drew the record
pub record DrawnFor (s : State) (es : List Event) (m n r : ℕ) : Type 0 where
  pub begin : ℕ
  pub operation : ℕ
  pub key : ℕ
  pub started : Started s es begin n operation key
  pub busy : BusyWith s es m n begin
  pub its_process : ((tables_at s es (suc m)).rec r).process ≡ n
  pub its_operation : ((tables_at s es (suc m)).rec r).operation ≡ operation
  pub its_key : ((tables_at s es (suc m)).rec r).key ≡ key

-- "k, processes, node limit, .. record limit"
pub record SameLimits (h h' : Header) : Type 0 where
  pub k_same : h'.k ≡ h.k
  pub processes_same : h'.processes ≡ h.processes
  pub nodes_same : h'.nodes ≡ h.nodes
  pub records_same : h'.records ≡ h.records

pub record Claim (s : State) (es : List Event) : Type 0 where
  -- 1. No start is refused but by 4 to 7 and no step but by 4 or 8, and each only for its reason: whatever the others have done, none is damaged (3)
  pub start_refused : (m n operation key : ℕ) (e : Refusal) → (start_in (state_at s es m) n operation key).answer ≡ Err e
      → NoStart (state_at s es m) n operation key (number_of e)
  pub step_refused : (m n : ℕ) (e : Refusal) → (step_in (state_at s es m) n).answer ≡ Err e → NoStep (state_at s es m) n (number_of e)
  -- 2. "search order always holds" (Figure 3): a key in a leaf below child i of an internal node is one that goes by child i
  pub search_order : (m n i l x : ℕ) → Reach (header_at s es m).k (view_at s es m) n → (view_at s es m).tag n ≡ (header_at s es m).k → In (header_at s es m).k i
      → Below (header_at s es m).k (view_at s es m) ((view_at s es m).child n i) l → (view_at s es m).tag l ≢ (header_at s es m).k
      → Memᴰ x (keys (view_at s es m) l) → route (header_at s es m).k ((view_at s es m).key n) x ≡ i
  -- "the key set read from the leaves": listing returns exactly it, and range answers by it
  pub listing : (m : ℕ) → Listing s es m
  pub range : (m low high : ℕ) → low ≤ high → high < infinity → Range s es m low high
  -- 3. "changes only at a child swap": child words of nodes in use, and the set
  pub words_stay : (m : ℕ) → ((r : ℕ) → ¬ ChildSwap s es m r) → (n i : ℕ) → In (tables_at s es m).nodes n → In (header_at s es m).k i
      → (view_at s es (suc m)).child n i ≡ (view_at s es m).child n i
  pub words_change : (m r : ℕ) (w : ChildSwap s es m r) → Swapped (header_at s es m).k (tables_at s es m) (tables_at s es (suc m)) ((tables_at s es m).rec r)
      (taken (state_at s es m) w.process).index (taken (state_at s es m) w.process).other
  pub set_stays : (m : ℕ) → ((r : ℕ) → ¬ ChildSwap s es m r) → (x : ℕ) → InSet s es m x ↔ InSet s es (suc m) x
  -- "and then by exactly the one key of the operation that set the flag"
  pub set_changes : (m r : ℕ) → ChildSwap s es m r → (i : ℕ) × OperationOf s es r i × Changes s es m i
  -- "at most once per operation", whichever process did it; a record has one operation
  pub once : (m m' i : ℕ) → SwapOf s es m i → SwapOf s es m' i → m ≡ m'
  pub one_operation : (r i i' : ℕ) → OperationOf s es r i → OperationOf s es r i' → i ≡ i'
  -- the start, then the draw, then the swap, whether or not the operation is answered in the list
  pub in_order : (m i : ℕ) (w : SwapOf s es m i) → (i < w.operation.when) × (w.operation.when < m)
  -- the process that drew the record is the one of the start; the one that swaps may be another
  pub drawn_by : (m i n operation key : ℕ) (w : SwapOf s es m i) → Started s es i n operation key → w.operation.process ≡ n
  -- every answer has its start
  pub answers : (m n : ℕ) (a : Answer) (count : ℕ) → Answered s es m n a count
      → (i : ℕ) × BusyWith s es m n i × (operation : ℕ) × (key : ℕ) × Started s es i n operation key × (i < m)
  -- 4. "yes means its swap happened between start and answer, no or full means it never did"
  pub yes : (i m n operation key count : ℕ) → Started s es i n operation key → BusyWith s es m n i → Answered s es m n Yes count → operation ≢ 1
      → (t : ℕ) × SwapOf s es t i × (i < t) × (t < m)
  pub no_or_full : (i m n operation key count : ℕ) (a : Answer) → Started s es i n operation key → BusyWith s es m n i → Answered s es m n a count → operation ≢ 1
      → a ≢ Yes → (t : ℕ) → ¬ SwapOf s es t i
  -- 5. "each find and each no agrees with the set at some moment in between"
  pub find_yes : (i m n key count : ℕ) → Started s es i n 1 key → BusyWith s es m n i → Answered s es m n Yes count → Moment (suc i) m (λ t. InSet s es t key)
  pub find_no : (i m n key count : ℕ) → Started s es i n 1 key → BusyWith s es m n i → Answered s es m n No count → Moment (suc i) m (λ t. ¬ InSet s es t key)
  pub insert_no : (i m n key count : ℕ) → Started s es i n 2 key → BusyWith s es m n i → Answered s es m n No count → Moment (suc i) m (λ t. InSet s es t key)
  pub delete_no : (i m n key count : ℕ) → Started s es i n 3 key → BusyWith s es m n i → Answered s es m n No count → Moment (suc i) m (λ t. ¬ InSet s es t key)
  pub find_full : (i m n key count : ℕ) → Started s es i n 1 key → BusyWith s es m n i → ¬ Answered s es m n Full count
  -- 6. the steps that an answer reports are the accepted steps of its process since its start, this one among them, up to the cap
  pub counts : (m n : ℕ) (a : Answer) (count : ℕ) → Answered s es m n a count → count ≡ capped (steps_at s es n (suc m))
  -- 7. tags and keys of nodes in use and all words of records in use never change, used counts never fall; each draw takes the next free numbers
  pub lasting : (m m' : ℕ) → m ≤ m' → Grown (tables_at s es m) (tables_at s es m')
  pub draws : (m : ℕ) → Drawing (header_at s es m).k (tables_at s es m) (tables_at s es (suc m))
  -- "the operation that set the flag"
  pub drawn_for : (m n r : ℕ) → Draws s es m n r → DrawnFor s es m n r
  -- 8. the limits and the lengths of block and row never change
  pub limits : (m : ℕ) → SameLimits (header_of s.block) (header_at s es m)
  pub lengths : (m : ℕ) → (length (block_at s es m) ≡ length s.block) × (length (state_at s es m).row ≡ length s.row)
  -- a busy process becomes idle only by an answer, and an idle one busy only by an accepted start
  pub becomes_idle : (m n : ℕ) → 1 ≤ n → (taken (state_at s es m) n).operation ≢ 0 → (taken (state_at s es (suc m)) n).operation ≡ 0
      → (a : Answer) × (count : ℕ) × Answered s es m n a count
  pub becomes_busy : (m n : ℕ) → 1 ≤ n → (taken (state_at s es m) n).operation ≡ 0 → (taken (state_at s es (suc m)) n).operation ≢ 0
      → (operation : ℕ) × (key : ℕ) × Started s es m n operation key
  -- "Words and records beyond those needed are untouched."
  pub words_beyond : (m i : ℕ) → block_words (header_at s es m) ≤ i → get_or (block_at s es (suc m)) i 0 ≡ get_or (block_at s es m) i 0
  pub records_beyond : (m n : ℕ) → (header_at s es m).processes < n → taken (state_at s es (suc m)) n ≡ taken (state_at s es m) n

-- what making leaves in the lent block and row
abbrev pub made : List ℕ → List Process → ℕ → ℕ → ℕ → ℕ → State
made b row k processes nodes records = record {
  block = (make_call b row k processes nodes records).block;
  row = (make_call b row k processes nodes records).row;
}
