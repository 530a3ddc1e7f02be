-- The claim holds of every reached state: clause by clause from what link proves.
use Prim.Native.Nat.{ℕ, suc, ◌+◌, ◌*◌, ◌-◌, ◌≤◌, ◌<◌}
use mathlib.Core.Path.{◌≡◌, refl, sym, ap, ◌∙◌, subst}
use mathlib.Core.Logic.{◌≢◌, ◌⊎◌, inl, inr, ◌↔◌}
use mathlib.Core.List.{List, Memᴰ}
use native.Mathlib.Omega.{arith}
use native.Mathlib.Decide.{dec_le, dec_lt}
use lib.ListN.{get_or}
use Rattle.std.specs.Prelude.{true, false, Ok}
use Rattle.tables.specs.Numbers.{infinity}
use Rattle.tables.specs.Layout.{block_words}
use Rattle.process.specs.declared.Answer.{Answer}
use Rattle.process.specs.declared.Answer.TheVariants.{No, Yes, Full}
use Rattle.process.specs.Process.{started_as}
use Rattle.points.specs.Rows.{row_of}
use Rattle.walk.specs.Calls.{keys_met, range_of}
use Rattle.history.specs.View.{In, route, keys, Reach, Below, Holds}
use Rattle.history.specs.Shared.{Desc, Shared, Failed}
use Rattle.history.specs.Change.{SwapPend, Drawn, put_leaf, out_leaf, sprout, draw_replace, draw_prune, swap_replace, unflag_replace, mark, swap_prune, unflag_prune}
use Rattle.history.specs.Effects.{Added, SameSet, SetMoves, adds, removes, Swapped}
use Rattle.history.specs.Run.{Step, changes, rests, Moment}
use Rattle.history.proofs.Invariant.{Sound}
use Rattle.history.proofs.Paths.{on_reach}
use Rattle.history.proofs.Touch.{reach_used}
use Rattle.link.specs.Tables.{tables_of}
use Rattle.link.specs.Events.{Event, start, step, State, taken, event_at, state_at, block_at, header_at, since_at}
use Rattle.link.specs.Swaps.{ChildSwap}
use Rattle.link.specs.Operations.{Started, BusyWith, Draws, OperationOf, Answered}
use Rattle.link.specs.Sets.{tables_at, view_at, InSet}
use Rattle.link.proofs.Writes.{Fit}
use Rattle.link.proofs.Moments.{now_sound, Why, no_room, found, missing, there, not_there, did}
use Rattle.link.proofs.Clauses as link
use Rattle.link.proofs.Clauses.{Reached, k_at, step_at}
use Rattle.link.proofs.Beyond.{step_behind}
use Rattle.link.proofs.Reached.{state_next, step_one, taken_other, state_is}
use Rattle.link.proofs.Outcomes.{Outcome, nothing as still, begun, moved, outcome}
use Rattle.link.proofs.Story.{Story, story}
use Rattle.link.proofs.Answers as told_of
use Rattle.link.proofs.Answers.{told, Drawn as DrawnSince}
use Rattle.link.proofs.Origins.{NewAt, new_drawn, new_since, new_swapped, Comes, comes}
use Rattle.link.proofs.Becoming.{becomes_busy, becomes_idle}
use Rattle.link.proofs.Drawing.{none_before}
use Rattle.survey.proofs.Calls as survey
use Rattle.claim.proofs.Operations.{start_same, since_start, since_between, busy_story, busy_is, draw_once, one_operation, its_operation, draws_it, still_busy, drawn_late, ended}
use Rattle.claim.specs.Claim.{Claim, Listing, Range, clear, met, Changes, put_in, taken_out, SwapOf, Flagged, Replaces, Drawing, nothing, a_leaf, a_sprout, a_prune, DrawnFor}

-- the flag of a draw, at the node that the new record names
flagged : {k : ℕ} {S S' : Shared} {p n v : ℕ} (seen : ℕ) → p ≡ n → In S.nodes p → S.view.pend p ≡ 4 * seen → SwapPend k S.nodes S.view S'.view p v → Flagged S S' n v
flagged {k} {S} {S'} {p} {n} {v} seen e u c w = subst (λ (x : ℕ). Flagged S S' x v) e (record { used = u; seen = seen; was = c; is = w.pend_new; rest_same = w.pend_same })

module _ {s : State} {es : List Event} (reached : Reached s es) where
  abbrev W : ℕ → State
  W = state_at s es

  abbrev S : ℕ → Shared
  S = tables_at s es

  abbrev k : ℕ
  k = (header_at s es 0).k

  -- the set by the k of the whole run, and by that of its moment
  in_set : (m x : ℕ) → Holds k (S m).view x → InSet s es m x
  in_set m x = subst (λ (y : ℕ). Holds y (S m).view x) (sym (k_at reached m))

  of_set : (m x : ℕ) → InSet s es m x → Holds k (S m).view x
  of_set m x = subst (λ (y : ℕ). Holds y (S m).view x) (k_at reached m)

  kept : (m m' y : ℕ) → Holds k (S m).view y ↔ Holds k (S m').view y → InSet s es m y ↔ InSet s es m' y
  kept m m' y e = (λ a. in_set m' y (e.0 (of_set m y a)), λ a. in_set m y (e.1 (of_set m' y a)))

  added : (m m' x : ℕ) → Added (Holds k (S m).view) (Holds k (S m').view) x → Added (InSet s es m) (InSet s es m') x
  added m m' x d = record {
    absent = λ a. d.absent (of_set m x a);
    present = in_set m' x d.present;
    others = λ y q. kept m m' y (d.others y q);
  }

  search_order : (m n i l x : ℕ) → Reach (header_at s es m).k (view_at s es m) n → (view_at s es m).tag n ≡ (header_at s es m).k → In (header_at s es m).k i
      → Below (header_at s es m).k (view_at s es m) ((view_at s es m).child n i) l → (view_at s es m).tag l ≢ (header_at s es m).k
      → Memᴰ x (keys (view_at s es m) l) → route (header_at s es m).k ((view_at s es m).key n) x ≡ i
  search_order m =
      subst (λ (y : ℕ). (n i l x : ℕ) → Reach y (view_at s es m) n → (view_at s es m).tag n ≡ y → In y i → Below y (view_at s es m) ((view_at s es m).child n i) l
      → (view_at s es m).tag l ≢ y → Memᴰ x (keys (view_at s es m) l) → route y ((view_at s es m).key n) x ≡ i) (sym (k_at reached m)) (link.search_order reached m)

  words_stay : (m : ℕ) → ((r : ℕ) → ¬ ChildSwap s es m r) → (n i : ℕ) → In (S m).nodes n → In (header_at s es m).k i → (S (suc m)).view.child n i ≡ (S m).view.child n i
  words_stay m f n i u v = link.kids_stay reached m f n i u (subst (λ (y : ℕ). In y i) (k_at reached m) v)

  words_change : (m r : ℕ) (w : ChildSwap s es m r) → Swapped (header_at s es m).k (S m) (S (suc m)) ((S m).rec r) (taken (W m) w.process).index (taken (W m) w.process).other
  words_change m r w =
      subst (λ (y : ℕ). Swapped y (S m) (S (suc m)) ((S m).rec r) (taken (W m) w.process).index (taken (W m) w.process).other) (sym (k_at reached m))
      (link.swap_changes reached m r w)

  set_stays : (m : ℕ) → ((r : ℕ) → ¬ ChildSwap s es m r) → (x : ℕ) → InSet s es m x ↔ InSet s es (suc m) x
  unfolding SameSet
  set_stays m f x = kept m (suc m) x (link.set_stays reached m f x)

  -- the operation behind a record drawn since the beginning
  behind : (m r : ℕ) (u : NewAt s es m r) → OperationOf s es r (story reached (comes reached m r u).when (comes reached m r u).n (comes reached m r u).place (comes reached m r u).busy).begin
  behind m r u = record { when = (comes reached m r u).when; process = (comes reached m r u).n; draws = draws_it reached m r u; busy = its_operation reached m r u }

  -- its accepted start: of the record's process, operation and key
  begin_of : (m r : ℕ) (u : NewAt s es m r) → Started s es (story reached (comes reached m r u).when (comes reached m r u).n (comes reached m r u).place (comes reached m r u).busy).begin
      (comes reached m r u).n ((S m).rec r).operation ((S m).rec r).key
  begin_of m r u =
      let p = (since_start s es c.when c.n y.begin y.since).0 in
      let e = start_same c.n c.n p.operation (taken (W c.when) c.n).operation p.key (taken (W c.when) c.n).key (sym p.started.event ∙ y.event) in
      subst (λ (v : ℕ). Started s es y.begin c.n v ((S m).rec r).key) (e.1 ∙ sym c.operation)
      (subst (λ (v : ℕ). Started s es y.begin c.n p.operation v) (e.2 ∙ sym c.key) p.started)
    where
      c : Comes s es m r
      c = comes reached m r u

      y : Story s es c.when c.n
      y = story reached c.when c.n c.place c.busy

  set_changes : (m r : ℕ) → ChildSwap s es m r → (i : ℕ) × OperationOf s es r i × Changes s es m i
  set_changes m r w = (begin, behind m r u, go (link.set_changes reached m r w))
    where
      u : NewAt s es m r
      u = new_swapped reached m r w

      n : ℕ
      n = (comes reached m r u).n

      begin : ℕ
      begin = (story reached (comes reached m r u).when n (comes reached m r u).place (comes reached m r u).busy).begin

      by : (o : ℕ) → ((S m).rec r).operation ≡ o → Started s es begin n o ((S m).rec r).key
      by o e = subst (λ (v : ℕ). Started s es begin n v ((S m).rec r).key) e (begin_of m r u)

      go : SetMoves k (S m).view (S (suc m)).view ((S m).rec r) → Changes s es m begin
      go (adds o d) = put_in n ((S m).rec r).key (by 2 o) (added m (suc m) ((S m).rec r).key d)
      go (removes o d) = taken_out n ((S m).rec r).key (by 3 o) (added (suc m) m ((S m).rec r).key d)

  -- the record that event m draws
  drawn_for : (m n r : ℕ) → Draws s es m n r → DrawnFor s es m n r
  drawn_for m n r d = by when (mine when)
    where
      u : NewAt s es (suc m) r
      u = new_drawn reached m n r d

      c : Comes s es (suc m) r
      c = comes reached (suc m) r u

      when : c.when ≡ m
      when = draw_once reached c.when m c.n n r (draws_it reached (suc m) r u) d

      mine : c.when ≡ m → c.n ≡ n
      mine e = step_one c.n n (sym c.event ∙ ap (event_at es) e ∙ d.event)

      by : c.when ≡ m → c.n ≡ n → DrawnFor s es m n r
      by e f = record {
        begin = (story reached c.when c.n c.place c.busy).begin;
        operation = ((S (suc m)).rec r).operation;
        key = ((S (suc m)).rec r).key;
        started = subst (λ (y : ℕ). Started s es (story reached c.when c.n c.place c.busy).begin y ((S (suc m)).rec r).operation ((S (suc m)).rec r).key) f (begin_of (suc m) r u);
        busy = subst (λ (y : ℕ). BusyWith s es m y (story reached c.when c.n c.place c.busy).begin) f
            (subst (λ (t : ℕ). BusyWith s es t c.n (story reached c.when c.n c.place c.busy).begin) e (its_operation reached (suc m) r u));
        its_process = c.process ∙ f;
        its_operation = refl;
        its_key = refl;
      }

  -- what a record of an operation is, once it is drawn, to its process
  own_of : (r i : ℕ) (a : OperationOf s es r i) (m : ℕ) → a.when < m → since_at s es a.process m ≡ suc i → DrawnSince s es (since_at s es a.process m) m a.process r
  own_of r i a m l e = drawn_late reached a.when m a.process r i a.draws (since_start s es a.when a.process i a.busy.last).1 l e

  -- the process of an operation is the one of its start
  whose : (r i n o x : ℕ) (a : OperationOf s es r i) → Started s es i n o x → a.process ≡ n
  whose r i n o x a b =
      let p = (since_start s es a.when a.process i a.busy.last).0 in
      (start_same a.process n p.operation o p.key x (sym p.started.event ∙ b.event)).0

  -- of two records of one operation the first has failed when the second is drawn
  once_by : (m m' r r' i : ℕ) (a : OperationOf s es r i) (b : OperationOf s es r' i) → a.when ≤ b.when → ChildSwap s es m r → ChildSwap s es m' r' → (m ≡ m')
  once_by m m' r r' i a b l w w' = go (dec_lt a.when b.when)
    where
      n : ℕ
      n = b.process

      same : a.process ≡ n
      same = let p = (since_start s es b.when n i b.busy.last).0 in whose r i n p.operation p.key a p.started

      earlier : a.when < b.when → DrawnSince s es (since_at s es n b.when) b.when n r
      earlier f =
          subst (λ (y : ℕ). DrawnSince s es (since_at s es y b.when) b.when y r) same
          (own_of r i a b.when f (subst (λ (y : ℕ). since_at s es y b.when ≡ suc i) (sym same) b.busy.last))

      go : Dec (a.when < b.when) → m ≡ m'
      go (yes f) = by ((busy_story reached b.when n i b.busy).past r (earlier f).used (earlier f).late (earlier f).process)
        where
          by : (r ≡ (taken (W b.when) n).own) ⊎ Failed (S b.when).view ((S b.when).rec r) r → m ≡ m'
          by (inl e) = absurd (omega (arith, (earlier f).used.low, none_before reached b.when n r' b.draws))
          by (inr e) = absurd (told_of.never_swaps reached b.when r m (earlier f).used e w)
      go (no f) =
          let t : a.when ≡ b.when = omega arith in
          let e : r ≡ r' = sym a.draws.next ∙ ap (λ (v : ℕ). (header_at s es v).recordsused + 1) t ∙ b.draws.next in
          link.swaps_once reached m m' r w (subst (λ (v : ℕ). ChildSwap s es m' v) (sym e) w')

  once : (m m' i : ℕ) → SwapOf s es m i → SwapOf s es m' i → m ≡ m'
  once m m' i a b = go (dec_le a.operation.when b.operation.when)
    where
      go : Dec (a.operation.when ≤ b.operation.when) → m ≡ m'
      go (yes l) = once_by m m' a.r b.r i a.operation b.operation l a.swap b.swap
      go (no l) = sym (once_by m' m b.r a.r i b.operation a.operation (omega arith) b.swap a.swap)

  -- a record that is swapped was drawn before
  in_order : (m i : ℕ) (w : SwapOf s es m i) → (i < w.operation.when) × (w.operation.when < m)
  in_order m i w = ((since_start s es w.operation.when w.operation.process i w.operation.busy.last).1, go (dec_lt w.operation.when m))
    where
      go : Dec (w.operation.when < m) → w.operation.when < m
      go (yes l) = l
      go (no l) = absurd (omega (arith, w.operation.draws.next, (new_swapped reached m w.r w.swap).high, (link.grows reached m w.operation.when (omega arith)).records_more))

  answers : (m n : ℕ) (a : Answer) (count : ℕ) → Answered s es m n a count → (i : ℕ) × BusyWith s es m n i × (operation : ℕ) × (key : ℕ) × Started s es i n operation key × (i < m)
  answers m n a count x =
      let y = told_of.its_story reached x in
      let p = since_start s es m n y.begin y.since in
      (y.begin, record { last = y.since; busy = (told reached x).busy }, p.0.operation, p.0.key, p.0.started, p.1)

  module _ (i m n operation key count : ℕ) (a : Answer) (st : Started s es i n operation key) (b : BusyWith s es m n i) (x : Answered s es m n a count) where
    is : ((taken (W m) n).operation ≡ operation) × ((taken (W m) n).key ≡ key)
    is = busy_is reached m n i operation key st b

    -- the records that the process has drawn since are those of the operation
    of_operation : (r : ℕ) → DrawnSince s es (since_at s es n m) m n r → OperationOf s es r i
    of_operation r d = subst (λ (y : ℕ). OperationOf s es r y) same (behind m r (new_since reached (since_at s es n m) m n r d))
      where
        c : Comes s es m r
        c = comes reached m r (new_since reached (since_at s es n m) m n r d)

        y : Story s es c.when c.n
        y = story reached c.when c.n c.place c.busy

        mine : c.n ≡ n
        mine = sym c.process ∙ d.process

        low : since_at s es n m ≤ c.when
        low = go (dec_le (since_at s es n m) c.when)
          where
            go : Dec (since_at s es n m ≤ c.when) → since_at s es n m ≤ c.when
            go (yes l) = l
            go (no l) = absurd (omega (arith, d.late, c.counted, (link.grows reached (suc c.when) (since_at s es n m) (omega arith)).records_more))

        same : y.begin ≡ i
        same =
            let z : since_at s es n c.when ≡ since_at s es n m = since_between s es m n c.when low (omega (arith, c.before)) in
            let v : since_at s es c.n c.when ≡ since_at s es n c.when = ap (λ (t : ℕ). since_at s es t c.when) mine in
            omega (arith, y.since, b.last)

    yes_swap : operation ≢ 1 → a ≡ Yes → (t : ℕ) × SwapOf s es t i × (i < t) × (t < m)
    yes_swap o e =
        let z = told_of.yes_behind reached x (λ v. o (sym is.0 ∙ v)) e in
        (z.when, record { r = z.r; swap = z.swap; operation = of_operation z.r z.drawn }, omega (arith, z.from, b.last), z.before)

    never_swap : operation ≢ 1 → a ≢ Yes → (t : ℕ) → ¬ SwapOf s es t i
    never_swap o e t w = go (dec_lt w.operation.when m)
      where
        mine : w.operation.process ≡ n
        mine = whose w.r i n operation key w.operation st

        later : BusyWith s es (suc w.operation.when) n i
        later =
            subst (λ (y : ℕ). BusyWith s es (suc w.operation.when) y i) mine
            (still_busy reached w.operation.when w.operation.process w.r i w.operation.draws w.operation.busy)

        go : Dec (w.operation.when < m) → ⊥
        go (yes l) =
            told_of.else_never reached x (λ v. o (sym is.0 ∙ v)) e w.r
            (subst (λ (y : ℕ). DrawnSince s es (since_at s es y m) m y w.r) mine
            (own_of w.r i w.operation m l (subst (λ (y : ℕ). since_at s es y m ≡ suc i) (sym mine) b.last))) t w.swap
        go (no l) =
            let d : suc w.operation.when ≡ suc m + (w.operation.when - m) = omega arith in
            let z = subst (λ (y : ℕ). BusyWith s es y n i) d later in
            z.busy (ended reached m n i a count x b.last (w.operation.when - m) z.last)

    -- the moments of link, by the k of each and for the key of the start
    at_moment : (P : ℕ → ℕ → Type 0) → Moment (since_at s es n m) m (λ t. P t (taken (W m) n).key) → ((t : ℕ) → P t key → InSet s es t key) → Moment (suc i) m (λ t. InSet s es t key)
    at_moment P z f = record { when = z.when; from = omega (arith, z.from, b.last); to = z.to; holds = f z.when (subst (λ (y : ℕ). P z.when y) is.1 z.holds) }

    not_moment : (P : ℕ → ℕ → Type 0) → Moment (since_at s es n m) m (λ t. P t (taken (W m) n).key) → ((t : ℕ) → P t key → ¬ InSet s es t key) → Moment (suc i) m (λ t. ¬ InSet s es t key)
    not_moment P z f = record { when = z.when; from = omega (arith, z.from, b.last); to = z.to; holds = f z.when (subst (λ (y : ℕ). P z.when y) is.1 z.holds) }

    has : Moment (since_at s es n m) m (λ t. Holds k (S t).view (taken (W m) n).key) → Moment (suc i) m (λ t. InSet s es t key)
    has z = at_moment (λ t y. Holds k (S t).view y) z (λ t h. in_set t key h)

    lacks : Moment (since_at s es n m) m (λ t. ¬ Holds k (S t).view (taken (W m) n).key) → Moment (suc i) m (λ t. ¬ InSet s es t key)
    lacks z = not_moment (λ t y. ¬ Holds k (S t).view y) z (λ t h v. h (of_set t key v))

    find_not_full : operation ≡ 1 → a ≢ Full
    find_not_full o e = go (told reached x).why
      where
        go : Why k S (since_at s es n m) m n (taken (W m) n) a → ⊥
        go (found p z w) = let v : Yes ≡ Full = sym z ∙ e in let y : ◌≡◌ {A = ℕ} 0 1 = cc in omega arith
        go (missing p z w) = let v : No ≡ Full = sym z ∙ e in let y : ◌≡◌ {A = ℕ} 0 1 = cc in omega arith
        go (there p z u w) = omega (arith, is.0)
        go (not_there p z u w) = omega (arith, is.0)
        go (no_room p z u) = p (is.0 ∙ o)
        go (did p z u c d f g) = p (is.0 ∙ o)

  draws : (m : ℕ) → Drawing (header_at s es m).k (S m) (S (suc m))
  draws m = subst (λ (y : ℕ). Drawing y (S m) (S (suc m))) (sym (k_at reached m)) (go (step_at reached m))
    where
      go : Step k (S m) (S (suc m)) → Drawing k (S m) (S (suc m))
      go (changes (draw_replace r p d)) = by d.drawn
        where
          at : ((S (suc m)).rec r).p ≡ p
          at = ap (λ (v : Desc). v.p) d.record_new.words

          replaces : Replaces (S m) (S (suc m)) r
          replaces = record {
            next = d.record_new.next;
            counted = d.record_new.counted;
            kind = ap (λ (v : Desc). v.kind) d.record_new.words;
            new_child = ap (λ (v : Desc). v.third) d.record_new.words;
            flag = flagged d.seen (sym at) (reach_used (omega (arith, link.hk reached)) (link.sound reached m).inv.shape (on_reach k (omega (arith, link.hk reached)) d.on)) d.clean d.flag;
          }

          by : Drawn k (S m).view (S (suc m)).view ((S m).nodes + 1) r d.operation d.x d.l d.size → Drawing k (S m) (S (suc m))
          by (put_leaf o h t n z) = a_leaf r replaces (omega (arith, d.counted))
          by (out_leaf o h n z) = a_leaf r replaces (omega (arith, d.counted))
          by (sprout o h t n z) = a_sprout r replaces (omega (arith, d.counted)) n.kids
      go (changes (draw_prune r gp d)) =
          a_prune r (record {
            next = d.record_new.next;
            counted = d.record_new.counted;
            kind = ap (λ (v : Desc). v.kind) d.record_new.words;
            flag = flagged d.seen (sym (ap (λ (v : Desc). v.third) d.record_new.words)) (reach_used (omega (arith, link.hk reached)) (link.sound reached m).inv.shape (on_reach k (omega (arith, link.hk reached)) d.on)) d.clean d.flag;
          }) d.counted
      go (changes (swap_replace q i h kd a e w same)) = nothing same.records_same same.nodes_same
      go (changes (unflag_replace q h kd e x w same)) = nothing same.records_same same.nodes_same
      go (changes (mark q h kd e w same)) = nothing same.records_same same.nodes_same
      go (changes (swap_prune q i other h kd mk j sj ej full x a e w same)) = nothing same.records_same same.nodes_same
      go (changes (unflag_prune q h kd e x w same)) = nothing same.records_same same.nodes_same
      go (rests e) = nothing e.tables.records_same e.tables.nodes_same

  fit : (m : ℕ) → Fit (header_at s es m) (block_at s es m)
  fit m = (link.good reached m).now.fit

  sound : (m : ℕ) → Sound (header_at s es m).k (tables_of (header_at s es m) (block_at s es m))
  sound m = now_sound (link.good reached m).now

  listing : (m : ℕ) → Listing s es m
  listing m = record {
    keys = keys_met (block_at s es m);
    set = survey.keys_list (fit m) (sound m);
    call = survey.list_answers (fit m) (sound m);
    twin = survey.part_answers (fit m) (sound m);
    short = survey.list_too_short (fit m) (sound m);
    short_twin = survey.part_too_short (fit m) (sound m);
  }

  range : (m low high : ℕ) → low ≤ high → high < infinity → Range s es m low high
  range m low high l h = go (survey.range_answers (fit m) (sound m) low high p q l)
    where
      p : low ≢ infinity
      p e = omega arith

      q : high ≢ infinity
      q e = omega arith

      go : (range_of (block_at s es m) low high ≡ Ok true) ⊎ (range_of (block_at s es m) low high ≡ Ok false) → Range s es m low high
      go (inl e) = clear e ((survey.range_yes (fit m) (sound m) low high p q l).0 e)
      go (inr e) = met e ((survey.range_no (fit m) (sound m) low high p q l).0 e)

  words_beyond : (m i : ℕ) → block_words (header_at s es m) ≤ i → get_or (block_at s es (suc m)) i 0 ≡ get_or (block_at s es m) i 0
  words_beyond m i l = by (event_at es m) refl
    where
      by : (e : Event) → event_at es m ≡ e → get_or (block_at s es (suc m)) i 0 ≡ get_or (block_at s es m) i 0
      by (start n o x) z = ap (λ (t : State). get_or t.block i 0) (state_next s es m (start n o x) z)
      by (step n) z = ap (λ (t : State). get_or t.block i 0) (state_next s es m (step n) z) ∙ step_behind (block_at s es m) (W m).row n i l

  records_beyond : (m n : ℕ) → (header_at s es m).processes < n → taken (W (suc m)) n ≡ taken (W m) n
  records_beyond m n l = go (outcome (link.good reached m))
    where
      apart : (p : ℕ) → In (header_at s es m).processes p → n ≢ p
      apart p u e = omega (arith, u.high)

      go : Outcome s es m → taken (W (suc m)) n ≡ taken (W m) n
      go (still e f g) = ap (λ (t : State). taken t n) e
      go (begun p o x u z v w f f' g) = taken_other (link.good reached m) p (block_at s es m) (started_as o x) w u n (omega arith) (apart p u)
      go (moved p u z y w f g g') =
          taken_other (link.good reached m) p (row_of (block_at s es m) (header_at s es m) p (taken (W m) p)).block
          (row_of (block_at s es m) (header_at s es m) p (taken (W m) p)).stepped.process (state_is (link.good reached m) p u z y w) u n (omega arith) (apart p u)

  pub claimed : Claim s es
  unfolding state_at
  claimed = record {
    start_refused = link.start_refused reached;
    step_refused = link.step_refused reached;
    search_order = search_order;
    listing = listing;
    range = range;
    words_stay = words_stay;
    words_change = words_change;
    set_stays = set_stays;
    set_changes = set_changes;
    once = once;
    one_operation = one_operation reached;
    in_order = in_order;
    drawn_by = λ m i n operation key w st. whose w.r i n operation key w.operation st;
    answers = answers;
    yes = λ i m n operation key count st b x o. yes_swap i m n operation key count Yes st b x o refl;
    no_or_full = λ i m n operation key count a st b x o e. never_swap i m n operation key count a st b x o e;
    find_yes = λ i m n key count st b x. has i m n 1 key count Yes st b x (told_of.find_yes reached x (is i m n 1 key count Yes st b x).0 refl);
    find_no = λ i m n key count st b x. lacks i m n 1 key count No st b x (told_of.find_no reached x (is i m n 1 key count No st b x).0 refl);
    insert_no = λ i m n key count st b x. has i m n 2 key count No st b x (told_of.insert_no reached x (is i m n 2 key count No st b x).0 refl);
    delete_no = λ i m n key count st b x. lacks i m n 3 key count No st b x (told_of.delete_no reached x (is i m n 3 key count No st b x).0 refl);
    find_full = λ i m n key count st b x. find_not_full i m n 1 key count Full st b x refl refl;
    counts = λ m n a count x. told_of.steps_all reached x;
    lasting = link.grows reached;
    draws = draws;
    drawn_for = drawn_for;
    limits = λ m. record { k_same = k_at reached m; processes_same = link.processes_at reached m; nodes_same = link.nodes_at reached m; records_same = link.records_at reached m };
    lengths = λ m. (link.words_at reached m, link.rows_at reached m);
    becomes_idle = becomes_idle reached;
    becomes_busy = becomes_busy reached;
    words_beyond = words_beyond;
    records_beyond = records_beyond;
  }
