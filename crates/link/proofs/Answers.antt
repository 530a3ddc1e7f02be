-- What an answer says: yes has its child swap between start and answer, no and full have none ever, finds and noes agree with the set, steps are counted.
use Prim.Native.Nat.{ℕ, suc, ◌+◌, ◌≤◌, ◌<◌}
use mathlib.Core.Path.{◌≡◌, refl, sym, ap, ◌∙◌, subst}
use mathlib.Core.Logic.{◌≢◌, ◌⊎◌, inl, inr}
use mathlib.Core.Bool.{true, false}
use mathlib.Core.List.{List}
use native.Mathlib.Omega.{arith}
use native.Mathlib.Decide.{dec_lt}
use borrow.Author.Tests.{eq-eqb}
use Rattle.std.specs.Prelude.{Result, Ok}
use Rattle.tables.specs.Choice.{pick}
use Rattle.process.specs.declared.Process.{Process}
use Rattle.process.specs.declared.Answer.{Answer}
use Rattle.process.specs.declared.Answer.TheVariants.{No, Yes, Full}
use Rattle.process.specs.declared.Progress.{Progress}
use Rattle.process.specs.declared.Progress.TheVariants.{GoesOn, Ended}
use Rattle.process.specs.declared.Stepped.{Stepped}
use Rattle.process.specs.Answer.{steps_up}
use Rattle.tables.specs.Refusal.{refusal}
use Rattle.tables.specs.declared.numbers.Refusal.{Refusal}
use Rattle.tables.proofs.Picks.{both_is}
use Rattle.points.specs.Rows.{row_of}
use Rattle.points.proofs.Refusals.{ok_not}
use Rattle.index.specs.Calls.{StepOut}
use Rattle.history.specs.View.{In, Holds}
use Rattle.history.specs.Run.{Moment}
use Rattle.history.specs.Shared.{Shared, Failed}
use Rattle.history.proofs.Quiet.{not_both}
use Rattle.history.proofs.Swapping.{SwapBetween, swapped_done, failed_never, swap_between}
use Rattle.link.specs.Events.{Event, State, taken, step_in, event_at, state_at, block_at, header_at, starts, is_answered, stepped_by, steps_at, capped, since_at}
use Rattle.link.specs.Swaps.{ChildSwap}
use Rattle.link.specs.Operations.{Answered}
use Rattle.link.proofs.Moments.{tables, Why, found, missing, there, not_there, no_room, did}
use Rattle.link.proofs.Stepping.{turn, step_sound}
use Rattle.link.proofs.Calls as calls
use Rattle.link.proofs.Calls.{step_refused_in}
use Rattle.link.proofs.Reached.{at_work}
use Rattle.link.proofs.Clauses.{Reached, good, k_at, hk, run, sound, sound₀, stepped_says, swap_at, swap_event}
use Rattle.link.proofs.Story.{Story, story, capped_up, steps_next}

-- what is known then
pub record Told (s : State) (es : List Event) (k m n : ℕ) (a : Answer) (steps : ℕ) : Type 0 where
  pub place : In (header_at s es m).processes n
  pub busy : (taken (state_at s es m) n).operation ≢ 0
  pub since : since_at s es n m ≤ m
  pub counted : steps ≡ steps_up (taken (state_at s es m) n).steps
  pub why : Why k (tables (header_at s es) (block_at s es)) (since_at s es n m) m n (taken (state_at s es m) n) a

-- at moment m, record r is one that process n has drawn since moment i
pub record Drawn (s : State) (es : List Event) (i m n r : ℕ) : Type 0 where
  pub used : In (tables (header_at s es) (block_at s es) m).records r
  pub late : (tables (header_at s es) (block_at s es) i).records < r
  pub process : ((tables (header_at s es) (block_at s es) m).rec r).process ≡ n

-- the child swap behind a yes: of a record of this operation, with its operation and key, from the start to before the answer
pub record Behind (s : State) (es : List Event) (m n : ℕ) : Type 0 where
  pub r : ℕ
  pub drawn : Drawn s es (since_at s es n m) m n r
  pub operation : ((tables (header_at s es) (block_at s es) m).rec r).operation ≡ (taken (state_at s es m) n).operation
  pub key : ((tables (header_at s es) (block_at s es) m).rec r).key ≡ (taken (state_at s es m) n).key
  pub when : ℕ
  pub from : since_at s es n m ≤ when
  pub before : when < m
  pub swap : ChildSwap s es when r

pub one_ok : {p r : Progress} → ◌≡◌ {A = Result Progress Refusal} (Ok p) (Ok r) → p ≡ r
one_ok e = cc

ended_one : (a c : Answer) (x y : ℕ) → Ended a x ≡ Ended c y → (a ≡ c) × (x ≡ y)
ended_one a c x y e = (cc, cc)

-- an answer is told by an accepted step of its process
pub answer_steps : {s : State} {es : List Event} {m n : ℕ} {a : Answer} {c : ℕ} → Answered s es m n a c → stepped_by (state_at s es m) (event_at es m) n ≡ true
answer_steps {s} {es} {m} {n} x = ap (λ (e : Event). stepped_by (state_at s es m) e n) x.event ∙ both_is (eq-eqb n n refl) (ap is_answered x.answer)

module _ {s : State} {es : List Event} (reached : Reached s es) where
  abbrev W : ℕ → State
  W = state_at s es

  abbrev S : ℕ → Shared
  S = tables (header_at s es) (block_at s es)

  abbrev k : ℕ
  k = (header_at s es 0).k

  module _ {m n : ℕ} {a : Answer} {c : ℕ} (answered : Answered s es m n a c) where
    abbrev q : Process
    q = taken (W m) n

    abbrev i : ℕ
    i = since_at s es n m

    pub told : Told s es k m n a c
    told = go (calls.step_goes (W m) (good reached m).now.fit (good reached m).rows n)
      where
        refused : (r : ℕ) → step_in (W m) n ≡ step_refused_in (W m) r → ⊥
        refused r e = ok_not (Ended a c) (refusal r) (sym answered.answer ∙ ap (λ (o : StepOut). o.answer) e)

        says : (t : Stepped) → (step_in (W m) n).answer ≡ Ok t.progress → In (header_at s es m).processes n → q.operation ≢ 0 → i ≤ m
            → (t.progress ≡ GoesOn) ⊎ ((x : Answer) × (t.progress ≡ Ended x (steps_up q.steps)) × Why (header_at s es m).k S i m n q x) → Told s es k m n a c
        says t e u d l (inl g) = let v : GoesOn ≡ Ended a c = sym g ∙ one_ok (sym e ∙ answered.answer) in let z : ◌≡◌ {A = ℕ} 0 1 = cc in absurd (omega arith)
        says t e u d l (inr g) =
            let z = ended_one g.0 a (steps_up q.steps) c (sym g.1 ∙ one_ok (sym e ∙ answered.answer)) in
            record {
              place = u;
              busy = d;
              since = l;
              counted = sym z.1;
              why = subst (λ (x : ℕ). Why x S i m n q a) (k_at reached m) (subst (λ (x : Answer). Why (header_at s es m).k S i m n q x) z.0 g.2);
            }

        go : calls.Step (W m) (good reached m).now.fit (good reached m).rows n → Told s es k m n a c
        go (calls.unknown d e) = absurd (refused 4 e)
        go (calls.rests u d e) = absurd (refused 8 e)
        go (calls.works u d f) =
            let y = at_work d ((good reached m).each n u) in
            says (row_of (block_at s es m) (header_at s es m) n q).stepped (ap (λ (o : StepOut). o.answer) (f (step_sound (good reached m).now q y))) u d y.since
            (stepped_says (turn (good reached m).now q y).follows)

    -- the start that is answered
    pub its_story : Story s es m n
    its_story = story reached m n told.place told.busy

    -- 6. The steps that an answer reports are the accepted steps since the start, capped.
    pub steps_counted : c ≡ capped (steps_at s es n m + 1)
    steps_counted = told.counted ∙ ap steps_up its_story.steps ∙ capped_up (steps_at s es n m)

    -- this step among them
    pub steps_all : c ≡ capped (steps_at s es n (suc m))
    unfolding pick
    steps_all = steps_counted ∙ ap capped (sym (steps_next s es m n false true (ap (λ (e : Event). starts (W m) e n) answered.event) (answer_steps answered)))

    -- 5. A find, and an insert or delete answered no, agree with the set at some moment from start to answer.
    pub find_yes : q.operation ≡ 1 → a ≡ Yes → Moment i m (λ t. Holds k (S t).view q.key)
    find_yes o e = go told.why
      where
        go : Why k S i m n q a → Moment i m (λ t. Holds k (S t).view q.key)
        go (found x z w) = w
        go (missing x z w) = let v : No ≡ Yes = sym z ∙ e in let y : ◌≡◌ {A = ℕ} 0 1 = cc in absurd (omega arith)
        go (there x z u w) = absurd (omega arith)
        go (not_there x z u w) = absurd (omega arith)
        go (no_room x z u) = absurd (x o)
        go (did x z u b d f g) = absurd (x o)

    pub find_no : q.operation ≡ 1 → a ≡ No → Moment i m (λ t. ¬ Holds k (S t).view q.key)
    find_no o e = go told.why
      where
        go : Why k S i m n q a → Moment i m (λ t. ¬ Holds k (S t).view q.key)
        go (found x z w) = let v : Yes ≡ No = sym z ∙ e in let y : ◌≡◌ {A = ℕ} 0 1 = cc in absurd (omega arith)
        go (missing x z w) = w
        go (there x z u w) = absurd (omega arith)
        go (not_there x z u w) = absurd (omega arith)
        go (no_room x z u) = absurd (x o)
        go (did x z u b d f g) = absurd (x o)

    pub insert_no : q.operation ≡ 2 → a ≡ No → Moment i m (λ t. Holds k (S t).view q.key)
    insert_no o e = go told.why
      where
        go : Why k S i m n q a → Moment i m (λ t. Holds k (S t).view q.key)
        go (found x z w) = absurd (omega arith)
        go (missing x z w) = absurd (omega arith)
        go (there x z u w) = w
        go (not_there x z u w) = absurd (omega arith)
        go (no_room x z u) = let v : Full ≡ No = sym z ∙ e in let y : ◌≡◌ {A = ℕ} 0 1 = cc in absurd (omega arith)
        go (did x z u b d f g) = let v : Yes ≡ No = sym z ∙ e in let y : ◌≡◌ {A = ℕ} 0 1 = cc in absurd (omega arith)

    pub delete_no : q.operation ≡ 3 → a ≡ No → Moment i m (λ t. ¬ Holds k (S t).view q.key)
    delete_no o e = go told.why
      where
        go : Why k S i m n q a → Moment i m (λ t. ¬ Holds k (S t).view q.key)
        go (found x z w) = absurd (omega arith)
        go (missing x z w) = absurd (omega arith)
        go (there x z u w) = absurd (omega arith)
        go (not_there x z u w) = w
        go (no_room x z u) = let v : Full ≡ No = sym z ∙ e in let y : ◌≡◌ {A = ℕ} 0 1 = cc in absurd (omega arith)
        go (did x z u b d f g) = let v : Yes ≡ No = sym z ∙ e in let y : ◌≡◌ {A = ℕ} 0 1 = cc in absurd (omega arith)

  -- a record that has failed has no child swap, at any event
  pub never_swaps : (m r t : ℕ) → In (S m).records r → Failed (S m).view ((S m).rec r) r → ¬ ChildSwap s es t r
  never_swaps m r t u f w = go (dec_lt t m)
    where
      go : Dec (t < m) → ⊥
      go (yes l) =
          not_both (hk reached) (sound reached m) (swapped_done (hk reached) (run reached m) (sound₀ reached) t m r (swap_at reached t r w).1 l (omega arith) (swap_at reached t r w).0) f
      go (no l) =
          failed_never (hk reached) (run reached (suc t)) (sound₀ reached) m t r (swap_at reached t r w).1 (omega arith) (omega arith) u f (swap_at reached t r w).0

  module _ {m n : ℕ} {a : Answer} {c : ℕ} (answered : Answered s es m n a c) where
    -- 4. Insert or delete answered yes: its child swap lies after its start and before its answer.
    pub yes_behind : (taken (W m) n).operation ≢ 1 → a ≡ Yes → Behind s es m n
    yes_behind o e = go (told answered).why
      where
        go : Why k S (since_at s es n m) m n (taken (W m) n) a → Behind s es m n
        go (found x z w) = absurd (o x)
        go (missing x z w) = absurd (o x)
        go (there x z u w) = let v : No ≡ Yes = sym z ∙ e in let y : ◌≡◌ {A = ℕ} 0 1 = cc in absurd (omega arith)
        go (not_there x z u w) = let v : No ≡ Yes = sym z ∙ e in let y : ◌≡◌ {A = ℕ} 0 1 = cc in absurd (omega arith)
        go (no_room x z u) = let v : Full ≡ Yes = sym z ∙ e in let y : ◌≡◌ {A = ℕ} 0 1 = cc in absurd (omega arith)
        go (did x z u b d f g) = put (swap_between (hk reached) (run reached m) (sound₀ reached) (since_at s es n m) m (taken (W m) n).own (told answered).since (omega arith) u g (λ v y. omega (arith, late, v.high)))
          where
            late : (S (since_at s es n m)).records < (taken (W m) n).own
            late = (its_story answered).own (λ v. omega (arith, u.low))

            put : SwapBetween k S m (run reached m) (taken (W m) n).own (since_at s es n m) m → Behind s es m n
            put y = record {
              r = (taken (W m) n).own;
              drawn = record { used = u; late = late; process = b };
              operation = d;
              key = f;
              when = y.when;
              from = y.from;
              before = y.before;
              swap = swap_event reached m (taken (W m) n).own (since_at s es n m) m y u.low;
            }

    -- Answered no or full: no event, ever, is the child swap of a record of this operation.
    pub else_never : (taken (W m) n).operation ≢ 1 → a ≢ Yes → (r : ℕ) → Drawn s es (since_at s es n m) m n r → (t : ℕ) → ¬ ChildSwap s es t r
    else_never o e r d t = go (told answered).why
      where
        none : (taken (W m) n).own ≡ 0 → ¬ ChildSwap s es t r
        none z = by ((its_story answered).past r d.used d.late d.process)
          where
            by : (r ≡ (taken (W m) n).own) ⊎ Failed (S m).view ((S m).rec r) r → ¬ ChildSwap s es t r
            by (inl x) = absurd (omega (arith, d.used.low))
            by (inr x) = never_swaps m r t d.used x

        go : Why k S (since_at s es n m) m n (taken (W m) n) a → ¬ ChildSwap s es t r
        go (found x z w) = absurd (o x)
        go (missing x z w) = absurd (o x)
        go (there x z u w) = none u
        go (not_there x z u w) = none u
        go (no_room x z u) = none u
        go (did x z u b f g y) = absurd (e z)
