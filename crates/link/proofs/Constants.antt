-- What no event changes, from any state: k, the number of processes, both limits, and how long the block and the row are.
use Prim.Native.Nat.{ℕ, zero, suc, ◌+◌}
use mathlib.Core.Path.{◌≡◌, refl, sym, ap, ◌∙◌, subst}
use mathlib.Core.Bool.{Bool, true, false}
use mathlib.Core.List.{List}
use lib.ListN.{length, length-set}
use Rattle.std.specs.Prelude.{Ok, Err}
use Rattle.tables.specs.Choice.{pick, Reason, decide, Verdict, refused, accepted, verdict, told, NoneHolds}
use Rattle.tables.specs.Header.{header_of, header_from}
use Rattle.tables.specs.Refusal.{refusal}
use Rattle.tables.specs.declared.header.Header.{Header}
use Rattle.tables.proofs.OneToOne.{tells, accepted_none}
use Rattle.process.specs.declared.Process.{Process}
use Rattle.process.specs.Process.{started_as}
use Rattle.draws.specs.Draw.{new_record}
use Rattle.points.specs.Rows.{row_of}
use Rattle.points.specs.Step.{step_reasons, start_reasons}
use Rattle.points.proofs.Accepted.{Accepted}
use Rattle.points.proofs.Counted.{needed_at, draws_at}
use Rattle.points.proofs.Touches.{step_does, step_header, step_length}
use Rattle.index.specs.Calls.{record_of, with_record, start_out, start_call, step_out, step_by, step_call}
use Rattle.link.specs.Events.{Event, start, step, State, after, event_at, state_at}
use Rattle.link.proofs.Calls.{stepped_to, started_to}

pub record Constant (s s' : State) : Type 0 where
  pub k : (header_of s'.block).k ≡ (header_of s.block).k
  pub processes : (header_of s'.block).processes ≡ (header_of s.block).processes
  pub nodes : (header_of s'.block).nodes ≡ (header_of s.block).nodes
  pub records : (header_of s'.block).records ≡ (header_of s.block).records
  pub words : length s'.block ≡ length s.block
  pub rows : length s'.row ≡ length s.row

constant_same : (s : State) → Constant s s
constant_same s = record { k = refl; processes = refl; nodes = refl; records = refl; words = refl; rows = refl }

constant_join : {s t u : State} → Constant s t → Constant t u → Constant s u
constant_join a c = record {
  k = c.k ∙ a.k;
  processes = c.processes ∙ a.processes;
  nodes = c.nodes ∙ a.nodes;
  records = c.records ∙ a.records;
  words = c.words ∙ a.words;
  rows = c.rows ∙ a.rows;
}

-- a draw changes the two used counts alone
limits_after : (P : Header → ℕ) (h : Header) (used drawn : ℕ) (t : Bool) → P (header_from h.k h.processes h.nodes used h.records drawn) ≡ P h
    → P (pick t (header_from h.k h.processes h.nodes used h.records drawn) h) ≡ P h
unfolding pick
limits_after P h used drawn true e = e
limits_after P h used drawn false e = refl

-- an accepted step
module _ (s : State) (n : ℕ) (a : Accepted s.block (length s.row) n (record_of s.row n)) where
  abbrev q : Process
  q = record_of s.row n

  abbrev b : List ℕ
  b = s.block

  abbrev h : Header
  h = header_of s.block

  abbrev row_block : List ℕ
  row_block = (row_of s.block (header_of s.block) n (record_of s.row n)).block

  header : (P : Header → ℕ) → ((used drawn : ℕ) → P (header_from h.k h.processes h.nodes used h.records drawn) ≡ P h) → P (header_of row_block) ≡ P h
  header P f =
      ap (λ (c : List ℕ). P (header_of c)) (sym (step_does b (length s.row) n q a))
      ∙ ap P (step_header b (length s.row) n q a)
      ∙ limits_after P h (h.nodesused + needed_at b h q) (new_record h) (draws_at b h q (row_of b h n q)) (f _ _)

  step_done_lem : Constant s (record { block = row_block; row = with_record s.row n (row_of s.block (header_of s.block) n (record_of s.row n)).stepped.process })
  step_done_lem = record {
    k = header (λ g. g.k) (λ u d. refl);
    processes = header (λ g. g.processes) (λ u d. refl);
    nodes = header (λ g. g.nodes) (λ u d. refl);
    records = header (λ g. g.records) (λ u d. refl);
    words = ap length (sym (step_does b (length s.row) n q a)) ∙ step_length b (length s.row) n q a;
    rows = simp length-set;
  }

-- what holds of a refusal and of what is done holds of the call
decided : {A : Type 0} (P : A → Type 0) (refuse : ℕ → A) (done : A) (rs : List Reason) → ((r : ℕ) → P (refuse r)) → (NoneHolds rs → P done) → P (decide rs refuse done)
decided {A} P refuse done rs f g = subst P (sym (tells refuse done rs)) (go (verdict rs) refl)
  where
    go : (v : Verdict) → verdict rs ≡ v → P (told refuse done v)
    go (refused r) e = f r
    go accepted e = g (accepted_none rs e)

-- of every event
pub after_constant : (s : State) (e : Event) → Constant s (after s e)
unfolding start_call step_call
after_constant s (start n operation key) =
    decided (λ o. Constant s (started_to s o)) (λ r. start_out (Err (refusal r)) s.row) (start_out (Ok tt) (with_record s.row n (started_as operation key)))
    (start_reasons s.block (length s.row) n (record_of s.row n) operation key) (λ r. constant_same s)
    (λ a. record { k = refl; processes = refl; nodes = refl; records = refl; words = refl; rows = simp length-set })
after_constant s (step n) =
    decided (λ o. Constant s (stepped_to o)) (λ r. step_out (Err (refusal r)) s.block s.row) (step_by s.row n (row_of s.block (header_of s.block) n (record_of s.row n)))
    (step_reasons s.block (length s.row) n (record_of s.row n)) (λ r. constant_same s) (step_done_lem s n)

-- at every moment
pub constant : (s : State) (es : List Event) (m : ℕ) → Constant s (state_at s es m)
unfolding state_at
constant s es zero = constant_same s
constant s es (suc m) = constant_join (constant s es m) (after_constant (state_at s es m) (event_at es m))
