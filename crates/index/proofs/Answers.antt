-- Each answer says one of document 01's numbers, and each number is said by one answer; a call says the number of the first reason that holds.
use Prim.Native.Nat.{ℕ, zero, suc, ◌≤◌}
use mathlib.Core.Path.{◌≡◌, refl, sym, ap, ◌∙◌}
use mathlib.Core.List.{List}
use native.Mathlib.Omega.{arith}
use lib.ListN.{length}
use Rattle.std.specs.Prelude.{Result, Ok, Err}
use Rattle.tables.specs.Choice.{decide}
use Rattle.tables.specs.Refusal.{number_of, refusal}
use Rattle.tables.specs.Header.{header_of}
use Rattle.tables.specs.declared.numbers.Refusal.{Refusal}
use Rattle.tables.proofs.OneToOne.{refusal_number, decide_on}
use Rattle.process.specs.Answer.{answer, answer_number}
use Rattle.process.specs.declared.Process.{Process}
use Rattle.process.specs.declared.Answer.{Answer}
use Rattle.process.specs.declared.Answer.TheVariants.{No, Yes, Full}
use Rattle.process.specs.declared.Progress.{Progress}
use Rattle.process.specs.declared.Progress.TheVariants as steps
use Rattle.points.specs.Rows.{row_of}
use Rattle.points.specs.Step.{start_reasons, step_reasons}
use Rattle.make.specs.Make.{make_reasons, MakeOut, make_out, make_call}
use Rattle.index.specs.Calls.{record_of, StartOut, start_out, start_call, StepOut, step_out, step_by, step_call}
use Rattle.index.specs.Answers.{done, answers, refuses, made_says, start_says, step_says}

-- "Answers: 0 no, 1 yes, 2 full."
pub answer_number_lem : (a : Answer) → answer (answer_number a) ≡ a
answer_number_lem No = refl
answer_number_lem Yes = refl
answer_number_lem Full = refl

pub number_answer : (n : ℕ) → n ≤ 2 → answer_number (answer n) ≡ n
number_answer zero p = refl
number_answer (suc zero) p = refl
number_answer (suc (suc zero)) p = refl
number_answer (suc (suc (suc n))) p = absurd (omega arith)

one_refusal : (d e : Refusal) → refuses (number_of d) ≡ refuses (number_of e) → d ≡ e
one_refusal d e f = sym (refusal_number d) ∙ ap refusal (let z : number_of d ≡ number_of e = cc in z) ∙ refusal_number e

pub made_one : (a b : Result (Unit {0}) Refusal) → made_says a ≡ made_says b → a ≡ b
made_one (Ok a) (Ok b) e = refl
made_one (Ok a) (Err d) e = let z : ◌≡◌ {A = ℕ} 0 1 = cc in absurd (omega arith)
made_one (Err d) (Ok b) e = let z : ◌≡◌ {A = ℕ} 0 1 = cc in absurd (omega arith)
made_one (Err c) (Err d) e = ap Err (one_refusal c d e)

pub start_one : (a b : Result (Unit {0}) Refusal) → start_says a ≡ start_says b → a ≡ b
start_one (Ok a) (Ok b) e = refl
start_one (Ok a) (Err d) e = let z : ◌≡◌ {A = ℕ} 0 1 = cc in absurd (omega arith)
start_one (Err d) (Ok b) e = let z : ◌≡◌ {A = ℕ} 0 1 = cc in absurd (omega arith)
start_one (Err c) (Err d) e = ap Err (one_refusal c d e)

one_answer : (a b : Answer) (m n : ℕ) → answers (answer_number a) m ≡ answers (answer_number b) n → ◌≡◌ {A = Result Progress Refusal} (Ok (steps.Ended a m)) (Ok (steps.Ended b n))
one_answer a b m n e =
    let f : a ≡ b = sym (answer_number_lem a) ∙ ap answer (let z : answer_number a ≡ answer_number b = cc in z) ∙ answer_number_lem b in
    let g : m ≡ n = cc in
    cc

pub step_one : (a b : Result Progress Refusal) → step_says a ≡ step_says b → a ≡ b
step_one (Ok steps.GoesOn) (Ok steps.GoesOn) e = refl
step_one (Ok steps.GoesOn) (Ok (steps.Ended b n)) e = let z : ◌≡◌ {A = ℕ} 0 1 = cc in absurd (omega arith)
step_one (Ok steps.GoesOn) (Err d) e = let z : ◌≡◌ {A = ℕ} 0 1 = cc in absurd (omega arith)
step_one (Ok (steps.Ended a m)) (Ok steps.GoesOn) e = let z : ◌≡◌ {A = ℕ} 0 1 = cc in absurd (omega arith)
step_one (Ok (steps.Ended a m)) (Ok (steps.Ended b n)) e = one_answer a b m n e
step_one (Ok (steps.Ended a m)) (Err d) e = let z : ◌≡◌ {A = ℕ} 0 1 = cc in absurd (omega arith)
step_one (Err c) (Ok steps.GoesOn) e = let z : ◌≡◌ {A = ℕ} 0 1 = cc in absurd (omega arith)
step_one (Err c) (Ok (steps.Ended b n)) e = let z : ◌≡◌ {A = ℕ} 0 1 = cc in absurd (omega arith)
step_one (Err c) (Err d) e = ap Err (one_refusal c d e)

-- what a call says, by its reasons alone
pub make_says : (b : List ℕ) (row : List Process) (k p n r : ℕ) → made_says (make_call b row k p n r).answer ≡ decide (make_reasons b (length row) k p n r) refuses done
unfolding make_call
make_says b row k p n r =
    decide_on (λ (o : MakeOut). made_says o.answer) (λ i. make_out (Err (refusal i)) b row) (λ i. refuses (number_of (refusal i))) _ (λ i. refl) (make_reasons b (length row) k p n r)

pub start_says_lem : (b : List ℕ) (row : List Process) (n operation key : ℕ) →
    start_says (start_call b row n operation key).answer ≡ decide (start_reasons b (length row) n (record_of row n) operation key) refuses done
unfolding start_call
start_says_lem b row n operation key =
    decide_on (λ (o : StartOut). start_says o.answer) (λ i. start_out (Err (refusal i)) row) (λ i. refuses (number_of (refusal i))) _ (λ i. refl) (start_reasons b (length row) n (record_of row n) operation key)

pub step_says_lem : (b : List ℕ) (row : List Process) (n : ℕ) →
    step_says (step_call b row n).answer ≡ decide (step_reasons b (length row) n (record_of row n)) refuses (step_says (Ok (row_of b (header_of b) n (record_of row n)).stepped.progress))
unfolding step_call
step_says_lem b row n =
    decide_on (λ (o : StepOut). step_says o.answer) (λ i. step_out (Err (refusal i)) b row) (λ i. refuses (number_of (refusal i))) (step_by row n (row_of b (header_of b) n (record_of row n))) (λ i. refl) (step_reasons b (length row) n (record_of row n))
