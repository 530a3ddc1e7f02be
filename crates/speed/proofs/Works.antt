-- Laws of the work: what a change asks, and what a turn of each loop comes to.
use Rattle.std.proofs.Common.{◌≡◌, ℕ, ◌+◌, ◌-◌, ◌*◌, ◌<◌, ◌≤◌, Bool, true, false, ltb, List, Option, sym, ap, ◌∙◌, arith}
use Rattle.tables.specs.Choice.{pick}
use Rattle.tables.proofs.Lists.{left_over}
use Rattle.speed.specs.Operation.{OperateOut, operate_out}
use Rattle.speed.specs.Work.{period_of, is_over, tallied_of, turn_of, DoneOut, done_out, done_from, RoundOut, round_out, fresh_of, changed, after_finds, after_filling, round_of, rounds_from}
use Rattle.speed.specs.declared.work.Work.{Work}
use Rattle.speed.specs.declared.work.Ending.{Ending}
use Rattle.speed.specs.declared.work.Tally.{Tally}
use Rattle.speed.specs.declared.work.Part.{Part}
use Rattle.speed.specs.declared.work.Part.TheVariants as parts

positive : (t : Bool) (n : ℕ) → 0 < pick t (2 * n + 2) 1
unfolding pick
positive true n = omega arith
positive false n = omega arith

pub period_some : (count m : ℕ) → m ≡ period_of count → 0 < m
period_some count m e = rw e (positive (ltb count 1000000) count)

-- an operation of a part, where some are left
module _ {out : DoneOut} (p : Part) (number i : ℕ) (e : Option Ending) (t t' : Tally) (over : Bool) (b b' : List ℕ)
    (some : i < number) (did : operate_out e b' ≡ turn_of p i b) (counted : t' ≡ tallied_of t e) (ends : over ≡ is_over e) (so : done_from p (number - i) i t b ≡ out) where
  done : pick over (done_out t' (i + 1) b') (done_from p (number - (i + 1)) (i + 1) t' b') ≡ out
  unfolding done_from
  done = rw (ends, counted) (ap (λ (o : OperateOut). pick (is_over o.ending) (done_out (tallied_of t o.ending) (i + 1) o.block) (done_from p (number - (i + 1)) (i + 1) (tallied_of t o.ending) o.block)) did
      ∙ (sym (ap (λ (n : ℕ). done_from p n i t b) (left_over number i some)) ∙ so))

  pub last : over ≡ true → done_out t' (i + 1) b' ≡ out
  unfolding pick
  last is = rw is at done

  pub next : over ≡ false → done_from p (number - (i + 1)) (i + 1) t' b' ≡ out
  unfolding pick
  next is = rw is at done

-- none is left
pub all_done : {out : DoneOut} (p : Part) (number i : ℕ) (t : Tally) (b : List ℕ) → number ≤ i → i ≤ number → done_from p (number - i) i t b ≡ out → done_out t number b ≡ out
unfolding done_from
all_done p number i t b l m so = rw (let same : number ≡ i = omega (arith, l, m) in same) (sym (ap (λ (n : ℕ). done_from p n i t b) (let none : number - i ≡ 0 = omega (arith, l) in none)) ∙ so)

-- a round, from what its making and its three parts come to
pub a_round : (w : Work) (t t₁ t₂ t₃ : Tally) (b b₁ b₂ b₃ b₄ : List ℕ) (count m n : ℕ) → b₁ ≡ fresh_of w b → done_out t₁ count b₂ ≡ done_from parts.Filling w.keys 0 t b₁
    → done_out t₂ m b₃ ≡ done_from (parts.Finding count) w.finds 0 t₁ b₂ → done_out t₃ n b₄ ≡ done_from (parts.Changing count) w.changes 0 t₂ b₃ → round_out t₃ b₄ ≡ round_of w t b
unfolding round_of
a_round w t t₁ t₂ t₃ b b₁ b₂ b₃ b₄ count m n em ef es ec =
    ap changed ec ∙ (ap (after_finds w count) es ∙ (ap (after_filling w) ef ∙ ap (λ (l : List ℕ). after_filling w (done_from parts.Filling w.keys 0 t l)) em))

-- a round, where some are left, and none left
pub next_round : {out : RoundOut} (number i : ℕ) (w : Work) (t t' : Tally) (b b' : List ℕ) → i < number → round_out t' b' ≡ round_of w t b → rounds_from (number - i) w t b ≡ out → rounds_from (number - (i + 1)) w t' b' ≡ out
unfolding rounds_from
next_round number i w t t' b b' l e so = ap (λ (o : RoundOut). rounds_from (number - (i + 1)) w o.tally o.block) e ∙ (sym (ap (λ (n : ℕ). rounds_from n w t b) (left_over number i l)) ∙ so)

pub all_rounds : {out : RoundOut} (number i : ℕ) (w : Work) (t : Tally) (b : List ℕ) → number ≤ i → rounds_from (number - i) w t b ≡ out → round_out t b ≡ out
unfolding rounds_from
all_rounds number i w t b l so = sym (ap (λ (n : ℕ). rounds_from n w t b) (let none : number - i ≡ 0 = omega (arith, l) in none)) ∙ so
