-- The work of the timed program: which operations, in which order, and how what they come to is counted.
use Rattle.std.specs.Prelude.{ℕ, zero, suc, ◌+◌, ◌*◌, ◌/◌, ◌%◌, ◌^◌, Bool, List, replicate, Option, ◌==◌, nat_lt}
use Rattle.tables.specs.Choice.{pick}
use Rattle.process.specs.Process.{idle}
use Rattle.make.specs.Make.{make_call}
use Rattle.speed.specs.Operation.{number_of, steps_of, OperateOut, operate_of}
use Rattle.speed.specs.declared.work.Work.{Work}
use Rattle.speed.specs.declared.work.Ending.{Ending}
use Rattle.speed.specs.declared.work.Tally.{Tally}
use Rattle.speed.specs.declared.work.Asked.{Asked}
use Rattle.speed.specs.declared.work.Part.{Part}
use Rattle.speed.specs.declared.work.Part.TheVariants as parts

-- keys that are all different, in no order, and below infinity
abbrev pub key_of : ℕ → ℕ
key_of i = ((i + 1) * 2654435761) % 4294967291

-- full or refused
abbrev pub is_over : Option Ending → Bool
is_over e = nat_lt 1 (number_of e)

-- one more where the test holds
abbrev pub one_more_if : Bool → ℕ → ℕ
one_more_if t n = pick t ((n + 1) % 2 ^ 64) n

-- a sum in which the order of what is added counts
abbrev pub mixed_of : ℕ → ℕ → ℕ → ℕ
mixed_of sum answer steps = (sum * 31 + steps * 4 + answer) % 4294967291

abbrev pub tallied_of : Tally → Option Ending → Tally
tallied_of t e = record {
  yes = one_more_if (number_of e == 1) t.yes;
  no = one_more_if (number_of e == 0) t.no;
  full = one_more_if (number_of e == 2) t.full;
  refused = one_more_if (number_of e == 3) t.refused;
  steps = (t.steps + steps_of e) % 2 ^ 64;
  sum = mixed_of t.sum (number_of e) (steps_of e);
}

abbrev pub nothing_yet : Tally
nothing_yet = record { yes = 0; no = 0; full = 0; refused = 0; steps = 0; sum = 0 }

-- finds come round again after twice as many keys as were inserted
abbrev pub period_of : ℕ → ℕ
period_of count = pick (nat_lt count 1000000) (2 * count + 2) 1

-- the oldest key goes, or a new one comes
abbrev pub change_of : ℕ → ℕ → Asked
change_of count i = pick (i % 2 == 0) (record { operation = 3; number = i / 2 }) (record { operation = 2; number = (count + i / 2) % 2 ^ 32 })

-- what operation i of a part asks
abbrev pub asked_of : Part → ℕ → Asked
asked_of parts.Filling i = record { operation = 2; number = i }
asked_of (parts.Finding count) i = record { operation = 1; number = i % period_of count }
asked_of (parts.Changing count) i = change_of count i

abbrev pub did_of : Asked → List ℕ → OperateOut
did_of a b = operate_of b a.operation (key_of a.number)

-- what operation i of a part comes to, and the block then
abbrev pub turn_of : Part → ℕ → List ℕ → OperateOut
turn_of part i b = did_of (asked_of part i) b

-- what a part comes to: the tally, how many operations were tried, and the block then
pub record DoneOut : Type 0 where
  pub tally : Tally
  pub count : ℕ
  pub block : List ℕ

abbrev pub done_out : Tally → ℕ → List ℕ → DoneOut
done_out t n b = record { tally = t; count = n; block = b }

-- so many operations of a part from operation i on, or until one is over
unfoldable pub done_from : Part → ℕ → ℕ → Tally → List ℕ → DoneOut
done_from part zero i t b = done_out t i b
done_from part (suc n) i t b =
    let did = turn_of part i b in let after = tallied_of t did.ending in
    pick (is_over did.ending) (done_out after (i + 1) did.block) (done_from part n (i + 1) after did.block)

-- the tally after a round, and the block then
pub record RoundOut : Type 0 where
  pub tally : Tally
  pub block : List ℕ

abbrev pub round_out : Tally → List ℕ → RoundOut
round_out t b = record { tally = t; block = b }

-- the block of a fresh tree for one process, or the block as it was
abbrev pub fresh_of : Work → List ℕ → List ℕ
fresh_of w b = (make_call b (replicate 32 idle) w.k 1 w.nodes w.records).block

abbrev pub changed : DoneOut → RoundOut
changed c = round_out c.tally c.block

abbrev pub after_finds : Work → ℕ → DoneOut → RoundOut
after_finds w count s = changed (done_from (parts.Changing count) w.changes 0 s.tally s.block)

abbrev pub after_filling : Work → DoneOut → RoundOut
after_filling w f = after_finds w f.count (done_from (parts.Finding f.count) w.finds 0 f.tally f.block)

unfoldable pub round_of : Work → Tally → List ℕ → RoundOut
round_of w t b = after_filling w (done_from parts.Filling w.keys 0 t (fresh_of w b))

unfoldable pub rounds_from : ℕ → Work → Tally → List ℕ → RoundOut
rounds_from zero w t b = round_out t b
rounds_from (suc n) w t b = let done = round_of w t b in rounds_from n w done.tally done.block
