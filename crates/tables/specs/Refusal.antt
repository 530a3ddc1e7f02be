-- The refusals of document 01's table, in its order.
use Rattle.std.specs.Prelude.{ℕ, ◌-◌, List, [], ◌∷◌, get_or}
use Rattle.tables.specs.declared.numbers.Refusal.{Refusal}
use Rattle.tables.specs.declared.numbers.Refusal.TheVariants.{MakingNumber, TooShort, Damaged, NoSuchProcess, UnknownOperation, InfinityGiven, Busy, Idle, ListTooShort, LowAboveHigh, NotInForm}

-- the number of each refusal
abbrev pub number_of : Refusal → ℕ
number_of MakingNumber = 1
number_of TooShort = 2
number_of Damaged = 3
number_of NoSuchProcess = 4
number_of UnknownOperation = 5
number_of InfinityGiven = 6
number_of Busy = 7
number_of Idle = 8
number_of ListTooShort = 9
number_of LowAboveHigh = 10
number_of NotInForm = 11

-- the refusals in the order of their numbers, from 1
abbrev pub refusals : List Refusal
refusals =
    MakingNumber
    ∷ TooShort
    ∷ Damaged
    ∷ NoSuchProcess
    ∷ UnknownOperation
    ∷ InfinityGiven
    ∷ Busy
    ∷ Idle
    ∷ ListTooShort
    ∷ LowAboveHigh
    ∷ NotInForm
    ∷ []

-- the refusal of a number
abbrev pub refusal : ℕ → Refusal
refusal n = get_or refusals (n - 1) Damaged
