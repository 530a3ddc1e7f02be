-- Document 01, "Table of small runs: To prove, together (k=2, one process, 16 nodes, 8 records unless said)".
use Rattle.std.specs.Prelude.{ℕ, List, [], ◌∷◌, ◌++◌, replicate}
use Rattle.process.specs.Process.{idle}
use Rattle.link.specs.Events.{Event, start, State}
use Rattle.claim.specs.Claim.{made}
use Rattle.runs.specs.Run.{steps, Told, told, Word, word, Run}

-- answers: 0 no, 1 yes, 2 full; operations: 1 find, 2 insert, 3 delete
abbrev row : State → List Event → List Told → ℕ → ℕ → List Word → List ℕ → Run
row begin events tolds nodes records words keys =
    record { begin = begin; events = events; outcome = record { tolds = tolds; nodes = nodes; records = records; words = words; keys = keys } }

abbrev insert3 : List Event
insert3 = start 1 2 3 ∷ steps 1 8

abbrev insert5 : List Event
insert5 = start 1 2 5 ∷ steps 1 8

-- made with these numbers over a block of zeros, as long as two processes need
abbrev fresh : ℕ → ℕ → ℕ → ℕ → State
fresh k processes nodes records = made (replicate 160 0) (replicate processes idle) k processes nodes records

abbrev usual : State
usual = fresh 2 1 16 8

abbrev pub run_c : Run
run_c = row usual (insert3 ++ start 1 2 3 ∷ steps 1 4) (told 1 1 8 ∷ told 1 0 4 ∷ []) 6 1 [] (3 ∷ [])

abbrev pub run_g : Run
run_g = row (fresh 2 1 5 8) (start 1 2 3 ∷ steps 1 5) (told 1 2 5 ∷ []) 5 0 [] []

abbrev pub run_j : Run
run_j =
    row (fresh 2 2 16 8)
    (insert3 ++ (insert5 ++ start 1 3 3 ∷ (steps 1 9 ++ start 2 2 4 ∷ (steps 2 7 ++ (steps 1 22 ++ steps 2 3)))))
    (told 1 1 8 ∷ told 1 1 8 ∷ told 1 1 31 ∷ told 2 1 10 ∷ [])
    12
    5
    []
    (4 ∷ 5 ∷ [])

-- "(a) fresh, find 3: no, 4 steps."
-- "(b) insert 3: yes, 8; new leaf 6."
-- "(c) again: no, 4."
-- "(d) then insert 5: nodes 7, 8, 9; node 7's pending is 8."
-- "(e) from (b), delete 3: yes, 10."
-- "(f) from (d), delete 3: yes, 15; dummy's first child is 9."
-- "(g) node limit 5, insert 3: full, 5."
-- "(h) limit 6, insert 3 then 5: yes, then full at 5."
-- "(i) record limit 1, insert 3, delete 3: full, 7."
-- "(j) From (d), process 1 of two takes 9 steps of delete 3; process 2 takes 7 steps of insert 4; process 1 runs on to yes at 31;
-- process 2 runs on to yes at 10; set 4 and 5, 12 nodes, 5 records."
unfoldable pub table : List Run
table =
    row usual (start 1 1 3 ∷ steps 1 4) (told 1 0 4 ∷ []) 5 0 [] []
    ∷ row usual insert3 (told 1 1 8 ∷ []) 6 1 (word 2 2 6 ∷ word 6 0 1 ∷ word 6 1 3 ∷ []) (3 ∷ [])
    ∷ run_c
    ∷ row usual (insert3 ++ insert5) (told 1 1 8 ∷ told 1 1 8 ∷ []) 9 2
    (word 2 2 7 ∷ word 7 0 2 ∷ word 7 1 5 ∷ word 7 2 8 ∷ word 7 3 9 ∷ word 7 4 8 ∷ word 8 1 3 ∷ word 9 1 5 ∷ [])
    (3 ∷ 5 ∷ [])
    ∷ row usual (insert3 ++ start 1 3 3 ∷ steps 1 10) (told 1 1 8 ∷ told 1 1 10 ∷ []) 7 2 [] []
    ∷ row usual (insert3 ++ (insert5 ++ start 1 3 3 ∷ steps 1 15)) (told 1 1 8 ∷ told 1 1 8 ∷ told 1 1 15 ∷ []) 9 3 (word 2 2 9 ∷ []) (5 ∷ [])
    ∷ run_g
    ∷ row (fresh 2 1 6 8) (insert3 ++ start 1 2 5 ∷ steps 1 5) (told 1 1 8 ∷ told 1 2 5 ∷ []) 6 1 [] (3 ∷ [])
    ∷ row (fresh 2 1 16 1) (insert3 ++ start 1 3 3 ∷ steps 1 7) (told 1 1 8 ∷ told 1 2 7 ∷ []) 6 1 [] (3 ∷ [])
    ∷ run_j
    ∷ []
