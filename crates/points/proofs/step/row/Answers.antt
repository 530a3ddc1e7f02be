-- The row of each point.
use Rattle.points.proofs.Steps.{at_1, at_2, at_3, at_4, at_5, at_6, at_7, at_8, at_9, at_10, at_11, at_12, at_13, at_14}
use Rattle.points.proofs.step.row.Goals as goal

pub returns-in-1 : goal.returns-in-1
returns-in-1 c = search at_1

pub returns-in-2 : goal.returns-in-2
returns-in-2 c = search at_2

pub returns-in-3 : goal.returns-in-3
returns-in-3 c = search at_3

pub returns-in-4 : goal.returns-in-4
returns-in-4 c = search at_4

pub returns-in-5 : goal.returns-in-5
returns-in-5 c = search at_5

pub returns-in-6 : goal.returns-in-6
returns-in-6 c = search at_6

pub returns-in-7 : goal.returns-in-7
returns-in-7 c = search at_7

pub returns-in-8 : goal.returns-in-8
returns-in-8 c = search at_8

pub returns-in-9 : goal.returns-in-9
returns-in-9 c = search at_9

pub returns-in-10 : goal.returns-in-10
returns-in-10 c = search at_10

pub returns-in-11 : goal.returns-in-11
returns-in-11 c = search at_11

pub returns-in-12 : goal.returns-in-12
returns-in-12 c = search at_12

pub returns-in-13 : goal.returns-in-13
returns-in-13 c = search at_13

pub returns-in-14 : goal.returns-in-14
returns-in-14 c = search at_14
