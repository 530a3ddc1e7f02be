-- Computed: document 01's example of a script and of what is printed, numbers at the limit, and lines that are not in their form.
use mathlib.Core.Path.{◌≡◌, refl}
use mathlib.Core.List.{[], ◌∷◌, ◌++◌}
use lib.ListN.{replicate}
use Rattle.std.specs.Prelude.{Some, None}
use Rattle.tables.specs.Choice.{pick, both}
use Rattle.print.specs.Text.{bytes, front, behind, value_from, digits_of, decimal}
use Rattle.script.specs.Reading.{expect, ended, number_in, op_of, op_in, field, op_behind, line_of}
use Rattle.print.specs.Writing.{named, op_field, answer_field, answer_line, refused_line, count_line, key_line, out, written}
use Rattle.script.specs.declared.lines.Line.TheVariants as Line

-- the lines of the example
pub example_script : (line_of (bytes "k=2 processes=1 nodes=16 records=8") ≡ Some (Line.Making (record { k = 2; processes = 1; nodes = 16; records = 8 })))
    × ((line_of (bytes "start=1 op=insert key=3") ≡ Some (Line.Start (record { process = 1; op = 2; key = 3 })))
    × ((line_of (bytes "start=1 op=find key=4") ≡ Some (Line.Start (record { process = 1; op = 1; key = 4 })))
    × ((line_of (bytes "start=1 op=delete key=3") ≡ Some (Line.Start (record { process = 1; op = 3; key = 3 })))
    × ((line_of (bytes "step=1 times=15") ≡ Some (Line.Steps (record { process = 1; times = 15 }))) × (line_of (bytes "list=all") ≡ Some Line.List)))))
unfolding line_of pick both front behind value_from expect ended number_in op_of op_in field op_behind
example_script = (refl, (refl, (refl, (refl, (refl, refl)))))

-- what it prints
pub example_printed : (answer_line (record { process = 1; op = 2; key = 3; answer = 1; steps = 8 }) ≡ bytes "process=1 op=insert key=3 answer=yes steps=8\n")
    × ((answer_line (record { process = 1; op = 1; key = 4; answer = 0; steps = 6 }) ≡ bytes "process=1 op=find key=4 answer=no steps=6\n")
    × ((answer_line (record { process = 1; op = 3; key = 3; answer = 1; steps = 15 }) ≡ bytes "process=1 op=delete key=3 answer=yes steps=15\n")
    × ((count_line (record { count = 1; nodes = 9; records = 3 }) ≡ bytes "count=1 nodes=9 records=3\n")
    × ((key_line 5 ≡ bytes "key=5\n") × (refused_line 11 ≡ bytes "refused=11\n")))))
unfolding pick named op_field answer_field digits_of decimal
example_printed = (refl, (refl, (refl, (refl, (refl, refl)))))

-- "An absent k field is k=0", which may be written too; leading zeros are digits; an unknown op is passed on as 0; 4,294,967,295 fits
pub read_too : (line_of (bytes "processes=1 nodes=16 records=8") ≡ Some (Line.Making (record { k = 0; processes = 1; nodes = 16; records = 8 })))
    × ((line_of (bytes "k=0 processes=1 nodes=16 records=8") ≡ Some (Line.Making (record { k = 0; processes = 1; nodes = 16; records = 8 })))
    × ((line_of (bytes "step=0000000000001 times=4294967295") ≡ Some (Line.Steps (record { process = 1; times = 4294967295 })))
    × (line_of (bytes "start=1 op=Find key=4294967295") ≡ Some (Line.Start (record { process = 1; op = 0; key = 4294967295 })))))
unfolding line_of pick both front behind value_from expect ended number_in op_of op_in field op_behind
read_too = (refl, (refl, (refl, refl)))

pub greatest_key : key_line 4294967295 ≡ bytes "key=4294967295\n"
unfolding pick named digits_of decimal
greatest_key = refl

-- not in their form: the empty line; one space too many, before, between, after; a tab; a newline; a number of 33 bits, none, or with a sign; a field too few, too many, or out of order
pub not_forms : (line_of [] ≡ None)
    × ((line_of (bytes " list=all") ≡ None)
    × ((line_of (bytes "step=1  times=8") ≡ None)
    × ((line_of (bytes "list=all ") ≡ None)
    × ((line_of (bytes "step=1\ttimes=8") ≡ None)
    × ((line_of (bytes "step=1 times=8\n") ≡ None)
    × ((line_of (bytes "step=1 times=4294967296") ≡ None)
    × ((line_of (bytes "step=1 times=") ≡ None)
    × ((line_of (bytes "step=1 times=+8") ≡ None)
    × ((line_of (bytes "k=2 processes=1 nodes=16") ≡ None)
    × ((line_of (bytes "step=1 times=8 key=3") ≡ None)
    × ((line_of (bytes "start=1 key=3 op=find") ≡ None) × (line_of (bytes "start=1 op= key=3") ≡ None))))))))))))
unfolding line_of pick both front behind value_from expect ended number_in op_of op_in field op_behind
not_forms = (refl, (refl, (refl, (refl, (refl, (refl, (refl, (refl, (refl, (refl, (refl, (refl, refl))))))))))))

-- as many zeros as make a line of 4,096 bytes are read, and one more is too many
pub longest_line : (line_of (bytes "step=" ++ replicate 4083 48 ++ bytes "1 times=8") ≡ None) × (line_of (bytes "step=" ++ replicate 4082 48 ++ bytes "1 times=8") ≡ Some (Line.Steps (record { process = 1; times = 8 })))
unfolding line_of pick both front behind value_from expect ended number_in op_of op_in field op_behind
longest_line = (refl, refl)

-- a line is written as far as the buffer reaches
pub cut_short : (written (replicate 8 0) 2 (key_line 5) ≡ out 8 (0 ∷ 0 ∷ bytes "key=5\n")) × (written (replicate 7 0) 2 (key_line 5) ≡ out 7 (0 ∷ 0 ∷ bytes "key=5"))
unfolding pick named digits_of decimal written
cut_short = (refl, refl)
