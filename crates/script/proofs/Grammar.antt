-- Reading takes what has the form of a line, and nothing else: the grammar and the reading agree on every list of bytes.
use Prim.Native.Nat.{ℕ, ◌≤◌}
use mathlib.Core.Path.{◌≡◌, refl, sym, ap, subst, ◌∙◌}
use mathlib.Core.Bool.{Bool, true, false}
use mathlib.Core.List.{List, [], ◌∷◌, ◌++◌, append-nil, append_assoc}
use mathlib.Core.Logic.{◌⊎◌, inl, inr, ⊎_elim}
use lib.Dec.{leb, ltb, eqb}
use lib.ListN.{length}
use borrow.Author.Tests.{lt-ltb, le-ltb, le-leb, leb-true, ltb-true, ltb-false, eq-eqb, eqb-true}
use Rattle.std.specs.Prelude.{Option, Some, None}
use Rattle.tables.specs.Choice.{pick, both}
use Rattle.tables.proofs.Picks.{both_1, both_2}
use Rattle.print.specs.Text.{bytes, is_digit, in_word, front, behind, value_of}
use Rattle.script.specs.Reading.{Found, then, expect, ended, found, most, number_in, op_of, op_in, field, op_behind, at_end}
use Rattle.script.specs.Reading.{making_from, making_with_k, start_of, steps_of, list_of, first_of, longest, line_of}
use Rattle.script.specs.Form.{All, none, also, Numeral, Word, InForm, making, making_without_k, start, steps, list}
use Rattle.script.specs.declared.lines.Line.{Line}
use Rattle.script.proofs.Runs.{front_behind}

-- a part that is there, and what was made of it
pub then_found : {A B : Type 0} (o : Option A) (f : A → Option B) (y : B) → then o f ≡ Some y → (x : A) × ((o ≡ Some x) × (f x ≡ Some y))
then_found None f y e = cc
then_found (Some x) f y e = (x, (refl, e))

-- a literal is read where it stands, and only there
pub expect_there : (w l : List ℕ) → expect w (w ++ l) ≡ Some l
unfolding expect pick
expect_there [] l = refl
expect_there (c ∷ w) l = rw (eq-eqb c c refl) (expect_there w l)

pub expect_found : (w l m : List ℕ) → expect w l ≡ Some m → l ≡ w ++ m
unfolding expect pick
expect_found [] l m e = cc
expect_found (c ∷ w) [] m e = cc
expect_found (c ∷ w) (x ∷ l) m e = go (eqb x c) refl e (expect_found w l m)
  where
    go : (t : Bool) → eqb x c ≡ t → pick t (expect w l) None ≡ Some m → (expect w l ≡ Some m → l ≡ w ++ m) → x ∷ l ≡ c ∷ (w ++ m)
    go true q f r = cc (eqb-true x c q, r f)
    go false q f r = cc

-- a run of bytes that pass a test, before one that does not
module _ (test : ℕ → Bool) where
  pub front_all : (ds l : List ℕ) → All test ds → front test l ≡ [] → front test (ds ++ l) ≡ ds
  unfolding front pick
  front_all [] l none s = s
  front_all (x ∷ ds) l (also p a) s = rw (p, front_all ds l a s)

  pub behind_stop : (l : List ℕ) → front test l ≡ [] → behind test l ≡ l
  behind_stop l s = ap (λ (f : List ℕ). f ++ behind test l) (sym s) ∙ front_behind test l

  pub behind_all : (ds l : List ℕ) → All test ds → front test l ≡ [] → behind test (ds ++ l) ≡ l
  unfolding behind pick
  behind_all [] l none s = behind_stop l s
  behind_all (x ∷ ds) l (also p a) s = rw (p, behind_all ds l a s)

  pub all_front : (l : List ℕ) → All test (front test l)
  unfolding front pick
  all_front [] = none
  all_front (x ∷ l) = go (test x) refl (all_front l)
    where
      go : (t : Bool) → test x ≡ t → All test (front test l) → All test (pick t (x ∷ front test l) [])
      go true e a = also e a
      go false e a = none

-- a number, and a word, before what ends them
pub number_there : (n : ℕ) (ds l : List ℕ) → Numeral n ds → front is_digit l ≡ [] → number_in (ds ++ l) ≡ found n l
unfolding number_in pick both
number_there n ds l d s =
    rw (front_all is_digit ds l d.digits.all s, behind_all is_digit ds l d.digits.all s, lt-ltb 0 (length ds) d.digits.some, d.digits.value, le-leb n most d.fits)

pub op_there : (w l : List ℕ) → Word w → front in_word l ≡ [] → op_in (w ++ l) ≡ found (op_of w) l
unfolding op_in pick
op_there w l d s = rw (front_all in_word w l d.inside s, behind_all in_word w l d.inside s, lt-ltb 0 (length w) d.some)

pub field_there : (name : List ℕ) (n : ℕ) (ds l : List ℕ) → Numeral n ds → front is_digit l ≡ [] → field name (name ++ (ds ++ l)) ≡ found n l
unfolding field
field_there name n ds l d s = rw (expect_there name (ds ++ l)) (number_there n ds l d s)

pub op_field_there : (name w l : List ℕ) → Word w → front in_word l ≡ [] → op_behind name (name ++ (w ++ l)) ≡ found (op_of w) l
unfolding op_behind
op_field_there name w l d s = rw (expect_there name (w ++ l)) (op_there w l d s)

-- the other way: what a number and a word were read from
pub number_found : (l : List ℕ) (f : Found) → number_in l ≡ Some f → Numeral f.value (front is_digit l) × (l ≡ front is_digit l ++ f.rest)
unfolding number_in pick
number_found l f = go (both (ltb 0 (length (front is_digit l))) (leb (value_of (front is_digit l)) most)) refl
  where
    go : (t : Bool) → both (ltb 0 (length (front is_digit l))) (leb (value_of (front is_digit l)) most) ≡ t →
        pick t (found (value_of (front is_digit l)) (behind is_digit l)) None ≡ Some f → Numeral f.value (front is_digit l) × (l ≡ front is_digit l ++ f.rest)
    go true e g =
        let v : value_of (front is_digit l) ≡ f.value = cc in
        let r : behind is_digit l ≡ f.rest = cc in (
          record {
            digits = record { some = ltb-true 0 (length (front is_digit l)) (both_1 _ _ e); all = all_front is_digit l; value = v };
            fits = rw v at (leb-true (value_of (front is_digit l)) most (both_2 _ _ e));
          },
          sym (front_behind is_digit l) ∙ ap (λ (r : List ℕ). front is_digit l ++ r) r,
        )
    go false e g = cc

pub op_found : (l : List ℕ) (f : Found) → op_in l ≡ Some f → Word (front in_word l) × ((f.value ≡ op_of (front in_word l)) × (l ≡ front in_word l ++ f.rest))
unfolding op_in pick
op_found l f = go (ltb 0 (length (front in_word l))) refl
  where
    go : (t : Bool) → ltb 0 (length (front in_word l)) ≡ t → pick t (found (op_of (front in_word l)) (behind in_word l)) None ≡ Some f →
        Word (front in_word l) × ((f.value ≡ op_of (front in_word l)) × (l ≡ front in_word l ++ f.rest))
    go true e g = (
      record { some = ltb-true 0 (length (front in_word l)) e; inside = all_front in_word l },
      (cc, sym (front_behind in_word l) ∙ ap (λ (r : List ℕ). front in_word l ++ r) (cc)),
    )
    go false e g = cc

-- where a field was read: its digits, and what stood there
pub record Field (name l : List ℕ) (n : ℕ) (m : List ℕ) : Type 0 where
  pub ds : List ℕ
  pub numeral : Numeral n ds
  pub stood : l ≡ name ++ (ds ++ m)

pub field_found : (name l : List ℕ) (f : Found) → field name l ≡ Some f → Field name l f.value f.rest
unfolding field
field_found name l f e =
    let t = then_found (expect name l) number_in f e in
    let r = number_found t.0 f t.1.1 in
    record { ds = front is_digit t.0; numeral = r.0; stood = expect_found name l t.0 t.1.0 ∙ ap (λ (x : List ℕ). name ++ x) r.1 }

pub record OpField (name l : List ℕ) (n : ℕ) (m : List ℕ) : Type 0 where
  pub word : List ℕ
  pub good : Word word
  pub value : n ≡ op_of word
  pub stood : l ≡ name ++ (word ++ m)

pub op_field_found : (name l : List ℕ) (f : Found) → op_behind name l ≡ Some f → OpField name l f.value f.rest
unfolding op_behind
op_field_found name l f e =
    let t = then_found (expect name l) op_in f e in
    let r = op_found t.0 f t.1.1 in
    record { word = front in_word t.0; good = r.0; value = r.1.0; stood = expect_found name l t.0 t.1.0 ∙ ap (λ (x : List ℕ). name ++ x) r.1.1 }

-- a line that is in its form ended where it should
at_end_found : (l : List ℕ) (x y : Line) → at_end l x ≡ Some y → (l ≡ []) × (x ≡ y)
unfolding pick ended
at_end_found [] x y e = (refl, cc)
at_end_found (z ∷ l) x y e = cc

first_found : (a b : Option Line) (x : Line) → first_of a b ≡ Some x → (a ≡ Some x) ⊎ (b ≡ Some x)
first_found (Some y) b x e = inl e
first_found None b x e = inr e

-- the parts of each form, one behind another
module _ (a b c d : List ℕ) where
  making_parts : bytes "processes=" ++ (b ++ (bytes " nodes=" ++ (c ++ (bytes " records=" ++ (d ++ []))))) ≡ bytes "processes=" ++ b ++ bytes " nodes=" ++ c ++ bytes " records=" ++ d
  making_parts = simp (append_assoc, append-nil)

  with_k_parts : bytes "k=" ++ (a ++ (bytes " processes=" ++ (b ++ (bytes " nodes=" ++ (c ++ (bytes " records=" ++ (d ++ [])))))))
      ≡ bytes "k=" ++ a ++ bytes " processes=" ++ b ++ bytes " nodes=" ++ c ++ bytes " records=" ++ d
  with_k_parts = simp (append_assoc, append-nil)

  start_parts : bytes "start=" ++ (a ++ (bytes " op=" ++ (b ++ (bytes " key=" ++ (c ++ []))))) ≡ bytes "start=" ++ a ++ bytes " op=" ++ b ++ bytes " key=" ++ c
  start_parts = simp (append_assoc, append-nil)

  steps_parts : bytes "step=" ++ (a ++ (bytes " times=" ++ (b ++ []))) ≡ bytes "step=" ++ a ++ bytes " times=" ++ b
  steps_parts = simp (append_assoc, append-nil)

-- what each form was read from
record MakingRead (k : ℕ) (l : List ℕ) (x : Line) : Type 0 where
  p : ℕ
  n : ℕ
  r : ℕ
  b : List ℕ
  c : List ℕ
  d : List ℕ
  processes : Numeral p b
  nodes : Numeral n c
  records : Numeral r d
  stood : l ≡ bytes "processes=" ++ (b ++ (bytes " nodes=" ++ (c ++ (bytes " records=" ++ (d ++ [])))))
  is : Line.Making (record { k = k; processes = p; nodes = n; records = r }) ≡ x

making_found : (k : ℕ) (l : List ℕ) (x : Line) → making_from k l ≡ Some x → MakingRead k l x
making_found k l x e =
    let p = then_found (field (bytes "processes=") l) _ x e in
    let n = then_found (field (bytes " nodes=") p.0.rest) _ x p.1.1 in
    let r = then_found (field (bytes " records=") n.0.rest) _ x n.1.1 in
    let end = at_end_found r.0.rest _ x r.1.1 in
    let fp = field_found (bytes "processes=") l p.0 p.1.0 in
    let fn = field_found (bytes " nodes=") p.0.rest n.0 n.1.0 in
    let fr = field_found (bytes " records=") n.0.rest r.0 r.1.0 in
    record {
      p = p.0.value;
      n = n.0.value;
      r = r.0.value;
      b = fp.ds;
      c = fn.ds;
      d = fr.ds;
      processes = fp.numeral;
      nodes = fn.numeral;
      records = fr.numeral;
      stood = rw (fn.stood, fr.stood, end.0) at fp.stood;
      is = end.1;
    }

module _ (l : List ℕ) (x : Line) where
  with_k_found : making_with_k l ≡ Some x → InForm l x
  with_k_found e =
      let k = then_found (field (bytes "k=") l) _ x e in
      let s = then_found (expect (bytes " ") k.0.rest) (making_from k.0.value) x k.1.1 in
      let m = making_found k.0.value s.0 x s.1.1 in
      let fk = field_found (bytes "k=") l k.0 k.1.0 in
      subst (λ (y : Line). InForm l y) m.is
      (making k.0.value m.p m.n m.r fk.ds m.b m.c m.d fk.numeral m.processes m.nodes m.records
      (rw (expect_found (bytes " ") k.0.rest s.0 s.1.0, m.stood, with_k_parts fk.ds m.b m.c m.d) at fk.stood))

  without_k_found : making_from 0 l ≡ Some x → InForm l x
  without_k_found e =
      let m = making_found 0 l x e in
      subst (λ (y : Line). InForm l y) m.is
      (making_without_k m.p m.n m.r m.b m.c m.d m.processes m.nodes m.records (m.stood ∙ making_parts [] m.b m.c m.d))

  start_found : start_of l ≡ Some x → InForm l x
  start_found e =
      let p = then_found (field (bytes "start=") l) _ x e in
      let w = then_found (op_behind (bytes " op=") p.0.rest) _ x p.1.1 in
      let y = then_found (field (bytes " key=") w.0.rest) _ x w.1.1 in
      let end = at_end_found y.0.rest _ x y.1.1 in
      let fp = field_found (bytes "start=") l p.0 p.1.0 in
      let fw = op_field_found (bytes " op=") p.0.rest w.0 w.1.0 in
      let fy = field_found (bytes " key=") w.0.rest y.0 y.1.0 in
      subst (λ (z : Line). InForm l z) (rw (← fw.value) end.1)
      (start p.0.value y.0.value fp.ds fw.word fy.ds fp.numeral fw.good fy.numeral
      (rw (fw.stood, fy.stood, end.0, start_parts fp.ds fw.word fy.ds []) at fp.stood))

  steps_found : steps_of l ≡ Some x → InForm l x
  steps_found e =
      let p = then_found (field (bytes "step=") l) _ x e in
      let t = then_found (field (bytes " times=") p.0.rest) _ x p.1.1 in
      let end = at_end_found t.0.rest _ x t.1.1 in
      let fp = field_found (bytes "step=") l p.0 p.1.0 in
      let ft = field_found (bytes " times=") p.0.rest t.0 t.1.0 in
      subst (λ (z : Line). InForm l z) end.1
      (steps p.0.value t.0.value fp.ds ft.ds fp.numeral ft.numeral (rw (ft.stood, end.0, steps_parts fp.ds ft.ds [] []) at fp.stood))

  list_found : list_of l ≡ Some x → InForm l x
  list_found e =
      let t = then_found (expect (bytes "list=all") l) _ x e in
      let end = at_end_found t.0 Line.List x t.1.1 in
      subst (λ (z : Line). InForm l z) end.1 (list (expect_found (bytes "list=all") l [] (rw end.0 at t.1.0)))

-- a line that is read as something has its form, and is not too long
pub read_in_form : (l : List ℕ) (x : Line) → line_of l ≡ Some x → (length l ≤ longest) × InForm l x
unfolding line_of pick
read_in_form l x e = go (ltb longest (length l)) refl e
  where
    forms : Option Line
    forms = first_of (making_with_k l) (first_of (making_from 0 l) (first_of (start_of l) (first_of (steps_of l) (list_of l))))

    form : forms ≡ Some x → InForm l x
    form f = ⊎_elim (with_k_found l x)
        (λ g. ⊎_elim (without_k_found l x)
        (λ h. ⊎_elim (start_found l x) (λ i. ⊎_elim (steps_found l x) (list_found l x) (first_found _ _ x i)) (first_found _ _ x h)) (first_found _ _ x g))
        (first_found _ _ x f)

    go : (t : Bool) → ltb longest (length l) ≡ t → pick t None forms ≡ Some x → (length l ≤ longest) × InForm l x
    go true p f = cc
    go false p f = (ltb-false longest (length l) p, form f)

-- what has the form of a line is read as that
making_there : (k p n r : ℕ) (b c d : List ℕ) → Numeral p b → Numeral n c → Numeral r d →
    making_from k ((bytes "processes=" ++ (b ++ (bytes " nodes=" ++ (c ++ (bytes " records=" ++ (d ++ [])))))))
    ≡ Some (Line.Making (record { k = k; processes = p; nodes = n; records = r }))
unfolding front pick both ended
making_there k p n r b c d kb kc kd =
    rw (
      field_there (bytes "processes=") p b (bytes " nodes=" ++ (c ++ (bytes " records=" ++ (d ++ [])))) kb refl,
      field_there (bytes " nodes=") n c (bytes " records=" ++ (d ++ [])) kc refl,
      field_there (bytes " records=") r d [] kd refl,
    )

with_k_there : (k p n r : ℕ) (a b c d : List ℕ) → Numeral k a → Numeral p b → Numeral n c → Numeral r d →
    making_with_k (bytes "k=" ++ (a ++ (bytes " processes=" ++ (b ++ (bytes " nodes=" ++ (c ++ (bytes " records=" ++ (d ++ []))))))))
    ≡ Some (Line.Making (record { k = k; processes = p; nodes = n; records = r }))
unfolding front pick both expect
with_k_there k p n r a b c d ka kb kc kd =
    rw (field_there (bytes "k=") k a (bytes " processes=" ++ (b ++ (bytes " nodes=" ++ (c ++ (bytes " records=" ++ (d ++ [])))))) ka refl)
    (making_there k p n r b c d kb kc kd)

start_there : (p x : ℕ) (a w b : List ℕ) → Numeral p a → Word w → Numeral x b →
    start_of (bytes "start=" ++ (a ++ (bytes " op=" ++ (w ++ (bytes " key=" ++ (b ++ [])))))) ≡ Some (Line.Start (record { process = p; op = op_of w; key = x }))
unfolding front pick both ended
start_there p x a w b ka kw kb =
    rw (
      field_there (bytes "start=") p a (bytes " op=" ++ (w ++ (bytes " key=" ++ (b ++ [])))) ka refl,
      op_field_there (bytes " op=") w (bytes " key=" ++ (b ++ [])) kw refl,
      field_there (bytes " key=") x b [] kb refl,
    )

steps_there : (p t : ℕ) (a b : List ℕ) → Numeral p a → Numeral t b →
    steps_of (bytes "step=" ++ (a ++ (bytes " times=" ++ (b ++ [])))) ≡ Some (Line.Steps (record { process = p; times = t }))
unfolding front pick both ended
steps_there p t a b ka kb =
    rw (field_there (bytes "step=") p a (bytes " times=" ++ (b ++ [])) ka refl, field_there (bytes " times=") t b [] kb refl)

-- a line that begins as one form has none of the others
module _ (l : List ℕ) where
  plain_not_k : making_with_k (bytes "processes=" ++ l) ≡ None
  unfolding field expect pick ended
  plain_not_k = refl

  start_not_k : making_with_k (bytes "start=" ++ l) ≡ None
  unfolding field expect pick ended
  start_not_k = refl

  start_not_plain : making_from 0 ((bytes "start=" ++ l)) ≡ None
  unfolding field expect pick ended
  start_not_plain = refl

  steps_not_k : making_with_k (bytes "step=" ++ l) ≡ None
  unfolding field expect pick ended
  steps_not_k = refl

  steps_not_plain : making_from 0 ((bytes "step=" ++ l)) ≡ None
  unfolding field expect pick ended
  steps_not_plain = refl

  steps_not_start : start_of (bytes "step=" ++ l) ≡ None
  unfolding field op_behind expect pick ended
  steps_not_start = refl

  line_forms : length l ≤ longest →
      line_of l ≡ first_of (making_with_k l) (first_of (making_from 0 l) (first_of (start_of l) (first_of (steps_of l) (list_of l))))
  unfolding line_of pick
  line_forms h = rw (le-ltb longest (length l) h)

list_read : first_of (making_with_k (bytes "list=all"))
    (first_of (making_from 0 ((bytes "list=all"))) (first_of (start_of (bytes "list=all")) (first_of (steps_of (bytes "list=all")) (list_of (bytes "list=all"))))) ≡ Some Line.List
unfolding field op_behind expect pick ended
list_read = refl

pub in_form_read : (l : List ℕ) (x : Line) → length l ≤ longest → InForm l x → line_of l ≡ Some x
in_form_read l x h (making k p n r a b c d ka kb kc kd e) =
    line_forms l h ∙ rw (e ∙ sym (with_k_parts a b c d), with_k_there k p n r a b c d ka kb kc kd)
in_form_read l x h (making_without_k p n r b c d kb kc kd e) =
    line_forms l h ∙ rw (e ∙ sym (making_parts [] b c d), plain_not_k (b ++ (bytes " nodes=" ++ (c ++ (bytes " records=" ++ (d ++ []))))), making_there 0 p n r b c d kb kc kd)
in_form_read l x h (start p y a w b ka kw kb e) =
    let rest = a ++ (bytes " op=" ++ (w ++ (bytes " key=" ++ (b ++ [])))) in
    line_forms l h ∙ rw (e ∙ sym (start_parts a w b []), start_not_k rest, start_not_plain rest, start_there p y a w b ka kw kb)
in_form_read l x h (steps p t a b ka kb e) =
    let rest = a ++ (bytes " times=" ++ (b ++ [])) in
    line_forms l h ∙ rw (e ∙ sym (steps_parts a b [] []), steps_not_k rest, steps_not_plain rest, steps_not_start rest, steps_there p t a b ka kb)
in_form_read l x h (list e) = line_forms l h ∙ rw e list_read

-- every line that is not too long and has a form is read; every other list of bytes is not in its form
pub not_in_form : (l : List ℕ) → ((x : Line) → length l ≤ longest → InForm l x → ⊥) → line_of l ≡ None
not_in_form l q = go (line_of l) refl
  where
    go : (o : Option Line) → line_of l ≡ o → line_of l ≡ None
    go (Some x) e = let r = read_in_form l x e in absurd (q x r.0 r.1)
    go None e = e

-- a line has one form only
pub one_form : (l : List ℕ) (x y : Line) → length l ≤ longest → InForm l x → InForm l y → x ≡ y
one_form l x y h a b = let e : Some x ≡ Some y = sym (in_form_read l x h a) ∙ in_form_read l y h b in cc
