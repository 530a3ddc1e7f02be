-- Points 4 and 5: the compare, the room and the stack top by cases, as a row says them.
use Prim.Native.Nat.{ℕ, ◌<◌}
use mathlib.Core.Path.{◌≡◌, refl, sym, ap, ◌∙◌}
use mathlib.Core.Bool.{Bool, true, false}
use mathlib.Core.List.{List}
use native.Mathlib.Omega.{arith}
use lib.Dec.{eqb}
use borrow.Author.Tests.{lt-ltb}
use Rattle.std.specs.Prelude.{Option, Some, Ok, Err}
use Rattle.tables.specs.Choice.{pick, both, either}
use Rattle.tables.specs.Refusal.{refusal}
use Rattle.tables.specs.Layout.{tag_word, pending_word}
use Rattle.nodes.specs.Pending.{word_of, pending_of, pending_good}
use Rattle.nodes.specs.Node.{kin_of, is_node}
use Rattle.tables.specs.declared.header.Header.{Header}
use Rattle.nodes.specs.declared.node.Kin.{Kin}
use Rattle.nodes.specs.declared.node.Kin.TheVariants.{Leaf, Internal}
use Rattle.process.specs.Process.{with_own, to_six, to_nine}
use Rattle.process.specs.Answer.{answer, going_on, ending_of}
use Rattle.process.specs.declared.Process.{Process}
use Rattle.process.specs.declared.Stepped.{Stepped}
use Rattle.draws.specs.Draw.{new_record, room_for, needed_nodes, replace_drawn, prune_drawn, draw_out}
use Rattle.help.specs.Touch.{Out, out, row_done}
use Rattle.help.specs.Help.{top_of, helping, help_good}
use Rattle.help.specs.Reads.{kin_at}
use Rattle.flag.specs.Rows.{leaf_good4, job_of, row4, row5, prune_flagged}
use Rattle.flag.specs.Parts.{flagged_p, flagged_leaf, flagged_gp}
use Rattle.help.proofs.Rowed.{row_not, kin_is}

-- by cases on the compare, the room and the stack top, as a row says it
flag_rest : (m g room : Bool) (s f u : Stepped) (x b : List ℕ) →
    pick m (out (Ok (pick (pick room (draw_out true x) (draw_out false b)).drawn s f)) (pick room (draw_out true x) (draw_out false b)).block)
    (out (pick g (Ok u) (Err (refusal 3))) b)
    ≡ pick (either m g) (out (Ok (pick m (pick room s f) u)) (pick (both m room) x b)) (out (Err (refusal 3)) b)
unfolding pick both
flag_rest true g true s f u x b = refl
flag_rest true g false s f u x b = refl
flag_rest false true room s f u x b = refl
flag_rest false false room s f u x b = refl

-- a leaf's count is its tag
leaf_tag : (t : Bool) (node tag n c : ℕ) → pick t (Leaf node tag) (Internal node) ≡ Leaf n c → c ≡ tag
unfolding pick
leaf_tag true node tag n c e = cc
leaf_tag false node tag n c e = let z : ◌≡◌ {A = ℕ} 0 1 = cc in absurd (omega arith)

pick_pick : (t u v : Bool) (x y : Out) → pick (both t u) (pick v x y) y ≡ pick (both t (both u v)) x y
unfolding pick both
pick_pick true true v x y = refl
pick_pick true false v x y = refl
pick_pick false u v x y = refl

-- 4 by its last tests: a leaf's count is its tag, and what is left is the compare
module _ (b : List ℕ) (h : Header) (n : ℕ) (q : Process) (word : ℕ) (e1 : word ≡ pending_word b h q.p) (e2 : is_node (kin_of b h q.l) ≡ true) where
  no_leaf : (l : ℕ) → Internal l ≡ kin_at b h q.l → out (Err (refusal 3)) b ≡ row_done b (row4 b h n q)
  unfolding row4 both
  no_leaf l e = row_not b (row4 b h n q) (rw (e2, ← e) refl)

  a_leaf : (l count : ℕ) → Leaf l count ≡ kin_at b h q.l → flagged_leaf b h n q (Leaf l count) word ≡ row_done b (row4 b h n q)
  unfolding row4 row_done flagged_p both
  a_leaf l count e =
      let c : count ≡ tag_word b h q.l = leaf_tag _ q.l (tag_word b h q.l) l count (sym e) in
      ap (λ (x : Out). pick (both (leaf_good4 b h q (Leaf l count)) (pending_good b h (pending_of word))) x (out (Err (refusal 3)) b))
      (flag_rest (eqb word (word_of q.pseen)) (help_good b h q.depth (top_of b h n q) (pending_of word)) (room_for h (needed_nodes h q.operation count))
      (going_on (to_six (with_own q (new_record h)) (new_record h)))
      (ending_of q (answer 2))
      (helping (top_of b h n q) q (pending_of word))
      (replace_drawn b h (job_of n q) count)
      b)
      ∙ pick_pick (leaf_good4 b h q (Leaf l count)) (pending_good b h (pending_of word)) _ _ _
      ∙ rw (e2, ← e, c, e1) refl

  four_rest : (kin : Kin) → kin ≡ kin_at b h q.l → flagged_leaf b h n q kin word ≡ row_done b (row4 b h n q)
  four_rest (Internal l) e = no_leaf l e
  four_rest (Leaf l count) e = a_leaf l count e

module _ (b : List ℕ) (h : Header) (n : ℕ) (q : Process) (c : Option Kin) (e1 : c ≡ kin_of b h q.l) where
  pub four_leaf : (kin : Kin) (word : ℕ) (o : Out) → c ≡ Some kin → word ≡ pending_word b h q.p → o ≡ flagged_leaf b h n q kin word → o ≡ row_done b (row4 b h n q)
  four_leaf kin word o f g i = i ∙ four_rest b h n q word g (ap is_node (sym e1 ∙ f)) kin (kin_is b h q.l kin (sym e1 ∙ f))

-- 5 once p's pending, as it was read, fits a word
module _ (b : List ℕ) (h : Header) (n : ℕ) (q : Process) (word : ℕ) (e1 : word ≡ pending_word b h q.gp) (e2 : pending_good b h (pending_of word) ≡ true) where
  pub gp_row : word_of q.pseen < 4294967296 → flagged_gp b h n q word ≡ prune_flagged b h n q
  unfolding prune_flagged row5 row_done flagged_gp pick both
  gp_row fits =
      flag_rest (eqb word (word_of q.gseen)) (help_good b h q.depth (top_of b h n q) (pending_of word)) (room_for h 0)
      (going_on (to_nine (with_own q (new_record h)) (new_record h)))
      (ending_of q (answer 2))
      (helping (top_of b h n q) q (pending_of word))
      (prune_drawn b h (job_of n q) q.gp (word_of q.pseen))
      b
      ∙ rw (lt-ltb (word_of q.pseen) 4294967296 fits, ← e1, e2) refl
