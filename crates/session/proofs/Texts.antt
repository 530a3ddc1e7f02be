-- Lines of keys, one behind another, and what is printed by what is said.
use Prim.Native.Nat.{ℕ, ◌+◌, ◌≤◌, ◌<◌}
use mathlib.Core.Path.{◌≡◌, refl, sym, ap, ◌∙◌}
use mathlib.Core.List.{List}
use native.Mathlib.Numerals.{add-one}
use lib.ListN.{length, get_or, take, drop, drop_of_length-le}
use lib.Seq.{drop-cons}
use Rattle.tables.specs.Refusal.{number_of}
use Rattle.tables.specs.declared.numbers.Refusal.{Refusal}
use Rattle.print.specs.Writing.{Out, out, written, key_line, answer_line, refused_line, count_line}
use Rattle.print.specs.declared.lines.AnswerLine.{AnswerLine}
use Rattle.print.specs.declared.lines.CountLine.{CountLine}
use Rattle.print.proofs.Buffers.{written-append, joined}
use Rattle.session.specs.Text.{key_lines, said_text}
use Rattle.session.specs.declared.line.Said.{Said}
use Rattle.session.specs.declared.line.Said.TheVariants as said

module _ (w : Out) (b keys : List ℕ) (at i : ℕ) (inv : w ≡ written b at (key_lines (drop i keys))) where
  pub keys_again : (b' : List ℕ) (next : ℕ) → i < length keys → out next b' ≡ written b at (key_line (get_or keys i 0)) → w ≡ written b' next (key_lines (drop (i + 1) keys))
  unfolding key_lines
  keys_again b' next p e =
      inv ∙ (rw (drop-cons keys i 0 p, add-one i) refl
      ∙ (sym (written-append b at (key_line (get_or keys i 0)) (key_lines (drop (i + 1) keys)))
      ∙ sym (ap (λ (o : Out). written o.buffer o.at (key_lines (drop (i + 1) keys))) e)))

  pub keys_done : length keys ≤ i → out at b ≡ w
  unfolding key_lines written
  keys_done p = sym (inv ∙ rw (drop_of_length-le keys p))

module _ (b b' list : List ℕ) (s : Said) (r : ℕ) where
  pub said_nothing : s ≡ said.Nothing → out 0 b ≡ written b 0 (said_text s list)
  unfolding written
  said_nothing e = rw e

  pub said_answered : (a : AnswerLine) → s ≡ said.Answered a → out r b' ≡ written b 0 (answer_line a) → out r b' ≡ written b 0 (said_text s list)
  said_answered a e f = rw e f

  pub said_refused : (x : Refusal) (n : ℕ) → s ≡ said.Refused x → n ≡ number_of x → out r b' ≡ written b 0 (refused_line n) → out r b' ≡ written b 0 (said_text s list)
  said_refused x n e g f = rw (e, ← g) f

  pub said_listed : (c : CountLine) (b₁ : List ℕ) (i : ℕ) → s ≡ said.Listed c → out i b₁ ≡ written b 0 (count_line c) →
      out r b' ≡ written b₁ i (key_lines (take c.count list)) → out r b' ≡ written b 0 (said_text s list)
  said_listed c b₁ i e f g = rw e (joined b b₁ b' 0 i r (count_line c) (key_lines (take c.count list)) g f)

pub ruleset saids = (said_nothing, said_answered, said_refused, said_listed)
