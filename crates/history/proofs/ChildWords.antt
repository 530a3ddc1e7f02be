-- Child words of nodes in use change at a child swap and at nothing else.
use mathlib.Core.Path.{◌≡◌}
use Prim.Native.Nat.{ℕ, ◌≤◌}
use native.Mathlib.Omega.{arith}
use Rattle.history.specs.View.{In}
use Rattle.history.specs.Shared.{Shared}
use Rattle.history.specs.Change.{SwapChild, draw_replace, draw_prune, swap_replace, unflag_replace, mark, swap_prune, unflag_prune}
use Rattle.history.specs.Effects.{swaps, Noted, Swapped, new_child, noted_node}
use Rattle.history.specs.Run.{Step, changes, rests, step_swaps}
use Rattle.history.proofs.Invariant.{Sound}

module _ {k : ℕ} {S S' : Shared} (hk : 2 ≤ k) (I : Sound k S) where
  pub kids_same : (c : Step k S S') → step_swaps k c ≡ 0 → (n j : ℕ) → In S.nodes n → In k j → S'.view.child n j ≡ S.view.child n j
  unfolding step_swaps swaps
  kids_same (rests e) z n j h a = e.child_same n j h a
  kids_same (changes (draw_replace r p d)) z n j h a = d.flag.child_same n j h a
  kids_same (changes (draw_prune r gp d)) z n j h a = d.flag.child_same n j h a
  kids_same (changes (swap_replace r i hr kd s e w same)) z n j h a = absurd (omega (arith, hr.low))
  kids_same (changes (unflag_replace r hr kd e d w same)) z n j h a = w.child_same n j h a
  kids_same (changes (mark r hr kd e w same)) z n j h a = w.child_same n j h a
  kids_same (changes (swap_prune r i other hr kd mk b sb eb full d s e w same)) z n j h a = absurd (omega (arith, hr.low))
  kids_same (changes (unflag_prune r hr kd e d w same)) z n j h a = w.child_same n j h a

  -- 7
  pub swaps_new : (r i other : ℕ) → In S.records r → (S.rec r).kind ≡ 1 → In k i → S.view.child (S.rec r).p i ≡ (S.rec r).l
      → SwapChild k S.nodes S.view S'.view (S.rec r).p i (S.rec r).third → Swapped k S S' (S.rec r) i other
  swaps_new r i other hr kd s e w =
      let g = I.inv.good r hr in
      new_child kd (record {
        used = omega (arith, g.low, g.above, g.used);
        index_in = s;
        was = e;
        is = w.child_new;
        another = λ y. omega (arith, (g.replace kd).new_above);
        rest_same = w.child_same;
      })

  -- 13
  pub swaps_noted : (r i other : ℕ) → In S.records r → (S.rec r).kind ≡ 2 → Noted k S (S.rec r) other → In k i → S.view.child (S.rec r).third i ≡ (S.rec r).p
      → SwapChild k S.nodes S.view S'.view (S.rec r).third i other → Swapped k S S' (S.rec r) i other
  swaps_noted r i other hr kd noted s e w =
      let g = I.inv.good r hr in
      let b = g.prune kd in
      let hp : In S.nodes (S.rec r).p = omega (arith, g.low, g.above, g.used) in
      noted_node kd noted (record {
        used = omega (arith, b.gp_low, b.gp_above, hp.high);
        index_in = s;
        was = e;
        is = w.child_new;
        another = λ y. omega (arith, noted.child, I.inv.shape.above (S.rec r).p noted.index hp g.inner noted.index_in);
        rest_same = w.child_same;
      })
