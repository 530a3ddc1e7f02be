-- The proof that `walk` keeps its contract.
use Rattle.std.specs.Prelude.{Some}
use Rattle.std.proofs.Common.{refl, sym, ap, ◌∙◌, ◌-◌}
use Rattle.tables.specs.Choice.{both}
use Rattle.meter.specs.Walk.{begin}
use Rattle.meter.proofs.Walks.{met_none, met_leaf, met_damaged, child_none}
use Rattle.meter.proofs.Passing.{left_as, met_as, child_met, child_left, child_all, child_falls}
use Rattle.meter.proofs.Pass.+walk.Goals as goal

pub returns-then-allowed-eq0-clause-left : goal.returns-then-allowed-eq0-clause-left
returns-then-allowed-eq0-clause-left g t c = left_as _ _ _ (met_none _ _ c.args.child _ c.if-allowed-eq0.true) (sym c.if-allowed-eq0.true)

pub returns-then-allowed-eq0-clause-met : goal.returns-then-allowed-eq0-clause-met
returns-then-allowed-eq0-clause-met g t c = met_as g.Self.Pass.met _ _ _ _ (met_none _ _ c.args.child _ c.if-allowed-eq0.true) c.damage.ensures

pub loop-i-init : goal.loop-i-init
loop-i-init g t c =
    let e = child_none c.args.block.now c.args.h (c.args.allowed - 1) c.in-Some-Internal.node (begin (c.args.allowed - 1)) in
    record { left = left_as _ _ _ e refl; met = met_as g.Self.Pass.met _ _ _ _ e (g.met.Self.Pass.nothing c.args.self.now) }

pub walk-left-requires : goal.walk-left-requires
walk-left-requires g t c κs within = (child_falls _ _ _ _ _ _ _ c.loop-i.invariant.left c.if-allowed-eq0.false c.decreases, within)

pub loop-i-preserved : goal.loop-i-preserved
loop-i-preserved g t c =
    record {
      left = child_left _ _ _ _ _ _ _ _ c.loop-i.invariant.left c.child_of-below.ensures c.walk-left.ensures.left;
      met = child_met g.Self.Pass.met _ _ _ _ g.met.Self.Pass.behind _ _ _ _ _ _ c.loop-i.invariant.left c.loop-i.invariant.met c.child_of-below.ensures c.walk-left.ensures.met;
    }

pub returns-in-None-clause-left : goal.returns-in-None-clause-left
returns-in-None-clause-left g t c = left_as _ _ _ (met_damaged _ _ _ c.if-allowed-eq0.false _ c.in-None.is) refl

pub returns-in-None-clause-met : goal.returns-in-None-clause-met
returns-in-None-clause-met g t c = met_as g.Self.Pass.met _ _ _ _ (met_damaged _ _ _ c.if-allowed-eq0.false _ c.in-None.is) c.damage-in-None.ensures

pub returns-in-Some-Leaf-clause-left : goal.returns-in-Some-Leaf-clause-left
returns-in-Some-Leaf-clause-left g t c =
    let f = c.in-Some-Leaf.field-0-is in
    left_as _ _ _ (met_leaf _ _ _ c.if-allowed-eq0.false _ _ _ (c.in-Some-Leaf.is ∙ ap Some (rw c.in-Some-Leaf.is at f))) refl

pub returns-in-Some-Leaf-clause-met : goal.returns-in-Some-Leaf-clause-met
unfolding both
returns-in-Some-Leaf-clause-met g t c =
    let f = c.in-Some-Leaf.field-0-is in
    met_as g.Self.Pass.met _ _ _ _ (met_leaf _ _ _ c.if-allowed-eq0.false _ _ _ (c.in-Some-Leaf.is ∙ ap Some (rw c.in-Some-Leaf.is at f))) c.leaf.ensures

pub returns-after-loop-i-clause-left : goal.returns-after-loop-i-clause-left
returns-after-loop-i-clause-left g t c =
    let f = c.in-Some-Internal.field-0-is in
    left_as _ _ _ (child_all _ _ _ _ _ _ _ _ c.if-allowed-eq0.false c.in-Some-Internal.is (rw c.in-Some-Internal.is at f) c.loop-i.auto.i-end c.loop-i-test.false c.from-i-end.ensures) c.loop-i.invariant.left

pub returns-after-loop-i-clause-met : goal.returns-after-loop-i-clause-met
returns-after-loop-i-clause-met g t c =
    let f = c.in-Some-Internal.field-0-is in
    met_as g.Self.Pass.met _ _ _ _ (child_all _ _ _ _ _ _ _ _ c.if-allowed-eq0.false c.in-Some-Internal.is (rw c.in-Some-Internal.is at f) c.loop-i.auto.i-end c.loop-i-test.false c.from-i-end.ensures) c.loop-i.invariant.met
