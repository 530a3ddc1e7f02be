-- The proof that `leaf` keeps its contract.
use Rattle.std.proofs.Common.{refl, sym, ◌∙◌, ◌-◌, arith}
use Rattle.nodes.proofs.Keyed.{keys_length}
use Rattle.fill.proofs.Storing.{stored_room}
use Rattle.fill.proofs.FillingPass.leaf.Goals as goal

pub returns : goal.returns
returns c =
    record {
      same_place = refl;
      same_list = refl;
      at = omega (arith, keys_length c.args.block.now c.args.h c.args.node c.args.count);
      stored = c.store_keys.ensures ∙ sym (stored_room (18446744073709551615 - c.args.self.now.at) c.args.self.now.list.now c.args.self.now.at _ (omega arith));
    }
