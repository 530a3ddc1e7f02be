-- Every change is one touch, and keeps the invariant.
use mathlib.Core.Path.{◌≡◌}
use Prim.Native.Nat.{ℕ, ◌≤◌}
use native.Mathlib.Omega.{arith}
use Rattle.history.specs.View.{View, In}
use Rattle.history.specs.Shared.{Desc, Shared}
use Rattle.history.specs.Change.{SameTables, NewRecord, Change, draw_replace, draw_prune, swap_replace, unflag_replace, mark, swap_prune}
use Rattle.history.specs.Change.{unflag_prune}
use Rattle.history.specs.Effects.{Grown}
use Rattle.history.specs.Run.{Step, changes, rests}
use Rattle.history.proofs.Invariant.{Inv, Sound}
use Rattle.history.proofs.Touch.{Touch}
use Rattle.history.proofs.Static.{word_more}
use Rattle.history.proofs.Assemble.{same_touch, same_keeps}
use Rattle.history.proofs.Standing.{waiting, standing}
use Rattle.history.proofs.Flags.{mark_touch, mark_keeps, unflag_replace_touch, unflag_replace_keeps, unflag_prune_touch}
use Rattle.history.proofs.Flags.{unflag_prune_keeps}
use Rattle.history.proofs.SwapReplace.{swap_replace_touch, swap_replace_keeps}
use Rattle.history.proofs.SwapPrune.{written, swap_prune_touch, swap_prune_keeps}
use Rattle.history.proofs.Draws.{draw_replace_touch, draw_replace_keeps, draw_prune_touch, draw_prune_keeps}

-- one node touched, for one record; counts never fall, and a record in use stays as it is
pub record Touched (k : ℕ) (S S' : Shared) : Type 0 where
  pub at : ℕ
  pub for : ℕ
  pub low : ℕ
  pub high : ℕ
  pub touch : Touch k S.nodes S.records S.rec S.view S'.view at for low high
  pub grown : Grown S S'

-- the invariant speaks of records in use alone
retable : {k u m : ℕ} {T T' : ℕ → Desc} {t : View} → ((q : ℕ) → In m q → T' q ≡ T q) → Inv k u m T t → Inv k u m T' t
retable {k} {u} {m} {T} {T'} {t} same I = record {
  shape = I.shape;
  uniq = I.uniq;
  ordered = I.ordered;
  pending = λ n h. word_more (omega arith) same (I.pending n h);
  good = λ q h. rw (same q h) (I.good q h);
  status = λ q h. rw (same q h) (I.status q h);
  apart = λ a b ha hb ka kb l. rw (same a ha, same b hb) (I.apart a b ha hb (rw (same a ha) at ka) (rw (same b hb) at kb) l);
  named =
      λ a b n ha hb ka nm nw. rw (same a ha) (I.named a b n ha hb (rw (same a ha) at ka) (rw (same b hb) at nm) (rw (same a ha) at nw));
}

with_tables : {k : ℕ} {S S' : Shared} → SameTables S S' → Inv k S.nodes S.records S.rec S'.view → Sound k S'
with_tables {k} {S} {S'} e I = record { inv = rw (e.nodes_same, e.records_same) (retable e.rec_same I) }

touched_by : {k : ℕ} {S S' : Shared} {x r low high : ℕ} → S.nodes ≤ S'.nodes → S.records ≤ S'.records
    → ((q : ℕ) → In S.records q → S'.rec q ≡ S.rec q)
    → Touch k S.nodes S.records S.rec S.view S'.view x r low high → Touched k S S'
touched_by {x = x} {r = r} {low = low} {high = high} n m e w = record {
  at = x;
  for = r;
  low = low;
  high = high;
  touch = w;
  grown = record { nodes_more = n; records_more = m; tag_same = w.tag_same; key_same = w.key_same; rec_same = e };
}

same_touched : {k : ℕ} {S S' : Shared} {x r low high : ℕ} → SameTables S S'
    → Touch k S.nodes S.records S.rec S.view S'.view x r low high → Touched k S S'
same_touched e w = touched_by (omega (arith, e.nodes_same)) (omega (arith, e.records_same)) e.rec_same w

new_touched : {k : ℕ} {S S' : Shared} {x r low high : ℕ} {d : Desc} → S.nodes ≤ S'.nodes → NewRecord S S' r d
    → Touch k S.nodes S.records S.rec S.view S'.view x r low high → Touched k S S'
new_touched l n w = touched_by l (omega (arith, n.counted, n.next)) n.rec_same w

module _ {k : ℕ} {S S' : Shared} (hk : 2 ≤ k) (I : Sound k S) where
  change_touched : Change k S S' → Touched k S S'
  change_touched (draw_replace r p d) = new_touched (omega (arith, d.counted)) d.record_new (draw_replace_touch hk I.inv d)
  change_touched (draw_prune r gp d) = new_touched (omega (arith, d.counted)) d.record_new (draw_prune_touch hk I.inv d)
  change_touched (swap_replace r i h kd s e w same) =
      same_touched same (swap_replace_touch hk I.inv h kd (waiting (omega arith) I.inv r h kd s e) s e w)
  change_touched (unflag_replace r h kd e d w same) = same_touched same (unflag_replace_touch hk I.inv r h kd w e)
  change_touched (mark r h kd e w same) = same_touched same (mark_touch hk I.inv r h kd w e)
  change_touched (swap_prune r i other h kd mk j sj ej full d s e w same) =
      let M = standing (omega arith) I.inv r h kd mk s e in
      same_touched same (swap_prune_touch hk I.inv h kd M s e (written M.fine j sj ej full d w))
  change_touched (unflag_prune r h kd e d w same) = same_touched same (unflag_prune_touch hk I.inv r h kd w e)

  pub keep : Change k S S' → Sound k S'
  keep (draw_replace r p d) = record { inv = draw_replace_keeps hk I.inv d }
  keep (draw_prune r gp d) = record { inv = draw_prune_keeps hk I.inv d }
  keep (swap_replace r i h kd s e w same) =
      with_tables same (swap_replace_keeps hk I.inv h kd (waiting (omega arith) I.inv r h kd s e) s e w)
  keep (unflag_replace r h kd e d w same) = with_tables same (unflag_replace_keeps hk I.inv r h kd w e d)
  keep (mark r h kd e w same) = with_tables same (mark_keeps hk I.inv r h kd w e)
  keep (swap_prune r i other h kd mk j sj ej full d s e w same) =
      let M = standing (omega arith) I.inv r h kd mk s e in
      with_tables same (swap_prune_keeps hk I.inv h kd M s e (written M.fine j sj ej full d w))
  keep (unflag_prune r h kd e d w same) = with_tables same (unflag_prune_keeps hk I.inv r h kd w e d)

  -- and so is a step that changes nothing
  pub touched : Step k S S' → Touched k S S'
  touched (changes c) = change_touched c
  touched (rests e) = same_touched e.tables (same_touch (omega arith) I.inv e)

  pub step_keeps : Step k S S' → Sound k S'
  step_keeps (changes c) = keep c
  step_keeps (rests e) = with_tables e.tables (same_keeps hk I.inv e)
