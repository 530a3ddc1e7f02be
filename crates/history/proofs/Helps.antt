-- What a helper of record r knows at each point from 6 on: it holds on under every step, and each row leads from one to the next.
use mathlib.Core.Path.{◌≡◌, ◌∙◌}
use mathlib.Core.Logic.{◌≢◌, ◌⊎◌}
use Prim.Native.Nat.{ℕ, zero, suc, ◌+◌, ◌*◌, ◌≤◌}
use Rattle.history.specs.View.{In}
use Rattle.history.specs.Shared.{Shared, Done, Failed}
use Rattle.history.specs.Run.{Step, step_swaps}
use Rattle.history.proofs.Invariant.{Sound}
use Rattle.history.proofs.Touch.{p_used, gp_used}
use Rattle.history.proofs.Lasting.{grown, frozen, done_stays, failed_stays, swap_makes_done}
use Rattle.history.proofs.Helping.{searching_replace, searching_prune, pair_marked, Passed, passed_first, passed_next, passed_end}
use Rattle.history.proofs.Helping.{passed_stays, Placed, placed_found, placed_missed, placed_stays, Noted, noted_first, noted_skip}
use Rattle.history.proofs.Helping.{noted-take, noted_second, noted_end, noted_stays}

-- p bears r's mark
unfoldable pub Marks : Shared → ℕ → Type 0
Marks s r = ((s.rec r).kind ≡ 2) × (s.view.pend (s.rec r).p ≡ 4 * r + 3)

-- 6, 7: a replace is looking for l below p, or has found it
pub record LooksForL (k : ℕ) (s : Shared) (r index : ℕ) : Type 0 where
  pub kind : (s.rec r).kind ≡ 1
  pub passed : Passed k s r (s.rec r).p index

pub record SwapsL (k : ℕ) (s : Shared) (r index : ℕ) : Type 0 where
  pub kind : (s.rec r).kind ≡ 1
  pub placed : Placed k s r (s.rec r).p index

-- 8, 14: the record is done
pub record Ends (k : ℕ) (s : Shared) (r kind : ℕ) : Type 0 where
  pub is : (s.rec r).kind ≡ kind
  pub done : Done k s.view (s.rec r) r

-- 11: the siblings of l are being noted
pub record Notes (k : ℕ) (s : Shared) (r index other : ℕ) : Type 0 where
  pub marks : Marks s r
  pub noted : Noted k s.view (s.rec r).p (s.rec r).l index other

-- 12, 13: all children of p were looked at; p is looked for below gp, or found
pub record LooksForP (k : ℕ) (s : Shared) (r index other : ℕ) : Type 0 where
  pub notes : Notes k s r (suc k) other
  pub passed : Passed k s r (s.rec r).third index

pub record SwapsP (k : ℕ) (s : Shared) (r index other : ℕ) : Type 0 where
  pub notes : Notes k s r (suc k) other
  pub placed : Placed k s r (s.rec r).third index

-- by the point
abbrev pub Helps : ℕ → Shared → ℕ → ℕ → ℕ → ℕ → Type 0
Helps k s r index other zero = ⊥
Helps k s r index other (suc zero) = ⊥
Helps k s r index other (suc (suc zero)) = ⊥
Helps k s r index other (suc (suc (suc zero))) = ⊥
Helps k s r index other (suc (suc (suc (suc zero)))) = ⊥
Helps k s r index other (suc (suc (suc (suc (suc zero))))) = ⊥
Helps k s r index other (suc (suc (suc (suc (suc (suc zero)))))) = LooksForL k s r index
Helps k s r index other (suc (suc (suc (suc (suc (suc (suc zero))))))) = SwapsL k s r index
Helps k s r index other (suc (suc (suc (suc (suc (suc (suc (suc zero)))))))) = Ends k s r 1
Helps k s r index other (suc (suc (suc (suc (suc (suc (suc (suc (suc zero))))))))) = ((s.rec r).kind ≡ 2)
Helps k s r index other (suc (suc (suc (suc (suc (suc (suc (suc (suc (suc zero)))))))))) = Failed s.view (s.rec r) r
Helps k s r index other (suc (suc (suc (suc (suc (suc (suc (suc (suc (suc (suc zero))))))))))) = Notes k s r index other
Helps k s r index other (suc (suc (suc (suc (suc (suc (suc (suc (suc (suc (suc (suc zero)))))))))))) = LooksForP k s r index other
Helps k s r index other (suc (suc (suc (suc (suc (suc (suc (suc (suc (suc (suc (suc (suc zero))))))))))))) = SwapsP k s r index other
Helps k s r index other (suc (suc (suc (suc (suc (suc (suc (suc (suc (suc (suc (suc (suc (suc zero)))))))))))))) = Ends k s r 2
Helps k s r index other (suc (suc (suc (suc (suc (suc (suc (suc (suc (suc (suc (suc (suc (suc (suc n))))))))))))))) = ⊥

module _ {k : ℕ} {s : Shared} (hk : 2 ≤ k) (I : Sound k s) (r : ℕ) (h : In s.records r) where
  -- 6: one child of p read
  pub l_found : {index : ℕ} → LooksForL k s r index → In k index → s.view.child (s.rec r).p index ≡ (s.rec r).l → SwapsL k s r index
  l_found w i e = record { kind = w.kind; placed = placed_found hk (searching_replace hk I r h w.kind) i e }

  pub l_not_here : {index : ℕ} → LooksForL k s r index → s.view.child (s.rec r).p index ≢ (s.rec r).l → LooksForL k s r (suc index)
  l_not_here w e = record { kind = w.kind; passed = passed_next hk (searching_replace hk I r h w.kind) e w.passed }

  pub l_nowhere : LooksForL k s r (suc k) → Ends k s r 1
  l_nowhere w = record { is = w.kind; done = passed_end hk w.passed }

  -- 7: the child is not l any more
  pub l_swapped_before : {index : ℕ} → SwapsL k s r index → s.view.child (s.rec r).p index ≢ (s.rec r).l → Ends k s r 1
  l_swapped_before w e = record { is = w.kind; done = placed_missed hk (searching_replace hk I r h w.kind) w.placed e }

  -- 9: the mark is there already
  pub marked_before : Marks s r → Notes k s r 1 0
  marked_before m = record { marks = m; noted = noted_first }

  -- 11: one child of p read. A second node to note is never met, and in the end there is one
  pub notes_skip : {index other : ℕ} → Notes k s r index other
      → (s.view.child (s.rec r).p index ≡ (s.rec r).l) ⊎ (s.view.tag (s.view.child (s.rec r).p index) ≡ 0)
      → Notes k s r (suc index) other
  notes_skip w e = record { marks = w.marks; noted = noted_skip e w.noted }

  pub notes-take : {index other : ℕ} → Notes k s r index other → In k index → s.view.tag (s.view.child (s.rec r).p index) ≢ 0
      → s.view.child (s.rec r).p index ≢ (s.rec r).l → Notes k s r (suc index) (s.view.child (s.rec r).p index)
  notes-take w i full d = record { marks = w.marks; noted = noted-take i full d }

  pub never_a_second : {index other : ℕ} → Notes k s r index other → In k index → s.view.tag (s.view.child (s.rec r).p index) ≢ 0
      → s.view.child (s.rec r).p index ≢ (s.rec r).l → other ≡ 0
  unfolding Marks
  never_a_second w i full d = noted_second (pair_marked hk I r h w.marks.0 w.marks.1) i full d w.noted

  pub always_one : {other : ℕ} → Marks s r → Noted k s.view (s.rec r).p (s.rec r).l (suc k) other
      → (j : ℕ) × In k j × (s.view.child (s.rec r).p j ≡ other) × (s.view.tag other ≢ 0) × (other ≢ (s.rec r).l)
  unfolding Marks
  always_one m n = noted_end (pair_marked hk I r h m.0 m.1) n

  pub all_noted : {other : ℕ} → Notes k s r (suc k) other → LooksForP k s r 1 other
  all_noted w = record { notes = w; passed = passed_first hk r (s.rec r).third }

  -- 12: one child of gp read
  pub p_found : {index other : ℕ} → LooksForP k s r index other → In k index → s.view.child (s.rec r).third index ≡ (s.rec r).p
      → SwapsP k s r index other
  unfolding Marks
  p_found w i e = record {
    notes = w.notes;
    placed = placed_found hk (searching_prune hk I r h w.notes.marks.0 w.notes.marks.1) i e;
  }

  pub p_not_here : {index other : ℕ} → LooksForP k s r index other → s.view.child (s.rec r).third index ≢ (s.rec r).p
      → LooksForP k s r (suc index) other
  unfolding Marks
  p_not_here w e = record {
    notes = w.notes;
    passed = passed_next hk (searching_prune hk I r h w.notes.marks.0 w.notes.marks.1) e w.passed;
  }

  pub p_nowhere : {other : ℕ} → LooksForP k s r (suc k) other → Ends k s r 2
  unfolding Marks
  p_nowhere w = record { is = w.notes.marks.0; done = passed_end hk w.passed }

  -- 13: the child is not p any more
  pub p_swapped_before : {index other : ℕ} → SwapsP k s r index other → s.view.child (s.rec r).third index ≢ (s.rec r).p → Ends k s r 2
  unfolding Marks
  p_swapped_before w e = record {
    is = w.notes.marks.0;
    done = placed_missed hk (searching_prune hk I r h w.notes.marks.0 w.notes.marks.1) w.placed e;
  }

module _ {k : ℕ} {s s' : Shared} (hk : 2 ≤ k) (I : Sound k s) (c : Step k s s') where
  marks_stay : {r : ℕ} → In s.records r → Marks s r → Marks s' r
  unfolding Marks
  marks_stay {r} h m = rw ((grown hk I c).rec_same r h) (m.0, (frozen hk I (s.rec r).p r c (p_used I.inv r h) m.1).pend_same ∙ m.1)

  notes_stay : {r i other : ℕ} → In s.records r → Notes k s r i other → Notes k s' r i other
  unfolding Marks
  notes_stay {r} h w = record {
    marks = marks_stay h w.marks;
    noted = rw ((grown hk I c).rec_same r h) (noted_stays r hk I c (p_used I.inv r h) (I.inv.good r h).inner w.marks.1 w.noted);
  }

  kind_stays : {r v : ℕ} → In s.records r → (s.rec r).kind ≡ v → (s'.rec r).kind ≡ v
  kind_stays {r} h e = rw ((grown hk I c).rec_same r h) e

  ends_stay : {r v : ℕ} → In s.records r → Ends k s r v → Ends k s' r v
  ends_stay {r} h w = record { is = kind_stays h w.is; done = done_stays hk I r c h w.done }

  pub helps_stays : (r index other point : ℕ) → In s.records r → Helps k s r index other point → Helps k s' r index other point
  unfolding Marks
  helps_stays r index other zero h w = absurd w
  helps_stays r index other (suc zero) h w = absurd w
  helps_stays r index other (suc (suc zero)) h w = absurd w
  helps_stays r index other (suc (suc (suc zero))) h w = absurd w
  helps_stays r index other (suc (suc (suc (suc zero)))) h w = absurd w
  helps_stays r index other (suc (suc (suc (suc (suc zero))))) h w = absurd w
  helps_stays r index other (suc (suc (suc (suc (suc (suc zero)))))) h w = record {
    kind = kind_stays h w.kind;
    passed = rw ((grown hk I c).rec_same r h) (passed_stays hk I c h (p_used I.inv r h) w.passed);
  }
  helps_stays r index other (suc (suc (suc (suc (suc (suc (suc zero))))))) h w = record {
    kind = kind_stays h w.kind;
    placed = rw ((grown hk I c).rec_same r h) (placed_stays hk I c h (p_used I.inv r h) w.placed);
  }
  helps_stays r index other (suc (suc (suc (suc (suc (suc (suc (suc zero)))))))) h w = ends_stay h w
  helps_stays r index other (suc (suc (suc (suc (suc (suc (suc (suc (suc zero))))))))) h w = kind_stays h w
  helps_stays r index other (suc (suc (suc (suc (suc (suc (suc (suc (suc (suc zero)))))))))) h w = failed_stays hk I r c h w
  helps_stays r index other (suc (suc (suc (suc (suc (suc (suc (suc (suc (suc (suc zero))))))))))) h w = notes_stay h w
  helps_stays r index other (suc (suc (suc (suc (suc (suc (suc (suc (suc (suc (suc (suc zero)))))))))))) h w = record {
    notes = notes_stay h w.notes;
    passed = rw ((grown hk I c).rec_same r h) (passed_stays hk I c h (gp_used I.inv r h w.notes.marks.0) w.passed);
  }
  helps_stays r index other (suc (suc (suc (suc (suc (suc (suc (suc (suc (suc (suc (suc (suc zero))))))))))))) h w = record {
    notes = notes_stay h w.notes;
    placed = rw ((grown hk I c).rec_same r h) (placed_stays hk I c h (gp_used I.inv r h w.notes.marks.0) w.placed);
  }
  helps_stays r index other (suc (suc (suc (suc (suc (suc (suc (suc (suc (suc (suc (suc (suc (suc zero)))))))))))))) h w = ends_stay h w
  helps_stays r index other (suc (suc (suc (suc (suc (suc (suc (suc (suc (suc (suc (suc (suc (suc (suc n))))))))))))))) h w = absurd w

  -- 7, 13: the step is the swap
  pub swap_ends : {r v : ℕ} → 1 ≤ r → step_swaps k c ≡ r → (s.rec r).kind ≡ v → Ends k s' r v
  swap_ends {r} l e kd =
      let w = swap_makes_done hk I c r e l in
      record { is = kind_stays w.used kd; done = w.now }
