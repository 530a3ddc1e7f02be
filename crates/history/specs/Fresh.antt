-- The fresh tree of Figure 6, by its words.
use Rattle.std.specs.Prelude.{◌≡◌, ℕ, ◌+◌, ◌*◌, ◌≤◌, ◌<◌}
use Rattle.tables.specs.Numbers.{infinity}
use Rattle.history.specs.View.{In}
use Rattle.history.specs.Shared.{Shared}

-- node 1 is the root, node 2 the dummy; both hold only infinity. The root's children are 2 and empty leaves 3 to k+1,
-- the dummy's are empty leaves k+2 to 2k+1
pub record Fresh (k : ℕ) (S : Shared) : Type 0 where
  pub nodes : S.nodes ≡ 2 * k + 1
  pub no_record : S.records ≡ 0
  pub root_tag : S.view.tag 1 ≡ k
  pub dummy_tag : S.view.tag 2 ≡ k
  pub leaf_tag : (n : ℕ) → 3 ≤ n → n ≤ 2 * k + 1 → S.view.tag n ≡ 0
  pub root_keys : (i : ℕ) → 1 ≤ i → i < k → S.view.key 1 i ≡ infinity
  pub dummy_keys : (i : ℕ) → 1 ≤ i → i < k → S.view.key 2 i ≡ infinity
  pub root_kids : (j : ℕ) → In k j → S.view.child 1 j ≡ j + 1
  pub dummy_kids : (j : ℕ) → In k j → S.view.child 2 j ≡ k + 1 + j
  pub clean : (n : ℕ) → In (2 * k + 1) n → S.view.pend n ≡ 0
