-- The bench's own block is long enough: within its limits no block is longer than that of k = 8, 8 processes, 512 nodes and 512 records.
use Prim.Native.Nat.{ℕ, zero, suc, ◌+◌, ◌*◌, ◌-◌, ◌/◌, ◌≤◌}
use native.Mathlib.Omega.{arith}
use native.Mathlib.Nat.{mul-le-mul_right}
use Rattle.tables.specs.Numbers.{lowest_k, highest_k}
use Rattle.tables.specs.Layout.{block_words}
use Rattle.tables.specs.declared.header.Header.{Header}
use Rattle.session.specs.Line.{bench_processes, bench_nodes, bench_records}

-- 6 + 512·17 + 8·512 + 8·((512 − 17) div 8)
abbrev pub longest_block : ℕ
longest_block = 13294

module _ (processes nodes records : ℕ) (p : processes ≤ bench_processes) (n : nodes ≤ bench_nodes) (r : records ≤ bench_records) where
  abbrev words : ℕ → ℕ
  words k = 6 + nodes * (2 * k + 1) + records * 8 + processes * ((nodes - (2 * k + 1)) / k)

  stacks : (d : ℕ) → processes * d ≤ 8 * d
  stacks d = mul-le-mul_right d p

  words_within : (k : ℕ) → lowest_k ≤ k → k ≤ highest_k → words k ≤ longest_block
  words_within zero a b = absurd (omega arith)
  words_within (suc zero) a b = absurd (omega arith)
  words_within (suc (suc zero)) a b = omega (arith, stacks ((nodes - 5) / 2))
  words_within (suc (suc (suc zero))) a b = omega (arith, stacks ((nodes - 7) / 3))
  words_within (suc (suc (suc (suc zero)))) a b = omega (arith, stacks ((nodes - 9) / 4))
  words_within (suc (suc (suc (suc (suc zero))))) a b = omega (arith, stacks ((nodes - 11) / 5))
  words_within (suc (suc (suc (suc (suc (suc zero)))))) a b = omega (arith, stacks ((nodes - 13) / 6))
  words_within (suc (suc (suc (suc (suc (suc (suc zero))))))) a b = omega (arith, stacks ((nodes - 15) / 7))
  words_within (suc (suc (suc (suc (suc (suc (suc (suc zero)))))))) a b = omega (arith, stacks ((nodes - 17) / 8))
  words_within (suc (suc (suc (suc (suc (suc (suc (suc (suc k))))))))) a b = absurd (omega arith)

pub bench_room : (h : Header) → lowest_k ≤ h.k → h.k ≤ highest_k → h.processes ≤ bench_processes → h.nodes ≤ bench_nodes → h.records ≤ bench_records → block_words h ≤ longest_block
bench_room h a b p n r = words_within h.processes h.nodes h.records p n r h.k a b
