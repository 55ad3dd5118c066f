-- The sum of four products fits into a word.
use Prim.Native.Nat.{ℕ, ◌+◌, ◌*◌, ◌/◌, ◌%◌, ◌<◌}
use native.Mathlib.Omega.{arith}
use borrow.Author.Rules.{rules}
use Rattle.chains.specs.Chains.{mixed, hash_of}
use Rattle.chains.proofs.hash.Goals as goal

four_below : (a b c d : ℕ) → a < 4294967296 → b < 4294967296 → c < 4294967296 → d < 8589934592
    → a * 1051780055 + b * 668265263 + c * 904645227 + d * 374761393 < 14500000000000000000
four_below a b c d p q r s = omega arith

mix_below : (e m h : ℕ) → e < 18446744073709551616 → m < 18446744073709551616 → h < 4294967296
    → e % 4294967296 * 1051780055 + e / 4294967296 * 668265263
    + m % 4294967296 * 904645227 + (m / 4294967296 + h) * 374761393 < 14500000000000000000
mix_below e m h p q r = four_below _ _ _ _ (omega arith) (omega arith) (omega arith) (omega arith)

pub overflow_add-mix-4 : goal.overflow_add-mix-4
overflow_add-mix-4 c =
    let small = c.tag_of-tag.ensures.1 in
    omega (
      arith,
      mix_below c.args.x.edges c.word_of-map.result _ (search rules)
          (search rules) small,
    )

pub overflow_add-result : goal.overflow_add-result
overflow_add-result c =
    let small = c.tag_of-tag.ensures.1 in
    omega (
      arith,
      mix_below c.args.x.edges c.word_of-map.result _ (search rules)
          (search rules) small,
    )

pub returns : goal.returns
unfolding hash_of mixed
returns c = (rw (c.word_of-map.ensures.value, c.tag_of-tag.ensures.0), omega arith)
