-- What the functions over maps compute, on whole words: bytes side by side in one number (SWAR).
use Rattle.std.specs.Prelude.{ℕ, ◌+◌, ◌-◌, ◌*◌, ◌/◌, ◌%◌}
use Rattle.std.specs.Int.Bits.{bit_and, bit_or, bit_xor}
use Rattle.places.specs.Words.{none_word}

-- 127, 128 and 255 in each byte
abbrev pub low_bits : ℕ
low_bits = 9187201950435737471

abbrev pub high_bits : ℕ
high_bits = 9259542123273814144

abbrev pub all_bits : ℕ
all_bits = 18446744073709551615

unfoldable pub bare_of : ℕ → ℕ
bare_of w = bit_and w none_word / 64 * 255

unfoldable pub choose_of : ℕ → ℕ → ℕ → ℕ
choose_of s a b = bit_or (bit_and a s) (bit_and b (all_bits - s))

unfoldable pub differs_of : ℕ → ℕ → ℕ
differs_of a b = bit_and (bit_and (bit_xor a b) low_bits + low_bits) high_bits

unfoldable pub turn_of : ℕ → ℕ
turn_of w = w % 256 * 72057594037927936 + w / 256

unfoldable pub once_of : ℕ → ℕ
once_of j =
    let r1 = turn_of j in
    let r2 = turn_of r1 in
    let r3 = turn_of r2 in
    let r4 = turn_of r3 in
    bit_and (bit_or (bit_and (bit_and (differs_of j r1) (differs_of j r2)) (bit_and (differs_of j r3) (differs_of j r4))) (bare_of j)) high_bits

unfoldable pub agrees_of : ℕ → ℕ → ℕ
agrees_of j t = bit_and (bit_or (high_bits - differs_of j t) (bare_of t)) high_bits

unfoldable pub spread_of : ℕ → ℕ
spread_of m = bit_and (bit_and (m % 256 * 72340172838076673) 9241421688590303745 + low_bits) high_bits / 128 * 255

-- 128 at each place whose node, below 128, is n or more
unfoldable pub over_of : ℕ → ℕ → ℕ
over_of w n = bit_and (bit_and w low_bits + 72340172838076673 * (128 - n)) high_bits
