-- Of other calls. Sets of numbers as words, and what fires by them.
use Rattle.std.specs.Prelude.{ℕ, ◌*◌, ◌/◌, ◌%◌, ◌==◌, ◌&&◌, not, Bool, List, [], length, map, slice_index, slice_index_or}
use Rattle.std.specs.List.{list_any, range_with_len}
use Rattle.std.specs.Int.{bit_at}
use Rattle.wf_model.specs.Bits.{bit}

-- number i is in: bit i % 64 of word i / 64
abbrev pub is_in : List ℕ → ℕ → Bool
is_in words i = bit_at (slice_index words (i / 64)) (i % 64) == 1

-- the truths of all numbers, from 0 on
abbrev pub bits_of : List ℕ → List Bool
bits_of words = map (is_in words) (range_with_len 0 (64 * length words))

-- some bit is set in both words
unfoldable pub share_bit : ℕ → ℕ → Bool
share_bit word other = list_any (λ k. (bit_at word k == 1) && (bit_at other k == 1)) (range_with_len 0 64)

-- some number is in both
abbrev pub meet : List Bool → List Bool → Bool
meet a b = list_any (λ i. bit a i && bit b i) (range_with_len 0 (length a))

-- a transition fires if it is enabled and none of its blockers is
abbrev pub fires_of : List Bool → List (List Bool) → ℕ → Bool
fires_of enabled blockers t = bit enabled t && not (meet enabled (slice_index_or blockers t []))
