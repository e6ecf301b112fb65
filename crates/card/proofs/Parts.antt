-- Where the places and map entries of a card lie, over any width.
use Prim.Native.Nat.{ℕ, suc, ◌+◌, ◌*◌, ◌≤◌, ◌<◌}
use mathlib.Core.Path.{◌≡◌}
use mathlib.Core.List.{List}
use native.Mathlib.Nat.{mul-le-mul, mul-le-mul_left, mul-le-mul_right}
use native.Mathlib.Omega.{arith}
use lib.ListN.{length, drop, get_or}
use lib.Seq.{get_or-drop, get_or-take}
use Rattle.pair.specs.Rank.{rank}
use Rattle.card.specs.Layout.{format, width_of, block_size, place_count, entry_width, entry_at, entry, place_at, first_pair}
use Rattle.card.specs.code.Configuration.{Shaped}

-- The place lies in the card.
pub place_inside : (c : List ℕ) (i : ℕ) → Shaped c → i < place_count c → place_at c i + block_size c ≤ length c
place_inside c i s h = omega (arith, s.long, mul-le-mul_right (block_size c) h)

-- A map entry has two words at least, and four at most.
pub width_low : (f : ℕ) → 2 ≤ width_of f
unfolding width_of
width_low f = omega arith

pub width_high : (f : ℕ) → width_of f ≤ 4
unfolding width_of
width_high f = omega arith

-- The map entry lies in the card.
pub entry_inside : (c : List ℕ) (i : ℕ) → Shaped c → i < place_count c → entry_at c i + entry_width c ≤ length c
entry_inside c i s h = omega (arith, s.long, mul-le-mul_left {m = suc i} (entry_width c) h)

-- The map's pair is read from its words.
pub first_pair_entry : (c : List ℕ) (i : ℕ) → first_pair c i ≡ rank (get_or (entry c i) 0 0) (get_or (entry c i) 1 0)
unfolding first_pair
first_pair_entry c i =
    let a = entry_at c i in
    let w = entry_width c in
    let z : a + 0 ≡ a = omega arith in
    let two : 2 ≤ w = width_low (format c) in
    rw (get_or-take w (drop a c) 0 0 (omega arith), get_or-take w (drop a c) 1 0 (omega arith), get_or-drop a c 0 0, get_or-drop a c 1 0, z)

-- A product of a number of 16 bits and one of 32 is far from the end of a machine word.
pub product_fits : (a b : ℕ) → a < 65536 → b < 4294967296 → a * b < 281474976710656
product_fits a b h k = omega (arith, mul-le-mul {n₁ = a} {m₁ = b} {n₂ = 65535} {m₂ = 4294967295} (omega arith) (omega arith))
