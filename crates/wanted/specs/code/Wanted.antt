-- The wanted positions of a term: those above a, at most z.
use Rattle.std.specs.Prelude.{ℕ, ◌+◌, ◌-◌, ◌≤◌, ◌<◌, ◌≡◌, Bool, true, ◌&&◌, List, map, length, take, drop, get_or, ltb, leb}
use Rattle.pair.specs.Rank.{rank, position}
use Rattle.pair.specs.Rising.{keep, at_most, rising_from}
use Rattle.block.specs.Block.{pairs, words_before, formed}
use Rattle.wanted.specs.declared.Part.{Part}

-- the test of a pair: of the term t, with a position above a and at most z
abbrev pub is_wanted : ℕ → ℕ → ℕ → ℕ → Bool
is_wanted t a z x = ltb (rank t a) x && leb x (rank t z)

-- the part's words
abbrev pub part_of : List ℕ → Part → List ℕ
part_of ws r = take r.len (drop r.start ws)

-- a place among positions: the one before it is at most b, the one at it above b; of rising positions, as many stand before it as are at most b
pub record UpTo (ps : List ℕ) (b r : ℕ) : Type 0 where
  pub inside : r ≤ length ps
  pub below : 0 < r → get_or ps (r - 1) 0 ≤ b
  pub beyond : r < length ps → b < get_or ps r 0
  pub count : rising_from 0 ps ≡ true → r ≡ length (at_most b ps)

-- a part that has a word begins above a and ends at most at z; of rising positions it has the wanted ones, and as many stand before it as are at most a
pub record EntryPart (ps : List ℕ) (a z : ℕ) (r : Part) : Type 0 where
  pub inside : r.start + r.len ≤ length ps
  pub first : 0 < r.len → a < get_or ps r.start 0
  pub last : 0 < r.len → get_or ps (r.start + r.len - 1) 0 ≤ z
  pub positions : rising_from 0 ps ≡ true → part_of ps r ≡ keep (λ p. ltb a p && leb p z) ps
  pub before : rising_from 0 ps ≡ true → r.start ≡ length (at_most a ps)

-- the part stands among the positions of an entry of the term t; its first word is above a, its last at most z
pub record InEntry (ws : List ℕ) (t a z : ℕ) (r : Part) : Type 0 where
  pub entry : ℕ
  pub term : get_or ws entry 0 ≡ t
  pub from : entry + 2 ≤ r.start
  pub to : r.start + r.len ≤ entry + 2 + get_or ws (entry + 1) 0
  pub first : a < get_or ws r.start 0
  pub last : get_or ws (r.start + r.len - 1) 0 ≤ z

-- of a live block, the part has the wanted positions of the term t, and starts where the first of them stands; of any words, it is empty or
-- stands in an entry of that term
pub record BlockPart (ws : List ℕ) (t a z : ℕ) (r : Part) : Type 0 where
  pub inside : r.start + r.len ≤ length ws
  pub in_entry : 0 < r.len → InEntry ws t a z r
  pub positions : formed ws ≡ true → part_of ws r ≡ map position (keep (is_wanted t a z) (pairs ws))
  pub before : formed ws ≡ true → 0 < r.len → r.start ≡ words_before (is_wanted t a z) ws 0 0
