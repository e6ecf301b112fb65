-- The positions on small cards of document 01, P1 to P8, as one table.
use Rattle.std.specs.Prelude.{◌≡◌, ℕ, zero, suc, Bool, true, cond, ◌&&◌, List, [], ◌∷◌, length, take, replicate, eqb}
use Rattle.pair.specs.Rank.{rank}
use Rattle.pair.specs.Tests.{same}
use Rattle.card.specs.Layout.{width_of, card_length, place, live, formatted}
use Rattle.update.specs.Step.{step}
use Rattle.found.specs.Found.{lookup}

-- an answer of a step: the write, the places freed, and 1 where the pass finished
abbrev pub Made : Type 0
Made = ℕ × ℕ × ℕ

-- what is looked at on a card
pub data Sight : Type 0 where
  -- its configuration words
  configuration : List ℕ → Sight
  -- the words of a place
  holds : ℕ → List ℕ → Sight
  -- its live pairs, as ranks
  index : List ℕ → Sight
  -- the answers of steps with one batch, one after another
  makes : List ℕ → List Made → Sight
  -- the number of a step
  refuses : List ℕ → ℕ → Sight
  -- of a lookup: term, from, to; the positions, and the blocks read
  finds : ℕ → ℕ → ℕ → List ℕ → ℕ → Sight

-- the card after n steps with one batch
unfoldable pub after_steps : ℕ → List ℕ → List ℕ → List ℕ
after_steps zero b c = c
after_steps (suc n) b c = after_steps n b (step c b).card

unfoldable pub makes_all : List ℕ → List ℕ → List Made → Bool
makes_all c b [] = true
makes_all c b (m ∷ ms) =
    eqb (step c b).number 0 && eqb (step c b).write m.0 && eqb (step c b).freed m.1
    && eqb (cond (step c b).finished 1 0) m.2 && makes_all (step c b).card b ms

unfoldable pub seen : List ℕ → Sight → Bool
seen c (configuration ws) = same (take 8 c) ws
seen c (holds i ws) = same (place c i) ws
seen c (index ks) = same (live c) ks
seen c (makes b ms) = makes_all c b ms
seen c (refuses b n) = eqb (step c b).number n && same (step c b).card c
seen c (finds t a z ps n) =
    eqb (lookup c t a z (replicate 8 0)).number 0 && eqb (lookup c t a z (replicate 8 0)).count (length ps)
    && same (take (length ps) (lookup c t a z (replicate 8 0)).answer) ps
    && eqb (lookup c t a z (replicate 8 0)).blocks n

-- every row of a table is seen
unfoldable pub all_seen : List (List ℕ × Sight) → Bool
all_seen [] = true
all_seen (r ∷ rs) = seen r.0 r.1 && all_seen rs

-- a card of n places of 8 words, zeros, just formatted
unfoldable pub fresh : ℕ → List ℕ
fresh n = formatted (replicate (card_length (width_of 1) 8 n) 0) 8 n

-- the batches, their records numbered as they arrived: P1's additions (5,2), (5,9), (7,4); the later ones
abbrev pub three : List ℕ
three = 1 ∷ 5 ∷ 2 ∷ 2 ∷ 1 ∷ 1 ∷ 5 ∷ 9 ∷ 9 ∷ 2 ∷ 1 ∷ 7 ∷ 4 ∷ 4 ∷ 3 ∷ []

abbrev pub add_seven_eleven : List ℕ
add_seven_eleven = 1 ∷ 7 ∷ 11 ∷ 11 ∷ 1 ∷ []

abbrev pub add_eight_one : List ℕ
add_eight_one = 1 ∷ 8 ∷ 1 ∷ 1 ∷ 1 ∷ []

-- the removal arrived first, and the addition did
abbrev pub remove_then_add : List ℕ
remove_then_add = 2 ∷ 5 ∷ 2 ∷ 9 ∷ 1 ∷ 1 ∷ 5 ∷ 9 ∷ 9 ∷ 2 ∷ []

abbrev pub add_then_remove : List ℕ
add_then_remove = 2 ∷ 5 ∷ 2 ∷ 9 ∷ 2 ∷ 1 ∷ 5 ∷ 9 ∷ 9 ∷ 1 ∷ []

abbrev pub remove_both : List ℕ
remove_both = 2 ∷ 5 ∷ 1 ∷ 4294967295 ∷ 1 ∷ 2 ∷ 7 ∷ 1 ∷ 4294967295 ∷ 2 ∷ []

-- P1's card with n places
unfoldable pub first : ℕ → List ℕ
first n = after_steps 3 three (fresh n)

abbrev pub first_block : List ℕ
first_block = 5 ∷ 2 ∷ 2 ∷ 9 ∷ 7 ∷ 1 ∷ 4 ∷ 0 ∷ []

-- a block, its map entry, and the configuration; the last frees and finishes as said
abbrev pub three_writes : ℕ → ℕ → List Made
three_writes freed finished = (1, 0, 0) ∷ (2, 0, 0) ∷ (3, freed, finished) ∷ []

abbrev pub table : List (List ℕ × Sight)
table =
    -- P1
    (fresh 4, configuration (1 ∷ 8 ∷ 4 ∷ 0 ∷ 0 ∷ 0 ∷ 0 ∷ 0 ∷ []))
    ∷ (fresh 4, makes three (three_writes 0 1))
    ∷ (after_steps 2 three (fresh 4), configuration (1 ∷ 8 ∷ 4 ∷ 0 ∷ 0 ∷ 0 ∷ 0 ∷ 0 ∷ []))
    ∷ (first 4, holds 0 first_block)
    ∷ (first 4, configuration (1 ∷ 8 ∷ 4 ∷ 0 ∷ 1 ∷ 0 ∷ 0 ∷ 0 ∷ []))
    ∷ (first 4, index (rank 5 2 ∷ rank 5 9 ∷ rank 7 4 ∷ []))
    -- P2
    ∷ (first 4, makes add_seven_eleven (three_writes 1 1))
    ∷ (after_steps 3 add_seven_eleven (first 4), holds 1 (5 ∷ 2 ∷ 2 ∷ 9 ∷ 7 ∷ 2 ∷ 4 ∷ 11 ∷ []))
    ∷ (after_steps 3 add_seven_eleven (first 4), configuration (1 ∷ 8 ∷ 4 ∷ 1 ∷ 1 ∷ 0 ∷ 0 ∷ 0 ∷ []))
    -- P3
    ∷ (first 4, makes add_eight_one (three_writes 1 0))
    ∷ (after_steps 3 add_eight_one (first 4), holds 1 first_block)
    ∷ (after_steps 3 add_eight_one (first 4), configuration (1 ∷ 8 ∷ 4 ∷ 1 ∷ 0 ∷ 1 ∷ 7 ∷ 4 ∷ []))
    ∷ (after_steps 3 add_eight_one (first 4), makes add_eight_one (three_writes 0 1))
    ∷ (after_steps 6 add_eight_one (first 4), holds 2 (8 ∷ 1 ∷ 1 ∷ 0 ∷ 0 ∷ 0 ∷ 0 ∷ 0 ∷ []))
    ∷ (after_steps 6 add_eight_one (first 4), configuration (1 ∷ 8 ∷ 4 ∷ 1 ∷ 2 ∷ 0 ∷ 0 ∷ 0 ∷ []))
    -- P4
    ∷ (first 2, makes add_eight_one (three_writes 1 0))
    ∷ (after_steps 3 add_eight_one (first 2), configuration (1 ∷ 8 ∷ 2 ∷ 1 ∷ 0 ∷ 1 ∷ 7 ∷ 4 ∷ []))
    ∷ (after_steps 3 add_eight_one (first 2), refuses add_eight_one 8)
    ∷ (after_steps 3 add_eight_one (first 2), makes [] ((3, 0, 1) ∷ []))
    ∷ (after_steps 1 [] (after_steps 3 add_eight_one (first 2)), configuration (1 ∷ 8 ∷ 2 ∷ 1 ∷ 1 ∷ 0 ∷ 0 ∷ 0 ∷ []))
    -- P5, in both orders of arrival
    ∷ (first 4, makes remove_then_add (three_writes 1 1))
    ∷ (after_steps 3 remove_then_add (first 4), index (rank 5 9 ∷ rank 7 4 ∷ []))
    ∷ (first 4, makes add_then_remove (three_writes 1 1))
    ∷ (after_steps 3 add_then_remove (first 4), index (rank 7 4 ∷ []))
    -- P6
    ∷ (first 4, makes remove_both ((3, 1, 1) ∷ []))
    ∷ (after_steps 1 remove_both (first 4), configuration (1 ∷ 8 ∷ 4 ∷ 1 ∷ 0 ∷ 0 ∷ 0 ∷ 0 ∷ []))
    -- P7
    ∷ (first 4, finds 5 1 9 (2 ∷ 9 ∷ []) 1)
    ∷ (first 4, finds 5 3 8 [] 1)
    -- P8
    ∷ (first 4, finds 4 1 9 [] 0)
    ∷ (first 4, finds 6 1 9 [] 1)
    ∷ []

-- the statement: every row of the table is seen on the definitions
unfoldable pub Cases : Type 0
Cases = all_seen table ≡ true
