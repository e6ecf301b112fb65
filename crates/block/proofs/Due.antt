-- The due block: the longest beginning that fits, as pairs and as words.
use Prim.Native.Nat.{ℕ, ◌+◌, ◌-◌, ◌≤◌, ◌<◌}
use native.Mathlib.Omega.{arith}
use mathlib.Core.Path.{◌≡◌, ◌∙◌, ap}
use mathlib.Core.Bool.{Bool, true, false, cond}
use mathlib.Core.List.{List, [], ◌∷◌, ◌++◌}
use lib.ListN.{length, take, drop, length-drop}
use lib.Seq.{length-take-le, take_all, take-append-add}
use lib.Dec.{eqb}
use borrow.Author.Tests.{ltb-true, ltb-false, le-leb}
use Rattle.pair.specs.Rank.{term, Words, Proper}
use Rattle.pair.specs.Rising.{Each, above, rising_from, last}
use Rattle.pair.proofs.Each.{each_take}
use Rattle.pair.proofs.Rising.{last_some, rising_take, rising_first, rising_second, rising_last, last_append}
use Rattle.pair.proofs.Parts.{above_none}
use Rattle.block.specs.Block.{pairs, formed, packed, block_of, cost, fitting, due, goes_on}
use Rattle.block.proofs.Size.{size, size_packed, size_fitting, fitting_longest, fitting_whole, fitting_length}
use Rattle.block.proofs.Packing.{pairs_block_of, length_block_of, formed_block_of, words_block_of}

-- the due pairs cost at most b words
pub due_size : (b : ℕ) (r : List ℕ) → size 0 (due b r) ≤ b
unfolding due
due_size b r = size_fitting b 0 r

-- no longer beginning does
pub due_longest : (b : ℕ) (r : List ℕ) (n : ℕ) → length (due b r) < n → n ≤ length r → b < length (packed (take n r))
unfolding due
due_longest b r n h l =
    rw (size_packed 0 (take n r))
    (fitting_longest b 0 r n (rw (length-take-le (fitting b 0 r) r (fitting_length b 0 r)) at h) l)

pub length_due : (b : ℕ) (r : List ℕ) → length (due b r) ≡ fitting b 0 r
unfolding due
length_due b r = length-take-le (fitting b 0 r) r (fitting_length b 0 r)

-- where a pair remains, a pair is due
pub fitting_some : (b : ℕ) (r : List ℕ) → 3 ≤ b → 0 < length r → 0 < fitting b 0 r
unfolding fitting
fitting_some b [] h l = omega arith
fitting_some b (k ∷ ks) h l = rw (le-leb (cost 0 k) b (go (eqb (term k) 0))) (omega arith)
  where
    go : (s : Bool) → cond s 1 3 ≤ b
    go true = omega arith
    go false = omega arith

pub due_some : (b : ℕ) (r : List ℕ) → 3 ≤ b → 0 < length r → 0 < length (due b r)
due_some b r h l = rw (length_due b r) (fitting_some b r h l)

pub goes_on_some : (b : ℕ) (r : List ℕ) → goes_on b r ≡ true → 0 < length r
unfolding goes_on
goes_on_some b r g = omega (arith, ltb-true (fitting b 0 r) (length r) g)

-- pairs beyond the due ones
pub goes_on_rest : (b : ℕ) (r : List ℕ) → goes_on b r ≡ true → 0 < length (drop (fitting b 0 r) r)
unfolding goes_on
goes_on_rest b r g = rw (length-drop (fitting b 0 r) r) (omega (arith, ltb-true (fitting b 0 r) (length r) g))

-- without such pairs everything is due
pub due_whole : (b : ℕ) (r : List ℕ) → goes_on b r ≡ false → due b r ≡ r
unfolding goes_on due
due_whole b r g = take_all (fitting b 0 r) r (ltb-false (fitting b 0 r) (length r) g)

pub proper_due : (b : ℕ) (r : List ℕ) → Each Proper r → Each Proper (due b r)
unfolding due
proper_due b r h = each_take Proper (fitting b 0 r) r h

pub rising_due : (b k : ℕ) (r : List ℕ) → rising_from k r ≡ true → rising_from k (due b r) ≡ true
unfolding due
rising_due b k r h = rising_take (fitting b 0 r) r k h

-- the due block fits its place
pub length_due_block : (b : ℕ) (r : List ℕ) → length (block_of b (due b r)) ≡ b
length_due_block b r = length_block_of b (due b r) (due_size b r)

-- it reads as the due pairs
pub pairs_due_block : (b : ℕ) (r : List ℕ) → Each Proper r → pairs (block_of b (due b r)) ≡ due b r
pairs_due_block b r h = pairs_block_of b (due b r) (proper_due b r h)

-- it is well formed
pub formed_due_block : (b : ℕ) (r : List ℕ) → 3 ≤ b → 0 < length r → Each Proper r → rising_from 0 r ≡ true → formed (block_of b (due b r)) ≡ true
formed_due_block b r h l p s = formed_block_of b (due b r) (proper_due b r p) (rising_due b 0 r s) (due_some b r h l)

-- and its words are 32-bit words
pub words_due_block : (b : ℕ) (r : List ℕ) → b ≤ 1024 → Each Proper r → Words (block_of b (due b r))
words_due_block b r h p = words_block_of b (due b r) (proper_due b r p) (due_size b r) h

-- pairs that fit are all due, whatever follows them
pub due_append : (b : ℕ) (xs ys : List ℕ) → size 0 xs ≤ b → due b (xs ++ ys) ≡ xs ++ take (fitting b 0 (xs ++ ys) - length xs) ys
unfolding due
due_append b xs ys h =
    let enough : length xs ≤ fitting b 0 (xs ++ ys) = fitting_whole b 0 xs ys h in
    let split : fitting b 0 (xs ++ ys) ≡ length xs + (fitting b 0 (xs ++ ys) - length xs) = omega arith in
    ap (λ n. take n (xs ++ ys)) split ∙ take-append-add xs ys (fitting b 0 (xs ++ ys) - length xs)

-- the last due pair lies above where what remains starts
pub due_high : (b k : ℕ) (r : List ℕ) → 3 ≤ b → 0 < length r → rising_from k r ≡ true → k ≤ last 0 (due b r)
due_high b k r h l s = rw (last_some (due b r) 0 k (due_some b r h l)) (rising_last (due b r) k (rising_due b k r s))

-- of pairs that fit none lies above the last due pair, whatever follows them
pub due_covers : (b k : ℕ) (xs ys : List ℕ) → 3 ≤ b → size 0 xs ≤ b → 0 < length (xs ++ ys) → rising_from k (xs ++ ys) ≡ true →
    above (last 0 (due b (xs ++ ys))) xs ≡ []
due_covers b k xs ys h f l s = above_none xs (last 0 (due b (xs ++ ys))) k (rising_first xs ys k s) high
  where
    zs : List ℕ
    zs = take (fitting b 0 (xs ++ ys) - length xs) ys

    high : last k xs ≤ last 0 (due b (xs ++ ys))
    high =
        rw (last_some (due b (xs ++ ys)) 0 k (due_some b (xs ++ ys) h l), due_append b xs ys f, last_append)
        (rising_last zs (last k xs) (rising_second xs zs k (rw (due_append b xs ys f) at (rising_due b k (xs ++ ys) s))))
