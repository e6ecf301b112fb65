-- Pairs packed into the words of a block: they read back as the pairs, and the block is well formed.
use Prim.Native.Nat.{ℕ, zero, suc, ◌-◌, ◌≤◌, ◌<◌}
use native.Mathlib.Omega.{arith}
use mathlib.Core.Path.{◌≡◌, refl}
use mathlib.Core.Bool.{Bool, true, false, cond}
use mathlib.Core.List.{List, [], ◌∷◌, ◌++◌}
use lib.ListN.{length, take, replicate, length-append, length-replicate}
use lib.Dec.{ltb, eqb}
use borrow.Author.Tests.{ltb-true, lt-ltb, eqb-true, eqb-false, ne_eqb}
use Rattle.pair.specs.Rank.{rank, term, position, Words, Proper}
use Rattle.pair.specs.Rising.{Each, rising_from}
use Rattle.pair.proofs.Order.{rank_term_position}
use Rattle.pair.proofs.Tests.{and_left, and_right}
use Rattle.pair.proofs.Words.{words_cons, words_zeros}
use Rattle.block.specs.Block.{zeros, pairs_from, pairs, formed_from, formed, leading, packed_after, packed, block_of}
use Rattle.block.proofs.Size.{size, size_packed, length_size}

pairs_zeros : (m t : ℕ) → pairs_from (replicate m 0) t 0 ≡ []
unfolding pairs_from
pairs_zeros zero t = refl
pairs_zeros (suc zero) t = refl
pairs_zeros (suc (suc zero)) t = refl
pairs_zeros (suc (suc (suc m))) t = refl

-- packed pairs read back, with zeros behind them
pub pairs_packed : (t m : ℕ) (ks : List ℕ) → Each Proper ks → pairs_from (packed_after t ks ++ replicate m 0) t (leading t ks) ≡ ks
unfolding pairs_from packed_after leading
pairs_packed t m [] h = pairs_zeros m t
pairs_packed t m (k ∷ ks) (h, hs) = go (λ u. pairs_packed u m ks hs) (eqb (term k) t) refl
  where
    go : ((u : ℕ) → pairs_from (packed_after u ks ++ replicate m 0) u (leading u ks) ≡ ks) → (s : Bool) → eqb (term k) t ≡ s →
        pairs_from (packed_after t (k ∷ ks) ++ replicate m 0) t (leading t (k ∷ ks)) ≡ k ∷ ks
    go ih true e = rw e (rw (ih t, ← eqb-true (term k) t e, rank_term_position k))
    go ih false e = rw e (rw (ne_eqb (term k) 0 (omega arith), ih (term k), rank_term_position k))

zeros_replicate : (m : ℕ) → zeros (replicate m 0) ≡ true
unfolding zeros
zeros_replicate zero = refl
zeros_replicate (suc m) = zeros_replicate m

formed_zeros : (m t p : ℕ) → formed_from (replicate m 0) t 0 p ≡ true
unfolding formed_from zeros
formed_zeros zero t p = refl
formed_zeros (suc zero) t p = refl
formed_zeros (suc (suc zero)) t p = refl
formed_zeros (suc (suc (suc m))) t p = zeros_replicate m

-- packed rising pairs are well formed, with zeros behind them
pub formed_packed : (t p m : ℕ) (ks : List ℕ) → p < 4294967296 → Each Proper ks → rising_from (rank t p) ks ≡ true →
    formed_from (packed_after t ks ++ replicate m 0) t (leading t ks) p ≡ true
unfolding formed_from packed_after leading rising_from
formed_packed t p m [] l h r = formed_zeros m t p
formed_packed t p m (k ∷ ks) l (h, hs) r =
    let high : position k < 4294967296 = omega arith in
    let tail : rising_from k ks ≡ true = and_right (ltb (rank t p) k) (rising_from k ks) r in
    let behind : formed_from (packed_after (term k) ks ++ replicate m 0) (term k) (leading (term k) ks) (position k) ≡ true
    = formed_packed (term k) (position k) m ks high hs (rw (rank_term_position k) tail) in
    go behind (ltb-true (rank t p) k (and_left (ltb (rank t p) k) (rising_from k ks) r)) (eqb (term k) t) refl
  where
    go : formed_from (packed_after (term k) ks ++ replicate m 0) (term k) (leading (term k) ks) (position k) ≡ true →
        rank t p < k → (s : Bool) → eqb (term k) t ≡ s →
        formed_from (packed_after t (k ∷ ks) ++ replicate m 0) t (leading t (k ∷ ks)) p ≡ true
    go ih less true e =
        let f : term k ≡ t = eqb-true (term k) t e in
        rw (e, lt-ltb p (position k) (omega arith)) (rw f at ih)
    go ih less false e =
        let f : (term k ≡ t → ⊥) = eqb-false (term k) t e in
        rw (
          e,
          ne_eqb (term k) 0 (omega arith),
          lt-ltb t (term k) (omega arith),
          lt-ltb 0 (suc (leading (term k) ks)) (omega arith),
          lt-ltb 0 (position k) (omega arith),
        ) ih

leading_none : (ks : List ℕ) → Each Proper ks → leading 0 ks ≡ 0
unfolding leading
leading_none [] h = refl
leading_none (k ∷ ks) (h, hs) = rw (ne_eqb (term k) 0 (omega arith))

leading_length : (t : ℕ) (ks : List ℕ) → leading t ks ≤ length ks
unfolding leading
leading_length t [] = omega arith
leading_length t (k ∷ ks) = go (leading_length t ks) (eqb (term k) t)
  where
    go : leading t ks ≤ length ks → (s : Bool) → cond s (suc (leading t ks)) 0 ≤ suc (length ks)
    go ih true = omega arith
    go ih false = omega arith

-- packed pairs are 32-bit words where a count of them is one
pub words_packed : (t m : ℕ) (ks : List ℕ) → Each Proper ks → length ks < 4294967296 → Words (packed_after t ks ++ replicate m 0)
unfolding packed_after
words_packed t m [] h l = words_zeros m
words_packed t m (k ∷ ks) (h, hs) l = go (λ u. words_packed u m ks hs (omega arith)) (eqb (term k) t)
  where
    go : ((u : ℕ) → Words (packed_after u ks ++ replicate m 0)) → (s : Bool) →
        Words (cond s (position k ∷ packed_after t ks) (term k ∷ suc (leading (term k) ks) ∷ position k ∷ packed_after (term k) ks)
        ++ replicate m 0)
    go ih true = words_cons (position k) (packed_after t ks ++ replicate m 0) (omega arith) (ih t)
    go ih false =
        words_cons (term k) _ (omega arith)
        (words_cons (suc (leading (term k) ks)) _ (omega (arith, leading_length (term k) ks))
        (words_cons (position k) _ (omega arith) (ih (term k))))

-- the block of pairs reads as the pairs
pub pairs_block_of : (b : ℕ) (ks : List ℕ) → Each Proper ks → pairs (block_of b ks) ≡ ks
unfolding pairs block_of
pairs_block_of b ks h = rw (leading_none ks h) at (pairs_packed 0 (b - length (packed ks)) ks h)

-- it has b words where the pairs cost no more
pub length_block_of : (b : ℕ) (ks : List ℕ) → size 0 ks ≤ b → length (block_of b ks) ≡ b
unfolding block_of
length_block_of b ks h = simp (length-append, length-replicate, size_packed) (omega arith)

packed_starts : (ks ws : List ℕ) → Each Proper ks → 0 < length ks → zeros (take 1 (packed ks ++ ws)) ≡ false
unfolding packed_after zeros
packed_starts [] ws h l = absurd (omega arith)
packed_starts (k ∷ ks) ws (h, hs) l = let e : eqb (term k) 0 ≡ false = ne_eqb (term k) 0 (omega arith) in rw (e, e)

-- and is well formed where there is a pair and the pairs rise
pub formed_block_of : (b : ℕ) (ks : List ℕ) → Each Proper ks → rising_from 0 ks ≡ true → 0 < length ks → formed (block_of b ks) ≡ true
unfolding formed block_of
formed_block_of b ks h r l =
    let words : formed_from (packed ks ++ replicate (b - length (packed ks)) 0) 0 0 0 ≡ true
    = rw (leading_none ks h) at (formed_packed 0 0 (b - length (packed ks)) ks (omega arith) h r) in
    rw (words, packed_starts ks (replicate (b - length (packed ks)) 0) h l)

-- its words are 32-bit words
pub words_block_of : (b : ℕ) (ks : List ℕ) → Each Proper ks → size 0 ks ≤ b → b ≤ 1024 → Words (block_of b ks)
unfolding block_of
words_block_of b ks h l limit = words_packed 0 (b - length (packed ks)) ks h (omega (arith, length_size 0 ks))
