-- How many blocks a pass has still to write: none where nothing remains, and one fewer beyond the due block.
use Prim.Native.Nat.{ℕ, suc, ◌-◌, ◌≤◌, ◌<◌, zero-le}
use native.Mathlib.Omega.{arith}
use mathlib.Core.Path.{◌≡◌, refl, ap}
use mathlib.Core.Bool.{Bool, true, false, cond}
use mathlib.Core.List.{List, [], ◌∷◌}
use lib.ListN.{length, drop}
use lib.Dec.{leb, eqb}
use borrow.Author.Tests.{le-leb, ne_eqb}
use Rattle.pair.specs.Rank.{term, Proper}
use Rattle.pair.specs.Rising.{Each}
use Rattle.block.specs.Block.{cost, fitting, goes_on}
use Rattle.block.proofs.Due.{goes_on_some, goes_on_rest}
use Rattle.update.specs.Pass.{blocks_from, blocks}

-- a full block takes no further pair
full : (t k : ℕ) → leb (cost t k) 0 ≡ false
full t k = go (eqb (term k) t)
  where
    go : (s : Bool) → leb (cond s 1 3) 0 ≡ false
    go true = refl
    go false = refl

-- the pairs after a block with room left fill the blocks of those that do not fit in it
blocks_from_room : (b room t : ℕ) (r : List ℕ) → blocks_from b room t r ≡ blocks b (drop (fitting room t r) r)
unfolding blocks_from blocks fitting
blocks_from_room b room t [] = refl
blocks_from_room b room t (k ∷ ks) = go (blocks_from_room b (room - cost t k) (term k) ks) (leb (cost t k) room)
  where
    go : blocks_from b (room - cost t k) (term k) ks ≡ blocks b (drop (fitting (room - cost t k) (term k) ks) ks) →
        (s : Bool) → cond s (blocks_from b (room - cost t k) (term k) ks) (suc (blocks_from b (b - 3) (term k) ks))
        ≡ blocks b (drop (cond s (suc (fitting (room - cost t k) (term k) ks)) 0) (k ∷ ks))
    go ih true = ih
    go ih false = rw (full 0 k)

-- the blocks of what remains are the due block and the blocks of the pairs beyond it
pub blocks_next : (b : ℕ) (r : List ℕ) → 3 ≤ b → 0 < length r → Each Proper r →
    blocks b r ≡ suc (blocks b (drop (fitting b 0 r) r))
unfolding blocks blocks_from fitting
blocks_next b [] h l p = absurd (omega arith)
blocks_next b (k ∷ ks) h l (p, ps) =
    let three : eqb (term k) 0 ≡ false = ne_eqb (term k) 0 (omega arith) in
    rw (full 0 k, three, le-leb 3 b h) (ap suc (blocks_from_room b (b - 3) (term k) ks))

-- nothing fills no block, and something fills one at least
pub blocks_none : (b : ℕ) → blocks b [] ≡ 0
unfolding blocks blocks_from
blocks_none b = refl

pub blocks_some : (b : ℕ) (r : List ℕ) → 0 < length r → 0 < blocks b r
unfolding blocks blocks_from
blocks_some b [] l = absurd (omega arith)
blocks_some b (k ∷ ks) l = rw (full 0 k) (omega arith)

-- a pass that goes on has two blocks at least to write, and one that finishes at most one
pub blocks_goes_on : (b : ℕ) (r : List ℕ) → 3 ≤ b → Each Proper r → goes_on b r ≡ true → 2 ≤ blocks b r
blocks_goes_on b r h p g =
    rw (blocks_next b r h (goes_on_some b r g) p) (omega (arith, blocks_some b (drop (fitting b 0 r) r) (goes_on_rest b r g)))

-- every block holds a pair
pub blocks_few : (b room t : ℕ) (r : List ℕ) → blocks_from b room t r ≤ length r
unfolding blocks_from
blocks_few b room t [] = zero-le
blocks_few b room t (k ∷ ks) = go (blocks_few b (room - cost t k) (term k) ks) (blocks_few b (b - 3) (term k) ks) (leb (cost t k) room)
  where
    go :
        blocks_from b (room - cost t k) (term k) ks ≤ length ks → blocks_from b (b - 3) (term k) ks ≤ length ks → (s : Bool) →
        cond s (blocks_from b (room - cost t k) (term k) ks) (suc (blocks_from b (b - 3) (term k) ks)) ≤ suc (length ks)
    go h l true = omega (arith, h)
    go h l false = omega (arith, l)
