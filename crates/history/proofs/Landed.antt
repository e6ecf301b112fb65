-- A landed configuration write applies the batch to the pairs it moves past, and to no other pair.
use Prim.Native.Nat.{ℕ, ◌≤◌, ◌<◌}
use mathlib.Core.Path.{◌≡◌, refl, sym, ap, ◌∙◌}
use mathlib.Core.Bool.{Bool, true, false}
use mathlib.Core.List.{List, ◌++◌, append_assoc}
use mathlib.Core.Logic.{◌⊎◌, inl, inr}
use native.Mathlib.Omega.{arith}
use Rattle.pair.specs.Rank.{Words, Proper}
use Rattle.pair.specs.Rising.{Each, above, at_most, rising_from, last}
use Rattle.pair.proofs.Tests.{cond_both}
use Rattle.pair.proofs.Rising.{rises, rises_from, rising_weaker, rising_last_above}
use Rattle.pair.proofs.Each.{each_append, each_imply, each_last}
use Rattle.pair.proofs.Parts.{at_most_append, at_most_at_most, above_at_most, at_most_take, rises_above, above_joined, at_most_joined, at_most_joined_nearer, rising_joined, above_Each, at_most_Each}
use Rattle.block.specs.Block.{fitting, due, goes_on}
use Rattle.block.proofs.Due.{due_some, goes_on_some, rising_due, proper_due}
use Rattle.batch.specs.Batch.{updates, applied, batch_number}
use Rattle.batch.proofs.Meaning.{rises_applied}
use Rattle.batch.proofs.InOrder.{proper_batch}
use Rattle.history.specs.History.{History, to_write, next, landed}
use Rattle.history.specs.Claims.{Moved, MovedAll}

-- the pairs that the pass would leave if it finished now: the batch applied above the mark
unfoldable pub target : List ℕ → History → List ℕ
target b h = at_most h.mark h.pairs ++ to_write b h

-- the mark that a configuration write sets where it goes on
unfoldable pub reach : List ℕ → History → ℕ
reach b h = last 0 (next b h)

-- it is as the pairs are up to the mark, and as the batch makes them above it
pub at_most_target : (b : List ℕ) (h : History) → at_most h.mark (target b h) ≡ at_most h.mark h.pairs
unfolding target to_write
at_most_target b h = at_most_joined h.mark h.pairs (applied (updates b) h.pairs)

pub above_target : (b : List ℕ) (h : History) → above h.mark (target b h) ≡ above h.mark (applied (updates b) h.pairs)
unfolding target to_write
above_target b h = above_joined h.mark h.pairs (applied (updates b) h.pairs)

module _ (b : List ℕ) (h : History) (r : rises h.pairs ≡ true) where
  rises_written : rises (applied (updates b) h.pairs) ≡ true
  rises_written = rises_applied (updates b) h.pairs r

  rising_to_write : rising_from h.mark (to_write b h) ≡ true
  unfolding to_write
  rising_to_write = rises_above h.mark (applied (updates b) h.pairs) rises_written

  rising_to_write_0 : rising_from 0 (to_write b h) ≡ true
  rising_to_write_0 = rising_weaker (to_write b h) 0 h.mark (omega arith) rising_to_write

  -- D is what R has up to the new mark
  pub next_reach : at_most (reach b h) (to_write b h) ≡ next b h
  unfolding reach next due
  next_reach = at_most_take (fitting h.size 0 (to_write b h)) (to_write b h) 0 rising_to_write_0

  module _ (z : 3 ≤ h.size) (g : goes_on h.size (to_write b h) ≡ true) where
    -- the new mark is above the old one
    pub mark_rises : h.mark < reach b h
    unfolding reach next
    mark_rises =
        rising_last_above (due h.size (to_write b h)) h.mark 0 (due_some h.size (to_write b h) z (goes_on_some h.size (to_write b h) g))
        (rising_due h.size h.mark (to_write b h) rising_to_write)

    -- up to it the target has the pairs up to the old mark, then D
    target_next : at_most (reach b h) (target b h) ≡ at_most h.mark h.pairs ++ next b h
    unfolding target
    target_next =
        let l : h.mark ≤ reach b h = (let m = mark_rises in omega arith) in
        at_most_append (reach b h) (at_most h.mark h.pairs) (to_write b h)
        ∙ rw (at_most_at_most h.mark (reach b h) h.pairs l, next_reach)

    -- going on, the write sets the mark to D's last pair, and the pairs up to there to those of the target
    pub landed_on : landed b h
        ≡ record { size = h.size; pairs = at_most (reach b h) (target b h) ++ above (reach b h) h.pairs; mark = reach b h }
    landed_on = rw (target_next, append_assoc) (unfold landed reach in rw g)

  -- finishing, the pairs become the target
  pub landed_end : goes_on h.size (to_write b h) ≡ false → landed b h ≡ record { size = h.size; pairs = target b h; mark = 0 }
  unfolding landed target
  landed_end g = rw g

-- a configuration write leaves the block size
pub landed_size : (b : List ℕ) (h : History) → (landed b h).size ≡ h.size
unfolding landed
landed_size b h = cond_both (λ (g : History). g.size ≡ h.size) (goes_on h.size (to_write b h)) _ _ (λ e. refl) (λ e. refl)

-- the target rises, and so do the pairs that a configuration write leaves
pub rising_target : (b : List ℕ) (h : History) → rising_from 0 h.pairs ≡ true → rising_from 0 (target b h) ≡ true
unfolding target to_write
rising_target b h r =
    rising_joined 0 h.mark h.pairs (applied (updates b) h.pairs) (omega arith) r
    (rises_applied (updates b) h.pairs (rises_from h.pairs 0 r))

pub rising_landed : (b : List ℕ) (h : History) → 3 ≤ h.size → rising_from 0 h.pairs ≡ true → rising_from 0 (landed b h).pairs ≡ true
rising_landed b h z r = go (goes_on h.size (to_write b h)) refl
  where
    s : rises h.pairs ≡ true
    s = rises_from h.pairs 0 r

    go : (t : Bool) → goes_on h.size (to_write b h) ≡ t → rising_from 0 (landed b h).pairs ≡ true
    go true g =
        rw (landed_on b h s z g) (rising_joined 0 (reach b h) (target b h) h.pairs (omega arith) (rising_target b h r) s)
    go false g = rw (landed_end b h s g) (rising_target b h r)

-- step by step: a configuration write that goes on applies the batch to the pairs above the old mark up to the new one
pub landed_moves : (b : List ℕ) (h : History) → 3 ≤ h.size → rising_from 0 h.pairs ≡ true → goes_on h.size (to_write b h) ≡ true
    → Moved (updates b) h.mark (landed b h).mark h.pairs (landed b h).pairs
landed_moves b h z r g =
    rw (landed_on b h s z g)
    (record {
      below = at_most_joined_nearer h.mark (reach b h) (target b h) h.pairs (low (mark_rises b h s z g)) ∙ at_most_target b h;
      past = ap (above h.mark) (at_most_joined (reach b h) (target b h) h.pairs)
          ∙ (above_at_most h.mark (reach b h) (target b h)
          ∙ (ap (at_most (reach b h)) (above_target b h) ∙ sym (above_at_most h.mark (reach b h) (applied (updates b) h.pairs))));
      beyond = above_joined (reach b h) (target b h) h.pairs;
    })
  where
    s : rises h.pairs ≡ true
    s = rises_from h.pairs 0 r

    low : h.mark < reach b h → h.mark ≤ reach b h
    low l = omega arith

-- and one that finishes, to all pairs above the old mark
pub landed_finishes : (b : List ℕ) (h : History) → rising_from 0 h.pairs ≡ true → goes_on h.size (to_write b h) ≡ false
    → MovedAll (updates b) h.mark h.pairs (landed b h).pairs
landed_finishes b h r g =
    rw (landed_end b h (rises_from h.pairs 0 r) g)
    (record { below = at_most_target b h; past = above_target b h })

-- a configuration write leaves pairs, and a pair for a mark, or none
pub proper_to_write : (b : List ℕ) (h : History) → Words b → batch_number b ≡ 0 → Each Proper h.pairs → Each Proper (to_write b h)
unfolding to_write
proper_to_write b h w o a =
    above_Each Proper h.mark (applied (updates b) h.pairs) (proper_batch b h.pairs w o a)

pub proper_next : (b : List ℕ) (h : History) → Words b → batch_number b ≡ 0 → Each Proper h.pairs → Each Proper (next b h)
unfolding next
proper_next b h w o a = proper_due h.size (to_write b h) (proper_to_write b h w o a)

-- so are the pairs that it leaves
pub proper_landed : (b : List ℕ) (h : History) → Words b → batch_number b ≡ 0 → Each Proper h.pairs → Each Proper (landed b h).pairs
unfolding landed
proper_landed b h w o a =
    cond_both (λ (g : History). Each Proper g.pairs) (goes_on h.size (to_write b h)) _ _
    (λ e.
    each_append Proper (at_most h.mark h.pairs) (next b h ++ above (last 0 (next b h)) h.pairs) below
    (each_append Proper (next b h) (above (last 0 (next b h)) h.pairs) (proper_next b h w o a)
    (above_Each Proper (last 0 (next b h)) h.pairs a)))
    (λ e. each_append Proper (at_most h.mark h.pairs) (to_write b h) below (proper_to_write b h w o a))
  where
    below : Each Proper (at_most h.mark h.pairs)
    below = at_most_Each Proper h.mark h.pairs a

-- and the mark is a pair or none
pub mark_landed : (b : List ℕ) (h : History) → Words b → batch_number b ≡ 0 → Each Proper h.pairs
    → ((landed b h).mark ≡ 0) ⊎ Proper (landed b h).mark
unfolding landed
mark_landed b h w o a =
    cond_both (λ (g : History). (g.mark ≡ 0) ⊎ Proper g.mark) (goes_on h.size (to_write b h)) _ _
    (λ e.
    each_last (λ x. (x ≡ 0) ⊎ Proper x) (next b h) 0 (inl refl)
    (each_imply Proper (λ x. (x ≡ 0) ⊎ Proper x) (λ x p. inr p) (next b h) (proper_next b h w o a)))
    (λ e. inl refl)
