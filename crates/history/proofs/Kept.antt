-- One batch, begun with no pass open and kept: from its first finishing write on the pairs are the old ones with the batch applied.
use Prim.Native.Nat.{ℕ, ◌≤◌, ◌<◌}
use mathlib.Core.Path.{◌≡◌, refl, sym, ap, ◌∙◌}
use mathlib.Core.Bool.{Bool, true, false}
use mathlib.Core.List.{List, ◌++◌}
use native.Mathlib.Omega.{arith}
use Rattle.pair.specs.Rising.{above, at_most, rising_from}
use Rattle.pair.proofs.Rising.{rises, rises_from}
use Rattle.pair.proofs.Parts.{parts, above_all, at_most_none, above_joined, above_joined_further, at_most_joined, rising_joined}
use Rattle.block.specs.Block.{goes_on}
use Rattle.batch.specs.Batch.{updates, applied, batch_number}
use Rattle.batch.proofs.Local.{above_applied}
use Rattle.batch.proofs.InOrder.{rising_batch}
use Rattle.history.specs.History.{History, to_write, landed}
use Rattle.history.proofs.Landed.{target, reach, mark_rises, landed_on, landed_end}

-- in a pass with the batch b over the pairs s: up to the mark the batch is applied, above it the pairs are those of s
pub record Kept (b s : List ℕ) (h : History) : Type 0 where
  pub large : 3 ≤ h.size
  pub now : h.pairs ≡ at_most h.mark (applied (updates b) s) ++ above h.mark s

module _ (b s : List ℕ) (ordered : batch_number b ≡ 0) (r : rising_from 0 s ≡ true) where
  rising_after : rising_from 0 (applied (updates b) s) ≡ true
  rising_after = rising_batch b s ordered r

  -- with no pass open
  pub kept_start : (h : History) → 3 ≤ h.size → h.mark ≡ 0 → h.pairs ≡ s → Kept b s h
  kept_start h z m e =
      record {
        large = z;
        now =
            rw m (e ∙ rw (at_most_none (applied (updates b) s) 0 0 (omega arith) rising_after) (sym (above_all s 0 0 (omega arith) r)));
      }

  -- the pairs rise
  pub kept_rising : (h : History) → Kept b s h → rising_from 0 h.pairs ≡ true
  kept_rising h k = rw k.now (rising_joined 0 h.mark (applied (updates b) s) s (omega arith) rising_after (rises_from s 0 r))

  -- what the pass is to leave is s with the batch applied
  pub kept_target : (h : History) → Kept b s h → target b h ≡ applied (updates b) s
  unfolding target to_write
  kept_target h k = rw (below, over) (parts (applied (updates b) s) 0 h.mark rising_after)
    where
      below : at_most h.mark h.pairs ≡ at_most h.mark (applied (updates b) s)
      below = ap (at_most h.mark) k.now ∙ at_most_joined h.mark (applied (updates b) s) s

      over : above h.mark (applied (updates b) h.pairs) ≡ above h.mark (applied (updates b) s)
      over =
          above_applied h.mark (updates b) h.pairs s (rises_from h.pairs 0 (kept_rising h k)) (rises_from s 0 r)
          (ap (above h.mark) k.now ∙ above_joined h.mark (applied (updates b) s) s)

  -- a configuration write that goes on keeps to it
  pub kept_on : (h : History) → Kept b s h → goes_on h.size (to_write b h) ≡ true → Kept b s (landed b h)
  kept_on h k g =
      rw (landed_on b h rise k.large g)
      (record {
        large = k.large;
        now = rw (kept_target h k) (ap (λ xs. at_most (reach b h) (applied (updates b) s) ++ xs) over);
      })
    where
      rise : rises h.pairs ≡ true
      rise = rises_from h.pairs 0 (kept_rising h k)

      over : above (reach b h) h.pairs ≡ above (reach b h) s
      over =
          let l : h.mark < reach b h = mark_rises b h rise k.large g in
          ap (above (reach b h)) k.now ∙ above_joined_further (reach b h) h.mark (applied (updates b) s) s (omega arith)

  -- one that finishes leaves s with the batch applied
  pub kept_end : (h : History) → Kept b s h → goes_on h.size (to_write b h) ≡ false
      → landed b h ≡ record { size = h.size; pairs = applied (updates b) s; mark = 0 }
  kept_end h k g =
      landed_end b h (rises_from h.pairs 0 (kept_rising h k)) g
      ∙ ap (λ ps. record { size = h.size; pairs = ps; mark = 0 }) (kept_target h k)

-- with s applied already, the pairs are those of s at all times
pub kept_applied : (b s : List ℕ) (h : History) → rising_from 0 s ≡ true → applied (updates b) s ≡ s → Kept b s h → h.pairs ≡ s
kept_applied b s h r e k = k.now ∙ rw e (parts s 0 h.mark r)

-- and they stay so at every configuration write
pub kept_still : (b s : List ℕ) (h : History) → batch_number b ≡ 0 → rising_from 0 s ≡ true → applied (updates b) s ≡ s → Kept b s h → Kept b s (landed b h)
kept_still b s h o r e k = go (goes_on h.size (to_write b h)) refl
  where
    go : (t : Bool) → goes_on h.size (to_write b h) ≡ t → Kept b s (landed b h)
    go true g = kept_on b s o r h k g
    go false g = rw (kept_end b s o r h k g) (kept_start b s o r _ k.large refl e)

-- the batch begun anew over what it has made
pub kept_again : (b s : List ℕ) (h : History) → batch_number b ≡ 0 → rising_from 0 s ≡ true → Kept b s h → goes_on h.size (to_write b h) ≡ false
    → Kept b (applied (updates b) s) (landed b h)
kept_again b s h o r k g =
    rw (kept_end b s o r h k g)
    (kept_start b (applied (updates b) s) o (rising_batch b s o r) _ k.large refl refl)
