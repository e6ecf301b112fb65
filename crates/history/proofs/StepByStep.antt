-- What one configuration write does: the batch is applied to the pairs it moves past and to no other pair, and what remains is what stood beyond the due block.
use Prim.Native.Nat.{ℕ, ◌<◌}
use native.Mathlib.Omega.{arith}
use mathlib.Core.Path.{◌≡◌, refl, sym, ◌∙◌}
use mathlib.Core.Bool.{Bool, true, false}
use mathlib.Core.List.{List}
use borrow.Author.Tests.{eqb-true, not-true, not-false}
use lib.Dec.{eqb}
use lib.ListN.{length, drop}
use Rattle.pair.specs.Rank.{Words}
use Rattle.block.specs.Block.{fitting, goes_on}
use Rattle.card.specs.Layout.{block_size, boundary, live}
use Rattle.card.specs.Sound.{judged}
use Rattle.card.proofs.Facts.{facts}
use Rattle.card.proofs.Live.{live_rising}
use Rattle.batch.specs.Batch.{updates}
use Rattle.update.specs.Step.{remains, next_write, the_write, step_number, taken, refused, step}
use Rattle.update.proofs.Grown.{DueWritten}
use Rattle.update.proofs.Next.{remains_next_law}
use Rattle.update.proofs.Steps.{accepted, step_taken, step_refused}
use Rattle.update.proofs.Writes.{by_next_write}
use Rattle.history.specs.History.{to_write, landed}
use Rattle.history.specs.Claims.{Moved, MovedAll, MovesPast, RemainsNext}
use Rattle.history.proofs.Keeping.{Keeping, itself, keeping_itself, keeping_boundary}
use Rattle.history.proofs.Events.{keeping_stepped}
use Rattle.history.proofs.Answers.{step_finishes}
use Rattle.history.proofs.Landed.{landed_moves, landed_finishes}

module _ (c b : List ℕ) (wc : Words c) (wb : Words b) (s : judged c ≡ 0) (w : (step c b).write ≡ 3) where
  start : Keeping c (itself c)
  start = keeping_itself c wc s

  kept : Keeping (step c b).card (landed b (itself c))
  kept = rw w at (keeping_stepped c b (itself c) start wb)

  on : (step c b).finished ≡ false → goes_on (block_size c) (to_write b (itself c)) ≡ true
  on f = not-false _ (sym (step_finishes c b (itself c) start w) ∙ f)

  off : (step c b).finished ≡ true → goes_on (block_size c) (to_write b (itself c)) ≡ false
  off f = not-true _ (sym (step_finishes c b (itself c) start w) ∙ f)

  moved : (step c b).finished ≡ false → Moved (updates b) (boundary c) (boundary (step c b).card) (live c) (live (step c b).card)
  moved f =
      rw (kept.index, keeping_boundary (step c b).card (landed b (itself c)) kept)
      (landed_moves b (itself c) (omega (arith, facts c s)) (live_rising c (facts c s)) (on f))

  moved_all : (step c b).finished ≡ true → MovedAll (updates b) (boundary c) (live c) (live (step c b).card)
  moved_all f = rw kept.index (landed_finishes b (itself c) (live_rising c (facts c s)) (off f))

pub moves_past : MovesPast
unfolding MovesPast
moves_past c b wc wb s w = (moved c b wc wb s w, moved_all c b wc wb s w)

-- the third write is next only where the due block and its map entry are in place
ready : (c r : List ℕ) → next_write c r ≡ 3 → 0 < length r → DueWritten c r
ready c r = by_next_write c r (λ w. w ≡ 3 → 0 < length r → DueWritten c r) (λ h e. absurd (omega arith)) (λ h p e. absurd (omega arith)) (λ z e. z)

pub remains_next : RemainsNext
unfolding RemainsNext taken refused the_write
remains_next c b wc wb = go (eqb (step_number c b) 0) refl
  where
    go : (t : Bool) → eqb (step_number c b) 0 ≡ t → (step c b).write ≡ 3 → (step c b).finished ≡ false →
        remains (step c b).card b ≡ drop (fitting (block_size c) 0 (remains c b)) (remains c b)
    go true e =
        let z = eqb-true (step_number c b) 0 e in
        let a = accepted c b z in
        rw (step_taken c b z)
        (λ w f. rw w
        (remains_next_law c b (facts c a.sound) wc wb a.in_order (ready c (remains c b) w) a.free (not-false _ (rw w at f))))
    go false e = rw (step_refused c b e) (λ w f. absurd (omega arith))
