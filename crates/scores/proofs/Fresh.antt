-- A fresh card is sound, and a word holds the steps of a pass on it.
use Prim.Native.Nat.{ℕ, ◌+◌, ◌*◌, ◌≤◌, ◌<◌}
use native.Mathlib.Omega.{arith}
use mathlib.Core.Path.{◌≡◌, refl, ap}
use mathlib.Core.Bool.{Bool, true, false, cond, not}
use mathlib.Core.List.{List, []}
use lib.ListN.{length, replicate}
use lib.Dec.{ltb, eqb}
use Rattle.pair.specs.Rank.{word_limit}
use Rattle.pair.specs.Tests.{first_of}
use Rattle.pair.specs.Rising.{keep, above}
use Rattle.pair.proofs.Keep.{length_keep}
use Rattle.card.specs.Layout.{card_length, width_of, block_size, format_number, boundary, live}
use Rattle.card.specs.Sound.{judged}
use Rattle.card.proofs.Formatted.{formatted_sound, formatted_live}
use Rattle.batch.specs.Batch.{updates, withdrawn, with_added, applied, record_words, records_most}
use Rattle.batch.proofs.Meaning.{added_few}
use Rattle.batch.proofs.Records.{length_updates}
use Rattle.update.specs.Step.{remains}
use Rattle.update.specs.Pass.{blocks_from, blocks, step_limit}
use Rattle.update.proofs.Blocks.{blocks_few}
use Rattle.scores.specs.Outcome.{fresh_card, steps_most}

-- formatting it is not refused
pub fits : format_number (replicate (card_length (width_of 1) 8 6) 0) 8 6 ≡ 0
unfolding format_number width_of first_of
fits = refl

pub fresh_sound : judged fresh_card ≡ 0
unfolding fresh_card
fresh_sound = formatted_sound (replicate (card_length (width_of 1) 8 6) 0) 8 6 fits

fresh_live : live fresh_card ≡ []
unfolding fresh_card
fresh_live = formatted_live (replicate (card_length (width_of 1) 8 6) 0) 8 6 fits

limit_few : (b : ℕ) (r : List ℕ) → step_limit b r ≤ 3 * length r + 1
unfolding step_limit blocks
limit_few b r = go (eqb (blocks_from b 0 0 r) 0)
  where
    go : (t : Bool) → cond t 1 (3 * blocks_from b 0 0 r) ≤ 3 * length r + 1
    go true = omega arith
    go false = omega (arith, blocks_few b 0 0 r)

remains_few : (b : List ℕ) → 5 * length (remains fresh_card b) ≤ length b
unfolding remains above applied
remains_few b =
    let us = updates b in
    let kept = keep (λ x. not (withdrawn us x)) (with_added us (live fresh_card)) in
    omega (
      arith,
      length_keep (ltb (boundary fresh_card)) kept,
      length_keep (λ x. not (withdrawn us x)) (with_added us (live fresh_card)),
      added_few us (live fresh_card),
      ap length fresh_live,
      length_updates b,
    )

pub few_steps : (b : List ℕ) → length b ≤ record_words * records_most → steps_most fresh_card b < word_limit
unfolding steps_most
few_steps b h = omega (arith, limit_few (block_size fresh_card) (remains fresh_card b), remains_few b, h)
