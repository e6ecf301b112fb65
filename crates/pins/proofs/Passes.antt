-- What is claimed of passes, written out.
use Prim.Native.Nat.{ℕ, ◌+◌, ◌*◌, ◌-◌, ◌%◌, ◌≤◌, ◌<◌}
use mathlib.Core.Path.{◌≡◌}
use mathlib.Core.Bool.{Bool, true, false, cond, ◌||◌, or-false, or_assoc}
use mathlib.Core.Logic.{inl, inr}
use mathlib.Core.List.{List, [], ◌∷◌}
use lib.Dec.{eqb}
use lib.ListN.{length, drop, get_or}
use lib.Seq.{sets}
use borrow.Author.Tests.{ne_eqb}
use Rattle.pair.specs.Rank.{Words}
use Rattle.pair.specs.Rising.{above, at_most}
use Rattle.block.specs.Block.{fitting}
use Rattle.card.specs.Layout.{block_size, place_count, length_of_old, length_of_new, boundary, live, width_of, start_of_old, due_place}
use Rattle.card.specs.Sound.{judged}
use Rattle.batch.specs.Batch.{updates, any_update, applied, batch_number}
use Rattle.span.specs.Span.{write_span}
use Rattle.update.specs.Step.{remains, step_number, step}
use Rattle.update.specs.Pass.{blocks, step_limit, finishes_within, refused_within}
use Rattle.history.specs.History.{Event, stepped, cut, looked, restarted, formats, after}
use Rattle.history.specs.Claims.{Lends, Keeps, ran, free_places, finishing, finished, KeptBatch, PassFinishes, EmptyNeverFull, RemovalsNeverFull, MovesPast, RemainsNext, WriteStands}
use Rattle.history.proofs.EmptyBatch.{empty_never_full}
use Rattle.history.proofs.KeptBatch.{kept_batch}
use Rattle.history.proofs.PassEnds.{pass_finishes}
use Rattle.history.proofs.Removals.{removals_never_full}
use Rattle.history.proofs.StepByStep.{moves_past, remains_next}
use Rattle.history.proofs.WriteStands.{write_stands}
use Rattle.pins.specs.Lists.{words_of, Throughout}
use Rattle.pins.proofs.Demand3.{given}

-- what is claimed of the card that a list leaves where it keeps to one batch, event by event
pub throughout :
    (b : List ℕ) (P : List ℕ → Bool → Type 0) (es : List Event) (c : List ℕ) (f : Bool) →
    (Keeps c b es → P (ran c es) (f || finished c es)) → Throughout b P c f es
unfolding Throughout Lends Keeps after ran finishing finished
throughout b P [] c f k = rw or-false at (k tt)
throughout b P (stepped x ∷ es) c f k = λ e. throughout b P es _ _ (λ l. rw or_assoc (k (e, l)))
throughout b P (cut x ws d ∷ es) c f k = λ e. throughout b P es _ _ (λ l. rw or_assoc (k (e, l)))
throughout b P (looked t a z answer ∷ es) c f k = throughout b P es c f (λ l. k (tt, l))
throughout b P (restarted ∷ es) c f k = throughout b P es c f (λ l. k (tt, l))
throughout b P (formats x n ∷ es) c f k = λ r. throughout b P es _ f (λ l. k (r, l))

-- one batch, begun with no pass open and kept: once a finishing write has landed the index is the old one with the batch applied
pub batch_kept :
    (c b : List ℕ) (es : List Event) → Words c → Words b → Words (words_of es) → judged c ≡ 0 → length_of_new c ≡ 0 →
    Throughout b (λ d f. f ≡ true → live d ≡ applied (updates b) (live c)) c false es
unfolding KeptBatch
batch_kept c b es wc wb g s n = throughout b _ es c false (λ l f. kept_batch c b es wc wb (given es g) s n l f)

-- a pass left uncut and unrefused finishes within 3 × G steps, or 1 where G is 0
pub pass_ends_written_out :
    (c b : List ℕ) → Words c → Words b → judged c ≡ 0 →
    let G = blocks (block_size c) (remains c b) in
    let n = cond (eqb G 0) 1 (3 * G) in
    refused_within n c b ≡ false → finishes_within n c b ≡ true
unfolding PassFinishes step_limit
pass_ends_written_out = pass_finishes

-- number 8 never occurs with an empty batch
pub empty_never_full_written_out : (c : List ℕ) → Words c → judged c ≡ 0 → step_number c [] ≡ 0
unfolding EmptyNeverFull
empty_never_full_written_out = empty_never_full

-- nor with removals only, kept throughout, if two places were free at the first step
pub removals_never_full_written_out :
    (c b : List ℕ) (es : List Event) → Words c → Words b → Words (words_of es) → judged c ≡ 0 → batch_number b ≡ 0 →
    any_update (λ u. eqb u.kind 1) (updates b) ≡ false → 2 ≤ place_count c - (length_of_old c + length_of_new c) →
    Throughout b (λ d f. step_number d b ≡ 0) c false es
unfolding RemovalsNeverFull free_places
removals_never_full_written_out c b es wc wb g s o r two = throughout b _ es c false (removals_never_full c b es wc wb (given es g) s o r two)

-- a configuration write that goes on applies the batch to the pairs above the boundary up to the boundary that it sets, and to no other pair
pub write_moves_past :
    (c b : List ℕ) → Words c → Words b → judged c ≡ 0 → (step c b).write ≡ 3 → (step c b).finished ≡ false →
    let d = (step c b).card in
    (at_most (boundary c) (live d) ≡ at_most (boundary c) (live c))
    × (above (boundary c) (at_most (boundary d) (live d)) ≡ above (boundary c) (at_most (boundary d) (applied (updates b) (live c))))
    × (above (boundary d) (live d) ≡ above (boundary d) (live c))
unfolding MovesPast
write_moves_past c b wc wb s w f = let m = (moves_past c b wc wb s w).0 f in (m.below, m.past, m.beyond)

-- one that finishes applies it to all pairs above the boundary, and to no other pair
pub finish_moves_past :
    (c b : List ℕ) → Words c → Words b → judged c ≡ 0 → (step c b).write ≡ 3 → (step c b).finished ≡ true →
    let d = (step c b).card in
    (at_most (boundary c) (live d) ≡ at_most (boundary c) (live c)) × (above (boundary c) (live d) ≡ above (boundary c) (applied (updates b) (live c)))
unfolding MovesPast
finish_moves_past c b wc wb s w f = let m = (moves_past c b wc wb s w).1 f in (m.below, m.past)

-- what remains after a configuration write that goes on is what remained beyond the due block
pub remains_beyond :
    (c b : List ℕ) → Words c → Words b → (step c b).write ≡ 3 → (step c b).finished ≡ false →
    remains (step c b).card b ≡ drop (fitting (block_size c) 0 (remains c b)) (remains c b)
unfolding RemainsNext
remains_beyond = remains_next

-- a step leaves the card with the words of its write set; there the write that it names stands where the step made it, and the length and every
-- word before and after it are as before
pub write_stands_written_out :
    (c b : List ℕ) → Words c → Words b →
    let d = (step c b).card in
    let p = write_span d (step c b).write in
    (d ≡ sets c (step c b).made.start (step c b).made.words)
    × ((step c b).number ≡ 0 → (p.number ≡ 0) × (p.start ≡ (step c b).made.start) × (p.count ≡ length (step c b).made.words))
    × (length d ≡ length c)
    × ((i : ℕ) → i < p.start → get_or d i 0 ≡ get_or c i 0)
    × ((i : ℕ) → p.start + p.count ≤ i → get_or d i 0 ≡ get_or c i 0)
unfolding WriteStands
write_stands_written_out c b wc wb = let s = write_stands c b wc wb in (s.0, s.1, s.2, (λ i h. s.3 i (inl h)), λ i h. s.3 i (inr h))

-- where each write stands in a sound card: the B words of the due place, the two words of its map entry, the 8 configuration words; no words
-- for any other write, nor in a card that is not sound
module _ (c : List ℕ) where
  abbrev d : ℕ
  d = (start_of_old c + length_of_old c + length_of_new c) % place_count c

  module _ (j : judged c ≡ 0) where
    pub span_of_a_block : write_span c 1 ≡ record { number = 0; start = 8 + 2 * place_count c + d * block_size c; count = block_size c }
    unfolding write_span width_of due_place
    span_of_a_block = rw j

    pub span_of_an_entry : write_span c 2 ≡ record { number = 0; start = 8 + 2 * d; count = 2 }
    unfolding write_span width_of due_place
    span_of_an_entry = rw j

    pub span_of_the_configuration : write_span c 3 ≡ record { number = 0; start = 0; count = 8 }
    unfolding write_span
    span_of_the_configuration = rw j

    pub span_of_no_write : (w : ℕ) → (w ≡ 1 → ⊥) → (w ≡ 2 → ⊥) → (w ≡ 3 → ⊥) → write_span c w ≡ record { number = 0; start = 0; count = 0 }
    unfolding write_span
    span_of_no_write w x y z = rw (j, ne_eqb w 1 x, ne_eqb w 2 y, ne_eqb w 3 z)

  pub span_refused : (judged c ≡ 0 → ⊥) → (w : ℕ) → write_span c w ≡ record { number = judged c; start = 0; count = 0 }
  unfolding write_span
  span_refused n w = let e : eqb (judged c) 0 ≡ false = ne_eqb (judged c) 0 n in rw e
