-- A step leaves the card with its write made; there the write that it names stands where the step made it, and no other word has changed.
use Prim.Native.Nat.{ℕ, ◌+◌, ◌-◌, ◌≤◌, ◌<◌}
use mathlib.Core.Path.{◌≡◌, refl, sym}
use mathlib.Core.Bool.{Bool, true, false, cond}
use mathlib.Core.Logic.{◌⊎◌, inl, inr}
use mathlib.Core.List.{List}
use native.Mathlib.Omega.{arith}
use lib.ListN.{length}
use lib.Seq.{length-sets}
use lib.Dec.{eqb}
use borrow.Author.Tests.{eqb-true, eqb-false}
use Rattle.block.specs.Block.{goes_on}
use Rattle.card.specs.Layout.{word, block_size, start_of_old, length_of_old}
use Rattle.card.specs.Sound.{judged}
use Rattle.card.proofs.Facts.{facts}
use Rattle.card.proofs.Frame.{Alike, word_alike}
use Rattle.pair.proofs.Lists.{word_sets_before, word_sets_after}
use Rattle.span.specs.Span.{WriteSpan, write_span}
use Rattle.update.specs.Step.{Write, with_write, remains, configured, next_boundary, freed, grown, configuration, next_write, the_write, step_number, taken, refused, step}
use Rattle.update.proofs.Frame.{due_place_alike}
use Rattle.update.proofs.Steps.{accepted, step_taken, step_refused, step_writes}
use Rattle.update.proofs.Writes.{written, length_due_block_law, length_due_entry, by_next_write, written_first_alike, written_second_alike}
use Rattle.history.specs.Claims.{WriteStands}
use Rattle.history.proofs.Events.{keeping_stepped}
use Rattle.history.proofs.Keeping.{keeping_itself}

-- the span is the write's
abbrev Spans : WriteSpan → Write → Type 0
Spans p w = (p.number ≡ 0) × (p.start ≡ w.start) × (p.count ≡ length w.words)

length_configuration : (c r : List ℕ) → length (configuration c r) ≡ 8
unfolding configuration configured
length_configuration c r = go (goes_on (block_size c) r)
  where
    go : (t : Bool) → length (cond t (configured c (start_of_old c + freed c r) (length_of_old c - freed c r) (grown c r) (next_boundary c r)) (configured c (start_of_old c + length_of_old c) (grown c r) 0 0)) ≡ 8
    go true = refl
    go false = refl

module _ (c r : List ℕ) (s : judged c ≡ 0) where
  -- the words that say where it stands are the same before a write of a block or an entry and after it
  unmoved : (d : List ℕ) → Alike c d → (word d 0 ≡ word c 0) × (word d 1 ≡ word c 1) × (word d 2 ≡ word c 2)
  unmoved d a = (word_alike c d a 0 (omega arith), word_alike c d a 1 (omega arith), word_alike c d a 2 (omega arith))

  spans : judged (written c r (next_write c r)) ≡ 0 → Spans (write_span (written c r (next_write c r)) (next_write c r)) (the_write c r (next_write c r))
  unfolding write_span the_write
  spans =
      by_next_write c r (λ w. judged (written c r w) ≡ 0 → Spans (write_span (written c r w) w) (the_write c r w))
      (λ some j.
      let a = written_first_alike c r (facts c s) in
      let u = unmoved (written c r 1) a in
      rw (j, due_place_alike c (written c r 1) a, u.0, u.1, u.2) (refl, refl, sym (length_due_block_law c r)))
      (λ some placed j.
      let a = written_second_alike c r (facts c s) in
      let u = unmoved (written c r 2) a in
      rw (j, due_place_alike c (written c r 2) a, u.0) (refl, refl, sym (length_due_entry c r)))
      (λ ready j. rw j (refl, refl, sym (length_configuration c r)))

-- words change where a write stands alone
outside : (c : List ℕ) (w : Write) (i : ℕ) → (i < w.start) ⊎ (w.start + length w.words ≤ i) → word (with_write c w) i ≡ word c i
outside c w i (inl h) = word_sets_before w.words c w.start i h
outside c w i (inr h) = word_sets_after w.words c w.start i h

pub write_stands : WriteStands
unfolding WriteStands taken refused
write_stands c b wc wb = let s = go (eqb (step_number c b) 0) refl in (step_writes c b, s.0, s.1, s.2)
  where
    go : (t : Bool) → eqb (step_number c b) 0 ≡ t →
        let s = step c b in
        let p = write_span s.card s.write in
        (s.number ≡ 0 → (p.number ≡ 0) × (p.start ≡ s.made.start) × (p.count ≡ length s.made.words))
        × (length s.card ≡ length c)
        × ((i : ℕ) → (i < p.start) ⊎ (p.start + p.count ≤ i) → word s.card i ≡ word c i)
    go true e =
        let z = eqb-true (step_number c b) 0 e in
        let j = (accepted c b z).sound in
        let w = the_write c (remains c b) (next_write c (remains c b)) in
        let t = step_taken c b z in
        let sound = rw t at (keeping_stepped c b _ (keeping_itself c wc j) wb).sound in
        let p = spans c (remains c b) j sound in
        rw t (λ n. p, length-sets c w.start w.words, λ i. rw (p.1, p.2) (outside c w i))
    go false e = rw (step_refused c b e) (λ n. absurd (eqb-false (step_number c b) 0 e n), refl, λ i h. refl)
