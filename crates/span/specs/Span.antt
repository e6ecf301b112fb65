-- Where a write of a step stands in the card, for whoever brings it to a medium.
use Rattle.std.specs.Prelude.{ℕ, cond, not, List, eqb, Result, Ok, Err}
use Rattle.refusal.specs.declared.Refusal.{Refusal}
use Rattle.refusal.specs.Refusal.{number}
use Rattle.card.specs.Layout.{configuration_words, block_size, entry_width, entry_at, place_at, due_place}
use Rattle.card.specs.Sound.{judged}
use Rattle.span.specs.declared.Span.{Span}

-- the number of a card that is refused; where in the card a write stands and how many words it has
pub record WriteSpan : Type 0 where
  pub number : ℕ
  pub start : ℕ
  pub count : ℕ

-- a number, and count words of the card from the word at start on
abbrev span : ℕ → ℕ → ℕ → WriteSpan
span number start count = record { number = number; start = start; count = count }

-- the words of the due place, of its map entry, or the configuration words; none for any other write, nor where the judge refuses the card
unfoldable pub write_span : List ℕ → ℕ → WriteSpan
write_span c w =
    cond (not (eqb (judged c) 0)) (span (judged c) 0 0)
    (cond (eqb w 1) (span 0 (place_at c (due_place c)) (block_size c))
    (cond (eqb w 2) (span 0 (entry_at c (due_place c)) (entry_width c))
    (cond (eqb w 3) (span 0 0 configuration_words)
    (span 0 0 0))))

-- the code's answer: a refusal comes with no words
abbrev pub answered : Result Span Refusal → WriteSpan
answered (Ok s) = span 0 s.start s.count
answered (Err refusal) = span (number refusal) 0 0
