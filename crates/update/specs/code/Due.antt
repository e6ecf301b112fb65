-- What filling the due block answers.
use Rattle.std.specs.Prelude.{ℕ, ◌≡◌, List, length, eqb}
use Rattle.pair.specs.Rising.{last}
use Rattle.block.specs.Block.{due, goes_on}
use Rattle.card.specs.Layout.{block_size}
use Rattle.update.specs.declared.due.Due.{Due}
use Rattle.update.specs.Step.{remains, due_block}

-- the words are the due block of what remains, and the answer is true of it
pub record Answers (c r ws : List ℕ) (d : Due) : Type 0 where
  pub block : ws ≡ due_block c r
  pub last_pair : d.last ≡ last 0 (due (block_size c) r)
  pub beyond : d.more ≡ goes_on (block_size c) r
  pub empty : eqb d.used 0 ≡ eqb (length r) 0

abbrev pub DueOf : List ℕ → List ℕ → List ℕ → Due → Type 0
DueOf c b ws d = Answers c (remains c b) ws d
