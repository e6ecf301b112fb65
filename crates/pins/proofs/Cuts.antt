-- What a cut leaves and what a landed configuration write does to the history, written out.
use Prim.Native.Nat.{ℕ, ◌+◌, ◌*◌, ◌%◌}
use mathlib.Core.Path.{◌≡◌, sym, ap, ◌∙◌}
use mathlib.Core.Bool.{Bool, true, false, cond}
use mathlib.Core.List.{List, ◌++◌}
use native.Mathlib.Omega.{arith}
use lib.ListN.{length, replicate}
use lib.Seq.{sets, take_at}
use borrow.Author.Tests.{ne_eqb}
use Rattle.pair.specs.Rising.{above, at_most, last}
use Rattle.block.specs.Block.{due, goes_on}
use Rattle.card.specs.Layout.{width_of, block_size, place_count, start_of_old, length_of_old, length_of_new, due_place}
use Rattle.batch.specs.Batch.{updates, applied}
use Rattle.update.specs.Step.{remains, due_entry, the_write, step_number, refused, step}
use Rattle.update.proofs.Steps.{step_refused, step_number_law, step_made}
use Rattle.update.proofs.Writes.{length_due_block_law}
use Rattle.history.specs.History.{History, to_write, next, landed, just, torn_write, torn}

-- cut in write 1 the due place may hold any words, in write 2 its map entry may; write 3 lands whole or not at all
module _ (c b ws : List ℕ) (l : Bool) where
  made : (w : ℕ) → (step c b).write ≡ w → (w ≡ 0 → ⊥) → (step c b).made ≡ the_write c (remains c b) w
  made w e n = step_made c b (λ z. n (sym e ∙ z)) ∙ ap (the_write c (remains c b)) e

  pub cut_in_block : (step c b).write ≡ 1 → length ws ≡ block_size c →
      torn c b ws l ≡ sets c (8 + 2 * place_count c + (start_of_old c + length_of_old c + length_of_new c) % place_count c * block_size c) ws
  unfolding torn torn_write the_write just width_of due_place
  cut_in_block w e = rw (w, made 1 w (omega arith), length_due_block_law c (remains c b), take_at ws (replicate (block_size c) 0) (block_size c) e)

  pub cut_in_entry : (step c b).write ≡ 2 → length ws ≡ 2 →
      torn c b ws l ≡ sets c (8 + 2 * ((start_of_old c + length_of_old c + length_of_new c) % place_count c)) ws
  unfolding torn torn_write the_write due_entry just width_of due_place
  cut_in_entry w e = rw (w, made 2 w (omega arith), take_at ws (replicate 2 0) 2 e)

  pub cut_in_configuration : (step c b).write ≡ 3 → torn c b ws l ≡ cond l (step c b).card c
  unfolding torn
  cut_in_configuration w = rw w

  -- a step that would be refused changes nothing
  pub cut_of_a_refused : ((step c b).number ≡ 0 → ⊥) → torn c b ws l ≡ c
  unfolding torn torn_write just refused
  cut_of_a_refused n = rw (step_refused c b (ne_eqb (step_number c b) 0 (λ e. n (step_number_law c b ∙ e))))

-- R and D of a landed configuration write with the batch b
module _ (b : List ℕ) (h : History) where
  abbrev R : List ℕ
  R = above h.mark (applied (updates b) h.pairs)

  abbrev D : List ℕ
  D = due h.size R

  -- where R goes on after D, the pairs above the mark up to D's last give way to D
  pub goes_on_law : goes_on h.size R ≡ true → landed b h ≡
      record { size = h.size; pairs = at_most h.mark h.pairs ++ (D ++ above (last 0 D) h.pairs); mark = last 0 D }
  unfolding landed next to_write
  goes_on_law g = rw g

  -- otherwise all pairs above the mark give way to R, and there is no mark
  pub ends : goes_on h.size R ≡ false → landed b h ≡ record { size = h.size; pairs = at_most h.mark h.pairs ++ R; mark = 0 }
  unfolding landed to_write
  ends g = rw g
