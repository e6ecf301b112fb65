-- What remains, and the write after a write.
use Prim.Native.Nat.{ℕ, ◌≤◌, ◌<◌}
use mathlib.Core.Path.{◌≡◌, refl, sym, ◌∙◌, ap}
use mathlib.Core.Bool.{Bool, true, false, cond, not}
use mathlib.Core.List.{List, [], ◌∷◌}
use native.Mathlib.Omega.{arith}
use Rattle.std.proofs.Common.{Fits, w32, get_or}
use lib.ListN.{length, drop}
use lib.Dec.{ltb, eqb-suc-zero}
use Rattle.pair.specs.Rank.{Words, Proper}
use Rattle.pair.specs.Rising.{above, rising_from, last}
use Rattle.pair.specs.Tests.{same}
use Rattle.pair.proofs.Each.{each_keep}
use Rattle.pair.proofs.Rising.{last_some, rising_above, rises_from}
use Rattle.pair.proofs.Parts.{above_append, above_above, above_further, above_none, above_take, above_at_most_none}
use Rattle.block.specs.Block.{due, goes_on, fitting}
use Rattle.block.proofs.Due.{rising_due}
use Rattle.batch.specs.Batch.{Update, updates, applied, batch_number}
use Rattle.batch.proofs.InOrder.{rising_batch, proper_batch}
use Rattle.batch.proofs.Local.{above_applied}
use Rattle.card.specs.Layout.{block_size, boundary, entry, place, live, due_place}
use Rattle.card.proofs.Facts.{Facts, facts}
use Rattle.card.proofs.Live.{live_rising, live_proper}
use Rattle.update.specs.declared.merge.Pass.{Pass}
use Rattle.update.specs.Step.{remains, due_block, due_entry, next_write, crowded}
use Rattle.update.proofs.Configuration.{live_on, next_boundary_on, mark_above, some}
use Rattle.update.proofs.Frame.{due_place_alike, due_block_alike}
use Rattle.update.proofs.Grown.{Remaining, DueWritten}
use Rattle.update.proofs.Settled.{configuration_sound, configuration_boundary}
use Rattle.update.proofs.Writes.{written, next_write_law, same_refl, written_first_alike, written_first_place, written_second_alike, written_second_entry, written_second_place}

-- What remains with a batch in order is pairs, rising from the boundary.
pub remaining : (c b : List ℕ) → Facts c → Words c → Words b → batch_number b ≡ 0 → Remaining c (remains c b)
unfolding remains above
remaining c b f wc wb e =
    record {
      rising = rising_above (applied (updates b) (live c)) 0 (boundary c) (rising_batch b (live c) e (live_rising c f));
      proper = each_keep Proper (ltb (boundary c)) (applied (updates b) (live c)) (proper_batch b (live c) wb e (live_proper c f wc));
    }

-- the words of a slice are words, and so are those of a pass's card and batch
pub words_read : (ws : List ℕ) → ((i : ℕ) → Fits w32 (get_or ws i 0)) → Words ws
unfolding Words
words_read ws h i = omega (arith, h i)

pub card_words : (p : Pass) → Words p.card.now
unfolding Words
card_words p = p.card_words

pub batch_words : (p : Pass) → Words p.batch.now
unfolding Words
batch_words p = p.batch_words

-- what remains, where a pass goes over it
pub remaining_on : (p : Pass) → Remaining p.card.now (remains p.card.now p.batch.now)
remaining_on p = remaining p.card.now p.batch.now (facts p.card.now p.sound) (card_words p) (batch_words p) p.in_order

-- With the due block and its map entry in place the third write is next.
pub next_ready : (c r : List ℕ) → (0 < length r → DueWritten c r) → next_write c r ≡ 3
next_ready c [] e = next_write_law c []
next_ready c (x ∷ xs) e =
    let z = e (omega arith) in
    rw (next_write_law c (x ∷ xs), eqb-suc-zero (length xs), z.block, z.mapped, same_refl (due_block c (x ∷ xs)), same_refl (due_entry (x ∷ xs)))

-- With the due block in place the second or the third is.
pub next_placed : (c r : List ℕ) → place c (due_place c) ≡ due_block c r → 2 ≤ next_write c r
next_placed c [] e = rw (next_write_law c []) (omega arith)
next_placed c (x ∷ xs) e =
    rw (next_write_law c (x ∷ xs), eqb-suc-zero (length xs), e, same_refl (due_block c (x ∷ xs))) (go (same (entry c (due_place c)) (due_entry (x ∷ xs))))
  where
    go : (t : Bool) → 2 ≤ cond (not t) 2 3
    go true = omega arith
    go false = omega arith

-- After the first write the second or the third is next,
pub next_first : (c r : List ℕ) → Facts c → 2 ≤ next_write (written c r 1) r
next_first c r f =
    let a = written_first_alike c r f in
    next_placed (written c r 1) r (rw (due_place_alike c (written c r 1) a, due_block_alike c (written c r 1) a r) (written_first_place c r f))

-- after the second the third.
pub next_second : (c r : List ℕ) → Facts c → place c (due_place c) ≡ due_block c r → next_write (written c r 2) r ≡ 3
next_second c r f e =
    let a = written_second_alike c r f in
    let due-same = due_place_alike c (written c r 2) a in
    next_ready (written c r 2) r (λ h. record {
      block = rw (due-same, due_block_alike c (written c r 2) a r) (written_second_place c r f ∙ e);
      mapped = rw due-same (written_second_entry c r f);
    })

remains_is : (c b : List ℕ) (k : ℕ) → boundary c ≡ k → remains c b ≡ above k (applied (updates b) (live c))
unfolding remains
remains_is c b k e = ap (λ j. above j (applied (updates b) (live c))) e

-- Beyond the due pairs stand those above the last of them.
pub above_due : (b k : ℕ) (r : List ℕ) → rising_from k r ≡ true → above (last k (due b r)) r ≡ drop (fitting b 0 r) r
unfolding due
above_due b k r h = above_take (fitting b 0 r) r k h

-- After a configuration write that goes on, what remained beyond the due block remains.
pub remains_next_law :
    (c b : List ℕ) → Facts c → Words c → Words b → batch_number b ≡ 0 → (0 < length (remains c b) → DueWritten c (remains c b)) →
    crowded c (remains c b) ≡ false → goes_on (block_size c) (remains c b) ≡ true →
    remains (written c (remains c b) 3) b ≡ drop (fitting (block_size c) 0 (remains c b)) (remains c b)
remains_next_law c b f wc wb e ready free on = opened ∙ local ∙ beyond
  where
    r : List ℕ
    r = remains c b

    d : List ℕ
    d = written c r 3

    us : List Update
    us = updates b

    k : ℕ
    k = last 0 (due (block_size c) r)

    m : Remaining c r
    m = remaining c b f wc wb e

    above_mark : boundary c ≤ k
    above_mark = mark_above c r f m ready on

    mark_is : last (boundary c) (due (block_size c) r) ≡ k
    mark_is = last_some (due (block_size c) r) (boundary c) 0 (some c r f m ready on)

    opened : remains d b ≡ above k (applied us (live d))
    opened = remains_is d b k (configuration_boundary c r f m ready free ∙ next_boundary_on c r f m ready on)

    kept : above k (live d) ≡ above k (live c)
    kept =
        rw (
          live_on c r f m ready on,
          above_append,
          above_append,
          above_at_most_none (boundary c) k (live c) above_mark,
          above_none (due (block_size c) r) k (boundary c) (rising_due (block_size c) (boundary c) r m.rising) (omega (arith, mark_is)),
          above_above k k (live c) (omega arith),
        )

    local : above k (applied us (live d)) ≡ above k (applied us (live c))
    local =
        above_applied k us (live d) (live c) (rises_from (live d) 0 (live_rising d (facts d (configuration_sound c r f m ready free))))
        (rises_from (live c) 0 (live_rising c f)) kept

    beyond : above k (applied us (live c)) ≡ drop (fitting (block_size c) 0 r) r
    beyond =
        sym (above_further (boundary c) k (applied us (live c)) above_mark) ∙ ap (above k) (sym (remains_is c b (boundary c) refl))
        ∙ ap (λ j. above j r) (sym mark_is) ∙ above_due (block_size c) (boundary c) r m.rising
