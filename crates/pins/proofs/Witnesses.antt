-- Demand 3 and the kept batch speak of lists that there are: one with every kind of event, and one that keeps a batch until its pass has finished.
use Prim.Native.Nat.{ℕ}
use native.Mathlib.Omega.{arith}
use mathlib.Core.Path.{◌≡◌, refl}
use mathlib.Core.Bool.{true, false}
use mathlib.Core.List.{List, [], ◌∷◌}
use lib.Dec.{leb}
use borrow.Author.Tests.{leb-false}
use Rattle.pair.specs.Rank.{Words}
use Rattle.pair.specs.Rising.{any}
use Rattle.pair.specs.Tests.{first_of}
use Rattle.pair.proofs.Tests.{or_left, or_right}
use Rattle.pair.proofs.Words.{words_nil, words_cons}
use Rattle.card.specs.Layout.{width_of, live, format_number, formatted}
use Rattle.batch.specs.Batch.{updates, applied}
use Rattle.history.specs.Claims.{Lends, Keeps, ran, finished, KeptBatch}
use Rattle.history.specs.Cases.{three}
use Rattle.history.proofs.KeptBatch.{kept_batch}
use Rattle.pins.specs.Events.{blank, card, keeps_three, every_kind}
use Rattle.pins.specs.Lists.{words_of, Right}
use Rattle.pins.proofs.Computed.{computed}
use Rattle.pins.proofs.Demand3.{given, card_keeps_to_history}

-- words of which none is too large are 32-bit words
listed : (ws : List ℕ) → any (leb 4294967296) ws ≡ false → Words ws
unfolding any
listed [] e = words_nil
listed (w ∷ ws) e =
    words_cons w ws (leb-false 4294967296 w (or_left (leb 4294967296 w) (any (leb 4294967296) ws) e))
    (listed ws (or_right (leb 4294967296 w) (any (leb 4294967296) ws) e))

-- demand 3 speaks of the one
pub every_kind_right : Right card (record { size = 8; pairs = []; mark = 0 }) every_kind
unfolding any words_of
every_kind_right = card_keeps_to_history blank 8 2 every_kind (listed blank refl) (listed (words_of every_kind) refl) computed.accepted

-- no event of the other lends another batch, and its pass finishes, so the kept batch speaks of it
pub three_kept : Keeps card three keeps_three × (finished card keeps_three ≡ true)
unfolding Keeps Lends format_number first_of
three_kept = ((refl, (refl, (refl, (refl, (refl, (refl, (tt, (tt, (tt, ((λ e. omega arith), tt)))))))))), computed.finishes)

pub three_applied : live (ran card keeps_three) ≡ applied (updates three) (live card)
unfolding KeptBatch words_of any first_of width_of format_number formatted
three_applied =
    kept_batch card three keeps_three (listed card refl) (listed three refl) (given keeps_three (listed (words_of keeps_three) refl)) computed.sound refl
    three_kept.0 three_kept.1
