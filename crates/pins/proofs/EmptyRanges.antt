-- What is claimed of ranges with no game in them, written out, and passes with such ranges that the checker runs.
use Prim.Native.Nat.{ℕ, ◌%◌, ◌≤◌, ◌<◌}
use native.Mathlib.Omega.{arith}
use mathlib.Core.Path.{◌≡◌, refl}
use mathlib.Core.Bool.{Bool, true, false, cond, ◌&&◌, ◌||◌, not, or-true}
use mathlib.Core.Logic.{◌⊎◌, inl, inr}
use mathlib.Core.List.{List, [], ◌∷◌, ◌++◌}
use lib.Dec.{ltb, eqb}
use lib.ListN.{length}
use borrow.Author.Tests.{eq-eqb, ne_eqb, lt-ltb, le-ltb}
use Rattle.pair.specs.Rank.{rank}
use Rattle.pair.specs.Rising.{keep, above, rising_from, insert, last, any}
use Rattle.pair.specs.Tests.{same, first_of}
use Rattle.pair.proofs.Tests.{compared}
use Rattle.block.specs.Block.{zeros, pairs_from, pairs, formed_from, formed, leading, packed_after, block_of, fitting, due, goes_on}
use Rattle.card.specs.Layout.{width_of, first_pair, place, around, pairs_at, live, format_number, formatted, due_place}
use Rattle.card.specs.Sound.{blocks_sound, first_reaches, boundary_agrees, segments_sound, judged}
use Rattle.repeat.specs.Repeats.{repeats}
use Rattle.batch.specs.Batch.{Update, updates, any_update, adds, removes, latest, withdrawn, with_added, applied, ill_formed, falls, arrivals, ill_numbered, batch_number}
use Rattle.batch.specs.Claims.{EmptyRangeRemovesNothing, EmptyRangeTakenOut, EmptyRangePutIn}
use Rattle.batch.proofs.EmptyRanges.{empty_range_removes_nothing, empty_range_taken_out, empty_range_put_in}
use Rattle.update.specs.Step.{remains, spent, configured, next_boundary, freed, grown, configuration, due_block, due_entry, next_write, the_write, crowded, step_number, taken, refused, step}
use Rattle.found.specs.Found.{question_number}
use Rattle.history.specs.Cases.{after_steps, fresh, first}
use Rattle.history.specs.Claims.{free_places, EmptyRangeSameStep}
use Rattle.history.proofs.EmptyRanges.{empty_range_same_step}

-- a removal of a term, and one of every term, is in order whatever its from, to and arrival number are, unless one of them is 0
pub removals_accepted :
    (t a z n : ℕ) → 1 ≤ t → 1 ≤ a → 1 ≤ z → 1 ≤ n → (batch_number (2 ∷ t ∷ a ∷ z ∷ n ∷ []) ≡ 0) × (batch_number (3 ∷ 0 ∷ a ∷ z ∷ n ∷ []) ≡ 0)
unfolding batch_number first_of updates any_update ill_formed ill_numbered arrivals any repeats falls
removals_accepted t a z n ht ha hz hn = rw (some t ht, some a ha, some z hz, ne_eqb 0 n (omega arith), le-ltb (rank t a) 0 (omega arith), le-ltb (rank 0 a) 0 (omega arith)) (refl, refl)
  where
    some : (n : ℕ) → 1 ≤ n → eqb n 0 ≡ false
    some n h = ne_eqb n 0 (omega arith)

-- with a 0 in to it is not, nor is an addition of anything but one position
pub to_zero_refused : (t a n : ℕ) → (batch_number (2 ∷ t ∷ a ∷ 0 ∷ n ∷ []) ≡ 6) × (batch_number (3 ∷ t ∷ a ∷ 0 ∷ n ∷ []) ≡ 6)
unfolding batch_number first_of updates any_update ill_formed falls
to_zero_refused t a n = (rw or-true refl, rw or-true refl)

pub addition_of_one : (t a z n : ℕ) → (a ≡ z → ⊥) → batch_number (1 ∷ t ∷ a ∷ z ∷ n ∷ []) ≡ 6
unfolding batch_number first_of updates any_update ill_formed falls
addition_of_one t a z n h = rw (ne_eqb a z h, or-true) refl

-- no arrival number makes a record ill formed: of two that differ in it alone both are, or neither is
pub any_arrival :
    (k t a z m n : ℕ) →
    ill_formed (record { kind = k; term = t; from = a; to = z; arrival = m }) ≡ ill_formed (record { kind = k; term = t; from = a; to = z; arrival = n })
unfolding ill_formed
any_arrival k t a z m n = refl

-- two numbers are apart where one is above the other
apart : (a z : ℕ) → not (eqb a z) ≡ (ltb z a || ltb a z)
apart a z = go (compared a z)
  where
    go : (a < z) ⊎ ((a ≡ z) ⊎ (z < a)) → not (eqb a z) ≡ (ltb z a || ltb a z)
    go (inl h) = rw (ne_eqb a z (omega arith), le-ltb z a (omega arith), lt-ltb a z h)
    go (inr (inl h)) = rw (eq-eqb a z h, le-ltb z a (omega arith), le-ltb a z (omega arith))
    go (inr (inr h)) = rw (ne_eqb a z (omega arith), lt-ltb z a h)

-- with from above to added again, the grounds are document 01's, and those of term and kind that annulled rounds brought
pub one_ground_less :
    (u : Update) →
    (ill_formed u || ltb u.to u.from) ≡
    (not (cond (eqb u.term 0) (eqb u.kind 3) (eqb u.kind 1 || eqb u.kind 2)) || eqb u.from 0 || eqb u.to 0
    || ltb u.to u.from || (eqb u.kind 1 && ltb u.from u.to))
unfolding ill_formed
one_ground_less u =
    let others = not (cond (eqb u.term 0) (eqb u.kind 3) (eqb u.kind 1 || eqb u.kind 2)) || eqb u.from 0 || eqb u.to 0 in
    rw (apart u.from u.to) (table others (eqb u.kind 1) (ltb u.to u.from) (ltb u.from u.to))
  where
    table : (g k d r : Bool) → ((g || (k && (d || r))) || d) ≡ ((g || d) || (k && r))
    table true k d r = refl
    table false true true r = refl
    table false true false true = refl
    table false true false false = refl
    table false false true r = refl
    table false false false r = refl

-- a removal whose from is above its to: wherever it stands, the same is made of every set without it
pub empty_range_removes_nothing_written_out :
    (us vs : List Update) (u : Update) (s : List ℕ) → (u.kind ≡ 1 → ⊥) → u.to < u.from → applied (us ++ u ∷ vs) s ≡ applied (us ++ vs) s
unfolding EmptyRangeRemovesNothing
empty_range_removes_nothing_written_out = empty_range_removes_nothing

-- taken out of a batch in order
pub empty_range_taken_out_written_out :
    (b d : List ℕ) (k t a z n : ℕ) → length b % 5 ≡ 0 → (k ≡ 1 → ⊥) → z < a → batch_number (b ++ k ∷ t ∷ a ∷ z ∷ n ∷ d) ≡ 0 →
    (batch_number (b ++ d) ≡ 0) × ((s : List ℕ) → applied (updates (b ++ d)) s ≡ applied (updates (b ++ k ∷ t ∷ a ∷ z ∷ n ∷ d)) s)
unfolding EmptyRangeTakenOut
empty_range_taken_out_written_out = empty_range_taken_out

-- put into a batch in order, at its place and with a number of its own
pub empty_range_put_in_written_out :
    (b d : List ℕ) (k t a z n : ℕ) → length b % 5 ≡ 0 → (k ≡ 1 → ⊥) → z < a → batch_number (b ++ d) ≡ 0 → length (b ++ d) < 20480 →
    ill_formed (record { kind = k; term = t; from = a; to = z; arrival = n }) ≡ false → falls 0 (updates (b ++ k ∷ t ∷ a ∷ z ∷ n ∷ d)) ≡ false →
    (n ≡ 0 → ⊥) → any (eqb n) (arrivals (updates (b ++ d))) ≡ false →
    (batch_number (b ++ k ∷ t ∷ a ∷ z ∷ n ∷ d) ≡ 0) × ((s : List ℕ) → applied (updates (b ++ k ∷ t ∷ a ∷ z ∷ n ∷ d)) s ≡ applied (updates (b ++ d)) s)
unfolding EmptyRangePutIn
empty_range_put_in_written_out = empty_range_put_in

-- and every step is the one without it
pub empty_range_same_step_written_out :
    (c b d : List ℕ) (k t a z n : ℕ) → length b % 5 ≡ 0 → (k ≡ 1 → ⊥) → z < a → batch_number (b ++ k ∷ t ∷ a ∷ z ∷ n ∷ d) ≡ 0 →
    step c (b ++ k ∷ t ∷ a ∷ z ∷ n ∷ d) ≡ step c (b ++ d)
unfolding EmptyRangeSameStep
empty_range_same_step_written_out = empty_range_same_step

-- on P1's card: a round and two removals with no game in them around an addition, the last from the highest position to the lowest
abbrev around_one : List ℕ
around_one = 3 ∷ 0 ∷ 9 ∷ 3 ∷ 1 ∷ 2 ∷ 5 ∷ 9 ∷ 2 ∷ 2 ∷ 1 ∷ 6 ∷ 1 ∷ 1 ∷ 3 ∷ 2 ∷ 7 ∷ 4294967295 ∷ 1 ∷ 4 ∷ []

-- removals alone, one of them of games
abbrev removals : List ℕ
removals = 2 ∷ 5 ∷ 2 ∷ 2 ∷ 1 ∷ 2 ∷ 5 ∷ 9 ∷ 3 ∷ 2 ∷ []

pub record Empties : Type 0 where
  pub in_order : batch_number around_one ≡ 0
  pub not_yet : (step (after_steps 4 around_one (first 4)) around_one).finished ≡ false
  pub ends : (step (after_steps 5 around_one (first 4)) around_one).finished ≡ true
  pub after : live (after_steps 6 around_one (first 4)) ≡ rank 5 2 ∷ rank 5 9 ∷ rank 6 1 ∷ rank 7 4 ∷ []
  -- removals alone, with two places free
  pub all_removals : any_update (λ u. eqb u.kind 1) (updates removals) ≡ false
  pub two_free : free_places (first 4) ≡ 3
  pub removed : live (after_steps 3 removals (first 4)) ≡ rank 5 9 ∷ rank 7 4 ∷ []
  -- the order is that of from: 8 to 20 then 9 to 3, and the other way about; 6 comes first
  pub by_from : batch_number (2 ∷ 5 ∷ 8 ∷ 20 ∷ 1 ∷ 2 ∷ 5 ∷ 9 ∷ 3 ∷ 2 ∷ []) ≡ 0
  pub fallen : batch_number (2 ∷ 5 ∷ 9 ∷ 3 ∷ 1 ∷ 2 ∷ 5 ∷ 8 ∷ 20 ∷ 2 ∷ []) ≡ 7
  pub fallen_round : batch_number (3 ∷ 0 ∷ 9 ∷ 3 ∷ 1 ∷ 3 ∷ 0 ∷ 8 ∷ 20 ∷ 2 ∷ []) ≡ 7
  pub ill_formed_first : batch_number (2 ∷ 5 ∷ 9 ∷ 3 ∷ 1 ∷ 1 ∷ 5 ∷ 8 ∷ 7 ∷ 2 ∷ []) ≡ 6
  -- a lookup of such a range is refused
  pub looked_up : question_number (first 4) 5 9 3 ≡ 9

pub empties : Empties
unfolding keep above rising_from insert last any same first_of zeros pairs_from pairs formed_from formed leading packed_after block_of fitting due goes_on width_of first_pair place around pairs_at live format_number formatted blocks_sound first_reaches boundary_agrees segments_sound judged updates any_update adds removes latest withdrawn with_added applied ill_formed falls arrivals ill_numbered repeats batch_number remains due_place spent configured next_boundary freed grown configuration due_block due_entry next_write the_write crowded step_number taken refused step question_number after_steps fresh first free_places
empties =
    record {
      in_order = refl;
      not_yet = refl;
      ends = refl;
      after = refl;
      all_removals = refl;
      two_free = refl;
      removed = refl;
      by_from = refl;
      fallen = refl;
      fallen_round = refl;
      ill_formed_first = refl;
      looked_up = refl;
    }
