-- What is claimed of arrival numbers, written out, and batches whose records arrived in several orders, which the checker computes.
use Prim.Native.Nat.{ℕ, ◌%◌, ◌<◌}
use mathlib.Core.Path.{◌≡◌, refl, sym, ◌∙◌, ap}
use mathlib.Core.Bool.{Bool, true, false, cond, ◌&&◌, ◌||◌, not}
use mathlib.Core.List.{List, [], ◌∷◌, ◌++◌}
use lib.Dec.{ltb, leb, eqb}
use lib.ListN.{length, replicate}
use Rattle.pair.specs.Rank.{rank, Words}
use Rattle.pair.specs.Rising.{keep, above, rising_from, insert, last, any}
use Rattle.pair.specs.Tests.{same, first_of}
use Rattle.block.specs.Block.{zeros, pairs_from, pairs, formed_from, formed, leading, packed_after, block_of, fitting, due, goes_on}
use Rattle.card.specs.Layout.{length_of_new, width_of, first_pair, place, around, pairs_at, live, format_number, formatted, due_place}
use Rattle.card.specs.Sound.{blocks_sound, first_reaches, boundary_agrees, segments_sound, judged}
use Rattle.repeat.specs.Repeats.{repeats}
use Rattle.batch.specs.Batch.{Update, updates, any_update, adds, removes, latest, withdrawn, with_added, applied, ill_formed, falls, arrivals, ill_numbered, batch_number}
use Rattle.batch.specs.Claims.{touches, LatestDecides, UntouchedStays, AdditionsLast}
use Rattle.batch.proofs.Deciding.{latest_decides, untouched_stays, additions_last}
use Rattle.update.specs.Step.{remains, spent, configured, next_boundary, freed, grown, configuration, due_block, due_entry, next_write, the_write, crowded, step_number, taken, refused, step}
use Rattle.history.specs.History.{Event, after, AllOfWords}
use Rattle.history.specs.Claims.{Keeps, ran, ResentBatch}
use Rattle.history.specs.Cases.{after_steps, add_eight_one, fresh, first}
use Rattle.history.proofs.KeptBatch.{resent_batch}
use Rattle.pins.specs.Lists.{words_of, Throughout}
use Rattle.pins.proofs.Demand3.{given}
use Rattle.pins.proofs.Passes.{throughout}

-- of the records that add or remove a pair the one with the greatest arrival number decides, wherever it stands
pub latest_decides_written_out :
    (us vs : List Update) (u : Update) (x : ℕ) (s : List ℕ) → 0 < u.arrival → (adds x u || removes x u) ≡ true →
    any_update (λ v. (adds x v || removes x v) && leb u.arrival v.arrival) (us ++ vs) ≡ false →
    any (eqb x) (applied (us ++ u ∷ vs) s) ≡ adds x u
unfolding LatestDecides touches
latest_decides_written_out = latest_decides

-- a pair that none adds or removes stays as it was
pub untouched_stays_written_out :
    (us : List Update) (x : ℕ) (s : List ℕ) → any_update (λ u. adds x u || removes x u) us ≡ false →
    any (eqb x) (applied us s) ≡ any (eqb x) s
unfolding UntouchedStays touches
untouched_stays_written_out = untouched_stays

-- where no addition arrived before a removal: the set less all that the batch removes, with all that it adds
pub additions_last_written_out :
    (b s : List ℕ) →
    let us = updates b in
    batch_number b ≡ 0 → rising_from 0 s ≡ true →
    any_update (λ u. eqb u.kind 1 && any_update (λ v. not (eqb v.kind 1) && ltb u.arrival v.arrival) us) us ≡ false →
    applied us s ≡ with_added us (keep (λ x. not (any_update (removes x) us)) s)
unfolding AdditionsLast
additions_last_written_out = additions_last

-- events that lend no batch but b, with more such events behind them
keeps_both : (c b : List ℕ) (es fs : List Event) → Keeps c b es → Keeps (ran c es) b fs → Keeps c b (es ++ fs)
unfolding Keeps ran
keeps_both c b [] fs l m = m
keeps_both c b (e ∷ es) fs l m = (l.0, keeps_both (after c e) b es fs l.1 m)

words_both : (es fs : List Event) → AllOfWords es → AllOfWords fs → AllOfWords (es ++ fs)
unfolding AllOfWords
words_both [] fs v w = w
words_both (e ∷ es) fs v w = (v.0, words_both es fs v.1 w)

ran_both : (c : List ℕ) (es fs : List Event) → ran c (es ++ fs) ≡ ran (ran c es) fs
unfolding ran
ran_both c [] fs = refl
ran_both c (e ∷ es) fs = ran_both (after c e) es fs

-- one batch, begun with no pass open and kept: once a finishing write has landed, the same batch sent again leaves the index as it is, whatever
-- the further events are
pub batch_resent :
    (c b : List ℕ) (es fs : List Event) → Words c → Words b → Words (words_of es) → Words (words_of fs) → judged c ≡ 0 → length_of_new c ≡ 0 →
    Throughout b (λ d f. f ≡ true → Throughout b (λ e g. live e ≡ live d) d f fs) c false es
unfolding ResentBatch
batch_resent c b es fs wc wb we wf s n =
    throughout b _ es c false
    (λ l f.
    throughout b _ fs (ran c es) _
    (λ m. ap live (sym (ran_both c es fs)) ∙ resent_batch c b es fs wc wb (words_both es fs (given es we) (given fs wf)) s n (keeps_both c b es fs l m) f))

-- the numbers of a batch, in their order
pub numbers_of_a_batch :
    (b : List ℕ) →
    let us = updates b in
    batch_number b ≡
    cond (not (eqb (length b % 5) 0) || ltb 20480 (length b) || any_update ill_formed us) 6
    (cond (any (eqb 0) (arrivals us) || repeats (arrivals us)) 14 (cond (falls 0 us) 7 0))
unfolding batch_number first_of ill_numbered
numbers_of_a_batch b = go (not (eqb (length b % 5) 0)) (ltb 20480 (length b))
  where
    go : (p q : Bool) →
        let us = updates b in
        let rest : ℕ = cond (any (eqb 0) (arrivals us) || repeats (arrivals us)) 14 (cond (falls 0 us) 7 0) in
        cond p 6 (cond q 6 (cond (any_update ill_formed us) 6 rest)) ≡ cond (p || q || any_update ill_formed us) 6 rest
    go true q = refl
    go false true = refl
    go false false = refl

pub record Numbers : Type 0 where
  -- in order, whichever of the two arrived first; the highest arrival number
  pub in_order : batch_number (1 ∷ 5 ∷ 2 ∷ 2 ∷ 1 ∷ 1 ∷ 7 ∷ 4 ∷ 4 ∷ 2 ∷ []) ≡ 0
  pub in_no_order_of_arrival : batch_number (1 ∷ 5 ∷ 2 ∷ 2 ∷ 2 ∷ 1 ∷ 7 ∷ 4 ∷ 4 ∷ 1 ∷ []) ≡ 0
  pub highest : batch_number (1 ∷ 5 ∷ 2 ∷ 2 ∷ 4294967295 ∷ []) ≡ 0
  -- an arrival number 0, alone and behind another
  pub zero_alone : batch_number (1 ∷ 5 ∷ 2 ∷ 2 ∷ 0 ∷ []) ≡ 14
  pub zero_behind : batch_number (1 ∷ 5 ∷ 2 ∷ 2 ∷ 1 ∷ 1 ∷ 7 ∷ 4 ∷ 4 ∷ 0 ∷ []) ≡ 14
  -- one used twice, by neighbours and by the first and the last of three
  pub neighbours : batch_number (1 ∷ 5 ∷ 2 ∷ 2 ∷ 3 ∷ 1 ∷ 7 ∷ 4 ∷ 4 ∷ 3 ∷ []) ≡ 14
  pub far_apart : batch_number (1 ∷ 5 ∷ 2 ∷ 2 ∷ 3 ∷ 1 ∷ 5 ∷ 9 ∷ 9 ∷ 1 ∷ 1 ∷ 7 ∷ 4 ∷ 4 ∷ 3 ∷ []) ≡ 14
  -- ill formed or cut short besides: 6 comes first
  pub ill_formed_too : batch_number (1 ∷ 5 ∷ 2 ∷ 2 ∷ 1 ∷ 1 ∷ 7 ∷ 4 ∷ 5 ∷ 1 ∷ []) ≡ 6
  pub cut_short_too : batch_number (1 ∷ 5 ∷ 2 ∷ 2 ∷ 0 ∷ 1 ∷ 7 ∷ 4 ∷ 4 ∷ []) ≡ 6
  -- falling besides: 14 comes before 7
  pub falling_too : batch_number (1 ∷ 7 ∷ 4 ∷ 4 ∷ 1 ∷ 1 ∷ 5 ∷ 2 ∷ 2 ∷ 1 ∷ []) ≡ 14
  pub falling_alone : batch_number (1 ∷ 7 ∷ 4 ∷ 4 ∷ 1 ∷ 1 ∷ 5 ∷ 2 ∷ 2 ∷ 2 ∷ []) ≡ 7
  -- a range with no game in it has an arrival number like any other
  pub empty_range_too : batch_number (2 ∷ 5 ∷ 9 ∷ 3 ∷ 1 ∷ 1 ∷ 7 ∷ 4 ∷ 4 ∷ 1 ∷ []) ≡ 14
  pub empty_range_zero : batch_number (2 ∷ 5 ∷ 9 ∷ 3 ∷ 0 ∷ []) ≡ 14

pub numbers : Numbers
unfolding first_of any repeats updates any_update ill_formed falls arrivals ill_numbered batch_number
numbers =
    record {
      in_order = refl;
      in_no_order_of_arrival = refl;
      highest = refl;
      zero_alone = refl;
      zero_behind = refl;
      neighbours = refl;
      far_apart = refl;
      ill_formed_too = refl;
      cut_short_too = refl;
      falling_too = refl;
      falling_alone = refl;
      empty_range_too = refl;
      empty_range_zero = refl;
    }

-- P1's card, with (5,2), (5,9) and (7,4), after a pass of three steps
abbrev passed : List ℕ → List ℕ
passed b = after_steps 3 b (first 4)

-- (5,9) added and removed, and added, removed and added; the round from 2 to 4 annulled and (6,4) added: with their arrival numbers
abbrev both : ℕ → ℕ → List ℕ
both n m = 1 ∷ 5 ∷ 9 ∷ 9 ∷ n ∷ 2 ∷ 5 ∷ 9 ∷ 9 ∷ m ∷ []

abbrev thrice : ℕ → ℕ → ℕ → List ℕ
thrice n m k = 1 ∷ 5 ∷ 9 ∷ 9 ∷ n ∷ 2 ∷ 5 ∷ 9 ∷ 9 ∷ m ∷ 1 ∷ 5 ∷ 9 ∷ 9 ∷ k ∷ []

abbrev round : ℕ → ℕ → List ℕ
round n m = 3 ∷ 0 ∷ 2 ∷ 4 ∷ n ∷ 1 ∷ 6 ∷ 4 ∷ 4 ∷ m ∷ []

pub record Decided : Type 0 where
  pub ends : (step (after_steps 2 (both 1 2) (first 4)) (both 1 2)).finished ≡ true
  pub removed_last : live (passed (both 1 2)) ≡ rank 5 2 ∷ rank 7 4 ∷ []
  pub added_last : live (passed (both 2 1)) ≡ rank 5 2 ∷ rank 5 9 ∷ rank 7 4 ∷ []
  pub added_again : live (passed (thrice 1 2 3)) ≡ rank 5 2 ∷ rank 5 9 ∷ rank 7 4 ∷ []
  pub removed_after_both : live (passed (thrice 1 3 2)) ≡ rank 5 2 ∷ rank 7 4 ∷ []
  pub round_first : live (passed (round 1 2)) ≡ rank 5 9 ∷ rank 6 4 ∷ []
  pub round_last : live (passed (round 2 1)) ≡ rank 5 9 ∷ []

-- the same batch sent again whole, its pass finished: the second pass finishes too, and the index is the same
pub record Resent : Type 0 where
  pub ends_again : (step (after_steps 5 (both 1 2) (first 4)) (both 1 2)).finished ≡ true
  pub removed_again : live (after_steps 6 (both 1 2) (first 4)) ≡ rank 5 2 ∷ rank 7 4 ∷ []
  pub round_again : live (after_steps 6 (round 1 2) (first 4)) ≡ rank 5 9 ∷ rank 6 4 ∷ []

-- a step: what a card that is not sound earns comes before 14, and 14 before 8; the card stays
pub record Refusals : Type 0 where
  pub of_no_card : (step (replicate 28 0) (both 1 1)).number ≡ 2
  pub numbered_twice : (step (first 4) (both 1 1)).number ≡ 14
  pub card_stays : (step (first 4) (both 1 1)).card ≡ first 4
  pub full : (step (after_steps 3 add_eight_one (first 2)) (1 ∷ 8 ∷ 1 ∷ 1 ∷ 0 ∷ [])).number ≡ 14

pub decided : Decided
unfolding keep above rising_from insert last any same first_of zeros pairs_from pairs formed_from formed leading packed_after block_of fitting due goes_on width_of first_pair place around pairs_at live format_number formatted blocks_sound first_reaches boundary_agrees segments_sound judged updates any_update adds removes latest withdrawn with_added applied ill_formed falls arrivals ill_numbered repeats batch_number remains due_place spent configured next_boundary freed grown configuration due_block due_entry next_write the_write crowded step_number taken refused step after_steps fresh first
decided = record { ends = refl; removed_last = refl; added_last = refl; added_again = refl; removed_after_both = refl; round_first = refl; round_last = refl }

pub resent : Resent
unfolding keep above rising_from insert last any same first_of zeros pairs_from pairs formed_from formed leading packed_after block_of fitting due goes_on width_of first_pair place around pairs_at live format_number formatted blocks_sound first_reaches boundary_agrees segments_sound judged updates any_update adds removes latest withdrawn with_added applied ill_formed falls arrivals ill_numbered repeats batch_number remains due_place spent configured next_boundary freed grown configuration due_block due_entry next_write the_write crowded step_number taken refused step after_steps fresh first
resent = record { ends_again = refl; removed_again = refl; round_again = refl }

pub refusals : Refusals
unfolding keep above rising_from insert last any same first_of zeros pairs_from pairs formed_from formed leading packed_after block_of fitting due goes_on width_of first_pair place around pairs_at live format_number formatted blocks_sound first_reaches boundary_agrees segments_sound judged updates any_update adds removes latest withdrawn with_added applied ill_formed falls arrivals ill_numbered repeats batch_number remains due_place spent configured next_boundary freed grown configuration due_block due_entry next_write the_write crowded step_number taken refused step after_steps fresh first
refusals = record { of_no_card = refl; numbered_twice = refl; card_stays = refl; full = refl }
