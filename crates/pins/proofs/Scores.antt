-- What is claimed of the scorekeepers' file and of the sort, written out, and files that the checker computes.
use Prim.Native.Nat.{ℕ, ◌+◌, ◌≤◌, ◌<◌}
use mathlib.Core.Path.{◌≡◌, refl}
use mathlib.Core.Logic.{◌⊎◌}
use mathlib.Core.Bool.{Bool, true, false, ◌||◌}
use mathlib.Core.List.{List, [], ◌∷◌, ◌++◌}
use lib.ListN.{length, take, get_or}
use lib.Dec.{eqb}
use Rattle.pair.specs.Rank.{Words}
use Rattle.pair.specs.Rising.{keep, above, within, rising_from, insert, last, any}
use Rattle.pair.specs.Tests.{same, first_of}
use Rattle.figures.specs.Figures.{last_figures, decimal, is_figure, all_figures, worth, is_number}
use Rattle.figures.specs.Claims.{NumbersRead, NumbersOnly}
use Rattle.figures.proofs.Claims.{numbers_read, numbers_only}
use Rattle.sort.specs.Sort.{record_at, records_from, records, laid, key_at, placed, sorted, sorted_words, sortable, sort}
use Rattle.sort.specs.Claims.{those, Rearranged, in_order_from, SortRearranges, SortOrders, SortKeepsArrival, SortAlone}
use Rattle.sort.proofs.Claims.{sort_rearranges, sort_orders, sort_keeps_arrival, sort_alone}
use Rattle.block.specs.Block.{zeros, pairs_from, pairs, formed_from, formed, leading, packed_after, block_of, fitting, due, goes_on}
use Rattle.card.specs.Layout.{width_of, block_size, first_pair, place, around, pairs_at, live, format_number, formatted, due_place}
use Rattle.card.specs.Sound.{blocks_sound, first_reaches, boundary_agrees, segments_sound, judged}
use Rattle.repeat.specs.Repeats.{repeats}
use Rattle.batch.specs.Batch.{Update, updates, any_update, adds, removes, latest, withdrawn, with_added, applied, ill_formed, falls, arrivals, ill_numbered, batch_number}
use Rattle.batch.specs.Claims.{touches}
use Rattle.update.specs.Step.{remains, spent, next_boundary, freed, grown, configured, due_block, due_entry, configuration, next_write, the_write, crowded, step_number, taken, refused, step}
use Rattle.update.specs.Pass.{blocks_from, blocks, step_limit}
use Rattle.lines.specs.Lines.{longer, lines, fields, record_of, line_record, line_number, fault_from, fault, numbered, line_records, batch_of, scored}
use Rattle.lines.specs.Claims.{addition_line, removal_line, LinesRead, LinesOnly, LinesShort, FileSettled, RoomEnough, BatchSorted, counted, LinesCounted, LinesNumbered, OrderMeansNothing, LastLineDecides}
use Rattle.lines.proofs.Meaning.{room_enough, batch_sorted, lines_counted, lines_numbered, order_means_nothing, last_line_decides}
use Rattle.lines.proofs.Settled.{lines_short, file_settled}
use Rattle.lines.proofs.Written.{lines_read, lines_only}
use Rattle.scores.specs.Outcome.{Finished, Refused, fresh_card, pass_from, steps_most, pass, outcome, printed_line, printed}
use Rattle.scores.specs.Claims.{OutcomeSettled, PassEnds}
use Rattle.scores.proofs.Claims.{outcome_settled, pass_ends}

-- the figures of a word are read as that word, and nothing else is read
pub numbers_read_written_out : (n : ℕ) → n < 4294967296 → (is_number (decimal n) ≡ true) × (worth 0 (decimal n) ≡ n)
unfolding NumbersRead
numbers_read_written_out = numbers_read

pub numbers_only_written_out : (bs : List ℕ) → is_number bs ≡ true → (bs ≡ decimal (worth 0 bs)) × (worth 0 bs < 4294967296)
unfolding NumbersOnly
numbers_only_written_out = numbers_only

-- the sort: as many records pass any test as before, no key falls, records of one key stay in their order, and no other list is so
pub sort_rearranges_written_out : (key : List ℕ → ℕ) (rs : List (List ℕ)) (f : List ℕ → Bool) → length (those f (sorted key rs)) ≡ length (those f rs)
unfolding SortRearranges Rearranged
sort_rearranges_written_out = sort_rearranges

pub sort_orders_written_out : (key : List ℕ → ℕ) (rs : List (List ℕ)) → in_order_from key 0 (sorted key rs) ≡ true
unfolding SortOrders
sort_orders_written_out = sort_orders

pub sort_keeps_arrival_written_out :
    (key : List ℕ → ℕ) (rs : List (List ℕ)) (k : ℕ) → those (λ r. eqb (key r) k) (sorted key rs) ≡ those (λ r. eqb (key r) k) rs
unfolding SortKeepsArrival
sort_keeps_arrival_written_out = sort_keeps_arrival

pub sort_alone_written_out :
    (key : List ℕ → ℕ) (rs ss : List (List ℕ)) → in_order_from key 0 ss ≡ true →
    ((k : ℕ) → those (λ r. eqb (key r) k) ss ≡ those (λ r. eqb (key r) k) rs) → ss ≡ sorted key rs
unfolding SortAlone
sort_alone_written_out = sort_alone

-- a line written out is read as its record, no other line is a record, and none has more than 34 bytes
pub additions_read :
    (t p : ℕ) → t < 4294967296 → p < 4294967296 → line_record (65 ∷ 9 ∷ decimal t ++ 9 ∷ decimal p) ≡ 1 ∷ t ∷ p ∷ p ∷ []
unfolding LinesRead addition_line
additions_read = lines_read.0

pub removals_read :
    (t a z : ℕ) → t < 4294967296 → a < 4294967296 → z < 4294967296 →
    line_record (82 ∷ 9 ∷ decimal t ++ 9 ∷ decimal a ++ 9 ∷ decimal z) ≡ 2 ∷ t ∷ a ∷ z ∷ []
unfolding LinesRead removal_line
removals_read = lines_read.1

pub lines_only_written_out :
    (l : List ℕ) → (length (line_record l) ≡ 0 → ⊥) →
    let r = line_record l in
    (l ≡ 65 ∷ 9 ∷ decimal (get_or r 1 0) ++ 9 ∷ decimal (get_or r 2 0))
    ⊎ (l ≡ 82 ∷ 9 ∷ decimal (get_or r 1 0) ++ 9 ∷ decimal (get_or r 2 0) ++ 9 ∷ decimal (get_or r 3 0))
unfolding LinesOnly addition_line removal_line
lines_only_written_out = lines_only

pub lines_short_written_out : (l : List ℕ) → (length (line_record l) ≡ 0 → ⊥) → length l ≤ 34
unfolding LinesShort
lines_short_written_out = lines_short

-- the first 143,395 bytes settle a file and its outcome
pub file_settled_written_out : (bytes batch : List ℕ) → scored bytes batch ≡ scored (take 143395 bytes) batch
unfolding FileSettled
file_settled_written_out = file_settled

pub outcome_settled_written_out : (bytes : List ℕ) → outcome bytes ≡ outcome (take 143395 bytes)
unfolding OutcomeSettled
outcome_settled_written_out = outcome_settled

-- 20,480 words are enough for any batch of a file
pub room_enough_written_out : (bytes batch : List ℕ) → 20480 ≤ length batch → (scored bytes batch).number ≡ (fault bytes).number
unfolding RoomEnough
room_enough_written_out = room_enough

-- the batch has the updates of the lines, and is in order
pub batch_sorted_written_out :
    (bytes : List ℕ) → (fault bytes).number ≡ 0 →
    ((f : Update → Bool) → length (those f (updates (batch_of bytes))) ≡ length (those f (updates (laid (line_records bytes)))))
    × (falls 0 (updates (batch_of bytes)) ≡ false)
unfolding BatchSorted Rearranged
batch_sorted_written_out = batch_sorted

-- the arrival numbers of the lines are 1, 2, 3 and so on, and no file earns number 14
pub lines_counted_written_out : (bytes : List ℕ) → (fault bytes).number ≡ 0 → arrivals (updates (laid (line_records bytes))) ≡ counted 1 (length (lines bytes))
unfolding LinesCounted
lines_counted_written_out = lines_counted

pub lines_numbered_written_out :
    (bytes : List ℕ) → (fault bytes).number ≡ 0 → (any (eqb 0) (arrivals (updates (batch_of bytes))) || repeats (arrivals (updates (batch_of bytes)))) ≡ false
unfolding LinesNumbered ill_numbered
lines_numbered_written_out = lines_numbered

-- a batch and any rearrangement of its updates make the same of every set
pub order_means_nothing_written_out :
    (us vs : List Update) → ((f : Update → Bool) → length (those f us) ≡ length (those f vs)) → (s : List ℕ) (k : ℕ) → rising_from k s ≡ true →
    applied us s ≡ applied vs s
unfolding OrderMeansNothing Rearranged
order_means_nothing_written_out = order_means_nothing

-- of the lines that touch a pair the last decides
pub last_line_decides_written_out :
    (bytes : List ℕ) (us vs : List Update) (u : Update) (x : ℕ) (s : List ℕ) (k : ℕ) → (fault bytes).number ≡ 0 → rising_from k s ≡ true →
    updates (laid (line_records bytes)) ≡ us ++ u ∷ vs → (adds x u || removes x u) ≡ true → any_update (λ v. adds x v || removes x v) vs ≡ false →
    any (eqb x) (applied (updates (batch_of bytes)) s) ≡ adds x u
unfolding LastLineDecides touches
last_line_decides_written_out = last_line_decides

-- a pass on a sound card ends within the step limit
pub pass_within_limit :
    (c b : List ℕ) (k : ℕ) → Words c → Words b → judged c ≡ 0 → pass_from (step_limit (block_size c) (remains c b) + k) 0 c b ≡ pass c b
unfolding PassEnds steps_most
pass_within_limit = pass_ends

pub record LinesComputed : Type 0 where
  -- no bytes, a lone line feed, a second line feed, a last line without one
  pub none : lines [] ≡ []
  pub one_empty : lines (10 ∷ []) ≡ [] ∷ []
  pub two_empty : lines (10 ∷ 10 ∷ []) ≡ [] ∷ [] ∷ []
  pub last_open : lines (65 ∷ 10 ∷ 66 ∷ []) ≡ (65 ∷ []) ∷ (66 ∷ []) ∷ []
  -- A 5 9; R 6 1 9; a figure 0; a leading zero; a carriage return; lower case; a field more; a word's end and one above it
  pub addition : line_record (65 ∷ 9 ∷ 53 ∷ 9 ∷ 57 ∷ []) ≡ 1 ∷ 5 ∷ 9 ∷ 9 ∷ []
  pub removal : line_record (82 ∷ 9 ∷ 54 ∷ 9 ∷ 49 ∷ 9 ∷ 57 ∷ []) ≡ 2 ∷ 6 ∷ 1 ∷ 9 ∷ []
  pub of_zero : line_record (65 ∷ 9 ∷ 48 ∷ 9 ∷ 57 ∷ []) ≡ 1 ∷ 0 ∷ 9 ∷ 9 ∷ []
  pub leading_zero : line_record (65 ∷ 9 ∷ 48 ∷ 53 ∷ 9 ∷ 57 ∷ []) ≡ []
  pub carriage_return : line_record (65 ∷ 9 ∷ 53 ∷ 9 ∷ 57 ∷ 13 ∷ []) ≡ []
  pub lower_case : line_record (97 ∷ 9 ∷ 53 ∷ 9 ∷ 57 ∷ []) ≡ []
  pub field_more : line_record (65 ∷ 9 ∷ 53 ∷ 9 ∷ 57 ∷ 9 ∷ 57 ∷ []) ≡ []
  pub highest : line_record (65 ∷ 9 ∷ 49 ∷ 9 ∷ 52 ∷ 50 ∷ 57 ∷ 52 ∷ 57 ∷ 54 ∷ 55 ∷ 50 ∷ 57 ∷ 53 ∷ []) ≡ 1 ∷ 1 ∷ 4294967295 ∷ 4294967295 ∷ []
  pub too_high : line_record (65 ∷ 9 ∷ 49 ∷ 9 ∷ 52 ∷ 50 ∷ 57 ∷ 52 ∷ 57 ∷ 54 ∷ 55 ∷ 50 ∷ 57 ∷ 54 ∷ []) ≡ []
  -- a second line that is empty; the 4,097th line, and 12 on it
  pub second_line : fault (65 ∷ 9 ∷ 53 ∷ 9 ∷ 57 ∷ 10 ∷ 10 ∷ []) ≡ record { number = 12; line = 2 }
  pub most_lines : fault_from 4095 ((65 ∷ 9 ∷ 53 ∷ 9 ∷ 57 ∷ []) ∷ []) ≡ record { number = 0; line = 0 }
  pub line_more : fault_from 4096 ((65 ∷ 9 ∷ 53 ∷ 9 ∷ 57 ∷ []) ∷ []) ≡ record { number = 13; line = 4097 }
  pub line_more_empty : fault_from 4096 ([] ∷ []) ≡ record { number = 12; line = 4097 }
  -- R 5 2 7, A 4 9, A 5 2: sorted by term, then from, the removal before the addition of the same key, each with its line's number
  pub batch :
      batch_of (82 ∷ 9 ∷ 53 ∷ 9 ∷ 50 ∷ 9 ∷ 55 ∷ 10 ∷ 65 ∷ 9 ∷ 52 ∷ 9 ∷ 57 ∷ 10 ∷ 65 ∷ 9 ∷ 53 ∷ 9 ∷ 50 ∷ []) ≡
      1 ∷ 4 ∷ 9 ∷ 9 ∷ 2 ∷ 2 ∷ 5 ∷ 2 ∷ 7 ∷ 1 ∷ 1 ∷ 5 ∷ 2 ∷ 2 ∷ 3 ∷ []
  -- records of two words with one left over, and a work memory that is too short, are not sorted
  pub ragged : sort 2 0 (2 ∷ 1 ∷ 1 ∷ []) (0 ∷ 0 ∷ 0 ∷ []) ≡ record { done = false; words = 2 ∷ 1 ∷ 1 ∷ []; work = 0 ∷ 0 ∷ 0 ∷ [] }
  pub cramped : sort 2 0 (2 ∷ 1 ∷ 1 ∷ 1 ∷ []) (0 ∷ 0 ∷ 0 ∷ []) ≡ record { done = false; words = 2 ∷ 1 ∷ 1 ∷ 1 ∷ []; work = 0 ∷ 0 ∷ 0 ∷ [] }
  pub both_sorted : sort 2 0 (2 ∷ 1 ∷ 1 ∷ 1 ∷ []) (0 ∷ 0 ∷ 0 ∷ 0 ∷ 7 ∷ []) ≡ record { done = true; words = 1 ∷ 1 ∷ 2 ∷ 1 ∷ []; work = 1 ∷ 1 ∷ 2 ∷ 1 ∷ 7 ∷ [] }

pub lines_computed : LinesComputed
unfolding same first_of is_figure all_figures worth is_number record_at records_from records laid key_at placed sorted sorted_words sortable sort longer lines fields record_of line_record line_number fault_from fault numbered line_records batch_of
lines_computed =
    record {
      none = refl;
      one_empty = refl;
      two_empty = refl;
      last_open = refl;
      addition = refl;
      removal = refl;
      of_zero = refl;
      leading_zero = refl;
      carriage_return = refl;
      lower_case = refl;
      field_more = refl;
      highest = refl;
      too_high = refl;
      second_line = refl;
      most_lines = refl;
      line_more = refl;
      line_more_empty = refl;
      batch = refl;
      ragged = refl;
      cramped = refl;
      both_sorted = refl;
    }

pub record OutcomesComputed : Type 0 where
  -- no bytes: a pass of one step; one addition: its block, its map entry and the configuration; a figure 0: number 6; an empty line: 12
  pub of_none : outcome [] ≡ Finished 1
  pub of_one : outcome (65 ∷ 9 ∷ 53 ∷ 9 ∷ 50 ∷ 10 ∷ []) ≡ Finished 3
  pub of_zero : outcome (65 ∷ 9 ∷ 48 ∷ 9 ∷ 50 ∷ []) ≡ Refused 6
  -- R 5 9 3, a range with no game in it; R 5 9 0
  pub of_empty_range : outcome (82 ∷ 9 ∷ 53 ∷ 9 ∷ 57 ∷ 9 ∷ 51 ∷ []) ≡ Finished 1
  pub of_range_to_zero : outcome (82 ∷ 9 ∷ 53 ∷ 9 ∷ 57 ∷ 9 ∷ 48 ∷ []) ≡ Refused 6
  pub of_every_term : outcome (82 ∷ 9 ∷ 48 ∷ 9 ∷ 50 ∷ 9 ∷ 52 ∷ []) ≡ Refused 6
  pub of_empty_line : outcome (10 ∷ []) ≡ Refused 12
  -- A 5 2 and R 5 1 9 in both orders: the pair is written only where its line is the second
  pub of_removal_last : outcome (65 ∷ 9 ∷ 53 ∷ 9 ∷ 50 ∷ 10 ∷ 82 ∷ 9 ∷ 53 ∷ 9 ∷ 49 ∷ 9 ∷ 57 ∷ 10 ∷ []) ≡ Finished 1
  pub of_addition_last : outcome (82 ∷ 9 ∷ 53 ∷ 9 ∷ 49 ∷ 9 ∷ 57 ∷ 10 ∷ 65 ∷ 9 ∷ 53 ∷ 9 ∷ 50 ∷ 10 ∷ []) ≡ Finished 3
  -- D, tab, 1 and N, tab, 12
  pub print_finished : printed (Finished 1) ≡ 68 ∷ 9 ∷ 49 ∷ 10 ∷ []
  pub print_refused : printed (Refused 12) ≡ 78 ∷ 9 ∷ 49 ∷ 50 ∷ 10 ∷ []

pub outcomes_computed : OutcomesComputed
unfolding keep above within rising_from insert last any same first_of zeros pairs_from pairs formed_from formed leading packed_after block_of fitting due goes_on width_of first_pair place around pairs_at live format_number formatted blocks_sound first_reaches boundary_agrees segments_sound judged updates any_update adds removes latest withdrawn with_added applied ill_formed falls arrivals repeats ill_numbered batch_number remains due_place spent configured next_boundary freed grown configuration due_block due_entry next_write the_write crowded step_number taken refused step blocks_from blocks step_limit last_figures decimal is_figure all_figures worth is_number laid key_at placed sorted longer lines fields record_of line_record line_number fault_from fault numbered line_records batch_of fresh_card pass_from steps_most pass outcome printed_line printed
outcomes_computed =
    record {
      of_none = refl;
      of_one = refl;
      of_zero = refl;
      of_empty_range = refl;
      of_range_to_zero = refl;
      of_every_term = refl;
      of_empty_line = refl;
      of_removal_last = refl;
      of_addition_last = refl;
      print_finished = refl;
      print_refused = refl;
    }
