-- P1 to P8 hold: the checker computes every row of the table.
use mathlib.Core.Path.{refl}
use Rattle.pair.specs.Rising.{keep, above, within, rising_from, insert, last, any}
use Rattle.pair.specs.Tests.{same, first_of}
use Rattle.block.specs.Block.{zeros, pairs_from, pairs, formed_from, formed, leading, packed_after, block_of, fitting, due, goes_on}
use Rattle.card.specs.Layout.{width_of, first_pair, place, around, pairs_at, live, format_number, formatted, due_place}
use Rattle.card.specs.Sound.{blocks_sound, first_reaches, boundary_agrees, segments_sound, judged}
use Rattle.repeat.specs.Repeats.{repeats}
use Rattle.batch.specs.Batch.{updates, any_update, adds, removes, latest, withdrawn, with_added, applied, ill_formed, falls, arrivals, ill_numbered, batch_number}
use Rattle.update.specs.Step.{remains, spent, configured, next_boundary, freed, grown, configuration, due_block, due_entry, next_write, the_write, crowded, step_number, taken, refused, step}
use Rattle.found.specs.Found.{found, mapped_to, span, blocks_read, question_number, lookup_number, lookup}
use Rattle.history.specs.Cases.{after_steps, makes_all, seen, all_seen, fresh, first, Cases}

pub cases : Cases
unfolding keep above within rising_from insert last any same first_of zeros pairs_from pairs formed_from formed leading packed_after block_of fitting due goes_on width_of first_pair place around pairs_at live format_number formatted blocks_sound first_reaches boundary_agrees segments_sound judged updates any_update adds removes latest withdrawn with_added applied ill_formed falls arrivals ill_numbered repeats batch_number remains due_place spent configured next_boundary freed grown configuration due_block due_entry next_write the_write crowded step_number taken refused step found mapped_to span blocks_read question_number lookup_number lookup after_steps makes_all seen all_seen fresh first Cases
cases = refl
