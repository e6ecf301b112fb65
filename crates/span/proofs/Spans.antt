-- Where a sound card's due place is, as the configuration by value says it.
use Rattle.std.proofs.Common.{ℕ, ◌≡◌, sym}
use mathlib.Core.List.{List}
use Rattle.refusal.proofs.Numbers.{number_positive}
use Rattle.card.specs.declared.layout.Configuration.{Configuration}
use Rattle.card.specs.Layout.{block_size, format, due_place}
use Rattle.card.specs.Sound.{judged}
use Rattle.card.specs.code.Configuration.{ConfigurationOf, place_on}
use Rattle.card.proofs.Facts.{facts}
use Rattle.card.proofs.Ordered.{ordered_sound, due_place_on}

module _ (c : List ℕ) (k : Configuration) (e : 0 ≡ judged c) (o : ConfigurationOf c k) where
  pub due : place_on k.places (place_on k.places k.old_start k.old_length) k.new_length ≡ due_place c
  due = due_place_on (ordered_sound (facts c (sym e)) o)

  pub size : k.size ≡ block_size c
  size = (ordered_sound (facts c (sym e)) o).of_size

  pub version : k.format ≡ format c
  version = (ordered_sound (facts c (sym e)) o).of_format

pub ruleset spans = (due, size, version, number_positive)
