-- The configuration by value, and the places that it names.
use Rattle.std.specs.Prelude.{ℕ, ◌+◌, ◌%◌, ◌≤◌, ◌<◌, ◌≡◌, cond, List, length, ltb, eqb}
use Rattle.std.proofs.lemmas.List.Edits.{sets}
use Rattle.block.specs.Block.{block_size_most}
use Rattle.card.specs.declared.layout.Configuration.{Configuration}
use Rattle.card.specs.Layout.{configuration_words, configuration_list, format, block_size, place_count, start_of_old, length_of_old, length_of_new, boundary, place_count_most, entry_width, card_length}

-- a field of 16 bits is its word's remainder
abbrev pub short : ℕ → ℕ
short w = w % 65536

-- the configuration by value, of any words
pub record ConfigurationOf (c : List ℕ) (k : Configuration) : Type 0 where
  pub of_format : k.format ≡ format c
  pub of_size : k.size ≡ short (block_size c)
  pub of_places : k.places ≡ short (place_count c)
  pub of_start : k.old_start ≡ short (start_of_old c)
  pub of_old : k.old_length ≡ short (length_of_old c)
  pub of_new : k.new_length ≡ short (length_of_new c)
  pub of_boundary : k.boundary ≡ boundary c

-- the block size and the count of places are within their limits, and the card has the length that they give
pub record Shaped (c : List ℕ) : Type 0 where
  pub size_high : block_size c ≤ block_size_most
  pub count_low : 2 ≤ place_count c
  pub count_high : place_count c ≤ place_count_most
  pub long : length c ≡ card_length (entry_width c) (block_size c) (place_count c)

-- the configuration words are in order, and the configuration by value says what they say
pub record Ordered (c : List ℕ) (k : Configuration) : Type 0 where
  pub shaped : Shaped c
  pub of_format : k.format ≡ format c
  pub of_size : k.size ≡ block_size c
  pub of_places : k.places ≡ place_count c
  pub of_start : k.old_start ≡ start_of_old c
  pub of_old : k.old_length ≡ length_of_old c
  pub of_new : k.new_length ≡ length_of_new c
  pub of_boundary : k.boundary ≡ boundary c
  pub start : start_of_old c < place_count c
  pub room : length_of_old c + length_of_new c < place_count c

-- the words with the configuration in the first 8, where there are so many
unfoldable pub put : List ℕ → Configuration → List ℕ
put ws k =
    cond (ltb (length ws) configuration_words) ws
    (sets ws 0 (configuration_list k.format k.size k.places k.old_start k.old_length k.new_length k.boundary))

-- the place j places on from a place, around a circle of n; 0 where the circle has none
unfoldable pub place_on : ℕ → ℕ → ℕ → ℕ
place_on n start j = cond (eqb n 0) 0 ((start + j) % n)
