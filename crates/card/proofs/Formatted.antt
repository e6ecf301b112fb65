-- A card just formatted is sound, has no live pair and no boundary.
use Prim.Native.Nat.{ℕ, ◌+◌, ◌<◌}
use mathlib.Core.Path.{◌≡◌, ◌∙◌, ap}
use mathlib.Core.Bool.{false}
use mathlib.Core.List.{List, []}
use native.Mathlib.Omega.{arith}
use lib.ListN.{length, drop, get_or}
use lib.Seq.{sets, length-sets}
use lib.Dec.{eqb}
use borrow.Author.Tests.{eqb-true, not-false}
use Rattle.pair.specs.Rank.{Words}
use Rattle.pair.specs.Rising.{above, keep, rising_from, last}
use Rattle.pair.proofs.FirstOf.{passed}
use Rattle.card.specs.Layout.{word, format, boundary, width_of, card_length, around, old_places, new_places, pairs_at, live, format_number, formatted, configuration_list}
use Rattle.card.specs.Sound.{blocks_sound, first_reaches, boundary_agrees, judged}
use Rattle.card.proofs.Facts.{sound}
use Rattle.card.proofs.Limits.{Limits, limits}
use Rattle.pair.proofs.Lists.{part_sets_after, word_sets_same}
use Rattle.pair.proofs.Words.{words_sets, words_cons, words_nil}

-- what the formatter asks for
pub record Formattable (c : List ℕ) (b n : ℕ) : Type 0 where
  pub range : Limits b n
  pub long : length c ≡ card_length (width_of 1) b n

pub formattable : (c : List ℕ) (b n : ℕ) → format_number c b n ≡ 0 → Formattable c b n
unfolding format_number
formattable c b n e =
    let p1 = passed _ _ _ e in
    let p2 = passed _ _ _ p1.1 in
    record { range = limits b n (not-false _ p1.0); long = eqb-true _ _ (not-false _ p2.0) }

-- A refused call of the formatter writes nothing.
pub formatted_refused : (c : List ℕ) (b n : ℕ) → eqb (format_number c b n) 0 ≡ false → formatted c b n ≡ c
unfolding formatted
formatted_refused c b n e = rw e

abbrev fresh : ℕ → ℕ → List ℕ
fresh b n = configuration_list 1 b n 0 0 0 0

module _ (c : List ℕ) (b n : ℕ) (e : format_number c b n ≡ 0) where
  pub formatted_is : formatted c b n ≡ sets c 0 (fresh b n)
  unfolding formatted
  formatted_is = rw e

  f : Formattable c b n
  f = formattable c b n e

  pub formatted_word : (i : ℕ) → i < 8 → word (formatted c b n) i ≡ get_or (fresh b n) i 0
  formatted_word i h =
      let z : i ≡ 0 + i = omega arith in
      ap (λ d. get_or d i 0) formatted_is ∙ ap (λ j. get_or (sets c 0 (fresh b n)) j 0) z
      ∙ word_sets_same (fresh b n) c 0 i (omega (arith, f.long)) h

  known : format (formatted c b n) ≡ 1
  known = formatted_word 0 (omega arith)

  size : word (formatted c b n) 1 ≡ b
  size = formatted_word 1 (omega arith)

  count : word (formatted c b n) 2 ≡ n
  count = formatted_word 2 (omega arith)

  pub formatted_old : word (formatted c b n) 4 ≡ 0
  formatted_old = formatted_word 4 (omega arith)

  pub formatted_new : word (formatted c b n) 5 ≡ 0
  formatted_new = formatted_word 5 (omega arith)

  pub formatted_term : word (formatted c b n) 6 ≡ 0
  formatted_term = formatted_word 6 (omega arith)

  pub formatted_position : word (formatted c b n) 7 ≡ 0
  formatted_position = formatted_word 7 (omega arith)

  old_none : old_places (formatted c b n) ≡ []
  unfolding around
  old_none = rw formatted_old

  new_none : new_places (formatted c b n) ≡ []
  unfolding around
  new_none = rw formatted_new

  pub formatted_bound : boundary (formatted c b n) ≡ 0
  formatted_bound = rw (formatted_term, formatted_position)

  -- It is sound.
  pub formatted_sound : judged (formatted c b n) ≡ 0
  unfolding boundary_agrees blocks_sound first_reaches pairs_at rising_from last
  formatted_sound =
      let l : length (formatted c b n) ≡ length c = ap length formatted_is ∙ length-sets c 0 (fresh b n) in
      sound (formatted c b n) (record {
        known = known;
        size_low = rw size f.range.size_low;
        size_high = rw size f.range.size_high;
        count_low = rw count f.range.count_low;
        count_high = rw count f.range.count_high;
        long = rw (known, size, count) (l ∙ f.long);
        start = rw (count, formatted_word 3 (omega arith)) (omega (arith, f.range.count_low));
        room = rw (count, formatted_old, formatted_new) (omega (arith, f.range.count_low));
        bound_words = rw (formatted_new, formatted_term, formatted_position);
        new_sound = rw new_none;
        old_sound = rw old_none;
        new_rising = rw new_none;
        old_rising = rw old_none;
        last_new = rw (new_none, formatted_bound);
        reaches = rw old_none;
      })

  -- It has no live pair.
  pub formatted_live : live (formatted c b n) ≡ []
  unfolding live pairs_at above keep
  formatted_live = rw (new_none, old_none)

  -- All words but the first 8 stand.
  pub formatted_rest : drop 8 (formatted c b n) ≡ drop 8 c
  formatted_rest = rw formatted_is (part_sets_after (fresh b n) c 8 0 (omega arith))

  -- It has 32-bit words.
  pub formatted_words : Words c → b < 4294967296 → n < 4294967296 → Words (formatted c b n)
  formatted_words w hb hn =
      let z : 0 < 4294967296 = omega arith in
      rw formatted_is (words_sets (fresh b n) c 0 w
      (words_cons _ _ (omega arith) (words_cons _ _ hb (words_cons _ _ hn
      (words_cons _ _ z (words_cons _ _ z (words_cons _ _ z (words_cons _ _ z (words_cons _ _ z words_nil)))))))))
