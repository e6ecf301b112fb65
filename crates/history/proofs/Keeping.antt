-- A card keeps to its history: what holds of the two together, before and after each kind of write.
use Prim.Native.Nat.{ℕ, ◌<◌}
use mathlib.Core.Path.{◌≡◌, refl, sym, ◌∙◌, ap}
use mathlib.Core.Bool.{Bool, true, false}
use mathlib.Core.List.{List}
use native.Mathlib.Omega.{arith}
use lib.ListN.{length}
use Rattle.pair.specs.Rank.{term, position, Words}
use Rattle.pair.proofs.Order.{term_rank, position_rank, rank_term_position}
use Rattle.block.specs.Block.{due, goes_on}
use Rattle.card.specs.Layout.{word, block_size, boundary_term, boundary_position, boundary, live, format_number, formatted}
use Rattle.card.specs.Sound.{judged}
use Rattle.card.proofs.Facts.{Facts, facts}
use Rattle.card.proofs.Formatted.{formatted_word, formatted_term, formatted_position, formatted_sound, formatted_live, formatted_words}
use Rattle.card.proofs.Frame.{Alike, word_alike, live_alike, judged_alike}
use Rattle.update.specs.Step.{remains, next_boundary, crowded}
use Rattle.update.proofs.Writes.{written}
use Rattle.update.proofs.Configuration.{next_boundary_on, next_boundary_end, live_on, live_end}
use Rattle.update.proofs.Grown.{Remaining, DueWritten}
use Rattle.update.proofs.Settled.{configuration_sound, configuration_words_law, configuration_size, configuration_term, configuration_position}
use Rattle.history.proofs.Landed.{landed_size}
use Rattle.history.specs.History.{History, started, to_write, next, landed}

-- the card is sound, of 32-bit words, its live pairs are the history's, its boundary words the mark's, and the history knows its block size
pub record Keeping (c : List ℕ) (h : History) : Type 0 where
  pub sound : judged c ≡ 0
  pub words : Words c
  pub index : live c ≡ h.pairs
  pub mark_term : boundary_term c ≡ term h.mark
  pub mark_position : boundary_position c ≡ position h.mark
  pub size : block_size c ≡ h.size

pub keeping_boundary : (c : List ℕ) (h : History) → Keeping c h → boundary c ≡ h.mark
keeping_boundary c h k = rw (k.mark_term, k.mark_position) (rank_term_position h.mark)

-- the history that a card tells of itself
abbrev pub itself : List ℕ → History
itself c = record { size = block_size c; pairs = live c; mark = boundary c }

-- A sound card keeps to it.
pub keeping_itself : (c : List ℕ) → Words c → judged c ≡ 0 → Keeping c (itself c)
unfolding Words
keeping_itself c w s =
    record {
      sound = s;
      words = w;
      index = refl;
      mark_term = sym (term_rank (word c 6) (word c 7) (w 7));
      mark_position = sym (position_rank (word c 6) (word c 7) (w 7));
      size = refl;
    }

-- What remains on the card is what the history has to write.
pub keeping_remains : (c b : List ℕ) (h : History) → Keeping c h → remains c b ≡ to_write b h
unfolding remains to_write
keeping_remains c b h k = rw (keeping_boundary c h k, k.index)

-- Words in free places and their map entries change nothing.
pub keeping_alike : (c d : List ℕ) (h : History) → Keeping c h → Alike c d → Words d → Keeping d h
keeping_alike c d h k a w =
    record {
      sound = judged_alike c d a ∙ k.sound;
      words = w;
      index = live_alike c d a ∙ k.index;
      mark_term = word_alike c d a 6 (omega arith) ∙ k.mark_term;
      mark_position = word_alike c d a 7 (omega arith) ∙ k.mark_position;
      size = word_alike c d a 1 (omega arith) ∙ k.size;
    }

-- A card just formatted keeps to a history just started.
pub keeping_formatted :
    (c : List ℕ) (b n : ℕ) → format_number c b n ≡ 0 → Words c → b < 4294967296 → n < 4294967296 → Keeping (formatted c b n) (started b)
unfolding started
keeping_formatted c b n e w hb hn =
    record {
      sound = formatted_sound c b n e;
      words = formatted_words c b n e w hb hn;
      index = formatted_live c b n e;
      mark_term = formatted_term c b n e;
      mark_position = formatted_position c b n e;
      size = formatted_word c b n e 1 (omega arith);
    }

-- The configuration write of a step does to the card what a landed write does to the history.
module _ (c b : List ℕ) (h : History) (k : Keeping c h) (m : Remaining c (remains c b))
    (ready : 0 < length (remains c b) → DueWritten c (remains c b)) (free : crowded c (remains c b) ≡ false) where
  abbrev r : List ℕ
  r = remains c b

  f : Facts c
  f = facts c k.sound

  pub keeping_goes_on : goes_on (block_size c) r ≡ goes_on h.size (to_write b h)
  keeping_goes_on = rw (keeping_remains c b h k, k.size)

  keeping_next : due (block_size c) r ≡ next b h
  unfolding next
  keeping_next = rw (keeping_remains c b h k, k.size)

  landed_pairs : live (written c r 3) ≡ (landed b h).pairs
  unfolding landed
  landed_pairs = go (goes_on (block_size c) r) refl
    where
      go : (t : Bool) → goes_on (block_size c) r ≡ t → live (written c r 3) ≡ (landed b h).pairs
      go true on = live_on c r f m ready on ∙ rw (sym keeping_goes_on ∙ on, keeping_boundary c h k, keeping_next, k.index)
      go false end = live_end c r f m ready end ∙ rw (sym keeping_goes_on ∙ end, keeping_boundary c h k, keeping_remains c b h k, k.index)

  landed_mark : next_boundary c r ≡ (landed b h).mark
  unfolding landed
  landed_mark = go (goes_on (block_size c) r) refl
    where
      go : (t : Bool) → goes_on (block_size c) r ≡ t → next_boundary c r ≡ (landed b h).mark
      go true on = next_boundary_on c r f m ready on ∙ rw (sym keeping_goes_on ∙ on, keeping_next)
      go false end = next_boundary_end c r f m ready end ∙ rw (sym keeping_goes_on ∙ end)

  -- A configuration write keeps the card to its history.
  pub keeping_landed : Keeping (written c r 3) (landed b h)
  keeping_landed =
      record {
        sound = configuration_sound c r f m ready free;
        words = configuration_words_law c r f m ready free k.words;
        index = landed_pairs;
        mark_term = configuration_term c r f m ready free ∙ ap term landed_mark;
        mark_position = configuration_position c r f m ready free ∙ ap position landed_mark;
        size = configuration_size c r f m ready free ∙ k.size ∙ sym (landed_size b h);
      }
