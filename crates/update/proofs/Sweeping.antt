-- Whole entries that no record touches, packed one after the other.
use Prim.Native.Nat.{ℕ, zero, suc, ◌+◌, ◌-◌, ◌≤◌, ◌<◌}
use native.Mathlib.Omega.{arith}
use mathlib.Core.Path.{◌≡◌, refl, subst, ◌∙◌}
use mathlib.Core.Bool.{Bool, true, false}
use mathlib.Core.List.{List}
use lib.ListN.{length, take, drop, get_or, length-take, length-drop}
use lib.Seq.{get_or-take, get_or-drop}
use lib.Dec.{ltb, leb}
use borrow.Author.Tests.{leb-true, leb-false}
use Rattle.pair.specs.Rank.{term, position, Words}
use Rattle.pair.specs.Rising.{above}
use Rattle.pair.proofs.Keep.{length_keep}
use Rattle.pair.proofs.Parts.{above_further}
use Rattle.pair.proofs.Rising.{rising_head}
use Rattle.pair.proofs.Search.{at_most_in, at_most_out}
use Rattle.block.specs.code.Scan.{reads_on}
use Rattle.card.specs.Layout.{live}
use Rattle.card.proofs.Facts.{Facts}
use Rattle.batch.specs.Batch.{updates, applied, batch_number}
use Rattle.batch.specs.declared.Cursor.{Cursor}
use Rattle.batch.proofs.Behind.{Untouched, untouched_stays_law}
use Rattle.batch.proofs.Decisions.{follows_later}
use Rattle.update.specs.declared.forecast.Filling.{Filling}
use Rattle.update.specs.declared.merge.Merge.{Merge}
use Rattle.update.specs.declared.old.OldCursor.{OldCursor}
use Rattle.update.specs.code.Merge.{Merges, left, Reached, place_along, Runs}
use Rattle.update.specs.code.Old.{rest, coming, entry_read, Stands, Advanced, position_on, along}
use Rattle.update.specs.code.Tally.{Addable, Added, Packs}
use Rattle.update.proofs.Cursor.{positions_room, coming_position, advanced_position, advanced_entry}
use Rattle.update.proofs.PackedAll.{packs_addable, packs_turn, packs_less, packs_few}
use Rattle.update.proofs.Running.{along_some, place_along_some, positions_rise, one_above, one_left, one_merges, going}

-- the cursor further in its entry stands, and is not below
record Along (c : List ℕ) (o p : OldCursor) (n : ℕ) : Type 0 where
  stands : Stands c p
  count : p.count + n ≡ o.count
  above : o.rank ≤ p.rank

alongs : (c : List ℕ) (o : OldCursor) (n : ℕ) → Stands c o → n ≤ o.count → Along c o (along c o n) n
unfolding along
alongs c o zero s l = record { stands = s; count = omega arith; above = omega arith }
alongs c o (suc n) s l = next (alongs c o n s (omega arith))
  where
    p : OldCursor
    p = along c o n

    next : Along c o p n → Along c o (position_on c p) (suc n)
    next a =
        let more : 0 < p.count = omega (arith, a.count) in
        let up = rising_head (position_on c p).rank (coming c (position_on c p)) p.rank (rw (← coming_position a.stands more) a.stands.rising) in
        record { stands = (advanced_position a.stands more).stands; count = omega (arith, a.count); above = omega (arith, a.above, up) }

-- its positions rise up to the last
positions_high : {c : List ℕ} {o : OldCursor} → Stands c o → (j : ℕ) → j < o.count → get_or c (o.at + j) 0 ≤ get_or c (o.at + o.count - 1) 0
positions_high {c} {o} s j l = go (leb (get_or ps j 0) (get_or ps (o.count - 1) 0)) refl
  where
    ps : List ℕ
    ps = take o.count (drop o.at c)

    at : (i : ℕ) → i < o.count → get_or ps i 0 ≡ get_or c (o.at + i) 0
    at i h = get_or-take o.count (drop o.at c) i 0 h ∙ get_or-drop o.at c i 0

    long : length ps ≡ o.count
    long = length-take o.count (drop o.at c) ∙ omega (arith, length-drop o.at c, positions_room s, s.ends)

    go : (t : Bool) → leb (get_or ps j 0) (get_or ps (o.count - 1) 0) ≡ t → get_or c (o.at + j) 0 ≤ get_or c (o.at + o.count - 1) 0
    go true e =
        let i : o.at + o.count - 1 ≡ o.at + (o.count - 1) = omega arith in
        rw (i, ← at j l, ← at (o.count - 1) (omega arith)) (leb-true (get_or ps j 0) (get_or ps (o.count - 1) 0) e)
    go false e =
        absurd (omega (
          arith,
          long,
          at_most_in ps 0 (o.count - 1) (get_or ps (o.count - 1) 0) (positions_rise s) (omega (arith, long)) (omega arith),
          at_most_out ps 0 j (get_or ps (o.count - 1) 0) (positions_rise s) (omega (arith, long)) (leb-false (get_or ps j 0) (get_or ps (o.count - 1) 0) e),
        ))

-- the pairs up to the last one are packed, and none between the pair k and bound is touched
pub record Sweeps (c b : List ℕ) (k bound addition : ℕ) (d : Cursor) (o : OldCursor) (f : Filling) (last : ℕ) : Type 0 where
  pub packs : Packs c b f last
  pub merges : Merges c b (record { rank = last; old = o; addition = addition; decisions = d })
  pub hand : o.rank ≡ last
  pub further : k ≤ last

-- an entry more, wholly before bound
module _ {c b : List ℕ} {k bound addition : ℕ} {d : Cursor} {o : OldCursor} {f : Filling} {last : ℕ} (s : Facts c) (w : Words c) (h : 0 < k) (free : (y : ℕ) → k < y → y < bound → Untouched (updates b) y)
    (g : Sweeps c b k bound addition d o f last) (z : o.count ≡ 0) (e : reads_on (rest c o.at o.end) ≡ true) where
  abbrev first : OldCursor
  first = entry_read c o.at o.end o.place o.places

  abbrev whole : OldCursor
  whole = along c first first.count

  abbrev place : Merge
  place = record { rank = first.rank; old = first; addition = addition; decisions = d }

  advanced : Advanced c o first
  advanced = advanced_entry g.merges.stands z e

  pub entry_stands_law : Stands c first
  entry_stands_law = advanced.stands

  higher : first.rank ≤ whole.rank
  higher = (alongs c first first.count entry_stands_law (omega arith)).above

  of_term : term first.rank ≡ first.term
  unfolding entry_read Words
  of_term = let word : get_or c (o.at + 2) 0 < 4294967296 = w (o.at + 2) in omega arith

  last_term : (n : ℕ) → first.count ≡ n → term whole.rank ≡ first.term
  unfolding Words along
  last_term zero q = rw q of_term
  last_term (suc n) q =
      let word : get_or c (first.at + first.count - 1) 0 < 4294967296 = w (first.at + first.count - 1) in
      rw (along_some c first first.count (omega arith)) (omega arith)

  last_position : (n : ℕ) → first.count ≡ n → (j : ℕ) → j < first.count → get_or c (first.at + j) 0 ≤ position whole.rank
  unfolding Words
  last_position zero q j l = absurd (omega arith)
  last_position (suc n) q j l =
      let word : get_or c (first.at + first.count - 1) 0 < 4294967296 = w (first.at + first.count - 1) in
      rw (along_some c first first.count (omega arith)) (omega (arith, positions_high entry_stands_law j l))

  module _ (some : 0 < first.rank) (before : whole.rank < bound) where
    low : 0 < last
    low = omega (arith, g.further)

    up : last < first.rank
    up = one_above s g.merges g.hand low advanced some

    there : Merges c b place
    there = one_merges s g.merges g.hand low advanced some (follows_later g.merges.decides (omega (arith, up)))

    pub entry_merged : Reached c b last place
    entry_merged =
        record {
          next =
              (one_left s g.merges g.hand low advanced some (λ y l m. (free y (omega (arith, g.further)) (omega (arith, higher))).absent)
              (untouched_stays_law (free first.rank (omega (arith, g.further, up)) (omega (arith, higher)))));
          merges = there;
        }

    pub entry_runs : Runs c b place first.count
    entry_runs =
        (going s w there refl some of_term (position whole.rank)
        (λ y l t m. free y (omega (arith, g.further, up)) (omega (arith, t, of_term, last_term first.count refl)))
        first.count (omega arith) (last_position first.count refl)).0

    place_whole : (n : ℕ) → first.count ≡ n → place_along c place first.count ≡ record { rank = whole.rank; old = whole; addition = addition; decisions = d }
    unfolding place_along along
    place_whole zero q = rw q refl
    place_whole (suc n) q = place_along_some c place first.count (omega arith)

    pub entry_addable : batch_number b ≡ 0 → Addable c f first.rank first.at first.count
    entry_addable n = packs_addable g.packs entry_merged entry_runs s n (packs_few g.packs s w n)

    pub sweeps_turn : (r : Filling) → Added c f first.rank first.at first.count r → Sweeps c b k bound addition d whole r whole.rank
    sweeps_turn r a =
        let p = place_whole first.count refl in
        record {
          packs = subst (λ (m : Merge). Packs c b r m.rank) p (packs_turn g.packs entry_merged entry_runs r a);
          merges = subst (Merges c b) p entry_runs.merges;
          hand = refl;
          further = omega (arith, g.further, up, higher);
        }

    pub sweeps_less : length (left c b whole.rank) < length (left c b last)
    sweeps_less =
        subst (λ (m : Merge). length (left c b m.rank) < length (left c b last)) (place_whole first.count refl)
        (packs_less g.packs entry_merged entry_runs)

-- what is left above a later pair is no more
pub left_fewer : (c b : List ℕ) (k j : ℕ) → k ≤ j → length (left c b j) ≤ length (left c b k)
left_fewer c b k j h = rw (← above_further k j (applied (updates b) (live c)) h) (unfold above in length_keep (ltb j) (above k (applied (updates b) (live c))))
