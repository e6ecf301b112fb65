-- The planned write is the write of a step, for whatever remains with the due block in hand.
use Prim.Native.Nat.{ℕ, ◌+◌, ◌-◌, ◌≤◌, ◌<◌}
use native.Mathlib.Omega.{arith}
use mathlib.Core.Path.{◌≡◌, refl, sym, ap, ◌∙◌}
use mathlib.Core.Bool.{Bool, true, false, cond, not, ◌&&◌}
use mathlib.Core.List.{List, [], ◌∷◌, ◌++◌, append_assoc}
use borrow.Rule.Slice.PartMut.{put_mid}
use lib.ListN.{length, take, drop, get_or, set}
use lib.Seq.{take-length, sets, sets-eq, drop-drop}
use lib.Dec.{leb, eqb}
use lib.Pointwise.{pointwise}
use borrow.Author.Tests.{eq-eqb, ne_eqb, eqb-false, le-leb, lt-leb, le-ltb, not-true, not-false}
use Rattle.pair.specs.Rank.{term, position, Proper}
use Rattle.pair.specs.Rising.{Each, last}
use Rattle.pair.specs.Tests.{same}
use Rattle.block.specs.Block.{packed_after, block_of, due, goes_on}
use Rattle.block.proofs.Due.{due_some, proper_due}
use Rattle.card.specs.declared.layout.Configuration.{Configuration}
use Rattle.card.specs.Layout.{configuration_list, format, block_size, place_count, start_of_old, length_of_old, length_of_new, entry_at, entry, place_at, place, old_places, due_place}
use Rattle.card.specs.code.Configuration.{put, Ordered}
use Rattle.card.proofs.Circle.{length_around}
use Rattle.card.proofs.Facts.{Facts, facts}
use Rattle.card.proofs.Ordered.{shaped, place_on_law}
use Rattle.pair.proofs.Lists.{part_sets_same}
use Rattle.card.proofs.Parts.{place_inside, entry_inside, width_low}
use Rattle.std.proofs.Common.{Result, Ok, Err}
use Rattle.refusal.specs.declared.Refusal.{Refusal}
use Rattle.refusal.specs.declared.Refusal.TheVariants.{Crowded}
use Rattle.update.specs.declared.Written.TheVariants as written
use Rattle.update.specs.declared.due.Due.{Due}
use Rattle.update.specs.Step.{spent, configured, next_boundary, freed, grown, configuration, due_block, due_entry, next_write, the_write, crowded, taken, refused, remains, step}
use Rattle.update.specs.code.Due.{Answers}
use Rattle.update.specs.code.Plan.{Freed, followed, settling, step_with, PlanOf, Planned}
use Rattle.batch.specs.Batch.{batch_number}
use Rattle.card.specs.Sound.{judged}
use Rattle.update.specs.declared.WritePlan.{WritePlan}
use Rattle.update.proofs.Steps.{step_sound}
use Rattle.update.proofs.Grown.{due_first}
use Rattle.update.proofs.Spent.{spent_length}
use Rattle.update.proofs.Writes.{length_due_block_law, next_write_law, due_inside}

-- the blocks of a sound card are large enough for a pair
pub large : (c : List ℕ) → judged c ≡ 0 → 8 ≤ block_size c
large c j = (facts c j).size_low

-- a comparison of slices is the definition's
pub same_slices : (xs ys : List ℕ) → pointwise eqb xs ys ≡ same xs ys
unfolding same
same_slices [] [] = refl
same_slices [] (y ∷ ys) = refl
same_slices (x ∷ xs) [] = refl
same_slices (x ∷ xs) (y ∷ ys) = ap (λ t. eqb x y && t) (same_slices xs ys)

pub differs : {xs ys us vs : List ℕ} → true ≡ not (pointwise eqb us vs) → us ≡ xs → vs ≡ ys → same xs ys ≡ false
differs {xs} {ys} {us} {vs} h e q = rw (← e, ← q, ← same_slices us vs) (not-true _ (sym h))

pub agrees : {xs ys us vs : List ℕ} → false ≡ not (pointwise eqb us vs) → us ≡ xs → vs ≡ ys → same xs ys ≡ true
agrees {xs} {ys} {us} {vs} h e q = rw (← e, ← q, ← same_slices us vs) (not-false _ (sym h))

-- a part of a slice is written whole
pub part_written : (l vs : List ℕ) (a n : ℕ) → length vs ≡ n → a + n ≤ length l → put_mid a (a + n - a) l vs ≡ sets l a vs
part_written l vs a n e h =
    let k : a + n - a ≡ length vs = omega arith in
    sym (sets-eq vs l a (omega arith) ∙ append_assoc (take a l) vs (drop (a + length vs) l)
    ∙ rw k (ap (λ d. take a l ++ (vs ++ d)) (sym (drop-drop (length vs) a l))))

-- the old places that are freed, where pairs stand beyond the due block and where none do
pub freed_more : (c : List ℕ) (d : Due) → d.more ≡ true → Freed c d (spent c d.last (old_places c))
unfolding freed next_boundary
freed_more c d e =
    record {
      few = rw length_around at (spent_length c d.last (old_places c));
      of = λ r ws a. rw (sym a.beyond ∙ e, a.last_pair);
    }

pub freed_all : (c : List ℕ) (d : Due) → d.more ≡ false → Freed c d (length_of_old c)
unfolding freed
freed_all c d e = record { few = omega arith; of = λ r ws a. rw (sym a.beyond ∙ e) }

-- the room that a write leaves, by the configuration's fields and by the words
pub free_words : {p n o m w l : ℕ} (f : ℕ) → p ≡ n → o ≡ m → w ≡ l → o - f + (w + 1) < p → m - f + (l + 1) < n
free_words f a b c h = rw (← a, ← b, ← c) h

pub crowded_words : {p n o m w l : ℕ} (f : ℕ) → p ≡ n → o ≡ m → w ≡ l → p ≤ o - f + (w + 1) → n ≤ m - f + (l + 1)
crowded_words f a b c h = rw (← a, ← b, ← c) h

-- the first pair of a block stands in its words
block_first : (b : ℕ) (ks : List ℕ) → Each Proper ks → 0 < length ks → (get_or (block_of b ks) 0 0 ≡ term (get_or ks 0 0)) × (get_or (block_of b ks) 2 0 ≡ position (get_or ks 0 0))
unfolding block_of packed_after
block_first b [] a l = absurd (omega arith)
block_first b (k ∷ ks) (a, rest) l = let e : eqb (term k) 0 ≡ false = ne_eqb (term k) 0 (omega (arith, a.term_low)) in (rw e, rw e)

-- the words that become the map entry's
first_two : (ws : List ℕ) (x : ℕ) → 2 ≤ length ws → take 2 (set ws 1 x) ≡ get_or ws 0 0 ∷ x ∷ []
first_two [] x h = absurd (omega arith)
first_two (a ∷ []) x h = absurd (omega arith)
first_two (a ∷ b ∷ ws) x h = refl

module _ {c : List ℕ} {k : Configuration} {r ws : List ℕ} {d : Due} {n : ℕ} (f : Facts c) (o : Ordered c k) (a : Answers c r ws d) (w : Freed c d n) where
  is_freed : n ≡ freed c r
  is_freed = w.of r ws a

  -- the configuration that follows has the words of the configuration write
  followed_words : (g : ℕ) → g ≡ grown c r →
      let q = followed k d n g in
      configuration_list q.format q.size q.places q.old_start q.old_length q.new_length q.boundary ≡ configuration c r
  unfolding followed configuration configured
  followed_words g e = rw (place_on_law o k.old_start n, o.of_format, o.of_size, o.of_places, o.of_start, o.of_old, is_freed, e, a.beyond, a.last_pair) (go (goes_on (block_size c) r) refl)
    where
      go : (t : Bool) → goes_on (block_size c) r ≡ t →
          configured c (start_of_old c + freed c r) (cond t (length_of_old c - freed c r) (grown c r)) (cond t (grown c r) 0) (cond t (last 0 (due (block_size c) r)) 0)
          ≡ cond t (configured c (start_of_old c + freed c r) (length_of_old c - freed c r) (grown c r) (next_boundary c r)) (configured c (start_of_old c + length_of_old c) (grown c r) 0 0)
      go true e = let z : next_boundary c r ≡ last 0 (due (block_size c) r) = unfold next_boundary in rw e in rw z
      go false e = let z : freed c r ≡ length_of_old c = unfold freed in rw e in rw z

  -- the plan of the configuration write
  pub plan_settled : (g : ℕ) → g ≡ grown c r → crowded c r ≡ false → next_write c r ≡ 3 → (es : List ℕ) → length es ≡ block_size c →
      PlanOf c (step_with c r) (put es (followed k d n g)) (Ok (settling d n))
  unfolding step_with taken the_write put
  plan_settled g e free next es l =
      let q = followed k d n g in
      let ws = configuration_list q.format q.size q.places q.old_start q.old_length q.new_length q.boundary in
      rw (free, next)
      (record {
        answer = record { number = refl; write = refl; freed = is_freed; finished = rw a.beyond };
        start = refl;
        words = rw (le-ltb (length es) 8 (omega (arith, f.size_low))) (part_sets_same ws es 0 (omega (arith, f.size_low)) ∙ followed_words g e);
        inside = omega (arith, f.long);
      })

  -- where nothing remains
  pub plan_none : d.used ≡ 0 → (es : List ℕ) → length es ≡ block_size c → (g : ℕ) → g ≡ length_of_new c → PlanOf c (step_with c r) (put es (followed k d n g)) (Ok (settling d n))
  unfolding grown crowded
  plan_none h es l g e =
      let z : eqb (length r) 0 ≡ true = sym a.empty ∙ eq-eqb d.used 0 h in
      plan_settled g (rw z (omega (arith, e))) (rw z) (next_write_law c r ∙ rw z) es l

  module _ (h : d.used ≡ 0 → ⊥) where
    some : eqb (length r) 0 ≡ false
    some = sym a.empty ∙ ne_eqb d.used 0 h

    pub grown_some : length_of_new c + 1 ≡ grown c r
    unfolding grown
    grown_some = rw some

    crowds : crowded c r ≡ leb (place_count c) (length_of_old c - n + (length_of_new c + 1))
    unfolding crowded
    crowds = rw (some, is_freed, grown_some) (go (goes_on (block_size c) r) refl)
      where
        go : (t : Bool) → goes_on (block_size c) r ≡ t →
            leb (place_count c) (cond t (length_of_old c - freed c r) 0 + grown c r) ≡ leb (place_count c) (length_of_old c - freed c r + grown c r)
        go true e = refl
        go false e =
            let z : length_of_old c - freed c r ≡ 0 = (unfold freed in rw e (omega arith)) in
            rw z

    -- where no place would be left
    pub plan_crowded : (es : List ℕ) → place_count c ≤ length_of_old c - n + (length_of_new c + 1) →
        PlanOf c (step_with c r) es (Err Crowded)
    unfolding step_with refused
    plan_crowded es l =
        rw (crowds ∙ le-leb (place_count c) (length_of_old c - n + (length_of_new c + 1)) l)
        refl

    module _ (l : length_of_old c - n + (length_of_new c + 1) < place_count c) where
      free : crowded c r ≡ false
      free = crowds ∙ lt-leb (place_count c) (length_of_old c - n + (length_of_new c + 1)) l

      -- where the due place holds other words
      pub plan_block : same (place c (due_place c)) ws ≡ false →
          PlanOf c (step_with c r) ws (Ok (record { start = place_at c (due_place c); count = length ws; written = written.Block }))
      unfolding step_with taken the_write
      plan_block e =
          let long : length ws ≡ block_size c = ap length a.block ∙ length_due_block_law c r in
          rw (free, next_write_law c r, some, ← a.block, e)
          (record {
            answer = record { number = refl; write = refl; freed = refl; finished = refl };
            start = refl;
            words = take-length ws;
            inside = rw long (place_inside c (due_place c) (shaped f) (due_inside c f));
          })

      module _ (p : Each Proper r) (e : same (place c (due_place c)) ws ≡ true) where
        abbrev es : List ℕ
        es = set ws 1 (get_or ws 2 0)

        -- the words are then the map entry's
        entry_words : take 2 es ≡ due_entry r
        unfolding due_entry due_block
        entry_words =
            let size : 3 ≤ block_size c = omega (arith, f.size_low) in
            let more : 0 < length r = omega (arith, eqb-false (length r) 0 some) in
            let two : 2 ≤ length ws = rw (a.block, length_due_block_law c r) (omega arith) in
            let b = block_first (block_size c) (due (block_size c) r) (proper_due (block_size c) r p) (due_some (block_size c) r size more) in
            first_two ws (get_or ws 2 0) two ∙ rw (a.block, b.0, b.1, due_first (block_size c) r size more)

        -- where the map entry holds other words
        pub plan_entry : same (entry c (due_place c)) (take 2 es) ≡ false →
            PlanOf c (step_with c r) es (Ok (record { start = entry_at c (due_place c); count = 2; written = written.MapEntry }))
        unfolding step_with taken the_write
        plan_entry t =
            let g : same (entry c (due_place c)) (due_entry r) ≡ false = rw entry_words at t in
            rw (free, next_write_law c r, some, ← a.block, e, g)
            (record {
              answer = record { number = refl; write = refl; freed = refl; finished = refl };
              start = refl;
              words = entry_words;
              inside = omega (arith, width_low (format c), entry_inside c (due_place c) (shaped f) (due_inside c f));
            })

        -- and where both stand
        pub plan_done : same (entry c (due_place c)) (take 2 es) ≡ true → (g : ℕ) → g ≡ length_of_new c + 1 → length es ≡ block_size c →
            PlanOf c (step_with c r) (put es (followed k d n g)) (Ok (settling d n))
        plan_done t g i l =
            let u : same (entry c (due_place c)) (due_entry r) ≡ true = rw entry_words at t in
            plan_settled g (i ∙ grown_some) free (next_write_law c r ∙ rw (some, ← a.block, e, u)) es l

-- what is planned on a sound card with a batch in order is its step
pub plan_step : (c b : List ℕ) → judged c ≡ 0 → batch_number b ≡ 0 → {before ws : List ℕ} {d : Due} {p : Result WritePlan Refusal} →
    Planned c before d ws p → Answers c (remains c b) before d → Each Proper (remains c b) → PlanOf c (step c b) ws p
plan_step c b j e g a p = rw (step_sound c b j e) (g.of (remains c b) p a)
