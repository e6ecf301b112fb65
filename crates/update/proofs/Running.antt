-- A run of old pairs that no record touches: the merge goes over them as they stand.
use Prim.Native.Nat.{ℕ, zero, suc, ◌+◌, ◌-◌, ◌≤◌, ◌<◌, zero-le}
use native.Mathlib.Omega.{arith}
use mathlib.Core.Path.{◌≡◌, refl, sym, ap, subst, ◌∙◌}
use mathlib.Core.Bool.{Bool, true, false, ◌&&◌}
use mathlib.Core.List.{List, [], ◌∷◌, ◌++◌, append_assoc}
use lib.ListN.{length, take, drop, get_or, length-take}
use lib.Seq.{get_or-take, get_or-drop, take-take}
use mathlib.Core.Logic.{◌⊎◌, inl, inr}
use lib.Dec.{leb}
use borrow.Author.Tests.{ne_eqb, le-ltb, leb-true, leb-false}
use Rattle.pair.specs.Rank.{rank, term, position, Words}
use Rattle.pair.specs.Rising.{keep, above, rising_from, last}
use Rattle.pair.proofs.Tests.{and_left, and_right, compared, contradiction}
use Rattle.pair.proofs.Rising.{rises_from, rising_head, rising_weaker, last_append}
use Rattle.pair.proofs.Parts.{above_further, above_all}
use Rattle.pair.proofs.Search.{at_most_out}
use Rattle.block.specs.Block.{formed_from}
use Rattle.block.proofs.Walk.{formed_run}
use Rattle.wanted.specs.code.Wanted.{UpTo}
use Rattle.card.specs.Layout.{live}
use Rattle.card.proofs.Facts.{Facts}
use Rattle.card.proofs.Live.{live_rising}
use Rattle.batch.specs.Batch.{Update, updates, any_update, adds, withdrawn}
use Rattle.batch.specs.declared.Cursor.{Cursor}
use Rattle.batch.specs.code.Search.{lesser, least_added, Follows}
use Rattle.batch.proofs.Behind.{Untouched, untouched_stays_law}
use Rattle.batch.proofs.Decisions.{follows_later}
use Rattle.batch.proofs.Merge.{first_above, first_above_with_added, applied_turn, least_added_adds, lesser_right}
use Rattle.update.specs.declared.merge.Merge.{Merge}
use Rattle.update.specs.declared.old.OldCursor.{OldCursor}
use Rattle.update.specs.code.Merge.{Merges, left, run_at, place_on, place_along, Runs}
use Rattle.update.specs.code.Old.{rest, coming, pending, Stands, Advanced, position_on, along}
use Rattle.update.proofs.Cursor.{positions_room, position_some, advanced_position}

-- the cursor n positions further, field by field
pub along_some : (c : List ℕ) (o : OldCursor) (n : ℕ) → 0 < n →
    along c o n
    ≡ record {
      place = o.place;
      places = o.places;
      at = o.at + n;
      end = o.end;
      term = o.term;
      count = o.count - n;
      rank = rank o.term (get_or c (o.at + n - 1) 0);
    }
unfolding along
along_some c o zero h = absurd (omega arith)
along_some c o (suc zero) h = let e : o.at + 1 - 1 ≡ o.at = omega arith in rw e
along_some c o (suc (suc n)) h =
    let a : o.at + suc n + 1 ≡ o.at + suc (suc n) = omega arith in
    let b : o.count - suc n - 1 ≡ o.count - suc (suc n) = omega arith in
    let d : o.at + suc n ≡ o.at + suc (suc n) - 1 = omega arith in
    ap (position_on c) (along_some c o (suc n) (omega arith)) ∙ next a b d
  where
    next : {i j k : ℕ} → o.at + suc n + 1 ≡ i → o.count - suc n - 1 ≡ j → o.at + suc n ≡ k →
        position_on c (record {
          place = o.place;
          places = o.places;
          at = o.at + suc n;
          end = o.end;
          term = o.term;
          count = o.count - suc n;
          rank = rank o.term (get_or c (o.at + suc n - 1) 0);
        })
        ≡ record { place = o.place; places = o.places; at = i; end = o.end; term = o.term; count = j; rank = rank o.term (get_or c k 0) }
    next a b d = rw (← a, ← b, ← d)

above_itself : (k : ℕ) (xs : List ℕ) → rising_from k xs ≡ true → above k (k ∷ xs) ≡ xs
unfolding above keep
above_itself k xs r = rw (le-ltb k k (omega arith)) (above_all xs k k (omega arith) r)

-- with the old pair in hand passed, those to come are the live pairs above it
live_coming : {c b : List ℕ} {m : Merge} → Merges c b m → m.old.rank ≡ m.rank → 0 < m.rank → above m.rank (live c) ≡ coming c m.old
live_coming {c} {b} {m} g hand h =
    let o = m.old in
    let in_hand : pending c o ≡ o.rank ∷ coming c o = unfold pending in rw (ne_eqb o.rank 0 (omega (arith, hand))) in
    g.olds ∙ ap (above m.rank) in_hand ∙ subst (λ k. above k (o.rank ∷ coming c o) ≡ coming c o) hand (above_itself o.rank (coming c o) g.stands.rising)

-- the next old pair, where none is added up to it and it is not withdrawn
module _ {c b : List ℕ} {m : Merge} {o : OldCursor} (f : Facts c) (g : Merges c b m) (hand : m.old.rank ≡ m.rank) (h : 0 < m.rank) (advanced : Advanced c m.old o) (some : 0 < o.rank) where
  abbrev us : List Update
  us = updates b

  to_come : coming c m.old ≡ o.rank ∷ coming c o
  to_come = sym advanced.next ∙ (unfold pending in rw (ne_eqb o.rank 0 (omega arith)))

  pub one_above : m.rank < o.rank
  one_above = rising_head o.rank (coming c o) m.rank (rw (← hand, ← to_come) g.stands.rising)

  old_first : first_above m.rank (live c) ≡ o.rank
  old_first = unfold first_above in ap (λ l. get_or l 0 0) (live_coming g hand h ∙ to_come)

  pub one_left : ((y : ℕ) → m.rank < y → y ≤ o.rank → any_update (adds y) us ≡ false) → withdrawn us o.rank ≡ false → left c b m.rank ≡ o.rank ∷ left c b o.rank
  one_left absent kept =
      applied_turn m.rank o.rank us (live c) (rises_from (live c) 0 (live_rising c f)) (first_above_with_added m.rank us (live c) ∙ rw old_first least) some
      ∙ rw kept
    where
      a : ℕ
      a = least_added m.rank us

      least : lesser a o.rank ≡ o.rank
      least = go (least_added_adds us m.rank) (compared a o.rank)
        where
          none : m.rank < a → a ≤ o.rank → any_update (adds a) us ≡ true → ⊥
          none l z e = contradiction (any_update (adds a) us) e (absent a l z)

          go : (a ≡ 0) ⊎ ((m.rank < a) × (any_update (adds a) us ≡ true)) → (a < o.rank) ⊎ ((a ≡ o.rank) ⊎ (o.rank < a)) → lesser a o.rank ≡ o.rank
          go (inl z) q = unfold lesser in rw z
          go (inr (l, e)) (inl q) = absurd (none l (omega arith) e)
          go (inr (l, e)) (inr (inl q)) = absurd (none l (omega arith) e)
          go (inr (l, e)) (inr (inr q)) = lesser_right a o.rank some (omega arith)

  pub one_merges : {d : Cursor} → Follows b o.rank d → Merges c b (record { rank = o.rank; old = o; addition = m.addition; decisions = d })
  one_merges d =
      record {
        stands = advanced.stands;
        olds = sym (above_further m.rank o.rank (live c) (omega (arith, one_above))) ∙ ap (above o.rank) (live_coming g hand h ∙ sym advanced.next);
        adds = λ j l. g.adds j (omega (arith, one_above));
        decides = d;
      }

-- the places along the entry
pub place_along_some : (c : List ℕ) (m : Merge) (n : ℕ) → 0 < n →
    place_along c m n ≡ record { rank = (along c m.old n).rank; old = along c m.old n; addition = m.addition; decisions = m.decisions }
unfolding place_along along
place_along_some c m zero h = absurd (omega arith)
place_along_some c m (suc zero) h = refl
place_along_some c m (suc (suc n)) h = ap (place_on c) (place_along_some c m (suc n) (omega arith))

run_more : (c : List ℕ) (t at n : ℕ) → run_at c t at (suc n) ≡ run_at c t at n ++ rank t (get_or c (at + n) 0) ∷ []
unfolding run_at
run_more c t at zero = let e : at + 0 ≡ at = omega arith in rw e
run_more c t at (suc n) = let e : at + 1 + n ≡ at + suc n = omega arith in ap (λ l. rank t (get_or c at 0) ∷ l) (run_more c t (at + 1) n ∙ rw e)

pub last_run : (c : List ℕ) (x t at n : ℕ) → 0 < n → last x (run_at c t at n) ≡ rank t (get_or c (at + n - 1) 0)
unfolding last
last_run c x t at zero h = absurd (omega arith)
last_run c x t at (suc n) h =
    let e : at + suc n - 1 ≡ at + n = omega arith in
    rw (e, run_more c t at n) (last_append (run_at c t at n) (rank t (get_or c (at + n) 0) ∷ []) x)

-- where the place stands n positions further
pub record Stays (m p : Merge) (n : ℕ) : Type 0 where
  pub term : p.old.term ≡ m.old.term
  pub at : p.old.at ≡ m.old.at + n
  pub count : p.old.count + n ≡ m.old.count
  pub hand : p.old.rank ≡ p.rank
  pub above : m.rank ≤ p.rank

module _ {c b : List ℕ} {m : Merge} (f : Facts c) (w : Words c) (g : Merges c b m) (hand : m.old.rank ≡ m.rank) (h : 0 < m.rank) (t : term m.rank ≡ m.old.term) (z : ℕ)
    (u : (y : ℕ) → m.rank < y → term y ≡ term m.rank → position y ≤ z → Untouched (updates b) y) where
  -- n positions that are at most z
  pub going : (n : ℕ) → n ≤ m.old.count → ((j : ℕ) → j < n → get_or c (m.old.at + j) 0 ≤ z) → Runs c b m n × Stays m (place_along c m n) n
  unfolding place_along run_at
  going zero l q = (
    record { inside = l; same_term = λ i. t; pairs = refl; merges = g },
    record { term = refl; at = omega arith; count = omega arith; hand = hand; above = omega arith },
  )
  going (suc n) l q = next (going n (omega arith) (λ j i. q j (omega arith)))
    where
      p : Merge
      p = place_along c m n

      here : ℕ
      here = get_or c (m.old.at + n) 0

      run : List ℕ
      run = run_at c m.old.term m.old.at n

      next : Runs c b m n × Stays m p n → Runs c b m (suc n) × Stays m (place_on c p) (suc n)
      next (r, s) = (
        record {
          inside = l;
          same_term = λ i. t;
          pairs =
              r.pairs ∙ ap (λ (l : List ℕ). run ++ l) (one_left f r.merges s.hand low further some (λ y i k. (free y i k).absent) (untouched_stays_law (free _ above (omega arith))))
              ∙ sym (append_assoc run ((place_on c p).rank ∷ []) (left c b (place_on c p).rank))
              ∙ ap (λ (l : List ℕ). l ++ left c b (place_on c p).rank) (ap (λ k. run ++ k ∷ []) is ∙ sym (run_more c m.old.term m.old.at n));
          merges = one_merges f r.merges s.hand low further some (follows_later r.merges.decides (omega (arith, above)));
        },
        record {
          term = s.term;
          at = omega (arith, s.at);
          count = omega (arith, s.count, more);
          hand = refl;
          above = omega (arith, s.above, above);
        },
      )
        where
          more : 0 < p.old.count
          more = omega (arith, s.count)

          low : 0 < p.rank
          low = omega (arith, s.above)

          further : Advanced c p.old (position_on c p.old)
          further = advanced_position r.merges.stands more

          some : 0 < (position_on c p.old).rank
          some = position_some r.merges.stands more

          above : p.rank < (position_on c p.old).rank
          above = one_above f r.merges s.hand low further some

          is : (position_on c p.old).rank ≡ rank m.old.term here
          is = rw (s.term, s.at)

          free : (y : ℕ) → p.rank < y → y ≤ (position_on c p.old).rank → Untouched (updates b) y
          free y i k =
              let top : y ≤ rank m.old.term here = rw is at k in
              let word : here < 4294967296 = unfold Words in w (m.old.at + n) in
              let most : here ≤ z = q n (omega arith) in
              u y (omega (arith, s.above)) (omega (arith, s.above, t)) (omega (arith, s.above, t))

-- none where the pair in hand is none of the entry's
pub runs_none : {c b : List ℕ} {m : Merge} → Merges c b m → Runs c b m 0
unfolding place_along run_at
runs_none g = record { inside = zero-le; same_term = λ l. absurd (let z : ⊥ = omega arith in z); pairs = refl; merges = g }

-- the positions to come rise
pub positions_rise : {c : List ℕ} {o : OldCursor} → Stands c o → rising_from 0 (take o.count (drop o.at c)) ≡ true
positions_rise {c} {o} s =
    let ws = rest c o.at o.end in
    let p = s.reading.position in
    let e : ((leb o.count (length ws) && rising_from p (take o.count ws)) && formed_from (drop o.count ws) o.term 0 0) ≡ true
    = sym (formed_run ws o.count o.term p) ∙ s.reading.formed in
    let r : rising_from p (take o.count ws) ≡ true = and_right (leb o.count (length ws)) _ (and_left (leb o.count (length ws) && rising_from p (take o.count ws)) _ e) in
    rising_weaker (take o.count (drop o.at c)) 0 p zero-le (rw (take-take o.count (o.end - o.at) (drop o.at c) (omega (arith, positions_room s))) at r)

-- those up to z
pub runs_up_to : {c b : List ℕ} {m : Merge} → Facts c → Words c → Merges c b m → m.old.rank ≡ m.rank → 0 < m.rank → term m.rank ≡ m.old.term → (z n : ℕ) →
    ((y : ℕ) → m.rank < y → term y ≡ term m.rank → position y ≤ z → Untouched (updates b) y) →
    UpTo (take m.old.count (drop m.old.at c)) z n → Runs c b m n
runs_up_to {c} {b} {m} f w g hand h t z n u q = (going f w g hand h t z u n few low).0
  where
    ps : List ℕ
    ps = take m.old.count (drop m.old.at c)

    few : n ≤ m.old.count
    few = omega (arith, q.inside, length-take m.old.count (drop m.old.at c))

    low : (j : ℕ) → j < n → get_or c (m.old.at + j) 0 ≤ z
    low j l = go (leb (get_or ps j 0) z) refl
      where
        go : (s : Bool) → leb (get_or ps j 0) z ≡ s → get_or c (m.old.at + j) 0 ≤ z
        go true e =
            rw (← get_or-drop m.old.at c j 0, ← get_or-take m.old.count (drop m.old.at c) j 0 (omega (arith, few))) (leb-true (get_or ps j 0) z e)
        go false e =
            absurd (omega (arith, q.count (positions_rise g.stands), q.inside, at_most_out ps 0 j z (positions_rise g.stands) (omega (arith, q.inside)) (leb-false (get_or ps j 0) z e)))

-- its words are in the card
pub run_room : {c b : List ℕ} {m : Merge} → Merges c b m → m.old.at + m.old.count ≤ length c
run_room g = omega (arith, positions_room g.stands, g.stands.ends)
