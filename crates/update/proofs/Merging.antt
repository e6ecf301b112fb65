-- The merge: what is left above the pair in hand, one pair after the other.
use Prim.Native.Nat.{ℕ, ◌≤◌, ◌<◌}
use native.Mathlib.Omega.{arith}
use mathlib.Core.Path.{◌≡◌, refl, sym, ap, subst, ◌∙◌}
use mathlib.Core.Logic.{◌⊎◌, inl, inr}
use mathlib.Core.Bool.{Bool, true, false, cond, not, ◌&&◌}
use mathlib.Core.List.{List, [], ◌∷◌}
use lib.ListN.{length, drop, get_or}
use lib.Seq.{drop-drop}
use lib.Dec.{ltb, eqb}
use Rattle.std.specs.Option.{unwrap_or}
use Rattle.std.proofs.Common.{Option, Some, None, IfSome, min}
use borrow.Author.Tests.{eqb-true, eqb-false, ltb-true}
use Rattle.pair.specs.Rank.{rank}
use Rattle.pair.specs.Rising.{Each, above}
use Rattle.pair.proofs.Tests.{compared, and_right}
use Rattle.pair.proofs.Rising.{rises, rises_from}
use Rattle.pair.proofs.Parts.{above_further, rises_next, each_above}
use Rattle.card.specs.Layout.{boundary, live}
use Rattle.card.proofs.Facts.{Facts}
use Rattle.card.proofs.Live.{live_rising, live_above}
use Rattle.batch.specs.Batch.{Update, updates, applied, withdrawn, with_added, batch_number}
use Rattle.batch.specs.code.Rounds.{round_reaches}
use Rattle.batch.specs.code.Search.{lesser, least_added, adds_above, first_added, before_added, next_addition, decided}
use Rattle.batch.specs.declared.Addition.{Addition}
use Rattle.batch.specs.declared.Decision.{Decision}
use Rattle.batch.proofs.InOrder.{in_order}
use Rattle.batch.proofs.Meaning.{rises_with_added}
use Rattle.batch.proofs.Merge.{first_above, first_above_with_added, applied_turn, applied_end, lesser_none, lesser_left, lesser_right}
use Rattle.batch.proofs.Search.{falls_drop, first_added_least, least_added_before}
use Rattle.batch.proofs.Decisions.{follows_start, follows_next, follows_withdrawn}
use Rattle.update.specs.declared.merge.Merge.{Merge}
use Rattle.update.specs.declared.old.OldCursor.{OldCursor}
use Rattle.update.specs.code.Merge.{Merges, Begun, left, Reached, lesser_of}
use Rattle.update.specs.code.Old.{coming, pending, in_hand, Skipped}
use Rattle.update.proofs.Skipping.{before_first_coming}

pub merges_begun : {c b : List ℕ} {m : Merge} → Facts c → Begun c m → Merges c b m
merges_begun {c} {b} {m} f e =
    record {
      stands = e.old.stands;
      olds = rw e.bound (live_above c f ∙ sym (ap (above (boundary c)) (e.old.next ∙ before_first_coming c)));
      adds = λ j h. ap (λ (n : ℕ). least_added j (drop n (updates b))) (sym e.addition);
      decides = rw e.decisions (follows_start b m.rank);
    }

-- the pair in hand is the first of those from it on
first_pending : (c : List ℕ) (o : OldCursor) → get_or (pending c o) 0 0 ≡ o.rank
unfolding pending
first_pending c o = go (eqb o.rank 0) refl
  where
    go : (t : Bool) → eqb o.rank 0 ≡ t → get_or (cond t [] (o.rank ∷ coming c o)) 0 0 ≡ o.rank
    go true e = sym (eqb-true o.rank 0 e)
    go false e = refl

-- the lesser of two pairs, by numbers, where 0 stands for none
lesser_some : (a b : Option ℕ) (x : ℕ) → IfSome a (λ i. 0 < i) → IfSome b (λ i. 0 < i) → lesser_of a b ≡ Some x → (lesser (unwrap_or a 0) (unwrap_or b 0) ≡ x) × (0 < x)
unfolding lesser
lesser_some None b x h q e = (rw e, rw e at q)
lesser_some (Some y) None x h q e = (lesser_none y ∙ cc, let z : y ≡ x = cc in omega arith)
lesser_some (Some y) (Some z) x h q e = let m : min y z ≡ x = cc in go (compared y z) m
  where
    go : (y < z) ⊎ ((y ≡ z) ⊎ (z < y)) → min y z ≡ x → (lesser y z ≡ x) × (0 < x)
    go (inl l) m = (lesser_left y z h (omega arith) ∙ omega arith, omega arith)
    go (inr (inl l)) m = (lesser_left y z h (omega arith) ∙ omega arith, omega arith)
    go (inr (inr l)) m = (lesser_right y z q (omega arith) ∙ omega arith, omega arith)

lesser_end : (a b : Option ℕ) → lesser_of a b ≡ None → lesser (unwrap_or a 0) (unwrap_or b 0) ≡ 0
unfolding lesser
lesser_end None b e = rw e
lesser_end (Some y) None e = cc
lesser_end (Some y) (Some z) e = cc

-- the addition found and the old pair in hand are pairs
first_added_some : (us : List Update) (k : ℕ) → IfSome (first_added k us) (λ i. 0 < i)
unfolding first_added adds_above
first_added_some [] k = tt
first_added_some (u ∷ us) k = go (first_added_some us k) (eqb u.kind 1 && ltb k (rank u.term u.from)) refl
  where
    go : IfSome (first_added k us) (λ i. 0 < i) → (t : Bool) → eqb u.kind 1 && ltb k (rank u.term u.from) ≡ t →
        IfSome (cond t (Some (rank u.term u.from)) (first_added k us)) (λ i. 0 < i)
    go rest true e = omega (arith, ltb-true k (rank u.term u.from) (and_right (eqb u.kind 1) (ltb k (rank u.term u.from)) e))
    go rest false e = rest

in_hand_some : (o : OldCursor) → IfSome (in_hand o) (λ i. 0 < i)
unfolding in_hand
in_hand_some o = go (eqb o.rank 0) refl
  where
    go : (t : Bool) → eqb o.rank 0 ≡ t → IfSome (cond t None (Some o.rank)) (λ i. 0 < i)
    go true e = tt
    go false e = omega (arith, eqb-false o.rank 0 e)

in_hand_rank : (o : OldCursor) → unwrap_or (in_hand o) 0 ≡ o.rank
unfolding in_hand
in_hand_rank o = go (eqb o.rank 0) refl
  where
    go : (t : Bool) → eqb o.rank 0 ≡ t → unwrap_or (cond t None (Some o.rank)) 0 ≡ o.rank
    go true e = sym (eqb-true o.rank 0 e)
    go false e = refl

-- what a turn of the loop has found: the old cursor above the pair in hand, the addition, and the next pair, if there is one
pub record Turn (c b : List ℕ) (m : Merge) (q : OldCursor) (a : Addition) (r : Option ℕ) : Type 0 where
  pub sound : Facts c
  pub in_order : batch_number b ≡ 0
  pub skipped : Skipped c m.old m.rank q
  pub addition : a ≡ next_addition b m.addition m.rank
  pub pair : r ≡ lesser_of a.rank (in_hand q)

module _ {c b : List ℕ} {m : Merge} {q : OldCursor} {a : Addition} {r : Option ℕ} (g : Merges c b m) (t : Turn c b m q a r) where
  old_first : first_above m.rank (live c) ≡ unwrap_or (in_hand q) 0
  old_first = unfold first_above in ap (λ l. get_or l 0 0) (g.olds ∙ sym t.skipped.next) ∙ first_pending c q ∙ sym (in_hand_rank q)

  added_first : least_added m.rank (updates b) ≡ unwrap_or a.rank 0
  unfolding next_addition
  added_first =
      let us = drop m.addition (updates b) in
      let o = falls_drop m.addition (updates b) 0 (in_order b t.in_order).ordered in
      g.adds m.rank (omega arith) ∙ rw t.addition (sym (first_added_least us 0 m.rank o))

  added_some : IfSome a.rank (λ i. 0 < i)
  unfolding next_addition
  added_some = rw t.addition (first_added_some (drop m.addition (updates b)) m.rank)

  first : first_above m.rank (with_added (updates b) (live c)) ≡ lesser (unwrap_or a.rank 0) (unwrap_or (in_hand q) 0)
  first = first_above_with_added m.rank (updates b) (live c) ∙ rw (old_first, added_first)

  live_rises : rises (live c) ≡ true
  live_rises = rises_from (live c) 0 (live_rising c t.sound)

  -- no pair is left
  pub turn_end : r ≡ None → left c b m.rank ≡ []
  turn_end n = applied_end m.rank (updates b) (live c) (first ∙ lesser_end a.rank (in_hand q) (sym t.pair ∙ n))

  module _ (x : ℕ) (e : r ≡ Some x) where
    found : (lesser (unwrap_or a.rank 0) (unwrap_or (in_hand q) 0) ≡ x) × (0 < x)
    found = lesser_some a.rank (in_hand q) x added_some (in_hand_some q) (sym t.pair ∙ e)

    some : 0 < x
    some = found.1

    firsts : first_above m.rank (with_added (updates b) (live c)) ≡ x
    firsts = first ∙ found.0

    -- what is left starts with the next pair, unless it is withdrawn
    turn_left : left c b m.rank ≡ cond (not (withdrawn (updates b) x)) (x ∷ left c b x) (left c b x)
    turn_left = applied_turn m.rank x (updates b) (live c) live_rises firsts (omega (arith, some))

    -- the pairs of the set with the added ones start with it too
    rest_next : above m.rank (with_added (updates b) (live c)) ≡ x ∷ above x (with_added (updates b) (live c))
    rest_next = go (above m.rank (with_added (updates b) (live c))) refl (unfold first_above in firsts)
      where
        go : (ys : List ℕ) → above m.rank (with_added (updates b) (live c)) ≡ ys → get_or ys 0 0 ≡ x → ys ≡ x ∷ above x (with_added (updates b) (live c))
        go [] e h = absurd (omega (arith, some))
        go (y ∷ ys) e h = rw (sym (rises_next (with_added (updates b) (live c)) m.rank y ys (rises_with_added (updates b) (live c) live_rises) e)) (rw h refl)

    next_above : m.rank < x
    next_above = (rw rest_next at (each_above m.rank (with_added (updates b) (live c)))).0

    -- the measure falls
    pub turn_less : length (above x (with_added (updates b) (live c))) < length (above m.rank (with_added (updates b) (live c)))
    turn_less = rw rest_next (omega arith)

    -- what is decided of it, and the place at it
    module _ (d : Decision) (f : d ≡ decided b (round_reaches (updates b)) m.decisions x) where
      decides : d.withdrawn ≡ withdrawn (updates b) x
      decides = rw f (follows_withdrawn g.decides t.in_order x (omega (arith, next_above)) (omega (arith, some)))

      pub turn_kept : d.withdrawn ≡ false → left c b m.rank ≡ x ∷ left c b x
      turn_kept z = turn_left ∙ rw (sym decides ∙ z)

      pub turn_withdrawn : d.withdrawn ≡ true → left c b m.rank ≡ left c b x
      turn_withdrawn z = turn_left ∙ rw (sym decides ∙ z)

      pub turn_merges : Merges c b (record { rank = x; old = q; addition = a.at; decisions = d.cursor })
      unfolding next_addition
      turn_merges =
          record {
            stands = t.skipped.stands;
            olds = sym (above_further m.rank x (live c) (omega (arith, next_above))) ∙ ap (above x) (g.olds ∙ sym t.skipped.next);
            adds = λ j h. further j (omega (arith, next_above));
            decides = rw f (follows_next g.decides (round_reaches (updates b)) x (omega (arith, next_above)));
          }
        where
          -- no further record is passed over than adds nothing above the pair in hand
          further : (j : ℕ) → m.rank ≤ j → least_added j (updates b) ≡ least_added j (drop a.at (updates b))
          further j h =
              let us = drop m.addition (updates b) in
              rw t.addition (g.adds j h ∙ least_added_before us m.rank j h ∙ ap (least_added j) (drop-drop (before_added m.rank us) m.addition (updates b)))

-- the next pair is above
pub reached_above : {c b : List ℕ} {k : ℕ} {m : Merge} → Reached c b k m → k < m.rank
reached_above {c} {b} {k} {m} r = (subst (Each (λ i. k < i)) r.next (each_above k (applied (updates b) (live c)))).0
