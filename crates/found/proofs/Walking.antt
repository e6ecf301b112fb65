-- The walk over the blocks that a lookup reads: what is ahead of it, block by block.
use Prim.Native.Nat.{ℕ, suc, ◌+◌, ◌-◌, ◌%◌, ◌≤◌, ◌<◌, zero-le}
use native.Mathlib.Nat.{mod-eq_of_lt, mod-lt}
use native.Mathlib.Omega.{arith}
use mathlib.Core.Path.{◌≡◌, refl, sym, ap, ◌∙◌}
use mathlib.Core.Bool.{Bool, true}
use mathlib.Core.List.{List, [], ◌∷◌, ◌++◌, map, map-append, append_assoc, append-nil}
use borrow.Author.Tests.{ne_eqb}
use lib.ListN.{length, take, drop, length-take, length-drop, length-append, length-map}
use lib.Seq.{drop-drop}
use Rattle.pair.specs.Rank.{position}
use Rattle.pair.specs.Rising.{keep}
use Rattle.pair.proofs.Keep.{keep_append}
use Rattle.block.specs.Block.{pairs, formed}
use Rattle.wanted.specs.code.Wanted.{is_wanted, BlockPart}
use Rattle.wanted.specs.declared.Part.{Part}
use Rattle.wanted.proofs.Seeking.{take_part}
use Rattle.pair.proofs.Lists.{length_part}
use Rattle.card.specs.Layout.{block_size, place_count, place_at, place, around, pairs_at}
use Rattle.card.specs.code.Configuration.{ConfigurationOf, place_on}
use Rattle.card.specs.declared.layout.Configuration.{Configuration}
use Rattle.card.proofs.Circle.{around_mod}
use Rattle.card.proofs.Live.{pairs_at_append}
use Rattle.found.specs.declared.walk.Stretch.{Stretch}
use Rattle.found.specs.declared.walk.Walk.{Walk}
use Rattle.found.specs.code.Walk.{PlacePart, postings, at_first, places_of, ahead_of, ahead, next_run, next_start, blocks_of, Ready, FirstPlace, FirstRun, ReadyWalk, NextRun}

-- what a block answers, said of the card: nothing,
pub place_none : {c : List ℕ} {i t a z : ℕ} {r : Part} → BlockPart (place c i) t a z r → r.len ≡ 0 → PlacePart c i t a z (record { start = 0; len = 0 })
place_none p e =
    record {
      inside = zero-le;
      positions = λ f. rw e at (p.positions f);
      before = λ f l. absurd (let z : ⊥ = omega arith in z);
    }

-- or something, which lies in the card.
pub part_inside : (c : List ℕ) (i : ℕ) {t a z : ℕ} {r : Part} → BlockPart (place c i) t a z r → (r.len ≡ 0 → ⊥) → place_at c i + r.start + r.len ≤ length c
part_inside c i p h =
    omega (arith, p.inside, long)
  where
    long : length (place c i) ≤ length c - place_at c i
    long = unfold place in simp (length-take, length-drop) (omega arith)

pub place_some :
    {c : List ℕ} {i t a z : ℕ} {r : Part} → BlockPart (place c i) t a z r → (r.len ≡ 0 → ⊥) →
    PlacePart c i t a z (record { start = place_at c i + r.start; len = r.len })
place_some {c} {i} {t} {a} {z} {r} p h =
    record {
      inside = part_inside c i p h;
      positions = λ f. rw (← drop-drop r.start (place_at c i) c)
          (sym (take_part (drop (place_at c i) c) r.start r.len (block_size c) (omega (arith, p.inside, long))) ∙ whole f);
      before = λ f l. ap (λ n. place_at c i + n) (p.before f l);
    }
  where
    long : length (place c i) ≤ block_size c
    long = unfold place in rw length-take (omega arith)

    whole : formed (place c i) ≡ true → take r.len (drop r.start (take (block_size c) (drop (place_at c i) c))) ≡ map position (keep (is_wanted t a z) (pairs (place c i)))
    whole f = unfold place in p.positions f

map_nil : (f : ℕ → ℕ) (xs : List ℕ) → map f xs ≡ [] → xs ≡ []
map_nil f [] e = refl
map_nil f (x ∷ xs) e = absurd (let l : suc (length (map f xs)) ≡ 0 = ap length e in omega arith)

append_empty : (xs ys : List ℕ) → xs ++ ys ≡ [] → (xs ≡ []) × (ys ≡ [])
append_empty [] ys e = (refl, e)
append_empty (x ∷ xs) ys e = absurd (let l : suc (length (xs ++ ys)) ≡ 0 = ap length e in omega arith)

postings_cons : (c : List ℕ) (f : ℕ → Bool) (i : ℕ) (is : List ℕ) → postings c f (i ∷ is) ≡ map position (keep f (pairs (place c i))) ++ postings c f is
unfolding postings pairs_at
postings_cons c f i is =
    ap (map position) (keep_append f (pairs (place c i)) (pairs_at c is)) ∙ map-append _ (keep f (pairs (place c i))) (keep f (pairs_at c is))

pub postings_none : (c : List ℕ) (f : ℕ → Bool) → postings c f [] ≡ []
unfolding postings pairs_at keep
postings_none c f = refl

pub postings_append : (c : List ℕ) (f : ℕ → Bool) (is js : List ℕ) → postings c f (is ++ js) ≡ postings c f is ++ postings c f js
unfolding postings
postings_append c f is js =
    ap (λ ps. map position (keep f ps)) (pairs_at_append c is js) ∙ ap (map position) (keep_append f (pairs_at c is) (pairs_at c js))
    ∙ map-append _ (keep f (pairs_at c is)) (keep f (pairs_at c js))

-- what the first of the places has where some pair passes the test
module _ {A : Type 0} (c : List ℕ) (f : ℕ → Bool) (has : ℕ → A) where
  abbrev kept : ℕ → List ℕ
  kept i = keep f (pairs (place c i))

  first_skip : (i : ℕ) (is : List ℕ) (none : A) → kept i ≡ [] → at_first c f has (i ∷ is) none ≡ at_first c f has is none
  unfolding at_first
  first_skip i is none e = rw (e, at_first)

  first_hit : (i : ℕ) (is : List ℕ) (none : A) → 0 < length (kept i) → at_first c f has (i ∷ is) none ≡ has i
  unfolding at_first
  first_hit i is none h = go (kept i) h
    where
      go : (ks : List ℕ) → 0 < length ks → elim ks [ [] ↦ at_first c f has is none | x ∷ xs ↦ has i ] ≡ has i
      go [] l = absurd (omega arith)
      go (x ∷ xs) l = refl

  pub first_append : (is js : List ℕ) (none : A) → at_first c f has (is ++ js) none ≡ at_first c f has is (at_first c f has js none)
  unfolding at_first
  first_append [] js none = refl
  first_append (i ∷ is) js none = ap (λ (r : A). elim (kept i) [ [] ↦ r | x ∷ xs ↦ has i ]) (first_append is js none)

  -- where no pair passes, it is that of no place; where one does, that plays no part
  pub first_none : (is : List ℕ) (none : A) → keep f (pairs_at c is) ≡ [] → at_first c f has is none ≡ none
  first_none [] none e = unfold at_first in refl
  first_none (i ∷ is) none e = first_skip i is none both.0 ∙ first_none is none both.1
    where
      both : (kept i ≡ []) × (keep f (pairs_at c is) ≡ [])
      both = append_empty (kept i) (keep f (pairs_at c is)) (unfold pairs_at in (sym (keep_append f (pairs (place c i)) (pairs_at c is)) ∙ e))

-- one place of a stretch after another
places_step : (n p b : ℕ) → p < n → around n p (suc b) ≡ p ∷ around n ((p + 1) % n) b
unfolding around
places_step n p b l = rw (mod-eq_of_lt l, around_mod n (p + 1) b)

-- a stretch without blocks
pub spent_ready : (c : List ℕ) (s : Stretch) → s.blocks ≡ 0 → Ready c s
unfolding around
spent_ready c s e =
    record {
      shape = λ l. absurd (let z : ⊥ = omega arith in z);
      within = λ l. absurd (let z : ⊥ = omega arith in z);
      live = rw e tt;
    }

pub spent_ahead : (c : List ℕ) (t z : ℕ) (s : Stretch) → s.blocks ≡ 0 → ahead_of c t z s ≡ []
spent_ahead c t z s e = rw e (unfold around in postings_none c (is_wanted t s.after z))

-- the first place of a stretch is left behind
pub first_place :
    {c : List ℕ} {s : Stretch} {k : Configuration} {q b : ℕ} → ConfigurationOf c k → b + 1 ≡ s.blocks → q ≡ place_on k.places s.place 1 →
    FirstPlace c s s.place (record { place = q; blocks = b; after = s.after })
unfolding place_on
first_place {c} {s} {k} {q} {b} o h e =
    record {
      fewer = omega arith;
      after = refl;
      places = step;
      ready = λ r.
          record {
            shape = λ l. r.shape (omega arith);
            within = λ l. rw (on r) (mod-lt (s.place + 1) (omega (arith, (r.shape (omega arith)).count_low)));
            live = (rw (step r) at r.live).1;
          };
    }
  where
    on : Ready c s → q ≡ (s.place + 1) % place_count c
    on r =
        let shape = r.shape (omega arith) in
        let n : k.places ≡ place_count c = omega (arith, o.of_places, shape.count_high) in
        e ∙ rw (n, ne_eqb (place_count c) 0 (omega (arith, shape.count_low)))

    step : Ready c s → places_of c s ≡ s.place ∷ around (place_count c) q b
    step r =
        let n : s.blocks ≡ suc b = omega arith in
        rw (n, on r) (places_step (place_count c) s.place b (r.within (omega arith)))

-- the places before those of the stretch now hold nothing wanted
pub record Seeking (c : List ℕ) (t z : ℕ) (s now : Stretch) : Type 0 where
  pub most : now.blocks ≤ s.blocks
  pub after : now.after ≡ s.after
  pub ready : Ready c s → Ready c now
  pub before : List ℕ
  pub places : Ready c s → places_of c s ≡ before ++ places_of c now
  pub none : Ready c s → postings c (is_wanted t s.after z) before ≡ []

pub seeking_start : (c : List ℕ) (t z : ℕ) (s : Stretch) → Seeking c t z s s
seeking_start c t z s =
    record { most = omega arith; after = refl; ready = λ r. r; before = []; places = λ r. refl; none = λ r. postings_none c (is_wanted t s.after z) }

-- no block is left
pub seeking_end : {c : List ℕ} {t z : ℕ} {s now : Stretch} → Seeking c t z s now → now.blocks ≡ 0 → Ready c s → ahead_of c t z s ≡ []
seeking_end {c} {t} {z} {s} {now} g e r =
    let f = is_wanted t s.after z in
    ap (postings c f) (g.places r) ∙ postings_append c f g.before (places_of c now)
    ∙ rw (g.none r, ← g.after) (spent_ahead c t z now e)

-- the block at a place is read
module _ {c : List ℕ} {t z : ℕ} {s now rest : Stretch} {p : ℕ} {x : Part} (g : Seeking c t z s now) (h : FirstPlace c now p rest) (y : PlacePart c p t rest.after z x) where
  live : Ready c s → formed (place c p) ≡ true
  live r = (rw (h.places (g.ready r)) at (g.ready r).live).0

  has_part : Ready c s → take x.len (drop x.start c) ≡ map position (keep (is_wanted t s.after z) (pairs (place c p)))
  has_part r = rw (h.after ∙ g.after) at y.positions (live r)

  all_places : Ready c s → places_of c s ≡ g.before ++ (p ∷ places_of c rest)
  all_places r = g.places r ∙ ap (λ l. g.before ++ l) (h.places (g.ready r))

  -- it has nothing wanted
  pub seeking_turn : x.len ≤ 0 → Seeking c t z s rest
  seeking_turn l =
      record {
        most = omega (arith, g.most, h.fewer);
        after = h.after ∙ g.after;
        ready = λ r. h.ready (g.ready r);
        before = g.before ++ (p ∷ []);
        places = λ r. all_places r ∙ sym (append_assoc g.before (p ∷ []) (places_of c rest));
        none = λ r.
            let f = is_wanted t s.after z in
            let n : x.len ≡ 0 = omega arith in
            postings_append c f g.before (p ∷ []) ∙ rw (g.none r, postings_cons c f p [], ← has_part r, n) (postings_none c f);
      }

  -- it has the run
  pub seeking_hit : 0 < x.len → FirstRun c t z s x rest
  seeking_hit l =
      record {
        inside = y.inside;
        some = l;
        fewer = omega (arith, g.most, h.fewer);
        ready = λ r. h.ready (g.ready r);
        run = λ r none. has_part r ∙ sym (first _ r none);
        starts = λ r none. rw (h.after ∙ g.after) at (y.before (live r) l) ∙ sym (first _ r none);
        rest = λ r.
            let f = is_wanted t s.after z in
            ap (postings c f) (all_places r) ∙ postings_append c f g.before (p ∷ places_of c rest)
            ∙ rw (g.none r, h.after ∙ g.after, has_part r) (postings_cons c f p (places_of c rest));
      }
    where
      some : Ready c s → 0 < length (keep (is_wanted t s.after z) (pairs (place c p)))
      some r =
          let kept = keep (is_wanted t s.after z) (pairs (place c p)) in
          let e : length (take x.len (drop x.start c)) ≡ length kept = ap length (has_part r) ∙ length-map kept position in
          let m = length_part c x.start x.len y.inside in
          omega arith

      first : {A : Type 0} (has : ℕ → A) → Ready c s → (none : A) → at_first c (is_wanted t s.after z) has (places_of c s) none ≡ has p
      first has r none =
          let f = is_wanted t s.after z in
          ap (λ is. at_first c f has is none) (all_places r) ∙ first_append c f has g.before (p ∷ places_of c rest) none
          ∙ first_none c f has g.before _ (map_nil position _ (unfold postings in g.none r)) ∙ first_hit c f has p (places_of c rest) none (some r)

-- where nothing is ahead of a stretch, its first run is whatever stands for none
pub stretch_none : {A : Type 0} (c : List ℕ) (t z : ℕ) (s : Stretch) (has : ℕ → A) (none : A) → ahead_of c t z s ≡ [] → at_first c (is_wanted t s.after z) has (places_of c s) none ≡ none
stretch_none c t z s has none e = first_none c (is_wanted t s.after z) has (places_of c s) none (map_nil position _ (unfold postings in e))

-- of two stretches, the first that has a run
pub next_new :
    {c : List ℕ} {w : Walk} {x : Part} {new : Stretch} → FirstRun c w.term w.to w.new x new →
    NextRun c w x (record { term = w.term; to = w.to; new = new; old = w.old })
next_new {c} {w} {x} {new} s =
    record {
      inside = s.inside;
      some = s.some;
      fewer = omega (arith, s.fewer);
      ready = λ g. record { new = s.ready g.new; old = g.old };
      run = λ g. s.run g.new _;
      starts = λ g. s.starts g.new _;
      rest = λ g.
          ap (λ l. l ++ ahead_of c w.term w.to w.old) (s.rest g.new)
          ∙ append_assoc (take x.len (drop x.start c)) (ahead_of c w.term w.to new) (ahead_of c w.term w.to w.old);
    }

pub next_old :
    {c : List ℕ} {w : Walk} {x : Part} {new old : Stretch} → (Ready c w.new → ahead_of c w.term w.to w.new ≡ []) → new.blocks ≡ 0 →
    FirstRun c w.term w.to w.old x old → NextRun c w x (record { term = w.term; to = w.to; new = new; old = old })
next_old {c} {w} {x} {new} {old} n e s =
    record {
      inside = s.inside;
      some = s.some;
      fewer = omega (arith, s.fewer);
      ready = λ g. record { new = spent_ready c new e; old = s.ready g.old };
      run = λ g. s.run g.old [] ∙ sym (stretch_none c w.term w.to w.new _ _ (n g.new));
      starts = λ g. s.starts g.old 0 ∙ sym (stretch_none c w.term w.to w.new _ _ (n g.new));
      rest = λ g. rw (n g.new, spent_ahead c w.term w.to new e) (s.rest g.old);
    }

-- nothing is ahead of a walk: it has no next run
pub no_next_run : (c : List ℕ) (w : Walk) → ahead c w ≡ [] → (next_run c w ≡ []) × (next_start c w ≡ 0)
no_next_run c w e =
    let both = append_empty (ahead_of c w.term w.to w.new) (ahead_of c w.term w.to w.old) e in (
      stretch_none c w.term w.to w.new _ _ both.0 ∙ stretch_none c w.term w.to w.old _ _ both.1,
      stretch_none c w.term w.to w.new _ _ both.0 ∙ stretch_none c w.term w.to w.old _ _ both.1,
    )

-- a walk that has no blocks
pub spent_walk_ready : (c : List ℕ) (w : Walk) → blocks_of w ≡ 0 → ReadyWalk c w
spent_walk_ready c w e = record { new = spent_ready c w.new (omega arith); old = spent_ready c w.old (omega arith) }

pub spent_walk_ahead : (c : List ℕ) (w : Walk) → blocks_of w ≡ 0 → ahead c w ≡ []
spent_walk_ahead c w e = rw (spent_ahead c w.term w.to w.new (omega arith), spent_ahead c w.term w.to w.old (omega arith))

-- n positions of the stretch s are left behind, and the others are those of the stretch now
pub record Taking (c : List ℕ) (t z : ℕ) (s now : Stretch) (n : ℕ) : Type 0 where
  pub ready : Ready c now
  pub done : List ℕ
  pub all : ahead_of c t z s ≡ done ++ ahead_of c t z now
  pub count : n ≡ length done

unfoldable pub taking_start : {c : List ℕ} {t z : ℕ} {s : Stretch} → Ready c s → Taking c t z s s 0
taking_start r = record { ready = r; done = []; all = refl; count = refl }

-- The first block of a stretch is read: what is ahead is its part and what is ahead behind it.
module _ {c : List ℕ} {t z : ℕ} {now rest : Stretch} {p : ℕ} {x : Part} (r : Ready c now) (h : FirstPlace c now p rest) (y : PlacePart c p t rest.after z x) where
  pub ready_behind : Ready c rest
  ready_behind = h.ready r

  pub ahead_part : ahead_of c t z now ≡ take x.len (drop x.start c) ++ ahead_of c t z rest
  ahead_part =
      let live : formed (place c p) ≡ true = (rw (h.places r) at r.live).0 in
      rw (← h.after, h.places r, y.positions live) (postings_cons c (is_wanted t rest.after z) p (places_of c rest))

module _ {c : List ℕ} {t z : ℕ} {s now rest : Stretch} {p n : ℕ} {x : Part} (g : Taking c t z s now n) (h : FirstPlace c now p rest) (y : PlacePart c p t rest.after z x) where
  pub all_part : ahead_of c t z s ≡ (g.done ++ take x.len (drop x.start c)) ++ ahead_of c t z rest
  all_part = g.all ∙ ap (λ l. g.done ++ l) (ahead_part g.ready h y) ∙ sym (append_assoc g.done (take x.len (drop x.start c)) (ahead_of c t z rest))

  pub count_part : length (g.done ++ take x.len (drop x.start c)) ≡ n + x.len
  count_part = length-append g.done (take x.len (drop x.start c)) ∙ rw (← g.count, length_part c x.start x.len y.inside)

  -- a block more
  unfoldable pub taking_turn : Taking c t z s rest (n + x.len)
  taking_turn =
      record { ready = ready_behind g.ready h y; done = g.done ++ take x.len (drop x.start c); all = all_part; count = sym count_part }

  pub taking_most : n + x.len ≤ length (ahead_of c t z s)
  taking_most =
      omega (arith, count_part, ap length all_part ∙ length-append (g.done ++ take x.len (drop x.start c)) (ahead_of c t z rest))

pub taking_end : {c : List ℕ} {t z : ℕ} {s now : Stretch} {n : ℕ} → (g : Taking c t z s now n) → now.blocks ≡ 0 → ahead_of c t z s ≡ g.done
taking_end {c} {t} {z} {s} {now} {n} g e = g.all ∙ rw (spent_ahead c t z now e) (append-nil g.done)
