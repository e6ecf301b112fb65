-- A removal whose from is above its to, taken out of a batch or put into one.
use Prim.Native.Nat.{ℕ, ◌+◌, ◌%◌, ◌<◌}
use native.Mathlib.Omega.{arith}
use mathlib.Core.Path.{◌≡◌, refl, sym, ◌∙◌}
use mathlib.Core.Bool.{Bool, true, false, ◌&&◌, ◌||◌, not, and-false}
use mathlib.Core.Logic.{◌≢◌}
use mathlib.Core.List.{List, [], ◌∷◌, ◌++◌}
use lib.ListN.{length, length-append}
use lib.Dec.{ltb, leb, eqb}
use borrow.Author.Tests.{ltb-false, le-ltb, lt-leb, leb-true, eq-eqb, ne_eqb}
use Rattle.pair.specs.Rank.{rank, position}
use Rattle.pair.specs.Rising.{any}
use Rattle.pair.specs.Tests.{first_of}
use Rattle.pair.proofs.Keep.{keep_same}
use Rattle.pair.proofs.Tests.{or_left, or_right, or_both}
use Rattle.repeat.specs.Repeats.{repeats}
use Rattle.repeat.proofs.Twice.{eqb_sym, exchange}
use Rattle.batch.specs.Batch.{Update, updates, covers, adds, removes, withdrawn, with_added, applied, ill_formed, falls, arrivals, ill_numbered, batch_number}
use Rattle.batch.specs.Claims.{EmptyRangeRemovesNothing, EmptyRangeTakenOut, EmptyRangePutIn}
use Rattle.batch.proofs.Any.{swap, any_with}
use Rattle.batch.proofs.Arriving.{latest_with_law}
use Rattle.batch.proofs.InOrder.{InOrder, in_order}
use Rattle.batch.proofs.Records.{updates_append}
use Rattle.batch.proofs.Search.{falls_lower}

-- what is no addition adds nothing
with_added_with : (us vs : List Update) (u : Update) (s : List ℕ) → u.kind ≢ 1 → with_added (us ++ u ∷ vs) s ≡ with_added (us ++ vs) s
unfolding with_added
with_added_with [] vs u s n = rw (ne_eqb u.kind 1 n)
with_added_with (w ∷ us) vs u s n = rw (with_added_with us vs u s n)

-- no pair, and no position, is in its range
covers_none : (r x : ℕ) (u : Update) → u.to < u.from → covers r x u ≡ false
covers_none r x u h = go (leb (rank u.term u.from) x) refl
  where
    go : (t : Bool) → leb (rank u.term u.from) x ≡ t → (eqb u.kind r && t && leb x (rank u.term u.to)) ≡ false
    go true e = rw (lt-leb x (rank u.term u.to) (omega (arith, leb-true (rank u.term u.from) x e)), and-false)
    go false e = rw (and-false (eqb u.kind r))

pub empty_range_removes_nothing : EmptyRangeRemovesNothing
unfolding EmptyRangeRemovesNothing applied withdrawn removes adds
empty_range_removes_nothing us vs u s n h = rw (with_added_with us vs u s n) (keep_same _ _ withdraws (with_added (us ++ vs) s))
  where
    withdraws : (x : ℕ) → not (withdrawn (us ++ u ∷ vs) x) ≡ not (withdrawn (us ++ vs) x)
    withdraws x = rw (latest_with_law (removes x) us vs u, latest_with_law (adds x) us vs u, covers_none 2 x u h, covers_none 3 (position x) u h, ne_eqb u.kind 1 n)

-- order is kept without an update
falls_without : (us vs : List Update) (u : Update) (k : ℕ) → falls k (us ++ u ∷ vs) ≡ false → falls k (us ++ vs) ≡ false
unfolding falls
falls_without [] vs u k e =
    let here = rank u.term u.from in
    falls_lower vs here k (ltb-false here k (or_left (ltb here k) (falls here vs) e)) (or_right (ltb here k) (falls here vs) e)
falls_without (w ∷ us) vs u k e =
    let here = rank w.term w.from in
    or_both (ltb here k) (falls here (us ++ vs)) (or_left (ltb here k) (falls here (us ++ u ∷ vs)) e)
    (falls_without us vs u here (or_right (ltb here k) (falls here (us ++ u ∷ vs)) e))

-- a number among others is 0 or stands twice
arrivals_with : (us vs : List Update) (u : Update) (f : ℕ → Bool) → any f (arrivals (us ++ u ∷ vs)) ≡ (f u.arrival || any f (arrivals (us ++ vs)))
unfolding arrivals any
arrivals_with [] vs u f = refl
arrivals_with (w ∷ us) vs u f = rw (arrivals_with us vs u f) (swap (f w.arrival) (f u.arrival) (any f (arrivals (us ++ vs))))

repeats_with : (us vs : List Update) (u : Update) →
    repeats (arrivals (us ++ u ∷ vs)) ≡ (any (eqb u.arrival) (arrivals (us ++ vs)) || repeats (arrivals (us ++ vs)))
unfolding arrivals any repeats
repeats_with [] vs u = refl
repeats_with (w ∷ us) vs u =
    rw (arrivals_with us vs u (eqb w.arrival), repeats_with us vs u, eqb_sym w.arrival u.arrival)
    (exchange (eqb u.arrival w.arrival) (any (eqb w.arrival) (arrivals (us ++ vs))) (any (eqb u.arrival) (arrivals (us ++ vs))) (repeats (arrivals (us ++ vs))))

numbered_with : (us vs : List Update) (u : Update) →
    ill_numbered (us ++ u ∷ vs) ≡ ((eqb 0 u.arrival || any (eqb u.arrival) (arrivals (us ++ vs))) || ill_numbered (us ++ vs))
unfolding ill_numbered
numbered_with us vs u =
    rw (arrivals_with us vs u (eqb 0), repeats_with us vs u)
    (exchange (eqb 0 u.arrival) (any (eqb 0) (arrivals (us ++ vs))) (any (eqb u.arrival) (arrivals (us ++ vs))) (repeats (arrivals (us ++ vs))))

-- a batch that is in order has the number 0
number_in_order : (b : List ℕ) → InOrder b → batch_number b ≡ 0
unfolding batch_number first_of
number_in_order b o = rw (eq-eqb (length b % 5) 0 o.whole, le-ltb 20480 (length b) o.few, o.formed, o.numbered, o.ordered)

-- a batch with a record between others, and the one without it
module _ (b d : List ℕ) (k t a z n : ℕ) (w : length b % 5 ≡ 0) where
  abbrev here : Update
  here = record { kind = k; term = t; from = a; to = z; arrival = n }

  with_it : updates (b ++ k ∷ t ∷ a ∷ z ∷ n ∷ d) ≡ updates b ++ here ∷ updates d
  with_it = unfold updates in updates_append b (k ∷ t ∷ a ∷ z ∷ n ∷ d) w

  longer : length (b ++ k ∷ t ∷ a ∷ z ∷ n ∷ d) ≡ length (b ++ d) + 5
  longer = omega (arith, length-append b (k ∷ t ∷ a ∷ z ∷ n ∷ d), length-append b d)

  same : k ≢ 1 → z < a → (s : List ℕ) → applied (updates (b ++ k ∷ t ∷ a ∷ z ∷ n ∷ d)) s ≡ applied (updates (b ++ d)) s
  same m h s = unfold EmptyRangeRemovesNothing in rw (with_it, updates_append b d w) (empty_range_removes_nothing (updates b) (updates d) here s m h)

  out : batch_number (b ++ k ∷ t ∷ a ∷ z ∷ n ∷ d) ≡ 0 → batch_number (b ++ d) ≡ 0
  out e =
      let o = in_order (b ++ k ∷ t ∷ a ∷ z ∷ n ∷ d) e in
      number_in_order (b ++ d)
      record {
        whole = omega (arith, longer, o.whole);
        few = omega (arith, longer, o.few);
        formed = rw (updates_append b d w) (or_right (ill_formed here) _ (sym (any_with ill_formed (updates b) (updates d) here) ∙ (rw with_it at o.formed)));
        numbered = rw (updates_append b d w) (or_right (eqb 0 n || any (eqb n) (arrivals (updates b ++ updates d))) _ (sym (numbered_with (updates b) (updates d) here) ∙ (rw with_it at o.numbered)));
        ordered = rw (updates_append b d w) (falls_without (updates b) (updates d) here 0 (rw with_it at o.ordered));
      }

  put : batch_number (b ++ d) ≡ 0 → length (b ++ d) < 20480 → ill_formed here ≡ false → falls 0 (updates (b ++ k ∷ t ∷ a ∷ z ∷ n ∷ d)) ≡ false →
      n ≢ 0 → any (eqb n) (arrivals (updates (b ++ d))) ≡ false → batch_number (b ++ k ∷ t ∷ a ∷ z ∷ n ∷ d) ≡ 0
  put e l f o m g =
      let p = in_order (b ++ d) e in
      number_in_order (b ++ k ∷ t ∷ a ∷ z ∷ n ∷ d)
      record {
        whole = omega (arith, longer, p.whole);
        few = omega (arith, longer, p.whole);
        formed = rw (with_it, any_with ill_formed (updates b) (updates d) here, f) (rw (updates_append b d w) at p.formed);
        numbered =
            rw (with_it, numbered_with (updates b) (updates d) here, ne_eqb 0 n (λ q. m (sym q)), ← updates_append b d w, g) p.numbered;
        ordered = o;
      }

pub empty_range_taken_out : EmptyRangeTakenOut
unfolding EmptyRangeTakenOut
empty_range_taken_out b d k t a z n w m h e = (out b d k t a z n w e, λ s. sym (same b d k t a z n w m h s))

pub empty_range_put_in : EmptyRangePutIn
unfolding EmptyRangePutIn
empty_range_put_in b d k t a z n w m h e l f o i g = (put b d k t a z n w e l f o i g, λ s. same b d k t a z n w m h s)
