-- The rounds cut to as many as there are places that they reach to: what is found among them is what is found among the records.
use Prim.Native.Nat.{ℕ, min, ◌-◌, ◌/◌, ◌≤◌}
use native.Mathlib.Omega.{arith}
use mathlib.Core.Path.{◌≡◌, refl, ap, ap₂, ◌∙◌}
use mathlib.Core.Bool.{Bool, true, false, cond}
use mathlib.Core.List.{List}
use lib.ListN.{length, take, get_or, length-take}
use lib.Dec.{ltb, leb}
use borrow.Author.Tests.{leb-false}
use Rattle.std.proofs.Common.{get_or-take}
use Rattle.std.proofs.lemmas.List.{take-take}
use Rattle.batch.specs.declared.Passed.{Passed}
use Rattle.batch.specs.Batch.{Update, updates}
use Rattle.batch.specs.code.Records.{records_of, updates_of}
use Rattle.batch.specs.code.Rounds.{starts, begun, reached, annuls_later}
use Rattle.batch.specs.code.Search.{annulled}
use Rattle.batch.specs.code.Untouched.{before_round}
use Rattle.batch.proofs.Annulling.{begun_most, begun_first, reached_first, starts_first}
use Rattle.batch.proofs.Records.{length_records, updates_same, take_array}

-- up to where the next of the first m rounds starts
before_first : (us : List Update) (ts : List ℕ) (m j p z : ℕ) → before_round (starts (take m us)) (take m ts) m j p z ≡ before_round (starts us) ts m j p z
unfolding before_round
before_first us ts m j p z =
    rw (begun_first us m j p, reached_first ts m (begun (starts us) m j p) p (begun_most (starts us) m j p), starts_first m us) (go (leb m g) refl)
  where
    g : ℕ
    g = begun (starts us) m j p

    go : (t : Bool) → leb m g ≡ t →
        cond (reached ts g p) 0 (cond t z (cond (ltb z (get_or (take m (starts us)) g 0)) z (get_or (take m (starts us)) g 0 - 1)))
        ≡ cond (reached ts g p) 0 (cond t z (cond (ltb z (get_or (starts us) g 0)) z (get_or (starts us) g 0 - 1)))
    go true e = refl
    go false e = rw (get_or-take m (starts us) g 0 (leb-false m g e))

-- the first g of the first m rounds take a position away where the first g do
annulled_first : (us : List Update) (ts : List ℕ) (m g p : ℕ) (added : Bool) (k : Passed) → g ≤ m →
    annulled (take g (take m us)) (take g (take m ts)) g p added k ≡ annulled us ts g p added k
unfolding annulled annuls_later
annulled_first us ts m g p added k h = rw (take-take g m us h, take-take g m ts h, reached_first ts g g p (omega arith), take-take g g us (omega arith))

module _ (b : List ℕ) {rs : List (List ℕ)} (r : rs ≡ records_of b) (ts : List ℕ) (ws : List (List ℕ)) (es : List ℕ)
    (cut : ws ≡ take (min (length ts) (length rs)) rs) (ended : es ≡ take (min (length ts) (length rs)) ts) where
  abbrev m : ℕ
  m = min (length ts) (length b / 5)

  so_many : min (length ts) (length rs) ≡ m
  so_many = ap (min (length ts)) (ap length r ∙ length_records b)

  some : length ws ≡ m
  some = ap length cut ∙ (length-take _ rs ∙ omega (arith, so_many))

  those : updates_of ws ≡ take m (updates b)
  those = ap updates_of cut ∙ (take_array _ rs ∙ ap₂ take so_many (updates_same b r))

  ends : es ≡ take m ts
  ends = ended ∙ ap (λ n. take n ts) so_many

  pub cut_begun : (j p : ℕ) → begun (starts (updates_of ws)) (length ws) j p ≡ begun (starts (updates b)) m j p
  cut_begun j p = rw (some, those) (begun_first (updates b) m j p)

  pub cut_before : (j p z : ℕ) → before_round (starts (updates_of ws)) es (length ws) j p z ≡ before_round (starts (updates b)) ts m j p z
  cut_before j p z = rw (some, those, ends) (before_first (updates b) ts m j p z)

  pub cut_annulled : (g p : ℕ) (added : Bool) (k : Passed) → g ≤ length ws → (vs : List (List ℕ)) (fs : List ℕ) → vs ≡ take g ws → fs ≡ take g es →
      annulled (updates_of vs) fs (length vs) p added k ≡ annulled (updates b) ts g p added k
  cut_annulled g p added k h vs fs v f =
      let few : length vs ≡ g = ap length v ∙ (length-take g ws ∙ omega arith) in
      let us : updates_of vs ≡ take g (take m (updates b)) = ap updates_of v ∙ (take_array g ws ∙ ap (take g) those) in
      rw (few, us, f, ends) (annulled_first (updates b) ts m g p added k (omega (arith, some)))
