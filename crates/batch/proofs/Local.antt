-- A batch works pair by pair: what it makes of a part of a set depends on that part alone.
use Prim.Native.Nat.{ℕ}
use mathlib.Core.Path.{◌≡◌, refl, sym, ap, ◌∙◌}
use mathlib.Core.Bool.{Bool, true, false, ◌&&◌, ◌||◌, not}
use mathlib.Core.List.{List}
use lib.Dec.{ltb}
use Rattle.pair.specs.Rising.{keep, above}
use Rattle.pair.proofs.Rising.{rises, rises_keep}
use Rattle.pair.proofs.Sets.{has, has_keep, rises_ext}
use Rattle.batch.specs.Batch.{Update, withdrawn, applied}
use Rattle.batch.proofs.Meaning.{added, has_applied, rises_applied}

-- two sets with the same part of a kind have the same part of that kind afterwards
pub applied_local : (f : ℕ → Bool) (us : List Update) (s t : List ℕ) → rises s ≡ true → rises t ≡ true → keep f s ≡ keep f t
    → keep f (applied us s) ≡ keep f (applied us t)
applied_local f us s t r q e =
    rises_ext (keep f (applied us s)) (keep f (applied us t)) (rises_keep f (applied us s) (rises_applied us s r))
    (rises_keep f (applied us t) (rises_applied us t q)) members
  where
    table : (p a w h k : Bool) → (p && h) ≡ (p && k) → (p && (not w && (a || h))) ≡ (p && (not w && (a || k)))
    table true a w h k i = rw i
    table false a w h k i = refl

    alike : (x : ℕ) → (f x && has x s) ≡ (f x && has x t)
    alike x = sym (has_keep x f s) ∙ (ap (has x) e ∙ has_keep x f t)

    members : (x : ℕ) → has x (keep f (applied us s)) ≡ has x (keep f (applied us t))
    members x =
        has_keep x f (applied us s)
        ∙ (rw (has_applied x us s, has_applied x us t) (table (f x) (added us x) (withdrawn us x) (has x s) (has x t) (alike x))
        ∙ sym (has_keep x f (applied us t)))

-- the part above a number, and the part up to it
pub above_applied : (k : ℕ) (us : List Update) (s t : List ℕ) → rises s ≡ true → rises t ≡ true → above k s ≡ above k t
    → above k (applied us s) ≡ above k (applied us t)
unfolding above
above_applied k us s t r q e = applied_local (ltb k) us s t r q e
