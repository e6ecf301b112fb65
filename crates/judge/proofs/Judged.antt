-- The judge's number from what its parts answer.
use Prim.Native.Nat.{ℕ, suc, ◌+◌, ◌-◌, ◌<◌}
use native.Mathlib.Omega.{arith}
use mathlib.Core.Path.{◌≡◌, refl, sym, ap, ◌∙◌}
use mathlib.Core.Bool.{Bool, true, false, cond, ◌&&◌, not, and-false}
use mathlib.Core.List.{List, [], ◌∷◌}
use borrow.Author.Tests.{ltb-true, ltb-false, eqb-true, not-false}
use lib.Dec.{eqb}
use Rattle.pair.specs.Rising.{rising_from, last}
use Rattle.pair.specs.Tests.{first_of}
use Rattle.pair.proofs.FirstOf.{passed, first_of_early, first_of_append, first_of_all_pass}
use Rattle.card.specs.declared.layout.Configuration.{Configuration}
use Rattle.card.specs.Layout.{place_count, length_of_old, length_of_new, boundary, old_places, new_places, pairs_at}
use Rattle.card.specs.Sound.{blocks_sound, first_reaches, configuration_conditions, segments_sound, judged}
use Rattle.card.specs.code.Configuration.{ConfigurationOf, Ordered}
use Rattle.judge.specs.code.Scan.{new_sound, old_sound}
use Rattle.card.proofs.Limits.{limits}
use Rattle.card.proofs.Ordered.{ordered}

-- a configuration in order, by value
pub configured : {c : List ℕ} {k : Configuration} → first_of (configuration_conditions c) ≡ 0 → ConfigurationOf c k → Ordered c k
configured {c} {k} e r =
    let p1 = passed _ _ _ e in
    let p2 = passed _ _ _ p1.1 in
    let p3 = passed _ _ _ p2.1 in
    let p4 = passed _ _ _ p3.1 in
    let p5 = passed _ _ _ p4.1 in
    let p6 = passed _ _ _ p5.1 in
    let l = limits _ _ (not-false _ p3.0) in
    ordered
    (record { size_high = l.size_high; count_low = l.count_low; count_high = l.count_high; long = eqb-true _ _ (not-false _ p4.0) })
    (ltb-true _ _ (not-false _ p5.0))
    (omega (arith, ltb-false (place_count c - 1) (length_of_old c + length_of_new c) p6.0))
    r

-- a number of the configuration is the judge's
pub judged_early : (c : List ℕ) (n : ℕ) → n ≡ first_of (configuration_conditions c) → (n ≡ 0 → ⊥) → n ≡ judged c
unfolding judged
judged_early c n e h = e ∙ sym (first_of_early (configuration_conditions c) _ (λ z. h (e ∙ z)))

-- a configuration in order leaves it to the segments
pub judged_late : (c : List ℕ) → first_of (configuration_conditions c) ≡ 0 → judged c ≡ cond (segments_sound c) 0 4
unfolding judged
judged_late c e =
    first_of_append (configuration_conditions c) ((not (segments_sound c), 4) ∷ [])
    (first_of_all_pass (configuration_conditions c) (numbered, (numbered, (numbered, (numbered, (numbered, (numbered, (numbered, tt))))))) e)
    ∙ four (segments_sound c)
  where
    numbered : {b : Bool} {n : ℕ} → b ≡ true → 0 < suc n
    numbered e = omega arith

    four : (s : Bool) → first_of ((not s, 4) ∷ []) ≡ cond s 0 4
    four true = unfold first_of in refl
    four false = unfold first_of in refl

grouped : (a b c d e f : Bool) → (a && b && c && d && e && f) ≡ (((a && c) && e) && ((b && d) && f))
grouped false b c d e f = refl
grouped true false c d e f = sym (and-false (c && e))
grouped true true false d e f = refl
grouped true true true false e f = sym (and-false e)
grouped true true true true e f = refl

-- and so to whether the new and the old segment are sound
pub judged_segments : (c : List ℕ) → first_of (configuration_conditions c) ≡ 0 → judged c ≡ cond (new_sound c && old_sound c) 0 4
unfolding segments_sound new_sound old_sound
judged_segments c e =
    judged_late c e
    ∙ ap (λ s. cond s 0 4)
    (grouped (blocks_sound c (new_places c)) (blocks_sound c (old_places c)) (rising_from 0 (pairs_at c (new_places c)))
    (rising_from 0 (pairs_at c (old_places c))) (eqb (last 0 (pairs_at c (new_places c))) (boundary c)) (first_reaches c (boundary c) (old_places c)))
