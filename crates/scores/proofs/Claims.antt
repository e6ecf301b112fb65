-- The claims on an outcome.
use Prim.Native.Nat.{ℕ, zero, suc, ◌+◌}
use native.Mathlib.Omega.{arith}
use mathlib.Core.Path.{◌≡◌, refl, sym, ap, ◌∙◌}
use mathlib.Core.Bool.{Bool, true, false}
use mathlib.Core.List.{List}
use borrow.Author.Tests.{eqb-true, eqb-false, ne_eqb}
use lib.ListN.{take}
use lib.Dec.{eqb}
use Rattle.update.specs.Step.{step}
use Rattle.lines.specs.Lines.{fault}
use Rattle.lines.specs.Claims.{settling_bytes}
use Rattle.lines.proofs.Settled.{fault_settled, faultless_whole}
use Rattle.scores.specs.Outcome.{Refused, pass_from, steps_most, pass, outcome}
use Rattle.scores.specs.Claims.{OutcomeSettled, PassEnds}
use Rattle.scores.proofs.Passing.{ends_within, ends_limit, ends_some, ends_later, goes_on_law, refused_here, finished_here}

outcome_faulty : (bytes : List ℕ) → ((fault bytes).number ≡ 0 → ⊥) → outcome bytes ≡ Refused (fault bytes).number
unfolding outcome
outcome_faulty bytes n = rw (ne_eqb (fault bytes).number 0 n)

pub outcome_settled : OutcomeSettled
unfolding OutcomeSettled
outcome_settled bytes = go (eqb (fault bytes).number 0) refl
  where
    go : (t : Bool) → eqb (fault bytes).number 0 ≡ t → outcome bytes ≡ outcome (take settling_bytes bytes)
    go true t = ap outcome (sym (faultless_whole bytes (eqb-true (fault bytes).number 0 t)))
    go false t =
        let n = eqb-false (fault bytes).number 0 t in
        let e = ap (λ f. f.number) (fault_settled bytes) in
        outcome_faulty bytes n ∙ ap Refused e ∙ sym (outcome_faulty (take settling_bytes bytes) (λ z. n (e ∙ z)))

-- steps that are more than enough
ends_enough : (n k made : ℕ) (c b : List ℕ) → ends_within n c b ≡ true → pass_from (n + k) made c b ≡ pass_from n made c b
ends_enough zero k made c b e = absurd (let h = ends_some 0 c b e in omega (arith, h))
ends_enough (suc n) k made c b e = go (ends_enough n k (made + 1) (step c b).card b) (eqb (step c b).number 0) refl (step c b).finished refl
  where
    more : suc n + k ≡ suc (n + k)
    more = omega arith

    go :
        (ends_within n (step c b).card b ≡ true → pass_from (n + k) (made + 1) (step c b).card b ≡ pass_from n (made + 1) (step c b).card b) →
        (t : Bool) → eqb (step c b).number 0 ≡ t → (u : Bool) → (step c b).finished ≡ u → pass_from (suc n + k) made c b ≡ pass_from (suc n) made c b
    go ih false t u f =
        let m = eqb-false (step c b).number 0 t in
        sym (refused_here (suc n + k) made c b (omega arith) m) ∙ refused_here (suc n) made c b (omega arith) m
    go ih true t true f =
        let z = eqb-true (step c b).number 0 t in
        sym (finished_here (suc n + k) made c b (omega arith) z f) ∙ finished_here (suc n) made c b (omega arith) z f
    go ih true t false f =
        let z = eqb-true (step c b).number 0 t in
        goes_on_law (suc n + k) (n + k) made c b more z f ∙ ih (ends_later (suc n) n c b refl z f e) ∙ sym (goes_on_law (suc n) n made c b refl z f)

pub pass_ends : PassEnds
unfolding PassEnds pass
pass_ends c b k v w j = ends_enough (steps_most c b) k 0 c b (ends_limit c b v w j)
