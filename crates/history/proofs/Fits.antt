-- The forecast agrees with the uncut run; so an empty batch fits, and removals with two places free do.
use Prim.Native.Nat.{ℕ, zero, suc}
use native.Mathlib.Omega.{arith}
use mathlib.Core.Path.{◌≡◌, refl, sym, ◌∙◌, ap}
use mathlib.Core.Bool.{true}
use mathlib.Core.List.{List, [], ◌∷◌}
use lib.Dec.{eqb}
use Rattle.pair.specs.Rank.{Words}
use Rattle.pair.proofs.Tests.{cond_both}
use Rattle.pair.proofs.Words.{words_nil}
use Rattle.card.specs.Sound.{judged}
use Rattle.batch.specs.Batch.{batch_number}
use Rattle.batch.proofs.InOrder.{empty_in_order}
use Rattle.update.specs.Step.{step_number, step}
use Rattle.update.specs.Pass.{Run, uncut}
use Rattle.update.specs.Forecast.{limit_of, finishes_of, foreseen, outlook, forecast, foretold}
use Rattle.update.proofs.Agreement.{forecast_sound, forecast_agrees_law}
use Rattle.update.proofs.Steps.{step_number_law}
use Rattle.history.specs.History.{Event, stepped, after, AllOfWords, OfWords}
use Rattle.history.specs.Claims.{Lends, Keeps, ran, ForecastAgrees, EmptyNeverFull, RemovalsNeverFull, EmptyFits, RemovalsFit}
use Rattle.history.proofs.EmptyBatch.{empty_never_full}
use Rattle.history.proofs.Events.{keeping_stepped}
use Rattle.history.proofs.Keeping.{itself, keeping_itself}
use Rattle.history.proofs.Removals.{removals_never_full}

pub forecast_agrees : ForecastAgrees
unfolding ForecastAgrees
forecast_agrees = forecast_agrees_law

-- what rules out that a step is refused, and is kept by each step, rules it out of a run
never_refused : (b : List ℕ) (P : List ℕ → Type 0) → ((c : List ℕ) → P c → step_number c b ≡ 0) → ((c : List ℕ) → P c → P (step c b).card) →
    (n : ℕ) (c : List ℕ) → P c → (uncut n c b).number ≡ 0
unfolding uncut
never_refused b P z k zero c p = refl
never_refused b P z k (suc n) c p =
    rw (step_number_law c b, z c p)
    (cond_both (λ (r : Run). r.number ≡ 0) (step c b).finished _ _ (λ e. refl) (λ e. never_refused b P z k n (step c b).card (k c p)))

-- a run that is not refused was foretold to finish
foretold_finishes : (g l w : ℕ) → (foretold (foreseen g l w)).number ≡ 0 → finishes_of (foreseen g l w) ≡ true
unfolding foreseen foretold
foretold_finishes g l w = cond_both (λ a. (foretold a).number ≡ 0 → finishes_of a ≡ true) (eqb w g) _ _ (λ e h. refl) (λ e h. absurd (omega arith))

fits : (c b : List ℕ) → Words c → Words b → judged c ≡ 0 → batch_number b ≡ 0 → ((n : ℕ) → (uncut n c b).number ≡ 0) → finishes_of (forecast c b) ≡ true
unfolding outlook
fits c b wc wb j o h =
    let n : ℕ = suc (limit_of (forecast c b)) in
    let agrees : uncut n c b ≡ foretold (forecast c b) = (forecast_agrees_law c b wc wb).run n (omega arith) (omega arith) in
    let s = forecast_sound c b j o in
    rw s (foretold_finishes _ _ _ (ap (λ a. (foretold a).number) (sym s) ∙ ap (λ r. r.number) (sym agrees) ∙ h n))

pub empty_fits : EmptyFits
unfolding EmptyFits EmptyNeverFull
empty_fits c w j =
    fits c [] w words_nil j empty_in_order
    (λ n. never_refused [] (λ d. Words d × (judged d ≡ 0)) (λ d p. empty_never_full d p.0 p.1)
    (λ d p. let k = keeping_stepped d [] (itself d) (keeping_itself d p.0 p.1) words_nil in (k.words, k.sound)) n c (w, j))

pub removals_fit : RemovalsFit
unfolding RemovalsFit RemovalsNeverFull Keeps Lends ran after AllOfWords OfWords
removals_fit c b wc wb j o r two =
    fits c b wc wb j o
    (λ n. never_refused b (λ d. (es : List Event) → AllOfWords es → Keeps d b es → step_number (ran d es) b ≡ 0) (λ d p. p [] tt tt)
    (λ d p es we k. p (stepped b ∷ es) (wb, we) (refl, k)) n c (λ es we k. removals_never_full c b es wc wb we j o r two k))
