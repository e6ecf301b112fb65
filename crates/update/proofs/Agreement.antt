-- The forecast agrees with the uncut run: a step that goes on takes from the forecast what it writes, and the last step is what the forecast says.
use Prim.Native.Nat.{ℕ, zero, suc, max, ◌+◌, ◌*◌, ◌≤◌, ◌<◌}
use native.Mathlib.Omega.{arith}
use mathlib.Core.Path.{◌≡◌, refl, sym, ◌∙◌, ap}
use mathlib.Core.Bool.{Bool, true, false, cond, not, false≢true}
use mathlib.Core.List.{List, [], ◌∷◌}
use lib.ListN.{length, drop, drop_of_length-le}
use lib.Dec.{eqb}
use borrow.Author.Tests.{not-true, not-false, ltb-false, eqb-true, eqb-false, eq-eqb, ne_eqb}
use Rattle.pair.specs.Rank.{Words, Proper}
use Rattle.pair.specs.Rising.{Each, rising_from, last}
use Rattle.pair.specs.Tests.{first_of}
use Rattle.pair.proofs.Tests.{and_left, and_right, cond_both}
use Rattle.pair.proofs.FirstOf.{first_of_early, handed_on}
use Rattle.pair.proofs.Rising.{last_some, rising_rest}
use Rattle.block.specs.Block.{fitting, due, goes_on}
use Rattle.block.proofs.Due.{goes_on_some, goes_on_rest}
use Rattle.card.specs.Layout.{block_size, length_of_new, boundary}
use Rattle.card.specs.Sound.{judged}
use Rattle.card.proofs.Facts.{Facts, facts}
use Rattle.card.proofs.Frame.{Alike, judged_alike}
use Rattle.batch.specs.Batch.{batch_number}
use Rattle.std.proofs.Common.{Result, Err}
use Rattle.std.specs.Result.{IsErrAnd}
use Rattle.std.proofs.lemmas.Result.{err_from_is_err_and}
use Rattle.refusal.specs.declared.Refusal.{Refusal}
use Rattle.refusal.specs.Refusal.{number}
use Rattle.refusal.proofs.Numbers.{number_positive}
use Rattle.update.specs.Forecast.{ForecastAnswer}
use Rattle.update.specs.Step.{remains, grown, next_write, the_write, crowded, step_number, taken, refused, step}
use Rattle.update.specs.Pass.{blocks, step_limit, configurations, after_writes, uncut}
use Rattle.update.specs.Forecast.{Refused}
use Rattle.update.specs.declared.forecast.Outlook.{Outlook}
use Rattle.update.specs.Forecast.{forecast_of, limit_of, free_writes, foreseen, outlook, forecast_number, forecast, foretold, AfterStep, Foretells}
use Rattle.update.proofs.Blocks.{blocks_next, blocks_none, blocks_some}
use Rattle.update.proofs.Configuration.{some, configuration_on}
use Rattle.update.proofs.Ends.{work, work_some, work_limit, going}
use Rattle.update.proofs.Frame.{size_alike, new_length_alike, remains_alike}
use Rattle.update.proofs.FreeWrites.{free_writes_first, free_writes_beyond, beyond_alike, beyond_on}
use Rattle.update.proofs.Grown.{Remaining, DueWritten}
use Rattle.update.proofs.Next.{remaining, remains_next_law}
use Rattle.update.proofs.Segments.{segments_new}
use Rattle.update.proofs.Settled.{configuration_sound, configuration_size}
use Rattle.update.proofs.Steps.{Accepted, accepted, accepting, step_taken, step_refused, step_number_law}
use Rattle.update.proofs.Writes.{written, by_next_write, written_first_alike, written_second_alike}

-- what a forecast says, and what the run comes to that it foretells, less the x configuration writes of a step that goes on
record Ahead (x : ℕ) (before after : ForecastAnswer) : Type 0 where
  says : AfterStep x before after
  comes : after_writes x (foretold after) ≡ foretold before

ahead : (x g w l h v m : ℕ) → x ≤ g → g + x ≡ h → w + x ≡ v → l ≡ cond (eqb g 0) 1 (3 * g) → Ahead x (foreseen h m v) (foreseen g l w)
unfolding foreseen foretold
ahead x g w l h v m few blocks writes limit = go (eqb w g) refl
  where
    go : (t : Bool) → eqb w g ≡ t → Ahead x (foreseen h m v) (foreseen g l w)
    go true q =
        let z : w ≡ g = eqb-true w g q in
        let most : x + max 1 g ≡ max 1 h = omega arith in
        rw (q, eq-eqb v h (omega arith))
        (record {
          says = record { number = refl; finishes = refl; blocks = blocks; limit = limit; writes = refl };
          comes = ap (λ k. record { number = 0; finished = true; writes = k }) most;
        })
    go false q =
        let sum : x + w ≡ v = omega arith in
        rw (q, ne_eqb v h (λ z. eqb-false w g q (omega arith)))
        (record {
          says = record { number = refl; finishes = refl; blocks = blocks; limit = limit; writes = writes };
          comes = ap (λ k. record { number = 8; finished = false; writes = k }) sum;
        })

-- a forecast is refused where the card is not sound or the batch not in order, and else it is by what remains
pub forecast_judged : (c b : List ℕ) → (judged c ≡ 0 → ⊥) → forecast c b ≡ Refused (judged c)
unfolding forecast forecast_number first_of
forecast_judged c b n = let e : eqb (judged c) 0 ≡ false = ne_eqb (judged c) 0 n in rw (e, e)

pub forecast_unordered : (c b : List ℕ) → judged c ≡ 0 → (batch_number b ≡ 0 → ⊥) → forecast c b ≡ Refused (batch_number b)
unfolding forecast forecast_number first_of
forecast_unordered c b j n = let e : eqb (batch_number b) 0 ≡ false = ne_eqb (batch_number b) 0 n in rw (j, e, e)

pub forecast_returned :
    (c b : List ℕ) (a : Result Outlook Refusal) (r : Refusal) → IsErrAnd a (λ x. x ≡ r) → number r ≡ forecast_number c b → forecast_of a ≡ forecast c b
unfolding forecast
forecast_returned c b a r h e =
    let p = err_from_is_err_and a h in
    let q : a ≡ Err r = p.1 ∙ ap Err p.2 in
    rw (q, ne_eqb (forecast_number c b) 0 (λ z. omega (arith, number_positive r))) (ap Refused e)

pub forecast_sound : (c b : List ℕ) → judged c ≡ 0 → batch_number b ≡ 0 → forecast c b ≡ outlook c (remains c b)
unfolding forecast forecast_number first_of
forecast_sound c b j e = rw (j, e)

-- where something remains it is by the first write and by the pairs beyond it
outlook_first : (c r : List ℕ) → 3 ≤ block_size c → Each Proper r → 0 < length r →
    let rest = drop (fitting (block_size c) 0 r) r in
    let g = blocks (block_size c) rest in
    outlook c r ≡ foreseen (suc g) (step_limit (block_size c) r) (cond (crowded c r) 0 (suc (free_writes c g (suc (length_of_new c)) rest)))
unfolding outlook
outlook_first c r low p h = rw (blocks_next (block_size c) r low h p, free_writes_first c r (blocks (block_size c) (drop (fitting (block_size c) 0 r) r)) h)

-- where the due block is the last the pass finishes with it, or with no block
outlook_last : (c r : List ℕ) → 3 ≤ block_size c → Each Proper r → crowded c r ≡ false → goes_on (block_size c) r ≡ false →
    foretold (outlook c r) ≡ record { number = 0; finished = true; writes = 1 }
unfolding outlook free_writes foreseen foretold goes_on
outlook_last c [] low p free end = rw (blocks_none (block_size c))
outlook_last c (x ∷ xs) low p free end =
    rw (
      outlook_first c (x ∷ xs) low p (omega arith),
      free,
      drop_of_length-le (x ∷ xs) (ltb-false (fitting (block_size c) 0 (x ∷ xs)) (length (x ∷ xs)) end),
      blocks_none (block_size c),
    )

-- where its write would leave no place free the pass stops
outlook_crowded : (c r : List ℕ) → 3 ≤ block_size c → Each Proper r → crowded c r ≡ true → foretold (outlook c r) ≡ record { number = 8; finished = false; writes = 0 }
unfolding crowded foreseen foretold
outlook_crowded c [] low p full = absurd (false≢true full)
outlook_crowded c (x ∷ xs) low p full = rw (outlook_first c (x ∷ xs) low p (omega arith), full, ne_eqb 0 (suc (blocks (block_size c) (drop (fitting (block_size c) 0 (x ∷ xs)) (x ∷ xs)))) (omega arith))

module _ (c b : List ℕ) (wc : Words c) (wb : Words b) (a : Accepted c b) where
  abbrev r : List ℕ
  r = remains c b

  abbrev rest : List ℕ
  rest = drop (fitting (block_size c) 0 r) r

  f : Facts c
  f = facts c a.sound

  m : Remaining c r
  m = remaining c b f wc wb a.in_order

  low : 3 ≤ block_size c
  low = omega (arith, f.size_low)

  -- the first two writes leave the forecast as it is
  ahead_alike : (d : List ℕ) → Alike c d → Ahead 0 (forecast c b) (forecast d b)
  unfolding outlook step_limit
  ahead_alike d e =
      let g = blocks (block_size c) r in
      let w = free_writes c g (length_of_new c) r in
      rw (
        forecast_sound c b a.sound a.in_order,
        forecast_sound d b (judged_alike c d e ∙ a.sound) a.in_order,
        remains_alike c d e b,
        size_alike c d e,
        new_length_alike c d e,
        free_writes_beyond (boundary c) c d (beyond_alike (boundary c) c d e) g (length_of_new c) r m.rising,
      )
      (ahead 0 g w (step_limit (block_size c) r) g w _ (omega arith) (omega arith) (omega arith) refl)

  module _ (ready : 0 < length r → DueWritten c r) (on : goes_on (block_size c) r ≡ true) where
    abbrev d : List ℕ
    d = written c r 3

    new_on : length_of_new d ≡ suc (length_of_new c)
    unfolding grown
    new_on =
        rw (configuration_on c r f m ready on, segments_new c _ _ (grown c r) _ f, ne_eqb (length r) 0 (omega (arith, goes_on_some (block_size c) r on)))
        (omega arith)

    rest_rising : rising_from (last 0 (due (block_size c) r)) rest ≡ true
    unfolding due
    rest_rising = rw (last_some (due (block_size c) r) 0 (boundary c) (some c r f m ready on)) (rising_rest (fitting (block_size c) 0 r) r (boundary c) m.rising)

    -- a configuration write that goes on takes one block from it, and one write
    ahead_on : Ahead 1 (forecast c b) (forecast d b)
    unfolding outlook step_limit
    ahead_on =
        let g = blocks (block_size c) rest in
        let w = free_writes c g (suc (length_of_new c)) rest in
        let one : 0 < g = blocks_some (block_size c) rest (goes_on_rest (block_size c) r on) in
        rw (
          forecast_sound c b a.sound a.in_order,
          forecast_sound d b (configuration_sound c r f m ready a.free) a.in_order,
          remains_next_law c b f wc wb a.in_order ready a.free on,
          outlook_first c r low m.proper (goes_on_some (block_size c) r on),
          a.free,
          configuration_size c r f m ready a.free,
          new_on,
          free_writes_beyond (last 0 (due (block_size c) r)) c d (beyond_on c r f m ready on) g (suc (length_of_new c)) rest rest_rising,
        )
        (ahead 1 g w (step_limit (block_size c) rest) (suc g) (suc w) _ (omega arith) (omega arith) (omega arith) refl)

  -- a step that does not finish the pass is ahead of the forecast by what it writes
  ahead_step : (step c b).finished ≡ false → Ahead (configurations (step c b)) (forecast c b) (forecast (step c b).card b)
  unfolding taken the_write
  ahead_step = rw (step_taken c b (accepting c b a)) (by_next_write c r P (λ h q. ahead_alike _ (written_first_alike c r f)) (λ h p q. ahead_alike _ (written_second_alike c r f)) third)
    where
      P : ℕ → Type 0
      P w = (taken c r w).finished ≡ false → Ahead (configurations (taken c r w)) (forecast c b) (forecast (written c r w) b)

      third : (0 < length r → DueWritten c r) → P 3
      third ready q = ahead_on ready (not-false (goes_on (block_size c) r) q)

  -- at the step that finishes it the forecast is that it does
  finishes_step : (step c b).finished ≡ true → (configurations (step c b) ≡ 1) × (foretold (forecast c b) ≡ record { number = 0; finished = true; writes = 1 })
  unfolding taken
  finishes_step =
      rw (step_taken c b (accepting c b a), forecast_sound c b a.sound a.in_order)
      (λ q. (
        rw (and_left (eqb (next_write c r) 3) (not (goes_on (block_size c) r)) q),
        outlook_last c r low m.proper a.free (not-true (goes_on (block_size c) r) (and_right (eqb (next_write c r) 3) (not (goes_on (block_size c) r)) q)),
      ))

-- a refused step ends the run
uncut_refused : (n : ℕ) (c b : List ℕ) → (step_number c b ≡ 0 → ⊥) → uncut (suc n) c b ≡ record { number = step_number c b; finished = false; writes = 0 }
unfolding uncut refused
uncut_refused n c b h = let e : eqb (step_number c b) 0 ≡ false = ne_eqb (step_number c b) 0 h in rw (step_refused c b e, e)

-- of as many steps as the work left asks for, or more, the run comes to what the forecast foretells
runs : (n : ℕ) (c b : List ℕ) → Words b → batch_number b ≡ 0 → Words c → judged c ≡ 0 → work c b ≤ n → uncut n c b ≡ foretold (forecast c b)
unfolding uncut step_number first_of
runs zero c b wb o wc j l = absurd (let h : 1 ≤ work c b = work_some c b in omega arith)
runs (suc n) c b wb o wc j l = go (λ d. runs n d b wb o) (crowded c r) refl
  where
    r : List ℕ
    r = remains c b

    f : Facts c
    f = facts c j

    go : ((d : List ℕ) → Words d → judged d ≡ 0 → work d b ≤ n → uncut n d b ≡ foretold (forecast d b)) →
        (t : Bool) → crowded c r ≡ t → uncut (suc n) c b ≡ foretold (forecast c b)
    go ih true e =
        let eight : step_number c b ≡ 8 = rw (j, o, e) in
        uncut_refused n c b (omega arith)
        ∙ rw (eight, forecast_sound c b j o, outlook_crowded c r (omega (arith, f.size_low)) (remaining c b f wc wb o).proper e)
    go ih false e = rw (step_number_law c b, accepting c b a) (ends (step c b).finished refl)
      where
        a : Accepted c b
        a = record { sound = j; in_order = o; free = e }

        ends : (t : Bool) → (step c b).finished ≡ t →
            after_writes (configurations (step c b)) (cond t (record { number = 0; finished = true; writes = 0 }) (uncut n (step c b).card b)) ≡ foretold (forecast c b)
        ends true q = let h = finishes_step c b wc wb a q in rw (h.0, h.1)
        ends false q =
            let g = going c b wc wb (accepting c b a) q in
            rw (ih (step c b).card g.words g.sound (omega arith)) (ahead_step c b wc wb a q).comes

limit_outlook : (c r : List ℕ) → limit_of (outlook c r) ≡ step_limit (block_size c) r
unfolding outlook foreseen
limit_outlook c r = cond_both (λ a. limit_of a ≡ step_limit (block_size c) r) (eqb (free_writes c (blocks (block_size c) r) (length_of_new c) r) (blocks (block_size c) r)) _ _ (λ e. refl) (λ e. refl)

-- a card or a batch that is refused is refused by both
agree_refused : (n : ℕ) (c b : List ℕ) → eqb (forecast_number c b) 0 ≡ false → uncut (suc n) c b ≡ foretold (forecast c b)
unfolding step_number forecast forecast_number foretold
agree_refused n c b e =
    let some : forecast_number c b ≡ 0 → ⊥ = eqb-false (forecast_number c b) 0 e in
    let number : step_number c b ≡ forecast_number c b = first_of_early ((not (eqb (judged c) 0), judged c) ∷ (not (eqb (batch_number b) 0), batch_number b) ∷ []) _ some in
    uncut_refused n c b (λ z. some (sym number ∙ z)) ∙ rw (e, number)

-- a sound card and a batch in order come to what is foretold within the limit
agree_sound : (n : ℕ) (c b : List ℕ) → Words c → Words b → eqb (forecast_number c b) 0 ≡ true → limit_of (forecast c b) ≤ n → uncut n c b ≡ foretold (forecast c b)
unfolding forecast_number
agree_sound n c b wc wb e l =
    let j = handed_on (judged c) _ (eqb-true (forecast_number c b) 0 e) in
    let o = handed_on (batch_number b) _ j.1 in
    runs n c b wb o.0 wc j.0 (omega (arith, work_limit c b, limit_outlook c (remains c b), ap limit_of (forecast_sound c b j.0 o.0)))

pub forecast_agrees_law : (c b : List ℕ) → Words c → Words b → Foretells c b
forecast_agrees_law c b wc wb =
    record {
      run = agree (eqb (forecast_number c b) 0) refl;
      next = λ z q. (ahead_step c b wc wb (accepted c b (sym (step_number_law c b) ∙ z)) q).says;
    }
  where
    agree : (t : Bool) → eqb (forecast_number c b) 0 ≡ t → (n : ℕ) → 0 < n → limit_of (forecast c b) ≤ n → uncut n c b ≡ foretold (forecast c b)
    agree t e zero h l = absurd (omega arith)
    agree true e (suc n) h l = agree_sound (suc n) c b wc wb e l
    agree false e (suc n) h l = agree_refused n c b e
