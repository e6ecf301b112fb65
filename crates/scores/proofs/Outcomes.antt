-- The outcome by what reading a file answers, with room for the largest batch.
use Prim.Native.Nat.{ℕ, ◌*◌, ◌≤◌, ◌<◌}
use native.Mathlib.Omega.{arith}
use mathlib.Core.Path.{◌≡◌, sym, ap, ◌∙◌}
use mathlib.Core.List.{List}
use borrow.Author.Tests.{eq-eqb, ne_eqb}
use lib.ListN.{length, take}
use Rattle.std.specs.Result.{IsErrAnd}
use Rattle.std.proofs.Common.{Result, Ok, Err}
use Rattle.refusal.specs.declared.Refusal.{Refusal}
use Rattle.refusal.specs.Refusal.{number}
use Rattle.refusal.proofs.Numbers.{number_positive}
use Rattle.pair.specs.Rank.{word_limit}
use Rattle.card.specs.Sound.{judged}
use Rattle.batch.specs.Batch.{record_words, records_most}
use Rattle.lines.specs.declared.Fault.{Fault}
use Rattle.lines.specs.Lines.{fault, batch_of, scored}
use Rattle.lines.specs.code.Gathering.{answered}
use Rattle.lines.proofs.Room.{batch_few, room_number, read_words, read_many}
use Rattle.scores.specs.Outcome.{Refused, told, fresh_card, steps_most, pass, outcome}
use Rattle.scores.proofs.Fresh.{few_steps, fresh_sound}

-- a refusal that is handed on
pub refusal_returned : (r : Result ℕ Refusal) (x : Refusal) → IsErrAnd r (λ e. e ≡ x) → told r ≡ Refused (number x)
refusal_returned (Ok n) x h = absurd h
refusal_returned (Err e) x h = ap (λ y. Refused (number y)) h

module _ (bytes l : List ℕ) {now : List ℕ} (room : record_words * records_most ≤ length l) where
  pub outcome_refused : (f : Fault) → answered (Err f) now ≡ scored bytes l → Refused (number f.refusal) ≡ outcome bytes
  unfolding outcome
  outcome_refused f a =
      let e : number f.refusal ≡ (fault bytes).number = ap (λ s. s.number) a ∙ room_number bytes l room in
      rw (ne_eqb (fault bytes).number 0 (λ z. omega (arith, e, z, number_positive f.refusal))) (ap Refused e)

  module _ {words : ℕ} (a : answered (Ok words) now ≡ scored bytes l) where
    faultless : (fault bytes).number ≡ 0
    faultless = sym (room_number bytes l room) ∙ sym (ap (λ s. s.number) a)

    few : length (batch_of bytes) ≤ record_words * records_most
    few = batch_few bytes faultless

    inside : length (batch_of bytes) ≤ length l
    inside = omega (arith, few, room)

    pub words_read : take words now ≡ batch_of bytes
    words_read = ap (λ s. take s.words s.batch) a ∙ read_words bytes l faultless inside

    -- the batch lies in the memory
    pub words_inside : words ≤ length now
    words_inside = let m = read_many bytes l faultless inside in omega (arith, ap (λ s. s.words) a, ap (λ s. length s.batch) a, m.0, m.1, inside)

    pub words_ready : (steps_most fresh_card (take words now) < word_limit) × (judged fresh_card ≡ 0)
    words_ready = (few_steps (take words now) (rw words_read few), fresh_sound)

    pub outcome_passed : pass fresh_card (take words now) ≡ outcome bytes
    unfolding outcome
    outcome_passed = rw (eq-eqb (fault bytes).number 0 faultless, words_read)
