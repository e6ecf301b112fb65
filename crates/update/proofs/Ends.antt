-- A pass with its batch kept, uncut and unrefused, finishes: each step makes the work left smaller.
use Prim.Native.Nat.{ℕ, zero, suc, ◌+◌, ◌*◌, ◌-◌, ◌≤◌, ◌<◌}
use native.Mathlib.Omega.{arith}
use mathlib.Core.Path.{◌≡◌, refl, sym, ◌∙◌}
use mathlib.Core.Bool.{Bool, true, false, ◌&&◌, ◌||◌, not}
use mathlib.Core.List.{List, [], ◌∷◌}
use lib.ListN.{length, drop}
use lib.Dec.{eqb}
use borrow.Author.Tests.{eqb-true, ne_eqb, not-false}
use Rattle.pair.specs.Rank.{Words}
use Rattle.pair.proofs.Tests.{or_left, or_right}
use Rattle.block.specs.Block.{fitting, goes_on}
use Rattle.block.proofs.Due.{goes_on_some}
use Rattle.card.specs.Layout.{block_size, place, due_place}
use Rattle.card.specs.Sound.{judged}
use Rattle.card.proofs.Facts.{Facts, facts}
use Rattle.card.proofs.Frame.{Alike, judged_alike}
use Rattle.update.specs.Step.{remains, due_block, next_write, the_write, step_number, taken, step}
use Rattle.update.specs.Pass.{blocks, step_limit, finishes_within, refused_within}
use Rattle.update.proofs.Blocks.{blocks_next, blocks_none, blocks_some, blocks_goes_on}
use Rattle.update.proofs.Frame.{size_alike, remains_alike}
use Rattle.update.proofs.Grown.{Remaining, DueWritten}
use Rattle.update.proofs.Next.{remaining, next_first, next_second, remains_next_law}
use Rattle.update.proofs.Settled.{configuration_sound, configuration_words_law, configuration_size}
use Rattle.update.proofs.Steps.{Accepted, accepted, step_taken, step_number_law}
use Rattle.update.proofs.Writes.{written, by_next_write, written_first_alike, written_first_words, written_second_alike, written_second_words}

-- the work left: by_next_write writes for each block after the due one, and the writes left of the due one
unfoldable pub work : List ℕ → List ℕ → ℕ
work c b = 3 * (blocks (block_size c) (remains c b) - 1) + (4 - next_write c (remains c b))

next_range : (c r : List ℕ) → (1 ≤ next_write c r) × (next_write c r ≤ 3)
next_range c r = by_next_write c r (λ w. (1 ≤ w) × (w ≤ 3)) (λ h. omega arith) (λ h e. omega arith) (λ h. omega arith)

-- it is one write at least
pub work_some : (c b : List ℕ) → 1 ≤ work c b
unfolding work
work_some c b = let h = next_range c (remains c b) in omega arith

limit : (c r : List ℕ) → 3 * (blocks (block_size c) r - 1) + (4 - next_write c r) ≤ step_limit (block_size c) r
unfolding step_limit next_write
limit c [] = rw (blocks_none (block_size c)) (omega arith)
limit c (x ∷ xs) =
    let some : 0 < blocks (block_size c) (x ∷ xs) = blocks_some (block_size c) (x ∷ xs) (omega arith) in
    rw (ne_eqb (blocks (block_size c) (x ∷ xs)) 0 (omega arith)) (omega (arith, next_range c (x ∷ xs)))

-- and at most the step limit
pub work_limit : (c b : List ℕ) → work c b ≤ step_limit (block_size c) (remains c b)
unfolding work
work_limit c b = limit c (remains c b)

-- the first two writes leave less of it
work_alike : (c d b : List ℕ) → Alike c d → next_write c (remains c b) < next_write d (remains c b) → work d b < work c b
unfolding work
work_alike c d b a h =
    rw (size_alike c d a, remains_alike c d a b)
    (omega (arith, next_range c (remains c b), next_range d (remains c b)))

-- so does a configuration write that goes on
work_next : (c b : List ℕ) → Facts c → Words c → Words b → Accepted c b → (0 < length (remains c b) → DueWritten c (remains c b)) →
    goes_on (block_size c) (remains c b) ≡ true → work (written c (remains c b) 3) b < work c b
unfolding work
work_next c b f wc wb a ready on =
    let r : List ℕ = remains c b in
    let m = remaining c b f wc wb a.in_order in
    let low : 3 ≤ block_size c = omega (arith, f.size_low) in
    let fewer : blocks (block_size c) r ≡ suc (blocks (block_size c) (drop (fitting (block_size c) 0 r) r)) = blocks_next (block_size c) r low (goes_on_some (block_size c) r on) m.proper in
    let two : 2 ≤ blocks (block_size c) r = blocks_goes_on (block_size c) r low m.proper on in
    rw (configuration_size c r f m ready a.free, remains_next_law c b f wc wb a.in_order ready a.free on)
    (omega (arith, next_range c r, next_range (written c r 3) (drop (fitting (block_size c) 0 r) r)))

-- what a step leaves that does not finish the pass: a sound card of words with less of it
pub record Going (c d b : List ℕ) : Type 0 where
  pub words : Words d
  pub sound : judged d ≡ 0
  pub less : work d b < work c b

pub going : (c b : List ℕ) → Words c → Words b → step_number c b ≡ 0 → (step c b).finished ≡ false → Going c (step c b).card b
unfolding taken the_write
going c b wc wb z = rw (step_taken c b z) (by_next_write c r P first second third refl)
  where
    r : List ℕ
    r = remains c b

    a : Accepted c b
    a = accepted c b z

    f : Facts c
    f = facts c a.sound

    m : Remaining c r
    m = remaining c b f wc wb a.in_order

    P : ℕ → Type 0
    P w = next_write c r ≡ w → (eqb w 3 && not (goes_on (block_size c) r)) ≡ false → Going c (written c r w) b

    first : 0 < length r → P 1
    first h e q =
        let d = written_first_alike c r f in
        record {
          words = written_first_words c r f wc m.proper;
          sound = judged_alike c (written c r 1) d ∙ a.sound;
          less = work_alike c (written c r 1) b d (rw e (next_first c r f));
        }

    second : 0 < length r → place c (due_place c) ≡ due_block c r → P 2
    second h p e q =
        let d = written_second_alike c r f in
        record {
          words = written_second_words c r f wc m.proper h;
          sound = judged_alike c (written c r 2) d ∙ a.sound;
          less = work_alike c (written c r 2) b d (rw (e, next_second c r f p) (omega arith));
        }

    third : (0 < length r → DueWritten c r) → P 3
    third ready e q =
        record {
          words = configuration_words_law c r f m ready a.free wc;
          sound = configuration_sound c r f m ready a.free;
          less = work_next c b f wc wb a ready (not-false (goes_on (block_size c) r) q);
        }

-- of the steps that the work left asks for, one finishes the pass
ends : (n : ℕ) (c b : List ℕ) → Words b → Words c → work c b ≤ n → refused_within n c b ≡ false → finishes_within n c b ≡ true
unfolding finishes_within refused_within
ends zero c b wb wc l q = absurd (let h : 1 ≤ work c b = work_some c b in omega arith)
ends (suc n) c b wb wc l q = go (λ w i. ends n d b wb w i) (step c b).finished refl (or_right (not (eqb (step c b).number 0)) _ q)
  where
    d : List ℕ
    d = (step c b).card

    number : (step c b).number ≡ 0
    number = eqb-true (step c b).number 0 (not-false (eqb (step c b).number 0) (or_left _ _ q))

    go : (Words d → work d b ≤ n → refused_within n d b ≡ false → finishes_within n d b ≡ true) →
        (t : Bool) → (step c b).finished ≡ t → (not t && refused_within n d b) ≡ false → (t || finishes_within n d b) ≡ true
    go ih true e rest = refl
    go ih false e rest = let g = going c b wc wb (sym (step_number_law c b) ∙ number) e in ih g.words (omega arith) rest

-- within the step limit
pub pass_finishes_law : (c b : List ℕ) → Words c → Words b → judged c ≡ 0 →
    let n = step_limit (block_size c) (remains c b) in
    refused_within n c b ≡ false → finishes_within n c b ≡ true
pass_finishes_law c b wc wb j q = ends (step_limit (block_size c) (remains c b)) c b wb wc (work_limit c b) q
