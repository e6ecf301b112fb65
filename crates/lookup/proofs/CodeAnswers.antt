-- What a lookup and a run view answer, refused or not.
use Prim.Native.Nat.{ℕ, ◌≤◌, ◌<◌, zero-le}
use native.Mathlib.Omega.{arith}
use mathlib.Core.Path.{◌≡◌, refl, sym, ap, ◌∙◌}
use mathlib.Core.List.{List, []}
use borrow.Author.Tests.{eq-eqb, ne_eqb, lt-ltb, le-ltb}
use lib.ListN.{length, take, drop}
use lib.Seq.{sets}
use Rattle.std.proofs.Common.{Result, Ok, Err}
use Rattle.std.specs.Result.{IsErrAnd}
use Rattle.std.proofs.lemmas.Result.{err_from_is_err_and}
use Rattle.pair.specs.Tests.{first_of}
use Rattle.pair.proofs.Lists.{length_part}
use Rattle.refusal.specs.declared.Refusal.{Refusal}
use Rattle.refusal.specs.declared.Refusal.TheVariants.{TooFewWords}
use Rattle.refusal.specs.Refusal.{number, number_of}
use Rattle.refusal.proofs.Numbers.{number_positive}
use Rattle.wanted.specs.declared.Part.{Part}
use Rattle.found.specs.declared.walk.Walk.{Walk}
use Rattle.found.specs.declared.walk.WalkCount.{WalkCount}
use Rattle.lookup.specs.declared.Found.{Found}
use Rattle.lookup.specs.Answer.{Answered, part_of}
use Rattle.found.specs.Views.{run, run_start, Viewed}
use Rattle.found.specs.Found.{found, question_number, lookup_number, lookup}
use Rattle.found.specs.code.Segment.{LookupWalk, WalkCounted}
use Rattle.found.specs.code.Walk.{ahead, blocks_of, ReadyWalk, NextRun}
use Rattle.found.proofs.Answers.{lookup_found, lookup_refused}
use Rattle.found.proofs.Walking.{no_next_run}

-- A lookup refused for its question,
pub answered_refused :
    (c : List ℕ) (t a z : ℕ) (ans : List ℕ) (result : Result Found Refusal) (refusal : Refusal) → number refusal ≡ question_number c t a z →
    IsErrAnd result (λ r. r ≡ refusal) → Answered (lookup c t a z ans) result ans
unfolding lookup_number first_of
answered_refused c t a z ans result refusal e h =
    let p = err_from_is_err_and result h in
    let f = ne_eqb (question_number c t a z) 0 (λ q. let n = number_positive refusal in omega arith) in
    let l = lookup_refused c t a z ans (rw (f, f)) in
    rw (l, p.1, p.2, f, ← e) (record { of_number = refl; of_count = refl; of_blocks = refl; of_answer = refl })

-- for its answer words,
pub answered_short :
    {c : List ℕ} {t a z : ℕ} {ans : List ℕ} {r : WalkCount} → 0 ≡ question_number c t a z → WalkCounted c t a z r → length ans < r.count →
    Answered (lookup c t a z ans) (Err TooFewWords) ans
unfolding lookup_number first_of
answered_short {c} {t} {a} {z} {ans} {r} e w s =
    let f = eq-eqb (question_number c t a z) 0 (sym e) in
    let short = lt-ltb (length ans) (length (found c t a z)) (omega (arith, w.count, ap length w.walk.found)) in
    let l = lookup_refused c t a z ans (rw (f, short)) in
    rw (l, f, short) (record { of_number = refl; of_count = refl; of_blocks = refl; of_answer = refl })

-- and one that is not refused.
pub answered_found :
    {c : List ℕ} {t a z : ℕ} (ans : List ℕ) {after : List ℕ} {r : WalkCount} → 0 ≡ question_number c t a z → WalkCounted c t a z r → r.count ≤ length ans →
    after ≡ sets ans 0 (ahead c r.walk) → Answered (lookup c t a z ans) (Ok (record { count = r.count; blocks = blocks_of r.walk })) after
unfolding lookup_number first_of
answered_found {c} {t} {a} {z} ans {after} {r} e w s g =
    let f = eq-eqb (question_number c t a z) 0 (sym e) in
    let room = le-ltb (length ans) (length (found c t a z)) (omega (arith, w.count, ap length w.walk.found)) in
    let l = lookup_found c t a z ans (rw (f, room)) in
    rw l (record { of_number = refl; of_count = w.count ∙ ap length w.walk.found; of_blocks = w.walk.blocks; of_answer = g ∙ ap (sets ans 0) w.walk.found })

-- The run view is the first run of the walk,
pub viewed_run :
    {c : List ℕ} {t a z : ℕ} {w behind : Walk} {x : Part} → 0 ≡ question_number c t a z → LookupWalk c t a z w → NextRun c w x behind →
    Viewed c t a z 0 x.start x.len
viewed_run {c} {t} {a} {z} {w} {x = x} e o n =
    let same : take x.len (drop x.start c) ≡ run c t a z = n.run o.ready ∙ o.run in
    record {
      of_number = e;
      of_start = n.starts o.ready ∙ o.start;
      of_length = sym (length_part c x.start x.len n.inside) ∙ ap length same;
      inside = n.inside;
      part = same;
    }

-- empty where it has none,
pub viewed_none :
    {c : List ℕ} {t a z : ℕ} {w : Walk} → 0 ≡ question_number c t a z → LookupWalk c t a z w → (ReadyWalk c w → ahead c w ≡ []) →
    Viewed c t a z 0 0 0
viewed_none {c} {t} {a} {z} {w} e o n =
    let none = no_next_run c w (n o.ready) in
    let no_run : [] ≡ run c t a z = sym none.0 ∙ o.run in
    record { of_number = e; of_start = sym none.1 ∙ o.start; of_length = ap length no_run; inside = zero-le; part = no_run }

-- and where the question is refused.
pub viewed_refused :
    (c : List ℕ) (t a z : ℕ) (result : Result Part Refusal) (refusal : Refusal) → number refusal ≡ question_number c t a z →
    IsErrAnd result (λ r. r ≡ refusal) → Viewed c t a z (number_of result) (part_of result).start (part_of result).len
unfolding run run_start
viewed_refused c t a z result refusal e h =
    let p = err_from_is_err_and result h in
    let f = ne_eqb (question_number c t a z) 0 (λ q. let n = number_positive refusal in omega arith) in
    rw (p.1, p.2) (record { of_number = e; of_start = rw f; of_length = rw f; inside = zero-le; part = rw f })
