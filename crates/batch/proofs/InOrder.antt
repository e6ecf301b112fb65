-- What a batch that is in order is made of.
use Prim.Native.Nat.{ℕ, suc, ◌*◌, ◌%◌, ◌≤◌, ◌<◌}
use mathlib.Core.Path.{◌≡◌, refl, sym, ap, ◌∙◌}
use mathlib.Core.Bool.{Bool, true, false, cond, ◌&&◌, ◌||◌, not, and-true, false≢true}
use mathlib.Core.List.{List, [], ◌∷◌}
use mathlib.Core.Logic.{◌≢◌, ◌⊎◌, inl, inr}
use lib.ListN.{length}
use lib.Dec.{ltb, eqb}
use native.Mathlib.Omega.{arith}
use borrow.Author.Tests.{ltb-false, lt-ltb, eqb-true, eqb-false, not-false}
use Rattle.pair.specs.Rank.{rank, Words, Proper}
use Rattle.pair.specs.Rising.{Each, keep, any, rising_from}
use Rattle.pair.specs.Tests.{first_of}
use Rattle.pair.proofs.Keep.{keep_same}
use Rattle.pair.proofs.Tests.{and_left, and_right, or_left, or_right, or_cases}
use Rattle.pair.proofs.Order.{proper_rank}
use Rattle.pair.proofs.FirstOf.{passed}
use Rattle.batch.specs.Batch.{Update, updates, any_update, adds, removes, latest, withdrawn, applied, ill_formed, falls, arrivals, ill_numbered, batch_number}
use Rattle.batch.specs.code.Search.{UpdateWords}
use Rattle.repeat.specs.Repeats.{repeats}
use Rattle.batch.proofs.Arriving.{latest_after, latest_none}
use Rattle.batch.proofs.Meaning.{added, removed, each_applied, rising_applied, with_added_removals, added_removals}

-- the facts behind the number 0
pub record InOrder (b : List ℕ) : Type 0 where
  pub whole : length b % 5 ≡ 0
  pub few : length b ≤ 20480
  pub formed : any_update ill_formed (updates b) ≡ false
  pub numbered : ill_numbered (updates b) ≡ false
  pub ordered : falls 0 (updates b) ≡ false

-- a batch with the number 0 is in order
pub in_order : (b : List ℕ) → batch_number b ≡ 0 → InOrder b
unfolding batch_number
in_order b e =
    let p = passed (not (eqb (length b % 5) 0)) 5 _ e in
    let q = passed (ltb (5 * 4096) (length b)) 5 _ p.1 in
    let r = passed (any_update ill_formed (updates b)) 5 _ q.1 in
    let n = passed (ill_numbered (updates b)) 13 _ r.1 in
    let s = passed (falls 0 (updates b)) 6 _ n.1 in
    record {
      whole = eqb-true (length b % 5) 0 (not-false (eqb (length b % 5) 0) p.0);
      few = ltb-false 20480 (length b) q.0;
      formed = r.0;
      numbered = n.0;
      ordered = s.0;
    }

-- so has one with no record
pub empty_in_order : batch_number [] ≡ 0
unfolding batch_number first_of updates any_update falls ill_numbered arrivals any repeats
empty_in_order = refl

-- every update has the property
abbrev pub EachUpdate : (Update → Type 0) → List Update → Type 0
EachUpdate P [] = Unit {0}
EachUpdate P (u ∷ us) = P u × EachUpdate P us

-- a property that implies another, and two properties at once
pub each_update_imply : (P Q : Update → Type 0) → ((u : Update) → P u → Q u) → (us : List Update) → EachUpdate P us → EachUpdate Q us
each_update_imply P Q f [] a = tt
each_update_imply P Q f (u ∷ us) a = (f u a.0, each_update_imply P Q f us a.1)

pub each_update_both : (P Q : Update → Type 0) (us : List Update) → EachUpdate P us → EachUpdate Q us → EachUpdate (λ u. P u × Q u) us
each_update_both P Q [] a b = tt
each_update_both P Q (u ∷ us) a b = ((a.0, b.0), each_update_both P Q us a.1 b.1)

-- a test that holds of no update fails at each
pub each_update_none : (f : Update → Bool) (us : List Update) → any_update f us ≡ false → EachUpdate (λ u. f u ≡ false) us
unfolding any_update
each_update_none f [] h = tt
each_update_none f (u ∷ us) h =
    (or_left (f u) (any_update f us) h, each_update_none f us (or_right (f u) (any_update f us) h))

-- an update that is well formed names a position, and a term unless it is of kind 3
pub record Formed (u : Update) : Type 0 where
  pub term_none : u.kind ≡ 3 → u.term ≡ 0
  pub term_low : u.kind ≢ 3 → 1 ≤ u.term
  pub from_low : 1 ≤ u.from

pub formed_facts : (u : Update) → ill_formed u ≡ false → Formed u
unfolding ill_formed
formed_facts u e =
    record {
      term_none = none (eqb u.term 0) refl (search (or_left, or_right));
      term_low = named (eqb u.term 0) refl (search (or_left, or_right));
      from_low = low u.from (search (or_left, or_right));
    }
  where
    low : (n : ℕ) → eqb n 0 ≡ false → 1 ≤ n
    low n f = let d : n ≢ 0 = eqb-false n 0 f in omega arith

    none : (t : Bool) → eqb u.term 0 ≡ t → not (cond t (eqb u.kind 3) (eqb u.kind 1 || eqb u.kind 2)) ≡ false → u.kind ≡ 3 → u.term ≡ 0
    none true f k n = eqb-true u.term 0 f
    none false f k n = absurd (false≢true (sym k ∙ rw n))

    named : (t : Bool) → eqb u.term 0 ≡ t → not (cond t (eqb u.kind 3) (eqb u.kind 1 || eqb u.kind 2)) ≡ false → u.kind ≢ 3 → 1 ≤ u.term
    named true f k n = absurd (n (eqb-true u.kind 3 (not-false (eqb u.kind 3) k)))
    named false f k n = low u.term f

-- the updates of a batch of 32-bit words have such words
pub words_updates : (b : List ℕ) → Words b → EachUpdate UpdateWords (updates b)
unfolding updates Words
words_updates [] w = tt
words_updates (k ∷ []) w = tt
words_updates (k ∷ t ∷ []) w = tt
words_updates (k ∷ t ∷ a ∷ []) w = tt
words_updates (k ∷ t ∷ a ∷ z ∷ []) w = tt
words_updates (k ∷ t ∷ a ∷ z ∷ n ∷ ws) w =
    (record { term_word = w 1; from_word = w 2 }, words_updates ws (λ i. w (suc (suc (suc (suc (suc i)))))))

-- the updates of a batch in order are well formed
pub formed_updates : (b : List ℕ) → batch_number b ≡ 0 → EachUpdate Formed (updates b)
formed_updates b e =
    each_update_imply (λ u. ill_formed u ≡ false) Formed formed_facts (updates b) (each_update_none ill_formed (updates b) (in_order b e).formed)

-- and have arrival numbers
pub numbered_updates : (b : List ℕ) → batch_number b ≡ 0 → EachUpdate (λ u. 0 < u.arrival) (updates b)
unfolding ill_numbered any arrivals
numbered_updates b e = go (updates b) (or_left (any (eqb 0) (arrivals (updates b))) (repeats (arrivals (updates b))) (in_order b e).numbered)
  where
    go : (us : List Update) → any (eqb 0) (arrivals us) ≡ false → EachUpdate (λ u. 0 < u.arrival) us
    go [] h = tt
    go (u ∷ us) h =
        let n = eqb-false 0 u.arrival (or_left (eqb 0 u.arrival) (any (eqb 0) (arrivals us)) h) in
        (omega arith, go us (or_right (eqb 0 u.arrival) (any (eqb 0) (arrivals us)) h))

-- so one arrived exactly where one passes the test
pub latest_some : (f : Update → Bool) (us : List Update) → EachUpdate (λ u. 0 < u.arrival) us → ltb 0 (latest f us) ≡ any_update f us
unfolding any_update
latest_some f us n = latest_after f us 0 ∙ go us n
  where
    go : (us : List Update) → EachUpdate (λ u. 0 < u.arrival) us → any_update (λ u. f u && ltb 0 u.arrival) us ≡ any_update f us
    go [] n = refl
    go (u ∷ us) n = rw (lt-ltb 0 u.arrival n.0, and-true (f u), go us n.1)

-- and a pair that no record adds is withdrawn exactly where one removes it
pub withdrawn_removed : (b : List ℕ) (x : ℕ) → batch_number b ≡ 0 → added (updates b) x ≡ false → withdrawn (updates b) x ≡ removed (updates b) x
unfolding withdrawn added removed
withdrawn_removed b x e h = rw (latest_none (adds x) (updates b) h) (latest_some (removes x) (updates b) (numbered_updates b e))

-- so a batch of removals only keeps what it does not remove
pub applied_removals :
    (b s : List ℕ) → batch_number b ≡ 0 → any_update (λ u. eqb u.kind 1) (updates b) ≡ false →
    applied (updates b) s ≡ keep (λ x. not (removed (updates b) x)) s
unfolding applied
applied_removals b s e h =
    rw (with_added_removals (updates b) s h)
    (keep_same (λ x. not (withdrawn (updates b) x)) (λ x. not (removed (updates b) x))
    (λ x. ap not (withdrawn_removed b x e (added_removals (updates b) x h))) s)

-- what holds of the pair of each addition holds of every added pair
pub added_Each : (P : ℕ → Type 0) (us : List Update) (x : ℕ) → EachUpdate (λ u. u.kind ≡ 1 → P (rank u.term u.from)) us → added us x ≡ true → P x
unfolding added any_update adds
added_Each P [] x a h = absurd (false≢true h)
added_Each P (u ∷ us) x a h = go (or_cases (adds x u) (added us x) h) (added_Each P us x a.1)
  where
    here : ℕ
    here = rank u.term u.from

    go : (adds x u ≡ true) ⊎ (added us x ≡ true) → (added us x ≡ true → P x) → P x
    go (inl e) ih =
        rw (eqb-true x here (and_right (eqb u.kind 1) (eqb x here) e))
        (a.0 (eqb-true u.kind 1 (and_left (eqb u.kind 1) (eqb x here) e)))
    go (inr m) ih = ih m

-- a batch in order adds pairs only
pub added_positive : (b : List ℕ) → batch_number b ≡ 0 → (x : ℕ) → added (updates b) x ≡ true → 0 < x
added_positive b e x h =
    added_Each (λ y. 0 < y) (updates b) x
    (each_update_imply Formed (λ u. u.kind ≡ 1 → 0 < rank u.term u.from) (λ u f i. omega (arith, f.from_low)) (updates b) (formed_updates b e)) h

-- of 32-bit words, it adds pairs
pub added_proper : (b : List ℕ) → Words b → batch_number b ≡ 0 → (x : ℕ) → added (updates b) x ≡ true → Proper x
added_proper b w e x h =
    added_Each Proper (updates b) x
    (each_update_imply (λ u. Formed u × UpdateWords u) (λ u. u.kind ≡ 1 → Proper (rank u.term u.from))
    (λ u f i. proper_rank u.term u.from (f.0.term_low (other u i)) f.1.term_word f.0.from_low f.1.from_word) (updates b)
    (each_update_both Formed UpdateWords (updates b) (formed_updates b e) (words_updates b w))) h
  where
    other : (u : Update) → u.kind ≡ 1 → u.kind ≢ 3
    other u i j = omega arith

-- applied to a set of pairs it gives a set of pairs
pub rising_batch : (b s : List ℕ) → batch_number b ≡ 0 → rising_from 0 s ≡ true → rising_from 0 (applied (updates b) s) ≡ true
rising_batch b s e r = rising_applied (updates b) s 0 (added_positive b e) r

-- and pairs are left by it
pub proper_batch : (b s : List ℕ) → Words b → batch_number b ≡ 0 → Each Proper s → Each Proper (applied (updates b) s)
proper_batch b s w e a = each_applied Proper (updates b) s (added_proper b w e) a
