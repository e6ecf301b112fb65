-- One batch, begun with no pass open and kept: from the first landed finishing write onward the index is the old one with the batch applied.
use Prim.Native.Nat.{ℕ}
use mathlib.Core.Path.{◌≡◌, refl, sym, ◌∙◌, ap}
use mathlib.Core.Bool.{Bool, true, false, cond, ◌&&◌, ◌||◌, not, false≢true, and-true, and-false}
use mathlib.Core.List.{List, [], ◌∷◌, ◌++◌}
use mathlib.Core.Logic.{◌⊎◌, inl, inr}
use native.Mathlib.Omega.{arith}
use lib.Dec.{eqb}
use borrow.Author.Tests.{eqb-true, ne_eqb}
use Rattle.pair.specs.Rising.{rising_from, last}
use Rattle.pair.proofs.Rising.{rises_from}
use Rattle.pair.proofs.Tests.{and_left, or_cases, contradiction}
use Rattle.block.specs.Block.{goes_on}
use Rattle.batch.specs.Batch.{updates, applied, batch_number}
use Rattle.batch.proofs.InOrder.{rising_batch}
use Rattle.batch.proofs.Meaning.{applied_twice}
use Rattle.card.specs.Layout.{length_of_new, boundary, around, pairs_at, live, format_number}
use Rattle.card.proofs.Facts.{Facts, facts}
use Rattle.card.proofs.Live.{live_rising}
use Rattle.update.specs.Step.{step_number, taken, refused, step}
use Rattle.update.proofs.Steps.{accepted, step_taken, step_refused}
use Rattle.history.specs.History.{History, to_write, landed, Event, stepped, cut, looked, restarted, formats, after, tells, told, AllOfWords}
use Rattle.history.specs.Claims.{Lends, Keeps, ran, finishing, finished, KeptBatch, ResentBatch}
use Rattle.history.proofs.Answers.{step_finishes}
use Rattle.history.proofs.Events.{told_where, keeping_after}
use Rattle.history.proofs.Keeping.{Keeping, itself, keeping_itself}
use Rattle.history.proofs.Kept.{Kept, kept_start, kept_on, kept_again, kept_applied, kept_still}

-- A step that did not make the third write has not finished.
pub step_unfinished : (c b : List ℕ) → eqb (step c b).write 3 ≡ false → (step c b).finished ≡ false
unfolding taken refused
step_unfinished c b = go (eqb (step_number c b) 0) refl
  where
    go : (t : Bool) → eqb (step_number c b) 0 ≡ t → eqb (step c b).write 3 ≡ false → (step c b).finished ≡ false
    go true e = rw (step_taken c b (eqb-true (step_number c b) 0 e)) (λ w. rw w)
    go false e = rw (step_refused c b e) (λ w. refl)

-- A step that has finished had a batch in order.
pub finished_ordered : (c b : List ℕ) → (step c b).finished ≡ true → batch_number b ≡ 0
unfolding refused
finished_ordered c b f = go (eqb (step_number c b) 0) refl
  where
    go : (t : Bool) → eqb (step_number c b) 0 ≡ t → batch_number b ≡ 0
    go true e = (accepted c b (eqb-true (step_number c b) 0 e)).in_order
    go false e = contradiction (step c b).finished f (ap (λ s. s.finished) (step_refused c b e))

-- What an event tells the history where no batch but b is lent: nothing, or that a configuration write with b has landed.
pub moved :
    (c b : List ℕ) (e : Event) (h : History) → Keeping c h → Lends c b e → (P : History → Bool → Type 0) →
    P h false → P (landed b h) (not (goes_on h.size (to_write b h))) → P (told (tells c e) h) (finishing c e)
unfolding tells told finishing Lends
moved c b (stepped x) h k l P still move = rw (l, told_where) (go (eqb (step c b).write 3) refl)
  where
    go : (t : Bool) → eqb (step c b).write 3 ≡ t → P (cond (eqb (step c b).write 3) (landed b h) h) (step c b).finished
    go true w = rw (w, step_finishes c b h k (eqb-true (step c b).write 3 w)) move
    go false w = rw (w, step_unfinished c b w) still
moved c b (cut x ws d) h k l P still move = rw (l, told_where) (go (eqb (step c b).write 3) refl d)
  where
    go : (t : Bool) → eqb (step c b).write 3 ≡ t → (d : Bool) → P (cond (eqb (step c b).write 3 && d) (landed b h) h) ((step c b).finished && d)
    go true w true = rw (w, step_finishes c b h k (eqb-true (step c b).write 3 w), and-true (not (goes_on h.size (to_write b h)))) move
    go true w false = rw (w, and-false (step c b).finished) still
    go false w d = rw (w, step_unfinished c b w) still
moved c b (looked t a z answer) h k l P still move = still
moved c b restarted h k l P still move = still
moved c b (formats x n) h k l P still move = rw (ne_eqb (format_number c x n) 0 l) still

finishing_ordered : (b : List ℕ) (e : Event) (c : List ℕ) → Lends c b e → finishing c e ≡ true → batch_number b ≡ 0
unfolding Lends finishing
finishing_ordered b (stepped x) c l f = finished_ordered c b (rw l at f)
finishing_ordered b (cut x ws d) c l f = finished_ordered c b (and_left (step c b).finished d (rw l at f))
finishing_ordered b (looked t a z answer) c l f = absurd (false≢true f)
finishing_ordered b restarted c l f = absurd (false≢true f)
finishing_ordered b (formats x n) c l f = absurd (false≢true f)

-- A finishing write among events that lend no batch but b says that b is in order.
ordered : (b : List ℕ) (es : List Event) (c : List ℕ) → Keeps c b es → finished c es ≡ true → batch_number b ≡ 0
unfolding Keeps finished
ordered b [] c l f = absurd (false≢true f)
ordered b (e ∷ es) c l f = go (or_cases (finishing c e) (finished (after c e) es) f) (λ g. ordered b es (after c e) l.1 g)
  where
    go : (finishing c e ≡ true) ⊎ (finished (after c e) es ≡ true) → (finished (after c e) es ≡ true → batch_number b ≡ 0) → batch_number b ≡ 0
    go (inl g) later = finishing_ordered b e c l.0 g
    go (inr g) later = later g

module _ (b : List ℕ) (o : batch_number b ≡ 0) where
  -- Over pairs that the batch leaves as they are, the index stays.
  stays :
      (es : List Event) (c s : List ℕ) (h : History) → Keeping c h → Kept b s h → rising_from 0 s ≡ true → applied (updates b) s ≡ s →
      Keeps c b es → AllOfWords es → live (ran c es) ≡ s
  unfolding Keeps AllOfWords ran
  stays [] c s h k p r q l w = k.index ∙ kept_applied b s h r q p
  stays (e ∷ es) c s h k p r q l w =
      stays es (after c e) s (told (tells c e) h) (keeping_after c e h k w.0)
      (moved c b e h k l.0 (λ g fin. Kept b s g) p (kept_still b s h o r q p)) r q l.1 w.1

  -- Up to the first finishing write, and from it on.
  turns :
      (es : List Event) (c s : List ℕ) (h : History) → Keeping c h → Kept b s h → rising_from 0 s ≡ true →
      Keeps c b es → AllOfWords es → finished c es ≡ true → live (ran c es) ≡ applied (updates b) s
  unfolding Keeps AllOfWords ran finished
  turns [] c s h k p r l w f = absurd (false≢true f)
  turns (e ∷ es) c s h k p r l w f =
      go (moved c b e h k l.0 Turned (inr (refl, p)) (lands (goes_on h.size (to_write b h)) refl))
      (λ p'. turns es (after c e) s (told (tells c e) h) (keeping_after c e h k w.0) p' r l.1 w.1)
    where
      Turned : History → Bool → Type 0
      Turned g fin = ((fin ≡ true) × Kept b (applied (updates b) s) g) ⊎ ((fin ≡ false) × Kept b s g)

      lands : (t : Bool) → goes_on h.size (to_write b h) ≡ t → Turned (landed b h) (not (goes_on h.size (to_write b h)))
      lands true g = rw g (inr (refl, kept_on b s o r h p g))
      lands false g = rw g (inl (refl, kept_again b s h o r p g))

      go : Turned (told (tells c e) h) (finishing c e) → (Kept b s (told (tells c e) h) → finished (after c e) es ≡ true → live (ran (after c e) es) ≡ applied (updates b) s)
          → live (ran (after c e) es) ≡ applied (updates b) s
      go (inl (fin, p')) again =
          stays es (after c e) (applied (updates b) s) (told (tells c e) h) (keeping_after c e h k w.0) p' (rising_batch b s o r)
          (applied_twice (updates b) s (rises_from s 0 r)) l.1 w.1
      go (inr (fin, p')) again =
          let f' : (finishing c e || finished (after c e) es) ≡ true = f in
          again p' (rw fin at f')

-- with no pass open there is no boundary
closed : (c : List ℕ) → Facts c → length_of_new c ≡ 0 → boundary c ≡ 0
unfolding around pairs_at last
closed c f n = sym f.last_new ∙ rw n

pub kept_batch : KeptBatch
unfolding KeptBatch
kept_batch c b es wc wb we s n l fin =
    turns b o es c (live c) (itself c) (keeping_itself c wc s) (kept_start b (live c) o r (itself c) (omega (arith, f.size_low)) (closed c f n) refl) r l we fin
  where
    f : Facts c
    f = facts c s

    o : batch_number b ≡ 0
    o = ordered b es c l fin

    r : rising_from 0 (live c) ≡ true
    r = live_rising c f

-- the first events alone
keeps_first : (c b : List ℕ) (es fs : List Event) → Keeps c b (es ++ fs) → Keeps c b es
unfolding Keeps
keeps_first c b [] fs l = tt
keeps_first c b (e ∷ es) fs l = (l.0, keeps_first (after c e) b es fs l.1)

words_first : (es fs : List Event) → AllOfWords (es ++ fs) → AllOfWords es
unfolding AllOfWords
words_first [] fs w = tt
words_first (e ∷ es) fs w = (w.0, words_first es fs w.1)

finished_first : (c : List ℕ) (es fs : List Event) → finished c es ≡ true → finished c (es ++ fs) ≡ true
unfolding finished
finished_first c [] fs f = absurd (false≢true f)
finished_first c (e ∷ es) fs f = go (finishing c e) f (finished_first (after c e) es fs)
  where
    go : (t : Bool) → (t || finished (after c e) es) ≡ true → (finished (after c e) es ≡ true → finished (after c e) (es ++ fs) ≡ true) →
        (t || finished (after c e) (es ++ fs)) ≡ true
    go true g rest = refl
    go false g rest = rest g

pub resent_batch : ResentBatch
unfolding ResentBatch KeptBatch
resent_batch c b es fs wc wb we s n l f =
    kept_batch c b (es ++ fs) wc wb we s n l (finished_first c es fs f)
    ∙ sym (kept_batch c b es wc wb (words_first es fs we) s n (keeps_first c b es fs l) f)
