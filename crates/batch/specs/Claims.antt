-- What is claimed of arrival numbers, of annulled rounds and of ranges with no game in them, each as a type that a theorem inhabits.
use Rattle.std.specs.Prelude.{ℕ, ◌*◌, ◌%◌, ◌≤◌, ◌<◌, ◌≡◌, Bool, true, false, ◌&&◌, ◌||◌, not, ◌≢◌, List, [], ◌∷◌, ◌++◌, ltb, leb, eqb, length}
use Rattle.pair.specs.Rank.{word_limit, rank, position}
use Rattle.pair.specs.Rising.{keep, any, rising_from}
use Rattle.batch.specs.Batch.{Update, updates, any_update, adds, removes, with_added, applied, ill_formed, falls, arrivals, record_words, records_most, batch_number}

-- a record touches a pair: it adds it or removes it
unfoldable pub touches : ℕ → Update → Bool
touches x u = adds x u || removes x u

-- of the records that touch a pair the one with the greatest arrival number decides, wherever it stands
unfoldable pub LatestDecides : Type 0
LatestDecides =
    (us vs : List Update) (u : Update) (x : ℕ) (s : List ℕ) → 0 < u.arrival → touches x u ≡ true →
    any_update (λ v. touches x v && leb u.arrival v.arrival) (us ++ vs) ≡ false → any (eqb x) (applied (us ++ u ∷ vs) s) ≡ adds x u

-- and a pair that none touches stays as it was
unfoldable pub UntouchedStays : Type 0
UntouchedStays = (us : List Update) (x : ℕ) (s : List ℕ) → any_update (touches x) us ≡ false → any (eqb x) (applied us s) ≡ any (eqb x) s

-- where no addition arrived before a removal, a batch means what it does without arrival numbers: the set less all that it removes, with all
-- that it adds
unfoldable pub AdditionsLast : Type 0
AdditionsLast =
    (b s : List ℕ) →
    let us = updates b in
    batch_number b ≡ 0 → rising_from 0 s ≡ true →
    any_update (λ u. eqb u.kind 1 && any_update (λ v. not (eqb v.kind 1) && ltb u.arrival v.arrival) us) us ≡ false →
    applied us s ≡ with_added us (keep (λ x. not (any_update (removes x) us)) s)

-- a batch of one record of kind 3 takes the positions from a to z from every term, and nothing else
unfoldable pub RoundAlone : Type 0
RoundAlone =
    (a z n : ℕ) (s : List ℕ) → 0 < n →
    applied (updates (3 ∷ 0 ∷ a ∷ z ∷ n ∷ [])) s ≡ keep (λ x. not (leb a (position x) && leb (position x) z)) s

-- among any updates, under every term, a position of it is left only where one adds it that did not arrive before it
unfoldable pub RoundAnnulled : Type 0
RoundAnnulled =
    (us : List Update) (a z n t p : ℕ) (s : List ℕ) →
    any_update (λ u. eqb u.kind 3 && eqb u.term 0 && eqb u.from a && eqb u.to z && eqb u.arrival n) us ≡ true → 0 < n →
    a ≤ p → p ≤ z → p < word_limit → any (eqb (rank t p)) (applied us s) ≡ true →
    any_update (λ u. adds (rank t p) u && leb n u.arrival) us ≡ true

-- a removal whose from is above its to: wherever it stands among updates, they make the same of every set without it
unfoldable pub EmptyRangeRemovesNothing : Type 0
EmptyRangeRemovesNothing =
    (us vs : List Update) (u : Update) (s : List ℕ) → u.kind ≢ 1 → u.to < u.from → applied (us ++ u ∷ vs) s ≡ applied (us ++ vs) s

-- taken out of a batch in order, such a record leaves a batch in order, which makes the same of every set
unfoldable pub EmptyRangeTakenOut : Type 0
EmptyRangeTakenOut =
    (b d : List ℕ) (k t a z n : ℕ) → length b % record_words ≡ 0 → k ≢ 1 → z < a → batch_number (b ++ k ∷ t ∷ a ∷ z ∷ n ∷ d) ≡ 0 →
    (batch_number (b ++ d) ≡ 0) × ((s : List ℕ) → applied (updates (b ++ d)) s ≡ applied (updates (b ++ k ∷ t ∷ a ∷ z ∷ n ∷ d)) s)

-- put into a batch in order that has room for it, well formed, at its place and with a number of its own, it leaves a batch in order, which
-- makes the same of every set
unfoldable pub EmptyRangePutIn : Type 0
EmptyRangePutIn =
    (b d : List ℕ) (k t a z n : ℕ) → length b % record_words ≡ 0 → k ≢ 1 → z < a → batch_number (b ++ d) ≡ 0 → length (b ++ d) < record_words * records_most →
    ill_formed (record { kind = k; term = t; from = a; to = z; arrival = n }) ≡ false → falls 0 (updates (b ++ k ∷ t ∷ a ∷ z ∷ n ∷ d)) ≡ false →
    n ≢ 0 → any (eqb n) (arrivals (updates (b ++ d))) ≡ false →
    (batch_number (b ++ k ∷ t ∷ a ∷ z ∷ n ∷ d) ≡ 0) × ((s : List ℕ) → applied (updates (b ++ k ∷ t ∷ a ∷ z ∷ n ∷ d)) s ≡ applied (updates (b ++ d)) s)
