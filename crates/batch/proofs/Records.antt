-- Reading a batch from the middle: what a loop over its records has still to read.
use Prim.Native.Nat.{ℕ, zero, suc, min, ◌+◌, ◌*◌, ◌/◌, ◌%◌, ◌≤◌, ◌<◌}
use native.Mathlib.Nat.{add-zero}
use native.Mathlib.Omega.{arith}
use mathlib.Core.Path.{◌≡◌, refl, sym, ap, ap₂, ◌∙◌}
use mathlib.Core.Bool.{Bool, false, cond, ◌||◌, or_assoc, or-false}
use mathlib.Core.Logic.{◌≢◌}
use mathlib.Core.List.{List, [], ◌∷◌, ◌++◌}
use lib.ListN.{length, get_or, take, drop, length-drop, drop_of_length-le}
use lib.Seq.{get_or-drop, drop-drop, drop-nil, take_all}
use lib.Dec.{ltb}
use borrow.Author.Tests.{eq-eqb, ne_eqb, lt-ltb, le-ltb}
use Rattle.pair.specs.Rank.{rank}
use Rattle.pair.specs.Tests.{first_of}
use Rattle.batch.specs.declared.reading.Record.{Record}
use Rattle.batch.specs.Batch.{Update, updates, any_update, ill_formed, falls, ill_numbered, batch_number}
use Rattle.batch.specs.code.Records.{records_of, record_of, updates_of}
use Rattle.batch.specs.code.Search.{record_at, update_of}
use Rattle.std.specs.List.{list_any}
use Rattle.std.proofs.lemmas.List.{take_min}
use Rattle.std.specs.Simd.{first_chunks}

-- dropping words by fives is dropping records
updates_drop : (n : ℕ) (b : List ℕ) → updates (drop (n * 5) b) ≡ drop n (updates b)
unfolding updates
updates_drop zero b = refl
updates_drop (suc n) [] = rw (drop-nil (suc n * 5))
updates_drop (suc n) (k ∷ []) = let e : suc n * 5 ≡ suc (n * 5 + 4) = omega arith in rw (e, drop-nil (n * 5 + 4))
updates_drop (suc n) (k ∷ t ∷ []) = let e : suc n * 5 ≡ suc (suc (n * 5 + 3)) = omega arith in rw (e, drop-nil (n * 5 + 3))
updates_drop (suc n) (k ∷ t ∷ a ∷ []) = let e : suc n * 5 ≡ suc (suc (suc (n * 5 + 2))) = omega arith in rw (e, drop-nil (n * 5 + 2))
updates_drop (suc n) (k ∷ t ∷ a ∷ z ∷ []) = let e : suc n * 5 ≡ suc (suc (suc (suc (n * 5 + 1)))) = omega arith in rw (e, drop-nil (n * 5 + 1))
updates_drop (suc n) (k ∷ t ∷ a ∷ z ∷ i ∷ ws) = let e : suc n * 5 ≡ suc (suc (suc (suc (suc (n * 5))))) = omega arith in rw e (updates_drop n ws)

first_record : (ws : List ℕ) → 4 < length ws → updates ws ≡ update_of (record_at ws 0) ∷ updates (drop 5 ws)
unfolding updates
first_record [] h = absurd (omega arith)
first_record (k ∷ []) h = absurd (omega arith)
first_record (k ∷ t ∷ []) h = absurd (omega arith)
first_record (k ∷ t ∷ a ∷ []) h = absurd (omega arith)
first_record (k ∷ t ∷ a ∷ z ∷ []) h = absurd (omega arith)
first_record (k ∷ t ∷ a ∷ z ∷ i ∷ ws) h = refl

updates_short : (ws : List ℕ) → length ws < 5 → updates ws ≡ []
unfolding updates
updates_short [] h = refl
updates_short (k ∷ []) h = refl
updates_short (k ∷ t ∷ []) h = refl
updates_short (k ∷ t ∷ a ∷ []) h = refl
updates_short (k ∷ t ∷ a ∷ z ∷ []) h = refl
updates_short (k ∷ t ∷ a ∷ z ∷ i ∷ ws) h = absurd (omega arith)

-- how many records there are
pub length_updates : (b : List ℕ) → length (updates b) ≡ length b / 5
unfolding updates
length_updates [] = refl
length_updates (k ∷ []) = refl
length_updates (k ∷ t ∷ []) = refl
length_updates (k ∷ t ∷ a ∷ []) = refl
length_updates (k ∷ t ∷ a ∷ z ∷ []) = refl
length_updates (k ∷ t ∷ a ∷ z ∷ i ∷ ws) = omega (arith, length_updates ws)

-- whole records before others
pub updates_append : (b d : List ℕ) → length b % 5 ≡ 0 → updates (b ++ d) ≡ updates b ++ updates d
unfolding updates
updates_append [] d h = refl
updates_append (k ∷ []) d h = absurd (omega arith)
updates_append (k ∷ t ∷ []) d h = absurd (omega arith)
updates_append (k ∷ t ∷ a ∷ []) d h = absurd (omega arith)
updates_append (k ∷ t ∷ a ∷ z ∷ []) d h = absurd (omega arith)
updates_append (k ∷ t ∷ a ∷ z ∷ i ∷ b) d h = rw (updates_append b d (omega arith))

-- the record n, and the end of the records
pub update_at : (b : List ℕ) (n : ℕ) → n < length b / 5 → drop n (updates b) ≡ update_of (record_at b n) ∷ drop (n + 1) (updates b)
update_at b n h =
    let e : n * 5 + 5 ≡ (n + 1) * 5 = omega arith in
    let f : drop 5 (drop (n * 5) b) ≡ drop ((n + 1) * 5) b = drop-drop 5 (n * 5) b ∙ rw e in
    sym (updates_drop n b) ∙ (first_record (drop (n * 5) b) (simp length-drop (omega arith)) ∙ simp (f, updates_drop (n + 1) b, get_or-drop, add-zero))

pub update_end : (b : List ℕ) (n : ℕ) → length b / 5 ≤ n → drop n (updates b) ≡ []
update_end b n h = sym (updates_drop n b) ∙ updates_short (drop (n * 5) b) (simp length-drop (omega arith))

first_of_five : (b : List ℕ) → 4 < length b → record_of (take 5 b) ≡ record_at b 0
first_of_five [] h = absurd (omega arith)
first_of_five (k ∷ []) h = absurd (omega arith)
first_of_five (k ∷ t ∷ []) h = absurd (omega arith)
first_of_five (k ∷ t ∷ a ∷ []) h = absurd (omega arith)
first_of_five (k ∷ t ∷ a ∷ z ∷ []) h = absurd (omega arith)
first_of_five (k ∷ t ∷ a ∷ z ∷ i ∷ ws) h = refl

-- the records as arrays of five words are those updates
pub updates_records : (b : List ℕ) → updates_of (records_of b) ≡ updates b
unfolding updates_of
updates_records b = go (length b / 5) b refl
  where
    go : (n : ℕ) (b : List ℕ) → length b / 5 ≡ n → updates_of (first_chunks 5 n b) ≡ updates b
    go zero b e = sym (updates_short b (omega arith))
    go (suc n) b e =
        ap₂ ◌∷◌ (ap update_of (first_of_five b (omega arith))) (go n (drop 5 b) (omega (arith, length-drop 5 b))) ∙ sym (first_record b (omega arith))

pub length_updates_of : (rs : List (List ℕ)) → length (updates_of rs) ≡ length rs
unfolding updates_of
length_updates_of [] = refl
length_updates_of (ws ∷ rs) = ap suc (length_updates_of rs)

-- the array n is the record n, and the end of the arrays
pub array_at :
    (rs : List (List ℕ)) (n : ℕ) {u : Record} → n < length rs → u ≡ record_of (get_or rs n []) →
    drop n (updates_of rs) ≡ update_of u ∷ drop (n + 1) (updates_of rs)
unfolding updates_of
array_at [] n h e = absurd (omega arith)
array_at (w ∷ rs) zero h e = rw e
array_at (w ∷ rs) (suc n) h e = let m : suc n + 1 ≡ suc (n + 1) = omega arith in rw m (array_at rs n (omega arith) e)

pub array_end : (rs : List (List ℕ)) (n : ℕ) → length rs ≤ n → drop n (updates_of rs) ≡ []
array_end rs n h = drop_of_length-le (updates_of rs) (omega (arith, length_updates_of rs))

-- and is so of a batch
pub length_records : (b : List ℕ) → length (records_of b) ≡ length b / 5
length_records b = go (length b / 5) b
  where
    go : (n : ℕ) (b : List ℕ) → length (first_chunks 5 n b) ≡ n
    go zero b = refl
    go (suc n) b = ap suc (go n (drop 5 b))

pub updates_same : (b : List ℕ) {rs : List (List ℕ)} → rs ≡ records_of b → updates_of rs ≡ updates b
updates_same b r = ap updates_of r ∙ updates_records b

pub array_in :
    (b : List ℕ) {rs : List (List ℕ)} (n : ℕ) {u : Record} → rs ≡ records_of b → n < length rs → u ≡ record_of (get_or rs n []) →
    drop n (updates b) ≡ update_of u ∷ drop (n + 1) (updates b)
array_in b {rs} n r h e = let same : updates_of rs ≡ updates b = updates_same b r in rw same at (array_at rs n h e)

pub array_of :
    (b : List ℕ) {rs : List (List ℕ)} (n : ℕ) {u : Record} → rs ≡ records_of b → n < length rs → u ≡ record_of (get_or rs n []) →
    update_of u ≡ update_of (record_at b n)
array_of b {rs} n {u} r h e =
    let there : update_of u ∷ drop (n + 1) (updates b) ≡ update_of (record_at b n) ∷ drop (n + 1) (updates b) =
    sym (array_in b n r h e) ∙ update_at b n (omega (arith, ap length r ∙ length_records b)) in
    ap (λ us. get_or us 0 (update_of u)) there

pub array_beyond : (b : List ℕ) {rs : List (List ℕ)} (n : ℕ) → rs ≡ records_of b → length rs ≤ n → drop n (updates b) ≡ []
array_beyond b {rs} n r h = let same : updates_of rs ≡ updates b = updates_same b r in rw same at (array_end rs n h)

-- whether one of them passes a test
pub any_array : (f : Update → Bool) (rs : List (List ℕ)) → list_any (λ ws. f (update_of (record_of ws))) rs ≡ any_update f (updates_of rs)
unfolding updates_of any_update
any_array f [] = refl
any_array f (ws ∷ rs) = ap (λ b. f (update_of (record_of ws)) || b) (any_array f rs)

-- all of them are the first so many
pub take_arrays : (rs : List (List ℕ)) → take (length rs) (updates_of rs) ≡ updates_of rs
take_arrays rs = take_all (length rs) (updates_of rs) (omega (arith, length_updates_of rs))

-- the first so many of them, which may be more than there are
pub take_array : (n : ℕ) (rs : List (List ℕ)) → updates_of (take n rs) ≡ take n (updates_of rs)
unfolding updates_of
take_array zero rs = refl
take_array (suc n) [] = refl
take_array (suc n) (ws ∷ rs) = ap (λ us. update_of (record_of ws) ∷ us) (take_array n rs)

pub first_arrays : (n : ℕ) (rs : List (List ℕ)) → updates_of (take (min n (length rs)) rs) ≡ take n (updates_of rs)
first_arrays n rs = take_array (min n (length rs)) rs ∙ (rw (← length_updates_of rs) (take_min n (updates_of rs)))

-- the first n records are read: one of all is ill formed exactly where bad says so of these or one of the rest is, and the same of
-- the order, with the rank of the last record read
pub record Reads (rs : List (List ℕ)) (bad fallen : Bool) (before n : ℕ) : Type 0 where
  pub formed : any_update ill_formed (updates_of rs) ≡ (bad || any_update ill_formed (drop n (updates_of rs)))
  pub ordered : falls 0 (updates_of rs) ≡ (fallen || falls before (drop n (updates_of rs)))

pub reads_start : (rs : List (List ℕ)) → Reads rs false false 0 0
reads_start rs = record { formed = refl; ordered = refl }

pub reads_turn :
    {rs : List (List ℕ)} {bad fallen : Bool} {before n : ℕ} → Reads rs bad fallen before n → n < length rs → (u : Record) → u ≡ record_of (get_or rs n []) →
    Reads rs (bad || ill_formed (update_of u)) (fallen || ltb (rank u.term u.from) before) (rank u.term u.from) (n + 1)
unfolding any_update falls
reads_turn {rs} {bad} {fallen} {before} {n} r h u e =
    record {
      formed = r.formed ∙ rw (array_at rs n h e) (sym (or_assoc bad _ _));
      ordered = r.ordered ∙ rw (array_at rs n h e) (sym (or_assoc fallen _ _));
    }

pub reads_end :
    {rs : List (List ℕ)} {bad fallen : Bool} {before n : ℕ} → Reads rs bad fallen before n → length rs ≤ n →
    (bad ≡ any_update ill_formed (updates_of rs)) × (fallen ≡ falls 0 (updates_of rs))
unfolding any_update falls
reads_end {rs} {bad} {fallen} {before} {n} r h =
    (sym (r.formed ∙ rw (array_end rs n h) (or-false bad)), sym (r.ordered ∙ rw (array_end rs n h) (or-false fallen)))

-- the number that the code answers at each of its returns
pub number_ragged : (b : List ℕ) → length b % 5 ≢ 0 → 6 ≡ batch_number b
unfolding batch_number first_of
number_ragged b h = rw (ne_eqb (length b % 5) 0 h)

module _ (b : List ℕ) {rs : List (List ℕ)} (r : rs ≡ records_of b) (whole : length b % 5 ≡ 0) where
  so_many : length rs ≡ length b / 5
  so_many = ap length r ∙ length_records b

  pub number_long : 4096 < length rs → 6 ≡ batch_number b
  unfolding batch_number first_of
  number_long h = rw (eq-eqb (length b % 5) 0 whole, lt-ltb 20480 (length b) (omega (arith, so_many)))

  pub number_read :
      length rs ≤ 4096 → (bad numbered fallen : Bool) → bad ≡ any_update ill_formed (updates_of rs) → numbered ≡ ill_numbered (updates_of rs) →
      fallen ≡ falls 0 (updates_of rs) → cond bad 6 (cond numbered 14 (cond fallen 7 0)) ≡ batch_number b
  unfolding batch_number first_of
  number_read h bad numbered fallen e f g =
      let formed : any_update ill_formed (updates b) ≡ bad = sym (e ∙ ap (any_update ill_formed) (updates_same b r)) in
      let arrived : ill_numbered (updates b) ≡ numbered = sym (f ∙ ap ill_numbered (updates_same b r)) in
      let ordered : falls 0 (updates b) ≡ fallen = sym (g ∙ ap (falls 0) (updates_same b r)) in
      rw (eq-eqb (length b % 5) 0 whole, le-ltb 20480 (length b) (omega (arith, so_many)), formed, arrived, ordered)
