-- A batch in another order, and a file's batch in its own.
use Prim.Native.Nat.{ℕ, suc, ◌≤◌}
use native.Mathlib.Omega.{arith}
use native.Mathlib.Nat.{le_refl}
use mathlib.Core.Path.{◌≡◌, refl, sym, ap, ap₂, ◌∙◌}
use mathlib.Core.Bool.{Bool, true, false, cond, not, ◌&&◌, ◌||◌}
use mathlib.Core.List.{List, [], ◌∷◌, map}
use borrow.Author.Tests.{lt-ltb, le-ltb, ltb-false, leb-true}
use lib.ListN.{length, get_or, length-map}
use lib.Dec.{ltb, leb, eqb}
use Rattle.pair.specs.Rank.{rank}
use Rattle.pair.specs.Rising.{any}
use Rattle.pair.proofs.Rising.{rises_from}
use Rattle.pair.proofs.Sets.{has, rises_ext}
use Rattle.pair.proofs.Tests.{and_left, and_right}
use Rattle.batch.specs.Batch.{Update, updates, any_update, adds, removes, latest, withdrawn, applied, falls, arrivals}
use Rattle.batch.specs.Claims.{touches, LatestDecides}
use Rattle.batch.proofs.Arriving.{latest_after}
use Rattle.batch.proofs.Deciding.{latest_decides}
use Rattle.batch.proofs.Meaning.{added, has_applied, rises_applied}
use Rattle.sort.specs.Sort.{laid, key_at, sorted}
use Rattle.sort.specs.Claims.{those, Rearranged, in_order_from, SortRearranges, SortOrders}
use Rattle.sort.proofs.Claims.{sort_rearranges, sort_orders}
use Rattle.sort.proofs.Records.{Wide, sorted_wide}
use Rattle.lines.specs.Lines.{lines, line_record, fault, numbered, line_records, batch_of}
use Rattle.lines.specs.Claims.{RoomEnough, BatchSorted, counted, LinesCounted, LinesNumbered, OrderMeansNothing, LastLineDecides}
use Rattle.lines.proofs.Answers.{lines_wide, records_wide}
use Rattle.lines.proofs.Numbered.{numbered_wide, counted_numbers, counted_last}
use Rattle.lines.proofs.Room.{room_number}

pub room_enough : RoomEnough
unfolding RoomEnough
room_enough = room_number

-- whether an update of some kind is there is told by how many pass
any_those : (f : Update → Bool) (us : List Update) → any_update f us ≡ ltb 0 (length (those f us))
unfolding any_update those
any_those f [] = refl
any_those f (u ∷ us) = go (any_those f us) (f u)
  where
    go : any_update f us ≡ ltb 0 (length (those f us)) → (t : Bool) → (t || any_update f us) ≡ ltb 0 (length (cond t (u ∷ those f us) (those f us)))
    go ih true = sym (lt-ltb 0 (suc (length (those f us))) (omega arith))
    go ih false = ih

any_alike : (us vs : List Update) → Rearranged us vs → (f : Update → Bool) → any_update f us ≡ any_update f vs
unfolding Rearranged
any_alike us vs r f = any_those f us ∙ ap (ltb 0) (r f) ∙ sym (any_those f vs)

-- two numbers are the same where the same numbers are below both
below_alike : (m n : ℕ) → ((a : ℕ) → ltb a m ≡ ltb a n) → m ≡ n
below_alike m n e =
    let first : m ≤ n = ltb-false n m (e n ∙ le-ltb n n (le_refl n)) in
    let second : n ≤ m = ltb-false m n (sym (e m) ∙ le-ltb m m (le_refl m)) in
    omega (arith, first, second)

-- so the latest of some kind arrived with the same number
latest_alike : (us vs : List Update) → Rearranged us vs → (f : Update → Bool) → latest f us ≡ latest f vs
latest_alike us vs r f =
    below_alike (latest f us) (latest f vs)
    (λ a. latest_after f us a ∙ any_alike us vs r (λ u. f u && ltb a u.arrival) ∙ sym (latest_after f vs a))

pub order_means_nothing : OrderMeansNothing
unfolding OrderMeansNothing added withdrawn
order_means_nothing us vs r s k e =
    let up = rises_from s k e in
    rises_ext (applied us s) (applied vs s) (rises_applied us s up) (rises_applied vs s up)
    (λ x.
    has_applied x us s
    ∙ ap₂ (λ w a. not w && (a || has x s)) (ap₂ ltb (latest_alike us vs r (adds x)) (latest_alike us vs r (removes x))) (any_alike us vs r (adds x))
    ∙ sym (has_applied x vs s))

-- the update of a record's words
unfoldable update_from : List ℕ → Update
update_from r = record { kind = get_or r 0 0; term = get_or r 1 0; from = get_or r 2 0; to = get_or r 3 0; arrival = get_or r 4 0 }

updates_laid : (rs : List (List ℕ)) → Wide 5 rs → updates (laid rs) ≡ map update_from rs
unfolding updates laid update_from
updates_laid [] w = refl
updates_laid ([] ∷ rs) w = absurd (omega (arith, w.0))
updates_laid ((a ∷ []) ∷ rs) w = absurd (omega (arith, w.0))
updates_laid ((a ∷ b ∷ []) ∷ rs) w = absurd (omega (arith, w.0))
updates_laid ((a ∷ b ∷ c ∷ []) ∷ rs) w = absurd (omega (arith, w.0))
updates_laid ((a ∷ b ∷ c ∷ d ∷ []) ∷ rs) w = absurd (omega (arith, w.0))
updates_laid ((a ∷ b ∷ c ∷ d ∷ n ∷ []) ∷ rs) w = ap (λ us. record { kind = a; term = b; from = c; to = d; arrival = n } ∷ us) (updates_laid rs w.1)
updates_laid ((a ∷ b ∷ c ∷ d ∷ n ∷ e ∷ r) ∷ rs) w = absurd (omega (arith, w.0))

those_map : (f : Update → Bool) (rs : List (List ℕ)) → length (those f (map update_from rs)) ≡ length (those (λ r. f (update_from r)) rs)
unfolding those
those_map f [] = refl
those_map f (r ∷ rs) = go (those_map f rs) (f (update_from r))
  where
    go :
        length (those f (map update_from rs)) ≡ length (those (λ r. f (update_from r)) rs) → (t : Bool) →
        length (cond t (update_from r ∷ those f (map update_from rs)) (those f (map update_from rs))) ≡
        length (cond t (r ∷ those (λ r. f (update_from r)) rs) (those (λ r. f (update_from r)) rs))
    go ih true = ap suc ih
    go ih false = ih

-- records in order of their key make updates in order
never_falls : (rs : List (List ℕ)) (x : ℕ) → in_order_from (key_at 1) x rs ≡ true → falls x (map update_from rs) ≡ false
unfolding in_order_from falls key_at update_from
never_falls [] x o = refl
never_falls (r ∷ rs) x o =
    let k = rank (get_or r 1 0) (get_or r 2 0) in
    rw (le-ltb k x (leb-true x k (and_left (leb x k) (in_order_from (key_at 1) k rs) o))) (never_falls rs k (and_right (leb x k) (in_order_from (key_at 1) k rs) o))

pub batch_sorted : BatchSorted
unfolding BatchSorted Rearranged batch_of SortRearranges SortOrders
batch_sorted bytes e =
    let rs = line_records bytes in
    let w = records_wide bytes e in
    let all = updates_laid rs w in
    let in_order = updates_laid (sorted (key_at 1) rs) (sorted_wide (key_at 1) 5 rs w) in (
      λ f. ap (λ us. length (those f us)) in_order ∙ those_map f (sorted (key_at 1) rs) ∙ sort_rearranges (key_at 1) rs (λ r. f (update_from r))
          ∙ sym (those_map f rs) ∙ ap (λ us. length (those f us)) (sym all),
      ap (falls 0) in_order ∙ never_falls (sorted (key_at 1) rs) 0 (sort_orders (key_at 1) rs),
    )

-- the arrival numbers of records that were numbered
arrivals_numbered : (n : ℕ) (rs : List (List ℕ)) → Wide 4 rs → arrivals (map update_from (numbered n rs)) ≡ counted n (length rs)
unfolding arrivals update_from numbered counted
arrivals_numbered n [] w = refl
arrivals_numbered n ([] ∷ rs) w = absurd (omega (arith, w.0))
arrivals_numbered n ((a ∷ []) ∷ rs) w = absurd (omega (arith, w.0))
arrivals_numbered n ((a ∷ b ∷ []) ∷ rs) w = absurd (omega (arith, w.0))
arrivals_numbered n ((a ∷ b ∷ c ∷ []) ∷ rs) w = absurd (omega (arith, w.0))
arrivals_numbered n ((a ∷ b ∷ c ∷ d ∷ []) ∷ rs) w = ap (λ ns. n ∷ ns) (arrivals_numbered (suc n) rs w.1)
arrivals_numbered n ((a ∷ b ∷ c ∷ d ∷ e ∷ r) ∷ rs) w = absurd (omega (arith, w.0))

pub lines_counted : LinesCounted
unfolding LinesCounted line_records fault
lines_counted bytes e =
    let rs = map line_record (lines bytes) in
    let w = lines_wide 0 (lines bytes) e in
    ap arrivals (updates_laid (numbered 1 rs) (numbered_wide 1 rs w)) ∙ arrivals_numbered 1 rs w ∙ ap (counted 1) (length-map (lines bytes) line_record)

pub lines_numbered : LinesNumbered
unfolding LinesNumbered BatchSorted LinesCounted
lines_numbered bytes e =
    counted_numbers (updates (batch_of bytes)) (updates (laid (line_records bytes))) (length (lines bytes)) (batch_sorted bytes e).0 (lines_counted bytes e)

pub last_line_decides : LastLineDecides
unfolding LastLineDecides OrderMeansNothing BatchSorted LinesCounted LatestDecides
last_line_decides bytes us vs u x s k e up is h none =
    let last = counted_last (touches x) us vs u 1 (length (lines bytes)) (ap arrivals (sym is) ∙ lines_counted bytes e) none in
    ap (λ l. any (eqb x) l) (order_means_nothing (updates (batch_of bytes)) (updates (laid (line_records bytes))) (batch_sorted bytes e).0 s k up)
    ∙ ap (λ l. any (eqb x) (applied l s)) is ∙ latest_decides us vs u x s last.0 h last.1
