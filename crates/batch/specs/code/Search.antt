-- What the code's walks over a batch answer.
use Rattle.std.specs.Prelude.{ℕ, zero, suc, min, max, ◌+◌, ◌*◌, ◌/◌, ◌≤◌, ◌<◌, ◌≡◌, Bool, true, false, cond, ◌&&◌, ◌||◌, List, [], ◌∷◌, length, take, drop, get_or, ltb, leb, eqb, Option, Some, None}
use Rattle.pair.specs.Rank.{word_limit, rank, position}
use Rattle.batch.specs.declared.Addition.{Addition}
use Rattle.batch.specs.declared.Cursor.{Cursor}
use Rattle.batch.specs.declared.Decision.{Decision}
use Rattle.batch.specs.declared.Latest.{Latest}
use Rattle.batch.specs.declared.Passed.{Passed}
use Rattle.batch.specs.declared.reading.Record.{Record}
use Rattle.batch.specs.declared.Removal.{Removal}
use Rattle.batch.specs.Batch.{Update, updates, latest}
use Rattle.batch.specs.code.Rounds.{starts, begun, reached, annuls_later}

-- the record n, and the update that a record is
abbrev pub record_at : List ℕ → ℕ → Record
record_at b n =
    record {
      kind = get_or b (n * 5) 0;
      term = get_or b (n * 5 + 1) 0;
      from = get_or b (n * 5 + 2) 0;
      to = get_or b (n * 5 + 3) 0;
      arrival = get_or b (n * 5 + 4) 0;
    }

abbrev pub update_of : Record → Update
update_of u = record { kind = u.kind; term = u.term; from = u.from; to = u.to; arrival = u.arrival }

-- its term and its from are 32-bit words
pub record UpdateWords (u : Update) : Type 0 where
  pub term_word : u.term < word_limit
  pub from_word : u.from < word_limit

-- the update adds a pair above k
unfoldable pub adds_above : ℕ → Update → Bool
adds_above k u = eqb u.kind 1 && ltb k (rank u.term u.from)

-- the lesser of two, where 0 stands for none
unfoldable pub lesser : ℕ → ℕ → ℕ
lesser zero b = b
lesser (suc a) zero = suc a
lesser (suc a) (suc b) = suc (min a b)

-- the least pair above k that the batch adds, 0 for none
unfoldable pub least_added : ℕ → List Update → ℕ
least_added k [] = 0
least_added k (u ∷ us) = cond (adds_above k u) (lesser (rank u.term u.from) (least_added k us)) (least_added k us)

-- the pair of the first update that adds one above k
unfoldable pub first_added : ℕ → List Update → Option ℕ
first_added k [] = None
first_added k (u ∷ us) = cond (adds_above k u) (Some (rank u.term u.from)) (first_added k us)

-- how many updates stand before that one
unfoldable pub before_added : ℕ → List Update → ℕ
before_added k [] = 0
before_added k (u ∷ us) = cond (adds_above k u) 0 (suc (before_added k us))

-- the first addition above k from the record n on
unfoldable pub next_addition : List ℕ → ℕ → ℕ → Addition
next_addition b n k = record { at = n + before_added k (drop n (updates b)); rank = first_added k (drop n (updates b)) }

-- the leading updates that start at or below x
unfoldable pub starting_to : ℕ → List Update → List Update
starting_to x [] = []
starting_to x (u ∷ us) = cond (ltb x (rank u.term u.from)) [] (u ∷ starting_to x us)

-- the greatest pair that a removal of the kind reaches to, or k
unfoldable pub reach_with : ℕ → Update → ℕ → ℕ
reach_with r u k = cond (eqb u.kind r && ltb k (rank u.term u.to)) (rank u.term u.to) k

unfoldable pub reach_of : ℕ → ℕ → List Update → ℕ
reach_of r k [] = k
reach_of r k (u ∷ us) = reach_of r (reach_with r u k) us

-- the pair of the last addition, or k
unfoldable pub added_with : Update → ℕ → ℕ
added_with u k = cond (eqb u.kind 1) (rank u.term u.from) k

unfoldable pub added_of : ℕ → List Update → ℕ
added_of k [] = k
added_of k (u ∷ us) = added_of (added_with u k) us

-- the greatest arrival number of the additions of that pair, of which n was the greatest at the pair k
unfoldable pub arrived_with : Update → ℕ → ℕ → ℕ
arrived_with u k n = cond (eqb u.kind 1) (cond (eqb (rank u.term u.from) k) (max n u.arrival) u.arrival) n

unfoldable pub arrived_of : ℕ → ℕ → List Update → ℕ
arrived_of k n [] = n
arrived_of k n (u ∷ us) = arrived_of (added_with u k) (arrived_with u k n) us

-- the greatest arrival number of the rounds, or k
unfoldable pub rounds_with : Update → ℕ → ℕ
rounds_with u k = cond (eqb u.kind 3) (max k u.arrival) k

unfoldable pub rounds_of : ℕ → List Update → ℕ
rounds_of k [] = k
rounds_of k (u ∷ us) = rounds_of (rounds_with u k) us

-- how many records there are up to the last removal of a term, or k: the update is the last of n records, the updates stand behind n
unfoldable pub removals_with : Update → ℕ → ℕ → ℕ
removals_with u n k = cond (eqb u.kind 2) n k

unfoldable pub removals_of : ℕ → ℕ → List Update → ℕ
removals_of n k [] = k
removals_of n k (u ∷ us) = removals_of (n + 1) (removals_with u (n + 1) k) us

-- updates passed after others
unfoldable pub behind : Passed → List Update → Passed
behind k us =
    record {
      next = k.next + length us;
      rounds = rounds_of k.rounds us;
      removals = removals_of k.next k.removals us;
      reach = reach_of 2 k.reach us;
      added = added_of k.added us;
      arrived = arrived_of k.added k.arrived us;
    }

-- the update removes positions of its term and reaches to the pair
unfoldable pub reaches_to : ℕ → Update → Bool
reaches_to x u = eqb u.kind 2 && leb x (rank u.term u.to)

-- the latest removal that reaches to the pair, of l and one update more: the pair that it reaches to, and its arrival number
unfoldable pub latest_with : ℕ → Update → Latest → Latest
latest_with x u l = cond (reaches_to x u && ltb l.arrival u.arrival) (record { reach = rank u.term u.to; arrival = u.arrival }) l

unfoldable pub latest_of : ℕ → Latest → List Update → Latest
latest_of x l [] = l
latest_of x l (u ∷ us) = latest_of x (latest_with x u l) us

abbrev pub none : Latest
none = record { reach = 0; arrival = 0 }

-- the further updates that start at or below the pair
abbrev pub further : List Update → ℕ → ℕ → List Update
further us n x = starting_to x (drop n us)

-- they are passed too
unfoldable pub passed_to : List Update → Passed → ℕ → Passed
passed_to us k x = behind k (further us k.next x)

unfoldable pub passing : List Update → Cursor → ℕ → Cursor
passing us k x =
    record { passed = passed_to us k.passed x; latest = latest_of x k.latest (further us k.passed.next x); begun = k.begun }

-- the latest of n records that reaches to the pair, sought anew only where the one in hand arrived after a and does not reach to it
unfoldable pub renewed : List Update → ℕ → Latest → ℕ → ℕ → Latest
renewed us n l x a = cond (ltb a l.arrival && ltb l.reach x) (latest_of x none (take n us)) l

-- a removal of its term takes the pair away: where no record adds it, one reaches to it; where one does, such a removal arrived later
unfoldable pub removal : List Update → Cursor → ℕ → Removal
removal us k x =
    let p = k.passed in
    let found = renewed us p.removals k.latest x p.arrived in
    cond (leb x p.reach)
    (cond (eqb x p.added) (record { latest = found; removed = ltb p.arrived found.arrival }) (record { latest = k.latest; removed = true }))
    (record { latest = k.latest; removed = false })

-- one of the first j rounds takes the position p away, by where they reach to: where its pair is added, one that arrived later, which is sought
-- where any round did
unfoldable pub annulled : List Update → List ℕ → ℕ → ℕ → Bool → Passed → Bool
annulled us ts j p added k = reached ts j p && cond added (ltb k.arrived k.rounds && annuls_later us j p k.arrived) true

-- what is decided of a pair behind the further updates; rounds are looked at where no removal of its term takes it away
unfoldable pub decided : List ℕ → List ℕ → Cursor → ℕ → Decision
decided b ts k x =
    let now = passing (updates b) k x in
    let r = removal (updates b) now x in
    let sought = begun (starts (updates b)) (min (length ts) (length b / 5)) k.begun (position x) in
    record {
      cursor = record { passed = now.passed; latest = r.latest; begun = cond r.removed k.begun sought };
      withdrawn = r.removed || annulled (updates b) ts sought (position x) (eqb x now.passed.added) now.passed;
    }

-- before the first question
abbrev pub start : Cursor
start = record { passed = record { next = 0; rounds = 0; removals = 0; reach = 0; added = 0; arrived = 0 }; latest = none; begun = 0 }

-- all updates passed that start at or below the rank k
unfoldable pub asked : List ℕ → ℕ → Passed
asked b k = passed_to (updates b) start.passed k

-- the removal in hand serves pairs from k on, of which those passed that reach to a pair have the greatest arrival number m there: none
-- arrived after it, and where it reaches to the pair it is the latest itself
pub record Serves (m : ℕ → ℕ) (k : ℕ) (l : Latest) : Type 0 where
  pub most : (x : ℕ) → k ≤ x → m x ≤ l.arrival
  pub just : (x : ℕ) → k ≤ x → x ≤ l.reach → m x ≡ l.arrival

-- the cursor follows questions up to k: at a later pair it has passed all updates that start at or below that
pub record Follows (b : List ℕ) (k : ℕ) (cursor : Cursor) : Type 0 where
  pub passes : (x : ℕ) → k ≤ x → passed_to (updates b) cursor.passed x ≡ asked b x
  pub serves : Serves (λ x. latest (reaches_to x) (take cursor.passed.next (updates b))) k cursor.latest
