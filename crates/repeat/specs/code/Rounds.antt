-- A round: each number goes to its slot, and is left over where the slot has another.
use Rattle.std.specs.Prelude.{ℕ, ◌/◌, ◌%◌, ◌^◌, ◌≤◌, ◌≡◌, true, Option, Some, None, List, length, take, get_or}
use Rattle.repeat.specs.Repeats.{repeats}

-- the slot of a number: 12 of its bits, behind some that are left out
unfoldable pub slot_of : ℕ → ℕ → ℕ
slot_of bits x = x / 2 ^ bits % 4096

-- slots with no number in them
unfoldable pub Empty : List ℕ → Type 0
Empty slots = (length slots ≡ 4096) × ((i : ℕ) → get_or slots i 0 ≡ 0)

-- a number stands twice where a round answers nothing, or else where one does among those left over
pub record Left (numbers rest : List ℕ) (left : ℕ) : Type 0 where
  pub few : left ≤ length numbers
  pub whole : repeats numbers ≡ repeats (take left rest)

abbrev pub Leaves : List ℕ → List ℕ → Option ℕ → Type 0
Leaves numbers rest None = repeats numbers ≡ true
Leaves numbers rest (Some left) = Left numbers rest left
