-- The write that is planned with the due block in hand.
use Rattle.std.specs.Prelude.{ℕ, ◌+◌, ◌-◌, ◌≤◌, ◌≡◌, cond, not, Result, Ok, Err, IfOk, List, length, take}
use Rattle.pair.specs.Rank.{Proper}
use Rattle.pair.specs.Rising.{Each}
use Rattle.card.specs.declared.layout.Configuration as layout
use Rattle.card.specs.Layout.{configuration_words, length_of_old}
use Rattle.card.specs.code.Configuration.{place_on}
use Rattle.update.specs.declared.due.Due.{Due}
use Rattle.update.specs.declared.Written.TheVariants.{Configuration}
use Rattle.update.specs.declared.WritePlan.{WritePlan}
use Rattle.refusal.specs.declared.Refusal.{Refusal}
use Rattle.refusal.specs.Refusal.{number}
use Rattle.update.specs.Answer.{IsAnswer}
use Rattle.update.specs.Step.{Step, freed, next_write, crowded, taken, refused}
use Rattle.update.specs.code.Due.{Answers}

-- the old places that are freed, for whatever remains with this due block
pub record Freed (c : List ℕ) (d : Due) (n : ℕ) : Type 0 where
  pub few : n ≤ length_of_old c
  pub of : (r ws : List ℕ) → Answers c r ws d → n ≡ freed c r

-- the configuration after the write
unfoldable pub followed : layout.Configuration → Due → ℕ → ℕ → layout.Configuration
followed k d f g =
    record {
      format = k.format;
      size = k.size;
      places = k.places;
      old_start = place_on k.places k.old_start f;
      old_length = cond d.more (k.old_length - f) g;
      new_length = cond d.more g 0;
      boundary = cond d.more d.last 0;
    }

-- the plan of the configuration write
abbrev pub settling : Due → ℕ → WritePlan
settling d f = record { start = 0; count = configuration_words; written = Configuration f (not d.more) }

-- the step that is taken on a sound card where r remains
unfoldable pub step_with : List ℕ → List ℕ → Step
step_with c r = cond (crowded c r) (refused c 8) (taken c r (next_write c r))

-- the plan is that step's write, and the words hold it
pub record Makes (c : List ℕ) (s : Step) (ws : List ℕ) (p : WritePlan) : Type 0 where
  pub answer : IsAnswer s (Ok p.written)
  pub start : p.start ≡ s.made.start
  pub words : take p.count ws ≡ s.made.words
  pub inside : p.start + p.count ≤ length c

-- or that step is refused
abbrev pub PlanOf : List ℕ → Step → List ℕ → Result WritePlan Refusal → Type 0
PlanOf c s ws (Ok p) = Makes c s ws p
PlanOf c s ws (Err r) = s ≡ refused c (number r)

-- for whatever remains with this due block
pub record Planned (c before : List ℕ) (d : Due) (ws : List ℕ) (p : Result WritePlan Refusal) : Type 0 where
  pub few : IfOk p (λ q. q.count ≤ length ws)
  pub of : (r : List ℕ) → Each Proper r → Answers c r before d → PlanOf c (step_with c r) ws p
