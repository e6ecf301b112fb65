-- The configuration by value: of a card whose configuration words are in order its fields are the words, and it names the places of the circle.
use Prim.Native.Nat.{ℕ, ◌+◌, ◌%◌, ◌<◌}
use mathlib.Core.Path.{◌≡◌, refl}
use mathlib.Core.Bool.{Bool, true, false, cond}
use mathlib.Core.List.{List}
use native.Mathlib.Nat.{mod-add-mod}
use native.Mathlib.Omega.{arith}
use lib.ListN.{length}
use lib.Seq.{sets, length-sets}
use lib.Dec.{ltb}
use borrow.Author.Tests.{ne_eqb}
use Rattle.card.specs.declared.layout.Configuration.{Configuration}
use Rattle.card.specs.Layout.{configuration_list, place_count, start_of_old, length_of_old, length_of_new, around, due_place}
use Rattle.card.specs.code.Configuration.{ConfigurationOf, put, place_on, Shaped, Ordered}
use Rattle.card.proofs.Circle.{around_mod}
use Rattle.card.proofs.Facts.{Facts}

-- The fields are the words.
pub ordered :
    {c : List ℕ} {k : Configuration} → Shaped c → start_of_old c < place_count c → length_of_old c + length_of_new c < place_count c → ConfigurationOf c k →
    Ordered c k
ordered s a r e =
    record {
      shaped = s;
      of_format = e.of_format;
      of_size = omega (arith, s.size_high, e.of_size);
      of_places = omega (arith, s.count_high, e.of_places);
      of_start = omega (arith, s.count_high, e.of_start);
      of_old = omega (arith, s.count_high, e.of_old);
      of_new = omega (arith, s.count_high, e.of_new);
      of_boundary = e.of_boundary;
      start = a;
      room = r;
    }

-- A sound card has its shape, and its configuration words are in order.
pub shaped : {c : List ℕ} → Facts c → Shaped c
shaped f = record { size_high = f.size_high; count_low = f.count_low; count_high = f.count_high; long = f.long }

pub ordered_sound : {c : List ℕ} {k : Configuration} → Facts c → ConfigurationOf c k → Ordered c k
ordered_sound f e = ordered (shaped f) f.start f.room e

-- Its places are those of the circle,
pub place_on_circle : {c : List ℕ} (n start j : ℕ) → Shaped c → n ≡ place_count c → place_on n start j ≡ (start + j) % place_count c
unfolding place_on
place_on_circle {c} n start j s e = rw (e, ne_eqb (place_count c) 0 (omega (arith, s.count_low)))

-- The configuration words leave the length.
pub length_put : (ws : List ℕ) (k : Configuration) → length (put ws k) ≡ length ws
unfolding put
length_put ws k = go (ltb (length ws) 8)
  where
    go : (t : Bool) →
        length (cond t ws (sets ws 0 (configuration_list k.format k.size k.places k.old_start k.old_length k.new_length k.boundary))) ≡ length ws
    go true = refl
    go false = length-sets ws 0 (configuration_list k.format k.size k.places k.old_start k.old_length k.new_length k.boundary)

module _ {c : List ℕ} {k : Configuration} (o : Ordered c k) (start j : ℕ) where
  pub place_on_law : place_on k.places start j ≡ (start + j) % place_count c
  place_on_law = place_on_circle k.places start j o.shaped o.of_places

  -- and a stretch goes on from them.
  pub around_on : (len : ℕ) → around (place_count c) (place_on k.places start j) len ≡ around (place_count c) (start + j) len
  around_on len = rw place_on_law (around_mod (place_count c) (start + j) len)

-- The place after the new segment.
pub due_place_on : {c : List ℕ} {k : Configuration} → Ordered c k →
    place_on k.places (place_on k.places k.old_start k.old_length) k.new_length ≡ due_place c
unfolding due_place
due_place_on {c} {k} o =
    rw (place_on_law o k.old_start k.old_length, place_on_law o ((k.old_start + k.old_length) % place_count c) k.new_length, o.of_start, o.of_old, o.of_new)
    (mod-add-mod (start_of_old c + length_of_old c) (place_count c) (length_of_new c))
