-- The list as which places are kept.
use Rattle.std.specs.Prelude.{ℕ, List}
use Rattle.sgraph.specs.declared.places.Kept.{Kept}
use Rattle.sgraph.specs.declared.places.Kept.TheVariants.{Two, Many}

abbrev pub places_of : Kept → List ℕ
places_of (Two places) = places
places_of (Many places) = places
