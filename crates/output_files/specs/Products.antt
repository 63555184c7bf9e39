-- Products of one shape.
use Rattle.std.specs.Prelude.{ℕ, List, [], ◌∷◌}
use Rattle.output_files.specs.declared.product.End.{End}
use Rattle.output_files.specs.declared.product.End.TheVariants as ends
use Rattle.output_files.specs.declared.product.Product.{Product}

-- nothing is saved, a text is shown, and the call ends so
abbrev pub shows_and_ends : List ℕ → End → Product
shows_and_ends shown end = record { saves = []; shown = shown; end = end }

-- nothing is saved, a text is shown, and all is done
abbrev pub shows_only : List ℕ → Product
shows_only shown = shows_and_ends shown ends.Done

-- one text is saved under a name, another one is shown, and all is done
abbrev pub saves_one : List ℕ → List ℕ → List ℕ → Product
saves_one name text shown = record {
  saves = record { name = name; text = text } ∷ [];
  shown = shown;
  end = ends.Done;
}
