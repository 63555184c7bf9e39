-- Figures with the same numbers.
use Rattle.std.proofs.Common.{◌≡◌, ℕ, Bool, List, Option}
use Rattle.run_watch.specs.declared.answer.Watched.{Watched}
use Rattle.run_survey.specs.declared.figures.Figures.{Figures}

abbrev figures : Bool → Option Watched → List ℕ → List ℕ → List ℕ → List ℕ → List ℕ → Figures
figures complete watched outputs lost unused jammed taken =
    record {
      complete = complete;
      outputs = outputs;
      lost = lost;
      unused = unused;
      jammed = jammed;
      taken = taken;
      watched = watched;
    }

pub same_figures : (complete : Bool) (watched : Option Watched) {a b c d e f g h i j : List ℕ}
    → a ≡ f → b ≡ g → c ≡ h → d ≡ i → e ≡ j
    → figures complete watched a b c d e ≡ figures complete watched f g h i j
same_figures complete watched p q r s t =
    λ i. figures complete watched (p i) (q i) (r i) (s i) (t i)
