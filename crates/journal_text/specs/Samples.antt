-- Journal texts, and alterations of them.
use Rattle.std.specs.Prelude.{ℕ, List, ◌∷◌, [], ◌++◌, codes}
use Rattle.polis_base.specs.Lines.{line}
use Rattle.journals.specs.declared.entry.Entry.{Entry}
use Rattle.journals.specs.declared.entry.Entry.TheVariants.{Dep}
use Rattle.transition_table.specs.declared.decl.Party.TheVariants.{Env}

abbrev pub head_1 : List ℕ
head_1 = line (codes "polis journal 1")

abbrev pub head_2 : List ℕ
head_2 = line (codes "polis journal 2")

-- three deliveries and a firing, with any first line and any line of the firing
abbrev pub join_with : List ℕ → List ℕ → List ℕ
join_with first firing = head_1 ++ line first ++ line (codes "dep env m a")
    ++ line (codes "dep env m b") ++ line firing

abbrev pub join_entries : List ℕ
join_entries = join_with (codes "dep env m a") (codes "fire m : a b ; - -> - ; c")

-- the same with stamps, the first stamp being any text
abbrev pub join_stamped : List ℕ → List ℕ
join_stamped stamp =
    head_2 ++ line (stamp ++ codes " dep env m a") ++ line (codes "@2 dep env m a")
    ++ line (codes "@3 dep env m b")
    ++ line (codes "@4 fire m : a b ; - -> - ; c") ++ line (codes "end 4 complete")

abbrev pub one_delivery : List Entry
one_delivery = Dep Env 0 0 1 ∷ []
