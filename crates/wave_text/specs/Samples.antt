-- The heads of waves of small networks, and a journal.
use Rattle.std.specs.Prelude.{ℕ, List, [], ◌∷◌, ◌++◌, codes}
use Rattle.polis_base.specs.Lines.{line}
use Rattle.transition_table.specs.declared.decl.Party.TheVariants.{Env}
use Rattle.journals.specs.declared.entry.Entry.{Entry}
use Rattle.journals.specs.declared.entry.Entry.TheVariants.{Dep}
use Rattle.journals.specs.Samples.{fires}

-- the lamp's head, and its codes at the start
abbrev pub lamp_head : List ℕ
lamp_head =
    line (codes "$version polis wave 1 $end")
    ++ line (codes "$timescale 1 ns $end")
    ++ line (codes "$scope module lamp $end")
    ++ line (codes "$scope module lamp_ctl $end")
    ++ line (codes "$var wire 1 0 press $end")
    ++ line (codes "$var string 1 1 s $end")
    ++ line (codes "$scope module lost-events $end")
    ++ line (codes "$var event 1 2 press $end")
    ++ line (codes "$upscope $end")
    ++ line (codes "$upscope $end")
    ++ line (codes "$scope module env $end")
    ++ line (codes "$var event 1 3 light $end")
    ++ line (codes "$upscope $end")
    ++ line (codes "$upscope $end")
    ++ line (codes "$enddefinitions $end")
    ++ line (codes "#0")
    ++ line (codes "$dumpvars")
    ++ line (codes "00")
    ++ line (codes "soff 1")
    ++ line (codes "$end")

-- those of a network whose events all have values
abbrev pub echo_head : List ℕ
echo_head =
    line (codes "$version polis wave 1 $end")
    ++ line (codes "$timescale 1 ns $end")
    ++ line (codes "$scope module echo $end")
    ++ line (codes "$scope module m $end")
    ++ line (codes "$var string 1 0 v $end")
    ++ line (codes "$var string 1 1 s $end")
    ++ line (codes "$scope module lost-events $end")
    ++ line (codes "$var event 1 2 v $end")
    ++ line (codes "$upscope $end")
    ++ line (codes "$upscope $end")
    ++ line (codes "$scope module env $end")
    ++ line (codes "$var event 1 3 w $end")
    ++ line (codes "$scope module last-values $end")
    ++ line (codes "$var string 1 4 w $end")
    ++ line (codes "$upscope $end")
    ++ line (codes "$upscope $end")
    ++ line (codes "$upscope $end")
    ++ line (codes "$enddefinitions $end")
    ++ line (codes "#0")
    ++ line (codes "$dumpvars")
    ++ line (codes "s- 0")
    ++ line (codes "s6 1")
    ++ line (codes "s- 4")
    ++ line (codes "$end")

-- the value 5 comes, and is passed on
abbrev pub echo_run : List Entry
echo_run = Dep Env 0 0 6 ∷ fires 0 (6 ∷ 6 ∷ []) (2 ∷ []) (6 ∷ []) ∷ []
