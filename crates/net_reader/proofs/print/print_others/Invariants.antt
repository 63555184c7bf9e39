use Rattle.std.proofs.Common.{◌≡◌, ◌++◌, drop}
use Rattle.net_reader.specs.Layout.{others_text}
use Rattle.std.specs.List.{list_all}
use Rattle.net_reader.proofs.print.print_others.Given as goal

-- what is written, with what is left, is the whole; the items before are formed
abbrev pub invariant-loop-item : goal.invariant-loop-item
invariant-loop-item g l = record {
  text : l.out ++ others_text g.T.Print.text (drop l.item-index l.items)
      ≡ l.fn.out ++ others_text g.T.Print.text l.fn.items;
  formed : list_all g.T.Print.formed (drop l.item-index l.items)
      ≡ list_all g.T.Print.formed l.fn.items;
}
