use Rattle.commands.proofs.texts.other_texts.Goals as goal

pub returns : goal.returns
returns c = record {
  outputs = c.requires.outputs;
  listing = c.in_ok-listing.ensures;
  shown = c.in_ok-shown.ensures;
}
