use Rattle.char_function.proofs.root.characteristic.Goals as goal

pub returns : goal.returns
returns c =
    let made = c.in_ok-root.ensures in
    record {
      sizes = made.sizes;
      order = made.order;
      node = made.node;
      char = made.exact;
      size = made.size;
    }
