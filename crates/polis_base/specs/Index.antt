-- Numbers under keys that are lists of numbers.
use Rattle.std.specs.Prelude.{ℕ, List, Option}
use Rattle.std.specs.HashMap.{HashMap, get_by}
use Rattle.std.specs.Str.{bytes_eq}
use Rattle.std.specs.declared.alloc.Global.{Global}
use Rattle.std.specs.declared.hash.BuildHasherDefault.{BuildHasherDefault}
use Rattle.std.specs.declared.hash.FoldHasher.{FoldHasher}
use Rattle.std.specs.declared.vec.Vec.{Vec}

-- an `Index`: numbers under keys
abbrev pub Keyed : Type 0
Keyed = HashMap (Vec ℕ Global) ℕ (BuildHasherDefault FoldHasher)

-- the number under a key
abbrev pub found : Keyed → List ℕ → Option ℕ
found index key = get_by (λ k. bytes_eq key k.items) index
