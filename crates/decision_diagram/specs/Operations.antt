-- What is done with two values, and with two nodes.
use Rattle.std.specs.Prelude.{◌≡◌, ◌≤◌, ℕ, Bool, ◌&&◌, ◌||◌, List, [], ◌∷◌, Some, min, IsTrue}
use Rattle.domains.specs.Tables.{fits}
use Rattle.decision_diagram.specs.declared.operation.Operation.{Operation}
use Rattle.decision_diagram.specs.declared.operation.Operation.TheVariants.{And, Or}
use Rattle.decision_diagram.specs.Diagrams.{Diagrams, IsNode, value_of, level_of}
use Rattle.polis_base.specs.Index.{Keyed, found}

abbrev pub combine : Operation → Bool → Bool → Bool
combine And x y = x && y
combine Or x y = x || y

-- n is what the operation makes of a and b
pub record IsResult (s : Diagrams) (op : Operation) (a b n : ℕ) : Type 0 where
  pub left : IsNode s a
  pub right : IsNode s b
  pub node : IsNode s n
  pub value : (codes : List ℕ) → IsTrue (fits s.sizes codes)
      → value_of s n codes ≡ combine op (value_of s a codes) (value_of s b codes)
  pub level : min (level_of s a) (level_of s b) ≤ level_of s n

-- what the index has for two nodes is what the operation makes of them
abbrev pub AreResults : Diagrams → Operation → Keyed → Type 0
AreResults s op index = (a b n : ℕ) → found index (a ∷ b ∷ []) ≡ Some n → IsResult s op a b n
