-- Facts of one thing after another, written in a row.

-- a fact, and then those of what comes after
infixr 20 ◌⨟◌
pub ◌⨟◌ : {A B : Type 0} → A → B → A × B
a ⨟ b = (a, b)
