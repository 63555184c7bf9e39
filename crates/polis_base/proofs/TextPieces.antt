-- A text and its pieces.
use Rattle.std.proofs.Common.{◌≡◌, ℕ, Bool, true, false, not, ◌==◌, List, [], ◌∷◌, ◌++◌, refl, sym, ◌∙◌, ap}
use Rattle.std.specs.List.{list_all}
use Rattle.std.proofs.lemmas.Bool.{and_parts, eqb-true, eq-eqb, not-true}
use Rattle.std.proofs.lemmas.List.{append_assoc}
use Rattle.polis_base.specs.Pieces.{lacks, pieces, with_byte}

pub pieces_at : (mark : ℕ) (w rest : List ℕ) → lacks mark w ≡ true
    → pieces mark (w ++ mark ∷ rest) ≡ w ∷ pieces mark rest
pieces_at mark [] rest h = rw (eq-eqb mark mark refl) refl
pieces_at mark (c ∷ w) rest h =
    let parts = and_parts (not (c == mark)) _ h in
    rw (not-true _ parts.0, pieces_at mark w rest parts.1) refl

pub pieces_end : (mark : ℕ) (w : List ℕ) → lacks mark w ≡ true → pieces mark w ≡ w ∷ []
pieces_end mark [] h = refl
pieces_end mark (c ∷ w) h =
    let parts = and_parts (not (c == mark)) _ h in
    rw (not-true _ parts.0, pieces_end mark w parts.1) refl

-- the pieces with the mark between each two
abbrev pub joined_by : ℕ → List (List ℕ) → List ℕ
joined_by mark [] = []
joined_by mark (w ∷ []) = w
joined_by mark (w ∷ next ∷ ws) = w ++ mark ∷ joined_by mark (next ∷ ws)

-- words that lack the mark are the pieces of what they join to
pub pieces_of_joined : (mark : ℕ) (w : List ℕ) (ws : List (List ℕ)) → list_all (lacks mark) (w ∷ ws) ≡ true
    → pieces mark (joined_by mark (w ∷ ws)) ≡ w ∷ ws
pieces_of_joined mark w [] h = pieces_end mark w (and_parts (lacks mark w) _ h).0
pieces_of_joined mark w (next ∷ ws) h =
    let parts = and_parts (lacks mark w) _ h in
    pieces_at mark w (joined_by mark (next ∷ ws)) parts.0
    ∙ ap (λ ps. w ∷ ps) (pieces_of_joined mark next ws parts.1)

-- the pieces join to the text
with_byte_joined : (mark c : ℕ) (b : Bool) (w : List ℕ) (ws : List (List ℕ)) → (c == mark) ≡ b
    → joined_by mark (with_byte b c (w ∷ ws)) ≡ c ∷ joined_by mark (w ∷ ws)
with_byte_joined mark c true w ws e =
    let same = eqb-true c mark e in
    rw same refl
with_byte_joined mark c false w [] e = refl
with_byte_joined mark c false w (next ∷ ws) e = refl

-- there is always a piece
pub some_piece : (mark : ℕ) (text : List ℕ) → (w : List ℕ) × (ws : List (List ℕ)) × (pieces mark text ≡ w ∷ ws)
some_piece mark [] = ([], [], refl)
some_piece mark (c ∷ text) =
    let r = some_piece mark text in
    go (c == mark) r.0 r.1 (ap (with_byte (c == mark) c) r.2)
  where
    go : (b : Bool) (w : List ℕ) (ws : List (List ℕ))
        → with_byte (c == mark) c (pieces mark text) ≡ with_byte b c (w ∷ ws)
        → (v : List ℕ) × (vs : List (List ℕ)) × (with_byte (c == mark) c (pieces mark text) ≡ v ∷ vs)
    go true w ws e = ([], w ∷ ws, e)
    go false w ws e = (c ∷ w, ws, e)

pub joined_pieces : (mark : ℕ) (text : List ℕ) → joined_by mark (pieces mark text) ≡ text
joined_pieces mark [] = refl
joined_pieces mark (c ∷ text) =
    let r = some_piece mark text in
    let e = ap (λ ps. joined_by mark (with_byte (c == mark) c ps)) r.2 in
    let f = with_byte_joined mark c (c == mark) r.0 r.1 refl in
    let g : joined_by mark (r.0 ∷ r.1) ≡ text =
    ap (joined_by mark) (sym r.2) ∙ joined_pieces mark text in
    e ∙ f ∙ ap (λ t. c ∷ t) g

-- two lists of words, one after the other
pub joined_both : (mark : ℕ) (v : List ℕ) (vs : List (List ℕ)) (w : List ℕ) (ws : List (List ℕ))
    → joined_by mark ((v ∷ vs) ++ w ∷ ws)
    ≡ joined_by mark (v ∷ vs) ++ mark ∷ joined_by mark (w ∷ ws)
joined_both mark v [] w ws = refl
joined_both mark v (next ∷ vs) w ws =
    ap (λ t. v ++ mark ∷ t) (joined_both mark next vs w ws)
    ∙ sym (append_assoc v (mark ∷ joined_by mark (next ∷ vs)) (mark ∷ joined_by mark (w ∷ ws)))
