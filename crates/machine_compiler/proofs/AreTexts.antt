-- The texts of the machines that are compiled so far.
use Rattle.std.proofs.Common.{◌≡◌, ◌∙◌, ℕ, ◌+◌, List, [], ◌∷◌, ◌++◌, codes, length, slice_get, Some, ap, sym, append_assoc}
use Rattle.std.proofs.lemmas.List.{append-nil}
use Rattle.polis_base.specs.Lines.{line}
use Rattle.transition_table.specs.declared.machine.Machine.{Machine}
use Rattle.transition_table.specs.declared.network.Network.{Network}
use Rattle.task_code.specs.Listings.{Part, part_text, parts_text}
use Rattle.machine_compiler.specs.Parts.{IsRightPart}
use Rattle.machine_compiler.specs.Lines.{lengths, lengths_line, side_by_side}
use Rattle.machine_compiler.specs.Texts.{AreTexts}
use Rattle.machine_compiler.specs.declared.texts.Texts.{Texts}
use Rattle.machine_compiler.proofs.Pairwise.{listing_pairs, one_more, side_pairs}
use Rattle.machine_compiler.proofs.PartsSoFar.{PartsSoFar, no_part, one_part, all_parts}

-- ---- the lines of lengths
-- these are the lines of the parts
abbrev AreLengths : Network → List Part → List ℕ → Type 0
AreLengths net parts sizes = sizes ≡ side_by_side lengths_line 0 net.machines parts

pub no_length : (net : Network) (sizes : List ℕ) → sizes ≡ [] → AreLengths net [] sizes
no_length net sizes none = none ∙ sym ((side_pairs lengths_line).no_part 0 net.machines)

pub one_length : (net : Network) (m : Machine) (qs : List Part) (q : Part) (sizes sizes' : List ℕ)
    → slice_get net.machines (length qs) ≡ Some m
    → AreLengths net qs sizes
    → sizes' ≡ sizes ++ line (lengths m q)
    → AreLengths net (qs ++ q ∷ []) sizes'
one_length net m qs q sizes sizes' at so_far wider =
    wider ∙ ap (λ (xs : List ℕ). xs ++ line (lengths m q)) so_far
    ∙ sym (one_more lengths_line (side_by_side lengths_line) (side_pairs lengths_line) 0
    net.machines m qs q at)

-- ---- the texts
-- these are the texts of the parts, without the last line of the listing
abbrev pub AreWritten : Network → List ℕ → List ℕ → List Part → Type 0
AreWritten net text sizes parts =
    (text ≡ line (codes "polis listing 1") ++ parts_text net net.machines parts)
    × AreLengths net parts sizes

pub nothing_written : (net : Network) (text sizes : List ℕ)
    → text ≡ line (codes "polis listing 1") → sizes ≡ []
    → PartsSoFar net 0 (AreWritten net text sizes)
nothing_written net text sizes begun none =
    no_part net (AreWritten net text sizes) (
      begun ∙ sym (append-nil (line (codes "polis listing 1")))
          ∙ ap (λ (xs : List ℕ). line (codes "polis listing 1") ++ xs)
          (sym ((listing_pairs net).no_part 0 net.machines)),
      no_length net sizes none,
    )

pub one_written : (net : Network) (k : ℕ) (text sizes text' sizes' : List ℕ) (m : Machine)
    (q : Part)
    → PartsSoFar net k (AreWritten net text sizes)
    → slice_get net.machines k ≡ Some m
    → IsRightPart m q
    → text' ≡ text ++ part_text net m q
    → sizes' ≡ sizes ++ line (lengths m q)
    → PartsSoFar net (k + 1) (AreWritten net text' sizes')
one_written net k text sizes text' sizes' m q so_far at right longer wider =
    let head = line (codes "polis listing 1") in
    one_part net k (AreWritten net text sizes) (AreWritten net text' sizes') m q so_far at right
    (λ qs here written. (
      longer ∙ ap (λ (xs : List ℕ). xs ++ part_text net m q) written.0
          ∙ append_assoc head (parts_text net net.machines qs) (part_text net m q)
          ∙ ap (λ (xs : List ℕ). head ++ xs)
          (sym (one_more (λ k m q. part_text net m q) (λ k ms qs. parts_text net ms qs)
          (listing_pairs net) 0 net.machines m qs q here)),
      one_length net m qs q sizes sizes' here written.1 wider,
    ))

pub all_written : (net : Network) (k : ℕ) (text sizes : List ℕ) (texts : Texts)
    → PartsSoFar net k (AreWritten net text sizes)
    → k ≡ length net.machines
    → texts.listing ≡ text ++ line (codes "end")
    → texts.lengths ≡ sizes
    → AreTexts net texts
all_written net k text sizes texts so_far all listed shown =
    let head = line (codes "polis listing 1") in
    let body = parts_text net net.machines so_far.parts in
    record {
      parts = so_far.parts;
      right = all_parts net k (AreWritten net text sizes) so_far all;
      listing = listed ∙ ap (λ (xs : List ℕ). xs ++ line (codes "end")) so_far.kept.0
          ∙ append_assoc head body (line (codes "end"));
      lengths = shown ∙ so_far.kept.1;
    }
