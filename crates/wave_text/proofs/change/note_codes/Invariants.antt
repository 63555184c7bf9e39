use Rattle.std.proofs.Common.{◌≡◌, ℕ, ◌<◌, length, slice_index, take}
use Rattle.polis_base.specs.Lists.{last_of}
use Rattle.journals.specs.Journals.{emitted}
use Rattle.wave_text.specs.inner.Changing.{codes_emitted}
use Rattle.wave_text.proofs.change.note_codes.Given as goal

-- the outputs before this one are noted
abbrev pub invariant-loop-k : goal.invariant-loop-k
invariant-loop-k l =
    (length l.values ≡ length l.fn.values)
    × ((e : ℕ) → e < length l.fn.values
    → slice_index l.values e
    ≡ last_of (slice_index l.fn.values e)
    (codes_emitted e (emitted (take l.k l.outputs) (take l.k l.outs))))
