-- What a sink takes of a text.
use Rattle.std.specs.Prelude.{ℕ, ◌<◌, ◌≤◌, List, length, take, Option}
use Rattle.std.specs.Io.KnownBytes.{Appends}
use Rattle.gf_edges.specs.Edges.{Rose}

-- known bytes grow by a prefix of the text that is not all of it
abbrev pub AppendsPart : Option (List ℕ) → Option (List ℕ) → List ℕ → Type 0
AppendsPart old new text = (k : ℕ) × (k < length text) × Appends old new (take k text)

-- a sink is given a text: its known bytes grow by a prefix of the text, and by all of it where no fault was counted
pub record Receives {S : Type 0} (bytes : S → Option (List ℕ)) (faults : S → ℕ) (old new : S) (text : List ℕ) : Type 0 where
  pub prefix : (k : ℕ) × (k ≤ length text) × Appends (bytes old) (bytes new) (take k text)
  pub whole : (Rose (faults old) (faults new) → ⊥) → Appends (bytes old) (bytes new) text
