-- What contracts see of the shelves and sinks of this crate, and how their counts move.
use Rattle.std.specs.Prelude.{◌≡◌, ◌⊎◌, ℕ, ◌<◌, ◌-◌, min, Bool, List, length, Option, None, Some, Contains, Result, IsErr, IfOk}
use Rattle.gf_edges.specs.Edges.{Files, raised}

-- a shelf in memory: its files, what is left of the open one (None where nothing is open), the most that one read
-- gives, the numbers of the calls that fail, the calls so far and the faults so far
pub record ShelfState : Type 0 where
  pub files : Files
  pub left : Option (List ℕ)
  pub piece : ℕ
  pub failing : List ℕ
  pub calls : ℕ
  pub faults : ℕ

-- a sink in memory: the bytes that it took, the most that it holds, the most that one write takes, and the same of its
-- calls
pub record SinkState : Type 0 where
  pub bytes : List ℕ
  pub room : ℕ
  pub piece : ℕ
  pub failing : List ℕ
  pub calls : ℕ
  pub faults : ℕ

-- files that an opener gives: all of them where it tells, whether each of these opens, whether one is open, what is left
-- of that where it tells, and the faults so far
pub record FilesState : Type 0 where
  pub files : Option Files
  pub opens_all : Bool
  pub is_open : Bool
  pub left : Option (List ℕ)
  pub faults : ℕ

-- what is left of the open file, where it tells
abbrev pub left_of : {F : Type 0} → (F → Option (List ℕ)) → Option F → Option (List ℕ)
left_of remaining None = None
left_of remaining (Some file) = remaining file

-- a stream of the system: the bytes that it took, where they are told, and the faults so far
pub record StreamState : Type 0 where
  pub bytes : Option (List ℕ)
  pub faults : ℕ

-- the number of the next call is among those that fail
abbrev pub IsToFail : List ℕ → ℕ → Type 0
IsToFail failing calls = Contains failing (raised calls)

-- the count rises by one where P holds, and stays where it does not
pub record RisesWhere (P : Type 0) (before now : ℕ) : Type 0 where
  pub rises : P → now ≡ raised before
  pub stays : (P → ⊥) → now ≡ before

-- bytes are offered to a sink that is full
pub record IsStuck (sink : SinkState) (piece : List ℕ) : Type 0 where
  pub some : 0 < length piece
  pub full : length sink.bytes ≡ sink.room

-- a write failed, or took nothing of bytes that are not empty
abbrev pub IsFruitless : {E : Type 0} → Result ℕ E → List ℕ → Type 0
IsFruitless result piece = IsErr result ⊎ ((0 < length piece) × IfOk result (λ n. n ≡ 0))

-- how many bytes a read gives: the least of what is left, the buffer and the shelf's piece
abbrev pub given : List ℕ → List ℕ → ℕ → ℕ
given left buffer piece = min (min (length left) (length buffer)) piece

-- how many bytes a write takes: the least of what is offered, the sink's piece and the room that is left
abbrev pub taken : List ℕ → SinkState → ℕ
taken offered sink = min (min (length offered) sink.piece) (sink.room - length sink.bytes)
