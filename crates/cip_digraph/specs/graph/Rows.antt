-- A table of rows that are in one column, each with room for n edges, and filled from its end down. Own.
use Rattle.std.specs.Prelude.{◌≡◌, ◌<◌, ◌≤◌, ◌+◌, ◌-◌, ℕ, List, [], ◌∷◌, drop, filter, length, map, slice_index_or, slice_set, take}
use Rattle.cip_digraph.specs.declared.drawing.graph.Edge.{Edge}
use Rattle.cip_digraph.specs.declared.drawing.incidence.Span.{Span}
use Rattle.cip_digraph.specs.graph.Graph.{insert_up, touches}
use Rattle.cip_digraph.specs.graph.Incidence.{row}

-- the rows, and for how many edges each has room
pub record Table : Type 0 where
  pub rows : List (List Edge)
  pub rooms : List ℕ

abbrev pub row_in : List Edge → Span → List Edge
row_in column span = take (span.limit - span.first) (drop span.first column)

-- each row has the room from the limit of the one before it up to its own
abbrev pub rooms_in : ℕ → List Span → List ℕ
rooms_in from [] = []
rooms_in from (span ∷ spans) = (span.limit - from) ∷ rooms_in span.limit spans

abbrev pub table_of : List Edge → List Span → Table
table_of column spans = record { rows = map (row_in column) spans; rooms = rooms_in 0 spans }

-- a row begins at a place
pub record StandsFrom (from : ℕ) (span : Span) : Type 0 where
  pub above : from ≤ span.first
  pub kept : span.first ≤ span.limit

-- rows are one after the other, from one place up to another
abbrev pub AreLaid : ℕ → List Span → ℕ → Type 0
AreLaid from [] to = from ≤ to
AreLaid from (span ∷ spans) to = StandsFrom from span × AreLaid span.limit spans to

abbrev pub span_at : List Span → ℕ → Span
span_at spans vertex = slice_index_or spans vertex (record { first = 0; limit = 0 })

-- with one place more taken
abbrev pub wider : Span → Span
wider span = record { first = span.first - 1; limit = span.limit }

abbrev pub room_at : Table → ℕ → ℕ
room_at table vertex = slice_index_or table.rooms vertex 0

-- a row has room for a further edge
pub record HasRoom (table : Table) (vertex : ℕ) : Type 0 where
  pub within : vertex < length table.rows
  pub room : length (row table.rows vertex) < room_at table vertex

-- with a further edge in a row
abbrev pub with_edge : ℕ → Edge → Table → Table
with_edge vertex edge table = record {
  rows = slice_set table.rows vertex (insert_up vertex edge (row table.rows vertex));
  rooms = table.rooms;
}

-- an edge was put into a row whose first place was free, and nothing else was written
pub record IsPut (vertex : ℕ) (edge : Edge) (span : Span) (old new : List Edge) : Type 0 where
  pub len : length new ≡ length old
  pub below : take span.first new ≡ take span.first old
  pub here : row_in new span ≡ insert_up vertex edge (drop 1 (row_in old span))
  pub above : drop span.limit new ≡ drop span.limit old

-- as many as there are edges at each of n vertices
pub record AreRooms (vertices : ℕ) (edges : List Edge) (rooms : List ℕ) : Type 0 where
  pub len : length rooms ≡ vertices
  pub each : (vertex : ℕ) → vertex < vertices
      → slice_index_or rooms vertex 0 ≡ length (filter (touches vertex) edges)

-- where rows with that much room each are, which have no edges yet
abbrev pub spans_from : ℕ → List ℕ → List Span
spans_from from [] = []
spans_from from (room ∷ rooms) =
    record { first = from + room; limit = from + room } ∷ spans_from (from + room) rooms

-- after all of them
abbrev pub end_from : ℕ → List ℕ → ℕ
end_from from [] = from
end_from from (room ∷ rooms) = end_from (from + room) rooms
