-- A law of edges: a vertex more changes nothing.
use Rattle.std.specs.Prelude.{◌≡◌, Bool, not, if◌then◌else◌, ◌-ℤ◌, ◌*ℤ◌, ◌≤ℤ◌, ◌⊎◌}
use Rattle.lost_spec.specs.Ring.{Point, crosses}

-- m is on the line through a and b, at a latitude from that of the one to that of the other, both included
pub record IsOnEdge (a b m : Point) : Type 0 where
  pub between : ((a.lat ≤ℤ m.lat) × (m.lat ≤ℤ b.lat)) ⊎ ((b.lat ≤ℤ m.lat) × (m.lat ≤ℤ a.lat))
  pub on_line : (m.lon -ℤ a.lon) *ℤ (b.lat -ℤ a.lat) ≡ (b.lon -ℤ a.lon) *ℤ (m.lat -ℤ a.lat)

-- one of two, and not both
abbrev pub just_one : Bool → Bool → Bool
just_one s t = if s then not t else t

-- an edge crosses at p just where one of the two parts does into which a vertex on it cuts it
abbrev pub VertexOnAnEdgeChangesNothing : Type 0
VertexOnAnEdgeChangesNothing =
    (a b m p : Point) → IsOnEdge a b m → crosses (a, b) p ≡ just_one (crosses (a, m) p) (crosses (m, b) p)
