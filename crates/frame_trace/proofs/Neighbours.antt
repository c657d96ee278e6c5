-- A pixel and its neighbours.
use Rattle.std.proofs.Common.{◌≡◌, ℕ, suc, ◌+◌, ◌-◌, ◌<◌, ℤ, pos, ◌≤ℤ◌, ◌<ℤ◌, List, subst, arith}
use Rattle.fix_math.specs.Matrices.{row_at}
use Rattle.frame_trace.specs.Pictures.{View, IsPlain, IsNeighbour, IsEven, IsUneven, difference}
use Rattle.frame_trace.specs.Ready.{AreKept, IsAmid, IsKept, StandsAround}
use Rattle.frame_trace.specs.declared.format.Format.{Format}
use Rattle.frame_trace.specs.declared.rows.Rows.{Rows}
use Rattle.frame_trace.specs.declared.rows.Span.{Span}

-- what holds of the places on all four sides holds of each neighbour
pub each_side : (f : Format) (P : ℕ → ℕ → Type 0) (column row : ℕ) → ((c : ℕ) → c + 1 ≡ column → P c row) → ((r : ℕ) → r + 1 ≡ row → P column r)
    → (column + 1 < f.width → P (column + 1) row) → (row + 1 < f.height → P column (row + 1)) → (c r : ℕ) → IsNeighbour f column row c r → P c r
each_side f P column row left upper right lower c r (IsNeighbour.left column' row') = left c (omega arith)
each_side f P column row left upper right lower c r (IsNeighbour.upper column' row') = upper r (omega arith)
each_side f P column row left upper right lower c r (IsNeighbour.right column' row' inside) =
    let more : column + 1 ≡ suc column = omega arith in let Q : ℕ → Type 0 = λ n. P n row in subst Q more (right (omega arith))
each_side f P column row left upper right lower c r (IsNeighbour.lower column' row' inside) =
    let more : row + 1 ≡ suc row = omega arith in let Q : ℕ → Type 0 = λ n. P column n in subst Q more (lower (omega arith))

-- a kept colour by its column
pub kept_at : (v : View) (span : Span) (row column k : ℕ) (colours : List (List ℤ)) → AreKept v span row colours → k < span.count → span.from + k ≡ column → IsKept v column row (row_at colours k)
kept_at v span row column k colours kept below is = let Q : ℕ → Type 0 = λ n. IsKept v n row (row_at colours k) in subst Q is (kept k below)

-- a neighbour's plain colour that doesn't differ by more
abbrev pub IsNear : View → ℤ → List ℤ → ℕ → ℕ → Type 0
IsNear v threshold colour c r = (other : List ℤ) × IsPlain v c r other × (pos (difference colour other) ≤ℤ threshold)

near_at : (v : View) (threshold : ℤ) (colour : List ℤ) (span : Span) (row column k : ℕ) (colours : List (List ℤ)) → AreKept v span row colours → k < span.count → span.from + k ≡ column
    → pos (difference colour (row_at colours k)) ≤ℤ threshold → IsNear v threshold colour column row
near_at v threshold colour span row column k colours kept below is near = (row_at colours k, (kept_at v span row column k colours kept below is).plain, near)

-- where the tests of the four sides say that it is near, it is even
pub even_around : (v : View) (threshold : ℤ) (span : Span) (column row : ℕ) (rows : Rows) (colour : List ℤ) → IsAmid v.format span column → StandsAround v span row rows
    → (0 < column → pos (difference colour (row_at rows.here.items (column - span.from - 1))) ≤ℤ threshold)
    → (0 < row → pos (difference colour (row_at rows.above.items (column - span.from))) ≤ℤ threshold)
    → (column + 1 < v.format.width → pos (difference colour (row_at rows.here.items (column - span.from + 1))) ≤ℤ threshold)
    → (row + 1 < v.format.height → pos (difference colour (row_at rows.below.items (column - span.from))) ≤ℤ threshold)
    → IsEven v threshold column row colour
even_around v threshold span column row rows colour amid stands left upper right lower =
    each_side v.format (IsNear v threshold colour) column row
    (λ c h. let some : 0 < column = omega arith in let more = amid.further_left some in
    near_at v threshold colour span row c (column - span.from - 1) rows.here.items stands.here (omega (arith, amid.left, amid.right)) (omega (arith, amid.left)) (left some))
    (λ r h. let some : 0 < row = omega arith in
    near_at v threshold colour span r column (column - span.from) rows.above.items (stands.above r h) (omega (arith, amid.left, amid.right)) (omega (arith, amid.left)) (upper some))
    (λ h. let more = amid.further_right h in
    near_at v threshold colour span row (column + 1) (column - span.from + 1) rows.here.items stands.here (omega (arith, amid.left)) (omega (arith, amid.left)) (right h))
    (λ h. near_at v threshold colour span (row + 1) column (column - span.from) rows.below.items (stands.below h) (omega (arith, amid.left, amid.right)) (omega (arith, amid.left)) (lower h))

-- a neighbour that differs
pub uneven_beside : (v : View) (threshold : ℤ) (column row c r k : ℕ) (colour : List ℤ) (span : Span) (colours : List (List ℤ)) → IsNeighbour v.format column row c r
    → AreKept v span r colours → k < span.count → span.from + k ≡ c → threshold <ℤ pos (difference colour (row_at colours k)) → IsUneven v threshold column row colour
uneven_beside v threshold column row c r k colour span colours beside kept below is differs =
    record { c = c; r = r; beside = beside; other = row_at colours k; plain = (kept_at v span r c k colours kept below is).plain; differs = differs }

pub beside_left : (f : Format) (column row c : ℕ) → c + 1 ≡ column → IsNeighbour f column row c row
beside_left f column row c is = let more : suc c ≡ column = omega arith in let Q : ℕ → Type 0 = λ n. IsNeighbour f n row c row in subst Q more (IsNeighbour.left c row)

pub beside_upper : (f : Format) (column row r : ℕ) → r + 1 ≡ row → IsNeighbour f column row column r
beside_upper f column row r is = let more : suc r ≡ row = omega arith in let Q : ℕ → Type 0 = λ n. IsNeighbour f column n column r in subst Q more (IsNeighbour.upper column r)

pub beside_right : (f : Format) (column row : ℕ) → column + 1 < f.width → IsNeighbour f column row (column + 1) row
beside_right f column row h = let more : suc column ≡ column + 1 = omega arith in let Q : ℕ → Type 0 = λ n. IsNeighbour f column row n row in subst Q more (IsNeighbour.right column row (omega arith))

pub beside_lower : (f : Format) (column row : ℕ) → row + 1 < f.height → IsNeighbour f column row column (row + 1)
beside_lower f column row h = let more : suc row ≡ row + 1 = omega arith in let Q : ℕ → Type 0 = λ n. IsNeighbour f column row column n in subst Q more (IsNeighbour.lower column row (omega arith))
