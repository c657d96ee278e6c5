-- Blocks of a picture, line by line.
use Rattle.std.proofs.Common.{ℕ, ◌+◌, ◌-◌, ◌*◌, ◌/◌, ◌%◌, ◌<◌, ◌≤◌, ◌≡◌, ◌≢◌, List, ◌++◌, length, sym, ◌∙◌, subst, inl, inr, ap, arith, slice_index, take, drop, length-take, length-drop, get_or-take, get_or-drop}
use Rattle.std.proofs.Math.Nat.{mul-le-mul_left, mod-lt, div-add-mod, mul_comm}
use Rattle.std.proofs.Math.Seq.{take-append_seam}
use Rattle.std.proofs.lemmas.Bool.{cases_lt}
use Rattle.std.proofs.lemmas.Nat.{same_from_place}
use Rattle.state_file.specs.Lines.{LaysLines}

pub line_below : (start stride line r q row : ℕ) → line ≤ stride → r < row → q < line → start + stride * r + q < start + stride * row
line_below start stride line r q row le lt hq =
    let lt' : r + 1 ≤ row = omega arith in
    let m : stride * (r + 1) ≤ stride * row = mul-le-mul_left stride lt' in
    omega arith

-- the last line ends within
pub line_end : (start stride line count row n : ℕ) → line ≤ stride → row < count → start + stride * count ≤ n + (stride - line)
    → start + stride * row + line ≤ n
line_end start stride line count row n le lt room =
    let lt' : row + 1 ≤ count = omega arith in
    let m : stride * (row + 1) ≤ stride * count = mul-le-mul_left stride lt' in
    omega arith

-- one line more
pub lines_more : (start stride line row : ℕ) (bytes part old now new : List ℕ) → line ≤ stride
    → ((q : ℕ) → q < line → slice_index new (start + stride * row + q) ≡ slice_index bytes (line * row + q))
    → ((k : ℕ) → k < start + stride * row → slice_index new k ≡ slice_index now k)
    → ((k : ℕ) → start + stride * row + line ≤ k → slice_index new k ≡ slice_index now k)
    → LaysLines start stride line row bytes old now → LaysLines start stride line (row + 1) bytes old new
lines_more start stride line row bytes part old now new le within below above s = record {
  lines = λ r q hr hq. elim (cases_lt r row) [
    | inl lt ↦ below (start + stride * r + q) (line_below start stride line r q row le lt hq) ∙ s.lines r q lt hq
    | inr ge ↦
        let e : row ≡ r = omega arith in
        subst (λ x. slice_index new (start + stride * x + q) ≡ slice_index bytes (line * x + q)) e (within q hq)
  ];
  others = λ k out.
      let far : (r q : ℕ) → r < row → q < line → k ≢ start + stride * r + q = λ r q hr hq. out r q (omega arith) hq in
      elim (cases_lt k (start + stride * row)) [
        | inl lt ↦ below k lt ∙ s.others k far
        | inr ge ↦ elim (cases_lt k (start + stride * row + line)) [
          | inl lt ↦
              let q : ℕ = k - (start + stride * row) in
              let hq : q < line = omega arith in
              let e : k ≡ start + stride * row + q = omega arith in
              let hr : row < row + 1 = omega arith in
              absurd (out row q hr hq e)
          | inr far' ↦ above k far' ∙ s.others k far
        ]
      ];
}

-- a part of a list
pub part_long : (a n : ℕ) (bytes : List ℕ) → a + n ≤ length bytes → length (take (a + n - a) (drop a bytes)) ≡ n
part_long a n bytes h = simp (length-take, length-drop) (omega arith)

pub part_at : (a n : ℕ) (bytes : List ℕ) → (q : ℕ) → q < n
    → slice_index (take (a + n - a) (drop a bytes)) q ≡ slice_index bytes (a + q)
part_at a n bytes q lt =
    let e : a + n - a ≡ n = omega arith in
    let t : slice_index (take n (drop a bytes)) q ≡ slice_index (drop a bytes) q = get_or-take n (drop a bytes) q 0 lt in
    ap (λ m. slice_index (take m (drop a bytes)) q) e ∙ t ∙ get_or-drop a bytes q 0

-- a line and the place in it, again
pub line_of : (line r q : ℕ) → q < line → ((line * r + q) / line ≡ r) × ((line * r + q) % line ≡ q)
line_of line r q lt =
    let k : ℕ = line * r + q in
    let some : 0 < line = omega arith in
    let m : k % line < line = mod-lt k some in
    let e : line * (k / line) + k % line ≡ k = div-add-mod k line in
    let e' : k / line * line + k % line ≡ r * line + q =
    ap (λ x. x + k % line) (mul_comm (k / line) line) ∙ e ∙ ap (λ x. x + q) (mul_comm line r) in
    same_from_place (k / line) (k % line) r q line m lt e'

-- rows that agree in a part agree at each of its places
pub cut_agree : (m n : ℕ) (a b : List ℕ) → take n (drop m a) ≡ take n (drop m b) → (k : ℕ) → m ≤ k → k < m + n
    → slice_index a k ≡ slice_index b k
cut_agree m n a b e k low high =
    let i : ℕ = k - m in
    let lt : i < n = omega arith in
    let back : m + i ≡ k = omega arith in
    let x : slice_index (take n (drop m a)) i ≡ slice_index a (m + i) = get_or-take n (drop m a) i 0 lt ∙ get_or-drop m a i 0 in
    let y : slice_index (take n (drop m b)) i ≡ slice_index b (m + i) = get_or-take n (drop m b) i 0 lt ∙ get_or-drop m b i 0 in
    ap (λ j. slice_index a j) (sym back) ∙ sym x ∙ ap (λ l. slice_index l i) e ∙ y ∙ ap (λ j. slice_index b j) back

-- the front that was written over is the front
pub front_is : (n : ℕ) (out rest : List ℕ) → length out ≡ n → take n (out ++ rest) ≡ out
front_is n out rest e = ap (λ m. take m (out ++ rest)) (sym e) ∙ take-append_seam out rest

-- all behind a place
pub tail_long : (a : ℕ) (bytes : List ℕ) → a ≤ length bytes → a + length (take (length bytes - a) (drop a bytes)) ≡ length bytes
tail_long a bytes h =
    let x : length (take (length bytes - a) (drop a bytes)) ≡ length bytes - a = simp (length-take, length-drop) (omega arith) in
    omega arith

pub tail_at : (a : ℕ) (bytes : List ℕ) (k : ℕ) → k < length (take (length bytes - a) (drop a bytes))
    → slice_index (take (length bytes - a) (drop a bytes)) k ≡ slice_index bytes (a + k)
tail_at a bytes k h =
    let lt : k < length bytes - a = omega (arith, length-take (length bytes - a) (drop a bytes)) in
    get_or-take (length bytes - a) (drop a bytes) k 0 lt ∙ get_or-drop a bytes k 0
